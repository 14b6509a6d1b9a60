-- Theorems. "no result can be mistaken for" a refusal, call by call: the refusal that a caller
-- reads off the answer (Convention, refusalIn; the header's film_refused) is the call's own, and 0
-- where it has a result. Each result is below 2^32 by its bound in Theorems.
use Rattle.std.specs.Prelude.{ℕ, ◌≡◌, Bool, ◌&&◌, List, length, leb}
use Rattle.std.proofs.Common.{arith}
use Rattle.theory_basics.specs.Refusals.{◌or_else◌, unless}
use Rattle.theory_basics.specs.lemmas.Refusals.{or_else_iff}
use Rattle.job.specs.Input.{JobInput, job_in, job_refusal}
use Rattle.job.specs.Job.{chunks}
use Rattle.fetch.specs.Counts.{word_count}
use Rattle.jobrecords.specs.Refusal.{job_of_file, mixed, refusal_of}
use Rattle.jobrecords.specs.Reader.{job_read_refusal, room_refusal as jobRoomRefusal}
use Rattle.jobfile.specs.Writer.{job_file, long_refusal, short_refusal, write_refusal as jobWriteRefusal}
use Rattle.planfile.specs.Calls.{plan_of, plan_read_refusal, write_refusal as planWriteRefusal}
use Rattle.planfile.specs.PlanFile.{file_of, plan_in}
use Rattle.planfile.specs.Theorems.{rows_few}
use Rattle.planner.specs.Answer.{holds as holdsPlan, plan_refusal, plan_rows}
use Rattle.std.specs.declared.cmp.Ordering.{Ordering}
use Rattle.std.specs.declared.cmp.Ordering.TheVariants.{Less, Equal, Greater}
use Rattle.replan.specs.Answer.{ReplanInput, holds_on, input_refusal, refusal_on, rows_on}
use Rattle.search.specs.Answer.{holds_found, rows_found, search_refusal}
use Rattle.most.specs.Promise.{lent_room, most_refusal, rows_over}
use Rattle.live.specs.Answer.{LiveInput, PieceSlices, holds as holdsPieces, input_refusal as liveInputRefusal, pieces, refusal as live_refusal}
use Rattle.checker.specs.Checked.{check_from_refusal, check_refusal}
use Rattle.booking.specs.Answer.{book_refusal, release_refusal}
use Rattle.report.specs.Answer.{plan_report, report_refusal, room_refusal as reportRoomRefusal}
use Rattle.theory_reasons.specs.Lines.{plan_text}
use Rattle.reasons.specs.Answer.{refusal as reasonsRefusal}
use Rattle.trace.specs.Answer.{trace_read_refusal, write_refusal as traceWriteRefusal}
use Rattle.trace.specs.Trace.{trace_of, trace_refusal, unwritable_refusal}
use Rattle.wait.specs.Answer.{WaitInput, wait_refusal}
use Rattle.whole_files.specs.Calls.{with_room}
use Rattle.whole_files.specs.Files.{files_refusal, job_file_refusal, job_said, plan_of_job, verdict_of_files}
use Rattle.core_ffi.specs.Convention.{answered, never_mistaken, refusal_in}
use Rattle.core_ffi.specs.Asks.{pieces_asked}
use Rattle.core_ffi.specs.Files.{JobRoom, job_return_refusal}
use Rattle.core_ffi.specs.Lists.{check_answer, check_from_answer, count_refusal}
use Rattle.core_ffi.specs.Meters.{Storage, cells_refusal, meter_forecast_answer, mean_refusal, sampled_refusal}
use Rattle.core_ffi.specs.Plans.{order_number, with_counts, with_walk}
use Rattle.core_ffi.specs.Programs.{verdict_files_answer}
use Rattle.core_ffi.specs.Texts.{wait_answer}
use Rattle.core_ffi.specs.Theorems.{converted_small, files_small, forecast_made, job_read, job_written, plan_written, reasons_written, report_written, rows_afresh, rows_found_lem, rows_over_lem, rows_planned, trace_read}
use Rattle.fetch.specs.Slices.{ListSlices, RowSlices}
use Rattle.fetch.specs.Words.{word_few}
use Rattle.trace.specs.Theorems.{trace_fits}
use Rattle.core_ffi.specs.lemmas.Largest.{verdict_few, verdict_from_few}
use Rattle.wait.specs.Theorems.{wait_few}

none_first : (a b : ℕ) → (a or_else b) ≡ 0 → a ≡ 0
none_first a b e = ((or_else_iff a b).0 e).0

-- ---- files: film_read_job, film_read_mixed_job, film_write_job, film_read_plan, film_write_plan

pub job_read_refused :
    (sequenced : Bool) (file : List ℕ) (lent : JobRoom) →
    let refused = job_return_refusal sequenced file lent in
    refusal_in (answered refused (length (job_of_file sequenced file).forecast)) ≡ refused
job_read_refused sequenced file lent =
    never_mistaken (job_return_refusal sequenced file lent) (length (job_of_file sequenced file).forecast) 3600 (omega arith) (λ e.
    (job_read sequenced file (none_first (refusal_of sequenced file) (jobRoomRefusal (job_of_file sequenced file) lent.job)
    (none_first (job_read_refusal sequenced file lent.job) (unless 11 (leb 4 (length lent.programme) && leb 2 (length lent.lengths))) e))).slots)

pub job_write_refused : (h : JobInput) (out : List ℕ) → refusal_in (answered (jobWriteRefusal h (length out)) (length (job_file (job_in h)))) ≡ jobWriteRefusal h (length out)
job_write_refused h out =
    never_mistaken (jobWriteRefusal h (length out)) (length (job_file (job_in h))) 46800 (omega arith) (λ e.
    job_written h (none_first (job_refusal h) (long_refusal (job_in h) or_else short_refusal (job_in h) (length out)) e))

pub plan_read_refused : (h : JobInput) (file : List ℕ) (lent : ListSlices) → refusal_in (answered (plan_read_refusal h file lent) (length (plan_in (chunks (job_in h)) file).rows)) ≡ plan_read_refusal h file lent
plan_read_refused h file lent = never_mistaken (plan_read_refusal h file lent) _ 5957 (omega arith) (rows_few h file lent)

pub plan_write_refused : (h : JobInput) (slices : ListSlices) (out : List ℕ) → refusal_in (answered (planWriteRefusal h slices out) (length (file_of (plan_of slices)))) ≡ planWriteRefusal h slices out
plan_write_refused h slices out = never_mistaken (planWriteRefusal h slices out) _ 65536 (omega arith) (plan_written h slices out)

-- ---- plans: film_plan, film_replan, film_search, film_most, film_live

pub plan_refused :
    (h : JobInput) (lent : ListSlices) (counts : List ℕ) →
    let refused = with_counts (plan_refusal h lent) counts in refusal_in (answered refused (length (plan_rows (job_in h)))) ≡ refused
unfolding with_counts
plan_refused h lent counts =
    never_mistaken (with_counts (plan_refusal h lent) counts) (length (plan_rows (job_in h))) 5599 (omega arith) (λ e.
    rows_planned h (none_first (job_refusal h) (unless 11 (holdsPlan (job_in h) lent)) (none_first (plan_refusal h lent) (unless 11 (leb 4 (length counts))) e)))

pub replan_refused :
    (h : JobInput) (o : ReplanInput) (lent : ListSlices) (counts : List ℕ) →
    let refused = with_counts (refusal_on h o lent) counts in refusal_in (answered refused (length (rows_on h o))) ≡ refused
unfolding with_counts
replan_refused h o lent counts =
    never_mistaken (with_counts (refusal_on h o lent) counts) (length (rows_on h o)) 5599 (omega arith) (λ e.
    rows_afresh h o (none_first (input_refusal h o) (unless 11 (holds_on h o lent)) (none_first (refusal_on h o lent) (unless 11 (leb 4 (length counts))) e)))

pub search_refused :
    (h : JobInput) (budget : ℕ) (lent : ListSlices) (counts walk : List ℕ) →
    let refused = with_walk (search_refusal h budget lent) counts walk in refusal_in (answered refused (length (rows_found (job_in h) budget))) ≡ refused
unfolding with_walk
search_refused h budget lent counts walk =
    never_mistaken (with_walk (search_refusal h budget lent) counts walk) (length (rows_found (job_in h) budget)) 5599 (omega arith) (λ e.
    rows_found_lem h budget (none_first (job_refusal h) (unless 11 (holds_found (job_in h) budget lent))
    (none_first (search_refusal h budget lent) (unless 11 (leb 4 (length counts) && leb 3 (length walk))) e)))

pub most_refused_lem :
    (h : JobInput) (set : List ℕ) (lent : ListSlices) (work counts bounds : List ℕ) →
    let refused = with_walk (most_refusal h lent work) counts bounds in refusal_in (answered refused (length (rows_over (job_in h) set))) ≡ refused
unfolding with_walk
most_refused_lem h set lent work counts bounds =
    never_mistaken (with_walk (most_refusal h lent work) counts bounds) (length (rows_over (job_in h) set)) 5599 (omega arith) (λ e.
    rows_over_lem h set (none_first (job_refusal h) (unless 11 (lent_room (job_in h) lent work))
    (none_first (most_refusal h lent work) (unless 11 (leb 4 (length counts) && leb 3 (length bounds))) e)))

pub live_refused : (i : LiveInput) (l : PieceSlices) → refusal_in (answered (live_refusal i l) (length (pieces i))) ≡ live_refusal i l
live_refused i l =
    never_mistaken (live_refusal i l) (length (pieces i)) 2000 (omega arith) (λ e.
    pieces_asked i (none_first (liveInputRefusal i) (unless 11 (holdsPieces (pieces i) l)) e))

-- ---- lists: film_check, film_check_from, film_book, film_release, film_count_marks

pub check_refused : (h : JobInput) (s : ListSlices) → refusal_in (check_answer h s) ≡ check_refusal h s
check_refused h s = never_mistaken (check_refusal h s) _ 7 (omega arith) (λ e. verdict_few (job_in h) s.marks _)

pub check_from_refused : (h : JobInput) (from : ℕ) (s : ListSlices) → refusal_in (check_from_answer h from s) ≡ check_from_refusal h from s
check_from_refused h from s = never_mistaken (check_from_refusal h from s) _ 7 (omega arith) (λ e. verdict_from_few (job_in h) from s.marks _)

pub book_refused : (h : JobInput) (s : ListSlices) → refusal_in (answered (book_refusal h s) 0) ≡ book_refusal h s
book_refused h s = never_mistaken (book_refusal h s) 0 0 (omega arith) (λ e. omega arith)

pub release_refused : (h : JobInput) (s : RowSlices) → refusal_in (answered (release_refusal h s) 0) ≡ release_refusal h s
release_refused h s = never_mistaken (release_refusal h s) 0 0 (omega arith) (λ e. omega arith)

pub count_refused : (count : List ℕ) → refusal_in (answered (count_refusal count) 0) ≡ count_refusal count
count_refused count = never_mistaken (count_refusal count) 0 0 (omega arith) (λ e. omega arith)

-- film_count_word and film_compare never refuse.
pub word_unrefused : (word n : ℕ) → refusal_in (word_count word n) ≡ 0
word_unrefused word n = omega (arith, word_few word n)

pub compare_unrefused : (o : Ordering) → refusal_in (order_number o) ≡ 0
compare_unrefused Equal = omega arith
compare_unrefused Less = omega arith
compare_unrefused Greater = omega arith

-- ---- texts: film_report, film_reasons, film_read_trace, film_write_trace, film_wait

pub report_refused : (h : JobInput) (out : List ℕ) → refusal_in (answered (report_refusal h out) (length (plan_report (job_in h)))) ≡ report_refusal h out
report_refused h out =
    never_mistaken (report_refusal h out) (length (plan_report (job_in h))) 7633 (omega arith) (λ e.
    report_written h (none_first (job_refusal h) (reportRoomRefusal (plan_report (job_in h)) out) e))

pub reasons_refused : (h : JobInput) (out : List ℕ) → refusal_in (answered (reasonsRefusal h out) (length (plan_text (job_in h)))) ≡ reasonsRefusal h out
reasons_refused h out =
    never_mistaken (reasonsRefusal h out) (length (plan_text (job_in h))) 94000 (omega arith) (λ e.
    reasons_written h (none_first (job_refusal h) (unless 11 (leb (length (plan_text (job_in h))) (length out))) e))

pub trace_read_refused : (trace : List ℕ) (slots : ℕ) (forecast : List ℕ) → refusal_in (answered (trace_read_refusal trace slots (length forecast)) slots) ≡ trace_read_refusal trace slots (length forecast)
trace_read_refused trace slots forecast =
    never_mistaken (trace_read_refusal trace slots (length forecast)) slots 3600 (omega arith) (λ e.
    trace_read trace slots (none_first (trace_refusal slots trace) (unless 11 (leb slots (length forecast))) e))

pub trace_write_refused : (forecast out : List ℕ) → refusal_in (answered (traceWriteRefusal forecast (length out)) (length (trace_of forecast))) ≡ traceWriteRefusal forecast (length out)
trace_write_refused forecast out =
    never_mistaken (traceWriteRefusal forecast (length out)) (length (trace_of forecast)) 322099200 (omega arith) (λ e.
    trace_fits forecast (none_first (unwritable_refusal forecast) (unless 11 (leb (length (trace_of forecast)) (length out))) e))

pub wait_refused : (h : WaitInput) → refusal_in (wait_answer h) ≡ wait_refusal h
wait_refused h = never_mistaken (wait_refusal h) _ 3600 (omega arith) (wait_few h)

-- ---- the meter: film_meter_new, film_meter_take, film_meter_forecast

pub meter_new_refused : (s : Storage) → refusal_in (answered (cells_refusal s) 0) ≡ cells_refusal s
meter_new_refused s = never_mistaken (cells_refusal s) 0 0 (omega arith) (λ e. omega arith)

pub meter_take_refused : (s : Storage) (slot bytes : ℕ) → refusal_in (answered (sampled_refusal s slot bytes) 0) ≡ sampled_refusal s slot bytes
meter_take_refused s slot bytes = never_mistaken (sampled_refusal s slot bytes) 0 0 (omega arith) (λ e. omega arith)

pub meter_forecast_refused : (s : Storage) → refusal_in (meter_forecast_answer s) ≡ mean_refusal s
meter_forecast_refused s = never_mistaken (mean_refusal s) _ 16777216 (omega arith) (forecast_made s)

-- ---- whole files: film_plan_file, film_report_file, film_reasons_file, film_convert_file,
-- film_verdict_files

-- Each text in front of what the lent slice held.
module _ (job old : List ℕ) where
  abbrev refused_with : List ℕ → ℕ
  refused_with text = with_room (job_file_refusal job) text old

  not_refused : (text : List ℕ) → refused_with text ≡ 0 → job_file_refusal job ≡ 0
  not_refused text e = none_first (job_file_refusal job) (unless 11 (leb (length text) (length old))) e

  pub plan_file_refused :
      let text = file_of (plan_of_job (job_said job)) in refusal_in (answered (with_room (job_file_refusal job) text old) (length text)) ≡ with_room (job_file_refusal job) text old
  plan_file_refused =
      let text = file_of (plan_of_job (job_said job)) in
      never_mistaken (refused_with text) (length text) 64091 (omega arith) (λ e. (files_small job (not_refused text e)).plan_file)

  pub report_file_refused :
      let text = plan_report (job_said job) in refusal_in (answered (with_room (job_file_refusal job) text old) (length text)) ≡ with_room (job_file_refusal job) text old
  report_file_refused =
      let text = plan_report (job_said job) in
      never_mistaken (refused_with text) (length text) 7633 (omega arith) (λ e. (files_small job (not_refused text e)).report_text)

  pub reasons_file_refused :
      let text = plan_text (job_said job) in refusal_in (answered (with_room (job_file_refusal job) text old) (length text)) ≡ with_room (job_file_refusal job) text old
  reasons_file_refused =
      let text = plan_text (job_said job) in
      never_mistaken (refused_with text) (length text) 94000 (omega arith) (λ e. (files_small job (not_refused text e)).reasons_text)

  pub convert_file_refused :
      let text = job_file (job_of_file mixed job) in refusal_in (answered (with_room (refusal_of mixed job) text old) (length text)) ≡ with_room (refusal_of mixed job) text old
  convert_file_refused =
      let text = job_file (job_of_file mixed job) in
      never_mistaken (with_room (refusal_of mixed job) text old) (length text) 46800 (omega arith) (λ e.
      converted_small job (none_first (refusal_of mixed job) (unless 11 (leb (length text) (length old))) e))

pub verdict_files_refused : (job plan : List ℕ) → refusal_in (verdict_files_answer job plan) ≡ files_refusal job plan
verdict_files_refused job plan = never_mistaken (files_refusal job plan) (verdict_of_files job plan) 7 (omega arith) (λ e. verdict_few (job_said job) _ _)
