-- Theorems. Calls one after the other, as a desk makes them: what planning hands over, slice by
-- slice, passes the checker. Demand 3, "The plan's own list with its marks then passes the
-- checker", and request 12, "together with the handed rows they pass that call".
use Rattle.std.specs.Prelude.{ℕ, ◌+◌, ◌-◌, ◌≡◌, refl, List, [], ◌++◌, map, get_or, length, take}
use Rattle.std.proofs.Common.{sym, ap, ◌∙◌, arith, length-append}
use Rattle.std.proofs.lemmas.List.{map-append, length-map}
use Rattle.theory_basics.specs.Refusals.{◌or_else◌}
use Rattle.theory_basics.specs.lemmas.Refusals.{or_else_iff}
use Rattle.job.specs.Input.{JobInput, job_input, job_in, job_refusal}
use Rattle.job.specs.Theorems.{input_iff, input_accepted}
use Rattle.job.specs.Job.{Job, chunks}
use Rattle.fetch.specs.Input.{Whole, whole_iff, list_refusal}
use Rattle.fetch.specs.Rows.{Row, row_at, row_bytes, row_chunk, row_layer, row_slot, rows_of}
use Rattle.fetch.specs.Slices.{ListSlices, slices_of, slices_refusal}
use Rattle.fetch.specs.Verdict.{verdict}
use Rattle.fetch.specs.VerdictFrom.{slot_refusal, verdict_from}
use Rattle.checker.specs.Checked.{check_from_refusal, check_refusal}
use Rattle.planfile.specs.lemmas.Back.{field}
use Rattle.theory_plan.specs.Plan.{plan}
use Rattle.theory_plan.specs.Statement.{marks_of}
use Rattle.theory_plan.proofs.Theorems.{plan_carried, plan_exists, marks_long}
use Rattle.theory_plan.specs.lemmas.Words.{accepted_sized}
use Rattle.planner.specs.Answer.{plan_rows}
use Rattle.theory_search.specs.Search.{found, plan_over}
use Rattle.theory_search.proofs.Theorems.{found_is_found, good_enough, over_exists}
use Rattle.search.specs.Answer.{plan_found, rows_found}
use Rattle.most.specs.Promise.{Finds, rows_over}
use Rattle.theory_replan.specs.Refusal.{joined_accepted, replan_refusal_iff, replan_refusal}
use Rattle.replan.specs.Answer.{ReplanInput, fetched, input_refusal, job_on, plan_afresh, rows_on}
use Rattle.replan.specs.Theorems.{settled_afresh}
use Rattle.report.specs.lemmas.Again.{rows_again}
use Rattle.core_ffi.specs.Convention.{answered}
use Rattle.core_ffi.specs.Lists.{check_answer, check_from_answer}
use Rattle.fetch.proofs.Theorems.{verdict_iff, slot_iff}

-- ---- a list and its marks in slices

-- A choice's marks and some rows.
abbrev pub list_of : Job → (ℕ → ℕ) → List Row → ListSlices
list_of j choice rows = slices_of (marks_of j choice) (map row_slot rows) (map row_chunk rows) (map row_layer rows) (map row_bytes rows)

whole_list : (j : Job) (choice : ℕ → ℕ) (rows : List Row) → Whole (chunks j) (marks_of j choice) (map row_slot rows) (map row_chunk rows) (map row_layer rows) (map row_bytes rows)
whole_list j choice rows =
    record {
      byte_each = marks_long j choice;
      chunk_each = length-map rows row_slot ∙ sym (length-map rows row_chunk);
      layer_each = length-map rows row_slot ∙ sym (length-map rows row_layer);
      bytes_each = length-map rows row_slot ∙ sym (length-map rows row_bytes);
    }

passes_in_slices : (h : JobInput) (choice : ℕ → ℕ) (rows : List Row) → job_refusal h ≡ 0 → verdict (job_in h) (marks_of (job_in h) choice) rows ≡ 0 → check_answer h (list_of (job_in h) choice rows) ≡ 0
unfolding answered
passes_in_slices h choice rows e v =
    let j = job_in h in
    let s = list_of j choice rows in
    let fine : check_refusal h s ≡ 0 =
    (or_else_iff (job_refusal h) (slices_refusal (chunks j) s)).1 (e, (whole_iff (chunks j) s.marks s.slots s.chunks s.layers s.bytes).1 (whole_list j choice rows)) in
    rw fine (ap (verdict j (marks_of j choice)) (rows_again rows) ∙ v)

-- ---- film_plan, then film_check

pub plan_passes : (h : JobInput) → job_refusal h ≡ 0 → let j = job_in h in check_answer h (list_of j (plan j) (plan_rows j)) ≡ 0
plan_passes h e =
    let j = job_in h in
    let a = input_accepted h e in
    passes_in_slices h (plan j) (plan_rows j) e ((verdict_iff j (marks_of j (plan j)) (plan_rows j)).1 (plan_carried j (accepted_sized j a) (plan j) (plan_exists j a)).0)

-- ---- film_search, then film_check

pub search_passes : (h : JobInput) (budget : ℕ) → job_refusal h ≡ 0 → let j = job_in h in check_answer h (list_of j (plan_found j budget) (rows_found j budget)) ≡ 0
search_passes h budget e =
    let j = job_in h in
    let a = input_accepted h e in
    let good = good_enough j a budget (found j budget) (found_is_found j a budget) (plan_found j budget) (over_exists j a (found j budget).kept) in
    passes_in_slices h (plan_found j budget) (rows_found j budget) e ((verdict_iff j (marks_of j (plan_found j budget)) (rows_found j budget)).1 good.passes)

-- ---- film_most, then film_check

pub most_passes : (h : JobInput) (set : List ℕ) (bound : ℕ) → job_refusal h ≡ 0 → let j = job_in h in Finds j set bound → check_answer h (list_of j (plan_over j set) (rows_over j set)) ≡ 0
most_passes h set bound e f =
    let j = job_in h in
    passes_in_slices h (plan_over j set) (rows_over j set) e ((verdict_iff j (marks_of j (plan_over j set)) (rows_over j set)).1 f.shown.passes)

-- ---- film_replan, then film_check_from

-- The job on the joined forecast, "earlier slots keep the job's forecast", as it is handed to the
-- second call.
abbrev pub rejoined : JobInput → ReplanInput → JobInput
rejoined h o = job_input h.programme h.sizes h.size_chunks h.size_layers h.size_bytes (take (o.from - 1) h.forecast ++ o.onward)

module _ (h : JobInput) (o : ReplanInput) (e : input_refusal h o ≡ 0) where
  abbrev rows : List Row
  rows = rows_on h o

  abbrev marks : List ℕ
  marks = marks_of (job_on h o) (plan_afresh h o)

  parts : (job_refusal h ≡ 0) × (list_refusal 0 [] o.slots o.chunks o.layers o.bytes ≡ 0) × (replan_refusal (job_in h) o.from (fetched o) o.onward ≡ 0)
  parts =
      let eight : ℕ = list_refusal 0 [] o.slots o.chunks o.layers o.bytes in
      let own : ℕ = replan_refusal (job_in h) o.from (fetched o) o.onward in
      let a = (or_else_iff (job_refusal h) (eight or_else own)).0 e in
      let b = (or_else_iff eight own).0 a.1 in
      (a.0, b.0, b.1)

  whole : Whole 0 [] o.slots o.chunks o.layers o.bytes
  whole = (whole_iff 0 [] o.slots o.chunks o.layers o.bytes).0 parts.1

  -- A slice of the rows fetched and of those from p on is that of all rows.
  column : (f : Row → ℕ) (l : List ℕ) → ((k : ℕ) → f (row_at o.slots o.chunks o.layers o.bytes k) ≡ get_or l k 0) → length o.slots ≡ length l → l ++ map f rows ≡ map f (fetched o ++ rows)
  column f l each long =
      ap (λ (k : List ℕ). k ++ map f rows) (sym (field f (slices_of [] o.slots o.chunks o.layers o.bytes) l each long))
      ∙ sym (map-append f (fetched o) rows)

  all_rows : rows_of (o.slots ++ map row_slot rows) (o.chunks ++ map row_chunk rows) (o.layers ++ map row_layer rows) (o.bytes ++ map row_bytes rows) ≡ fetched o ++ rows
  all_rows =
      rw (column row_slot o.slots (λ k. refl) refl, column row_chunk o.chunks (λ k. refl) whole.chunk_each, column row_layer o.layers (λ k. refl) whole.layer_each, column row_bytes o.bytes (λ k. refl) whole.bytes_each)
      (rows_again (fetched o ++ rows))

  longer : (f : Row → ℕ) (l : List ℕ) → length (l ++ map f rows) ≡ length l + length rows
  longer f l = omega (arith, length-append l (map f rows), length-map rows f)

  -- The marks, and the rows fetched before those from p on.
  abbrev pub together : ListSlices
  together = slices_of marks (o.slots ++ map row_slot rows) (o.chunks ++ map row_chunk rows) (o.layers ++ map row_layer rows) (o.bytes ++ map row_bytes rows)

  not_refused : check_from_refusal (rejoined h o) o.from together ≡ 0
  not_refused =
      let fine = (input_iff h).0 parts.0 in
      let r = (replan_refusal_iff (job_in h) o.from (fetched o) o.onward).0 parts.2 in
      let job : job_refusal (rejoined h o) ≡ 0 = (input_iff (rejoined h o)).1 (fine.0, joined_accepted (job_in h) fine.1 o.from (fetched o) o.onward r) in
      let a = o.slots ++ map row_slot rows in
      let b = o.chunks ++ map row_chunk rows in
      let c = o.layers ++ map row_layer rows in
      let d = o.bytes ++ map row_bytes rows in
      let w : Whole (chunks (job_on h o)) marks a b c d = record {
        byte_each = marks_long (job_on h o) (plan_afresh h o);
        chunk_each = omega (arith, longer row_slot o.slots, longer row_chunk o.chunks, whole.chunk_each);
        layer_each = omega (arith, longer row_slot o.slots, longer row_layer o.layers, whole.layer_each);
        bytes_each = omega (arith, longer row_slot o.slots, longer row_bytes o.bytes, whole.bytes_each);
      } in
      let eight = (whole_iff (chunks (job_on h o)) marks a b c d).1 w in
      let slot = (slot_iff h.programme o.from).1 (record { low = r.acceptable.p_low; high = r.acceptable.p_high }) in
      (or_else_iff (check_refusal (rejoined h o) together) (slot_refusal h.programme o.from)).1
      ((or_else_iff (job_refusal (rejoined h o)) (slices_refusal (chunks (job_on h o)) together)).1 (job, eight), slot)

  pub afresh_passes : check_from_answer (rejoined h o) o.from together ≡ 0
  unfolding answered
  afresh_passes = rw not_refused (ap (verdict_from (job_on h o) o.from marks) all_rows ∙ (settled_afresh h o e).passes)
