-- From the plan's table and the bytes spent to the report that is handed over, or the job's
-- refusal. Assumes nothing.
use Prim.Native.Nat.{ℕ, ◌-◌, ◌≤◌}
use mathlib.Core.Path.{◌≡◌, sym, ap, subst, ◌∙◌}
use mathlib.Core.Bool.{Bool, true, false, cond}
use mathlib.Core.List.{List}
use native.Mathlib.Omega.{arith}
use lib.Dec.{T, eqb, eqb→eq}
use lib.ListN.{length, get_or}
use Rattle.theory_basics.specs.Sums.{sum}
use Rattle.theory_basics.specs.lemmas.Refusals.{or_else_none, or_else_some}
use Rattle.job.specs.Input.{JobInput, job_in, job_refusal}
use Rattle.job.specs.Theorems.{input_accepted}
use Rattle.job.specs.Job.{Accepted}
use Rattle.core_sizes.specs.Table.{sizes_table}
use Rattle.core_sizes.specs.lemmas.Table.{table_says}
use Rattle.job.specs.lemmas.Within.{size_most}
use Rattle.planner.specs.Answer.{plan_rows}
use Rattle.report.specs.Answer.{Answered, ReportPromise, plan_report_fits, plan_report, report_refusal, room_refusal}
use Rattle.report.specs.Report.{bytes_in_rows}
use Rattle.std.specs.Prelude.{Result, Ok, Err}
use Rattle.refusals.specs.declared.Refusal.{Refusal}
use Rattle.refusals.specs.Numbers.{by_number, number_of}
use Rattle.report.specs.lemmas.Tables.{SizesIn, Tabled, lines_by}
use Rattle.report.proofs.ByTable.{forecast_is, lines_are}

sent_case : (h : JobInput) (b : Bool) (n : ℕ) → cond b (Ok (bytes_in_rows (plan_rows (job_in h)))) (Err (job_refusal h)) ≡ Ok n → (b ≡ true) × (n ≡ bytes_in_rows (plan_rows (job_in h)))
sent_case h true n e = (cc, cc)
sent_case h false n e = let z : ◌≡◌ {A = ℕ} 0 1 = cc in absurd (omega arith)

unsent_case : (h : JobInput) (b : Bool) (n : ℕ) → cond b (Ok (bytes_in_rows (plan_rows (job_in h)))) (Err (job_refusal h)) ≡ Err n → (b ≡ false) × (n ≡ job_refusal h)
unsent_case h true n e = let z : ◌≡◌ {A = ℕ} 0 1 = cc in absurd (omega arith)
unsent_case h false n e = (cc, cc)

module _ {h : JobInput} {table : List ℕ} {r : Result ℕ Refusal} (t : Tabled h table r) where
  pub refused : {e : Refusal} {out : List ℕ} → r ≡ Err e → ReportPromise h out (Err e) out
  refused {e} {out} is =
      let u = unsent_case h (eqb (job_refusal h) 0) (number_of e) (sym t.spent ∙ ap by_number is) in
      let n : job_refusal h ≡ 0 → ⊥ = λ z. subst T u.0 (subst (λ (k : ℕ). T (eqb k 0)) (sym z) tt) in
      let f : report_refusal h out ≡ job_refusal h = or_else_some (job_refusal h) (room_refusal (plan_report (job_in h)) out) n in
      record { result = rw (f, u.0, u.1); buffer = rw (f, u.0) }

  module _ {n : ℕ} (e : r ≡ Ok n) where
    case : (eqb (job_refusal h) 0 ≡ true) × (n ≡ bytes_in_rows (plan_rows (job_in h)))
    case = sent_case h (eqb (job_refusal h) 0) n (sym t.spent ∙ ap by_number e)

    none : job_refusal h ≡ 0
    none = eqb→eq (job_refusal h) 0 (subst T (sym case.0) tt)

    accepted : Accepted (job_in h)
    accepted = input_accepted h none

    pub forecast_few : length h.forecast ≤ 5599
    forecast_few = omega (arith, accepted.slots_in, accepted.last_in)

    module _ {stored : List ℕ} (s : stored ≡ sizes_table (job_in h).sizes (job_in h).overrides) {left : ℕ} (f : left ≡ sum (λ k. get_or h.forecast k 0) (length h.forecast) - n) where
      lines_report : lines_by h.programme stored (length h.sizes) table n left ≡ plan_report (job_in h)
      unfolding plan_report
      lines_report = rw (f, s, case.1, forecast_is (job_in h) accepted.slots_in) (lines_are (job_in h) accepted (plan_rows (job_in h)) table (t.by_rows none))

      pub lines_asked :
          (length h.sizes ≤ 4) × (1 ≤ h.programme.chunks) × (h.programme.chunks ≤ 500) × (1 ≤ h.programme.span)
          × (length (lines_by h.programme stored (length h.sizes) table n left) ≤ 7633) × SizesIn stored
      lines_asked = (
        accepted.layers_in.high,
        accepted.chunks_in.low,
        accepted.chunks_in.high,
        accepted.span_in.low,
        rw lines_report (plan_report_fits (job_in h) accepted),
        λ i k. rw (s, table_says (job_in h) accepted i k) (size_most (job_in h) accepted i k),
      )

      pub reported : {old out : List ℕ} {w : Result ℕ Refusal} → Answered (lines_by h.programme stored (length h.sizes) table n left) old w out → ReportPromise h old w out
      reported {old} a =
          let b = rw lines_report at a in
          let g : report_refusal h old ≡ room_refusal (plan_report (job_in h)) old = or_else_none (job_refusal h) (room_refusal (plan_report (job_in h)) old) none in
          record { result = rw g b.result; buffer = rw g b.buffer }
