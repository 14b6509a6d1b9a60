-- What a call of the planner with room for any plan leaves in the slices: the plan's own list, in
-- front. Assumes nothing.
use Prim.Native.Nat.{ℕ, ◌≤◌}
use mathlib.Core.Path.{◌≡◌, refl, sym, ap, subst, ◌∙◌}
use mathlib.Core.Bool.{Bool, true, false, cond}
use mathlib.Core.List.{List, map}
use mathlib.Core.Logic.{⊎_elim}
use native.Mathlib.Omega.{arith}
use lib.Dec.{T, eqb, eqb→eq}
use lib.ListN.{length, get_or, take, drop, length-append, length-map, replicate, length-replicate}
use lib.Seq.{take_at, length-take-le}
use borrow.Author.Tests.{eq-eqb, le-leb, ne_eqb}
use Rattle.theory_basics.specs.Lent.{over}
use Rattle.theory_basics.specs.Sums.{sum}
use Rattle.theory_basics.specs.lemmas.Refusals.{or_else_some}
use Rattle.theory_basics.specs.lemmas.Tests.{test, neqb_ne}
use Rattle.theory_basics.specs.Refusals.{unless}
use Rattle.job.specs.Input.{JobInput, job_in, job_refusal}
use Rattle.job.specs.Theorems.{input_accepted}
use Rattle.job.specs.Job.{Accepted, chunks}
use Rattle.fetch.specs.Rows.{Row, rows_of, row_slot, row_chunk, row_layer, row_bytes}
use Rattle.fetch.specs.Slices.{ListSlices, slices_of}
use Rattle.planner.specs.Answer.{PlanOutput, holds, plan_numbers, plan_refusal, plan_rows, slice_after}
use Rattle.refusals.specs.declared.Refusal.{Refusal}
use Rattle.refusals.specs.Numbers.{answered, by_number, number_of}
use Rattle.planner.specs.declared.Planned.{Planned}
use Rattle.std.specs.Prelude.{Result, Ok, Err}
use Rattle.report.specs.lemmas.Tables.{Rows, Summed, Tabled}
use Rattle.report.specs.lemmas.Again.{rows_again}
use Rattle.report.proofs.Own.{own_rows, spent_again}
use Rattle.theory_plan.proofs.PlanRows.{plan_rows_few}

-- The slices that the report lends: zeros.
abbrev pub zeros : ℕ → List ℕ
zeros n = replicate n 0

abbrev room : ListSlices
room = slices_of (zeros 500) (zeros 5599) (zeros 5599) (zeros 5599) (zeros 5599)

-- ---- what the call answers: the rows, or the job's refusal

module _ (h : JobInput) where
  -- They have room for any plan.
  is_given : job_refusal h ≡ 0 → plan_refusal h room ≡ 0
  is_given ok =
      let a : Accepted (job_in h) = input_accepted h ok in
      let n = length (plan_rows (job_in h)) in
      let rows = le-leb n (length (zeros 5599)) (omega (arith, plan_rows_few (job_in h) a, length-replicate {A = ℕ} 5599 0)) in
      rw (ok, le-leb (chunks (job_in h)) (length (zeros 500)) (omega (arith, a.chunks_in.high, length-replicate {A = ℕ} 500 0)), rows)

  refusal_is : plan_refusal h room ≡ job_refusal h
  refusal_is =
      ⊎_elim
      (λ t. let z : job_refusal h ≡ 0 = eqb→eq (job_refusal h) 0 t in is_given z ∙ sym z)
      (λ t. or_else_some (job_refusal h) (unless 11 (holds (job_in h) room)) (neqb_ne (job_refusal h) 0 t))
      (test (eqb (job_refusal h) 0))

  rows_case : (b : Bool) (made : Planned) → cond b (Ok (plan_numbers (job_in h))) (Err (job_refusal h)) ≡ Ok made → (b ≡ true) × (made.rows ≡ length (plan_rows (job_in h)))
  rows_case true made e = let z : plan_numbers (job_in h) ≡ made = cc in (refl, sym (ap (λ (m : Planned). m.rows) z))
  rows_case false made e = let z : ◌≡◌ {A = ℕ} 0 1 = cc in absurd (omega arith)

  refused_case : (b : Bool) (n : ℕ) → cond b (Ok (plan_numbers (job_in h))) (Err (job_refusal h)) ≡ Err n → (b ≡ false) × (n ≡ job_refusal h)
  refused_case true n e = let z : ◌≡◌ {A = ℕ} 0 1 = cc in absurd (omega arith)
  refused_case false n e = (cc, cc)

module _ {h : JobInput} {r : Result Planned Refusal} {m s c l b : List ℕ} (p : PlanOutput h (slices_of (zeros 500) (zeros 5599) (zeros 5599) (zeros 5599) (zeros 5599)) r (slices_of m s c l b)) where
  is_answered : by_number r ≡ answered (job_refusal h) (plan_numbers (job_in h))
  is_answered = p.answer ∙ ap (λ (n : ℕ). answered n (plan_numbers (job_in h))) (refusal_is h)

  pub answered_rows : {made : Planned} → r ≡ Ok made → (job_refusal h ≡ 0) × (made.rows ≡ length (plan_rows (job_in h)))
  answered_rows {made} e =
      let u = rows_case h (eqb (job_refusal h) 0) made (sym is_answered ∙ ap by_number e) in
      (eqb→eq (job_refusal h) 0 (subst T (sym u.0) tt), u.1)

  pub answered_refused : {e : Refusal} {table : List ℕ} → r ≡ Err e → Tabled h table (Err e)
  answered_refused {e} is =
      let u = refused_case h (eqb (job_refusal h) 0) (number_of e) (sym is_answered ∙ ap by_number is) in
      record { spent = rw (u.0, u.1); by_rows = λ z. absurd (subst T (sym (eq-eqb (job_refusal h) 0 z) ∙ u.0) tt) }

-- ---- what it leaves in the slices

-- The first n of a slice are a column of the plan's rows.
pub record Column (result : List ℕ) (n : ℕ) (s : List ℕ) : Type 0 where
  pub fits : n ≤ length s
  pub is : take n s ≡ result

-- They have that length.
pub column_length : {result : List ℕ} {n : ℕ} {s : List ℕ} → Column result n s → n ≡ length (take n s)
column_length {result} {n} {s} c = sym (length-take-le n s c.fits)

front : (result old : List ℕ) (n : ℕ) (s : List ℕ) → n ≡ length result → s ≡ over result old → Column result n s
front result old n s e f = record {
  fits = omega (arith, ap length f, length-append result (drop (length result) old));
  is = rw f (take_at result (drop (length result) old) n (sym e));
}

-- The four columns of an accepted job's plan.
pub record Made (h : JobInput) (n : ℕ) (slots cs layers bytes : List ℕ) : Type 0 where
  pub none : job_refusal h ≡ 0
  pub slots_are : Column (map row_slot (plan_rows (job_in h))) n slots
  pub chunks_are : Column (map row_chunk (plan_rows (job_in h))) n cs
  pub layers_are : Column (map row_layer (plan_rows (job_in h))) n layers
  pub bytes_are : Column (map row_bytes (plan_rows (job_in h))) n bytes

pub made_columns :
    {h : JobInput} {r : Result Planned Refusal} {m s c l b : List ℕ} → PlanOutput h (slices_of (zeros 500) (zeros 5599) (zeros 5599) (zeros 5599) (zeros 5599)) r (slices_of m s c l b) →
    {made : Planned} → r ≡ Ok made → Made h made.rows s c l b
made_columns {h} p {made} e =
    let n = made.rows in
    let rows = plan_rows (job_in h) in
    let u = answered_rows p e in
    let over-it : (result old : List ℕ) → slice_after h room result old ≡ over result old = λ result old. rw (is_given h u.0) in
    record {
      none = u.0;
      slots_are = front (map row_slot rows) (zeros 5599) n _ (u.1 ∙ sym (length-map rows row_slot)) (p.slots_are ∙ over-it (map row_slot rows) (zeros 5599));
      chunks_are = front (map row_chunk rows) (zeros 5599) n _ (u.1 ∙ sym (length-map rows row_chunk)) (p.chunks_are ∙ over-it (map row_chunk rows) (zeros 5599));
      layers_are = front (map row_layer rows) (zeros 5599) n _ (u.1 ∙ sym (length-map rows row_layer)) (p.layers_are ∙ over-it (map row_layer rows) (zeros 5599));
      bytes_are = front (map row_bytes rows) (zeros 5599) n _ (u.1 ∙ sym (length-map rows row_bytes)) (p.bytes_are ∙ over-it (map row_bytes rows) (zeros 5599));
    }

module _ {h : JobInput} {n : ℕ} {ss cs ls bs : List ℕ} (c : Made h n ss cs ls bs) where
  pub made_rows : Rows (take n ss) (take n cs) (take n ls) (take n bs)
  made_rows = rw (c.slots_are.is, c.chunks_are.is, c.layers_are.is, c.bytes_are.is) (own_rows (input_accepted h c.none))

  pub made_few : length (take n bs) ≤ 5599
  made_few = omega (arith, made_rows.few, made_rows.bytes_each)

  pub made_tabled :
      {table : List ℕ} {spent : ℕ} → Summed (rows_of (take n ss) (take n cs) (take n ls) (take n bs)) table →
      spent ≡ sum (λ k. get_or (take n bs) k 0) (length (take n bs)) → Tabled h table (Ok spent)
  made_tabled {table} s e =
      let rows = plan_rows (job_in h) in
      let spent_is = rw c.bytes_are.is at e ∙ spent_again rows in
      record {
        spent = rw (eq-eqb (job_refusal h) 0 c.none, spent_is);
        by_rows = λ z. subst (λ (l : List Row). Summed l table) (rows_again rows) (rw (c.slots_are.is, c.chunks_are.is, c.layers_are.is, c.bytes_are.is) at s);
      }
