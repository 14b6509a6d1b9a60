-- Lemmas. Where the limit holds the whole programme a choice fits exactly if each prefix of the
-- programme does, and every passing list, in any order, obeys that. Section 5 (d) of the argument.
use Rattle.std.specs.Prelude.{ℕ, zero, suc, ◌+◌, ◌≤◌, ◌<◌, Bool, List, ◌∷◌, leb, eqb}
use Rattle.std.proofs.Common.{arith, leb→le}
use Rattle.theory_basics.specs.Sums.{pre}
use Rattle.theory_basics.specs.lemmas.Tests.{at_row, by_cond, tests}
use Rattle.fetch.specs.Rows.{Row, bytes_if}
use Rattle.fetch.specs.Rules.{RowInRange, OnTime, Passes}
use Rattle.job.specs.Job.{HoldsAll, Job, chunks, due, held_most}
use Rattle.theory_plan.specs.lemmas.Choice.{Fits, chunk_bytes}
use Rattle.theory_plan.specs.Plan.{bytes, kept, picked, after}
use Rattle.theory_plan.specs.lemmas.Feasible.{need_of}
use Rattle.theory_plan.specs.lemmas.Count.{bytes_disjoint}
use Rattle.theory_plan.specs.lemmas.Kept.{length_picked_le}
use Rattle.theory_plan.specs.lemmas.Necessity.{within_between}
use Rattle.theory_plan.specs.lemmas.Need.{tails_few}
use Rattle.theory_plan.specs.Statement.{CarriesExactly, Choice}
use Rattle.theory_plan.specs.lemmas.Words.{bytes_of_chunk, due_mono}

-- The bytes of the chunks up to b fit into the slots up to the due slot of b.
abbrev pub Prefixes : Job → (ℕ → ℕ) → Type 0
Prefixes j lv = (b : ℕ) → 1 ≤ b → b ≤ chunks j → pre (bytes j lv) b + after j (due j b) ≤ after j 0

rows_to_next :
    (l : List Row) (b : ℕ) → bytes_if (λ x. leb x.chunk b) l + bytes_of_chunk l (suc b) ≤ bytes_if (λ x. leb x.chunk (suc b)) l
rows_to_next l b =
    bytes_disjoint
    (λ x. leb x.chunk b)
    (λ x. eqb x.chunk (suc b))
    (λ x. leb x.chunk (suc b))
    (λ x t. let u = simp tests at t in simp tests (omega arith))
    (λ x t. let u = simp tests at t in simp tests (omega arith))
    (λ x t v. let u = simp tests at t in let u' = simp tests at v in omega arith)
    l

-- A passing list, in any order.
pub list_prefixes : (j : Job) (l : List Row) (lv : ℕ → ℕ) → Passes j l → Choice j lv → CarriesExactly j l lv → Prefixes j lv
list_prefixes j l lv ok c a b g h =
    omega (
      arith,
      bytes_to_lem b h,
      within_between j l ok (λ x. leb x.chunk b) 0 (due j b) (omega arith) (due_mono j b (chunks j) h) (λ x i t.
          let u : x.chunk ≤ b = leb→le x.chunk b t in
          ((at_row (RowInRange j) i ok.in_range_lem).slot_low, omega (arith, at_row (OnTime j) i ok.on_time_lem, due_mono j x.chunk b u))),
    )
  where
    bytes_to_lem : (b : ℕ) → b ≤ chunks j → pre (bytes j lv) b ≤ bytes_if (λ x. leb x.chunk b) l
    bytes_to_lem zero h = omega arith
    bytes_to_lem (suc b) h = omega (arith, bytes_to_lem b (omega arith), rows_to_next l b, chunk_bytes j l lv ok c a (suc b) (omega arith) h)

-- The need of the picked chunks is bounded by the prefixes.
prefix_need :
    (w d A : ℕ → ℕ) (p : ℕ → Bool) (x c lo m : ℕ) → c ≤ x → c ≤ pre w lo → ((b : ℕ) → lo < b → b ≤ m + lo → pre w b + A (d b) ≤ x) →
    c + need_of w d A (picked p lo m) ≤ x
prefix_need w d A p x c lo zero h g f = omega arith
prefix_need w d A p x c lo (suc m) h g f =
    let s = f (suc lo) (omega arith) (omega arith) in
    by_cond
    (λ (ks : List ℕ). c + need_of w d A ks ≤ x)
    (p (suc lo))
    {x = suc lo ∷ picked p (suc lo) m}
    {y = picked p (suc lo) m}
    (λ t. omega (arith, s, prefix_need w d A p x (c + w (suc lo)) (suc lo) m (omega arith) (omega arith) (λ b u v. f b (omega arith) (omega arith))))
    (λ t. prefix_need w d A p x c (suc lo) m h (omega arith) (λ b u v. f b (omega arith) (omega arith)))

pub prefixes_fit : (j : Job) (lv : ℕ → ℕ) → HoldsAll j → Prefixes j lv → Fits j lv
prefixes_fit j lv h f =
    record {
      whole = omega (arith, prefix_need (bytes j lv) (due j) (after j) (λ i. leb 1 (lv i)) (after j 0) 0 0 (chunks j) (omega arith) (omega arith) (λ b u v. f b u (omega arith)));
      tails = tails_few (bytes j lv) (due j) (after j) (held_most j) (kept j lv) (omega (arith, length_picked_le (λ i. leb 1 (lv i)) 0 (chunks j)));
    }
