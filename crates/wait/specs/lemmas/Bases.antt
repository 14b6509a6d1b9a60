-- Lemmas. Of one job: the plan skips no base exactly if all chunks fit with their bases alone, and
-- so exactly if all bases can be carried, if some passing list in playing order carries them all,
-- and for equal chunks if some passing list in any order does.
use Rattle.std.specs.Prelude.{ℕ, ◌≤◌, ◌<◌, ◌≡◌, true, ◌↔◌}
use Rattle.std.proofs.Common.{arith}
use Rattle.theory_basics.specs.lemmas.Ranges.{sum_mono}
use Rattle.job.specs.Job.{Job, EqualChunks, chunks, due, held_most, layers, size}
use Rattle.theory_plan.specs.Plan.{after}
use Rattle.theory_plan.specs.Statement.{CanCarry, IsPlan, NoSkip}
pub use Rattle.theory_plan.proofs.AllBases.{AllFit, bases_alone, from, no_skip_iff}
use Rattle.theory_plan.proofs.AllBases.{can_carry_all_iff, fits_all_fit}
use Rattle.theory_plan.specs.lemmas.AnyOrder.{any_order_fit}
use Rattle.theory_plan.specs.lemmas.Choice.{can_carry_fits, chunk_bytes}
use Rattle.theory_plan.specs.lemmas.Kept.{feas_picked, picked_asc, picked_each}
use Rattle.theory_plan.specs.lemmas.Level.{level, level_choice, level_exactly}
use Rattle.theory_plan.specs.lemmas.Words.{Sized, bytes_of_chunk, layer_of}
use Rattle.wait.specs.Wait.{SomeList, SomeOrdered}

module _ (j : Job) (some : 0 < layers j) where
  -- ---- some list

  ordered_all_fit : Sized j → SomeOrdered j → AllFit j
  ordered_all_fit sized o =
      let l = o.rows in
      fits_all_fit j some (level j l)
      (λ i u v. (level_exactly j l o.passes i 0 (layer_of j i 0 u v some)).0 (o.every i u v))
      (can_carry_fits j sized (level j l) (level_choice j l) (record { rows = l; passes = o.passes; in_order = o.in_order; exactly = level_exactly j l o.passes }))

  can_carry_ordered : CanCarry j bases_alone → SomeOrdered j
  can_carry_ordered c = record { rows = c.rows; passes = c.passes; in_order = c.in_order; every = λ i u v. (c.exactly i 0 (layer_of j i 0 u v some)).1 (omega arith) }

  -- In any order: only here the chunks are equal, and only their bases.
  any_all_fit : EqualChunks j → SomeList j → AllFit j
  any_all_fit equal o =
      let l = o.rows in
      let lv = level j l in
      let z : ℕ = size j 1 0 in
      let same : (i : ℕ) → 1 ≤ i → i ≤ chunks j → size j i 0 ≡ z = λ i u v. equal i 1 0 (layer_of j i 0 u v some) (layer_of j 1 0 (omega arith) (omega arith) some) in
      let asc = picked_asc (λ i. true) 0 (chunks j) (chunks j) (omega arith) in
      let each =
      picked_each (λ i. true) (λ e. z ≤ bytes_of_chunk l e) 0 (chunks j) (λ i u v t.
      let b = chunk_bytes j l lv o.passes (level_choice j l) (level_exactly j l o.passes) i u (omega arith) in
      let g = (level_exactly j l o.passes i 0 (layer_of j i 0 u (omega arith) some)).0 (o.every i u (omega arith)) in
      omega (arith, same i u (omega arith), b, sum_mono (size j i) 1 (lv i) g)) in
      feas_picked (λ k. size j k 0) (λ k. z) (due j) (after j) (held_most j) (λ i. true) 0 (chunks j)
      (λ i u v t. omega (arith, same i u (omega arith)))
      (any_order_fit j l o.passes z (from 0 (chunks j)) asc each)

  ordered_iff : Sized j → SomeOrdered j ↔ AllFit j
  ordered_iff sized = (ordered_all_fit sized, λ f. can_carry_ordered ((can_carry_all_iff j some sized).1 f))

  any_iff : Sized j → EqualChunks j → SomeList j ↔ AllFit j
  any_iff sized equal = (
    any_all_fit equal,
    λ f. let o = (ordered_iff sized).1 f in record { rows = o.rows; passes = o.passes; every = o.every },
  )

  -- ---- the plan

  module _ (sized : Sized j) (p : ℕ → ℕ) (dec : IsPlan j p) where
    -- The plan skips no base exactly if all bases fit,
    skips : NoSkip j p ↔ AllFit j
    skips = no_skip_iff j some sized p dec

    -- exactly if all bases can be carried,
    pub no_skip_can_carry : NoSkip j p ↔ CanCarry j bases_alone
    no_skip_can_carry = let c = can_carry_all_iff j some sized in (λ n. c.1 (skips.0 n), λ x. skips.1 (c.0 x))

    -- exactly if some passing list in playing order carries every base,
    pub no_skip_ordered : NoSkip j p ↔ SomeOrdered j
    no_skip_ordered = let o = ordered_iff sized in (λ n. o.1 (skips.0 n), λ x. skips.1 (o.0 x))

    -- and for equal chunks exactly if some passing list in any order does.
    pub no_skip_any : EqualChunks j → NoSkip j p ↔ SomeList j
    no_skip_any equal = let o = any_iff sized equal in (λ n. o.1 (skips.0 n), λ x. skips.1 (o.0 x))
