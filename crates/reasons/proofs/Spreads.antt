-- Laws on the tables that the lines are told from: the loops that fill them. Assumes nothing.
use Prim.Native.Nat.{ℕ, zero, suc, ◌+◌, ◌*◌, ◌-◌, ◌/◌, ◌%◌, ◌≤◌, ◌<◌}
use mathlib.Core.Path.{◌≡◌, refl, sym, ap, ◌∙◌}
use mathlib.Core.List.{List}
use native.Mathlib.Omega.{arith}
use lib.ListN.{length, get_or, set, drop, drop_of_length-le, length-set}
use Rattle.theory_basics.specs.Tests.{All}
use Rattle.theory_basics.specs.lemmas.Ranges.{sum_le, sum_most}
use Rattle.theory_basics.specs.lemmas.Tables.{all_from, at_set, below_next, drop_next}
use Rattle.job.specs.Job.{Within}
use Rattle.reasons.specs.lemmas.Tables.{SizesIn, Summed, first_layer, layers_in, next_layer, spread, up_to_layer}

-- ---- layers by marks

-- What is left from place q on gives the whole.
pub record Spreading (ids mark : List ℕ) (first : ℕ) (levels₀ levels : List ℕ) (q : ℕ) : Type 0 where
  pub low : first ≤ q
  pub high : q ≤ 500
  pub long : length levels ≡ 500
  pub left : spread (drop q ids) (drop q mark) levels ≡ spread (drop first ids) (drop first mark) levels₀

module _ (ids mark : List ℕ) (first : ℕ) (levels₀ : List ℕ) (within : first ≤ 500) (in_range_lem : All (Within 1 500) (drop first ids)) (ids_long : length ids ≡ 500) (mark-long : length mark ≡ 500) where
  pub spreading_start : length levels₀ ≡ 500 → Spreading ids mark first levels₀ levels₀ first
  spreading_start h = record { low = omega arith; high = within; long = h; left = refl }

  module _ (levels : List ℕ) (q : ℕ) (s : Spreading ids mark first levels₀ levels q) (l : q < 500) where
    pub chunk_in : Within 1 500 (get_or ids q 0)
    chunk_in = all_from (Within 1 500) ids first q in_range_lem s.low (omega arith)

    pub spreading_more : Spreading ids mark first levels₀ (set levels (get_or ids q 0 - 1) (layers_in (get_or mark q 0))) (q + 1)
    spreading_more =
        record {
          low = omega (arith, s.low);
          high = omega arith;
          long = length-set levels (get_or ids q 0 - 1) (layers_in (get_or mark q 0)) ∙ s.long;
          left = rw (drop_next ids q (omega arith), drop_next mark q (omega arith)) at s.left;
        }

  pub spreading_end : (levels : List ℕ) (q : ℕ) → Spreading ids mark first levels₀ levels q → 500 ≤ q → levels ≡ spread (drop first ids) (drop first mark) levels₀
  spreading_end levels q s h =
      let e : q ≡ 500 = omega (arith, s.high) in
      let none = done ids mark levels q ids_long (omega arith) in
      sym none ∙ s.left
    where
      done : (ids mark levels : List ℕ) (q : ℕ) → length ids ≡ 500 → 500 ≤ q → spread (drop q ids) (drop q mark) levels ≡ levels
      done ids mark levels q h l = let n : length ids ≤ q = omega arith in rw (drop_of_length-le ids n)

-- ---- sums

up_to_most : (table : List ℕ) → SizesIn table → (x : ℕ) → x < 2000 → up_to_layer table x ≤ 67108864
up_to_most table small x h =
    let most : ℕ → ℕ = λ n. 16777216 in
    omega (
      arith,
      sum_le (λ n. get_or table (x / 4 * 4 + n) 0) most (x % 4 + 1) (λ n l. small (x / 4 * 4 + n) (omega arith)),
      sum_most most 16777216 (x % 4 + 1) (λ n. omega arith),
    )

module _ (table : List ℕ) where
  pub summed_start : (sums : List ℕ) → length sums ≡ 2000 → Summed table 0 sums
  summed_start sums h = record { long = h; at = λ x l. absurd (omega arith) }

  module _ (sums : List ℕ) (i : ℕ) (s : Summed table i sums) (l : i < 2000) where
    pub sums_most : SizesIn table → 0 < i → get_or sums (i - 1) 0 ≤ 67108864
    sums_most small h = omega (arith, s.at (i - 1) (omega arith), up_to_most table small (i - 1) (omega arith))

    more : (v : ℕ) → v ≡ up_to_layer table i → Summed table (i + 1) (set sums i v)
    more v e =
        record {
          long = length-set sums i v ∙ s.long;
          at = λ x h.
              at_set (λ y. y ≡ up_to_layer table x) sums i v x (omega (arith, s.long)) (λ q. rw q e) (λ o. s.at x (below_next x i h o));
        }

    pub summed_first : i % 4 ≡ 0 → Summed table (i + 1) (set sums i (get_or table i 0))
    summed_first e = more (get_or table i 0) (sym (first_layer table i e))

    pub summed_next : (i % 4 ≡ 0 → ⊥) → Summed table (i + 1) (set sums i (get_or sums (i - 1) 0 + get_or table i 0))
    summed_next o =
        more (get_or sums (i - 1) 0 + get_or table i 0)
        (ap (λ (n : ℕ). n + get_or table i 0) (s.at (i - 1) (some i o)) ∙ sym (next_layer table i o))
      where
        pos : (i : ℕ) → (i ≡ 0 → ⊥) → i - 1 < i
        pos zero o = absurd (o refl)
        pos (suc i) o = omega arith

        some : (i : ℕ) → (i % 4 ≡ 0 → ⊥) → i - 1 < i
        some i o = pos i (λ e. o (rw e refl))
