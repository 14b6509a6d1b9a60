-- Laws on the tables that every s shares: what the forecast brings up to each slot, and the base of
-- each chunk. Assumes nothing.
use Prim.Native.Nat.{ℕ, suc, ◌+◌, ◌*◌, ◌-◌, ◌≤◌, ◌<◌}
use mathlib.Core.Path.{◌≡◌, refl, ◌∙◌, subst}
use mathlib.Core.List.{List}
use native.Mathlib.Omega.{arith}
use native.Mathlib.Numerals.{add-one}
use lib.ListN.{length, get_or, set, length-set}
use lib.Seq.{get_or-set_same}
use Rattle.theory_basics.specs.lemmas.Tables.{at_set, below_next}
use Rattle.core_sizes.specs.Table.{table_at}
use Rattle.theory_plan.specs.lemmas.Parts.{Small}
use Rattle.wait.specs.lemmas.Scan.{brought}
use Rattle.wait.specs.lemmas.Table.{BaseTable, SumTable}

-- ---- the sums

pub record Summing (f sums : List ℕ) (sum t : ℕ) : Type 0 where
  pub inside : t ≤ length f
  pub long : length sums ≡ 3601
  pub is : sum ≡ brought f t
  pub small : sum ≤ 16777216 * t
  pub table : (k : ℕ) → k < t + 1 → get_or sums k 0 ≡ brought f k

pub summing_start : (f sums : List ℕ) → length sums ≡ 3601 → Summing f (set sums 0 0) 0 0
summing_start f sums h =
    record {
      inside = omega arith;
      long = length-set sums 0 0 ∙ h;
      is = refl;
      small = omega arith;
      table = λ k l. let e : k ≡ 0 = omega arith in rw e (get_or-set_same sums 0 0 0 (omega arith));
    }

module _ (f sums : List ℕ) (sum t : ℕ) (s : Summing f sums sum t) where
  pub summing_more :
      t < length f → length f ≤ 3600 → Small f → Summing f (set sums (t + 1) (sum + get_or f t 0)) (sum + get_or f t 0) (t + 1)
  summing_more h few bytes =
      let e : suc t - 1 ≡ t = omega arith in
      let step : brought f (suc t) ≡ brought f t + get_or f t 0 = rw e in
      let new : sum + get_or f t 0 ≡ brought f (t + 1) = rw (add-one t) (omega (arith, s.is, step)) in
      record {
        inside = omega arith;
        long = length-set sums (t + 1) (sum + get_or f t 0) ∙ s.long;
        is = new;
        small = omega (arith, s.small, bytes t);
        table = λ k l.
            at_set (λ x. x ≡ brought f k) sums (t + 1) (sum + get_or f t 0) k (omega (arith, s.long))
            (λ q. rw q new)
            (λ o. s.table k (below_next k (t + 1) l o));
      }

  pub summing_end : length f ≤ t → SumTable f sums
  summing_end h = record { is = λ k l. s.table k (omega arith) }

-- ---- the bases

pub record Based (chunks : ℕ) (stored bases : List ℕ) (i : ℕ) : Type 0 where
  pub inside : i ≤ chunks
  pub long : length bases ≡ 500
  pub table : BaseTable i stored bases

pub based_start : (chunks : ℕ) (stored bases : List ℕ) → length bases ≡ 500 → Based chunks stored bases 0
based_start chunks stored bases h = record { inside = omega arith; long = h; table = λ i l u. absurd (omega arith) }

module _ (chunks : ℕ) (stored bases : List ℕ) (i : ℕ) (b : Based chunks stored bases i) where
  pub based_more : i < chunks → chunks ≤ 500 → Based chunks stored (set bases i (table_at stored (i + 1) 0)) (i + 1)
  based_more h few =
      record {
        inside = omega arith;
        long = length-set bases i (table_at stored (i + 1) 0) ∙ b.long;
        table = λ k l u.
            at_set (λ x. x ≡ table_at stored k 0) bases i (table_at stored (i + 1) 0) (k - 1) (omega (arith, b.long))
            (λ e. let q : i + 1 ≡ k = omega arith in subst (λ (m : ℕ). table_at stored (i + 1) 0 ≡ table_at stored m 0) q refl)
            (λ o. b.table k l (omega (arith, below_next (k - 1) i (omega arith) o)));
      }

  pub based_end : chunks ≤ i → BaseTable chunks stored bases
  based_end h k l u = b.table k l (omega arith)
