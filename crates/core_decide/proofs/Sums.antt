-- Laws on the sums of a forecast. Assumes nothing.
use mathlib.Core.Path.{◌≡◌, refl, sym, ◌∙◌, ap, subst}
use mathlib.Core.Bool.{Bool, cond, ◌&&◌, and-false}
use mathlib.Core.List.{List}
use mathlib.Core.Logic.{⊎_elim}
use Prim.Native.Nat.{ℕ, zero, suc, ◌+◌, ◌*◌, ◌-◌, ◌≤◌, ◌<◌}
use native.Mathlib.Omega.{arith}
use lib.ListN.{length, get_or, set, length-set, get_or-eq_default, replicate, length-replicate, get_or-replicate}
use lib.Seq.{paste, paste-zero, paste-suc}
use borrow.Rule.Slice.PartMut.{put_mid}
use Rattle.std.proofs.lemmas.Slice.{put_mid-paste}
use lib.Dec.{leb, ltb, ltb→lt, nltb→le}
use borrow.Author.Tests.{le-leb, lt-leb, lt-ltb, le-ltb}
use Rattle.theory_basics.specs.lemmas.Tests.{test}
use Rattle.theory_plan.specs.lemmas.Parts.{padded, left_after, ForecastPart, left_before, left_none, padded_long, left_step, padded_at}
use Rattle.core_decide.specs.lemmas.Decision.{SumTable}
use Rattle.theory_basics.specs.lemmas.Tables.{at_set, above_next}

-- ---- a value at places

-- The places from .. k - 1 of a table hold v, the others what they had.
pub record Filled (from k v : ℕ) (old new : List ℕ) : Type 0 where
  pub reached : from ≤ k
  pub long : length new ≡ 3601
  pub places : (m : ℕ) → get_or new m 0 ≡ cond (leb from m && ltb m k) v (get_or old m 0)

pub placed_start : (from v : ℕ) (old : List ℕ) → length old ≡ 3601 → Filled from from v old old
placed_start from v old h =
    record { reached = omega arith; long = h; places = λ m. ⊎_elim (λ t. rw (lt-ltb m from (ltb→lt m from t), lt-leb from m (ltb→lt m from t))) (λ t. rw (le-ltb m from (nltb→le m from t), and-false (leb from m))) (test (ltb m from)) }

pub placed_more : (from k v : ℕ) (old new : List ℕ) → Filled from k v old new → k < 3601 → Filled from (k + 1) v old (set new k v)
placed_more from k v old new p h =
    record {
      reached = omega (arith, p.reached);
      long = simp length-set p.long;
      places = λ m.
          at_set (λ x. x ≡ cond (leb from m && ltb m (k + 1)) v (get_or old m 0)) new k v m (omega (arith, p.long))
          (λ e. rw (e, le-leb from k p.reached, lt-ltb k (k + 1) (omega arith)))
          (λ o. p.places m ∙ ap (λ (b : Bool). cond (leb from m && b) v (get_or old m 0)) (same m o));
    }
  where
    same : (m : ℕ) → (m ≡ k → ⊥) → ltb m k ≡ ltb m (k + 1)
    same m o = ⊎_elim
        (λ t. let l = ltb→lt m k t in rw (lt-ltb m k l, lt-ltb m (k + 1) (omega arith)))
        (λ t. let l = nltb→le m k t in rw (le-ltb m k l, le-ltb m (k + 1) (above_next m k l o)))
        (test (ltb m k))

pasted : (from v n : ℕ) (old : List ℕ) → length old ≡ 3601 → from + n ≤ 3601 → (j : ℕ) → j ≤ n → Filled from (from + j) v old (paste old from (replicate n v) j)
pasted from v n old l h zero u = let e : from + 0 ≡ from = omega arith in subst (λ (x : List ℕ). Filled from (from + 0) v old x) (paste-zero old from (replicate n v)) (subst (λ (m : ℕ). Filled from m v old old) (sym e) (placed_start from v old l))
pasted from v n old l h (suc j) u =
    let e : from + suc j ≡ from + j + 1 = omega arith in
    let many : length (replicate n v) ≡ n = length-replicate {A = ℕ} n v in
    let w : get_or (replicate n v) j 0 ≡ v = get_or-replicate n j v 0 (omega arith) in
    let next : set (paste old from (replicate n v) j) (from + j) v ≡ paste old from (replicate n v) (suc j) = rw w at (paste-suc old from (replicate n v) j 0 (omega arith) (omega arith)) in
    subst (λ (m : ℕ). Filled from m v old (paste old from (replicate n v) (suc j))) (sym e) (subst (λ (x : List ℕ). Filled from (from + j + 1) v old x) next (placed_more from (from + j) v old _ (pasted from v n old l h j (omega arith)) (omega arith)))

-- What is left of a table whose places from .. to - 1 were filled.
pub filled : (from k to v : ℕ) (old ys : List ℕ) → length old ≡ 3601 → from + k ≡ to → to ≤ 3601 → ys ≡ replicate k v → Filled from to v old (put_mid from k old ys)
filled from k to v old ys l n h e =
    let p : Filled from (from + k) v old (paste old from (replicate k v) k) = pasted from v k old l (omega arith) k (omega arith) in
    let q : put_mid from k old ys ≡ paste old from (replicate k v) k = put_mid-paste from k old ys (replicate k v) k e refl (sym (length-replicate {A = ℕ} k v)) in
    subst (λ (m : ℕ). Filled from m v old (put_mid from k old ys)) n (subst (λ (x : List ℕ). Filled from (from + k) v old x) (sym q) p)

-- ---- the table of sums

pub record Summed (start : ℕ) (part after : List ℕ) (sum u : ℕ) : Type 0 where
  pub within : u ≤ length part
  pub is : sum ≡ left_after (padded start part) (start - 1 + u)
  pub small : sum ≤ 16777216 * (length part - u)
  pub long : length after ≡ 3601
  pub table : (t : ℕ) → start - 1 + u ≤ t → get_or after t 0 ≡ left_after (padded start part) t

module _ (start : ℕ) (part : List ℕ) (p : ForecastPart start part) where
  pub summed_start : (old after : List ℕ) → Filled (start - 1 + length part) 3601 0 old after → Summed start part after 0 (length part)
  summed_start old after z =
      let none : (t : ℕ) → start - 1 + length part ≤ t → left_after (padded start part) t ≡ 0 = λ t h. left_none (padded start part) t (omega (arith, padded_long start part)) in
      record {
        within = omega arith;
        is = sym (none (start - 1 + length part) (omega arith));
        small = omega arith;
        long = z.long;
        table = λ t h.
            ⊎_elim
            (λ w. let v = ltb→lt t 3601 w in rw (le-leb (start - 1 + length part) t h, lt-ltb t 3601 v) at (z.places t) ∙ sym (none t h))
            (λ w. let v = nltb→le t 3601 w in get_or-eq_default after 0 {n = t} (omega (arith, z.long)) ∙ sym (none t h))
            (test (ltb t 3601));
      }

  module _ (after : List ℕ) (sum u : ℕ) (s : Summed start part after sum u) where
    pub summed_more : 0 < u → Summed start part (set after (start - 1 + (u - 1)) (sum + get_or part (u - 1) 0)) (sum + get_or part (u - 1) 0) (u - 1)
    summed_more h =
        let t = start - 1 + (u - 1) in
        let e : t + 1 ≡ start - 1 + u = omega arith in
        let k : t < length (padded start part) = omega (arith, s.within, padded_long start part) in
        let step : left_after (padded start part) t ≡ left_after (padded start part) (start - 1 + u) + get_or part (u - 1) 0 = left_step (padded start part) t k ∙ rw (e, padded_at start part (u - 1)) in
        let new : sum + get_or part (u - 1) 0 ≡ left_after (padded start part) t = omega (arith, s.is, step) in
        record {
          within = omega (arith, s.within);
          is = new;
          small = omega (arith, s.small, s.within, p.small (u - 1));
          long = simp length-set s.long;
          table = λ i w.
              at_set (λ x. x ≡ left_after (padded start part) i) after t (sum + get_or part (u - 1) 0) i (omega (arith, s.long, s.within, p.high, p.low))
              (λ q. rw q new)
              (λ o. s.table i (omega (arith, above_next i t w o, e)));
        }

    pub summed_end : u ≤ 0 → (after' : List ℕ) → Filled 0 (start - 1) sum after after' → SumTable start part after'
    summed_end h after' z =
        let e : start - 1 + u ≡ start - 1 = omega arith in
        let is : sum ≡ left_after (padded start part) (start - 1) = rw e at s.is in
        record {
          long = z.long;
          is = λ t.
              ⊎_elim
              (λ w. let v = ltb→lt t (start - 1) w in rw (le-leb 0 t (omega arith), lt-ltb t (start - 1) v) at (z.places t) ∙ is ∙ sym (left_before start part t (omega arith)))
              (λ w. let v = nltb→le t (start - 1) w in rw (le-leb 0 t (omega arith), le-ltb t (start - 1) v) at (z.places t) ∙ s.table t (omega arith))
              (test (ltb t (start - 1)));
        }
