-- Laws on the table of counts: one more line, a line in no slot, what the test of 15 says of a
-- count, the forecast made of them. Assumes nothing.
use Prim.Native.Nat.{ℕ, ◌+◌, ◌*◌, ◌/◌, ◌≤◌, ◌<◌, min}
use mathlib.Core.Path.{◌≡◌, refl, sym, ap, ◌∙◌}
use mathlib.Core.Bool.{true}
use mathlib.Core.List.{List, [], ◌∷◌, ◌++◌}
use native.Mathlib.Omega.{arith}
use native.Mathlib.Numerals.{add-one}
use lib.ListN.{length, get_or, set, take, length-set, length-map}
use lib.Seq.{get_or-take, length-take-le, set_out, take-suc}
use lib.Dec.{leb, leb→le}
use Rattle.theory_basics.specs.Lent.{over}
use Rattle.theory_basics.proofs.Lent.{map_snoc, over_next}
use Rattle.theory_basics.specs.lemmas.Tables.{all_at}
use Rattle.theory_basics.specs.lemmas.Tests.{all_All, true_T}
use Rattle.trace.specs.lemmas.Tally.{bump}
use Rattle.trace.specs.lemmas.Passes.{few_lines, lines_forecast}

-- One more, up to 11,185.
pub bump_more : (counts : List ℕ) (t : ℕ) → bump 11185 counts t ≡ set counts (t / 1000) (min (get_or counts (t / 1000) 0) 11184 + 1)
bump_more counts t =
    let n = get_or counts (t / 1000) 0 in
    let e : min 11185 (n + 1) ≡ min n 11184 + 1 = omega arith in
    rw e

-- A time after the last slot.
pub bump_past : (counts : List ℕ) (t : ℕ) → length counts ≤ t / 1000 → bump 11185 counts t ≡ counts
bump_past counts t h = set_out counts (t / 1000) (min 11185 (get_or counts (t / 1000) 0 + 1)) h

-- ---- the test of 15

pub few_at : (counts : List ℕ) (slots k : ℕ) → length counts ≡ 3600 → slots ≤ 3600 → few_lines (take slots counts) ≡ true → k < slots → get_or counts k 0 ≤ 11184
few_at counts slots k l s e h =
    let first : List ℕ = take slots counts in
    let a = all_All (λ n. leb n 11184) (λ n. n ≤ 11184) (λ n t. leb→le n 11184 t) first (true_T (few_lines first) e) in
    let n : length first ≡ slots = length-take-le slots counts (omega arith) in
    rw get_or-take at (all_at (λ n. n ≤ 11184) first k (omega arith) a)

-- ---- the forecast

pub record Putting (counts : List ℕ) (slots : ℕ) (old out : List ℕ) (k : ℕ) : Type 0 where
  pub inside : k ≤ slots
  pub says : out ≡ over (lines_forecast (take k counts)) old
  pub long : length out ≡ length old

pub putting_start : (counts : List ℕ) (slots : ℕ) (old : List ℕ) → Putting counts slots old old 0
putting_start counts slots old = record { inside = omega arith; says = refl; long = refl }

module _ (counts : List ℕ) (slots : ℕ) (old out : List ℕ) (k : ℕ) (p : Putting counts slots old out k) where
  pub putting_more : k < slots → slots ≤ length counts → slots ≤ length old → Putting counts slots old (set out k (get_or counts k 0 * 1500)) (k + 1)
  putting_more h a b =
      let l : k < length counts = omega arith in
      let e : length (lines_forecast (take k counts)) ≡ k = length-map (take k counts) (λ n. n * 1500) ∙ length-take-le k counts (omega arith) in
      let n : lines_forecast (take (k + 1) counts) ≡ lines_forecast (take k counts) ++ ((get_or counts k 0 * 1500) ∷ []) = rw (add-one, take-suc counts k 0) (map_snoc (λ n. n * 1500) (take k counts) (get_or counts k 0)) in
      record {
        inside = omega arith;
        says = rw (n, p.says) (ap (λ (q : ℕ). set (over (lines_forecast (take k counts)) old) q (get_or counts k 0 * 1500)) (sym e) ∙ over_next (lines_forecast (take k counts)) old (get_or counts k 0 * 1500) (omega (arith, e)));
        long = simp length-set p.long;
      }

  pub putting_end : slots ≤ k → out ≡ over (lines_forecast (take slots counts)) old
  putting_end h = let e : k ≡ slots = omega (arith, p.inside) in rw e at p.says
