-- Laws on the pass forward. Assumes nothing.
use mathlib.Core.Path.{◌≡◌, ◌∙◌}
use mathlib.Core.Bool.{Bool, true, false, cond}
use mathlib.Core.List.{List}
use Prim.Native.Nat.{ℕ, suc, ◌+◌, ◌*◌, ◌-◌, ◌≤◌, ◌<◌, max}
use native.Mathlib.Omega.{arith}
use lib.ListN.{get_or}
use lib.Dec.{ltb}
use borrow.Author.Tests.{lt-ltb, le-ltb}
use Rattle.theory_reasons.specs.lemmas.Search.{forward}
use Rattle.core_reasons.specs.lemmas.Passes.{late_in, place, up_to_in}

module _ (after dues ready bytes : List ℕ) (first : ℕ) where
  abbrev pub ahead : ℕ → ℕ → ℕ → ℕ
  ahead = forward (place first bytes) (place first dues) (place first ready) (up_to_in after)

  -- What is spent when the chunk at q has its bytes.
  abbrev pub spent_at : ℕ → ℕ → ℕ
  spent_at used q = max used (up_to_in after (get_or ready q 0 - 1)) + get_or bytes q 0

  pub record Seeking (used q : ℕ) : Type 0 where
    pub reached : first ≤ q
    pub within : q ≤ 500
    pub small : used ≤ 60397977600 + (q - first) * 4294967295
    pub says : late_in after dues ready bytes first ≡ ahead used (q - first) (500 - q)

  pub seeking_start : first ≤ 500 → Seeking 0 first
  seeking_start h =
      let z : first - first ≡ 0 = omega arith in
      record { reached = omega arith; within = h; small = omega arith; says = rw z }

  module _ (used q : ℕ) (s : Seeking used q) (h : q < 500) where
    step :
        (t : Bool) → ltb (up_to_in after (get_or dues q 0)) (spent_at used q) ≡ t →
        ahead used (q - first) (500 - q) ≡ cond t (q - first) (ahead (spent_at used q) (suc (q - first)) (500 - (q + 1)))
    step t e =
        let n : 500 - q ≡ suc (500 - (q + 1)) = omega arith in
        let a : first + (q - first) ≡ q = omega (arith, s.reached) in
        rw (n, a, e)

    pub seeking_found : up_to_in after (get_or dues q 0) < spent_at used q → q ≡ first + late_in after dues ready bytes first
    seeking_found l =
        let e = step true (lt-ltb (up_to_in after (get_or dues q 0)) (spent_at used q) l) in
        omega (arith, s.says, e, s.reached)

    pub seeking_more : (v : ℕ) → v ≡ spent_at used q → v ≤ 60397977600 + (q + 1 - first) * 4294967295 → spent_at used q ≤ up_to_in after (get_or dues q 0) → Seeking v (q + 1)
    seeking_more v v-is small l =
        let e = step false (le-ltb (up_to_in after (get_or dues q 0)) (spent_at used q) l) in
        let k : q + 1 - first ≡ suc (q - first) = omega (arith, s.reached) in
        record { reached = omega (arith, s.reached); within = omega arith; small = small; says = s.says ∙ e ∙ rw (k, v-is) }

  pub seeking_end : (used q : ℕ) → Seeking used q → 500 ≤ q → q ≡ first + late_in after dues ready bytes first
  seeking_end used q s h =
      let z : 500 - q ≡ 0 = omega arith in
      let e : late_in after dues ready bytes first ≡ q - first = s.says ∙ rw z in
      omega (arith, e, s.reached)
