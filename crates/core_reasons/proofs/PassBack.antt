-- Laws on the pass back. Assumes nothing.
use mathlib.Core.Path.{◌≡◌, refl, sym, ◌∙◌}
use mathlib.Core.Bool.{Bool, true, false, cond, ◌&&◌}
use mathlib.Core.List.{List}
use Prim.Native.Nat.{ℕ, zero, suc, ◌+◌, ◌*◌, ◌-◌, ◌≤◌, ◌<◌}
use native.Mathlib.Omega.{arith}
use lib.ListN.{get_or}
use lib.Dec.{ltb}
use Rattle.theory_reasons.specs.lemmas.First.{opens}
use Rattle.theory_reasons.specs.lemmas.Search.{Begin, back}
use Rattle.core_reasons.specs.lemmas.Passes.{back_in, place, starts_in, up_to_in}

module _ (after ready bytes : List ℕ) (first most m : ℕ) where
  abbrev pub behind : ℕ → ℕ → Begin
  behind = back (place first bytes) (λ q. 0) (place first ready) (up_to_in after) most

  opens_is : (k : ℕ) → opens (place first bytes) (λ q. 0) (place first ready) (up_to_in after) k ≡ starts_in ready first k
  opens_is zero = refl
  opens_is (suc k) = refl

  pub record Backing (sum k : ℕ) : Type 0 where
    pub low : first ≤ k
    pub high : k ≤ m + 1
    pub small : sum ≤ (m + 1 - k) * 4294967295
    pub says : back_in after ready bytes first most m ≡ behind sum (k - first)

  pub backing_start : first ≤ m → Backing 0 (m + 1)
  backing_start h =
      let e : m + 1 - first ≡ suc (m - first) = omega arith in
      record { low = omega arith; high = omega arith; small = omega arith; says = rw e }

  module _ (sum k : ℕ) (b : Backing sum k) (h : first < k) where
    abbrev pub reach : ℕ
    reach = up_to_in after (get_or ready (k - 1) 0 - 1) + (sum + get_or bytes (k - 1) 0)

    abbrev here : Begin
    here = record { first = get_or ready (k - 1) 0; carry = most - up_to_in after (get_or ready (k - 1) 0 - 1); need = sum + get_or bytes (k - 1) 0 }

    step : (t : Bool) → starts_in ready first (k - 1 - first) && ltb most reach ≡ t → behind sum (k - first) ≡ cond t here (behind (sum + get_or bytes (k - 1) 0) (k - 1 - first))
    step t e =
        let n : k - first ≡ suc (k - 1 - first) = omega arith in
        let a : first + (k - 1 - first) ≡ k - 1 = omega arith in
        rw (n, opens_is (k - 1 - first), a, e)

    pub backing_found : starts_in ready first (k - 1 - first) && ltb most reach ≡ true → here ≡ back_in after ready bytes first most m
    backing_found e = sym (b.says ∙ step true e)

    pub backing_more : starts_in ready first (k - 1 - first) && ltb most reach ≡ false → get_or bytes (k - 1) 0 ≤ 4294967295 → Backing (sum + get_or bytes (k - 1) 0) (k - 1)
    backing_more e l =
        record { low = omega arith; high = omega (arith, b.high); small = omega (arith, b.small, b.high); says = b.says ∙ step false e }

  pub backing_end : (sum k : ℕ) → Backing sum k → k ≤ first → record { first = 0; carry = 0; need = sum } ≡ back_in after ready bytes first most m
  backing_end sum k b h =
      let z : k - first ≡ 0 = omega arith in
      sym (b.says ∙ rw z)
