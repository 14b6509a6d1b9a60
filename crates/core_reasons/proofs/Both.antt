-- Laws on both passes. Assumes nothing.
use mathlib.Core.Path.{◌≡◌, refl, ap, ◌∙◌}
use mathlib.Core.List.{List}
use Prim.Native.Nat.{ℕ, zero, suc, ◌+◌, ◌-◌, ◌≤◌}
use native.Mathlib.Omega.{arith}
use lib.ListN.{length, get_or}
use Rattle.theory_reasons.specs.lemmas.First.{opens}
use Rattle.theory_reasons.specs.lemmas.Search as Search
use Rattle.core_reasons.specs.declared.passes.Begin.{Begin}
use Rattle.core_reasons.specs.declared.passes.Stretch.{Stretch}
use Rattle.core_reasons.specs.lemmas.Passes.{FindStretchPost, FindStretchPre, back_in, begun, late_in, place, search_in, up_to_in}
use Rattle.core_reasons.specs.lemmas.Held.{tables_late, tables_stretch}

-- The pass back looks at no due slot.
opens_no_due : (w d d' r F : ℕ → ℕ) (k : ℕ) → opens w d r F k ≡ opens w d' r F k
opens_no_due w d d' r F zero = refl
opens_no_due w d d' r F (suc k) = refl

back_no_due : (w d d' r F : ℕ → ℕ) (most s k : ℕ) → Search.back w d r F most s k ≡ Search.back w d' r F most s k
back_no_due w d d' r F most s zero = refl
back_no_due w d d' r F most s (suc k) = rw (opens_no_due w d d' r F k, back_no_due w d d' r F most (s + w k) k)

module _ (after dues ready bytes : List ℕ) (first : ℕ) (o : FindStretchPre after dues ready first) (long : length dues ≡ 500) (m : ℕ) (e : m ≡ first + late_in after dues ready bytes first) where
  searched : (b : Begin) (most : ℕ) → most ≡ up_to_in after (get_or dues m 0) → begun b ≡ back_in after ready bytes first most m → record { first = b.first; last = get_or dues m 0; carry = b.carry; need = b.need } ≡ search_in after dues ready bytes first
  searched b most f g =
      let x = late_in after dues ready bytes first in
      let k : m - first ≡ x = omega (arith, e) in
      let s : Search.Begin = Search.back (place first bytes) (place first dues) (place first ready) (up_to_in after) (up_to_in after (place first dues x)) 0 (suc x) in
      let i : most ≡ up_to_in after (place first dues x) = f ∙ ap (λ (z : ℕ). up_to_in after (get_or dues z 0)) e in
      let h : begun b ≡ s =
      g
      ∙ ap (λ (n : ℕ). Search.back (place first bytes) (λ q. 0) (place first ready) (up_to_in after) n 0 (suc (m - first))) i
      ∙ ap (λ (y : ℕ). Search.back (place first bytes) (λ q. 0) (place first ready) (up_to_in after) (up_to_in after (place first dues x)) 0 (suc y)) k
      ∙ back_no_due (place first bytes) (λ q. 0) (place first dues) (place first ready) (up_to_in after) (up_to_in after (place first dues x)) 0 (suc x) in
      rw e (ap (λ (t : Search.Begin). record { first = t.first; last = place first dues x; carry = t.carry; need = t.need }) h)

  pub named_found : (b : Begin) (most : ℕ) → most ≡ up_to_in after (get_or dues m 0) → begun b ≡ back_in after ready bytes first most m → FindStretchPost after dues ready bytes first (record { first = b.first; last = get_or dues m 0; carry = b.carry; need = b.need })
  named_found b most f g =
      record { found = λ j a choice ok never h. searched b most f g ∙ tables_stretch j a choice after dues ready bytes first h long ok never }

  pub named_none : (s : Stretch) → 500 ≤ m → FindStretchPost after dues ready bytes first s
  named_none s l =
      record { found = λ j a choice ok never h. absurd (omega (arith, e, tables_late j a choice after dues ready bytes first h long ok never, o.within)) }
