-- A law on refusals. Assumes nothing.
use Prim.Native.Nat.{ℕ}
use mathlib.Core.Path.{◌≡◌, refl, sym, ◌∙◌}
use lib.Dec.{eqb, eqb→eq}
use Rattle.theory_basics.specs.Refusals.{◌or_else◌}
use Rattle.theory_basics.specs.lemmas.Tests.{by_cond}

-- A second refusal that never applies where the first doesn't.
pub never_second : (a b : ℕ) → (a ≡ 0 → b ≡ 0) → (a or_else b) ≡ a
never_second a b h = by_cond (λ (r : ℕ). r ≡ a) (eqb a 0) (λ t. let e = eqb→eq a 0 t in h e ∙ sym e) (λ t. refl)
