-- Lemmas. What an answer says: a result where there is no refusal, else the refusal's number.
-- Assumes nothing.
use Rattle.std.specs.Prelude.{ℕ, ◌≡◌, Result, Ok, Err, eqb}
use Rattle.std.proofs.Common.{arith, ◌∙◌, eqb→eq, T_not}
use Rattle.std.proofs.Math.Dec.{eqb_refl}
use Rattle.theory_basics.specs.lemmas.Tests.{by_cond}
use Rattle.refusals.specs.Numbers.{answered}

module _ {A : Type 0} where
  pub ok_answered : (refused : ℕ) (x y : A) → Ok x ≡ answered refused y → (refused ≡ 0) × (x ≡ y)
  ok_answered refused x y =
      by_cond (λ (r : Result A ℕ). Ok x ≡ r → (refused ≡ 0) × (x ≡ y)) (eqb refused 0)
      (λ t e. let same : x ≡ y = cc in (eqb→eq refused 0 t, same))
      (λ t e. let z : ◌≡◌ {A = ℕ} 0 1 = cc in absurd (omega arith))

  pub err_answered : (refused n : ℕ) (y : A) → Err n ≡ answered refused y → (refused ≡ n) × (n ≡ 0 → ⊥)
  err_answered refused n y =
      by_cond (λ (r : Result A ℕ). Err n ≡ r → (refused ≡ n) × (n ≡ 0 → ⊥)) (eqb refused 0)
      (λ t e. let z : ◌≡◌ {A = ℕ} 0 1 = cc in absurd (omega arith))
      (λ t e. let same : refused ≡ n = cc in (same, λ z. T_not (eqb refused 0) t (rw (same ∙ z) (eqb_refl 0))))
