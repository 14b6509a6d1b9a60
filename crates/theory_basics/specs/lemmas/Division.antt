-- Lemmas. Whole quotients rounded up. Assumes nothing.
use Rattle.std.specs.Prelude.{ℕ, ◌+◌, ◌*◌, ◌-◌, ◌≤◌, ◌<◌, ◌↔◌}
use Rattle.std.proofs.Common.{arith, div-mul-le_self, mul-le-mul_right, div-lt_iff_lt-mul}
use Rattle.std.proofs.Math.Nat.{lt-div-mul-add}
use Rattle.theory_basics.specs.Division.{divided_up}

module _ (x z : ℕ) (pos : 1 ≤ z) where
  -- Rounded up it is enough ..
  pub divided_up_enough : x ≤ divided_up x z * z
  divided_up_enough = omega (arith, lt-div-mul-add {a = x + (z - 1)} pos)

  -- .. and less than 1 too much.
  pub divided_up_near : divided_up x z * z < x + z
  divided_up_near = omega (arith, div-mul-le_self (x + (z - 1)) z)

  pub divided_up_iff : (n : ℕ) → (divided_up x z ≤ n) ↔ (x ≤ n * z)
  divided_up_iff n = (
    λ h. omega (arith, divided_up_enough, mul-le-mul_right z h),
    λ h. let d : divided_up x z < n + 1 = (div-lt_iff_lt-mul {k = z} {x = x + (z - 1)} {y = n + 1} pos).1 (omega arith) in omega arith,
  )
