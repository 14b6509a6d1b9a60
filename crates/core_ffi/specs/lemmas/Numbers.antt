-- Lemmas. A call's answer as one number, what is stored beside a result, and that both are as the
-- refusal by which the answer is defined says. Assumes nothing.
use Rattle.std.specs.Prelude.{ℕ, ◌+◌, ◌≡◌, refl, Bool, true, false, cond, List, eqb, Result, Ok, Err}
use Rattle.std.proofs.Common.{ap, ◌∙◌}
use Rattle.theory_basics.specs.Lent.{lent_after, over}
use Rattle.refusals.specs.Numbers as by
use Rattle.core_ffi.specs.Convention.{answered}

abbrev pub refused_number : ℕ → ℕ
refused_number n = 4294967296 + n

-- ---- a result's number

module _ {A : Type 0} (f : A → ℕ) where
  abbrev pub number_by : Result A ℕ → ℕ
  number_by (Ok x) = f x
  number_by (Err n) = refused_number n

  by_test : (b : Bool) (n : ℕ) (x : A) → number_by (cond b (Ok x) (Err n)) ≡ cond b (f x) (refused_number n)
  by_test true n x = refl
  by_test false n x = refl

  pub numbered : (refused : ℕ) (x : A) (a : Result A ℕ) → a ≡ by.answered refused x → number_by a ≡ answered refused (f x)
  unfolding answered
  numbered refused x a e = ap number_by e ∙ by_test (eqb refused 0) refused x

-- A result that is a number.
abbrev pub answer_number : Result ℕ ℕ → ℕ
answer_number r = number_by (λ n. n) r

pub number_is : (refused n : ℕ) {a : Result ℕ ℕ} {r : ℕ} → r ≡ answer_number a → a ≡ by.answered refused n → r ≡ answered refused n
number_is refused n {a} e f = e ∙ numbered (λ (n : ℕ). n) refused n a f

-- ---- what is stored of a result in front of what a slice held

module _ {A : Type 0} (f : A → List ℕ) where
  abbrev pub stored_of : Result A ℕ → List ℕ → List ℕ
  stored_of (Ok x) old = over (f x) old
  stored_of (Err n) old = old

  stored_test : (b : Bool) (n : ℕ) (x : A) (old : List ℕ) → stored_of (cond b (Ok x) (Err n)) old ≡ cond b (over (f x) old) old
  stored_test true n x old = refl
  stored_test false n x old = refl

  pub stored : (refused : ℕ) (x : A) (a : Result A ℕ) (old : List ℕ) → a ≡ by.answered refused x → stored_of a old ≡ lent_after refused (f x) old
  stored refused x a old e = ap (λ (r : Result A ℕ). stored_of r old) e ∙ stored_test (eqb refused 0) refused x old
