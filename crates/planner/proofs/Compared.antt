-- Counts of as many layers compared as std compares lists. Assumes nothing.
use Rattle.std.proofs.Common.{ℕ, ◌≡◌, refl, ap, ◌∙◌, arith, cond, List, [], ◌∷◌, length, nat_lt, ⊎_elim}
use Rattle.std.proofs.lemmas.Bool.{cases_order}
use borrow.Author.Tests.{lt-ltb, le-ltb, eq-eqb, ne_eqb}
use Rattle.std.specs.Ordering.{nat_cmp, ordering_then}
use Rattle.std.specs.Cmp.Lexicographic.{slice_cmp}
use Rattle.std.specs.declared.cmp.Ordering.{Ordering}
use Rattle.std.specs.declared.cmp.Ordering.TheVariants.{Less, Greater}
use Rattle.planner.specs.Answer.{compared}

module _ (x y : ℕ) (s : Ordering) where
  at_place : ordering_then (nat_cmp x y) s ≡ cond (nat_lt x y) Less (cond (nat_lt y x) Greater s)
  at_place =
      ⊎_elim
      (λ e. rw (le-ltb x y (omega (arith, e)), le-ltb y x (omega (arith, e)), eq-eqb x y e) refl)
      (⊎_elim
      (λ l. rw (lt-ltb x y l) refl)
      (λ g. rw (le-ltb x y (omega (arith, g)), lt-ltb y x g, ne_eqb x y (λ e. omega (arith, e, g))) refl))
      (cases_order x y)

pub compared_is : (a b : List ℕ) → length a ≡ length b → slice_cmp nat_cmp a b ≡ compared a b
compared_is [] [] e = refl
compared_is [] (y ∷ b) e = absurd (omega arith)
compared_is (x ∷ a) [] e = absurd (omega arith)
compared_is (x ∷ a) (y ∷ b) e =
    ap (ordering_then (nat_cmp x y)) (compared_is a b (omega (arith, e))) ∙ at_place x y (compared a b)
