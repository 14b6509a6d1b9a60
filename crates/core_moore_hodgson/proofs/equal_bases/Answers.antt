-- `equal_bases` meets its contract: the chunks are tried from the first to the last. Assumes
-- nothing.
use Rattle.std.proofs.Common.{◌≡◌, ℕ, zero, suc, ◌+◌, ◌&&◌, Bool, true, false, List, [], ◌∷◌, ◌++◌, eqb, refl, ap, ◌∙◌, arith, rules, tests}
use Rattle.std.specs.List.{list_all, range_with_len}
use Rattle.std.proofs.lemmas.Iterator.{YieldsList-from_range}
use Rattle.std.proofs.lemmas.Iterator.Search.{all_from_yields_List}
use Rattle.std.proofs.lemmas.List.Folds.{list_all-append}
use Rattle.theory_basics.specs.Tests.{all_to}
use Rattle.core_sizes.specs.Table.{table_at}
use Rattle.core_moore_hodgson.proofs.equal_bases.Goals as goal

range_ends : (a n : ℕ) → range_with_len a (suc n) ≡ range_with_len a n ++ ((a + n) ∷ [])
range_ends a zero = let e : a + 0 ≡ a = omega arith in rw e
range_ends a (suc n) = let e : a + 1 + n ≡ a + suc n = omega arith in ap (λ (l : List ℕ). a ∷ l) (rw e at (range_ends (a + 1) n))

swapped : (a b : Bool) → a && (b && true) ≡ b && a
swapped true true = refl
swapped true false = refl
swapped false true = refl
swapped false false = refl

-- The numbers of 1 .. n, from the first and from the last.
tried_to : (f : ℕ → Bool) (n : ℕ) → list_all (λ k. f (k + 1)) (range_with_len 0 n) ≡ all_to n f
tried_to f zero = refl
tried_to f (suc n) =
    let e : 0 + n + 1 ≡ suc n = omega arith in
    ap (list_all (λ k. f (k + 1))) (range_ends 0 n)
    ∙ list_all-append (λ k. f (k + 1)) (range_with_len 0 n) ((0 + n) ∷ [])
    ∙ swapped (list_all (λ k. f (k + 1)) (range_with_len 0 n)) (f (0 + n + 1))
    ∙ rw (e, tried_to f n)

pub returns : goal.returns
returns c =
    let n = c.args.p.chunks in
    let t = table_at c.args.table.now in
    let e = all_from_yields_List (λ k. eqb (t (k + 1) 0) (t 1 0)) _ _ c.all.result c.all.ensures.ran (YieldsList-from_range 0 n n refl (omega arith)) (λ x b q k. search (rules, tests)) in
    e ∙ tried_to (λ i. eqb (t i 0) (t 1 0)) n
