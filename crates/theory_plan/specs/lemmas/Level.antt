-- Lemmas. The choice that a passing list carries, its marks and its counts: what a list and a
-- choice say of each other.
use Rattle.std.specs.Prelude.{ℕ, suc, ◌+◌, ◌<◌, ◌^◌, ◌≡◌, Bool, cond, List, ltb}
use Rattle.std.proofs.Common.{ap, subst, sym, arith, eqb→eq, ltb→lt, lt→ltb}
use Rattle.theory_basics.specs.lemmas.Lists.{up_to_cong}
use Rattle.theory_basics.specs.lemmas.Tests.{eqb_iff, same_test}
use Rattle.fetch.specs.Rows.{Row, carried, layer_count, layers_carried, marks_given}
use Rattle.fetch.specs.Rules.{Keeps, LowerCarried, Passes}
use Rattle.job.specs.Job.{Job, Layer, chunks, layers}
use Rattle.theory_basics.specs.lemmas.Ranges.{below_bits_iff, bits_le, count_cong, sum_cong}
use Rattle.theory_plan.specs.Statement.{CarriesExactly, Choice, count_of, marks_of}
use Rattle.theory_plan.specs.lemmas.Words.{layer_of}

-- A list that keeps the rules with some marks passes.
pub keeps_passes : (j : Job) (marks : List ℕ) (l : List Row) → Keeps j marks l → Passes j l
keeps_passes j marks l ok = subst (λ (m : List ℕ). Keeps j m l) ok.marks_say ok

-- How many layers of chunk i the list carries.
abbrev pub level : Job → List Row → ℕ → ℕ
level j l i = layers_carried j l i

pub level_choice : (j : Job) (l : List Row) → Choice j (level j l)
level_choice j l i g h = bits_le (carried j l i) (layers j)

-- By rule 3 they are the lowest ones.
pub level_iff : (j : Job) (l : List Row) → LowerCarried j l → CarriesExactly j l (level j l)
level_iff j l low i n r =
    let b =
    below_bits_iff
    (carried j l i)
    (layers j)
    (λ m h t. (eqb_iff _ _).1 (low i m (layer_of j i (suc m) r.chunk_low r.chunk_high h) (eqb→eq _ _ t)))
    n
    r.layer_in in
    (λ e. b.1 ((eqb_iff _ _).1 e), λ h. eqb→eq _ _ (b.0 h))

pub level_exactly : (j : Job) (l : List Row) → Passes j l → CarriesExactly j l (level j l)
level_exactly j l ok = level_iff j l ok.lower

module _ (j : Job) (l : List Row) (lv : ℕ → ℕ) (c : CarriesExactly j l lv) where
  carried_is : (i n : ℕ) → Layer j i n → carried j l i n ≡ ltb n (lv i)
  carried_is i n r =
      same_test (carried j l i n) (ltb n (lv i)) (λ t. lt→ltb n (lv i) ((c i n r).0 (eqb→eq _ _ t))) (λ t. (eqb_iff _ _).1 ((c i n r).1 (ltb→lt n (lv i) t)))

  pub count_carried : (n : ℕ) → n < layers j → layer_count j l n ≡ count_of j lv n
  count_carried n h = count_cong (λ i. carried j l i n) (λ i. ltb n (lv i)) (chunks j) (λ i u v. carried_is i n (layer_of j i n u v h))

  pub marks_carried : marks_of j lv ≡ marks_given j l
  marks_carried =
      up_to_cong _ _ (chunks j) (λ k u.
      sum_cong _ _ (layers j) (λ n v. ap (λ (b : Bool). cond b (2 ^ n) 0) (sym (carried_is (k + 1) n (layer_of j (k + 1) n (omega arith) (omega arith) v)))))

  -- A list that passes keeps the rules with the marks of the choice that it carries.
  pub keeps_marks : Passes j l → Keeps j (marks_of j lv) l
  keeps_marks ok = rw marks_carried ok
