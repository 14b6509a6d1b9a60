-- Theorems. Layers that the job lacks. "Its count at layer n is the number of chunks whose layer n
-- it carries" and "0 for absent layers": with a list's count so read, demand 3's clauses hold of
-- every layer n and not only of those of the job, so that nothing hangs on how `Carried` (fetch,
-- Rows) reads a layer that is not there.
use Rattle.std.specs.Prelude.{ℕ, ◌≤◌, ◌<◌, ◌≡◌, cond, not, List, T, ltb}
use Rattle.std.proofs.Common.{sym, ◌∙◌, ⊎_elim, arith, ltb→lt, lt→ltb, nltb→le}
use Rattle.theory_basics.specs.lemmas.Tests.{T_true, not_T_false, test}
use Rattle.job.specs.Job.{HoldsAll, Job, layers}
use Rattle.fetch.specs.Rows.{Row, layer_count}
use Rattle.fetch.specs.Rules.{Passes, PlayingOrder}
use Rattle.theory_plan.specs.Statement.{Best, CarriesBelow, Choice, count_of}
use Rattle.theory_plan.proofs.Theorems.{absent_count}

-- The count of a list at layer n: of a layer of the job the chunks that carry it, else 0.
abbrev pub list_count : Job → List Row → ℕ → ℕ
list_count j rows n = cond (ltb n (layers j)) (layer_count j rows n) 0

count_there : (j : Job) (rows : List Row) (n : ℕ) → T (ltb n (layers j)) → list_count j rows n ≡ layer_count j rows n
count_there j rows n t = rw (T_true (ltb n (layers j)) t)

count_absent : (j : Job) (rows : List Row) (n : ℕ) → T (not (ltb n (layers j))) → list_count j rows n ≡ 0
count_absent j rows n t = rw (not_T_false (ltb n (layers j)) t)

-- The clauses of demand 3 that name a layer, for every n.
pub record BestOfEvery (j : Job) (plan : ℕ → ℕ) (rows : List Row) : Type 0 where
  pub counted : (n : ℕ) → list_count j rows n ≡ count_of j plan n
  pub most_of_layer : (n : ℕ) (other : List Row) → Passes j other → PlayingOrder j other → CarriesBelow j plan n other → list_count j other n ≤ count_of j plan n
  pub first_difference :
      HoldsAll j → (other : List Row) → Passes j other → (n : ℕ) → ((m : ℕ) → m < n → list_count j other m ≡ count_of j plan m) →
      (list_count j other n ≡ count_of j plan n → ⊥) → list_count j other n < count_of j plan n

pub best_of_every : (j : Job) (p : ℕ → ℕ) (rows : List Row) → Choice j p → Best j p rows → BestOfEvery j p rows
best_of_every j p rows c b = record { counted = counted; most_of_layer = most; first_difference = first } where
  none : (n : ℕ) → T (not (ltb n (layers j))) → count_of j p n ≡ 0
  none n t = absent_count j p c n (nltb→le n (layers j) t)

  counted : (n : ℕ) → list_count j rows n ≡ count_of j p n
  counted n =
      ⊎_elim
      (λ t. count_there j rows n t ∙ b.counted n (ltb→lt n (layers j) t))
      (λ t. count_absent j rows n t ∙ sym (none n t))
      (test (ltb n (layers j)))

  most : (n : ℕ) (other : List Row) → Passes j other → PlayingOrder j other → CarriesBelow j p n other → list_count j other n ≤ count_of j p n
  most n other ok o below =
      ⊎_elim
      (λ t. omega (arith, count_there j other n t, b.most_of_layer n (ltb→lt n (layers j) t) other ok o below))
      (λ t. omega (arith, count_absent j other n t))
      (test (ltb n (layers j)))

  first :
      HoldsAll j → (other : List Row) → Passes j other → (n : ℕ) → ((m : ℕ) → m < n → list_count j other m ≡ count_of j p m) →
      (list_count j other n ≡ count_of j p n → ⊥) → list_count j other n < count_of j p n
  first wide other ok n same differ =
      ⊎_elim
      (λ t.
      let e = count_there j other n t in
      let l = ltb→lt n (layers j) t in
      let d =
      b.first_difference wide other ok n l
      (λ m h. sym (count_there j other m (lt→ltb m (layers j) (omega arith))) ∙ same m h)
      (λ s. differ (e ∙ s)) in
      omega arith)
      (λ t. absurd (differ (count_absent j other n t ∙ sym (none n t))))
      (test (ltb n (layers j)))
