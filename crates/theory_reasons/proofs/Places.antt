-- Lemmas. The list of missing layers has each layer of the job that the plan doesn't carry, by
-- chunk and then layer, and no other.
use Rattle.std.specs.Prelude.{ℕ, zero, suc, ◌+◌, ◌-◌, ◌≤◌, ◌<◌, ◌≡◌, refl, cond, List, [], ◌∷◌, ◌++◌, ◌⊎◌, ◌↔◌, ltb}
use Rattle.std.proofs.Common.{◌∙◌, append-nil, inl, inr, ⊎_elim, arith, lt-ltb, le-ltb, ltb→lt, nltb→le}
use Rattle.theory_basics.specs.Lists.{up_to}
use Rattle.theory_basics.specs.Tests.{All, In, here, there}
use Rattle.theory_basics.specs.lemmas.Tests.{all_append, at_row, by_cond, last, test}
use Rattle.job.specs.Job.{Job, Layer, chunks, layers}
use Rattle.theory_plan.specs.lemmas.Words.{layer_of}
use Rattle.theory_reasons.proofs.Named.{missing_of_each, missing_to_each}
use Rattle.theory_reasons.specs.Statement.{PlaceBefore, InTurn, IsMissing, Place, missing, missing_of, missing_to}

in_left : (x : Place) (a b : List Place) → In x a → In x (a ++ b)
in_left x _ b (here {xs = xs}) = here
in_left x _ b (there {y = y} {xs = xs} i) = there (in_left x xs b i)

in_right : (x : Place) (a b : List Place) → In x b → In x (a ++ b)
in_right x [] b i = i
in_right x (y ∷ a) b i = there (in_right x a b i)

of_has : (plan : ℕ → ℕ) (i n m : ℕ) → m < n → plan i ≤ m → In (record { chunk = i; layer = m }) (missing_of plan i n)
of_has plan i zero m h l = absurd (omega arith)
of_has plan i (suc n) m h l =
    ⊎_elim
    (λ u. in_left _ (missing_of plan i n) _ (of_has plan i n m u l))
    (λ e. let q : m ≡ n = omega arith in in_right _ (missing_of plan i n) _ (rw (q, le-ltb n (plan i) (omega arith)) here))
    (last (suc m) n h)

to_has : (plan : ℕ → ℕ) (n i k m : ℕ) → 1 ≤ k → k ≤ i → m < n → plan k ≤ m → In (record { chunk = k; layer = m }) (missing_to plan n i)
to_has plan n zero k m u v h l = absurd (omega arith)
to_has plan n (suc i) k m u v h l =
    ⊎_elim
    (λ w. in_left _ (missing_to plan n i) _ (to_has plan n i k m u w h l))
    (λ e. in_right _ (missing_to plan n i) _ (rw e (of_has plan (suc i) n m h (rw e at l))))
    (last k i v)

pub missing_iff : (j : Job) (plan : ℕ → ℕ) (x : Place) → In x (missing j plan) ↔ IsMissing j plan x
missing_iff j plan x = (
  λ i.
      at_row (IsMissing j plan) i
      (missing_to_each plan (IsMissing j plan) (layers j) (chunks j) (λ k m u v w h. record { layer = layer_of j k m u v w; not_carried = h })),
  λ m. to_has plan (layers j) (chunks j) x.chunk x.layer m.layer.chunk_low m.layer.chunk_high m.layer.layer_in m.not_carried,
)

-- ---- by chunk and then layer

turn_append : (a b : List Place) → InTurn a → InTurn b → All (λ x. All (PlaceBefore x) b) a → InTurn (a ++ b)
turn_append [] b u v w = v
turn_append (x ∷ a) b u v w = (all_append (PlaceBefore x) a b u.0 w.0, turn_append a b u.1 v w.1)

of_turn : (plan : ℕ → ℕ) (i n : ℕ) → InTurn (missing_of plan i n)
of_turn plan i zero = tt
of_turn plan i (suc n) =
    turn_append (missing_of plan i n) _ (of_turn plan i n) (by_cond InTurn (ltb n (plan i)) (λ t. tt) (λ t. (tt, tt)))
    (missing_of_each plan (λ x. All (PlaceBefore x) (cond (ltb n (plan i)) [] (record { chunk = i; layer = n } ∷ []))) i n
    (λ m u v. by_cond (All (PlaceBefore (record { chunk = i; layer = m }))) (ltb n (plan i)) (λ t. tt) (λ t. (inr (refl, u), tt))))

to_turn : (plan : ℕ → ℕ) (n i : ℕ) → InTurn (missing_to plan n i)
to_turn plan n zero = tt
to_turn plan n (suc i) =
    turn_append (missing_to plan n i) (missing_of plan (suc i) n) (to_turn plan n i) (of_turn plan (suc i) n)
    (missing_to_each plan (λ x. All (PlaceBefore x) (missing_of plan (suc i) n)) n i
    (λ k m u v w h. missing_of_each plan (PlaceBefore (record { chunk = k; layer = m })) (suc i) n (λ q x y. inl (omega arith))))

pub missing_in_turn : (j : Job) (plan : ℕ → ℕ) → InTurn (missing j plan)
missing_in_turn j plan = to_turn plan (layers j) (chunks j)

-- ---- as a loop meets them

-- The missing layers of chunk i are those from plan i on.
pub missing_of_is : (plan : ℕ → ℕ) (i n : ℕ) → missing_of plan i n ≡ up_to (λ q. record { chunk = i; layer = plan i + q }) (n - plan i)
missing_of_is plan i zero = let e : 0 - plan i ≡ 0 = omega arith in rw e
missing_of_is plan i (suc n) =
    ⊎_elim
    (λ t.
    let l = ltb→lt n (plan i) t in
    let e : suc n - plan i ≡ n - plan i = omega arith in
    rw (lt-ltb n (plan i) l, e) (append-nil (missing_of plan i n) ∙ missing_of_is plan i n))
    (λ t.
    let l = nltb→le n (plan i) t in
    let e : suc n - plan i ≡ suc (n - plan i) = omega arith in
    let f : plan i + (n - plan i) ≡ n = omega arith in
    rw (le-ltb n (plan i) l, e, missing_of_is plan i n, f))
    (test (ltb n (plan i)))
