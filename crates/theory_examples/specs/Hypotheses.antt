-- Theorems. No hypothesis of demand 3 can be dropped: the witnesses of docs/ARGUMENT.md, section 5,
-- by computation. Each clause of `Best` (theory_plan, Statement) is stated without one hypothesis,
-- and is false of every plan of an accepted job that lacks it.
use Rattle.std.specs.Prelude.{ℕ, zero, suc, ◌≤◌, ◌<◌, Bool, true, false, cond, List, [], ◌∷◌, ◌≡◌, refl, leb, eqb, get_or}
use Rattle.std.proofs.Common.{ap, subst, arith}
use Rattle.job.specs.Job.{HoldsAll, Job, Layer, job_of, layers, size_in}
use Rattle.job.specs.Refusal.{refusal}
use Rattle.fetch.specs.Rows.{Row, Carried, layer_count}
use Rattle.fetch.specs.Rules.{Passes, PlayingOrder}
use Rattle.fetch.specs.Verdict.{verdict}
use Rattle.theory_plan.specs.Own.{own_list}
use Rattle.theory_plan.specs.Plan.{fits, plan}
use Rattle.theory_plan.specs.Statement.{CanCarry, CarriesBelow, Choice, IsPlan, count_of}
use Rattle.theory_plan.proofs.Theorems.{decision, own_carries, passes_iff}
use Rattle.theory_plan.specs.lemmas.Words.{accepted_sized}
use Rattle.theory_examples.specs.Plans.{A_plan, PlanIs, planned}
use Rattle.theory_examples.specs.Worked.{A, better, row}

-- ---- the clauses of demand 3, and what they are without a hypothesis

-- "Every fetch list that passes, in whatever order it fetches, carries the base layer of at most as
-- many chunks as the plan."
abbrev pub MostBases : Job → (ℕ → ℕ) → Type 0
MostBases j plan = (other : List Row) → Passes j other → layer_count j other 0 ≤ count_of j plan 0

-- "For every layer n, every passing list in playing order that carries all the plan's own layers
-- below n carries layer n for at most as many chunks as the plan": of layer n,
abbrev pub MostOfLayer : Job → (ℕ → ℕ) → ℕ → Type 0
MostOfLayer j plan n =
    (other : List Row) → Passes j other → PlayingOrder j other → CarriesBelow j plan n other → layer_count j other n ≤ count_of j plan n

-- without playing order,
abbrev pub InAnyOrder : Job → (ℕ → ℕ) → ℕ → Type 0
InAnyOrder j plan n = (other : List Row) → Passes j other → CarriesBelow j plan n other → layer_count j other n ≤ count_of j plan n

-- and without the plan's layers below n.
abbrev pub WhateverBelow : Job → (ℕ → ℕ) → ℕ → Type 0
WhateverBelow j plan n = (other : List Row) → Passes j other → PlayingOrder j other → layer_count j other n ≤ count_of j plan n

-- "take any passing list whose counts are not the plan's: at the first layer, from the base up,
-- where they differ, the plan's count is the higher", whatever the limit holds.
abbrev pub FirstDifference : Job → (ℕ → ℕ) → Type 0
FirstDifference j plan =
    (other : List Row) → Passes j other → (n : ℕ) → n < layers j → ((m : ℕ) → m < n → layer_count j other m ≡ count_of j plan m) →
    (layer_count j other n ≡ count_of j plan n → ⊥) → layer_count j other n < count_of j plan n

-- The count of layer n of every plan is that of the table.
count_is : {j : Job} {marks counts : List ℕ} {rows : List Row} → PlanIs j marks counts rows → (p : ℕ → ℕ) → IsPlan j p → (n : ℕ) → n < 4 → count_of j p n ≡ get_or counts n 0
count_is is p d zero h = ap (λ (l : List ℕ). get_or l 0 0) (is.counts_are p d)
count_is is p d (suc zero) h = ap (λ (l : List ℕ). get_or l 1 0) (is.counts_are p d)
count_is is p d (suc (suc zero)) h = ap (λ (l : List ℕ). get_or l 2 0) (is.counts_are p d)
count_is is p d (suc (suc (suc zero))) h = ap (λ (l : List ℕ). get_or l 3 0) (is.counts_are p d)
count_is is p d (suc (suc (suc (suc n)))) h = absurd (omega arith)

-- ---- playing order

-- C 2, L 1, s 2, limit 1, sizes 1 and 3, B = 2, 1, 2.
abbrev pub turned : Job
turned = job_of (record { chunks = 2; span = 1; delay = 2; limit = 1 }) (1 ∷ 3 ∷ []) [] (2 ∷ 1 ∷ 2 ∷ [])

pub turned_plan : PlanIs turned (1 ∷ 1 ∷ []) (2 ∷ 0 ∷ 0 ∷ 0 ∷ []) (row 1 1 0 1 ∷ row 2 2 0 1 ∷ [])
unfolding refusal plan own_list size_in
turned_plan = planned _ _ _ _ refl refl refl refl

-- Chunk 2 is begun before chunk 1.
abbrev pub turned_list : List Row
turned_list = row 1 2 0 1 ∷ row 1 2 1 1 ∷ row 2 1 0 1 ∷ row 3 2 1 2 ∷ []

-- It passes with marks 1, 3, has the plan's bases, and layer 1 once more than the plan.
pub turned_passes : (verdict turned (1 ∷ 3 ∷ []) turned_list ≡ 0) × (layer_count turned turned_list 0 ≡ 2) × (layer_count turned turned_list 1 ≡ 1)
unfolding verdict size_in
turned_passes = (refl, refl, refl)

turned_bases : (i m : ℕ) → Layer turned i m → m < 1 → Carried turned turned_list i m
unfolding size_in
turned_bases zero m r h = absurd (omega (arith, r.chunk_low))
turned_bases (suc zero) zero r h = refl
turned_bases (suc zero) (suc m) r h = absurd (omega arith)
turned_bases (suc (suc zero)) zero r h = refl
turned_bases (suc (suc zero)) (suc m) r h = absurd (omega arith)
turned_bases (suc (suc (suc i))) m r h = absurd (omega (arith, r.chunk_high))

-- So layer n needs lists in playing order.
pub needs_playing_order : (p : ℕ → ℕ) → IsPlan turned p → InAnyOrder turned p 1 → ⊥
unfolding verdict size_in
needs_playing_order p d most =
    let e : count_of turned p 1 ≡ 0 = count_is turned_plan p d 1 (omega arith) in
    let l : layer_count turned turned_list 1 ≡ 1 = refl in
    let m = most turned_list ((passes_iff turned turned_list).0 refl) (λ i m r h k. turned_bases i m r h) in
    omega arith

-- ---- a limit that holds the programme, and the plan's layers below n: job A

-- The list of document 01 is the own list of layers 2, 0, 2 of the three chunks,
abbrev two_none_two : ℕ → ℕ
two_none_two i = cond (eqb i 2) 0 2

better_own : own_list A two_none_two ≡ better
unfolding own_list size_in
better_own = refl

-- so it is in playing order.
pub better_in_order : PlayingOrder A better
unfolding size_in fits
better_in_order =
    let sized = accepted_sized A A_plan.accepted in
    subst (PlayingOrder A) better_own (own_carries A sized two_none_two few ((decision A sized two_none_two few).1 tt)).1
  where
    few : Choice A two_none_two
    few i lo hi = in_all (eqb i 2)
      where
        in_all : (b : Bool) → cond b 0 2 ≤ 2
        in_all true = omega arith
        in_all false = omega arith

better_passes_A : Passes A better
unfolding verdict size_in
better_passes_A = (passes_iff A better).0 refl

better_1 : layer_count A better 1 ≡ 2
unfolding size_in
better_1 = refl

better_0 : layer_count A better 0 ≡ 2
unfolding size_in
better_0 = refl

pub needs_layers_below : (p : ℕ → ℕ) → IsPlan A p → WhateverBelow A p 1 → ⊥
needs_layers_below p d most =
    let e : count_of A p 1 ≡ 1 = count_is A_plan p d 1 (omega arith) in
    omega (arith, most better better_passes_A better_in_order, better_1)

pub needs_the_limit : (p : ℕ → ℕ) → IsPlan A p → FirstDifference A p → ⊥
needs_the_limit p d most =
    let e : count_of A p 1 ≡ 1 = count_is A_plan p d 1 (omega arith) in
    let same : (m : ℕ) → m < 1 → layer_count A better m ≡ count_of A p m = bases p d in
    omega (arith, most better better_passes_A 1 (omega arith) same (λ s. omega (arith, better_1)), better_1)
  where
    bases : (p : ℕ → ℕ) → IsPlan A p → (m : ℕ) → m < 1 → layer_count A better m ≡ count_of A p m
    bases p d zero h = let e : count_of A p 0 ≡ 2 = count_is A_plan p d 0 (omega arith) in omega (arith, better_0)
    bases p d (suc m) h = absurd (omega arith)

-- ---- equal chunks in "carries the base layer of at most as many chunks as the plan"

-- C 2, L 1, s 2, limit 1, one layer, 1 byte in chunk 1 and 3 in chunk 2, B = 3, 1, 1.
abbrev pub heavy : Job
heavy = job_of (record { chunks = 2; span = 1; delay = 2; limit = 1 }) (1 ∷ []) (record { chunk = 2; layer = 0; bytes = 3 } ∷ []) (3 ∷ 1 ∷ 1 ∷ [])

pub heavy_plan : PlanIs heavy (0 ∷ 1 ∷ []) (1 ∷ 0 ∷ 0 ∷ 0 ∷ []) (row 1 2 0 3 ∷ [])
unfolding refusal plan own_list size_in
heavy_plan = planned _ _ _ _ refl refl refl refl

-- It passes with marks 1, 1: two bases.
abbrev pub heavy_list : List Row
heavy_list = row 1 2 0 3 ∷ row 2 1 0 1 ∷ []

pub heavy_passes : (verdict heavy (1 ∷ 1 ∷ []) heavy_list ≡ 0) × (layer_count heavy heavy_list 0 ≡ 2)
unfolding verdict size_in
heavy_passes = (refl, refl)

-- No list in playing order has both,
pub heavy_not_in_order : CanCarry heavy (λ i. 1) → ⊥
unfolding size_in fits
heavy_not_in_order c = (decision heavy (accepted_sized heavy heavy_plan.accepted) (λ i. 1) (λ i u v. omega arith)).0 c

-- but this one does, out of order.
pub bases_need_equal_chunks : (p : ℕ → ℕ) → IsPlan heavy p → MostBases heavy p → ⊥
unfolding verdict size_in
bases_need_equal_chunks p d most =
    let e : count_of heavy p 0 ≡ 1 = count_is heavy_plan p d 0 (omega arith) in
    let l : layer_count heavy heavy_list 0 ≡ 2 = refl in
    let m = most heavy_list ((passes_iff heavy heavy_list).0 refl) in
    omega arith

-- ---- equal chunks in the other two clauses

-- C 3, L 1, s 1, limit 3, sizes 1 and 1, layer 1 of chunk 3 of 2 bytes, B = 5, 0, 0.
abbrev pub thick : Job
thick =
    job_of (record { chunks = 3; span = 1; delay = 1; limit = 3 }) (1 ∷ 1 ∷ []) (record { chunk = 3; layer = 1; bytes = 2 } ∷ []) (5 ∷ 0 ∷ 0 ∷ [])

-- Layer 1 is tried for chunk 3 first: marks 1, 1, 3, counts 3, 1.
pub thick_plan : PlanIs thick (1 ∷ 1 ∷ 3 ∷ []) (3 ∷ 1 ∷ 0 ∷ 0 ∷ []) (row 1 1 0 1 ∷ row 1 2 0 1 ∷ row 1 3 0 1 ∷ row 1 3 1 2 ∷ [])
unfolding refusal plan own_list size_in
thick_plan = planned _ _ _ _ refl refl refl refl

-- It passes with marks 3, 3, 1: counts 3, 2.
abbrev pub thick_list : List Row
thick_list = row 1 1 0 1 ∷ row 1 1 1 1 ∷ row 1 2 0 1 ∷ row 1 2 1 1 ∷ row 1 3 0 1 ∷ []

pub thick_passes : (verdict thick (3 ∷ 3 ∷ 1 ∷ []) thick_list ≡ 0) × (layer_count thick thick_list 0 ≡ 3) × (layer_count thick thick_list 1 ≡ 2)
unfolding verdict size_in
thick_passes = (refl, refl, refl)

-- It is the own list of layers 2, 2, 1, so in playing order.
abbrev two_two_one : ℕ → ℕ
two_two_one i = cond (leb 3 i) 1 2

thick_own : own_list thick two_two_one ≡ thick_list
unfolding own_list size_in
thick_own = refl

pub thick_in_order : PlayingOrder thick thick_list
unfolding size_in fits
thick_in_order =
    let sized = accepted_sized thick thick_plan.accepted in
    subst (PlayingOrder thick) thick_own (own_carries thick sized two_two_one few ((decision thick sized two_two_one few).1 tt)).1
  where
    few : Choice thick two_two_one
    few i lo hi = in_all (leb 3 i)
      where
        in_all : (b : Bool) → cond b 1 2 ≤ 2
        in_all true = omega arith
        in_all false = omega arith

thick_listed : Passes thick thick_list
unfolding verdict size_in
thick_listed = (passes_iff thick thick_list).0 refl

thick_bases : (i m : ℕ) → Layer thick i m → m < 1 → Carried thick thick_list i m
unfolding size_in
thick_bases zero m r h = absurd (omega (arith, r.chunk_low))
thick_bases (suc zero) zero r h = refl
thick_bases (suc zero) (suc m) r h = absurd (omega arith)
thick_bases (suc (suc zero)) zero r h = refl
thick_bases (suc (suc zero)) (suc m) r h = absurd (omega arith)
thick_bases (suc (suc (suc zero))) zero r h = refl
thick_bases (suc (suc (suc zero))) (suc m) r h = absurd (omega arith)
thick_bases (suc (suc (suc (suc i)))) m r h = absurd (omega (arith, r.chunk_high))

pub layers_need_equal_chunks : (p : ℕ → ℕ) → IsPlan thick p → MostOfLayer thick p 1 → ⊥
layers_need_equal_chunks p d most =
    let e : count_of thick p 1 ≡ 1 = count_is thick_plan p d 1 (omega arith) in
    omega (arith, most thick_list thick_listed thick_in_order (λ i m r h k. thick_bases i m r h), thick_passes.2)

-- Its limit holds the programme.
pub first_difference_needs_equal_chunks : (p : ℕ → ℕ) → IsPlan thick p → HoldsAll thick × (FirstDifference thick p → ⊥)
first_difference_needs_equal_chunks p d = (
  omega arith,
  λ most.
      let e : count_of thick p 1 ≡ 1 = count_is thick_plan p d 1 (omega arith) in
      omega (arith, most thick_list thick_listed 1 (omega arith) bases (λ s. omega (arith, thick_passes.2)), thick_passes.2),
) where
  bases : (m : ℕ) → m < 1 → layer_count thick thick_list m ≡ count_of thick p m
  bases zero h = let e : count_of thick p 0 ≡ 3 = count_is thick_plan p d 0 (omega arith) in omega (arith, thick_passes.1)
  bases (suc m) h = absurd (omega arith)
