-- Lemmas. The search with a stack of needs, whose test takes the same time at each step, finds what
-- the search by any telling test finds; and its recursion turn by turn, as the code goes.
use Rattle.std.specs.Prelude.{ℕ, zero, suc, ◌≤◌, ◌≡◌, refl, Bool, true, false, cond, not, List, [], ◌∷◌, ◌↔◌, T}
use Rattle.std.proofs.Common.{ap, ◌∙◌, arith}
use Rattle.theory_basics.specs.lemmas.Tests.{T_true, not_T_false, same_test}
use Rattle.job.specs.Job.{Job, chunks, due, held_most}
use Rattle.theory_plan.specs.Bases.{Asc, base_size}
use Rattle.theory_plan.specs.Plan.{after}
use Rattle.theory_plan.specs.lemmas.Ascending.{asc_lower}
use Rattle.theory_plan.specs.lemmas.Linear.{candidate_is, keeps_iff_feas, needs_of_lem}
use Rattle.theory_plan.specs.lemmas.Trials.{Stack, candidate, keeps}
use Rattle.theory_search.specs.Statement.{Chunks}
use Rattle.theory_search.specs.Search.{Walked, cut, goes_on, meet, search, spend, step}
use Rattle.theory_search.specs.lemmas.Fitting.{Good}

-- ---- the search with a stack of needs

abbrev pub empty : Stack
empty = record { needs = []; chunks = [] }

-- s: the base's bytes of a chunk; d: its due slot; A t: what is forecast after slot t; h: how many
-- chunks may be held.
module _ (s d A : ℕ → ℕ) (h : ℕ) where
  -- Chunk i in front of the kept ones.
  abbrev pub in_front : Stack → ℕ → Stack
  in_front o i = record { needs = candidate s d A o.needs i ∷ o.needs; chunks = i ∷ o.chunks }

  abbrev pub search_stack : ℕ → Stack → Walked → Walked
  search_stack zero o w = w
  search_stack (suc i) o w =
      step (search_stack i o)
      (step (λ r. let next = search_stack i (in_front o (suc i)) (meet (suc i ∷ o.chunks) r) in cond (keeps s d A h o.needs (suc i)) next r) w)

-- ---- it finds the same

step_same : (f g : Walked → Walked) (s : Walked) → f (spend s) ≡ g (spend s) → step f s ≡ step g s
step_same f g s e = ap (λ (r : Walked). cond (goes_on s) r (cut s)) e

keep_same : (a b : Bool) (f g : Walked → Walked) (s : Walked) → a ≡ b → (T b → (r : Walked) → f r ≡ g r) → step (λ r. cond a (f r) r) s ≡ step (λ r. cond b (g r) r) s
keep_same true true f g s e h = step_same f g s (h tt (spend s))
keep_same true false f g s e h = let z : ◌≡◌ {A = ℕ} 0 1 = cc in absurd (omega arith)
keep_same false true f g s e h = let z : ◌≡◌ {A = ℕ} 0 1 = cc in absurd (omega arith)
keep_same false false f g s e h = refl

module _ (j : Job) (allowed : List ℕ → Bool) (good : (ks : List ℕ) → Chunks j ks → T (allowed ks) ↔ Good j ks) where
  -- What the stack holds for a set.
  abbrev needed : List ℕ → List ℕ
  needed = needs_of_lem (base_size j) (due j) (after j)

  abbrev exact : List ℕ → Stack
  exact ks = record { needs = needed ks; chunks = ks }

  abbrev by_stack : ℕ → Stack → Walked → Walked
  by_stack = search_stack (base_size j) (due j) (after j) (held_most j)

  abbrev stack_keeps : List ℕ → ℕ → Bool
  stack_keeps ks i = keeps (base_size j) (due j) (after j) (held_most j) (needed ks) i

  in_front_lem : (i : ℕ) (ks : List ℕ) → in_front (base_size j) (due j) (after j) (held_most j) (exact ks) i ≡ exact (i ∷ ks)
  in_front_lem i ks = ap (λ (n : ℕ). record { needs = n ∷ needed ks; chunks = i ∷ ks }) (candidate_is (base_size j) (due j) (after j) ks i)

  -- The test of the stack is the test of the set.
  same_keep : (i : ℕ) (ks : List ℕ) → Chunks j (i ∷ ks) → Good j ks → stack_keeps ks i ≡ allowed (i ∷ ks)
  same_keep i ks a g =
      let u = keeps_iff_feas (base_size j) (due j) (after j) (held_most j) i ks g in
      let v = good (i ∷ ks) a in
      same_test (stack_keeps ks i) (allowed (i ∷ ks)) (λ t. v.1 (u.0 t)) (λ t. u.1 (v.0 t))

  pub stack_same : (i : ℕ) (ks : List ℕ) (s : Walked) → i ≤ chunks j → Asc (suc i) (chunks j) ks → Good j ks → by_stack i (exact ks) s ≡ search allowed i ks s
  stack_same zero ks s h a g = refl
  stack_same (suc i) ks s h a g =
      let front : Chunks j (suc i ∷ ks) = (omega arith, h, a) in
      let on : Walked → Walked = λ r. by_stack i (in_front (base_size j) (due j) (after j) (held_most j) (exact ks) (suc i)) (meet (suc i ∷ ks) r) in
      let on' : Walked → Walked = λ r. search allowed i (suc i ∷ ks) (meet (suc i ∷ ks) r) in
      let first : step (λ r. cond (stack_keeps ks (suc i)) (on r) r) s ≡ step (λ r. cond (allowed (suc i ∷ ks)) (on' r) r) s =
      keep_same (stack_keeps ks (suc i)) (allowed (suc i ∷ ks)) on on' s (same_keep (suc i) ks front g)
      (λ t r. ap (λ (o : Stack). by_stack i o (meet (suc i ∷ ks) r)) (in_front_lem (suc i) ks) ∙ stack_same i (suc i ∷ ks) (meet (suc i ∷ ks) r) (omega arith) (omega arith, h, a) ((good (suc i ∷ ks) front).0 t)) in
      let rest : Walked = step (λ r. cond (allowed (suc i ∷ ks)) (on' r) r) s in
      ap (step (by_stack i (exact ks))) first
      ∙ step_same (by_stack i (exact ks)) (search allowed i ks) rest (stack_same i ks (spend rest) (omega arith) (asc_lower (suc i) (suc (suc i)) (chunks j) ks (omega arith) a) g)

-- ---- turn by turn, as the code goes

module _ (s d A : ℕ → ℕ) (h i : ℕ) (o : Stack) (w : Walked) where
  -- No step is left for the keep.
  pub search_stops : T (not (goes_on w)) → search_stack s d A h (suc i) o w ≡ cut w
  search_stops t = let e = not_T_false (goes_on w) t in rw e

  -- What the keep leads to: the deeper search if the chunk can be kept, else the step alone.
  abbrev pub kept_turn : Walked
  kept_turn = let next = search_stack s d A h i (in_front s d A h o (suc i)) (meet (suc i ∷ o.chunks) (spend w)) in cond (keeps s d A h o.needs (suc i)) next (spend w)

  -- No step is left for the skip.
  pub search_keeps : T (goes_on w) → T (not (goes_on kept_turn)) → search_stack s d A h (suc i) o w ≡ cut kept_turn
  search_keeps t u =
      let e = T_true (goes_on w) t in
      let e' = not_T_false (goes_on kept_turn) u in
      ap (step (search_stack s d A h i o)) (first e) ∙ rw e'
    where
      first : goes_on w ≡ true → cond (goes_on w) kept_turn (cut w) ≡ kept_turn
      first e = rw e

  -- The keep and the skip.
  pub search_skips : T (goes_on w) → T (goes_on kept_turn) → search_stack s d A h (suc i) o w ≡ search_stack s d A h i o (spend kept_turn)
  search_skips t u =
      let e = T_true (goes_on w) t in
      let e' = T_true (goes_on kept_turn) u in
      ap (step (search_stack s d A h i o)) (first e) ∙ rw e'
    where
      first : goes_on w ≡ true → cond (goes_on w) kept_turn (cut w) ≡ kept_turn
      first e = rw e
