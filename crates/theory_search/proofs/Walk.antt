-- Lemmas. The walk as a list of steps and the search by recursion say the same.
use Rattle.std.specs.Prelude.{ℕ, zero, suc, ◌+◌, ◌-◌, ◌≤◌, ◌≡◌, refl, Bool, true, false, cond, List, [], ◌∷◌, ◌++◌, length, take, leb, ltb}
use Rattle.std.proofs.Common.{sym, ap, ◌∙◌, arith, le-leb, lt-ltb, le-ltb, leb→le, le→leb, ltb→lt, nltb→le}
use Rattle.std.proofs.lemmas.Bool.{lt-leb}
use Rattle.theory_basics.specs.lemmas.Tests.{by_cond, same_test}
use Rattle.theory_search.specs.Statement.{Step, refused, met, walk, sets_in}
use Rattle.theory_search.specs.Search.{Walked, better, cut, goes_on, meet, search, spend, step}

-- ---- the better of two sets

pub better_most : (a b : List ℕ) → length b ≤ length (better a b)
better_most a b = by_cond (λ (c : List ℕ). length b ≤ length c) (ltb (length a) (length b)) (λ t. omega arith) (λ t. nltb→le (length a) (length b) t)

pub better_more : (a b : List ℕ) → length a ≤ length (better a b)
better_more a b = by_cond (λ (c : List ℕ). length a ≤ length c) (ltb (length a) (length b)) (λ t. omega (arith, ltb→lt (length a) (length b) t)) (λ t. omega arith)

pub better_stays : (a b : List ℕ) → length b ≤ length a → better a b ≡ a
better_stays a b h = rw (le-ltb (length a) (length b) h)

-- The best of b and the sets.
abbrev pub best_of : List ℕ → List (List ℕ) → List ℕ
best_of b [] = b
best_of b (ks ∷ sets) = best_of (better b ks) sets

pub best_more : (b : List ℕ) (sets : List (List ℕ)) → length b ≤ length (best_of b sets)
best_more b [] = omega arith
best_more b (ks ∷ sets) = omega (arith, best_more (better b ks) sets, better_more b ks)

-- ---- one step after the other

-- What a step does.
abbrev noted : Step → Walked → Walked
noted refused s = s
noted (met ks) s = meet ks s

abbrev one : Step → Walked → Walked
one x s = cond (goes_on s) (noted x (spend s)) (cut s)

abbrev pub run : List Step → Walked → Walked
run [] s = s
run (x ∷ xs) s = run xs (one x s)

run_append : (a b : List Step) (s : Walked) → run (a ++ b) s ≡ run b (run a s)
run_append [] b s = refl
run_append (x ∷ a) b s = run_append a b (one x s)

-- Once cut, nothing changes.
run_cut : (ss : List Step) (s : Walked) → run ss (cut s) ≡ cut s
run_cut [] s = refl
run_cut (x ∷ xs) s = run_cut xs s

one_more : (x : Step) (s : Walked) → length s.best ≤ length (one x s).best
one_more refused s = by_cond (λ (r : Walked). length s.best ≤ length r.best) (goes_on s) {x = spend s} {y = cut s} (λ t. omega arith) (λ t. omega arith)
one_more (met ks) s = by_cond (λ (r : Walked). length s.best ≤ length r.best) (goes_on s) {x = meet ks (spend s)} {y = cut s} (λ t. better_more s.best ks) (λ t. omega arith)

run_more : (ss : List Step) (s : Walked) → length s.best ≤ length (run ss s).best
run_more [] s = omega arith
run_more (x ∷ xs) s = omega (arith, one_more x s, run_more xs (one x s))

-- A step and what it leads to, where that is a run.
step_run : (on : Walked → Walked) (x : Step) (xs : List Step) (s : Walked) → on (spend s) ≡ run xs (noted x (spend s)) → step on s ≡ run (x ∷ xs) s
step_run on x xs s e = by (goes_on s)
  where
    by : (b : Bool) → cond b (on (spend s)) (cut s) ≡ run xs (cond b (noted x (spend s)) (cut s))
    by true = e
    by false = sym (run_cut xs s)

-- ---- the search runs the walk

meet_stays : (ks : List ℕ) (s : Walked) → length ks ≤ length s.best → s ≡ meet ks s
meet_stays ks s h = ap (λ (b : List ℕ). record { left = s.left; best = b; ended = s.ended }) (sym (better_stays s.best ks h))

-- The keep, with all that it leads to.
keep_runs :
    (b : Bool) (on : Walked → Walked) (ks : List ℕ) (ss : List Step) (s : Walked) →
    ((r : Walked) → length ks ≤ length r.best → on r ≡ run ss r) →
    step (λ r. cond b (on (meet ks r)) r) s ≡ run (cond b (met ks ∷ ss) (refused ∷ [])) s
keep_runs true on ks ss s f = step_run (λ r. on (meet ks r)) (met ks) ss s (f (meet ks (spend s)) (better_most s.best ks))
keep_runs false on ks ss s f = step_run (λ r. r) refused [] s refl

-- The skip, with all that it leads to.
skip_runs :
    (on : Walked → Walked) (ks : List ℕ) (ss : List Step) (s : Walked) → length ks ≤ length s.best →
    ((r : Walked) → length ks ≤ length r.best → on r ≡ run ss r) → step on s ≡ run (met ks ∷ ss) s
skip_runs on ks ss s h f = step_run on (met ks) ss s (f (spend s) h ∙ ap (run ss) (meet_stays ks (spend s) h))

pub search_runs : (allowed : List ℕ → Bool) (i : ℕ) (ks : List ℕ) (s : Walked) → length ks ≤ length s.best → search allowed i ks s ≡ run (walk allowed i ks) s
search_runs allowed zero ks s h = refl
search_runs allowed (suc i) ks s h =
    let b = allowed (suc i ∷ ks) in
    let kept : List Step = cond b (met (suc i ∷ ks) ∷ walk allowed i (suc i ∷ ks)) (refused ∷ []) in
    let first = keep_runs b (search allowed i (suc i ∷ ks)) (suc i ∷ ks) (walk allowed i (suc i ∷ ks)) s (λ r u. search_runs allowed i (suc i ∷ ks) r u) in
    ap (step (search allowed i ks)) first
    ∙ skip_runs (search allowed i ks) ks (walk allowed i ks) (run kept s) (omega (arith, run_more kept s)) (λ r u. search_runs allowed i ks r u)
    ∙ sym (run_append kept (met ks ∷ walk allowed i ks) s)

-- ---- a run is the steps cut at the budget

abbrev pub cut_at : List Step → ℕ → List ℕ → Walked
cut_at ss left b = record { left = left - length ss; best = best_of b (sets_in (take left ss)); ended = leb (length ss) left }

abbrev pub from : ℕ → List ℕ → Walked
from left b = record { left = left; best = b; ended = true }

same_moore_hodgson :
    {l m : ℕ} {a b : List ℕ} {e f : Bool} → l ≡ m → a ≡ b → e ≡ f →
    ◌≡◌ {A = Walked} (record { left = l; best = a; ended = e }) (record { left = m; best = b; ended = f })
same_moore_hodgson p q r = cc

leb_suc : (a b : ℕ) → leb a b ≡ leb (suc a) (suc b)
leb_suc a b = same_test (leb a b) (leb (suc a) (suc b)) (λ t. le→leb (suc a) (suc b) (omega (arith, leb→le a b t))) (λ t. le→leb a b (omega (arith, leb→le (suc a) (suc b) t)))

pub run_cuts : (ss : List Step) (left : ℕ) (b : List ℕ) → run ss (from left b) ≡ cut_at ss left b
run_cuts [] zero b = refl
run_cuts [] (suc n) b = same_moore_hodgson (omega arith) refl (sym (le-leb 0 (suc n) (omega arith)))
run_cuts (x ∷ xs) zero b = run_cut xs (from 0 b) ∙ same_moore_hodgson (omega arith) refl (sym (lt-leb (suc (length xs)) 0 (omega arith)))
run_cuts (refused ∷ xs) (suc n) b =
    let on : ltb 0 (suc n) ≡ true = lt-ltb 0 (suc n) (omega arith) in
    let e : suc n - 1 ≡ n = omega arith in
    rw (on, e) (run_cuts xs n b ∙ same_moore_hodgson (omega arith) refl (leb_suc (length xs) n))
run_cuts (met ks ∷ xs) (suc n) b =
    let on : ltb 0 (suc n) ≡ true = lt-ltb 0 (suc n) (omega arith) in
    let e : suc n - 1 ≡ n = omega arith in
    rw (on, e) (run_cuts xs n (better b ks) ∙ same_moore_hodgson (omega arith) refl (leb_suc (length xs) n))

-- The whole search.
pub search_cuts : (allowed : List ℕ → Bool) (c budget : ℕ) → search allowed c [] (from budget []) ≡ cut_at (walk allowed c []) budget []
search_cuts allowed c budget = search_runs allowed c [] (from budget []) (omega arith) ∙ run_cuts (walk allowed c []) budget []
