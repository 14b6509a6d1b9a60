-- Lemmas. The sets met in the walk: each fits, no set that fits is larger than the best of the
-- whole walk, and the first 2C steps meet the set that document 01 keeps.
use Rattle.std.specs.Prelude.{ℕ, zero, suc, ◌+◌, ◌*◌, ◌-◌, ◌≤◌, ◌≡◌, refl, Bool, true, false, cond, List, [], ◌∷◌, ◌++◌, ◌↔◌, length, take, drop, T, ltb}
use Rattle.std.proofs.Common.{◌∙◌, ⊎_elim, arith, lt-ltb, take-add}
use Rattle.std.proofs.Math.Seq.{take-nil}
use Rattle.theory_basics.specs.Tests.{All}
use Rattle.theory_basics.specs.lemmas.Tests.{T_true, all_append, by_cond, not_T_false, test}
use Rattle.job.specs.Job.{Job, chunks, due, held_most}
use Rattle.theory_plan.specs.Bases.{Asc, base_size}
use Rattle.theory_plan.specs.Plan.{after, picked}
use Rattle.theory_plan.specs.lemmas.Ascending.{asc_lower}
use Rattle.theory_plan.specs.lemmas.Need.{feas_tail}
use Rattle.theory_search.specs.Statement.{Chunks, Step, met, refused, sets_in, walk}
use Rattle.theory_search.specs.Search.{better}
use Rattle.theory_search.proofs.Walk.{best_more, best_of, better_most, better_stays}
use Rattle.theory_search.specs.lemmas.Fitting.{Good}

-- ---- the best of steps

-- The best of b and the sets met in the steps.
abbrev pub best_in : List ℕ → List Step → List ℕ
best_in b ss = best_of b (sets_in ss)

pub best_append : (b : List ℕ) (x y : List Step) → best_in b (x ++ y) ≡ best_in (best_in b x) y
best_append b [] y = refl
best_append b (refused ∷ x) y = best_append b x y
best_append b (met ks ∷ x) y = best_append (better b ks) x y

pub best_first : (b : List ℕ) (x y : List Step) → length (best_in b x) ≤ length (best_in b (x ++ y))
best_first b x y = rw (best_append b x y) (best_more (best_in b x) (sets_in y))

-- More steps never find fewer.
pub best_longer : (b : List ℕ) (ss : List Step) (m n : ℕ) → m ≤ n → length (best_in b (take m ss)) ≤ length (best_in b (take n ss))
best_longer b ss m n h =
    let e : m + (n - m) ≡ n = omega arith in
    rw (← e, take-add m (n - m) ss) (best_first b (take m ss) (take (n - m) (drop m ss)))

-- ---- what holds of each set met

abbrev pub OfSet : (List ℕ → Type 0) → Step → Type 0
OfSet P refused = Unit {0}
OfSet P (met ks) = P ks

pub best_of_lem : (P : List ℕ → Type 0) (b : List ℕ) (ss : List Step) → P b → All (OfSet P) ss → P (best_in b ss)
best_of_lem P b [] p a = p
best_of_lem P b (refused ∷ ss) p a = best_of_lem P b ss p a.1
best_of_lem P b (met ks ∷ ss) p a = best_of_lem P (better b ks) ss (by_cond P (ltb (length b) (length ks)) (λ t. a.0) (λ t. p)) a.1

pub all_take : (P : Step → Type 0) (n : ℕ) (ss : List Step) → All P ss → All P (take n ss)
all_take P zero ss a = tt
all_take P (suc n) [] a = tt
all_take P (suc n) (x ∷ ss) a = (a.0, all_take P n ss a.1)

-- ---- the walk with a test that tells what fits

-- Beside ks, the chunks of 1 .. i that pass.
abbrev pub onto : (ℕ → Bool) → ℕ → List ℕ → List ℕ
onto q zero ks = ks
onto q (suc i) ks = onto q i (cond (q (suc i)) (suc i ∷ ks) ks)

pub onto_picked : (q : ℕ → Bool) (n m : ℕ) → onto q n (picked q n m) ≡ picked q 0 (n + m)
onto_picked q zero m = let e : 0 + m ≡ m = omega arith in rw e
onto_picked q (suc n) m = let e : suc n + m ≡ n + suc m = omega arith in rw e (onto_picked q n (suc m))

module _ (j : Job) (allowed : List ℕ → Bool) (good : (ks : List ℕ) → Chunks j ks → T (allowed ks) ↔ Good j ks) where
  -- A set of chunks of the job that fits.
  abbrev pub Fit : List ℕ → Type 0
  Fit ks = Chunks j ks × Good j ks

  asc_to_chunks : (i : ℕ) (ks : List ℕ) → Asc (suc i) (chunks j) ks → Chunks j ks
  asc_to_chunks i ks a = asc_lower 1 (suc i) (chunks j) ks (omega arith) a

  -- Each set met fits.
  pub met_fit : (i : ℕ) (ks : List ℕ) → i ≤ chunks j → Asc (suc i) (chunks j) ks → Good j ks → All (OfSet Fit) (walk allowed i ks)
  met_fit zero ks h a g = tt
  met_fit (suc i) ks h a g =
      let a' : Asc (suc i) (chunks j) ks = asc_lower (suc i) (suc (suc i)) (chunks j) ks (omega arith) a in
      let front : Chunks j (suc i ∷ ks) = (omega arith, h, a) in
      let next : Asc (suc i) (chunks j) (suc i ∷ ks) = (omega arith, h, a) in
      let skip : All (OfSet Fit) (met ks ∷ walk allowed i ks) = ((asc_to_chunks i ks a', g), met_fit i ks (omega arith) a' g) in
      all_append (OfSet Fit) (cond (allowed (suc i ∷ ks)) (met (suc i ∷ ks) ∷ walk allowed i (suc i ∷ ks)) (refused ∷ [])) (met ks ∷ walk allowed i ks)
      (by_cond (All (OfSet Fit)) (allowed (suc i ∷ ks)) {x = met (suc i ∷ ks) ∷ walk allowed i (suc i ∷ ks)} {y = refused ∷ []}
      (λ t. let g' = (good (suc i ∷ ks) front).0 t in ((front, g'), met_fit i (suc i ∷ ks) (omega arith) next g'))
      (λ t. (tt, tt)))
      skip

  onto_good : (q : ℕ → Bool) (i : ℕ) (ks : List ℕ) → Good j (onto q i ks) → Good j ks
  onto_good q zero ks g = g
  onto_good q (suc i) ks g = by (q (suc i)) (onto_good q i (cond (q (suc i)) (suc i ∷ ks) ks) g)
    where
      by : (b : Bool) → Good j (cond b (suc i ∷ ks) ks) → Good j ks
      by true f = feas_tail (base_size j) (due j) (after j) (held_most j) (suc i) ks f
      by false f = f

  -- The whole walk misses no set that fits.
  pub walk_reaches :
      (q : ℕ → Bool) (i : ℕ) (ks b : List ℕ) → i ≤ chunks j → Asc (suc i) (chunks j) ks → length ks ≤ length b → Good j (onto q i ks) →
      length (onto q i ks) ≤ length (best_in b (walk allowed i ks))
  walk_reaches q zero ks b h a l g = l
  walk_reaches q (suc i) ks b h a l g =
      let front : Chunks j (suc i ∷ ks) = (omega arith, h, a) in
      let rest : List Step = met ks ∷ walk allowed i ks in
      let kept : List Step = cond (allowed (suc i ∷ ks)) (met (suc i ∷ ks) ∷ walk allowed i (suc i ∷ ks)) (refused ∷ []) in
      ⊎_elim
      (λ t.
      let e : q (suc i) ≡ true = T_true (q (suc i)) t in
      let g' : Good j (onto q i (suc i ∷ ks)) = rw e at g in
      let ok : allowed (suc i ∷ ks) ≡ true = T_true (allowed (suc i ∷ ks)) ((good (suc i ∷ ks) front).1 (onto_good q i (suc i ∷ ks) g')) in
      let r = walk_reaches q i (suc i ∷ ks) (better b (suc i ∷ ks)) (omega arith) (omega arith, h, a) (better_most b (suc i ∷ ks)) g' in
      rw (e, ok) (omega (arith, r, best_first (better b (suc i ∷ ks)) (walk allowed i (suc i ∷ ks)) rest)))
      (λ t.
      let e : q (suc i) ≡ false = not_T_false (q (suc i)) t in
      let g' : Good j (onto q i ks) = rw e at g in
      let r = walk_reaches q i ks (better (best_in b kept) ks) (omega arith) (asc_lower (suc i) (suc (suc i)) (chunks j) ks (omega arith) a) (better_most (best_in b kept) ks) g' in
      rw (e, best_append b kept rest) r)
      (test (q (suc i)))

-- ---- document 01's way: keep whatever can be kept

abbrev pub greedy : (List ℕ → Bool) → ℕ → List ℕ → List ℕ
greedy allowed zero ks = ks
greedy allowed (suc i) ks = greedy allowed i (cond (allowed (suc i ∷ ks)) (suc i ∷ ks) ks)

best_take : (b : List ℕ) (n : ℕ) (x y : List Step) → length (best_in b (take n x)) ≤ length (best_in b (take n (x ++ y)))
best_take b zero x y = omega arith
best_take b (suc n) [] y = best_more b (sets_in (take (suc n) y))
best_take b (suc n) (refused ∷ x) y = best_take b n x y
best_take b (suc n) (met ks ∷ x) y = best_take (better b ks) n x y

-- Two steps a chunk are enough to meet it.
pub greedy_reached :
    (allowed : List ℕ → Bool) (i : ℕ) (ks b : List ℕ) (n : ℕ) → 2 * i ≤ n → length ks ≤ length b →
    length (greedy allowed i ks) ≤ length (best_in b (take n (walk allowed i ks)))
greedy_reached allowed zero ks b n h l = omega (arith, best_more b (sets_in (take n [])))
greedy_reached allowed (suc i) ks b zero h l = absurd (omega arith)
greedy_reached allowed (suc i) ks b (suc zero) h l = absurd (omega arith)
greedy_reached allowed (suc i) ks b (suc (suc n)) h l =
    let k : List ℕ = suc i ∷ ks in
    ⊎_elim
    (λ t.
    let ok : allowed k ≡ true = T_true (allowed k) t in
    let r = greedy_reached allowed i k (better b k) (suc n) (omega arith) (better_most b k) in
    rw ok (omega (arith, r, best_take (better b k) (suc n) (walk allowed i k) (met ks ∷ walk allowed i ks))))
    (λ t.
    let no : allowed k ≡ false = not_T_false (allowed k) t in
    rw no (greedy_reached allowed i ks (better b ks) n (omega arith) (better_most b ks)))
    (test (allowed k))

-- ---- it is the best, if none is better

best_join : (b : List ℕ) (x y : List (List ℕ)) → best_of (best_of b x) y ≡ best_of b (x ++ y)
best_join b [] y = refl
best_join b (k ∷ x) y = best_join (better b k) x y

-- Where no set is larger, the best is the first.
pub best_stays : (b : List ℕ) (sets : List (List ℕ)) → length (best_of b sets) ≤ length b → best_of b sets ≡ b
best_stays b [] h = refl
best_stays b (k ∷ sets) h =
    let e = better_stays b k (omega (arith, better_most b k, best_more (better b k) sets)) in
    rw e (best_stays b sets (rw e at h))

take_both : (n : ℕ) (x y : List Step) → take n (x ++ y) ≡ take n x ++ take (n - length x) y
take_both zero x y = let e : 0 - length x ≡ 0 = omega arith in rw e
take_both (suc n) [] y = let e : suc n - 0 ≡ suc n = omega arith in rw e
take_both (suc n) (s ∷ x) y = let e : suc n - suc (length x) ≡ n - length x = omega arith in rw (e, take_both n x y)

-- The best set met is the greedy one, or one met after it.
abbrev AfterGreedy : (List ℕ → Bool) → ℕ → List ℕ → ℕ → Type 0
AfterGreedy allowed i ks n = (sets : List (List ℕ)) × (best_in ks (take n (walk allowed i ks)) ≡ best_of (greedy allowed i ks) sets)

pub greedy_first : (allowed : List ℕ → Bool) (i : ℕ) (ks : List ℕ) (n : ℕ) → 2 * i ≤ n → AfterGreedy allowed i ks n
greedy_first allowed zero ks n h = ([], rw (take-nil n))
greedy_first allowed (suc i) ks zero h = absurd (omega arith)
greedy_first allowed (suc i) ks (suc zero) h = absurd (omega arith)
greedy_first allowed (suc i) ks (suc (suc n)) h =
    let k : List ℕ = suc i ∷ ks in
    let rest : List Step = met ks ∷ walk allowed i ks in
    ⊎_elim
    (λ t.
    let ok : allowed k ≡ true = T_true (allowed k) t in
    let b : better ks k ≡ k = rw (lt-ltb (length ks) (length k) (omega arith)) in
    let r = greedy_first allowed i k (suc n) (omega arith) in
    let behind : List Step = take (suc n - length (walk allowed i k)) rest in
    rw (ok, b, take_both (suc n) (walk allowed i k) rest)
    (r.0 ++ sets_in behind, best_append k (take (suc n) (walk allowed i k)) behind ∙ rw r.1 (best_join (greedy allowed i k) r.0 (sets_in behind))))
    (λ t.
    let no : allowed k ≡ false = not_T_false (allowed k) t in
    let b : better ks ks ≡ ks = better_stays ks ks (omega arith) in
    rw (no, b) (greedy_first allowed i ks n (omega arith)))
    (test (allowed k))

-- ---- two tests that agree on all sets make one walk

pub walk_cong :
    (c : ℕ) (a b : List ℕ → Bool) → ((ks : List ℕ) → Asc 1 c ks → a ks ≡ b ks) → (i : ℕ) (ks : List ℕ) → i ≤ c → Asc (suc i) c ks →
    walk a i ks ≡ walk b i ks
walk_cong c a b e zero ks h s = refl
walk_cong c a b e (suc i) ks h s =
    let x = e (suc i ∷ ks) (omega arith, h, s) in
    let y = walk_cong c a b e i (suc i ∷ ks) (omega arith) (omega arith, h, s) in
    let z = walk_cong c a b e i ks (omega arith) (asc_lower (suc i) (suc (suc i)) c ks (omega arith) s) in
    cc
