-- Lemmas. The queue of the kept chunks with their releases: what it needs, if the chunks fit, and
-- what it holds of each layer. Sections 1 and 3 of the argument.
use Rattle.std.specs.Prelude.{ℕ, zero, suc, ◌+◌, ◌-◌, ◌≤◌, ◌<◌, max, ◌≡◌, refl, Bool, false, cond, ◌&&◌, List, [], ◌∷◌, ◌++◌, map, length, get_or, take, drop, replicate, ltb, eqb}
use Rattle.std.proofs.Common.{ap, ◌∙◌, ⊎_elim, arith, add-one, eq-eqb, ne_eqb, lt-ltb, le-ltb, length-append, drop-drop, get_or-append-add, eqb→eq, ltb→lt, nltb→le}
use Rattle.std.proofs.lemmas.List.{length-map, length-replicate, get_or-replicate}
use Rattle.std.proofs.Math.ListN.{get_or-append}
use Rattle.theory_basics.specs.lemmas.Tests.{test, neqb_ne}
use Rattle.theory_plan.specs.lemmas.Fill.{QueuedPiece, Ready, left_of, needs}
use Rattle.theory_plan.specs.lemmas.Need.{Feas, Tails}
use Rattle.theory_plan.specs.lemmas.Feasible.{need_of}
use Rattle.theory_basics.specs.Lists.{has}
use Rattle.theory_basics.specs.Tests.{All}
use Rattle.theory_basics.specs.lemmas.Tables.{ne_lt, all_take}
use Rattle.theory_basics.specs.lemmas.Lists.{get_d_map}
use Rattle.theory_plan.specs.Bases.{Asc}
use Rattle.job.specs.Job.{Within}

-- ---- the queue

-- Layers m .. m + n - 1 of chunk k, released at r; and how many bytes they have.
abbrev pub pieces : (ℕ → ℕ → ℕ) → (k r m n : ℕ) → List QueuedPiece
pieces size k r m zero = []
pieces size k r m (suc n) = record { chunk = k; layer = m; left = size k m; ready = r } ∷ pieces size k r (suc m) n

abbrev pub weight : (ℕ → ℕ → ℕ) → (k m n : ℕ) → ℕ
weight size k m zero = 0
weight size k m (suc n) = size k m + weight size k (suc m) n

-- The layers of the chunks ks, of chunk k the first lv k, by chunk, then layer; rs are the chunks'
-- releases.
abbrev pub queue : (ℕ → ℕ → ℕ) → (ℕ → ℕ) → List ℕ → List ℕ → List QueuedPiece
queue size lv [] rs = []
queue size lv (k ∷ ks) [] = []
queue size lv (k ∷ ks) (r ∷ rs) = pieces size k r 0 (lv k) ++ queue size lv ks rs

abbrev pub ones : ℕ → List ℕ
ones n = replicate n 1

-- The releases of the chunks ks: 1 for the first h, then the due slot of the chunk h places before.
abbrev pub releases : (ℕ → ℕ) → ℕ → List ℕ → List ℕ
releases d h ks = ones h ++ map d ks

-- Each chunk, with those after it, fits behind its release.
abbrev pub RelOk : (w d A : ℕ → ℕ) → List ℕ → List ℕ → Type 0
RelOk w d A [] rs = Unit {0}
RelOk w d A (k ∷ ks) [] = ⊥
RelOk w d A (k ∷ ks) (r ∷ rs) = (need_of w d A (k ∷ ks) ≤ A (r - 1)) × RelOk w d A ks rs

relok_cons :
    (w d A : ℕ → ℕ) (gs : List ℕ) (r : ℕ) (rs : List ℕ) → need_of w d A gs ≤ A (r - 1) → RelOk w d A (drop 1 gs) rs →
    RelOk w d A gs (r ∷ rs)
relok_cons w d A [] r rs m t = tt
relok_cons w d A (g ∷ gs) r rs m t = (m, t)

relok_later : (w d A : ℕ → ℕ) (h : ℕ) (ks : List ℕ) → Tails w d A h ks → RelOk w d A (drop h ks) (map d ks)
relok_later w d A zero [] t = tt
relok_later w d A (suc h) [] t = tt
relok_later w d A zero (k ∷ ks) t = (t.0, relok_later w d A zero ks t.1)
relok_later w d A (suc h) (k ∷ ks) t =
    relok_cons w d A (drop h ks) (d k) (map d ks) t.0 (rw (drop-drop, add-one) (relok_later w d A (suc h) ks t.1))

relok_first :
    (w d A : ℕ → ℕ) (h : ℕ) (gs rs : List ℕ) → need_of w d A gs ≤ A 0 → RelOk w d A (drop h gs) rs → RelOk w d A gs (ones h ++ rs)
relok_first w d A zero gs rs m t = t
relok_first w d A (suc h) [] rs m t = tt
relok_first w d A (suc h) (g ∷ gs) rs m t = (m, relok_first w d A h gs rs (omega arith) t)

-- Chunks that fit do so behind their releases: `Feas` read at each chunk.
pub feas_relok : (w d A : ℕ → ℕ) (h : ℕ) (ks : List ℕ) → Feas w d A h ks → RelOk w d A ks (releases d h ks)
feas_relok w d A h ks f = relok_first w d A h ks (map d ks) f.whole (relok_later w d A h ks f.tails)

-- ---- the queue's need is its chunks'

-- Each layer queued of a chunk of 1 .. c has bytes.
abbrev pub SomeBytes : (size : ℕ → ℕ → ℕ) (lv : ℕ → ℕ) (c : ℕ) → Type 0
SomeBytes size lv c = (k i : ℕ) → 1 ≤ k → k ≤ c → i < lv k → 1 ≤ size k i

module _ (d A : ℕ → ℕ) (size : ℕ → ℕ → ℕ) where
  needs_pieces :
      (k r m n : ℕ) (q : List QueuedPiece) → needs d A (pieces size k r m n ++ q) ≤ weight size k m n + max (A (d k)) (needs d A q)
  needs_pieces k r m zero q = omega arith
  needs_pieces k r m (suc n) q = omega (arith, needs_pieces k r (suc m) n q)

  ready_pieces :
      (k r m n : ℕ) (q : List QueuedPiece) → ((i : ℕ) → i < n + m → 1 ≤ size k i) → Ready d A q →
      weight size k m n + max (A (d k)) (needs d A q) ≤ A (r - 1) → Ready d A (pieces size k r m n ++ q)
  ready_pieces k r m zero q pos a h = a
  ready_pieces k r m (suc n) q pos a h =
      (omega (arith, needs_pieces k r (suc m) n q), pos m (omega arith), ready_pieces k r (suc m) n q (λ i l. pos i (omega arith)) a (omega arith))

  pub ready_queue :
      (lv : ℕ → ℕ) (lo c : ℕ) → SomeBytes size lv c → 1 ≤ lo → (ks rs : List ℕ) → Asc lo c ks →
      RelOk (λ k. weight size k 0 (lv k)) d A ks rs →
      (needs d A (queue size lv ks rs) ≤ need_of (λ k. weight size k 0 (lv k)) d A ks) × Ready d A (queue size lv ks rs)
  ready_queue lv lo c pos l [] rs s a = (omega arith, tt)
  ready_queue lv lo c pos l (k ∷ ks) [] s a = absurd a
  ready_queue lv lo c pos l (k ∷ ks) (r ∷ rs) s a =
      let i = ready_queue lv (suc k) c pos (omega arith) ks rs s.2 a.1 in (
        omega (arith, needs_pieces k r 0 (lv k) (queue size lv ks rs)),
        ready_pieces k r 0 (lv k) (queue size lv ks rs) (λ i m. pos k i (omega arith) s.1 (omega arith)) i.1 (omega arith),
      )

-- ---- what the queue holds of a layer: all of it or nothing

-- Layer n of chunk i.
abbrev pub at_layer : ℕ → ℕ → ℕ → ℕ → Bool
at_layer i n k m = eqb k i && eqb m n

left_of_append : (P : ℕ → ℕ → Bool) (a b : List QueuedPiece) → left_of P (a ++ b) ≡ left_of P a + left_of P b
left_of_append P [] b = omega arith
left_of_append P (p ∷ ps) b = omega (arith, left_of_append P ps b)

left_of_other_chunk : (size : ℕ → ℕ → ℕ) (i n k r m c : ℕ) → (k ≡ i → ⊥) → left_of (at_layer i n) (pieces size k r m c) ≡ 0
left_of_other_chunk size i n k r m zero h = refl
left_of_other_chunk size i n k r m (suc c) h = rw (ne_eqb k i h) (omega (arith, left_of_other_chunk size i n k r (suc m) c h))

left_of_lower_layer : (size : ℕ → ℕ → ℕ) (i n r m c : ℕ) → n < m → left_of (at_layer i n) (pieces size i r m c) ≡ 0
left_of_lower_layer size i n r m zero h = refl
left_of_lower_layer size i n r m (suc c) h = rw (eq-eqb i i refl, ne_eqb m n (omega arith)) (omega (arith, left_of_lower_layer size i n r (suc m) c (omega arith)))

left_of_layer :
    (size : ℕ → ℕ → ℕ) (i n r m c : ℕ) → m ≤ n → left_of (at_layer i n) (pieces size i r m c) ≡ cond (ltb n (c + m)) (size i n) 0
left_of_layer size i n r m zero h = rw (le-ltb n (0 + m) (omega arith))
left_of_layer size i n r m (suc c) h =
    ⊎_elim
    (λ t.
    let e : m ≡ n = eqb→eq m n t in
    rw (eq-eqb i i refl, eq-eqb m n e, lt-ltb n (suc c + m) (omega arith)) (omega (arith, ap (size i) e, left_of_lower_layer size i n r (suc m) c (omega arith))))
    (λ t.
    let o : m ≡ n → ⊥ = neqb_ne m n t in
    let o' : m < n = ne_lt m n h o in
    let e : c + suc m ≡ suc c + m = omega arith in
    rw (eq-eqb i i refl, ne_eqb m n o) (omega (arith, rw e at (left_of_layer size i n r (suc m) c (omega arith)))))
    (test (eqb m n))

pub has_low : (lo c : ℕ) (ks : List ℕ) (i : ℕ) → Asc lo c ks → i < lo → has ks i ≡ false
has_low lo c [] i a h = refl
has_low lo c (k ∷ ks) i a h = rw (ne_eqb k i (omega arith), has_low (suc k) c ks i a.2 (omega arith))

pub left_of_queue :
    (w d A : ℕ → ℕ) (size : ℕ → ℕ → ℕ) (lv : ℕ → ℕ) (lo c i n : ℕ) (ks rs : List ℕ) → Asc lo c ks → RelOk w d A ks rs →
    left_of (at_layer i n) (queue size lv ks rs) ≡ cond (has ks i && ltb n (lv i)) (size i n) 0
left_of_queue w d A size lv lo c i n [] rs a r = refl
left_of_queue w d A size lv lo c i n (k ∷ ks) [] a r = absurd r
left_of_queue w d A size lv lo c i n (k ∷ ks) (q ∷ rs) a r =
    let u = left_of_append (at_layer i n) (pieces size k q 0 (lv k)) (queue size lv ks rs) in
    let v = left_of_queue w d A size lv (suc k) c i n ks rs a.2 r.1 in
    ⊎_elim
    (λ t.
    let e : k ≡ i = eqb→eq k i t in
    let z : has ks i ≡ false = has_low (suc k) c ks i a.2 (omega arith) in
    let v' = rw z at v in
    let e' : lv i + 0 ≡ lv i = omega arith in
    let x = rw e' at (left_of_layer size i n q 0 (lv i) (omega arith)) in
    let x' : left_of (at_layer i n) (pieces size k q 0 (lv k)) ≡ cond (ltb n (lv i)) (size i n) 0 = rw e x in
    rw (eq-eqb k i e) (omega (arith, u, v', x')))
    (λ t.
    let o : k ≡ i → ⊥ = neqb_ne k i t in
    rw (ne_eqb k i o) (omega (arith, u, v, left_of_other_chunk size i n k q 0 (lv k) o)))
    (test (eqb k i))

-- ---- releases

pub ones_at : (h : ℕ) (l : List ℕ) (q : ℕ) → q < h → get_or (ones h ++ l) q 0 ≡ 1
ones_at h l q u = get_or-append (ones h) l 0 q (omega (arith, length-replicate {A = ℕ} h 1)) ∙ get_or-replicate h q 1 0 u

pub behind_ones : (h : ℕ) (l : List ℕ) (q : ℕ) → h ≤ q → get_or (ones h ++ l) q 0 ≡ get_or l (q - h) 0
behind_ones h l q u =
    let e : length (ones h) + (q - h) ≡ q = omega (arith, length-replicate {A = ℕ} h 1) in
    rw e at (get_or-append-add (ones h) l (q - h) 0)

pub all_ones : (P : ℕ → Type 0) → P 1 → (h : ℕ) (l : List ℕ) → All P l → All P (ones h ++ l)
all_ones P o zero l a = a
all_ones P o (suc h) l a = (o, all_ones P o h l a)

-- With due slots they are slots.
pub release_slots : (h n : ℕ) (ds : List ℕ) → All (Within 1 3600) ds → All (Within 1 3600) (take n (ones h ++ ds))
release_slots h n ds a = all_take (Within 1 3600) n (ones h ++ ds) (all_ones (Within 1 3600) (record { low = omega arith; high = omega arith }) h ds a)

-- The release of the chunk at each place, and that there are enough of them.
pub release_at : (d : ℕ → ℕ) (h : ℕ) (ks : List ℕ) (q : ℕ) → q < length ks → get_or (releases d h ks) q 0 ≡ cond (ltb q h) 1 (d (get_or ks (q - h) 0))
release_at d h ks q l =
    ⊎_elim
    (λ t. let u = ltb→lt q h t in rw (lt-ltb q h u) (ones_at h (map d ks) q u))
    (λ t. let u = nltb→le q h t in rw (le-ltb q h u) (behind_ones h (map d ks) q u ∙ get_d_map d ks (q - h) (omega arith)))
    (test (ltb q h))

pub releases_enough : (d : ℕ → ℕ) (h : ℕ) (ks : List ℕ) → length ks ≤ length (releases d h ks)
releases_enough d h ks = omega (arith, length-append (ones h) (map d ks), length-map ks d)
