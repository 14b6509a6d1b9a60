-- Lemmas. A choice that fits has a list: the fill of the kept chunks with their releases passes,
-- rules 1 to 6 one by one. Section 3 of the argument.
use Rattle.std.specs.Prelude.{ℕ, zero, suc, ◌+◌, ◌≤◌, ◌<◌, ◌≡◌, refl, Bool, true, false, not, cond, ◌&&◌, ◌||◌, List, [], ◌∷◌, ◌++◌, map, ◌⊎◌, length, T, leb, eqb}
use Rattle.std.proofs.Common.{append_assoc, inl, inr, ⊎_elim, eq-eqb, lt-ltb, le-ltb, length-append, ltb→lt, nltb→le, le→leb, eqb→eq}
use native.Mathlib.Omega.{arith}
use Rattle.std.proofs.lemmas.Bool.{lt-leb}
use Rattle.std.proofs.Math.ListN.{length-replicate}
use Rattle.std.proofs.Math.Dec.{ltb, eqb_refl}
use Rattle.theory_basics.specs.Sums.{count}
use Rattle.theory_basics.specs.lemmas.Ranges.{pre_add, pre_le, count_mono, count_none, point, point_total}
use Rattle.theory_basics.specs.Tests.{All}
use Rattle.theory_basics.specs.lemmas.Tests.{T_and, T_or_iff, all_append, and_T, at_row, by_cond, each_row, test, tests, not_T_false}
use Rattle.job.specs.Job.{Job, chunks, due, forecast, held_most, last_slot, layers, size}
use Rattle.fetch.specs.Rows.{Row, begun, bytes_of_layer, held}
use Rattle.fetch.specs.Rules.{RowInRange, Passes}
use Rattle.theory_plan.specs.lemmas.Ascending.{asc_lower}
use Rattle.theory_plan.specs.lemmas.Count.{some_row}
use Rattle.theory_plan.specs.lemmas.Fill.{Ready, Sent, Still, fill, fill_done, fill_in_slots, fill_loses_nothing, fill_on_time, fill_sent, fill_within, needs}
use Rattle.theory_plan.specs.lemmas.Need.{Feas}
use Rattle.theory_plan.specs.lemmas.Words.{Sized, after_anti, due_mono}
use Rattle.theory_plan.specs.Plan.{after}
pub use Rattle.theory_plan.specs.lemmas.Queue.{RelOk, feas_relok, has_low, ones, pieces, queue, releases, weight}
pub use Rattle.theory_basics.specs.Lists.{has}
use Rattle.theory_plan.specs.lemmas.Queue.{SomeBytes, at_layer, left_of_queue, ready_queue}
use Rattle.theory_plan.specs.Bases.{Asc}

-- ---- rule 6: who may have begun by slot t

-- Chunk i has its release by slot t.
abbrev live : ℕ → List ℕ → List ℕ → ℕ → Bool
live t [] rs i = false
live t (k ∷ ks) [] i = false
live t (k ∷ ks) (r ∷ rs) i = (eqb k i && leb r t) || live t ks rs i

-- How many of those are due after t.
abbrev lives : ℕ → (ℕ → ℕ) → List ℕ → List ℕ → ℕ
lives t d [] rs = 0
lives t d (k ∷ ks) [] = 0
lives t d (k ∷ ks) (r ∷ rs) = cond (leb r t && ltb t (d k)) 1 0 + lives t d ks rs

either_counted : (a b c : Bool) → cond ((a || b) && c) 1 0 ≤ cond (a && c) 1 0 + cond (b && c) 1 0
either_counted true b true = omega arith
either_counted true b false = omega arith
either_counted false b c = omega arith

counted_at : (X : ℕ → Bool) (b : Bool) (k i : ℕ) → cond ((eqb k i && b) && X i) 1 0 ≤ point k (cond (b && X k) 1 0) i
counted_at X b k i =
    ⊎_elim
    (λ t. let e = eqb→eq k i t in rw (eq-eqb k i e, e) (omega arith))
    (λ t. rw (not_T_false (eqb k i) t) (omega arith))
    (test (eqb k i))

count_live : (t c : ℕ) (d : ℕ → ℕ) (ks rs : List ℕ) → count (λ i. live t ks rs i && ltb t (d i)) c ≤ lives t d ks rs
count_live t c d [] rs = omega (arith, count_none (λ i. live t [] rs i && ltb t (d i)) c (λ i u v. tt))
count_live t c d (k ∷ ks) [] = omega (arith, count_none (λ i. live t (k ∷ ks) [] i && ltb t (d i)) c (λ i u v. tt))
count_live t c d (k ∷ ks) (r ∷ rs) =
    let x : ℕ = cond (leb r t && ltb t (d k)) 1 0 in
    omega (
      arith,
      pre_le
          (λ i. cond (live t (k ∷ ks) (r ∷ rs) i && ltb t (d i)) 1 0)
          (λ i. point k x i + cond (live t ks rs i && ltb t (d i)) 1 0)
          c
          (λ i. omega (arith, either_counted (eqb k i && leb r t) (live t ks rs i) (ltb t (d i)), counted_at (λ i. ltb t (d i)) (leb r t) k i)),
      pre_add (point k x) (λ i. cond (live t ks rs i && ltb t (d i)) 1 0) c,
      point_total k x c,
      count_live t c d ks rs,
    )

-- Where all due slots are after t, only the chunks of the first places ps have their release by t.
only_first_live :
    (t : ℕ) (d : ℕ → ℕ) (ks gs ps : List ℕ) (lo c : ℕ) → ((k : ℕ) → lo ≤ k → t < d k) → Asc lo c gs →
    lives t d ks (ps ++ map d gs) ≤ length ps
only_first_live t d [] gs ps lo c f a = omega arith
only_first_live t d (k ∷ ks) [] [] lo c f a = omega arith
only_first_live t d (k ∷ ks) (g ∷ gs) [] lo c f a =
    rw (lt-leb (d g) t (f g a.0)) (omega (arith, only_first_live t d ks gs [] lo c f (asc_lower lo (suc g) c gs (omega arith) a.2)))
only_first_live t d (k ∷ ks) gs (p ∷ ps) lo c f a =
    omega (arith, only_first_live t d ks gs ps lo c f a, by_cond (λ n. n ≤ 1) (leb p t && ltb t (d k)) {x = 1} {y = 0} (λ u. omega arith) (λ u. omega arith))

due_not_counted : (a b : Bool) → T (not b) → cond (a && b) 1 0 ≤ 0
due_not_counted true true u = absurd u
due_not_counted true false u = omega arith
due_not_counted false b u = omega arith

few_live_after_due :
    (t : ℕ) (d : ℕ → ℕ) (k : ℕ) (ks ps : List ℕ) → T (not (ltb t (d k))) →
    ((qs : List ℕ) → lives t d ks (qs ++ map d ks) ≤ length qs) → lives t d (k ∷ ks) (ps ++ map d (k ∷ ks)) ≤ length ps
few_live_after_due t d k ks [] u f = omega (arith, due_not_counted (leb (d k) t) (ltb t (d k)) u, f [])
few_live_after_due t d k ks (q ∷ qs) u f =
    omega (arith, due_not_counted (leb q t) (ltb t (d k)) u, rw (append_assoc, length-append) at (f (qs ++ d k ∷ [])))

-- At most the length of ps have their release by t and are due after t; with ones h for ps, at most
-- h.
few_live :
    (t : ℕ) (d : ℕ → ℕ) (d-mono : (x y : ℕ) → x ≤ y → d x ≤ d y) (ks ps : List ℕ) (lo c : ℕ) → Asc lo c ks →
    lives t d ks (ps ++ map d ks) ≤ length ps
few_live t d d-mono [] ps lo c a = omega arith
few_live t d d-mono (k ∷ ks) ps lo c a =
    ⊎_elim
    (λ u. only_first_live t d (k ∷ ks) (k ∷ ks) ps k c (λ g h. omega (arith, ltb→lt t (d k) u, d-mono k g h)) (omega arith, a.1, a.2))
    (λ u. few_live_after_due t d k ks ps u (λ qs. few_live t d d-mono ks qs (suc k) c a.2))
    (test (ltb t (d k)))

-- ---- what is known of each piece of the queue

record Queued (c layers : ℕ) (ks rs : List ℕ) (k n r : ℕ) : Type 0 where
  chunk_low : 1 ≤ k
  chunk_high : k ≤ c
  layer_in : n < layers
  alive : (t : ℕ) → r ≤ t → T (live t ks rs k)

still_pieces :
    (size : ℕ → ℕ → ℕ) (Q : ℕ → ℕ → ℕ → Type 0) (k r m n : ℕ) → ((i : ℕ) → i < n + m → 1 ≤ size k i) →
    ((i : ℕ) → i < n + m → Q k i r) → All (Still Q) (pieces size k r m n)
still_pieces size Q k r m zero pos f = tt
still_pieces size Q k r m (suc n) pos f =
    ((pos m (omega arith), f m (omega arith)), still_pieces size Q k r (suc m) n (λ i u. pos i (omega arith)) (λ i u. f i (omega arith)))

still_queue :
    (size : ℕ → ℕ → ℕ) (lv : ℕ → ℕ) (c layers : ℕ) → SomeBytes size lv c → ((k : ℕ) → 1 ≤ k → k ≤ c → lv k ≤ layers) →
    (KS RS ks rs : List ℕ) (lo : ℕ) → 1 ≤ lo → Asc lo c ks → ((t k : ℕ) → T (live t ks rs k) → T (live t KS RS k)) →
    All (Still (Queued c layers KS RS)) (queue size lv ks rs)
still_queue size lv c layers pos lim KS RS [] rs lo h a f = tt
still_queue size lv c layers pos lim KS RS (k ∷ ks) [] lo h a f = tt
still_queue size lv c layers pos lim KS RS (k ∷ ks) (r ∷ rs) lo h a f =
    all_append
    (Still (Queued c layers KS RS))
    (pieces size k r 0 (lv k))
    (queue size lv ks rs)
    (still_pieces size (Queued c layers KS RS) k r 0 (lv k) (λ i u. pos k i (omega arith) a.1 (omega arith)) (λ i u.
    record {
      chunk_low = omega arith;
      chunk_high = a.1;
      layer_in = omega (arith, lim k (omega arith) a.1);
      alive = λ t w. f t k ((T_or_iff (eqb k k && leb r t) (live t ks rs k)).1 (inl (T_and (eqb k k) (leb r t) (eqb_refl k) (le→leb r t w))));
    }))
    (still_queue size lv c layers pos lim KS RS ks rs (suc k) (omega arith) a.2 (λ t i u. f t i ((T_or_iff (eqb k i && leb r t) (live t ks rs i)).1 (inr u))))

-- The fill of the chunks ks with their releases, lv k layers of chunk k, few-live-after-due all
-- slots.
unfoldable pub fetch : Job → (ℕ → ℕ) → List ℕ → List Row
fetch j lv ks = fill (forecast j) (last_slot j) 0 (queue (size j) lv ks (releases (due j) (held_most j) ks))

none_or_all : (b : Bool) (s x : ℕ) → x ≡ cond b s 0 → (x ≡ 0) ⊎ (x ≡ s)
none_or_all true s x e = inr e
none_or_all false s x e = inl e

-- A layer that is carried has the one below carried: layers below lv i are.
layer_below_full :
    (a : Bool) (n m s s' x x' : ℕ) → x ≡ cond (a && ltb (suc n) m) s 0 → x' ≡ cond (a && ltb n m) s' 0 → 1 ≤ s → x ≡ s → x' ≡ s'
layer_below_full false n m s s' x x' p q h e = absurd (omega arith)
layer_below_full true n m s s' x x' p q h e =
    ⊎_elim
    (λ t. rw (lt-ltb n m (omega (arith, ltb→lt (suc n) m t))) at q)
    (λ t. absurd (omega (arith, rw (le-ltb (suc n) m (nltb→le (suc n) m t)) at p)))
    (test (ltb (suc n) m))

-- ---- the fill of chunks that fit passes

module _ (j : Job) (sized : Sized j) (lv : ℕ → ℕ) (lim : (k : ℕ) → 1 ≤ k → k ≤ chunks j → lv k ≤ layers j) (ks : List ℕ) (asc : Asc 1 (chunks j) ks) (ok : Feas (λ k. weight (size j) k 0 (lv k)) (due j) (after j) (held_most j) ks) where
  some_bytes : SomeBytes (size j) lv (chunks j)
  some_bytes k i u v w = sized k i (record { chunk_low = u; chunk_high = v; layer_in = omega (arith, lim k u v) })

  abbrev rs : List ℕ
  rs = releases (due j) (held_most j) ks

  abbrev Q : ℕ → ℕ → ℕ → Type 0
  Q = Queued (chunks j) (layers j) ks rs

  relok : RelOk (λ k. weight (size j) k 0 (lv k)) (due j) (after j) ks rs
  relok = feas_relok (λ k. weight (size j) k 0 (lv k)) (due j) (after j) (held_most j) ks ok

  fits_queue : (needs (due j) (after j) (queue (size j) lv ks rs) ≤ after j 0) × Ready (due j) (after j) (queue (size j) lv ks rs)
  fits_queue = let r = ready_queue (due j) (after j) (size j) lv 1 (chunks j) some_bytes (omega arith) ks rs asc relok in (omega (arith, r.0, ok.whole), r.1)

  still : All (Still Q) (queue (size j) lv ks rs)
  still = still_queue (size j) lv (chunks j) (layers j) some_bytes lim ks rs ks rs 1 (omega arith) asc (λ t k u. u)

  step : (t : ℕ) → t < last_slot j → after j t ≤ forecast j (suc t) + after j (suc t)
  step t h = omega arith

  sent : All (Sent Q) (fetch j lv ks)
  unfolding fetch
  sent = fill_sent Q (forecast j) (last_slot j) 0 (queue (size j) lv ks rs) still

  in_slots : All (λ x. (0 < x.slot) × (x.slot ≤ last_slot j + 0)) (fetch j lv ks)
  unfolding fetch
  in_slots = fill_in_slots (forecast j) (last_slot j) 0 (queue (size j) lv ks rs)

  pub layer_is : (i n : ℕ) → bytes_of_layer (fetch j lv ks) i n ≡ cond (has ks i && ltb n (lv i)) (size j i n) 0
  unfolding fetch
  layer_is i n =
      let q = queue (size j) lv ks rs in
      let d = fill_done (due j) (after j) (after_anti j) (forecast j) (last_slot j) step q (omega arith) fits_queue.1 fits_queue.0 in
      let s = rw d at (fill_loses_nothing (at_layer i n) (forecast j) (last_slot j) 0 q) in
      omega (arith, s, left_of_queue (λ k. weight (size j) k 0 (lv k)) (due j) (after j) (size j) lv 1 (chunks j) i n ks rs asc relok)

  held_live : (t i : ℕ) → T (held j (fetch j lv ks) t i) → T (live t ks rs i && ltb t (due j i))
  held_live t i u =
      let v = and_T (begun (fetch j lv ks) t i) (ltb t (due j i)) u in
      let x = some_row (λ x. eqb x.chunk i && leb x.slot t) (fetch j lv ks) v.0 in
      let y = simp tests at x.2 in
      let z = at_row (Sent Q) x.1 sent in
      T_and (live t ks rs i) (ltb t (due j i)) (rw y.0 at (z.from.alive t (omega (arith, z.ready_by)))) v.1

  pub sufficient : Passes j (fetch j lv ks)
  unfolding fetch
  sufficient =
      record {
        in_range_lem =
            each_row (RowInRange j) (fetch j lv ks) (λ x i.
            let s = at_row (Sent Q) i sent in
            let t = at_row (λ x. (0 < x.slot) × (x.slot ≤ last_slot j + 0)) i in_slots in
            record { slot_low = t.0; slot_high = omega arith; chunk_low = s.from.chunk_low; chunk_high = s.from.chunk_high; layer_in = s.from.layer_in; some_bytes = s.some });
        whole = λ i n r. none_or_all (has ks i && ltb n (lv i)) (size j i n) (bytes_of_layer (fetch j lv ks) i n) (layer_is i n);
        lower = λ i n r e. layer_below_full (has ks i) n (lv i) (size j i (suc n)) (size j i n) (bytes_of_layer (fetch j lv ks) i (suc n)) (bytes_of_layer (fetch j lv ks) i n) (layer_is i (suc n)) (layer_is i n) (sized i (suc n) r) e;
        within = λ t u v. fill_within (forecast j) (last_slot j) 0 (queue (size j) lv ks rs) t;
        on_time_lem = fill_on_time (due j) (after j) (after_anti j) (forecast j) (last_slot j) step (last_slot j) 0 (queue (size j) lv ks rs) (omega arith) fits_queue.1 fits_queue.0;
        few_held = λ t u v.
            omega (
              arith,
              count_mono (held j (fetch j lv ks) t) (λ i. live t ks rs i && ltb t (due j i)) (chunks j) (λ i u v. held_live t i),
              count_live t (chunks j) (due j) ks rs,
              few_live t (due j) (due_mono j) ks (ones (held_most j)) 1 (chunks j) asc,
              length-replicate {A = ℕ} (held_most j) 1,
            );
        marks_say = refl;
      }
