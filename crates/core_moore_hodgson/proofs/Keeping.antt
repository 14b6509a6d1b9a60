-- Laws on adding and dropping: the tree shows the kept chunks after n chunks, and their bytes stand
-- beside it. Assumes nothing.
use mathlib.Core.Path.{◌≡◌, refl, sym, ◌∙◌, ap}
use mathlib.Core.Bool.{Bool, cond}
use mathlib.Core.List.{List, []}
use mathlib.Core.Logic.{◌⊎◌, inl, inr, ⊎_elim}
use Prim.Native.Nat.{ℕ, suc, ◌+◌, ◌*◌, ◌-◌, ◌≤◌, ◌<◌}
use native.Mathlib.Omega.{arith}
use lib.ListN.{length, replicate, length-replicate, get_or-replicate}
use lib.Dec.{T, not_T, ltb, eqb, ltb→lt, nltb→le, eqb→eq}
use borrow.Author.Tests.{eq-eqb, ne_eqb}
use Rattle.theory_basics.specs.Lists.{has}
use Rattle.theory_basics.specs.lemmas.Tests.{T_true, not_T_false, same_test, test, neqb_ne}
use Rattle.job.specs.declared.Programme.{Programme}
use Rattle.job.specs.Job.{due_slot}
use Rattle.theory_plan.specs.Bases.{all_but, kept_after, kept_bytes}
use Rattle.theory_plan.specs.lemmas.Parts.{at}
use Rattle.theory_plan.specs.lemmas.KeepOrDrop.{Largest, Step, added, added_asc, added_has, bytes_add, bytes_all_but, drops, has_all_but, has_in, kept_asc, step, stays}
use Rattle.core_moore_hodgson.specs.lemmas.Tables.{Fit, FindLargestPost, Shows, LeafPost, KeepOrDropPre, KeepOrDropPost, room_in}
use Rattle.core_moore_hodgson.proofs.Maxima.{leaf_le}

-- ---- one store

-- Leaf m gets v, where the other leaves stay.
put_shows :
    (s : ℕ → ℕ) (t t' ks ms : List ℕ) (m v : ℕ) → m < 512 → Shows s t ks → LeafPost (512 + m) v t t' → v ≡ cond (has ms m) (s m) 0 →
    ((k : ℕ) → (k ≡ m → ⊥) → has ms k ≡ has ks k) → Shows s t' ms
put_shows s t t' ks ms m v h x o e f =
    record {
      maxima = o.maxima;
      leaf = λ k u.
          o.leaves (512 + k) (omega arith)
          ∙ ⊎_elim
          (λ c. let d = eqb→eq k m c in rw (d, eq-eqb (512 + m) (512 + m) refl) e)
          (λ c.
          let n : k ≡ m → ⊥ = neqb_ne k m c in
          rw (ne_eqb (512 + k) (512 + m) (λ d. n (omega arith))) (x.leaf k u ∙ ap (λ (a : Bool). cond a (s k) 0) (sym (f k n))))
          (test (eqb k m));
    }

zeros_show : (s : ℕ → ℕ) (t : List ℕ) → t ≡ replicate 1024 0 → Shows s t []
zeros_show s t e = rw e (of (replicate 1024 0) (length-replicate {A = ℕ} 1024 0) (λ q h. get_or-replicate 1024 q 0 0 h)) where
  of : (z : List ℕ) → length z ≡ 1024 → ((q : ℕ) → q < 1024 → at z q ≡ 0) → Shows s z []
  of z l f =
      record {
        maxima = record { right = λ q u v. omega (arith, f q (omega arith), f (2 * q) (omega arith), f (2 * q + 1) (omega arith)) };
        leaf = λ k u. f (512 + k) (omega arith);
      }

-- ---- one chunk

module _ (s room : ℕ → ℕ) (n : ℕ) (few : suc n < 512) (one : (k : ℕ) → 1 ≤ k → k ≤ suc n → 1 ≤ s k) (t : List ℕ) (x : Shows s t (kept_after s room n)) where
  -- What was kept, and with the new chunk.
  abbrev old : List ℕ
  old = kept_after s room n

  abbrev new : List ℕ
  new = added s room n

  -- The leaf of a kept chunk, and that of the new one.
  kept_leaf : (k : ℕ) → T (has old k) → at t (512 + k) ≡ s k
  kept_leaf k u = x.leaf k (omega (arith, (has_in 1 n old k (kept_asc s room n) u).1)) ∙ rw (T_true (has old k) u)

  new_leaf : at t (512 + suc n) ≡ 0
  new_leaf = x.leaf (suc n) few ∙ rw (not_T_false (has old (suc n)) (not_T (has old (suc n)) (λ u. omega (arith, (has_in 1 n old (suc n) (kept_asc s room n) u).1))))

  -- The chunk is added.
  add_shows : (t' : List ℕ) → LeafPost (512 + suc n) (s (suc n)) t t' → Shows s t' new
  add_shows t' o =
      put_shows s t t' old new (suc n) (s (suc n)) few x o
      (rw (T_true (has new (suc n)) ((added_has s room n (suc n)).1 (inr refl))))
      (λ k d.
      let a = added_has s room n k in
      same_test (has new k) (has old k) (λ c. ⊎_elim (λ u. u) (λ e. absurd (d (sym e))) (a.0 c)) (λ c. a.1 (inl c)))

  module _ (m : ℕ) (big : Largest s new m) where
    mine : T (has old m) ⊎ (suc n ≡ m)
    mine = (added_has s room n m).0 big.in_list

    -- If the new one is larger than all kept ones, it is the largest, and the table stays.
    own_is : at t 1 < s (suc n) → m ≡ suc n
    own_is h =
        ⊎_elim
        (λ u. absurd (omega (arith, kept_leaf m u, leaf_le t x.maxima (512 + m) (omega arith) (omega (arith, (has_in 1 n old m (kept_asc s room n) u).1)), big.top (suc n) ((added_has s room n (suc n)).1 (inr refl)))))
        (λ e. sym e)
        mine

    pass_shows : at t 1 < s (suc n) → Shows s t (all_but m new)
    pass_shows h =
        let e = own_is h in
        record {
          maxima = x.maxima;
          leaf = λ k u.
              let g = has_all_but m 1 (suc n) new k (added_asc s room n) in
              let a = added_has s room n k in
              x.leaf k u
              ∙ ap (λ (b : Bool). cond b (s k) 0)
              (same_test (has old k) (has (all_but m new) k)
              (λ c. g.1 (a.1 (inl c), λ d. omega (arith, (has_in 1 n old k (kept_asc s room n) c).1)))
              (λ c. let u = g.0 c in ⊎_elim (λ v. v) (λ d. absurd (u.1 (e ∙ d))) (a.0 u.0)));
        }

    -- Else the leaf of the largest is that of the largest kept one, the earliest among equals.
    leaf_is : (q : ℕ) → FindLargestPost t q → s (suc n) ≤ at t 1 → (q ≡ 512 + m) × (at t 1 ≡ s m)
    leaf_is q l h =
        let k = q - 512 in
        let e : 512 + k ≡ q = omega (arith, l.low) in
        let at-k : at t q ≡ cond (has old k) (s k) 0 = rw e at (x.leaf k (omega (arith, l.high, l.low))) in
        let yes : T (has old k) = ⊎_elim (λ u. u) (λ u. absurd (omega (arith, l.same, one (suc n) (omega arith) (omega arith), at-k ∙ ap (λ (b : Bool). cond b (s k) 0) (not_T_false (has old k) u)))) (test (has old k)) in
        let val : at t q ≡ s k = at-k ∙ ap (λ (b : Bool). cond b (s k) 0) (T_true (has old k) yes) in
        let in-new = (added_has s room n k).1 (inl yes) in
        let top : s m ≤ at t 1 = ⊎_elim (λ u. omega (arith, kept_leaf m u, leaf_le t x.maxima (512 + m) (omega arith) (omega (arith, (has_in 1 n old m (kept_asc s room n) u).1)))) (λ d. rw (← d) h) mine in
        let same : s k ≡ s m = omega (arith, l.same, big.top k in-new) in
        let first = big.first k in-new same in
        let low = has_in 1 n old k (kept_asc s room n) yes in
        let here : k ≡ m = ⊎_elim (λ u. ⊎_elim (λ c. absurd (omega (arith, kept_leaf m u, l.same, l.first (512 + m) (omega arith) (omega (arith, ltb→lt m k c))))) (λ c. omega (arith, nltb→le m k c)) (test (ltb m k))) (λ d. absurd (omega (arith, low.1))) mine in
        (omega arith, omega (arith, l.same))

    -- And it is dropped, after the new one was added.
    drop_shows : (t' t'' : List ℕ) → m < 512 → LeafPost (512 + suc n) (s (suc n)) t t' → LeafPost (512 + m) 0 t' t'' → Shows s t'' (all_but m new)
    drop_shows t' t'' h o o' =
        let gone = has_all_but m 1 (suc n) new m (added_asc s room n) in
        put_shows s t' t'' new (all_but m new) m 0 h (add_shows t' o) o'
        (rw (not_T_false (has (all_but m new) m) (not_T (has (all_but m new) m) (λ c. (gone.0 c).1 refl))))
        (λ k d.
        let g = has_all_but m 1 (suc n) new k (added_asc s room n) in
        same_test (has (all_but m new) k) (has new k) (λ c. (g.0 c).0) (λ c. g.1 (c, λ e. d (sym e))))

-- ---- adding and dropping

pub record Keeping (p : Programme) (s : ℕ → ℕ) (after tree : List ℕ) (sum n : ℕ) : Type 0 where
  pub left : n ≤ p.chunks
  pub small : sum ≤ n * 16777216
  pub bytes : sum ≡ kept_bytes s (kept_after s (room_in p (at after)) n)
  pub shows : Shows s tree (kept_after s (room_in p (at after)) n)

pub keeping_start : (p : Programme) (size : ℕ → ℕ → ℕ) (after tree : List ℕ) → KeepOrDropPre p size after tree → Keeping p (λ k. size k 0) after tree 0 0
keeping_start p size after tree o =
    record { left = omega arith; small = omega arith; bytes = refl; shows = zeros_show (λ k. size k 0) tree o.zeros }

module _
    (p : Programme) (size : ℕ → ℕ → ℕ) (after : List ℕ) (fit : Fit p size after) (tree : List ℕ) (sum n : ℕ)
    (w : Keeping p (λ k. size k 0) after tree sum n) (i : ℕ) (next : i ≡ suc n) (some : i ≤ p.chunks) (z : ℕ) (here : z ≡ size i 0) where
  abbrev s : ℕ → ℕ
  s k = size k 0

  abbrev room : ℕ → ℕ
  room = room_in p (at after)

  few : suc n < 512
  few = omega (arith, fit.few)

  one : (k : ℕ) → 1 ≤ k → k ≤ suc n → 1 ≤ s k
  one k u v = (fit.bases k u (omega arith)).low

  own : z ≡ s (suc n)
  own = rw next at here

  small_base : z ≤ 16777216
  small_base = rw here (fit.bases i (omega arith) (omega arith)).high

  with_one : sum + z ≡ kept_bytes s (added s room n)
  with_one = omega (arith, own, w.bytes, bytes_add s (suc n) (kept_after s room n))

  -- What is tested says whether they fit.
  fits_as : sum + z + at after (due_slot p i) ≤ at after 0 → kept_bytes s (added s room n) ≤ room (suc n)
  fits_as h = let h' = rw next at h in omega (arith, with_one)

  exceeds_as : at after 0 < sum + z + at after (due_slot p i) → room (suc n) < kept_bytes s (added s room n)
  exceeds_as h = let h' = rw next at h in omega (arith, with_one, own, one (suc n) (omega arith) (omega arith))

  -- The new chunk's leaf has nothing yet.
  pub leaf_free : at tree (512 + i) ≤ z
  leaf_free = rw next (omega (arith, new_leaf s room n few one tree w.shows))

  pub keeping_stays :
      (tree' : List ℕ) → LeafPost (512 + i) z tree tree' → sum + z + at after (due_slot p i) ≤ at after 0 →
      Keeping p s after tree' (sum + z) i
  keeping_stays tree' o h = by_step (step s room n) where
    by_step : Step s room n → Keeping p s after tree' (sum + z) i
    by_step (stays f e) =
        rw next
        (record {
          left = omega arith;
          small = omega (arith, w.small, small_base);
          bytes = with_one ∙ ap (kept_bytes s) (sym e);
          shows = rw e (add_shows s room n few one tree w.shows tree' (rw (own, next) at o));
        })
    by_step (drops f m b e) = absurd (omega (arith, fits_as h))

  module _ (h : at after 0 < sum + z + at after (due_slot p i)) where
    -- The bytes without the dropped one.
    less_one : (m : ℕ) → Largest s (added s room n) m → kept_bytes s (all_but m (added s room n)) + s m ≡ sum + z
    less_one m b = bytes_all_but s m (added s room n) b.in_list ∙ sym with_one

    -- The new one is dropped,
    pub keeping_passes : at tree 1 < z → Keeping p s after tree sum i
    keeping_passes u = by_step (step s room n) where
      by_step : Step s room n → Keeping p s after tree sum i
      by_step (stays f e) = absurd (omega (arith, exceeds_as h))
      by_step (drops f m b e) =
          let u' : at tree 1 < s (suc n) = rw own at u in
          let q = own_is s room n few one tree w.shows m b u' in
          rw next
          (record {
            left = omega arith;
            small = omega (arith, w.small);
            bytes = rw e (omega (arith, own, ap s q, less_one m b));
            shows = rw e (pass_shows s room n few one tree w.shows m b u');
          })

    -- or one that was kept.
    module _ (q : ℕ) (leaf : FindLargestPost tree q) (u : z ≤ at tree 1) where
      pub drop_within : (at tree 1 ≤ 16777216) × (at tree 1 ≤ sum + z)
      drop_within = by_step (step s room n) where
        by_step : Step s room n → (at tree 1 ≤ 16777216) × (at tree 1 ≤ sum + z)
        by_step (stays f e) = absurd (omega (arith, exceeds_as h))
        by_step (drops f m b e) =
            let l = (leaf_is s room n few one tree w.shows m b q leaf (rw own at u)).1 in
            let r = has_in 1 (suc n) (added s room n) m (added_asc s room n) b.in_list in
            (omega (arith, (fit.bases m r.0 (omega arith)).high), omega (arith, less_one m b))

      pub keeping_drops :
          (tree' tree'' : List ℕ) → LeafPost (512 + i) z tree tree' → LeafPost q 0 tree' tree'' → Keeping p s after tree'' (sum + z - at tree 1) i
      keeping_drops tree' tree'' o o' = by_step (step s room n) where
        by_step : Step s room n → Keeping p s after tree'' (sum + z - at tree 1) i
        by_step (stays f e) = absurd (omega (arith, exceeds_as h))
        by_step (drops f m b e) =
            let l = leaf_is s room n few one tree w.shows m b q leaf (rw own at u) in
            rw next
            (record {
              left = omega arith;
              small = omega (arith, w.small, small_base);
              bytes = rw e (omega (arith, l.1, less_one m b));
              shows = rw e (drop_shows s room n few one tree w.shows m b tree' tree'' (omega (arith, l.0, leaf.high)) (rw (own, next) at o) (rw l.0 at o'));
            })

pub keeping_end : (p : Programme) (size : ℕ → ℕ → ℕ) (after tree : List ℕ) (sum n : ℕ) → Keeping p (λ k. size k 0) after tree sum n → p.chunks ≤ n → KeepOrDropPost p size after tree
keeping_end p size after tree sum n w h = let e : n ≡ p.chunks = omega (arith, w.left) in rw e at w.shows
