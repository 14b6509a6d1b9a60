-- Lemmas. How far the own list of document 01 has come after some slots: its rows stand by slot,
-- what is left is what those rows leave of the carried bytes, and no row is of a later layer than
-- one that is left.
use Rattle.std.specs.Prelude.{ℕ, zero, suc, ◌+◌, ◌-◌, ◌≤◌, ◌<◌, ◌≡◌, refl, Bool, true, false, not, cond, ◌&&◌, List, [], ◌∷◌, ◌++◌, ◌⊎◌, T, ltb, eqb}
use Rattle.std.proofs.Common.{sym, ap, ◌∙◌, subst, append_assoc, append-nil, inl, inr, ⊎_elim, arith, eq-eqb, ne_eqb, lt-ltb, le-ltb, T_not, ltb→lt, nltb→le, eqb→eq}
use Rattle.std.proofs.Math.Dec.{eqb_refl}
use Rattle.theory_basics.specs.Lists.{up_to}
use Rattle.theory_basics.specs.Tests.{All, In}
use Rattle.theory_basics.specs.lemmas.Tests.{all_append, all_map, and_T, at_row, by_cond, each_row, not_T_false, T_true, test}
use Rattle.job.specs.Job.{chunks, forecast, Job, layers, size}
use Rattle.fetch.specs.Rows.{bytes_of_layer, Row}
use Rattle.fetch.specs.lemmas.Rows.{bytes_append}
use Rattle.theory_plan.specs.Own.{allowed, carried_to, Fetched, fetched_by, Piece, row_of, slot_takes, whole_layer, without}
use Rattle.theory_plan.specs.Statement.{Choice}
use Rattle.theory_plan.specs.lemmas.Words.{layer_of, Sized}
use Rattle.theory_replan.specs.Own.{unfetched}
use Rattle.theory_replan.specs.lemmas.Parts.{PartBefore, Rising}
use Rattle.theory_replan.specs.lemmas.Take.{all_of, Ends, part_of, slot_ends, Taken, taken_all, taken_keys, taken_rising, taken_some}
use Rattle.theory_replan.specs.lemmas.Unfetched.{carried_all, carried_rises, Chosen}

-- ---- one row more

-- The row is of the part's layer.
abbrev of_part : Row → Piece → Bool
of_part x q = eqb x.chunk q.chunk && eqb x.layer q.layer

-- What a row leaves of parts.
abbrev off : Row → List Piece → List Piece
off x [] = []
off x (q ∷ qs) = cond (of_part x q) (cond (ltb x.bytes q.bytes) (without q x.bytes ∷ off x qs) (off x qs)) (q ∷ off x qs)

without_twice : (q : Piece) (a b : ℕ) → without (without q a) b ≡ without q (a + b)
without_twice q a b =
    let e : q.bytes - a - b ≡ q.bytes - (a + b) = omega arith in
    ap (λ (n : ℕ). record { chunk = q.chunk; layer = q.layer; bytes = n }) e

unfetched_last : (rows : List Row) (x : Row) (W : List Piece) → unfetched (rows ++ (x ∷ [])) W ≡ off x (unfetched rows W)
unfetched_last rows x [] = refl
unfetched_last rows x (q ∷ W) =
    let got = bytes_of_layer rows q.chunk q.layer in
    let more = unfetched_last rows x W in
    let sum = bytes_append (λ y. eqb y.chunk q.chunk && eqb y.layer q.layer) rows (x ∷ []) in
    ⊎_elim
    (λ t.
    let m : of_part x q ≡ true = T_true (of_part x q) t in
    let e : bytes_of_layer (rows ++ (x ∷ [])) q.chunk q.layer ≡ got + x.bytes = rw m at sum ∙ omega arith in
    rw e
    (⊎_elim
    (λ u.
    let l = ltb→lt got q.bytes u in
    rw (lt-ltb got q.bytes l, m)
    (⊎_elim
    (λ w.
    let k = ltb→lt (got + x.bytes) q.bytes w in
    rw (lt-ltb (got + x.bytes) q.bytes k, lt-ltb x.bytes (q.bytes - got) (omega arith), more, without_twice q got x.bytes))
    (λ w.
    let k = nltb→le (got + x.bytes) q.bytes w in
    rw (le-ltb (got + x.bytes) q.bytes k, le-ltb x.bytes (q.bytes - got) (omega arith), more))
    (test (ltb (got + x.bytes) q.bytes))))
    (λ u.
    let l = nltb→le got q.bytes u in
    rw (le-ltb got q.bytes l, le-ltb (got + x.bytes) q.bytes (omega arith), more))
    (test (ltb got q.bytes))))
    (λ t.
    let m : of_part x q ≡ false = not_T_false (of_part x q) t in
    let e : bytes_of_layer (rows ++ (x ∷ [])) q.chunk q.layer ≡ got = rw m at sum ∙ omega arith in
    rw e
    (⊎_elim
    (λ u. rw (lt-ltb got q.bytes (ltb→lt got q.bytes u), m, more))
    (λ u. rw (le-ltb got q.bytes (nltb→le got q.bytes u), more))
    (test (ltb got q.bytes))))
    (test (of_part x q))

off_none : (x : Row) (qs : List Piece) → All (λ q. T (of_part x q) → ⊥) qs → off x qs ≡ qs
off_none x [] a = refl
off_none x (q ∷ qs) a =
    by_cond (λ (l : List Piece). l ≡ q ∷ qs) (of_part x q) (λ t. absurd (a.0 t)) (λ t. ap (λ (l : List Piece). q ∷ l) (off_none x qs a.1))

others : (t b : ℕ) (q : Piece) (qs : List Piece) → All (PartBefore q) qs → All (λ r. T (of_part (row_of t q b) r) → ⊥) qs
others t b q qs a =
    all_map (PartBefore q) (λ r. T (of_part (row_of t q b) r) → ⊥) qs (λ r h u.
    let v = and_T (eqb q.chunk r.chunk) (eqb q.layer r.layer) u in
    ⊎_elim (λ k. omega (arith, eqb→eq q.chunk r.chunk v.0)) (λ k. omega (arith, k.1, eqb→eq q.layer r.layer v.1)) h) a

off_taken :
    (t c : ℕ) (q : Piece) (qs : List Piece) (b c' : ℕ) (left : List Piece) → Taken c q qs b c' left → Rising (q ∷ qs) →
    off (row_of t q b) (q ∷ qs) ≡ left
off_taken t c q qs b c' left (all_of e) r =
    rw (eq-eqb q.chunk q.chunk refl, eq-eqb q.layer q.layer refl, le-ltb q.bytes q.bytes (omega arith)) (off_none (row_of t q q.bytes) qs (others t q.bytes q qs r.0))
off_taken t c q qs b c' left (part_of m l) r =
    rw (eq-eqb q.chunk q.chunk refl, eq-eqb q.layer q.layer refl, lt-ltb b q.bytes l) (ap (λ (x : List Piece). without q b ∷ x) (off_none (row_of t q b) qs (others t b q qs r.0)))

-- ---- at the start

unfetched_none : (W : List Piece) → All (λ q. 1 ≤ q.bytes) W → unfetched [] W ≡ W
unfetched_none [] a = refl
unfetched_none (q ∷ W) a =
    let z : without q 0 ≡ q = let e : q.bytes - 0 ≡ q.bytes = omega arith in ap (λ (n : ℕ). record { chunk = q.chunk; layer = q.layer; bytes = n }) e in
    rw (lt-ltb 0 q.bytes a.0, unfetched_none W a.1, z)

module _ (j : Job) (sized : Sized j) (lv : ℕ → ℕ) (choice : Choice j lv) where
  abbrev W : List Piece
  W = carried_to j lv (chunks j)

  layer_sizes : (i m : ℕ) → All (λ q. q.bytes ≡ size j q.chunk q.layer) (up_to (whole_layer j i) m)
  layer_sizes i zero = tt
  layer_sizes i (suc m) = all_append (λ q. q.bytes ≡ size j q.chunk q.layer) (up_to (whole_layer j i) m) (whole_layer j i m ∷ []) (layer_sizes i m) (refl, tt)

  sizes : (c : ℕ) → All (λ q. q.bytes ≡ size j q.chunk q.layer) (carried_to j lv c)
  sizes zero = tt
  sizes (suc c) = all_append (λ q. q.bytes ≡ size j q.chunk q.layer) (carried_to j lv c) (up_to (whole_layer j (suc c)) (lv (suc c))) (sizes c) (layer_sizes (suc c) (lv (suc c)))

  all_some : All (λ q. 1 ≤ q.bytes) W
  all_some =
      each_row (λ q. 1 ≤ q.bytes) W (λ q i.
      let k = at_row (λ (q : Piece). Chosen j lv (chunks j) q.chunk q.layer) i (carried_all j lv (chunks j)) in
      let e = at_row (λ (q : Piece). q.bytes ≡ size j q.chunk q.layer) i (sizes (chunks j)) in
      omega (arith, e, sized q.chunk q.layer (layer_of j q.chunk q.layer k.chunk_low k.chunk_high (omega (arith, k.layer_in, choice q.chunk k.chunk_low k.chunk_high)))))

  -- ---- after some slots

  -- A row is of a layer up to layer n of chunk i.
  abbrev UpTo : ℕ → ℕ → Row → Type 0
  UpTo i n x = (x.chunk < i) ⊎ ((x.chunk ≡ i) × (x.layer ≤ n))

  pub record Sofar (t : ℕ) (rows : List Row) (left : List Piece) : Type 0 where
    pub rising : Rising left
    pub left_is : left ≡ unfetched rows W
    pub slots : All (λ x. x.slot ≤ t) rows
    pub first_in : All (λ q. All (UpTo q.chunk q.layer) rows) left

  take_one :
      (t c : ℕ) (rows : List Row) (q : Piece) (qs : List Piece) (b c' : ℕ) (left : List Piece) → Taken c q qs b c' left →
      T (allowed j rows t q) → Sofar t rows (q ∷ qs) → Sofar t (rows ++ (row_of t q b ∷ [])) left
  take_one t c rows q qs b c' left k al s =
      let x = row_of t q b in
      record {
        rising = taken_rising k s.rising;
        left_is = sym (off_taken t c q qs b c' left k s.rising) ∙ ap (off x) s.left_is ∙ sym (unfetched_last rows x W);
        slots = all_append (λ y. y.slot ≤ t) rows (x ∷ []) s.slots (omega arith, tt);
        first_in =
            taken_keys (λ i n. All (UpTo i n) (rows ++ (x ∷ []))) k (
              all_append (UpTo q.chunk q.layer) rows (x ∷ []) s.first_in.0 (inr (refl, omega arith), tt),
              each_row (λ r. All (UpTo r.chunk r.layer) (rows ++ (x ∷ []))) qs (λ r i.
                  all_append (UpTo r.chunk r.layer) rows (x ∷ []) (at_row (λ q. All (UpTo q.chunk q.layer) rows) i s.first_in.1)
                  (⊎_elim (λ u. inl u) (λ u. inr (u.0, omega (arith, u.1))) (at_row (PartBefore q) i s.rising.0), tt)),
            );
      }

  pub sofar : (t : ℕ) → Sofar t (fetched_by j lv t).rows (fetched_by j lv t).left
  sofar zero =
      record {
        rising = carried_rises j lv (chunks j);
        left_is = sym (unfetched_none W all_some);
        slots = tt;
        first_in = each_row (λ q. All (UpTo q.chunk q.layer) []) W (λ q i. tt);
      }
  sofar (suc t) =
      let s = sofar t in
      let g = fetched_by j lv t in
      let begin : Sofar (suc t) g.rows g.left =
      record { rising = s.rising; left_is = s.left_is; slots = all_map (λ x. x.slot ≤ t) (λ x. x.slot ≤ suc t) g.rows (λ x h. omega arith) s.slots; first_in = s.first_in } in
      (slot_ends j (suc t) (λ c. Sofar (suc t)) (take_one (suc t)) (forecast j (suc t)) g.rows g.left begin).holds

  -- ---- later slots add later rows

  pub record Grown (t : ℕ) (old rows : List Row) : Type 0 where
    pub more : List Row
    pub rows_are : rows ≡ old ++ more
    pub later : All (λ x. t < x.slot) more

  grow_one :
      (t s : ℕ) (old : List Row) → t < s → (c : ℕ) (rows : List Row) (q : Piece) (qs : List Piece) (b c' : ℕ) (left : List Piece) →
      Taken c q qs b c' left → T (allowed j rows s q) → Grown t old rows → Grown t old (rows ++ (row_of s q b ∷ []))
  grow_one t s old h c rows q qs b c' left k al g =
      let x = row_of s q b in
      record {
        more = g.more ++ (x ∷ []);
        rows_are = ap (λ (l : List Row). l ++ (x ∷ [])) g.rows_are ∙ append_assoc old g.more (x ∷ []);
        later = all_append (λ y. t < y.slot) g.more (x ∷ []) g.later (h, tt);
      }

  pub grown : (t m : ℕ) → Grown t (fetched_by j lv t).rows (fetched_by j lv (m + t)).rows
  grown t zero = let e : 0 + t ≡ t = omega arith in rw e (record { more = []; rows_are = sym (append-nil (fetched_by j lv t).rows); later = tt })
  grown t (suc m) =
      let e : suc (m + t) ≡ suc m + t = omega arith in
      let g = fetched_by j lv (m + t) in
      let old = (fetched_by j lv t).rows in
      subst (λ (s : ℕ). Grown t old (fetched_by j lv s).rows) e
      (slot_ends j (suc (m + t)) (λ c rows left. Grown t old rows) (grow_one t (suc (m + t)) old (omega arith)) (forecast j (suc (m + t))) g.rows g.left (grown t m)).holds
