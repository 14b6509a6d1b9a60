-- Lemmas. What one slot of the own list takes: rows of that slot, within its forecast, with no more
-- chunks held at its end than before or than H; and why it ends. Assumes nothing.
use Rattle.std.specs.Prelude.{ℕ, ◌+◌, ◌-◌, ◌≤◌, ◌<◌, ◌≡◌, refl, Bool, false, not, ◌&&◌, List, [], ◌∷◌, ◌++◌, ◌⊎◌, T, leb, ltb, eqb}
use Rattle.std.proofs.Common.{sym, ap, subst, ◌∙◌, append_assoc, append-nil, inl, inr, ⊎_elim, arith, leb→le, le→leb, ltb→lt, lt→ltb, nltb→le, eq-eqb, ne_eqb}
use Rattle.std.proofs.Math.Bool.{and-false, or-false}
use Rattle.std.proofs.lemmas.Bool.{lt-leb}
use Rattle.theory_basics.specs.Tests.{All}
use Rattle.theory_basics.specs.lemmas.Ranges.{count_cong, count_mono}
use Rattle.theory_basics.specs.lemmas.Tests.{T_and, T_or_iff, and_T, any_append, by_cond, not_and}
use Rattle.job.specs.Job.{Job, chunks, due, held_most}
use Rattle.fetch.specs.Rows.{Row, begun, bytes_in_slot, held, held_count}
use Rattle.theory_plan.specs.Own.{Fetched, Piece, allowed, row_of, slot_takes}

-- ---- rows by slot

abbrev pub UpTo : ℕ → List Row → Type 0
UpTo t rows = All (λ (x : Row). x.slot ≤ t) rows

abbrev InSlot : ℕ → List Row → Type 0
InSlot t rows = All (λ (x : Row). x.slot ≡ t) rows

pub later_none : (t u : ℕ) (rows : List Row) → UpTo t rows → t < u → bytes_in_slot rows u ≡ 0
later_none t u [] a h = refl
later_none t u (x ∷ rows) a h = rw (ne_eqb x.slot u (λ e. omega (arith, a.0))) (omega (arith, later_none t u rows a.1 h))

pub other_none : (t u : ℕ) (rows : List Row) → InSlot t rows → u < t → bytes_in_slot rows u ≡ 0
other_none t u [] a h = refl
other_none t u (x ∷ rows) a h = rw (ne_eqb x.slot u (λ e. omega (arith, a.0))) (omega (arith, other_none t u rows a.1 h))

pub in_slot_up : (t : ℕ) (rows : List Row) → InSlot t rows → UpTo t rows
in_slot_up t [] a = tt
in_slot_up t (x ∷ rows) a = (omega (arith, a.0), in_slot_up t rows a.1)

pub up_later : (t u : ℕ) (rows : List Row) → t ≤ u → UpTo t rows → UpTo u rows
up_later t u [] h a = tt
up_later t u (x ∷ rows) h a = (omega (arith, a.0), up_later t u rows h a.1)

-- ---- chunks held

-- Of rows up to slot t, what is begun by a later slot is begun by t.
begun_by_then : (t u i : ℕ) (rows : List Row) → UpTo t rows → T (begun rows u i) → T (begun rows t i)
begun_by_then t u i [] a b = absurd b
begun_by_then t u i (x ∷ rows) a b =
    let here : Bool = eqb x.chunk i && leb x.slot u in
    let now : Bool = eqb x.chunk i && leb x.slot t in
    (T_or_iff now (begun rows t i)).1 (⊎_elim
    (λ c. inl (T_and (eqb x.chunk i) (leb x.slot t) (and_T (eqb x.chunk i) (leb x.slot u) c).0 (le→leb x.slot t a.0)))
    (λ c. inr (begun_by_then t u i rows a.1 c))
    ((T_or_iff here (begun rows u i)).0 b))

-- So no more are held at the end of a later slot.
pub held_later : (j : Job) (t u : ℕ) (rows : List Row) → UpTo t rows → t ≤ u → held_count j rows u ≤ held_count j rows t
held_later j t u rows a h =
    count_mono (held j rows u) (held j rows t) (chunks j) (λ i lo hi b.
    let c = and_T (begun rows u i) (ltb u (due j i)) b in
    T_and (begun rows t i) (ltb t (due j i)) (begun_by_then t u i rows a c.0) (lt→ltb t (due j i) (omega (arith, ltb→lt u (due j i) c.1))))

-- Rows of a later slot begin nothing by slot u.
not_begun : (t u i : ℕ) (more : List Row) → InSlot t more → u < t → begun more u i ≡ false
not_begun t u i [] a h = refl
not_begun t u i (x ∷ more) a h =
    let e : leb x.slot u ≡ false = lt-leb x.slot u (omega (arith, a.0)) in
    rw (e, and-false (eqb x.chunk i)) (not_begun t u i more a.1 h)

pub held_before : (j : Job) (t u : ℕ) (rows more : List Row) → InSlot t more → u < t → held_count j (rows ++ more) u ≡ held_count j rows u
held_before j t u rows more a h =
    count_cong (held j (rows ++ more) u) (held j rows u) (chunks j) (λ i lo hi.
    let e : begun (rows ++ more) u i ≡ begun rows u i =
    any_append (λ x. eqb x.chunk i && leb x.slot u) rows more ∙ rw (not_begun t u i more a h) (or-false (begun rows u i)) in
    ap (λ (b : Bool). b && ltb u (due j i)) e)

-- One byte of a piece begins as much as more of it.
pub held_same : (j : Job) (rows : List Row) (t b c : ℕ) (p : Piece) → held_count j (rows ++ (row_of t p b ∷ [])) t ≡ held_count j (rows ++ (row_of t p c ∷ [])) t
held_same j rows t b c p =
    count_cong (held j (rows ++ (row_of t p b ∷ [])) t) (held j (rows ++ (row_of t p c ∷ [])) t) (chunks j) (λ i lo hi.
    let e : begun (rows ++ (row_of t p b ∷ [])) t i ≡ begun (rows ++ (row_of t p c ∷ [])) t i =
    any_append (λ x. eqb x.chunk i && leb x.slot t) rows (row_of t p b ∷ [])
    ∙ sym (any_append (λ x. eqb x.chunk i && leb x.slot t) rows (row_of t p c ∷ [])) in
    ap (λ (z : Bool). z && ltb t (due j i)) e)

-- ---- a slot

same_front : (p q : Piece) (ps qs : List Piece) → p ∷ ps ≡ q ∷ qs → p ≡ q
same_front p q ps qs e = cc

no_front : (q : Piece) (qs : List Piece) → ◌≡◌ {A = List Piece} [] (q ∷ qs) → ⊥
no_front q qs e = let z : ◌≡◌ {A = ℕ} 0 1 = cc in omega arith

-- Slot t with c bytes to spend, after the rows made so far.
pub record SlotTook (j : Job) (t c : ℕ) (rows : List Row) (r : Fetched) : Type 0 where
  pub more : List Row
  pub rows_are : r.rows ≡ rows ++ more
  pub in_slot_lem : InSlot t more
  pub within : bytes_in_slot more t ≤ c
  pub few : held_count j rows t ≤ held_most j → held_count j r.rows t ≤ held_most j
  pub stops : (p : Piece) (ps : List Piece) → r.left ≡ p ∷ ps → (bytes_in_slot more t ≡ c) ⊎ T (not (allowed j r.rows t p))

module _ (j : Job) (t : ℕ) where
  pub one_row : (p : Piece) (b : ℕ) → bytes_in_slot (row_of t p b ∷ []) t ≡ b
  one_row p b = rw (eq-eqb t t refl) (omega arith)

  with_row : (rows : List Row) (p : Piece) (b : ℕ) → T (allowed j rows t p) → held_count j (rows ++ (row_of t p b ∷ [])) t ≤ held_most j
  with_row rows p b ok = rw (held_same j rows t b 1 p) (leb→le (held_count j (rows ++ (row_of t p 1 ∷ [])) t) (held_most j) ok)

  pub slot_took : (c : ℕ) (rows : List Row) (q : List Piece) → SlotTook j t c rows (slot_takes j t c rows q)
  slot_took c rows [] =
      record { more = []; rows_are = sym (append-nil rows); in_slot_lem = tt; within = omega arith; few = λ h. h; stops = λ p ps e. absurd (no_front p ps e) }
  slot_took c rows (p ∷ ps) =
      by_cond (SlotTook j t c rows) (allowed j rows t p && ltb 0 c)
      (λ go.
      let ok = (and_T (allowed j rows t p) (ltb 0 c) go).0 in
      by_cond (SlotTook j t c rows) (leb p.bytes c)
      (λ fits. whole ok (leb→le p.bytes c fits) (slot_took (c - p.bytes) (rows ++ (row_of t p p.bytes ∷ [])) ps))
      (λ over. record {
        more = row_of t p c ∷ [];
        rows_are = refl;
        in_slot_lem = (refl, tt);
        within = omega (arith, one_row p c);
        few = λ h. with_row rows p c ok;
        stops = λ q qs e. inl (one_row p c);
      }))
      (λ stay. record {
        more = [];
        rows_are = sym (append-nil rows);
        in_slot_lem = tt;
        within = omega arith;
        few = λ h. h;
        stops = λ q qs e.
            ⊎_elim
            (λ n. inr (subst (λ (x : Piece). T (not (allowed j rows t x))) (same_front p q ps qs e) n))
            (λ n. inl (omega (arith, nltb→le 0 c n)))
            (not_and (allowed j rows t p) (ltb 0 c) stay);
      })
    where
      whole :
          T (allowed j rows t p) → p.bytes ≤ c →
          SlotTook j t (c - p.bytes) (rows ++ (row_of t p p.bytes ∷ [])) (slot_takes j t (c - p.bytes) (rows ++ (row_of t p p.bytes ∷ [])) ps) →
          SlotTook j t c rows (slot_takes j t (c - p.bytes) (rows ++ (row_of t p p.bytes ∷ [])) ps)
      whole ok h i =
          let x = row_of t p p.bytes in
          let sum : bytes_in_slot (x ∷ i.more) t ≡ p.bytes + bytes_in_slot i.more t = rw (eq-eqb t t refl) refl in
          record {
            more = x ∷ i.more;
            rows_are = i.rows_are ∙ append_assoc rows (x ∷ []) i.more;
            in_slot_lem = (refl, i.in_slot_lem);
            within = omega (arith, sum, i.within);
            few = λ k. i.few (with_row rows p p.bytes ok);
            stops = λ q qs e. ⊎_elim (λ s. inl (omega (arith, sum, s))) (λ n. inr n) (i.stops q qs e);
          }
