-- Laws on the passes over the rows: the forecast after one row more, and rows by slot and bytes
-- alone. Assumes nothing.
use Prim.Native.Nat.{ℕ, zero, suc, ◌+◌, ◌-◌, ◌≤◌, ◌<◌}
use mathlib.Core.Path.{◌≡◌, refl, sym, ap, ◌∙◌}
use mathlib.Core.Bool.{Bool, true, false, cond}
use mathlib.Core.List.{List, [], ◌∷◌, ◌++◌}
use mathlib.Core.Logic.{⊎_elim, ◌⊎◌, ◌↔◌}
use native.Mathlib.Omega.{arith}
use native.Mathlib.Numerals.{add-one}
use lib.ListN.{length, get_or, set, length-set}
use lib.Seq.{ext_get_or, get_or-set_same, get_or-set_other}
use lib.Dec.{T_not, eqb, leb, eqb→eq}
use borrow.Author.Tests.{eq-eqb, eqb-true, leb-true, leb-false}
use Rattle.theory_basics.specs.Tests.{All}
use Rattle.theory_basics.specs.Lists.{up_to}
use Rattle.theory_basics.specs.lemmas.Lists.{get_d_up_to, up_to_cong}
use Rattle.theory_basics.specs.lemmas.Tests.{all_append, eqb_iff, last, not_T_false, test, T_true}
use Rattle.job.specs.Job.{Within}
use Rattle.fetch.specs.Rows.{Row, bytes_in_slot, row_at, rows_of}
use Rattle.fetch.specs.lemmas.Rows.{bytes_append}
use Rattle.booking.specs.Booking.{slot_has, slot_by_slot, taken_off, added_back, SlotsThere, Releasable}
use Rattle.booking.specs.lemmas.Passes.{bare, Added, Covered}
use Rattle.booking.specs.lemmas.Slots.{length_changed, length_taken, length_added, taken_at, added_at, all_slots, slots_equal}

-- ---- one row more

-- The rows' bytes in slot t with one row more.
abbrev with : List Row → Row → ℕ → ℕ
with rows x t = bytes_in_slot rows t + cond (eqb x.slot t) x.bytes 0

bytes_with : (rows : List Row) (x : Row) (t : ℕ) → bytes_in_slot (rows ++ (x ∷ [])) t ≡ with rows x t
bytes_with rows x t = bytes_append (λ y. eqb y.slot t) rows (x ∷ []) ∙ (omega arith)

-- A forecast that is changed by one row after the other is changed in the row's slot each time.
module _ (change : ℕ → ℕ → ℕ) (by_parts : (a b c : ℕ) → change a (b + c) ≡ change (change a b) c) (f : List ℕ) (rows : List Row) (x : Row) (low : 1 ≤ x.slot) (high : x.slot ≤ length f) where
  abbrev before : List ℕ
  before = slot_by_slot change f rows

  abbrev after : List ℕ
  after = slot_by_slot change f (rows ++ (x ∷ []))

  abbrev stored : List ℕ
  stored = set before (x.slot - 1) (change (get_or before (x.slot - 1) 0) x.bytes)

  at : (k : ℕ) → k < length f → get_or stored k 0 ≡ change (get_or f k 0) (with rows x (k + 1))
  at k h =
      ⊎_elim
      (λ t.
      let e : x.slot ≡ k + 1 = eqb→eq x.slot (k + 1) t in
      let s : x.slot - 1 ≡ k = omega arith in
      rw (s, T_true (eqb x.slot (k + 1)) t)
      (get_or-set_same before k (change (get_or before k 0) x.bytes) 0 (omega (arith, length_changed change f rows))
      ∙ ap (λ (a : ℕ). change a x.bytes) (get_d_up_to (λ k. change (get_or f k 0) (bytes_in_slot rows (k + 1))) (length f) k 0 h)
      ∙ sym (by_parts (get_or f k 0) (bytes_in_slot rows (k + 1)) x.bytes)))
      (λ t.
      let z : bytes_in_slot rows (k + 1) + 0 ≡ bytes_in_slot rows (k + 1) = omega arith in
      let o : k ≡ x.slot - 1 → ⊥ = λ e. T_not (eqb x.slot (k + 1)) t ((eqb_iff x.slot (k + 1)).1 (omega arith)) in
      rw (not_T_false (eqb x.slot (k + 1)) t, z)
      (get_or-set_other before (x.slot - 1) k (change (get_or before (x.slot - 1) 0) x.bytes) 0 o
      ∙ get_d_up_to (λ k. change (get_or f k 0) (bytes_in_slot rows (k + 1))) (length f) k 0 h))
      (test (eqb x.slot (k + 1)))

  changed_next : stored ≡ after
  changed_next =
      let l : length stored ≡ length f = length-set before (x.slot - 1) (change (get_or before (x.slot - 1) 0) x.bytes) ∙ length_changed change f rows in
      ext_get_or 0 stored after (l ∙ sym (length_changed change f (rows ++ (x ∷ [])))) (λ k h.
      let i : k < length f = omega arith in
      at k i ∙ sym (get_d_up_to (λ k. change (get_or f k 0) (bytes_in_slot (rows ++ (x ∷ [])) (k + 1))) (length f) k 0 i ∙ ap (change (get_or f k 0)) (bytes_with rows x (k + 1))))

module _ (f : List ℕ) (rows : List Row) (x : Row) (low : 1 ≤ x.slot) (high : x.slot ≤ length f) where
  taken_next : set (taken_off f rows) (x.slot - 1) (get_or (taken_off f rows) (x.slot - 1) 0 - x.bytes) ≡ taken_off f (rows ++ (x ∷ []))
  unfolding taken_off
  taken_next = changed_next (λ (a b : ℕ). a - b) (λ a b c. omega arith) f rows x low high

  added_next : set (added_back f rows) (x.slot - 1) (get_or (added_back f rows) (x.slot - 1) 0 + x.bytes) ≡ added_back f (rows ++ (x ∷ []))
  unfolding added_back
  added_next = changed_next (λ (a b : ℕ). a + b) (λ a b c. omega arith) f rows x low high

pub taken_none : (f : List ℕ) → f ≡ taken_off f []
taken_none f =
    let l = length_taken f [] in
    sym (slots_equal (taken_off f []) f l (λ t g h. omega (arith, taken_at f [] t g (omega arith))))

added_none : (f : List ℕ) → f ≡ added_back f []
added_none f =
    let l = length_added f [] in
    sym (slots_equal (added_back f []) f l (λ t g h. omega (arith, added_at f [] t g (omega arith))))

-- Rows just added are taken off again.
pub taken_again : (f : List ℕ) (rows : List Row) → taken_off (added_back f rows) rows ≡ f
taken_again f rows =
    let l = length_added f rows in
    let k = length_taken (added_back f rows) rows in
    slots_equal (taken_off (added_back f rows) rows) f (k ∙ l) (λ t g h.
    omega (arith, taken_at (added_back f rows) rows t g (omega arith), added_at f rows t g (omega arith)))

-- ---- rows given by the index

module _ (P : Row → Type 0) where
  all_split : (a b : List Row) → All P (a ++ b) → All P a × All P b
  all_split [] b u = (tt, u)
  all_split (x ∷ a) b u = let r = all_split a b u.1 in ((u.0, r.0), r.1)

  all_at : (g : ℕ → Row) (n k : ℕ) → k < n → All P (up_to g n) → P (g k)
  all_at g zero k h a = absurd (omega arith)
  all_at g (suc n) k h a =
      let u = all_split (up_to g n) (g n ∷ []) a in
      ⊎_elim (λ l. all_at g n k l u.0) (λ e. let q : k ≡ n = omega arith in rw q u.1.0) (last (suc k) n h)

  all_of : (g : ℕ → Row) (n : ℕ) → ((k : ℕ) → k < n → P (g k)) → All P (up_to g n)
  all_of g zero f = tt
  all_of g (suc n) f = all_append P (up_to g n) (g n ∷ []) (all_of g n (λ k h. f k (omega arith))) (f n (omega arith), tt)

-- Fewer rows have fewer bytes.
bytes_fewer : (g : ℕ → Row) (t i n : ℕ) → i ≤ n → bytes_in_slot (up_to g i) t ≤ bytes_in_slot (up_to g n) t
bytes_fewer g t i zero h = let e : i ≡ 0 = omega arith in rw e (omega arith)
bytes_fewer g t i (suc n) h =
    ⊎_elim
    (λ l. omega (arith, bytes_fewer g t i n l, bytes_with (up_to g n) (g n) t))
    (λ e. rw e (omega arith))
    (last i n h)

-- ---- rows by slot and bytes alone

module _ (slots chunks layers bytes : List ℕ) where
  bytes_bare : (n t : ℕ) → bytes_in_slot (up_to (row_at slots chunks layers bytes) n) t ≡ bytes_in_slot (bare slots bytes n) t
  bytes_bare zero t = refl
  bytes_bare (suc n) t =
      omega (
        arith,
        bytes_bare n t,
        bytes_with (up_to (row_at slots chunks layers bytes) n) (row_at slots chunks layers bytes n) t,
        bytes_with (bare slots bytes n) (row_at slots [] [] bytes n) t,
      )

  pub taken_bare : (f : List ℕ) → taken_off f (rows_of slots chunks layers bytes) ≡ taken_off f (bare slots bytes (length slots))
  unfolding taken_off
  taken_bare f = up_to_cong _ _ (length f) (λ k h. ap (λ (b : ℕ). get_or f k 0 - b) (bytes_bare (length slots) (k + 1)))

  pub added_bare : (f : List ℕ) → added_back f (rows_of slots chunks layers bytes) ≡ added_back f (bare slots bytes (length slots))
  unfolding added_back
  added_bare f = up_to_cong _ _ (length f) (λ k h. ap (λ (b : ℕ). get_or f k 0 + b) (bytes_bare (length slots) (k + 1)))

  abbrev There : List ℕ → Row → Type 0
  There f x = (1 ≤ x.slot) × (x.slot ≤ length f)

  there_bare : (f : List ℕ) → SlotsThere f (rows_of slots chunks layers bytes) → SlotsThere f (bare slots bytes (length slots))
  there_bare f a = all_of (There f) (row_at slots [] [] bytes) (length slots) (λ k h. all_at (There f) (row_at slots chunks layers bytes) (length slots) k h a)

  bare_there : (f : List ℕ) → SlotsThere f (bare slots bytes (length slots)) → SlotsThere f (rows_of slots chunks layers bytes)
  bare_there f a = all_of (There f) (row_at slots chunks layers bytes) (length slots) (λ k h. all_at (There f) (row_at slots [] [] bytes) (length slots) k h a)

  pub bare_releasable : (f : List ℕ) → Releasable f (bare slots bytes (length slots)) ↔ Releasable f (rows_of slots chunks layers bytes)
  bare_releasable f = (
    λ r. record { there = bare_there f r.there; room = λ t g h. omega (arith, bytes_bare (length slots) t, r.room t g h) },
    λ r. record { there = there_bare f r.there; room = λ t g h. omega (arith, bytes_bare (length slots) t, r.room t g h) },
  )

  pub bare_covered : (f : List ℕ) → Covered f (rows_of slots chunks layers bytes) → Covered f (bare slots bytes (length slots))
  bare_covered f c = record { there = there_bare f c.there; covered = λ t g h. omega (arith, bytes_bare (length slots) t, c.covered t g h) }

-- ---- rows taken off

-- Row i of n, in slot s, with the rows before it taken off.
module _ (f slots bytes : List ℕ) (n i : ℕ) where
  abbrev row : Row
  row = row_at slots [] [] bytes i

  abbrev left : List ℕ
  left = taken_off f (bare slots bytes i)

  module _ (here : i < n) (c : Covered f (bare slots bytes n)) where
    pub taking_there : (1 ≤ row.slot) × (row.slot ≤ length left)
    taking_there =
        let h = all_at (λ (x : Row). (1 ≤ x.slot) × (x.slot ≤ length f)) (row_at slots [] [] bytes) n i here c.there in
        (h.0, omega (arith, h.1, length_taken f (bare slots bytes i)))

    there : row.slot ≤ length f
    there = omega (arith, taking_there.1, length_taken f (bare slots bytes i))

    -- What the slot has still covers the row.
    pub taking_covers : row.bytes ≤ get_or left (row.slot - 1) 0
    taking_covers =
        let with_row = rw (eq-eqb row.slot row.slot refl) at (bytes_with (bare slots bytes i) row row.slot) in
        omega (arith, taken_at f (bare slots bytes i) row.slot taking_there.0 there, with_row, bytes_fewer (row_at slots [] [] bytes) row.slot (suc i) n here, c.covered row.slot taking_there.0 there)

    pub taking_more : set left (row.slot - 1) (get_or left (row.slot - 1) 0 - row.bytes) ≡ taken_off f (bare slots bytes (i + 1))
    taking_more = rw add-one (taken_next f (bare slots bytes i) row taking_there.0 there)

-- ---- rows added back

pub record Adding (f slots bytes out : List ℕ) (i : ℕ) : Type 0 where
  pub fits : Releasable f (bare slots bytes i)
  pub says : out ≡ added_back f (bare slots bytes i)

pub adding_start : (f slots bytes : List ℕ) → All (Within 0 16777216) f → Adding f slots bytes f 0
adding_start f slots bytes a =
    record {
      fits = record { there = tt; room = λ t g h. omega (arith, (all_slots (Within 0 16777216) f a t g h).high) };
      says = added_none f;
    }

module _ {f slots bytes out : List ℕ} {i : ℕ} (a : Adding f slots bytes out i) where
  pub adding_long : length out ≡ length f
  adding_long = rw a.says (length_added f (bare slots bytes i))

  pub adding_end : (n : ℕ) → n ≡ i → Added f slots bytes n n out
  adding_end n h = rw h (record { inside = omega arith; fits = a.fits; says = a.says; stops = λ l r. omega arith })

  -- Row i, in slot s.
  module _ {n : ℕ} (here : i < n) where
    abbrev next : Row
    next = row_at slots [] [] bytes i

    stopped : (Releasable f (bare slots bytes n) → ⊥) → Added f slots bytes n i out
    stopped never = record { inside = omega arith; fits = a.fits; says = a.says; stops = λ l. never }

    row_there : Releasable f (bare slots bytes n) → (1 ≤ next.slot) × (next.slot ≤ length f)
    row_there r = all_at (λ (x : Row). (1 ≤ x.slot) × (x.slot ≤ length f)) (row_at slots [] [] bytes) n i here r.there

    pub adding_gone : (next.slot < 1) ⊎ ((1 ≤ next.slot) × (length out < next.slot)) → Added f slots bytes n i out
    adding_gone h = stopped (λ r. ⊎_elim (λ l. omega (arith, (row_there r).0)) (λ u. omega (arith, (row_there r).1, u.1, adding_long)) h)

    module _ (low : 1 ≤ next.slot) (high : next.slot ≤ length out) where
      in_f : next.slot ≤ length f
      in_f = omega (arith, adding_long)

      held : get_or out (next.slot - 1) 0 ≡ slot_has f next.slot + bytes_in_slot (bare slots bytes i) next.slot
      held = rw a.says (added_at f (bare slots bytes i) next.slot low in_f)

      with_next : bytes_in_slot (bare slots bytes (suc i)) next.slot ≡ bytes_in_slot (bare slots bytes i) next.slot + next.bytes
      with_next = rw (eq-eqb next.slot next.slot refl) at (bytes_with (bare slots bytes i) next next.slot)

      pub adding_full : leb (get_or out (next.slot - 1) 0 + next.bytes) 16777216 ≡ false → Added f slots bytes n i out
      adding_full e =
          stopped (λ r.
          omega (arith, leb-false (get_or out (next.slot - 1) 0 + next.bytes) 16777216 e, held, with_next, bytes_fewer (row_at slots [] [] bytes) next.slot (suc i) n here, r.room next.slot low in_f))

      pub adding_more : leb (get_or out (next.slot - 1) 0 + next.bytes) 16777216 ≡ true → Adding f slots bytes (set out (next.slot - 1) (get_or out (next.slot - 1) 0 + next.bytes)) (i + 1)
      adding_more e =
          record {
            fits = rw add-one (record {
              there = all_append (λ (x : Row). (1 ≤ x.slot) × (x.slot ≤ length f)) (bare slots bytes i) (next ∷ []) a.fits.there ((low, in_f), tt);
              room = λ t g h. room t g h (eqb next.slot t) refl;
            });
            says = rw (add-one, a.says) (added_next f (bare slots bytes i) next low in_f);
          }
        where
          room : (t : ℕ) → 1 ≤ t → t ≤ length f → (q : Bool) → eqb next.slot t ≡ q → slot_has f t + bytes_in_slot (bare slots bytes (suc i)) t ≤ 16777216
          room t g h true q =
              let z : next.slot ≡ t = eqb-true next.slot t q in
              rw (sym z) (omega (arith, leb-true (get_or out (next.slot - 1) 0 + next.bytes) 16777216 e, held, with_next))
          room t g h false q = omega (arith, rw q at (bytes_with (bare slots bytes i) next t), a.fits.room t g h)
