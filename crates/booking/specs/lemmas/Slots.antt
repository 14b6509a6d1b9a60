-- Lemmas. A forecast changed slot by slot, and what a list that can be booked has in each slot.
-- Assumes nothing.
use Rattle.std.specs.Prelude.{ℕ, suc, ◌+◌, ◌-◌, ◌≤◌, ◌≡◌, List, [], ◌∷◌, length, get_or}
use Rattle.std.proofs.Common.{subst, arith, ext_get_or}
use Rattle.theory_basics.specs.Tests.{All}
use Rattle.theory_basics.specs.lemmas.Lists.{length_up_to, get_d_up_to}
use Rattle.theory_basics.specs.lemmas.Tables.{all_at}
use Rattle.theory_basics.specs.lemmas.Tests.{all_map}
use Rattle.job.specs.Job.{last_slot}
use Rattle.fetch.specs.Rows.{Row, bytes_in_slot}
use Rattle.fetch.specs.Rules.{RowInRange}
use Rattle.booking.specs.Booking.{slot_has, slot_by_slot, taken_off, added_back, SlotsThere, Bookable}

-- ---- slot by slot

module _ (change : ℕ → ℕ → ℕ) (f : List ℕ) (rows : List Row) where
  pub length_changed : length (slot_by_slot change f rows) ≡ length f
  length_changed = length_up_to _ (length f)

  pub changed_at : (t : ℕ) → 1 ≤ t → t ≤ length f → slot_has (slot_by_slot change f rows) t ≡ change (slot_has f t) (bytes_in_slot rows t)
  changed_at t g h =
      let e : t - 1 + 1 ≡ t = omega arith in
      rw e at (get_d_up_to (λ k. change (get_or f k 0) (bytes_in_slot rows (k + 1))) (length f) (t - 1) 0 (omega arith))

module _ (f : List ℕ) (rows : List Row) where
  pub length_taken : length (taken_off f rows) ≡ length f
  unfolding taken_off
  length_taken = length_changed (λ (a b : ℕ). a - b) f rows

  pub length_added : length (added_back f rows) ≡ length f
  unfolding added_back
  length_added = length_changed (λ (a b : ℕ). a + b) f rows

  pub taken_at : (t : ℕ) → 1 ≤ t → t ≤ length f → slot_has (taken_off f rows) t ≡ slot_has f t - bytes_in_slot rows t
  unfolding taken_off
  taken_at = changed_at (λ (a b : ℕ). a - b) f rows

  pub added_at : (t : ℕ) → 1 ≤ t → t ≤ length f → slot_has (added_back f rows) t ≡ slot_has f t + bytes_in_slot rows t
  unfolding added_back
  added_at = changed_at (λ (a b : ℕ). a + b) f rows

-- Two forecasts of one length are equal if they agree in each slot.
pub slots_equal : (f g : List ℕ) → length f ≡ length g → ((t : ℕ) → 1 ≤ t → t ≤ length f → slot_has f t ≡ slot_has g t) → f ≡ g
slots_equal f g l h = ext_get_or 0 f g l (λ i u. let e : i + 1 - 1 ≡ i = omega arith in rw e at (h (i + 1) (omega arith) (omega arith)))

-- ---- a property of each slot's bytes

pub all_slots : (P : ℕ → Type 0) (f : List ℕ) → All P f → (t : ℕ) → 1 ≤ t → t ≤ length f → P (slot_has f t)
all_slots P f a t g h = all_at P f (t - 1) (omega arith) a

pub slots_all : (P : ℕ → Type 0) (f : List ℕ) → ((t : ℕ) → 1 ≤ t → t ≤ length f → P (slot_has f t)) → All P f
slots_all P [] h = tt
slots_all P (b ∷ f) h = (h 1 (omega arith) (omega arith), slots_all P f (λ t g l. let e : suc t - 1 ≡ suc (t - 1) = omega arith in rw e at (h (suc t) (omega arith) (omega arith))))

-- ---- a list that can be booked

module _ (f : List ℕ) (rows : List Row) (b : Bookable f rows) where
  its_slots : length f ≡ last_slot b.job
  its_slots = subst (λ (g : List ℕ). length g ≡ last_slot b.job) b.its_forecast b.accepted.slots_in

  -- Rule 4.
  pub bookable_within : (t : ℕ) → 1 ≤ t → t ≤ length f → bytes_in_slot rows t ≤ slot_has f t
  bookable_within t g h =
      subst (λ (v : List ℕ). bytes_in_slot rows t ≤ slot_has v t) b.its_forecast (b.passes.within t g (omega (arith, its_slots)))

  -- Rule 1.
  pub bookable_there : SlotsThere f rows
  bookable_there =
      all_map (RowInRange b.job) (λ (x : Row). (1 ≤ x.slot) × (x.slot ≤ length f)) rows
      (λ x r. (r.slot_low, omega (arith, r.slot_high, its_slots)))
      b.passes.in_range_lem
