-- Lemmas. What holds after a run of bookings and releases, step by step. Assumes nothing.
use Rattle.std.specs.Prelude.{ℕ, ◌+◌, ◌≤◌, ◌≡◌, refl, List, length, eqb}
use Rattle.std.proofs.Common.{subst, arith}
use Rattle.theory_basics.specs.Tests.{All}
use Rattle.job.specs.Job.{Job, EqualChunks, Layer, Within, with_forecast}
use Rattle.fetch.specs.Rows.{Row, bytes_in_slot}
use Rattle.fetch.specs.lemmas.Rows.{bytes_append}
use Rattle.booking.specs.Booking.{SlotsThere, Without, Run, start, booking, releasing, rows_booked, Balanced}
use Rattle.booking.specs.Booking
use Rattle.booking.specs.lemmas.Slots.{length_taken, length_added, taken_at, added_at, all_slots, slots_all, bookable_within, bookable_there}

-- Forecasts of one length have the same slots.
pub slots_there : (f g : List ℕ) → length f ≡ length g → (rows : List Row) → SlotsThere f rows → SlotsThere g rows
slots_there f g e rows a = subst (λ (n : ℕ). All (λ (x : Row). (1 ≤ x.slot) × (x.slot ≤ n)) rows) e a

-- ---- a list taken out

pub without_bytes :
    (x : List Row) {l m : List (List Row)} → Without x l m → (t : ℕ) →
    bytes_in_slot (rows_booked l) t ≡ bytes_in_slot x t + bytes_in_slot (rows_booked m) t
without_bytes x (Booking.here {l = l}) t = bytes_append (λ y. eqb y.slot t) x (rows_booked l)
without_bytes x (Booking.there {y = y} {l = l} {m = m} w) t =
    omega (
      arith,
      bytes_append (λ y. eqb y.slot t) y (rows_booked l),
      bytes_append (λ y. eqb y.slot t) y (rows_booked m),
      without_bytes x w t,
    )

pub without_all : (P : List Row → Type 0) (x : List Row) {l m : List (List Row)} → Without x l m → All P l → P x × All P m
without_all P x Booking.here a = a
without_all P x (Booking.there w) a = let r = without_all P x w a.1 in (r.0, (a.0, r.1))

-- ---- what every run keeps

-- Booked and unspent bytes are the first forecast's, and every booked row has its slot there.
pub record Kept (first f : List ℕ) (booked : List (List Row)) : Type 0 where
  pub balance : Balanced first f booked
  pub there : All (SlotsThere first) booked

pub kept : {first f : List ℕ} {booked : List (List Row)} → Run first f booked → Kept first f booked
kept {first = first} start = record { balance = record { slots = refl; sums = λ t g h. omega arith }; there = tt }
kept {first = first} (booking {f = f} {booked = booked} run rows b) =
    let k = kept run in
    let r = k.balance in
    record {
      balance = record {
        slots = omega (arith, length_taken f rows, r.slots);
        sums = λ t g h.
            omega (
              arith,
              bytes_append (λ y. eqb y.slot t) rows (rows_booked booked),
              taken_at f rows t g (omega (arith, r.slots)),
              bookable_within f rows b t g (omega (arith, r.slots)),
              r.sums t g h,
            );
      };
      there = (slots_there f first r.slots rows (bookable_there f rows b), k.there);
    }
kept {first = first} (releasing {f = f} {booked = booked} {left = left} run rows w) =
    let k = kept run in
    let r = k.balance in
    record {
      balance = record {
        slots = omega (arith, length_added f rows, r.slots);
        sums = λ t g h. omega (arith, without_bytes rows w t, added_at f rows t g (omega (arith, r.slots)), r.sums t g h);
      };
      there = (without_all (SlotsThere first) rows w k.there).1;
    }

-- What is left after a run is a forecast in range.
pub run_in_range : {first f : List ℕ} {booked : List (List Row)} → All (Within 0 16777216) first → Run first f booked → All (Within 0 16777216) f
run_in_range {first = first} {f = f} a run =
    let r = (kept run).balance in
    slots_all (Within 0 16777216) f (λ t g h.
    record { low = omega arith; high = omega (arith, r.sums t g (omega (arith, r.slots)), all_slots (Within 0 16777216) first a t g (omega (arith, r.slots))) })

-- ---- a film on another forecast

layer_back : (j : Job) (f : List ℕ) (i n : ℕ) → Layer (with_forecast j f) i n → Layer j i n
layer_back j f i n r = record { chunk_low = r.chunk_low; chunk_high = r.chunk_high; layer_in = r.layer_in }

-- Its chunks are as equal as they were.
pub equal_on : (j : Job) (f : List ℕ) → EqualChunks j → EqualChunks (with_forecast j f)
equal_on j f e i k n u v = e i k n (layer_back j f i n u) (layer_back j f k n v)
