-- Lemmas. A turn of the loop that reads a job file: a record read, judged and taken. Assumes
-- nothing.
use Prim.Native.Nat.{ℕ, ◌+◌, ◌-◌, ◌≤◌, ◌<◌}
use mathlib.Core.Path.{◌≡◌, refl, sym, ap, ◌∙◌}
use mathlib.Core.Bool.{Bool, true, false}
use mathlib.Core.List.{List, [], ◌∷◌, ◌++◌}
use native.Mathlib.Omega.{arith}
use lib.ListN.{length, take, drop, length-drop}
use lib.Seq.{length-take-le}
use Rattle.std.specs.Prelude.{Ok, Err}
use Rattle.theory_basics.specs.Refusals.{◌or_else◌}
use Rattle.theory_basics.specs.lemmas.Refusals.{or_else_iff}
use Rattle.refusals.specs.declared.Refusal.{Refusal}
use Rattle.refusals.specs.Numbers.{number_of}
use Rattle.refusals.specs.Laws.{number_above_0}
use Rattle.records.specs.File.{Front, got, none, records_refusal}
use Rattle.records.specs.lemmas.Reading.{Ends, reads_start, reads_none, reads_end, reads_fault, reads_more}
use Rattle.job.specs.Refusal.{overrides_refusal}
use Rattle.jobrecords.specs.declared.Record.{Record}
use Rattle.jobrecords.specs.declared.Progress.{Progress}
use Rattle.jobrecords.specs.Records.{front, is_end}
use Rattle.jobrecords.specs.lemmas.Sound.{front_sound}
use Rattle.jobrecords.specs.Says.{programme_in, sizes_in, overrides_in, forecast_in, job_in}
use Rattle.jobrecords.specs.Refusal.{mixed, second_refusal, previous, range_fault, fault, lacking, format}
use Rattle.jobrecords.specs.Reader.{read_front, read_at}
use Rattle.jobrecords.specs.lemmas.Reading.{no_records, sequence_at, sequence_at_is, fault_after, counted, job_from, end_refusal, end_code, Inside, Fine, StandsFor, Counts, ends_after, TakeRecordPost, OneStepPre, Complete, Refuses, Reached}
use Rattle.jobrecords.proofs.Counting.{counts_start, counts_more, mixed_free}

-- ---- what stands in front

-- The record that was read stands in front, and ends in the file.
pub record Stands (q : Bool) (s : List ℕ) (at : ℕ) (r : Record) (next : ℕ) : Type 0 where
  pub size : ℕ
  pub next_is : next ≡ at + size
  pub front_is : front q (drop at s) ≡ got r size
  pub some : 0 < size
  pub fits : size ≤ length (drop at s)

pub read_stands : (q : Bool) (s : List ℕ) (at : ℕ) (r : Record) (next : ℕ) → read_at q s at ≡ Ok (r, next) → Stands q s at r next
read_stands q s at r next e = by_front (front q (drop at s)) refl e where
  by_front : (x : Front Record) → front q (drop at s) ≡ x → read_front at x ≡ Ok (r, next) → Stands q s at r next
  by_front (got p n) i e =
      let both : (p, at + n) ≡ (r, next) = cc in
      let same : p ≡ r = ap (λ (x : Record × ℕ). x.0) both in
      let sound = rw i at (front_sound q (drop at s)) in
      record { size = n; next_is = sym (ap (λ (x : Record × ℕ). x.1) both); front_is = i ∙ ap (λ (k : Record). got k n) same; some = sound.0; fits = sound.1 }
  by_front (none n) i e = let z : ◌≡◌ {A = ℕ} 0 1 = cc in absurd (omega arith)

-- ---- the laws of a turn

module _ (j : Progress) (z f : List ℕ) (rs : List Record) (i : StandsFor j z f rs) where
  pub layers_are : j.layers ≡ length (sizes_in rs)
  layers_are = sym (length-take-le j.layers z (omega (arith, i.room.sized.layers_in, i.room.sized.sizes_room))) ∙ ap length i.sizes_are

  pub slots_are : j.slots ≡ length (forecast_in rs)
  slots_are = sym (length-take-le j.slots f (omega (arith, i.room.slots_in, i.room.slots_room))) ∙ ap length i.forecast_is

  -- By the state a record has the fault that it has after the records that the state stands for.
  fault_is : (q : Bool) (r : Record) → fault_after q j r ≡ fault q rs r
  fault_is q r = let turn = sequence_at_is q (previous rs) r in rw (i.seen_is, i.place_is, i.bytes_is, turn, layers_are, slots_are)

  end_is : (s : List ℕ) (at : ℕ) → Counts s at j rs → end_refusal s j z ≡ lacking rs
  end_is s at k =
      let uneven : overrides_refusal j.programme (take j.layers z) (counted s j) ≡ overrides_refusal (programme_in rs) (sizes_in rs) (overrides_in rs) = rw (i.programme_is, i.sizes_are, k.are) in
      rw (uneven, i.seen_is, layers_are, slots_are, i.programme_is)

  job_is : (s : List ℕ) (at : ℕ) → Counts s at j rs → job_from s j z f ≡ job_in rs
  job_is s at k = rw (i.programme_is, i.sizes_are, k.are, i.forecast_is)

pub going_start : (q : Bool) (s z f : List ℕ) → length z ≡ 4 → length f ≡ 3600 → OneStepPre q s 0 no_records z f
going_start q s z f h k =
    record {
      before = [];
      reads = reads_start (format q) s;
      stands = record {
        room = record { sized = record { chunks_in = omega arith; layers_in = omega arith; sizes_room = h }; slots_in = omega arith; slots_room = k };
        place_is = refl;
        bytes_is = refl;
        seen_is = refl;
        programme_is = refl;
        sizes_are = refl;
        forecast_is = refl;
      };
      counts = counts_start s;
    }

module _ (q : Bool) (s : List ℕ) (at : ℕ) (j : Progress) (z f : List ℕ) (g : OneStepPre q s at j z f) where
  -- No record stands here.
  pub turn_none : (e : Refusal) → Err (number_of e) ≡ read_at q s at → Refuses q s e
  turn_none e told = by_front (front q (drop at s)) refl told where
    by_front : (x : Front Record) → front q (drop at s) ≡ x → Err (number_of e) ≡ read_front at x → Refuses q s e
    by_front (got p k) i told = let z : ◌≡◌ {A = ℕ} 0 1 = cc in absurd (omega arith)
    by_front (none k) i told = let same : number_of e ≡ k = cc in reads_none (format q) s at g.before g.reads k i ∙ sym same

  -- The SZs so far stand in the file.
  pub turn_counted : Inside s j
  turn_counted = record { overrides_below = g.counts.room; ends_in = omega (arith, g.counts.inside, g.reads.inside) }

  module _ (r : Record) (next : ℕ) (e : Ok (r, next) ≡ read_at q s at) where
    stands_here : Stands q s at r next
    stands_here = read_stands q s at r next (sym e)

    pub turn_inside : next ≤ length s
    turn_inside = omega (arith, stands_here.next_is, stands_here.fits, length-drop at s, g.reads.inside)

    -- EN.
    module _ (b : is_end r ≡ true) where
      ends : Ends (format q) s g.before (length (drop at s) - stands_here.size)
      ends = reads_end (format q) s at g.before g.reads r stands_here.size stands_here.front_is b

      code : records_refusal (format q) s ≡ end_code s j (length s - next) z
      code =
          let after : length (drop at s) - stands_here.size ≡ length s - next = omega (arith, stands_here.next_is, length-drop at s) in
          ends.refusal_is ∙ rw (after, end_is j z f g.before g.stands s at g.counts)

      pub turn_lacking : (e : Refusal) → number_of e ≡ end_code s j (length s - next) z → Refuses q s e
      turn_lacking e is = code ∙ sym is

      pub turn_done : 0 ≡ end_code s j (length s - next) z → Complete q s j z f
      turn_done is = record { none = code ∙ sym is; room = g.stands.room; inside = turn_counted; job_is = job_is j z f g.before g.stands s at g.counts ∙ ap job_in (sym ends.records_are) }

    module _ (b : is_end r ≡ false) where
      pub turn_fault : (e : Refusal) → number_of e ≡ fault_after q j r → Refuses q s e
      turn_fault e is =
          let h = stands_here in
          let same : number_of e ≡ fault q g.before r = is ∙ fault_is j z f g.before g.stands q r in
          let some : fault q g.before r ≡ 0 → ⊥ = λ y. omega (arith, number_above_0 e) in
          reads_fault (format q) s at g.before g.reads r h.size h.front_is b some ∙ sym same

      pub turn_fine : fault_after q j r ≡ 0 → Fine j r
      turn_fine clean =
          let u = (or_else_iff (second_refusal j.seen r) (sequence_at q j.place j.bytes r or_else range_fault j.layers j.slots r)).0 clean in
          record { no_end = b; first = u.0; ranges = ((or_else_iff (sequence_at q j.place j.bytes r) (range_fault j.layers j.slots r)).0 u.1).1 }

      pub turn_more : fault_after q j r ≡ 0 → (j' : Progress) (z' f' : List ℕ) → TakeRecordPost j z f r next j' z' f' → (at < next) × OneStepPre q s next j' z' f'
      turn_more clean j' z' f' t =
          let h = stands_here in
          let zero-fault = sym (fault_is j z f g.before g.stands q r) ∙ clean in
          let free : q ≡ mixed → overrides_in g.before ≡ [] = λ m. mixed_free s at g.before (rw m at g.reads) in (
            omega (arith, h.next_is, h.some),
            record {
              before = g.before ++ (r ∷ []);
              reads = rw h.next_is (reads_more (format q) s at g.before g.reads r h.size h.front_is b h.some h.fits zero-fault);
              stands = t.stands g.before g.stands;
              counts = rw h.next_is (counts_more s at j g.before g.counts q free r h.size j' h.front_is b zero-fault t.overrides_are (t.ends_are ∙ ap (λ (m : ℕ). ends_after j.ends m r) h.next_is));
            },
          )

-- What is left of a record that was taken.
pub reached : (q : Bool) (s : List ℕ) (at : ℕ) (j : Progress) (z f : List ℕ) → OneStepPre q s at j z f → Reached s at j
reached q s at j z f g =
    record { inside = g.reads.inside; overrides_below = omega (arith, g.counts.room, g.counts.inside); slots_in = g.stands.room.slots_in }
