-- Laws that the functions' proofs cite: samples looked at one by one, and the cells of a meter
-- after a sample. Assumes nothing.
use Prim.Native.Nat.{ℕ, zero, suc, ◌+◌, ◌-◌, min, ◌≤◌, ◌<◌}
use mathlib.Core.Path.{◌≡◌, refl, sym, ◌∙◌}
use mathlib.Core.Bool.{Bool, true, false}
use mathlib.Core.List.{List, [], ◌∷◌, ◌++◌, map, map-append, append_assoc}
use native.Mathlib.Omega.{arith}
use native.Mathlib.Numerals.{add-one}
use lib.ListN.{length, get_or, take, drop, length-append, length-drop, drop_of_length-le}
use lib.Seq.{drop-cons, take-suc, set_split}
use lib.Dec.{T_not, eqb, ltb, ltb→lt, nltb→le}
use borrow.Author.Tests.{lt-ltb, le-ltb}
use mathlib.Core.Logic.{⊎_elim}
use Rattle.theory_basics.specs.lemmas.Tests.{by_cond, true_T}
use Rattle.std.specs.Int.{div_ceil}
use Rattle.std.proofs.lemmas.Grind.{div_ceil_times}
use Rattle.std.proofs.Common.{lt_of_mul-lt-mul_right}
use Rattle.theory_basics.specs.lemmas.Division.{divided_up_enough, divided_up_near}
use Rattle.theory_basics.specs.Division.{divided_up}
use Rattle.theory_basics.specs.Lists.{up_to}
use Rattle.theory_basics.specs.lemmas.Lists.{length_up_to}
use Rattle.meter.specs.declared.Meter.{Meter}
use Rattle.std.specs.Prelude.{Result, Ok, Err}
use Rattle.refusals.specs.declared.Refusal.{Refusal}
use Rattle.refusals.specs.Numbers.{answered, number_of}
use Rattle.theory_basics.specs.lemmas.Tests.{test, T_true, not_T_false}
use Rattle.meter.specs.Meter.{Sample, sample, samples_of, storing, SampleInRange, in_range, last_sample_slot, InOrder, in_order, with_sample, taken, take_answer, take_refusal, UpdatePromise}
use Rattle.meter.specs.lemmas.Cells.{next_cells}
use Rattle.meter.proofs.Promises.{few_kept}
use Rattle.meter.specs.lemmas.Order.{in_order_iff, in_range_iff, test_false, test_true, Fine, fine_snoc, fine_before, last_slot_snoc}

-- The sample in cell k.
abbrev pub cell : Meter → ℕ → Sample
cell m k = sample (get_or m.slots k 0) (get_or m.bytes k 0)

-- ---- a look at each sample

-- The first i samples are looked at, and the last of them is of the slot `before`.
pub record Looked (m : Meter) (before i : ℕ) : Type 0 where
  pub fine : Fine (up_to (cell m) i)
  pub last : before ≡ last_sample_slot 0 (up_to (cell m) i)

-- What the answer r of the range test says of a sample.
pub found_in : (x : Sample) (r : Bool) → r ≡ in_range x → r ≡ true → SampleInRange x
found_in x r e f = (in_range_iff x).0 (true_T (in_range x) (sym e ∙ f))

pub found_out : (x : Sample) (r : Bool) → r ≡ in_range x → r ≡ false → SampleInRange x → ⊥
found_out x r e f w = T_not (in_range x) (rw (sym e ∙ f) tt) ((in_range_iff x).1 w)

pub looked_start : (m : Meter) → Looked m 0 0
looked_start m = record { fine = record { each = tt; rises = tt }; last = refl }

pub looked_more : (m : Meter) (before i : ℕ) → Looked m before i → SampleInRange (cell m i) → before < get_or m.slots i 0
    → Looked m (get_or m.slots i 0) (i + 1)
looked_more m before i w r h = rw (add-one i) record {
  fine = (fine_snoc (up_to (cell m) i) (cell m i)).1 (w.fine, (r, rw (← w.last) h));
  last = sym (last_slot_snoc 0 (up_to (cell m) i) (cell m i));
}

pub looked_all : (m : Meter) (before : ℕ) → m.kept ≤ 10 → Looked m before m.kept → in_order (samples_of m) ≡ true
looked_all m before h w =
    test_true (in_order (samples_of m)) (in_order_iff (samples_of m))
    record { few = omega (arith, length_up_to (cell m) m.kept); each = w.fine.each; rises = w.fine.rises }

-- A kept sample is out of range, or its slot is not above the one before.
pub looked_broken : (m : Meter) (i : ℕ) → i < m.kept → (SampleInRange (cell m i) → last_sample_slot 0 (up_to (cell m) i) < get_or m.slots i 0 → ⊥)
    → in_order (samples_of m) ≡ false
looked_broken m i h n =
    test_false (in_order (samples_of m)) (in_order_iff (samples_of m)) (λ o.
    let u = (fine_snoc (up_to (cell m) i) (cell m i)).0 (fine_before (cell m) (suc i) m.kept (omega arith) record { each = o.each; rises = o.rises }) in
    n u.1.0 u.1.1)

pub too_many : (m : Meter) → 10 < m.kept → in_order (samples_of m) ≡ false
too_many m h =
    test_false (in_order (samples_of m)) (in_order_iff (samples_of m)) (λ o. omega (arith, o.few, length_up_to (cell m) m.kept))

pub in_order_kept : (m : Meter) → InOrder (samples_of m) → m.kept ≤ 10
in_order_kept m o = omega (arith, o.few, length_up_to (cell m) m.kept)

pub passed_kept : (m : Meter) → in_order (samples_of m) ≡ true → m.kept ≤ 10
passed_kept m e = in_order_kept m ((in_order_iff (samples_of m)).0 (true_T (in_order (samples_of m)) e))

pub last_slot_at : (m : Meter) (n : ℕ) → 0 < n → get_or m.slots (n - 1) 0 ≡ last_sample_slot 0 (up_to (cell m) n)
last_slot_at m zero h = absurd (omega arith)
last_slot_at m (suc n) h =
    let e : suc n - 1 ≡ n = omega arith in
    rw e (sym (last_slot_snoc 0 (up_to (cell m) n) (cell m n)))

-- ---- ten cells and one more

pub ten : {A : Type 0} (l : List A) (v a b c d e f g h i : A) → length l ≡ 10
    → get_or l 1 a ∷ get_or l 2 b ∷ get_or l 3 c ∷ get_or l 4 d ∷ get_or l 5 e ∷ get_or l 6 f ∷ get_or l 7 g ∷ get_or l 8 h ∷ get_or l 9 i ∷ v ∷ [] ≡ drop 1 l ++ (v ∷ [])
ten l v a b c d e f g h i n =
    rw (
      drop-cons l 1 a (omega arith),
      drop-cons l 2 b (omega arith),
      drop-cons l 3 c (omega arith),
      drop-cons l 4 d (omega arith),
      drop-cons l 5 e (omega arith),
      drop-cons l 6 f (omega arith),
      drop-cons l 7 g (omega arith),
      drop-cons l 8 h (omega arith),
      drop-cons l 9 i (omega arith),
      drop_of_length-le l {i = 10} (omega arith),
    )

length_snoc : (f : ℕ → Sample) (n : ℕ) (x : Sample) → length (up_to f n ++ (x ∷ [])) ≡ suc n
length_snoc f n x = omega (arith, length-append (up_to f n) (x ∷ []), length_up_to f n)

-- One lemma for slots and for bytes: g is the number of a sample that the cells hold.
module _ (g : Sample → ℕ) (f : ℕ → Sample) (cells : List ℕ) (held : (k : ℕ) → g (f k) ≡ get_or cells k 0) where
  kept_cells : (n : ℕ) → n ≤ length cells → map g (up_to f n) ≡ take n cells
  kept_cells zero h = refl
  kept_cells (suc n) h =
      map-append g (up_to f n) (f n ∷ [])
      ∙ rw (kept_cells n (omega arith), held n) (sym (take-suc cells n 0 (omega arith)))

  -- Fewer than ten are kept: the next cell takes the sample, and the others stay. Ten: all move by
  -- one, and it comes last.
  pub next_cells_store : (x : Sample) (n : ℕ) → length cells ≡ 10 → n ≤ 10
      → next_cells cells n (g x) ≡ map g (with_sample (up_to f n) x) ++ drop (length (with_sample (up_to f n) x)) cells
  next_cells_store x n full h =
      by_cond (λ (l : List ℕ). l ≡ map g (with_sample (up_to f n) x) ++ drop (length (with_sample (up_to f n) x)) cells) (ltb n 10)
      (λ t.
      let few : n < 10 = ltb→lt n 10 t in
      rw (few_kept (up_to f n) x (omega (arith, length_up_to f n)), length_snoc f n x, map-append g (up_to f n) (x ∷ []), kept_cells n (omega arith), set_split cells n (g x) (omega arith), append_assoc))
      (λ t.
      let e : n ≡ 10 = omega (arith, nltb→le n 10 t) in
      rw (e, held 1, held 2, held 3, held 4, held 5, held 6, held 7, held 8, held 9, drop_of_length-le cells {i = 10} (omega arith))
      (sym (ten cells (g x) 0 0 0 0 0 0 0 0 0 full)))

-- The meter that stores the samples after x, cell by cell.
pub stored : (m : Meter) (x : Sample) (kept : ℕ) → length m.slots ≡ 10 → length m.bytes ≡ 10 → m.kept ≤ 10
    → kept ≡ min (m.kept + 1) 10
    → ◌≡◌ {A = Meter} (record { slots = next_cells m.slots m.kept x.slot; bytes = next_cells m.bytes m.kept x.bytes; kept = kept }) (storing (with_sample (samples_of m) x) m)
stored m x kept s b h e =
    let l = up_to (cell m) m.kept ++ (x ∷ []) in
    let k : kept ≡ length (with_sample (samples_of m) x) = omega (arith, length-drop (length l - 10) l, length_snoc (cell m) m.kept x) in
    rw (
      next_cells_store (λ x. x.slot) (cell m) m.slots (λ k. refl) x m.kept s h,
      next_cells_store (λ x. x.bytes) (cell m) m.bytes (λ k. refl) x m.kept b h,
      k,
    )

-- ---- the four answers to a sample

module _ (m : Meter) (slot bytes : ℕ) where
  abbrev x : Sample
  x = sample slot bytes

  pub answers_out : in_range x ≡ false → Err 10 ≡ take_answer m slot bytes
  unfolding taken
  answers_out e = rw e

  module _ (ranged : in_range x ≡ true) where
    pub answers_disorder : in_order (samples_of m) ≡ false → Err 10 ≡ take_answer m slot bytes
    unfolding taken
    answers_disorder e = rw (ranged, e)

    module _ (ordered : in_order (samples_of m) ≡ true) where
      pub answers_late : slot ≤ last_sample_slot 0 (samples_of m) → Err 13 ≡ take_answer m slot bytes
      unfolding taken
      answers_late h = rw (ranged, ordered, le-ltb (last_sample_slot 0 (samples_of m)) slot h)

      pub answers_taken : last_sample_slot 0 (samples_of m) < slot
          → Ok (storing (with_sample (samples_of m) x) m) ≡ take_answer m slot bytes
      unfolding taken
      answers_taken h = rw (ranged, ordered, lt-ltb (last_sample_slot 0 (samples_of m)) slot h)

-- ---- a refusal leaves the meter as it was

module _ (m : Meter) (slot bytes : ℕ) (e : Refusal) where
  told : (n k : ℕ) (y : Meter) → answered n y ≡ Err k → (k ≡ n) × (eqb n 0 ≡ false)
  told n k y h =
      ⊎_elim
      (λ t. absurd (not_both y k (rw (T_true (eqb n 0) t) at h)))
      (λ t. let f = not_T_false (eqb n 0) t in (sym (same_number_in n k (rw f at h)), f))
      (test (eqb n 0))
    where
      not_both : (y : Meter) (k : ℕ) → ◌≡◌ {A = Result Meter ℕ} (Ok y) (Err k) → ⊥
      not_both y k h = cc

      same_number_in : (n k : ℕ) → ◌≡◌ {A = Result Meter ℕ} (Err n) (Err k) → n ≡ k
      same_number_in n k h = cc

  pub stays : Err (number_of e) ≡ take_answer m slot bytes → UpdatePromise m slot bytes (Err e) m
  unfolding taken
  stays h =
      let n = take_refusal (samples_of m) (sample slot bytes) in
      let t = told n (number_of e) _ (sym h) in
      record { code = t.0; meter = sym (rw t.1) }

-- ---- quotients rounded up

pub rounded_up : (x z : ℕ) → 0 < z → div_ceil x z ≡ divided_up x z
rounded_up x z h =
    let d = div_ceil_times x z h in
    let a : div_ceil x z < divided_up x z + 1 = lt_of_mul-lt-mul_right z (omega (arith, d.1, divided_up_enough x z h)) in
    let b : divided_up x z < div_ceil x z + 1 = lt_of_mul-lt-mul_right z (omega (arith, d.0, divided_up_near x z h)) in
    omega arith
