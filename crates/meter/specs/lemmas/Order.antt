-- Lemmas. The tests of the meter and what they say; samples added one by one; what is stored reads
-- back.
use Rattle.std.specs.Prelude.{ℕ, zero, suc, ◌-◌, ◌≤◌, ◌<◌, ◌≡◌, refl, Bool, true, false, ◌&&◌, List, [], ◌∷◌, ◌++◌, map, ◌↔◌, length, get_or, drop, T, leb, ltb}
use Rattle.std.proofs.Common.{◌∙◌, ⊎_elim, arith, length-drop, ext_get_or}
use Rattle.std.proofs.lemmas.List.{length-map}
use Rattle.std.proofs.Math.ListN.{get_or-append, get_or-map}
use Rattle.theory_basics.specs.Tests.{All, all}
use Rattle.theory_basics.specs.lemmas.Tests.{all_iff, leb_iff, ltb_iff, tests, last, T_true}
use Rattle.theory_basics.specs.Lists.{up_to}
use Rattle.theory_basics.specs.lemmas.Lists.{length_up_to, get_d_up_to}
use Rattle.theory_basics.specs.Refusals.{unless, ◌or_else◌}
use Rattle.theory_basics.specs.lemmas.Refusals.{and_as}
use Rattle.meter.specs.declared.Meter.{Meter}
use Rattle.meter.specs.Meter.{Sample, sample, samples_of, storing, SampleInRange, in_range, Rising, rising, last_sample_slot, InOrder, in_order, last_ten}

-- ---- tests

pub in_range_iff : (x : Sample) → T (in_range x) ↔ SampleInRange x
in_range_iff x = (
  λ t. let u = simp tests at t in record { slot_low = u.0; slot_high = u.1.0; bytes_high = u.1.1 },
  λ w. simp tests (w.slot_low, (w.slot_high, w.bytes_high)),
)

pub rising_iff : (s : ℕ) (l : List Sample) → T (rising s l) ↔ Rising s l
rising_iff s [] = (λ t. tt, λ t. tt)
rising_iff s (x ∷ l) = and_as (ltb s x.slot) (rising x.slot l) (ltb_iff s x.slot) (rising_iff x.slot l)

pub in_order_iff : (l : List Sample) → T (in_order l) ↔ InOrder l
in_order_iff l =
    let p = and_as (leb (length l) 10) (all in_range l && rising 0 l) (leb_iff (length l) 10)
    (and_as (all in_range l) (rising 0 l) (all_iff in_range SampleInRange in_range_iff l) (rising_iff 0 l)) in (
      λ t. let u = p.0 t in record { few = u.0; each = u.1.0; rises = u.1.1 },
      λ o. p.1 (o.few, (o.each, o.rises)),
    )

-- A test is false where what it says is not so.
pub test_false : {P : Type 0} (b : Bool) → (T b ↔ P) → (P → ⊥) → b ≡ false
test_false true e n = absurd (n (e.0 tt))
test_false false e n = refl

pub test_true : {P : Type 0} (b : Bool) → (T b ↔ P) → P → b ≡ true
test_true b e x = T_true b (e.1 x)

-- ---- refusal 10 by either of two tests, and after it a refusal n

-- 10 is given exactly if one of its two tests fails.
pub ten_first : (n : ℕ) (a b c : Bool) {A B : Type 0} → 10 < n → (T a ↔ A) → (T b ↔ B)
    → ((unless 10 a or_else unless 10 b or_else unless n c) ≡ 10) ↔ ((A × B) → ⊥)
ten_first n true true true h p q = (λ e. absurd (omega arith), λ f. absurd (f (p.0 tt, q.0 tt)))
ten_first n true true false h p q = (λ e. absurd (omega arith), λ f. absurd (f (p.0 tt, q.0 tt)))
ten_first n true false c h p q = (λ e x. q.1 x.1, λ f. refl)
ten_first n false b c h p q = (λ e x. p.1 x.0, λ f. refl)

-- n is given exactly if both hold and its own test fails.
pub then_after : (n : ℕ) (a b c : Bool) {A B C : Type 0} → 10 < n → (T a ↔ A) → (T b ↔ B) → (T c ↔ C)
    → ((unless 10 a or_else unless 10 b or_else unless n c) ≡ n) ↔ (A × (B × (C → ⊥)))
then_after n true true true h p q r = (λ e. absurd (omega arith), λ x. absurd (x.1.1 (r.0 tt)))
then_after n true true false h p q r = (λ e. (p.0 tt, (q.0 tt, λ x. r.1 x)), λ x. refl)
then_after n true false c h p q r = (λ e. absurd (omega arith), λ x. absurd (q.1 x.1.0))
then_after n false b c h p q r = (λ e. absurd (omega arith), λ x. absurd (p.1 x.0))

-- ---- one more sample

pub rising_snoc : (s : ℕ) (l : List Sample) (x : Sample) → Rising s (l ++ (x ∷ [])) ↔ (Rising s l × (last_sample_slot s l < x.slot))
rising_snoc s [] x = (λ r. (tt, r.0), λ r. (r.1, tt))
rising_snoc s (y ∷ l) x =
    let i = rising_snoc y.slot l x in (
      λ r. let u = i.0 r.1 in ((r.0, u.0), u.1),
      λ r. (r.0.0, i.1 (r.0.1, r.1)),
    )

pub all_snoc : {A : Type 0} (P : A → Type 0) (l : List A) (x : A) → All P (l ++ (x ∷ [])) ↔ (All P l × P x)
all_snoc P [] x = (λ a. (tt, a.0), λ a. (a.1, tt))
all_snoc P (y ∷ l) x =
    let i = all_snoc P l x in (
      λ a. let u = i.0 a.1 in ((a.0, u.0), u.1),
      λ a. (a.0.0, i.1 (a.0.1, a.1)),
    )

-- The slot of the last sample is that of the newest.
pub last_slot_snoc : (s : ℕ) (l : List Sample) (x : Sample) → last_sample_slot s (l ++ (x ∷ [])) ≡ x.slot
last_slot_snoc s [] x = refl
last_slot_snoc s (y ∷ l) x = last_slot_snoc y.slot l x

-- In range and rising, however many.
pub record Fine (l : List Sample) : Type 0 where
  pub each : All SampleInRange l
  pub rises : Rising 0 l

pub fine_snoc : (l : List Sample) (x : Sample) → Fine (l ++ (x ∷ [])) ↔ (Fine l × (SampleInRange x × (last_sample_slot 0 l < x.slot)))
fine_snoc l x =
    let a = all_snoc SampleInRange l x in
    let r = rising_snoc 0 l x in (
      λ f.
          let u = a.0 f.each in
          let v = r.0 f.rises in
          (record { each = u.0; rises = v.0 }, (u.1, v.1)),
      λ f. record { each = a.1 (f.0.each, f.1.0); rises = r.1 (f.0.rises, f.1.1) },
    )

-- What is in range and rising is so up to every place.
pub fine_before : (f : ℕ → Sample) (i n : ℕ) → i ≤ n → Fine (up_to f n) → Fine (up_to f i)
fine_before f i zero h w = let e : i ≡ 0 = omega arith in rw e w
fine_before f i (suc n) h w =
    ⊎_elim (λ k. fine_before f i n k ((fine_snoc (up_to f n) (f n)).0 w).0) (λ e. rw e w) (last i n h)

-- ---- the first samples go

pub rising_lower : (s t : ℕ) (l : List Sample) → s ≤ t → Rising t l → Rising s l
rising_lower s t [] h r = tt
rising_lower s t (x ∷ l) h r = (omega (arith, r.0), r.1)

pub rising_drop : (s n : ℕ) (l : List Sample) → Rising s l → Rising s (drop n l)
rising_drop s zero l r = r
rising_drop s (suc n) [] r = tt
rising_drop s (suc n) (x ∷ l) r = rising_drop s n l (rising_lower s x.slot l (omega (arith, r.0)) r.1)

pub all_drop : {A : Type 0} (P : A → Type 0) (n : ℕ) (l : List A) → All P l → All P (drop n l)
all_drop P zero l a = a
all_drop P (suc n) [] a = tt
all_drop P (suc n) (x ∷ l) a = all_drop P n l a.1

-- The last ten of samples in range and rising are in order.
pub last_ten_in_order : (l : List Sample) → Fine l → InOrder (last_ten l)
last_ten_in_order l f = record {
  few = omega (arith, length-drop (length l - 10) l);
  each = all_drop SampleInRange (length l - 10) l f.each;
  rises = rising_drop 0 (length l - 10) l f.rises;
}

-- ---- what is stored reads back

pub stored_samples : (l : List Sample) (m : Meter) → samples_of (storing l m) ≡ l
stored_samples l m =
    let slots : List ℕ = map (λ x. x.slot) l in
    let bytes : List ℕ = map (λ x. x.bytes) l in
    let cell : ℕ → Sample = λ k. sample (get_or (slots ++ drop (length l) m.slots) k 0) (get_or (bytes ++ drop (length l) m.bytes) k 0) in
    ext_get_or (sample 0 0) (samples_of (storing l m)) l (length_up_to cell (length l)) (λ i h.
    let h : i < length l = omega (arith, length_up_to cell (length l)) in
    get_d_up_to cell (length l) i (sample 0 0) h
    ∙ rw (
      get_or-append slots (drop (length l) m.slots) 0 i (omega (arith, length-map l (λ x. x.slot))),
      get_or-append bytes (drop (length l) m.bytes) 0 i (omega (arith, length-map l (λ x. x.bytes))),
      get_or-map (λ (x : Sample). x.slot) l i (sample 0 0),
      get_or-map (λ (x : Sample). x.bytes) l i (sample 0 0),
    ))
