-- Theorems. Two links that are alike before slot 1 and differ from it on, by docs/ARGUMENT.md,
-- section 12: on one the only picture that can be shown asks slot 1 for chunk 2, on the other both
-- can be shown and ask it for chunk 1. So no rule that sees only the past can be best on both.
use Rattle.std.specs.Prelude.{ℕ, zero, suc, ◌+◌, ◌*◌, ◌-◌, ◌≤◌, ◌≡◌, refl, Bool, true, false, cond, ◌&&◌, List, [], ◌∷◌, eqb}
use Rattle.std.proofs.Common.{arith, ne_eqb}
use Rattle.theory_basics.specs.Tests.{All}
use Rattle.theory_basics.specs.lemmas.Tests.{all_map, and_T}
use Rattle.job.specs.Job.{Accepted, Job, job_of, size_in}
use Rattle.job.specs.Refusal.{refusal}
use Rattle.fetch.specs.Rows.{Row, Carried, bytes_if, bytes_in_slot, bytes_of_layer}
use Rattle.fetch.specs.Rules.{OnTime, Passes, RowInRange}
use Rattle.theory_plan.specs.Plan.{fits}
use Rattle.theory_plan.specs.Statement.{CanCarry, Choice}
use Rattle.theory_plan.proofs.Theorems.{decision}
use Rattle.theory_plan.specs.lemmas.Count.{bytes_mono}
use Rattle.theory_plan.specs.lemmas.Words.{accepted_sized}
use Rattle.job.specs.Theorems.{accepted_iff}

-- C 2, L 1, s 1, limit 1, bases of 2 bytes: due slots 1 and 2, H 1.
abbrev pub link : List ℕ → Job
link forecast = job_of (record { chunks = 2; span = 1; delay = 1; limit = 1 }) (2 ∷ []) [] forecast

abbrev pub slow : Job
slow = link (1 ∷ 1 ∷ [])

abbrev pub fast : Job
fast = link (2 ∷ 2 ∷ [])

-- The base bytes of chunk i in slot t.
abbrev pub base_in_slot : List Row → ℕ → ℕ → ℕ
base_in_slot rows i t = bytes_if (λ x. (eqb x.chunk i && eqb x.layer 0) && eqb x.slot t) rows

-- ---- rows of two slots

part : (b : Bool) (s n : ℕ) → 1 ≤ s → s ≤ 2 → cond b n 0 ≡ cond (b && eqb s 1) n 0 + cond (b && eqb s 2) n 0
part b zero n lo hi = absurd (omega arith)
part true (suc zero) n lo hi = omega arith
part false (suc zero) n lo hi = refl
part true (suc (suc zero)) n lo hi = omega arith
part false (suc (suc zero)) n lo hi = refl
part b (suc (suc (suc s))) n lo hi = absurd (omega arith)

two_slots : (i : ℕ) (rows : List Row) → All (λ (x : Row). (1 ≤ x.slot) × (x.slot ≤ 2)) rows → bytes_of_layer rows i 0 ≡ base_in_slot rows i 1 + base_in_slot rows i 2
two_slots i [] a = refl
two_slots i (x ∷ rows) a =
    omega (arith, part (eqb x.chunk i && eqb x.layer 0) x.slot x.bytes a.0.0 a.0.1, two_slots i rows a.1)

in_slot_lem : (rows : List Row) (i t : ℕ) → base_in_slot rows i t ≤ bytes_in_slot rows t
in_slot_lem rows i t =
    bytes_mono (λ x. (eqb x.chunk i && eqb x.layer 0) && eqb x.slot t) (λ x. eqb x.slot t)
    (λ x h. (and_T (eqb x.chunk i && eqb x.layer 0) (eqb x.slot t) h).1) rows

slots_of : (f : List ℕ) (rows : List Row) → Passes (link f) rows → All (λ (x : Row). (1 ≤ x.slot) × (x.slot ≤ 2)) rows
slots_of f rows ok =
    all_map (RowInRange (link f)) (λ (x : Row). (1 ≤ x.slot) × (x.slot ≤ 2)) rows (λ x r. (r.slot_low, omega (arith, r.slot_high))) ok.in_range_lem

by_false : (l : Bool) (n : ℕ) → cond (l && false) n 0 ≡ 0
by_false true n = refl
by_false false n = refl

-- ---- the slow link

slow_accepted : Accepted slow
unfolding refusal
slow_accepted = (accepted_iff slow).0 refl

abbrev second_alone : ℕ → ℕ
second_alone i = cond (eqb i 2) 1 0

-- Chunk 2 can be shown,
pub slow_shows_second : CanCarry slow second_alone
unfolding size_in fits
slow_shows_second = (decision slow (accepted_sized slow slow_accepted) second_alone few).1 tt where
  few : Choice slow second_alone
  few i lo hi = in_all (eqb i 2)
    where
      in_all : (b : Bool) → cond b 1 0 ≤ 1
      in_all true = omega arith
      in_all false = omega arith

-- and only if slot 1 goes to it: the whole forecast of slot 1, for any passing list, in any order.
pub slow_asks_second : (rows : List Row) → Passes slow rows → Carried slow rows 2 0 → base_in_slot rows 2 1 ≡ 1
unfolding size_in
slow_asks_second rows ok c =
    let both = two_slots 2 rows (slots_of (1 ∷ 1 ∷ []) rows ok) in
    let sum : bytes_of_layer rows 2 0 ≡ 2 = c in
    omega (arith, in_slot_lem rows 2 1, in_slot_lem rows 2 2, ok.within 1 (omega arith) (omega arith), ok.within 2 (omega arith) (omega arith))

-- ---- the fast link

fast_accepted : Accepted fast
unfolding refusal
fast_accepted = (accepted_iff fast).0 refl

-- Both can be shown,
pub fast_shows_both : CanCarry fast (λ i. 1)
unfolding size_in fits
fast_shows_both = (decision fast (accepted_sized fast fast_accepted) (λ i. 1) (λ i lo hi. omega arith)).1 tt

-- Chunk 1 is due in slot 1, so none of it comes in slot 2.
late : (i t : ℕ) (l : Bool) (b : ℕ) → t ≤ (i - 1) * 1 + 1 → cond ((eqb i 1 && l) && eqb t 2) b 0 ≡ 0
late zero t l b h = refl
late (suc zero) zero l b h = by_false l b
late (suc zero) (suc zero) l b h = by_false l b
late (suc zero) (suc (suc t)) l b h = absurd (omega arith)
late (suc (suc i)) t l b h = rw (ne_eqb (suc (suc i)) 1 (λ e. omega arith)) refl

none_late : (rows : List Row) → All (OnTime fast) rows → base_in_slot rows 1 2 ≡ 0
none_late [] a = refl
none_late (x ∷ rows) a = omega (arith, late x.chunk x.slot (eqb x.layer 0) x.bytes a.0, none_late rows a.1)

-- Bytes of the two chunks in slot 1 are bytes of slot 1.
apart : (i s n : ℕ) (l : Bool) → cond ((eqb i 1 && l) && eqb s 1) n 0 + cond ((eqb i 2 && l) && eqb s 1) n 0 ≤ cond (eqb s 1) n 0
apart zero s n l = omega arith
apart (suc zero) s n l = some l (eqb s 1)
  where
    some : (a b : Bool) → cond (a && b) n 0 + 0 ≤ cond b n 0
    some true b = omega arith
    some false b = omega arith
apart (suc (suc zero)) s n l = some l (eqb s 1)
  where
    some : (a b : Bool) → 0 + cond (a && b) n 0 ≤ cond b n 0
    some true b = omega arith
    some false b = omega arith
apart (suc (suc (suc i))) s n l =
    rw (ne_eqb (suc (suc (suc i))) 1 (λ e. omega arith), ne_eqb (suc (suc (suc i))) 2 (λ e. omega arith)) (omega arith)

beside : (rows : List Row) → base_in_slot rows 1 1 + base_in_slot rows 2 1 ≤ bytes_in_slot rows 1
beside [] = omega arith
beside (x ∷ rows) = omega (arith, apart x.chunk x.slot x.bytes (eqb x.layer 0), beside rows)

-- and only if slot 1 goes to chunk 1, whole: chunk 2 has nothing of it.
pub fast_asks_first : (rows : List Row) → Passes fast rows → Carried fast rows 1 0 → Carried fast rows 2 0 → (base_in_slot rows 1 1 ≡ 2) × (base_in_slot rows 2 1 ≡ 0)
unfolding size_in
fast_asks_first rows ok one two =
    let a = two_slots 1 rows (slots_of (2 ∷ 2 ∷ []) rows ok) in
    let none = none_late rows ok.on_time_lem in
    let size-1 : bytes_of_layer rows 1 0 ≡ 2 = one in
    let first : base_in_slot rows 1 1 ≡ 2 = omega arith in
    (first, omega (arith, beside rows, ok.within 1 (omega arith) (omega arith)))
