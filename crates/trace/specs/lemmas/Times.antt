-- Lemmas. What is written: its lines, its times, and how many of them a slot has. Assumes nothing.
use Rattle.std.specs.Prelude.{ℕ, zero, suc, ◌+◌, ◌*◌, ◌-◌, ◌/◌, ◌≤◌, ◌<◌, ◌≡◌, refl, Bool, true, false, cond, List, [], ◌∷◌, ◌++◌, map, ◌↔◌, length, get_or, replicate, T, leb}
use Rattle.std.proofs.Math.Bool.{and-false}
use Rattle.std.proofs.Common.{arith, le-leb, lt-ltb, le-ltb, length-append}
use Rattle.std.proofs.lemmas.Bool.{lt-leb}
use Rattle.std.proofs.lemmas.List.{length-replicate}
use Rattle.theory_basics.specs.Tests.{All}
use Rattle.theory_basics.specs.lemmas.Tests.{all_append, all_map, by_cond, tests}
use Rattle.job.specs.Job.{Within}
use Rattle.theory_basics.specs.lemmas.Digits.{digits_are, digits_few, digits_read, digits_some}
use Rattle.theory_basics.specs.Text.{digits}
use Rattle.trace.specs.lemmas.Lists.{All_replicate}
use Rattle.trace.specs.Trace.{Line, NotBelow, lines_bytes, how_many, in_slot, lines_from, time}

-- ---- digits

written_digits : (n : ℕ) → All (Within 48 57) (digits n)
written_digits n = all_map (λ x. (48 ≤ x) × (x ≤ 57)) (Within 48 57) (digits n) (λ x h. record { low = h.0; high = h.1 }) (digits_are n)

-- The line of a slot's first millisecond.
written_line : (t : ℕ) → t < 3600 → Line (digits (t * 1000))
written_line t h = record { few = record { low = digits_some (t * 1000); high = digits_few 6 (t * 1000) (omega arith) }; digits = written_digits (t * 1000) }

-- ---- lines and times

pub lines_are : (t : ℕ) (f : List ℕ) → t + length f ≤ 3600 → All Line (lines_from t f)
lines_are t [] h = tt
lines_are t (b ∷ f) h =
    all_append Line (replicate (b / 1500) (digits (t * 1000))) (lines_from (suc t) f)
    (All_replicate Line (b / 1500) (digits (t * 1000)) (written_line t (omega arith)))
    (lines_are (suc t) f (omega arith))

-- The times written.
abbrev pub times_from : ℕ → List ℕ → List ℕ
times_from t [] = []
times_from t (b ∷ f) = replicate (b / 1500) (t * 1000) ++ times_from (suc t) f

map_times : (n : ℕ) (l : List ℕ) (m : ℕ) (ls : List (List ℕ)) (ts : List ℕ) → time l ≡ m → map time ls ≡ ts → map time (replicate n l ++ ls) ≡ replicate n m ++ ts
map_times zero l m ls ts e r = r
map_times (suc n) l m ls ts e r = let q = map_times n l m ls ts e r in cc

pub times_are : (t : ℕ) (f : List ℕ) → map time (lines_from t f) ≡ times_from t f
times_are t [] = refl
times_are t (b ∷ f) = map_times (b / 1500) (digits (t * 1000)) (t * 1000) (lines_from (suc t) f) (times_from (suc t) f) (digits_read (t * 1000)) (times_are (suc t) f)

not_below_lower : (x y : ℕ) (ts : List ℕ) → x ≤ y → NotBelow y ts → NotBelow x ts
not_below_lower x y [] h r = tt
not_below_lower x y (t ∷ ts) h r = (omega (arith, r.0), r.1)

not_below_repeat : (n x y : ℕ) (ts : List ℕ) → x ≤ y → NotBelow y ts → NotBelow x (replicate n y ++ ts)
not_below_repeat zero x y ts h r = not_below_lower x y ts h r
not_below_repeat (suc n) x y ts h r = (h, not_below_repeat n y y ts (omega arith) r)

pub times_rise : (x t : ℕ) (f : List ℕ) → x ≤ t * 1000 → NotBelow x (times_from t f)
times_rise x t [] h = tt
times_rise x t (b ∷ f) h = not_below_repeat (b / 1500) x (t * 1000) (times_from (suc t) f) h (times_rise (t * 1000) (suc t) f (omega arith))

-- ---- how many

many_append : (p : ℕ → Bool) (a b : List ℕ) → how_many p (a ++ b) ≡ how_many p a + how_many p b
many_append p [] b = omega arith
many_append p (x ∷ a) b = omega (arith, many_append p a b)

many_repeat : (p : ℕ → Bool) (n x : ℕ) → how_many p (replicate n x) ≡ cond (p x) n 0
many_repeat p zero x = by_cond (λ (m : ℕ). 0 ≡ m) (p x) (λ t. refl) (λ t. refl)
many_repeat p (suc n) x = at (p x) (many_repeat p n x)
  where
    at : (b : Bool) → how_many p (replicate n x) ≡ cond b n 0 → cond b 1 0 + how_many p (replicate n x) ≡ cond b (suc n) 0
    at true e = omega arith
    at false e = omega arith

-- A slot's first millisecond is in that slot alone.
in_own : (t : ℕ) → in_slot (t + 1) (t * 1000) ≡ true
in_own t = rw (le-leb ((t + 1 - 1) * 1000) (t * 1000) (let e : t + 1 - 1 ≡ t = omega arith in rw e (omega arith)), lt-ltb (t * 1000) ((t + 1) * 1000) (omega arith))

in_earlier : (k t : ℕ) → k < t → in_slot (k + 1) (t * 1000) ≡ false
in_earlier k t h = rw (le-ltb (t * 1000) ((k + 1) * 1000) (omega arith)) (and-false (leb ((k + 1 - 1) * 1000) (t * 1000)))

in_later : (k t : ℕ) → t < k → in_slot (k + 1) (t * 1000) ≡ false
in_later k t h = let e : k + 1 - 1 ≡ k = omega arith in rw (lt-leb ((k + 1 - 1) * 1000) (t * 1000) (rw e (omega arith)))

none_before : (k t : ℕ) (f : List ℕ) → k < t → how_many (in_slot (k + 1)) (times_from t f) ≡ 0
none_before k t [] h = refl
none_before k t (b ∷ f) h =
    let r = many_repeat (in_slot (k + 1)) (b / 1500) (t * 1000) in
    let e : cond (in_slot (k + 1) (t * 1000)) (b / 1500) 0 ≡ 0 = rw (in_earlier k t h) in
    omega (arith, many_append (in_slot (k + 1)) (replicate (b / 1500) (t * 1000)) (times_from (suc t) f), r, e, none_before k (suc t) f (omega arith))

pub many_at : (m t : ℕ) (f : List ℕ) → how_many (in_slot (t + m + 1)) (times_from t f) ≡ get_or f m 0 / 1500
many_at m t [] = refl
many_at zero t (b ∷ f) =
    let o : t + 0 ≡ t = omega arith in
    rw o (
    let r = many_repeat (in_slot (t + 1)) (b / 1500) (t * 1000) in
    let e : cond (in_slot (t + 1) (t * 1000)) (b / 1500) 0 ≡ b / 1500 = rw (in_own t) in
    omega (arith, many_append (in_slot (t + 1)) (replicate (b / 1500) (t * 1000)) (times_from (suc t) f), r, e, none_before t (suc t) f (omega arith))
    )
many_at (suc m) t (b ∷ f) =
    let o : t + suc m ≡ suc t + m = omega arith in
    let k : ℕ = suc t + m in
    let r = many_repeat (in_slot (k + 1)) (b / 1500) (t * 1000) in
    let e : cond (in_slot (k + 1) (t * 1000)) (b / 1500) 0 ≡ 0 = rw (in_later k t (omega arith)) in
    rw o (omega (arith, many_append (in_slot (k + 1)) (replicate (b / 1500) (t * 1000)) (times_from (suc t) f), r, e, many_at m (suc t) f))

-- ---- how many bytes

-- A line and its line feed are at most 8 bytes.
pub bytes_few : (ls : List (List ℕ)) → All Line ls → length (lines_bytes ls) ≤ 8 * length ls
bytes_few [] a = omega arith
bytes_few (l ∷ ls) a = omega (arith, length-append l (10 ∷ lines_bytes ls), a.0.few.high, bytes_few ls a.1)

-- A slot has at most 11,184 lines.
pub lines_few : (t : ℕ) (f : List ℕ) → All (λ b. b ≤ 16777216) f → length (lines_from t f) ≤ 11184 * length f
lines_few t [] a = omega arith
lines_few t (b ∷ f) a =
    omega (arith, a.0, length-append (replicate (b / 1500) (digits (t * 1000))) (lines_from (suc t) f), length-replicate (b / 1500) (digits (t * 1000)), lines_few (suc t) f a.1)

-- ---- for the code

-- The slot of a time, by one division.
pub in_slot_iff : (j t : ℕ) → 1 ≤ j → T (in_slot j t) ↔ (t / 1000 + 1 ≡ j)
in_slot_iff j t h = (λ x. let u = simp tests at x in omega (arith, u.0, u.1), λ e. simp tests (omega arith, omega arith))
