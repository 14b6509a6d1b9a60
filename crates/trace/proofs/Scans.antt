-- Laws on the pass over the trace: what is read and counted so far, and the rest of the bytes, give
-- the whole. Assumes nothing.
use Prim.Native.Nat.{ℕ, ◌+◌, ◌*◌, ◌-◌, ◌^◌, ◌≤◌, ◌<◌, min}
use mathlib.Core.Path.{◌≡◌, refl, sym, ap, ◌∙◌}
use mathlib.Core.Bool.{Bool, true, false, ◌&&◌, and-false}
use mathlib.Core.List.{List, [], ◌∷◌}
use mathlib.Core.Logic.{⊎_elim}
use native.Mathlib.Omega.{arith}
use native.Mathlib.Nat.{pow-suc, pow-le-pow_right}
use native.Mathlib.Numerals.{add-one}
use lib.ListN.{length, get_or, drop, drop_of_length-le}
use lib.Dec.{ltb, eqb, eqb→eq, ltb→lt, nltb→le}
use borrow.Author.Tests.{le-leb, lt-leb, ne_eqb}
use Rattle.theory_basics.specs.lemmas.Tables.{drop_next}
use Rattle.theory_basics.specs.lemmas.Tests.{T_true, not_T_false, test, true_T, tests, neqb_ne}
use Rattle.trace.specs.lemmas.Scan.{Scanned, scan, scan_bad, scan_long}
use Rattle.trace.specs.lemmas.Tally.{bump, tally}
use Rattle.job.specs.Refusal.{within}
use Rattle.trace.specs.lemmas.Passes.{Counted, DigitsRead}

-- ---- one byte

scan_digit : (n v t b : ℕ) (bs : List ℕ) → within 48 57 b ≡ true → scan n v true t (b ∷ bs) ≡ scan (n + 1) (v * 10 + (b - 48)) true t bs
scan_digit n v t b bs h =
    let u = simp tests at (true_T (within 48 57 b) h) in
    rw (ne_eqb b 10 (λ e. omega (arith, u.0)), h)

scan_other : (n v t b : ℕ) (bs : List ℕ) → within 48 57 b ≡ false → (b ≡ 10 → ⊥) → (scan n v true t (b ∷ bs)).fine ≡ false
scan_other n v t b bs h o = rw (ne_eqb b 10 o, h) (scan_bad (n + 1) (v * 10 + (b - 48)) t bs (omega arith))

pub digit_low : (b : ℕ) (r : Bool) → r ≡ within 48 57 b → r ≡ true → 48 ≤ b
digit_low b r is h = let u = simp tests at (true_T (within 48 57 b) (sym is ∙ h)) in u.0

pub digit_high : (b : ℕ) (r : Bool) → r ≡ within 48 57 b → r ≡ true → b ≤ 57
digit_high b r is h = let u = simp tests at (true_T (within 48 57 b) (sym is ∙ h)) in u.1

-- ---- the digits of a line

pub record Reading (trace : List ℕ) (from end value next : ℕ) : Type 0 where
  pub low : from ≤ next
  pub high : next ≤ end
  pub small : value < 10 ^ (next - from)
  pub says : (t : ℕ) → scan 0 0 true t (drop from trace) ≡ scan (next - from) value true t (drop next trace)

pub reading_start : (trace : List ℕ) (from end : ℕ) → from ≤ end → Reading trace from end 0 from
reading_start trace from end h =
    let z : from - from ≡ 0 = omega arith in
    record { low = omega arith; high = h; small = rw z (omega arith); says = λ t. rw z }

module _ (trace : List ℕ) (from end value next : ℕ) (r : Reading trace from end value next) where
  pub reading_end : end ≤ next → DigitsRead trace from end value next
  reading_end h = record { low = r.low; high = r.high; small = r.small; says = r.says; stops = λ l. absurd (omega arith) }

  pub reading_stop : (b : Bool) → b ≡ within 48 57 (get_or trace next 0) → b ≡ false → DigitsRead trace from end value next
  reading_stop b is h = record { low = r.low; high = r.high; small = r.small; says = r.says; stops = λ l. sym is ∙ h }

  module _ (few : end ≤ from + 7) (here : next < end) where
    pub value_small : value < 1000000
    value_small = let l : next - from ≤ 6 = omega (arith, r.low) in omega (arith, r.small, pow-le-pow_right {n = 10} (omega arith) l)

    pub reading_more : end ≤ length trace → (b : Bool) → b ≡ within 48 57 (get_or trace next 0) → b ≡ true → Reading trace from end (value * 10 + (get_or trace next 0 - 48)) (next + 1)
    reading_more inside b is h =
        let d = sym is ∙ h in
        let e : next + 1 - from ≡ next - from + 1 = omega (arith, r.low) in
        let p : 10 ^ (next - from + 1) ≡ 10 ^ (next - from) * 10 = rw (add-one (next - from)) (pow-suc 10 (next - from)) in
        record {
          low = omega (arith, r.low);
          high = omega arith;
          small = rw e (omega (arith, r.small, p, digit_high (get_or trace next 0) b is h));
          says = λ t. rw e (r.says t ∙ ap (scan (next - from) value true t) (drop_next trace next (omega arith)) ∙ scan_digit (next - from) value t (get_or trace next 0) (drop (next + 1) trace) d);
        }

-- ---- the lines

pub record Scanning (trace old counts : List ℕ) (i t : ℕ) : Type 0 where
  pub inside : i ≤ length trace
  pub fine : (scan 0 0 true 0 trace).fine ≡ (scan 0 0 true t (drop i trace)).fine
  pub times : tally 11185 old (scan 0 0 true 0 trace).times ≡ tally 11185 counts (scan 0 0 true t (drop i trace)).times

pub scanning_start : (trace old : List ℕ) → Scanning trace old old 0 0
scanning_start trace old = record { inside = omega arith; fine = refl; times = refl }

module _ (trace old counts : List ℕ) (i t : ℕ) (s : Scanning trace old counts i t) where
  pub scanning_end : length trace ≤ i → Counted trace old counts true
  scanning_end h =
      let e : drop i trace ≡ [] = drop_of_length-le trace {i = i} h in
      record { fine = sym (s.fine ∙ rw e); counts = λ u. sym (s.times ∙ rw e) }

  module _ (here : i < length trace) (end v next : ℕ) (seven : end ≡ min (i + 7) (length trace)) (d : DigitsRead trace i end v next) where
    abbrev n : ℕ
    n = next - i

    broken : (scan n v true t (drop next trace)).fine ≡ false → Counted trace old counts false
    broken e = record { fine = sym (s.fine ∙ ap (λ (x : Scanned). x.fine) (d.says t) ∙ e); counts = λ u. absurd u }

    -- A byte that is no digit, other than a line feed.
    no_digit : next < length trace → within 48 57 (get_or trace next 0) ≡ false → (get_or trace next 0 ≡ 10 → ⊥) → Counted trace old counts false
    no_digit h w o = broken (ap (λ (bs : List ℕ). (scan n v true t bs).fine) (drop_next trace next h) ∙ scan_other n v t (get_or trace next 0) (drop (next + 1) trace) w o)

    -- No digit at all.
    pub scanning_empty : next ≤ i → Counted trace old counts false
    scanning_empty h =
        let e : next ≡ i = omega (arith, d.low) in
        let z : n ≡ 0 = omega arith in
        let w = d.stops (omega arith) in
        ⊎_elim
        (λ u.
        let q = eqb→eq (get_or trace next 0) 10 u in
        let f : drop next trace ≡ 10 ∷ drop (next + 1) trace = drop_next trace next (omega arith) ∙ ap (λ (x : ℕ). x ∷ drop (next + 1) trace) q in
        broken (ap (λ (bs : List ℕ). (scan n v true t bs).fine) f ∙ rw z))
        (λ u. no_digit (omega arith) w (neqb_ne (get_or trace next 0) 10 u))
        (test (eqb (get_or trace next 0) 10))

    -- No line feed at the end.
    pub scanning_cut : i < next → length trace ≤ next → Counted trace old counts false
    scanning_cut h l = broken (ap (λ (bs : List ℕ). (scan n v true t bs).fine) (drop_of_length-le trace {i = next} l) ∙ ne_eqb n 0 (λ e. omega arith))

    -- Another byte, or an eighth digit.
    pub scanning_other : next < length trace → (get_or trace next 0 ≡ 10 → ⊥) → Counted trace old counts false
    scanning_other h o =
        ⊎_elim
        (λ u.
        let w = T_true (within 48 57 (get_or trace next 0)) u in
        ⊎_elim
        (λ l. absurd (no (w_no w (d.stops (ltb→lt next end l)))))
        (λ l.
        let k : 7 ≤ n = omega (arith, nltb→le next end l, d.low) in
        broken (
        ap (λ (bs : List ℕ). (scan n v true t bs).fine) (drop_next trace next h)
        ∙ ap (λ (x : Scanned). x.fine) (scan_digit n v t (get_or trace next 0) (drop (next + 1) trace) w)
        ∙ scan_long (n + 1) (v * 10 + (get_or trace next 0 - 48)) true t (drop (next + 1) trace) (omega arith)))
        (test (ltb next end)))
        (λ u. no_digit h (not_T_false (within 48 57 (get_or trace next 0)) u) o)
        (test (within 48 57 (get_or trace next 0)))
      where
        w_no : {b : Bool} → b ≡ true → b ≡ false → ◌≡◌ {A = Bool} true false
        w_no p q = sym p ∙ q

        no : ◌≡◌ {A = Bool} true false → ⊥
        no e = let z : ◌≡◌ {A = ℕ} 0 1 = cc in omega arith

    module _ (feed : get_or trace next 0 ≡ 10) (in-trace : next < length trace) where
      at_feed : drop next trace ≡ 10 ∷ drop (next + 1) trace
      at_feed = drop_next trace next in-trace ∙ ap (λ (x : ℕ). x ∷ drop (next + 1) trace) feed

      -- A time below the one before.
      pub scanning_falls : v < t → Counted trace old counts false
      scanning_falls l =
          broken (ap (λ (bs : List ℕ). (scan n v true t bs).fine) at_feed ∙ rw (lt-leb t v l) (and-false (within 1 7 n && true)))

      pub scanning_line : i < next → t ≤ v → Scanning trace old (bump 11185 counts v) (next + 1) v
      scanning_line o l =
          let k : n ≤ 7 = omega (arith, d.high) in
          let m : 1 ≤ n = omega arith in
          record {
            inside = omega arith;
            fine =
                s.fine
                ∙ ap (λ (x : Scanned). x.fine) (d.says t)
                ∙ ap (λ (bs : List ℕ). (scan n v true t bs).fine) at_feed
                ∙ rw (le-leb 1 n m, le-leb n 7 k, le-leb t v l);
            times =
                s.times
                ∙ ap (λ (x : Scanned). tally 11185 counts x.times) (d.says t)
                ∙ ap (λ (bs : List ℕ). tally 11185 counts (scan n v true t bs).times) at_feed;
          }
