-- Laws on the ways up and down a table of maxima. Assumes nothing.
use mathlib.Core.Path.{◌≡◌, refl, sym, ap, ◌∙◌}
use mathlib.Core.List.{List}
use mathlib.Core.Logic.{⊎_elim}
use Prim.Native.Nat.{ℕ, zero, suc, ◌+◌, ◌*◌, ◌/◌, ◌^◌, ◌≤◌, ◌<◌, max}
use native.Mathlib.Omega.{arith}
use native.Mathlib.Nat.{mul-le-mul_left}
use lib.ListN.{length, set}
use lib.Pow.{pow_pos}
use lib.Seq.{get_or-set_same, get_or-set_other}
use lib.Dec.{ltb, eqb, ltb→lt, nltb→le, eqb→eq}
use borrow.Author.Tests.{eq-eqb, ne_eqb}
use Rattle.theory_basics.specs.lemmas.Tests.{test, neqb_ne}
use Rattle.theory_plan.specs.lemmas.Parts.{at}
use Rattle.core_moore_hodgson.specs.lemmas.Tables.{LeafPre, FindLargestPost, Maxima, LeafPost, under}

-- ---- up

-- All places but r are right.
abbrev RightBut : List ℕ → ℕ → Type 0
RightBut t r = (q : ℕ) → 1 ≤ q → q < 512 → (q ≡ r → ⊥) → at t q ≡ under t q

-- On the way up only p may be wrong.
pub record Climbing (start t : List ℕ) (p : ℕ) : Type 0 where
  pub below : p < 512
  pub right : RightBut t p
  pub leaves : (q : ℕ) → 512 ≤ q → at t q ≡ at start q

-- A place that is not above r has neither child at r.
other_child : (r p : ℕ) → (p ≡ r / 2 → ⊥) → (2 * p ≡ r → ⊥) × (2 * p + 1 ≡ r → ⊥)
other_child r p h = (λ e. h (omega arith), λ e. h (omega arith))

-- A new leaf disturbs only the place above it.
pub climbing_start : (leaf v : ℕ) (old : List ℕ) → LeafPre leaf old → Climbing (set old leaf v) (set old leaf v) (leaf / 2)
climbing_start leaf v old m =
    record {
      below = omega (arith, m.high);
      right = λ q u w o.
          let c = other_child leaf q o in
          rw (get_or-set_other old leaf (2 * q) v 0 c.0, get_or-set_other old leaf (2 * q + 1) v 0 c.1, get_or-set_other old leaf q v 0 (λ e. omega (arith, m.low))) (m.maxima.right q u w);
      leaves = λ q u. refl;
    }

module _ (start t : List ℕ) (p : ℕ) (c : Climbing start t p) where
  -- Once p is right, only the place above it may be wrong.
  pub climbing_more : length t ≡ 1024 → Climbing start (set t p (under t p)) (p / 2)
  climbing_more long =
      record {
        below = omega (arith, c.below);
        right = λ q u w o.
            let n = other_child p q o in
            let a = get_or-set_other t p (2 * q) (under t p) 0 n.0 in
            let b = get_or-set_other t p (2 * q + 1) (under t p) 0 n.1 in
            ⊎_elim
            (λ x. let e = eqb→eq q p x in rw (a, b) (rw e (get_or-set_same t p (under t p) 0 (omega (arith, c.below)))))
            (λ x.
            let d : q ≡ p → ⊥ = neqb_ne q p x in
            rw (a, b) (get_or-set_other t p q (under t p) 0 d ∙ c.right q u w d))
            (test (eqb q p));
        leaves = λ q u. get_or-set_other t p q (under t p) 0 (λ e. omega (arith, c.below)) ∙ c.leaves q u;
      }

  -- Where it is right, all are.
  pub climbing_stops : at t p ≡ under t p → Maxima t
  climbing_stops h =
      record {
        right = λ q u w.
            ⊎_elim (λ x. let e = eqb→eq q p x in rw e h) (λ x. c.right q u w (neqb_ne q p x)) (test (eqb q p));
      }

  pub climbing_ends : p ≤ 0 → Maxima t
  climbing_ends h = record { right = λ q u w. c.right q u w (λ e. omega arith) }

-- The leaves are those of the start.
pub stored : (leaf v : ℕ) (old t : List ℕ) (p : ℕ) → length old ≡ 1024 → LeafPre leaf old → Climbing (set old leaf v) t p → Maxima t → LeafPost leaf v old t
stored leaf v old t p long h c m =
    record {
      maxima = m;
      leaves = λ q u.
          c.leaves q u
          ∙ ⊎_elim
          (λ x. let e = eqb→eq q leaf x in rw (e, eq-eqb leaf leaf refl) (get_or-set_same old leaf v 0 (omega (arith, h.high))))
          (λ x. let d : q ≡ leaf → ⊥ = neqb_ne q leaf x in rw (ne_eqb q leaf d) (get_or-set_other old leaf q v 0 d))
          (test (eqb q leaf));
    }

-- ---- up, with a leaf that grew to v

-- Below the place above it: that place wants the larger of its own and v.
raise_child : (t : List ℕ) (c v : ℕ) → c < length t → 1 ≤ c / 2 → at t c ≤ v → at t (c / 2) ≡ under t (c / 2) → under (set t c v) (c / 2) ≡ max (at (set t c v) (c / 2)) v
raise_child t c v l g h r =
    let p = c / 2 in
    let own = get_or-set_same t c v 0 l in
    let above = get_or-set_other t c p v 0 (λ e. omega arith) in
    ⊎_elim
    (λ x.
    let e : c ≡ 2 * p + 1 = omega (arith, ltb→lt (2 * p) c x) in
    let a : at (set t c v) (2 * p + 1) ≡ v = sym (ap (at (set t c v)) e) ∙ own in
    omega (arith, a, ap (at t) e, above, r, get_or-set_other t c (2 * p) v 0 (λ d. omega arith)))
    (λ x.
    let e : c ≡ 2 * p = omega (arith, nltb→le (2 * p) c x) in
    let a : at (set t c v) (2 * p) ≡ v = sym (ap (at (set t c v)) e) ∙ own in
    omega (arith, a, ap (at t) e, above, r, get_or-set_other t c (2 * p + 1) v 0 (λ d. omega arith)))
    (test (ltb (2 * p) c))

pub record Adding (v : ℕ) (start t : List ℕ) (p : ℕ) : Type 0 where
  pub climbing : Climbing start t p
  pub wants : 1 ≤ p → under t p ≡ max (at t p) v

pub adding_start : (leaf v : ℕ) (old : List ℕ) → length old ≡ 1024 → LeafPre leaf old → at old leaf ≤ v → Adding v (set old leaf v) (set old leaf v) (leaf / 2)
adding_start leaf v old long m h =
    record {
      climbing = climbing_start leaf v old m;
      wants = λ g. raise_child old leaf v (omega (arith, m.high)) g h (m.maxima.right (leaf / 2) g (omega (arith, m.high)));
    }

module _ (v : ℕ) (start t : List ℕ) (p : ℕ) (a : Adding v start t p) (some : 0 < p) where
  pub adding_more : length t ≡ 1024 → at t p < v → Adding v start (set t p v) (p / 2)
  adding_more long h =
      let e : under t p ≡ v = omega (arith, a.wants some) in
      let c = a.climbing in
      record {
        climbing = rw e at (climbing_more start t p c long);
        wants = λ g. raise_child t p v (omega (arith, c.below)) g (omega arith) (c.right (p / 2) g (omega (arith, c.below)) (λ d. omega arith));
      }

  pub adding_stops : v ≤ at t p → Maxima t
  adding_stops h = climbing_stops start t p a.climbing (omega (arith, a.wants some))

-- ---- down

-- No place under p has more than p.
under_le : (t : List ℕ) → Maxima t → (d p q : ℕ) → 1 ≤ p → (p + 1) * 2 ^ d ≤ 1024 → p * 2 ^ d ≤ q → q < (p + 1) * 2 ^ d → at t q ≤ at t p
under_le t m zero p q g h u v = let e : q ≡ p = omega arith in rw e (omega arith)
under_le t m (suc d) p q g h u v =
    let e : 2 ^ suc d ≡ 2 * 2 ^ d = omega arith in
    let h' : (p + 1) * (2 * 2 ^ d) ≤ 1024 = rw e at h in
    let u' : p * (2 * 2 ^ d) ≤ q = rw e at u in
    let v' : q < (p + 1) * (2 * 2 ^ d) = rw e at v in
    let r = m.right p g (omega (arith, mul-le-mul_left (p + 1) (pow_pos d))) in
    ⊎_elim
    (λ x. omega (arith, r, under_le t m d (2 * p) q (omega arith) (omega arith) (omega arith) (ltb→lt q ((2 * p + 1) * 2 ^ d) x)))
    (λ x. omega (arith, r, under_le t m d (2 * p + 1) q (omega arith) (omega arith) (nltb→le q ((2 * p + 1) * 2 ^ d) x) (omega arith)))
    (test (ltb q ((2 * p + 1) * 2 ^ d)))

-- No leaf has more than place 1.
pub leaf_le : (t : List ℕ) → Maxima t → (q : ℕ) → 512 ≤ q → q < 1024 → at t q ≤ at t 1
leaf_le t m q u v = under_le t m 9 1 q (omega arith) (omega arith) (omega arith) (omega arith)

-- p has what place 1 has, the leaves before those under it have less, and those behind have no
-- more. d: how far the leaves are.
pub record Falls (t : List ℕ) (p d : ℕ) : Type 0 where
  pub some : 1 ≤ p
  pub low : 512 ≤ p * 2 ^ d
  pub high : (p + 1) * 2 ^ d ≤ 1024
  pub same : at t p ≡ at t 1
  pub before : (q : ℕ) → 512 ≤ q → q < p * 2 ^ d → at t q < at t 1
  pub behind : (q : ℕ) → (p + 1) * 2 ^ d ≤ q → q < 1024 → at t q ≤ at t 1

pub record Falling (t : List ℕ) (p : ℕ) : Type 0 where
  pub below : p < 1024
  pub depth : ℕ
  pub falls : Falls t p depth

pub falling_start : (t : List ℕ) → Falling t 1
falling_start t =
    record {
      below = omega arith;
      depth = 9;
      falls = record {
        some = omega arith;
        low = omega arith;
        high = omega arith;
        same = refl;
        before = λ q u v. absurd (omega arith);
        behind = λ q u v. absurd (omega arith);
      };
    }

module _ (t : List ℕ) (m : Maxima t) (p : ℕ) (g : p < 512) where
  fall_left : (d : ℕ) → Falls t p d → at t (2 * p) ≡ at t 1 → Falling t (2 * p)
  fall_left zero f s = absurd (omega (arith, f.low))
  fall_left (suc d) f s =
      let e : 2 ^ suc d ≡ 2 * 2 ^ d = omega arith in
      let low : 512 ≤ p * (2 * 2 ^ d) = rw e at f.low in
      let high : (p + 1) * (2 * 2 ^ d) ≤ 1024 = rw e at f.high in
      record {
        below = omega arith;
        depth = d;
        falls = record {
          some = omega (arith, f.some);
          low = omega arith;
          high = omega arith;
          same = s;
          before = λ q u v. f.before q u (rw e (omega arith));
          behind = λ q u v.
              ⊎_elim
              (λ x. omega (arith, f.same, m.right p f.some g, under_le t m d (2 * p + 1) q (omega arith) (omega arith) u (ltb→lt q ((2 * p + 1 + 1) * 2 ^ d) x)))
              (λ x. f.behind q (rw e (omega (arith, nltb→le q ((2 * p + 1 + 1) * 2 ^ d) x))) v)
              (test (ltb q ((2 * p + 1 + 1) * 2 ^ d)));
        };
      }

  fall_right : (d : ℕ) → Falls t p d → (at t (2 * p) ≡ at t 1 → ⊥) → Falling t (2 * p + 1)
  fall_right zero f s = absurd (omega (arith, f.low))
  fall_right (suc d) f s =
      let e : 2 ^ suc d ≡ 2 * 2 ^ d = omega arith in
      let low : 512 ≤ p * (2 * 2 ^ d) = rw e at f.low in
      let high : (p + 1) * (2 * 2 ^ d) ≤ 1024 = rw e at f.high in
      let r = m.right p f.some g in
      let less : at t (2 * p) < at t 1 = omega (arith, f.same) in
      record {
        below = omega arith;
        depth = d;
        falls = record {
          some = omega arith;
          low = omega arith;
          high = omega arith;
          same = omega (arith, f.same);
          before = λ q u v.
              ⊎_elim
              (λ x. f.before q u (rw e (omega (arith, ltb→lt q (2 * p * 2 ^ d) x))))
              (λ x. omega (arith, f.same, under_le t m d (2 * p) q (omega (arith, f.some)) (omega arith) (nltb→le q (2 * p * 2 ^ d) x) v))
              (test (ltb q (2 * p * 2 ^ d)));
          behind = λ q u v. f.behind q (rw e (omega arith)) v;
        };
      }

  pub falling_left : Falling t p → at t (2 * p) ≡ at t 1 → Falling t (2 * p)
  falling_left f = fall_left f.depth f.falls

  pub falling_right : Falling t p → (at t (2 * p) ≡ at t 1 → ⊥) → Falling t (2 * p + 1)
  falling_right f = fall_right f.depth f.falls

fall_end : (t : List ℕ) (p d : ℕ) → Falls t p d → 512 ≤ p → p < 1024 → FindLargestPost t p
fall_end t p zero f g h =
    record {
      low = g;
      high = h;
      same = f.same;
      top = λ q u v.
          ⊎_elim
          (λ x. omega (arith, f.same, f.before q u (omega (arith, ltb→lt q p x))))
          (λ x.
          ⊎_elim
          (λ y. omega (arith, f.same, f.behind q (omega (arith, ltb→lt p q y)) v))
          (λ y. let e : q ≡ p = omega (arith, nltb→le q p x, nltb→le p q y) in rw e (omega arith))
          (test (ltb p q)))
          (test (ltb q p));
      first = λ q u v. omega (arith, f.same, f.before q u (omega arith));
    }
fall_end t p (suc d) f g h =
    let e : 2 ^ suc d ≡ 2 * 2 ^ d = omega arith in
    let high : (p + 1) * (2 * 2 ^ d) ≤ 1024 = rw e at f.high in
    absurd (omega (arith, mul-le-mul_left (p + 1) (pow_pos d)))

pub falling_end : (t : List ℕ) (p : ℕ) → Falling t p → 512 ≤ p → FindLargestPost t p
falling_end t p f g = fall_end t p f.depth f.falls g f.below
