-- Laws on what the begun chunks ask of the new ones, in constant time a push: a roof over the first
-- need, a floor below which no place may be taken, and a place in the caps that only falls. Assumes
-- nothing.
use mathlib.Core.Path.{◌≡◌, refl, ◌∙◌, ap}
use mathlib.Core.List.{List, [], ◌∷◌}
use mathlib.Core.Logic.{◌⊎◌, inl, inr, ⊎_elim, ◌↔◌}
use Prim.Native.Nat.{ℕ, zero, suc, ◌+◌, ◌-◌, ◌≤◌, ◌<◌, max}
use native.Mathlib.Omega.{arith}
use lib.ListN.{length, get_or, drop, length-drop}
use lib.Seq.{get_or-drop}
use lib.Dec.{T, leb, leb→le, nleb→lt, le→leb, ltb, ltb→lt, nltb→le}
use Rattle.theory_basics.specs.lemmas.Tests.{and_T, T_and, test}
use Rattle.core_replan_decide.specs.lemmas.Tables.{caps_ok, Falls, NeedCapPost}

-- ---- what the caps say, place by place

caps_at : (h : ℕ) (cs ns : List ℕ) → T (caps_ok h cs ns) → (x : ℕ) → x < length cs → get_or ns (h - (length cs - x)) 0 ≤ get_or cs x 0
caps_at h [] ns t x l = absurd (omega arith)
caps_at h (c ∷ cs) ns t zero l =
    let u = and_T (leb (get_or ns (h - suc (length cs)) 0) c) (caps_ok h cs ns) t in
    let e : h - (suc (length cs) - 0) ≡ h - suc (length cs) = omega arith in
    rw e (leb→le (get_or ns (h - suc (length cs)) 0) c u.0)
caps_at h (c ∷ cs) ns t (suc x) l =
    let u = and_T (leb (get_or ns (h - suc (length cs)) 0) c) (caps_ok h cs ns) t in
    let e : suc (length cs) - suc x ≡ length cs - x = omega arith in
    rw e (caps_at h cs ns u.1 x (omega arith))

at_caps : (h : ℕ) (cs ns : List ℕ) → ((x : ℕ) → x < length cs → get_or ns (h - (length cs - x)) 0 ≤ get_or cs x 0) → T (caps_ok h cs ns)
at_caps h [] ns f = tt
at_caps h (c ∷ cs) ns f =
    let e : h - (suc (length cs) - 0) ≡ h - suc (length cs) = omega arith in
    T_and (leb (get_or ns (h - suc (length cs)) 0) c) (caps_ok h cs ns)
    (le→leb (get_or ns (h - suc (length cs)) 0) c (rw e at (f zero (omega arith))))
    (at_caps h cs ns (λ x l. let d : suc (length cs) - suc x ≡ length cs - x = omega arith in rw d at (f (suc x) (omega arith))))

-- The same over the table of caps: the cap at place x is asked of the need h - (500 - x) places on.
module _ (h : ℕ) (caps : List ℕ) (head : ℕ) (long : length caps ≡ 500) where
  many : length (drop head caps) ≡ 500 - head
  many = length-drop head caps ∙ ap (λ (n : ℕ). n - head) long

  pub caps_places : (ns : List ℕ) → T (caps_ok h (drop head caps) ns) ↔ ((x : ℕ) → head ≤ x → x < 500 → get_or ns (h - (500 - x)) 0 ≤ get_or caps x 0)
  caps_places ns = (
    λ t x u v.
        let e : head + (x - head) ≡ x = omega arith in
        let d : length (drop head caps) - (x - head) ≡ 500 - x = omega (arith, many) in
        rw (d, get_or-drop head caps (x - head) 0, e) at (caps_at h (drop head caps) ns t (x - head) (omega (arith, many))),
    λ f.
        at_caps h (drop head caps) ns (λ x l.
        let d : length (drop head caps) - x ≡ 500 - (head + x) = omega (arith, many) in
        rw (d, get_or-drop head caps x 0) (f (head + x) (omega arith) (omega (arith, many)))),
  )

-- One push less.
less_one : (h y a b : ℕ) → b ≤ a → y + (suc a - b) ≤ h → h - y - (a - b) ≡ suc (h - y - (suc a - b))
less_one h y a b u v = let e : suc a - b ≡ suc (a - b) = omega arith in rw e (omega arith)

less_fits : (h y a b : ℕ) → b ≤ a → y + (suc a - b) ≤ h → y + (a - b) ≤ h
less_fits h y a b u v = omega arith

-- How many pushes a floor that rose leaves.
pushes_left : (f edge h : ℕ) → 0 < f → edge < 500 → 500 - edge < h → 0 < f - 1 + 501 - (edge + h) → suc (f - 1) - (f - 1 + 501 - (edge + h)) ≡ h - (500 - edge)
pushes_left f edge h a b c d = let e : suc (f - 1) ≡ f = omega arith in rw e (omega arith)

max_step : (a b t f : ℕ) → 0 < f → max a b + t ≤ f - 1 → a + suc t ≤ f
max_step a b t f p u = omega arith

max_kept : (a f edge h : ℕ) → a ≤ f - 1 → edge < 500 → 500 - edge < h → max a (f - 1 + 501 - (edge + h)) ≤ f - 1
max_kept a f edge h u v w = let e : 501 ≤ edge + h = omega arith in omega (arith, e)

-- A cap at a place from g on is not reached.
not_reached : (a f edge h x t : ℕ) → 0 < f → edge ≤ x → x < 500 → h - (500 - x) ≤ t → max a (f - 1 + 501 - (edge + h)) + t ≤ f - 1 → ⊥
not_reached a f edge h x t p u v m w = let e : h ≤ 500 - x + t = omega arith in let n : f - 1 + 501 - (edge + h) + t ≤ f - 1 = omega arith in omega arith

at_first : (a t : ℕ) → a ≤ t → a - t ≡ 0
at_first a t l = omega arith

back_on : (y h : ℕ) → y < h → y + (h - y) ≤ h
back_on y h l = omega arith

minus_self : (n : ℕ) → n - n ≡ 0
minus_self n = omega arith

-- ---- after t more pushes

-- The needs ns, each t places further on, leave the begun chunks their places.
abbrev pub Shifted : ℕ → List ℕ → ℕ → List ℕ → ℕ → Type 0
Shifted h caps head ns t = (x : ℕ) → head ≤ x → x < 500 → 500 - x + t ≤ h → get_or ns (h - (500 - x) - t) 0 ≤ get_or caps x 0

pub record Fronted (h : ℕ) (caps : List ℕ) (head : ℕ) (ns : List ℕ) (first lowest edge : ℕ) : Type 0 where
  -- Places from floor on may be taken,
  pub may : (t : ℕ) → lowest + t ≤ first → Shifted h caps head ns t
  -- and none below it.
  pub no_more_lem : (lowest ≡ 0) ⊎ (Shifted h caps head ns (suc first - lowest) → ⊥)
  pub kept : lowest ≤ first
  -- From place g on the caps are below the first need.
  pub above : (x : ℕ) → edge ≤ x → x < 500 → get_or caps x 0 < get_or ns 0 0
  pub low : head ≤ edge
  pub high : edge ≤ 500

pub fronted_start : (h : ℕ) (caps : List ℕ) (head : ℕ) → head ≤ 500 → Fronted h caps head [] 500 0 500
fronted_start h caps head l =
    record { may = λ t u x a b c. let z = none (h - (500 - x) - t) in omega (arith, z); no_more_lem = inl refl; kept = omega arith; above = λ x a b. absurd (omega arith); low = l; high = omega arith }
  where
    none : (n : ℕ) → ◌≡◌ {A = ℕ} (get_or [] n 0) 0
    none zero = refl
    none (suc n) = refl

module _ {h : ℕ} {caps : List ℕ} {head : ℕ} {ns : List ℕ} {first lowest edge : ℕ} (f : Fronted h caps head ns first lowest edge) (long : length caps ≡ 500) (some : 0 < first) where
  -- A candidate c in front of ns: the test of Passes is the roof and the floor.
  pub front_test : {cap : ℕ} → NeedCapPost h caps head cap → (c : ℕ) → c ≤ 60414754816 → T (caps_ok h (drop head caps) (c ∷ ns)) ↔ ((lowest ≤ first - 1) × (c ≤ cap))
  front_test {cap} r c small =
      let p = caps_places h caps head long (c ∷ ns) in (
        λ t.
            let q = p.0 t in
            let one : Shifted h caps head ns 1 = λ x a b l.
            let e : h - (500 - x) ≡ suc (h - (500 - x) - 1) = omega arith in
            rw e at (q x a b) in (
              ⊎_elim (λ y. leb→le lowest (first - 1) y) (λ y. absurd (refuse (nleb→lt lowest (first - 1) y) one)) (test (leb lowest (first - 1))),
              ⊎_elim (λ y. leb→le c cap y) (λ y. absurd (r.only c small (nleb→lt c cap y) (λ x a b l. let e : h - (500 - x) ≡ 0 = omega arith in rw e at (q x a b)))) (test (leb c cap)),
            ),
        λ u. p.1 (λ x a b.
            ⊎_elim
            (λ y. let l = leb→le h (500 - x) y in let e : h - (500 - x) ≡ 0 = omega arith in rw e (r.is x a b l c u.1 small))
            (λ y.
            let l = nleb→lt h (500 - x) y in
            let e : h - (500 - x) ≡ suc (h - (500 - x) - 1) = omega arith in
            rw e (f.may 1 (omega (arith, u.0)) x a b (omega arith)))
            (test (leb h (500 - x)))),
      )
    where
      refuse : first - 1 < lowest → Shifted h caps head ns 1 → ⊥
      refuse l s =
          let e : lowest ≡ first = omega (arith, f.kept) in
          let o : suc first - lowest ≡ 1 = omega arith in
          ⊎_elim (λ z. omega arith) (λ no. (rw o at no) s) f.no_more_lem

  -- After the push: g is the first place from which on the caps are below c.
  module _ {cap : ℕ} (r : NeedCapPost h caps head cap) (c : ℕ) (small : c ≤ 60414754816) (under : c ≤ cap) (falls : Falls caps head) (fl : lowest ≤ first - 1)
      (edge' : ℕ) (lo : head ≤ edge') (hi : edge' ≤ 500) (above : (x : ℕ) → edge' ≤ x → x < 500 → get_or caps x 0 < c) (last : head < edge' → c ≤ get_or caps (edge' - 1) 0) where
    -- A cap below c is asked of no need yet.
    held_on : edge' < 500 → 500 - edge' < h
    held_on gl =
        ⊎_elim
        (λ y. absurd (omega (arith, r.is edge' lo gl (leb→le h (500 - edge') y) c under small, above edge' (omega arith) gl)))
        (λ y. nleb→lt h (500 - edge') y)
        (test (leb h (500 - edge')))

    later : (t x : ℕ) → lowest + suc t ≤ first → head ≤ x → x < 500 → t < h - (500 - x) → get_or (c ∷ ns) (h - (500 - x) - t) 0 ≤ get_or caps x 0
    later t x u a b w =
        let z : h - (500 - x) - t ≡ suc (h - (500 - x) - suc t) = omega arith in
        rw z (f.may (suc t) u x a b (omega arith))

    -- All caps are above c: the floor stays.
    pub front_stays : 500 ≤ edge' → Fronted h caps head (c ∷ ns) (first - 1) lowest edge'
    front_stays gl =
        record {
          may = λ t u x a b l.
              ⊎_elim
              (λ y.
              let m = leb→le (h - (500 - x)) t y in
              let z = at_first (h - (500 - x)) t m in
              rw z (omega (arith, last (omega arith), falls x (edge' - 1) a (omega arith) (omega arith))))
              (λ y. later t x (omega arith) a b (nleb→lt (h - (500 - x)) t y))
              (test (leb (h - (500 - x)) t));
          no_more_lem =
              ⊎_elim (λ z. inl z) (λ no. inr (λ s. no (λ x a b l.
              let d : suc (first - 1) - lowest ≡ first - lowest = omega arith in
              let k = less_one h (500 - x) first lowest f.kept l in
              rw (d, k) at (s x a b (rw d (less_fits h (500 - x) first lowest f.kept l)))))) f.no_more_lem;
          kept = fl;
          above = above;
          low = lo;
          high = hi;
        }

    -- Some cap is below c: the floor rises so far that c never comes to stand at it.
    pub front_rises : edge' < 500 → Fronted h caps head (c ∷ ns) (first - 1) (max lowest (first - 1 + 501 - (edge' + h))) edge'
    front_rises gl =
        let w = held_on gl in
        record {
          may = λ t u x a b l.
              ⊎_elim
              (λ y.
              let m = leb→le (h - (500 - x)) t y in
              let z = at_first (h - (500 - x)) t m in
              rw z (fits x t a b u l m))
              (λ y. later t x (max_step lowest (first - 1 + 501 - (edge' + h)) t first some u) a b (nleb→lt (h - (500 - x)) t y))
              (test (leb (h - (500 - x)) t));
          no_more_lem = none;
          kept = max_kept lowest first edge' h fl gl w;
          above = above;
          low = lo;
          high = hi;
        }
      where
        -- The need c itself, where it comes to stand at a cap.
        fits : (x t : ℕ) → head ≤ x → x < 500 → max lowest (first - 1 + 501 - (edge' + h)) + t ≤ first - 1 → 500 - x + t ≤ h → h - (500 - x) ≤ t → c ≤ get_or caps x 0
        fits x t a b u l m =
            ⊎_elim
            (λ y. let w = ltb→lt x edge' y in omega (arith, last (omega arith), falls x (edge' - 1) a (omega arith) (omega arith)))
            (λ y. absurd (not_reached lowest first edge' h x t some (nltb→le x edge' y) b m u))
            (test (ltb x edge'))

        none : (max lowest (first - 1 + 501 - (edge' + h)) ≡ 0) ⊎ (Shifted h caps head (c ∷ ns) (suc (first - 1) - max lowest (first - 1 + 501 - (edge' + h))) → ⊥)
        none =
            ⊎_elim
            (λ y.
            let w = leb→le (first - 1 + 501 - (edge' + h)) lowest y in
            let q : max lowest (first - 1 + 501 - (edge' + h)) ≡ lowest = omega arith in
            let o : suc (first - 1) ≡ first = omega arith in
            let d : suc (first - 1) - max lowest (first - 1 + 501 - (edge' + h)) ≡ first - lowest = rw (q, o) in
            ⊎_elim (λ z. inl (omega arith)) (λ no. inr (λ s. no (λ x a b l.
            let k = less_one h (500 - x) first lowest f.kept l in
            rw (d, k) at (s x a b (rw d (less_fits h (500 - x) first lowest f.kept l)))))) f.no_more_lem)
            (λ y.
            let w = nleb→lt (first - 1 + 501 - (edge' + h)) lowest y in
            let q : max lowest (first - 1 + 501 - (edge' + h)) ≡ first - 1 + 501 - (edge' + h) = omega arith in
            let o = held_on gl in
            inr (λ s.
            let n : suc (first - 1) - max lowest (first - 1 + 501 - (edge' + h)) ≡ h - (500 - edge') = rw q (pushes_left first edge' h some gl o (omega arith)) in
            let d = minus_self (h - (500 - edge')) in
            let v = rw (n, d) at (s edge' lo gl (rw n (back_on (500 - edge') h o))) in
            omega (arith, v, above edge' (omega arith) gl)))
            (test (leb (first - 1 + 501 - (edge' + h)) lowest))

-- ---- the roof and the place in the caps

pub record Falling (caps : List ℕ) (head edge₀ c edge : ℕ) : Type 0 where
  pub low : head ≤ edge
  pub high : edge ≤ edge₀
  pub above : (x : ℕ) → edge ≤ x → x < edge₀ → get_or caps x 0 < c
