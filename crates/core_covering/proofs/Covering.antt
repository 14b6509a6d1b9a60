-- Laws on one set against another: what the tests of waits_covered and covers say. Assumes nothing.
use Prim.Native.Nat.{ℕ, ◌+◌, ◌*◌, ◌-◌, ◌≤◌, ◌<◌, max}
use mathlib.Core.Path.{◌≡◌, subst}
use mathlib.Core.List.{List}
use mathlib.Core.Logic.{⊎_elim}
use native.Mathlib.Omega.{arith}
use native.Mathlib.Nat.{mul-le-mul}
use lib.ListN.{length}
use lib.Dec.{leb, leb→le, nleb→lt}
use Rattle.theory_basics.specs.lemmas.Tests.{test}
use Rattle.job.specs.Job.{Job}
use Rattle.theory_most.specs.Statement.{after_set}
use Rattle.core_covering.specs.lemmas.Tables.{CoveredBy, SetOf, TwoSets}
use Rattle.core_covering.specs.lemmas.Levels.{held_small, set_used, set_waits_up}

module _ (held smallest : ℕ) (opens u : List ℕ) (s : List ℕ) (usedS : ℕ) where
  abbrev Two : Job → ℕ → Type 0
  Two j used_u = TwoSets j held smallest opens u used_u s usedS

  -- Each of them.
  pub first_of : (j : Job) (used_u : ℕ) → Two j used_u → SetOf j held opens u
  first_of j used_u t =
      record { chunk = t.chunk; inside = t.inside; is_set = t.set_u; accepted = t.accepted; held_is = t.held_is; held_some = t.held_some; opens_are = t.opens_are }

  pub other_of : (j : Job) (used_u : ℕ) → Two j used_u → SetOf j held opens s
  other_of j used_u t =
      record { chunk = t.chunk; inside = t.inside; is_set = t.set_s; accepted = t.accepted; held_is = t.held_is; held_some = t.held_some; opens_are = t.opens_are }

  -- There is room for the level that s must be at, so many chunks on.
  pub level_room : (j : Job) (used_u : ℕ) → Two j used_u → (n : ℕ) → n < held → (n * smallest ≤ 1099494850560) × (usedS + n * smallest ≤ 1159892828160)
  level_room j used_u t n h =
      let p : n * smallest ≤ 65535 * 16777216 = mul-le-mul {n₁ = n} {m₁ = smallest} {n₂ = 65535} {m₂ = 16777216} (omega (arith, h, t.held_is, held_small j t.accepted)) t.small in
      let m : n * smallest ≤ 1099494850560 = omega (arith, p) in
      (m, omega (arith, t.s_is, set_used j t.accepted t.chunk s t.inside t.set_s))

  -- What is asked of place q, if u has so many chunks more.
  abbrev Covered : Job → ℕ → ℕ → Type 0
  Covered j lead q = (after_set j u).waits q ≤ max ((after_set j s).used + (q + lead) * smallest) ((after_set j s).waits (q + lead))

  -- It holds from place q on.
  pub record CoveredFrom (lead q : ℕ) : Type 0 where
    pub within : q + lead ≤ held
    pub each : (j : Job) (used_u : ℕ) → Two j used_u → (n : ℕ) → q ≤ n → n + lead < held → Covered j lead n

  -- What the test says of place q - 1.
  abbrev pub Passed : ℕ → ℕ → Type 0
  Passed lead q = (j : Job) (used_u : ℕ) → Two j used_u → Covered j lead (q - 1)

  pub covered_more : (lead q : ℕ) → 0 < q → CoveredFrom lead q → Passed lead q → CoveredFrom lead (q - 1)
  covered_more lead q h c p =
      record {
        within = omega (arith, c.within);
        each = λ j used_u t n l m.
            ⊎_elim
            (λ b. c.each j used_u t n (leb→le q n b) m)
            (λ b. let e : q - 1 ≡ n = omega (arith, nleb→lt q n b) in subst (Covered j lead) e (p j used_u t))
            (test (leb q n));
      }

  -- What is waited for rises, so what s has used already covers all places before.
  pub covered_rest :
      (lead q : ℕ) → 0 < q → CoveredFrom lead q → (j : Job) (used_u : ℕ) → Two j used_u → (after_set j u).waits (q - 1) ≤ usedS →
      (n : ℕ) → n + lead < held → Covered j lead n
  covered_rest lead q h c j used_u t low n m =
      ⊎_elim
      (λ b. c.each j used_u t n (leb→le q n b) m)
      (λ b.
      let l = nleb→lt q n b in
      let e : n + (q - 1 - n) ≡ q - 1 = omega arith in
      let up = rw e at (set_waits_up j t.chunk u t.set_u n (q - 1 - n) (omega (arith, c.within, t.held_is))) in
      omega (arith, up, low, t.s_is))
      (test (leb q n))

  pub covered_end : (lead q : ℕ) → q ≤ 0 → CoveredFrom lead q → (j : Job) (used_u : ℕ) → Two j used_u → (n : ℕ) → n + lead < held → Covered j lead n
  covered_end lead q h c j used_u t n m = c.each j used_u t n (omega arith) m

  -- So u covers s, if what it has used is covered too.
  pub covers_both :
      (j : Job) (used_u : ℕ) → Two j used_u → length s ≤ length u →
      used_u ≤ max (usedS + (length u - length s) * smallest) ((after_set j s).waits (length u - length s)) →
      ((n : ℕ) → n + (length u - length s) < held → Covered j (length u - length s) n) → CoveredBy j smallest u s
  covers_both j used_u t few low c =
      record {
        no_fewer = few;
        covers = record {
          used_covered = λ h. omega (arith, low, t.u_is, t.s_is);
          waits_covered = λ q h. c q (omega (arith, h, t.held_is));
        };
      }
