-- Laws on the flags of the chunks that are asked. Assumes nothing.
use Prim.Native.Nat.{ℕ, ◌+◌, ◌-◌, ◌/◌, ◌≤◌, ◌<◌}
use mathlib.Core.Path.{◌≡◌, ◌∙◌}
use mathlib.Core.Bool.{cond, not, ◌&&◌, ◌||◌}
use mathlib.Core.List.{List}
use native.Mathlib.Omega.{arith}
use lib.Dec.{eqb, leb, ltb}
use lib.ListN.{length, set}
use Rattle.theory_basics.specs.Sums.{count}
use Rattle.theory_basics.specs.lemmas.Ranges.{count_more, count_small}
use Rattle.theory_basics.specs.lemmas.Tables.{at_set, ne_lt}
use Rattle.job.specs.Job.{due_slot}
use Rattle.job.specs.declared.Programme.{Programme}
use Rattle.core_live.specs.lemmas.ByTables.{asked_at, AskedFlags, begun_at, fresh_at, held_at, line_at}

module _ (p : Programme) (start : ℕ) (left : ℕ → ℕ → ℕ) (begun : List ℕ) (last from until : ℕ) where
  -- The flags of the chunks up to i, and what would be held with those of them that are new.
  pub record Asking (asked : List ℕ) (held i : ℕ) : Type 0 where
    pub held_is : held ≡ held_at p start begun + count (fresh_at p start left begun last from until) i
    pub flags : AskedFlags p start left begun last from until i asked

  pub held_few : {asked : List ℕ} {held i : ℕ} → Asking asked held i → held ≤ p.chunks + i
  held_few {i = i} a =
      omega (
        arith,
        a.held_is,
        count_small p.chunks (λ k. begun_at begun k && ltb start (due_slot p k)),
        count_small i (fresh_at p start left begun last from until),
      )

  pub asking_more :
      {asked : List ℕ} {held i : ℕ} → Asking asked held i → i < 500 → length asked ≡ 500 → (flag : ℕ) {more : ℕ} →
      more ≡ held + cond (fresh_at p start left begun last from until (i + 1)) 1 0 →
      eqb flag 1 ≡ (line_at p start left begun last from until (i + 1) && (not (fresh_at p start left begun last from until (i + 1)) || leb more (p.limit / p.span))) →
      Asking (set asked i flag) more (i + 1)
  asking_more {asked} {held} {i} a h long flag {more} e f =
      let s : more ≡ held_at p start begun + count (fresh_at p start left begun last from until) (i + 1) =
      omega (arith, a.held_is, e, count_more i (fresh_at p start left begun last from until)) in
      let g = a.flags in
      let back : (k : ℕ) → 1 ≤ k → k ≤ i + 1 → (k - 1 ≡ i → ⊥) → k ≤ i = λ k u v o. omega (arith, ne_lt (k - 1) i (omega arith) o) in
      record {
        held_is = s;
        flags =
            record {
              flag_is = λ k u v.
                  at_set (λ x. eqb x 1 ≡ asked_at p start left begun last from until k) asked i flag (k - 1) (omega arith)
                  (λ z. let w : k ≡ i + 1 = omega arith in rw w (f ∙ rw s))
                  (λ o. g.flag_is k u (back k u v o));
            };
      }
