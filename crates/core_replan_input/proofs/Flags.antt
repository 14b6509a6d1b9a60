-- Laws on the passes over the chunks: flags and marks, what is left, and first slots in turn.
-- Assumes nothing.
use Prim.Native.Nat.{ℕ, ◌+◌, ◌-◌, ◌≤◌, ◌<◌}
use mathlib.Core.Path.{◌≡◌, sym, ◌∙◌}
use mathlib.Core.Bool.{Bool, false, cond, ◌&&◌, and_comm}
use mathlib.Core.List.{List}
use mathlib.Core.Logic.{◌⊎◌, ⊎_elim}
use native.Mathlib.Omega.{arith}
use lib.ListN.{length, get_or, set}
use lib.Dec.{eqb, ltb}
use Rattle.theory_basics.specs.Tests.{all_below}
use Rattle.theory_basics.specs.lemmas.Tables.{at_set, ne_lt}
use Rattle.theory_basics.specs.lemmas.Tests.{all_to_more, flag_says}
use Rattle.fetch.specs.Rows.{mark_byte}
use Rattle.core_rules.specs.declared.Seen.{Seen}
use Rattle.core_rules.specs.lemmas.Tables.{SeeChunkPost, carried_by, lower_by}
use Rattle.core_replan_input.specs.declared.Kept.{Kept}
use Rattle.core_replan_input.specs.lemmas.Gather.{SetFlagsPost, InTurnBy, InTurnPost, few_by}

-- ---- flags and marks

module _ {size : ℕ → ℕ → ℕ} {sums first : List ℕ} {depth : ℕ} where
  pub flagged_more :
      {i : ℕ} {r : Kept} {begun whole : List ℕ} → SetFlagsPost size sums first depth i r begun whole → i < 500 → length begun ≡ 500 → length whole ≡ 500 → {m : Seen} →
      SeeChunkPost size sums depth (i + 1) m → {f : ℕ} → f ≡ cond (ltb (get_or first (i + 1) 0) 65535) 1 0 → {b : Bool} →
      b ≡ all_below depth (few_by size sums (i + 1)) →
      SetFlagsPost size sums first depth (i + 1) (record { lower = r.lower && m.lower; few = r.few && b }) (set begun i f) (set whole i m.mark)
  flagged_more {i} {r} {begun} {whole} a h lb lw {m} s {f} e {b} q =
      let g = a.flags in
      let back : (k : ℕ) → 1 ≤ k → k ≤ i + 1 → (k - 1 ≡ i → ⊥) → k ≤ i = λ k u v o. omega (arith, ne_lt (k - 1) i (omega arith) o) in
      record {
        lower = and_comm r.lower m.lower ∙ rw (s.lower, a.lower) (sym (all_to_more i (λ k. all_below depth (lower_by (carried_by size sums k)))));
        few = and_comm r.few b ∙ rw (q, a.few) (sym (all_to_more i (λ k. all_below depth (few_by size sums k))));
        flags =
            record {
              begun_is = λ k u v.
                  at_set (λ x. eqb x 1 ≡ ltb (get_or first k 0) 65535) begun i f (k - 1) (omega arith)
                  (λ z. let w : k ≡ i + 1 = omega arith in rw (e, w) (flag_says (ltb (get_or first (i + 1) 0) 65535)))
                  (λ o. g.begun_is k u (back k u v o));
              whole_is = λ k u v.
                  at_set (λ x. x ≡ mark_byte (carried_by size sums k) depth) whole i m.mark (k - 1) (omega arith)
                  (λ z. let w : k ≡ i + 1 = omega arith in rw w s.mark)
                  (λ o. g.whole_is k u (back k u v o));
            };
      }

-- ---- first slots in turn

-- The chunks up to i are in turn, and latest is the slot in which the last of them that has a row
-- begins, or 0.
pub record Turning (first : List ℕ) (i latest : ℕ) : Type 0 where
  pub turn : InTurnBy first i
  pub above : (a : ℕ) → 1 ≤ a → a ≤ i → get_or first a 0 < 65535 → get_or first a 0 ≤ latest
  pub some : (latest ≡ 0) ⊎ ((b : ℕ) × (1 ≤ b) × (b ≤ i) × (get_or first b 0 ≡ latest) × (latest < 65535))

module _ {first : List ℕ} {i latest : ℕ} (t : Turning first i latest) where
  pub turning_stop : {count : ℕ} → i < count → get_or first (i + 1) 0 < latest → InTurnPost first count false
  turning_stop h f =
      record {
        holds = λ z. absurd (let y : ◌≡◌ {A = ℕ} 0 1 = cc in omega arith);
        fails = λ z turn.
            ⊎_elim
            (λ e. omega arith)
            (λ s. let o = turn s.0 (i + 1) s.1 (omega (arith, s.2)) (omega arith) (omega (arith, s.3, s.4)) (omega (arith, s.4)) in omega (arith, o, s.3))
            t.some;
      }
