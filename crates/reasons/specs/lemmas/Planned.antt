-- Lemmas. The lines of a job's plan: what the functions of lib.rt ask for is there for an accepted
-- job, and what they put is its text. The flag is whether request 9 settled the bases.
use Prim.Native.Nat.{ℕ, zero, suc, ◌≤◌, min}
use Rattle.std.specs.Prelude.{◌≡◌, refl, Bool, true, false, cond, List, length, get_or, drop, eqb, ltb}
use Rattle.std.proofs.Common.{sym, subst, ◌∙◌, arith, ne_eqb}
use Rattle.std.proofs.Math.Path.{ap, fun_ext}
use Rattle.theory_basics.specs.Tests.{All}
use Rattle.job.specs.Job.{Accepted, Job, Within, chunks, held_most, layers, size}
use Rattle.core_sizes.specs.Table.{table_at}
use Rattle.core_moore_hodgson.specs.lemmas.Tables.{applies_in}
use Rattle.theory_plan.specs.Plan.{after, by_moore_hodgson, kept, plan}
use Rattle.theory_plan.proofs.Theorems.{plan_exists}
use Rattle.theory_plan.specs.lemmas.Ascending.{asc_within}
use Rattle.theory_plan.specs.lemmas.Choice.{kept_asc}
use Rattle.theory_plan.specs.lemmas.Parts.{part_small}
use Rattle.theory_plan.specs.lemmas.Plan.{plan_choice}
use Rattle.theory_reasons.specs.Lines.{lines_of, plan_text}
use Rattle.theory_reasons.specs.Statement.{against, all_bases_kept, reasons_text, settled_before}
use Rattle.theory_reasons.proofs.Refused.{Refuses, plan_refuses}
use Rattle.core_decide.specs.lemmas.Accepted.{left_is, part_in}
use Rattle.core_decide.specs.lemmas.Decision.{Decides, SumTable}
use Rattle.core_text.specs.lemmas.Places.{Put}
use Rattle.core_reasons.specs.lemmas.All.{PutReasonsPost, PutReasonsPre, Facts, against_by}
use Rattle.core_reasons.specs.lemmas.Tables.{Given}
use Rattle.reasons.specs.lemmas.Tables.{Summed, plan_levels, spread, sums_are}

-- ---- the choice that a line is against

one_of_two : (b : Bool) (x m : ℕ) → min x (cond b m m) ≡ min x m
one_of_two true x m = refl
one_of_two false x m = refl

same_base : (p : ℕ → ℕ) (i n k : ℕ) → against_by true p i n k ≡ all_bases_kept p i n k
same_base p i zero k = ap (λ (m : ℕ). cond (eqb k i) 1 m) (one_of_two (ltb i k) (p k) 1)
same_base p i (suc n) k = rw (ne_eqb (suc n) 0 (λ e. omega arith))

either : (b : Bool) (p : ℕ → ℕ) → against_by b p ≡ cond b (all_bases_kept p) (settled_before p)
either true p = fun_ext (λ i. fun_ext (λ n. fun_ext (λ k. same_base p i n k)))
either false p = refl

against_plan : (j : Job) (p : ℕ → ℕ) → against_by (by_moore_hodgson j) p ≡ against j p
against_plan j p = either (by_moore_hodgson j) p

module _ (j : Job) (ok : Accepted j) where
  abbrev applies : Bool
  applies = by_moore_hodgson j

  -- ---- the tables

  -- The kept chunks have places.
  pub ids_in : (first : ℕ) (ids ready mark : List ℕ) → Decides j (plan j) first ids ready mark → All (Within 1 500) (drop first ids)
  ids_in first ids ready mark d = rw d.chunks (asc_within 1 (chunks j) 1 500 (kept j (plan j)) (omega arith) ok.chunks_in.high (kept_asc j (plan j)))

  module _
      (first : ℕ) (ids ready mark : List ℕ) (decided : Decides j (plan j) first ids ready mark) (zeros levels : List ℕ) (none : (k : ℕ) → get_or zeros k 0 ≡ 0)
      (long : length zeros ≡ 500) (spread-is : levels ≡ spread (drop first ids) (drop first mark) zeros) (table sums : List ℕ) (says : table_at table ≡ size j)
      (summed : Summed table 2000 sums) (rest : List ℕ) (left : SumTable 1 j.forecast rest)
    where
      forecasts : (t : ℕ) → get_or rest t 0 ≡ after j t
      forecasts t = left.is t ∙ ap (λ (A : ℕ → ℕ). A t) (left_is j ok)

      given : Given j (plan j) j.programme sums rest levels
      given =
          record {
            same = refl;
            sizes = sums_are j ok table sums says summed;
            forecasts = forecasts;
            carried = λ k u v. rw (spread-is, decided.chunks, decided.marks) (plan_levels j ok zeros long none k u v);
          }

      facts : Facts j (plan j) j.programme applies sums rest levels
      facts =
          record {
            accepted = ok;
            given = given;
            choice = plan_choice j;
            refuses = subst (λ (b : ℕ → ℕ → ℕ → ℕ). Refuses j (plan j) b) (sym (against_plan j (plan j))) (plan_refuses j ok (plan j) (plan_exists j ok));
          }

      text_is : reasons_text (lines_of j (plan j) (against_by applies (plan j))) ≡ plan_text j
      unfolding plan_text
      text_is = ap (λ (b : ℕ → ℕ → ℕ → ℕ). reasons_text (lines_of j (plan j) b)) (against_plan j (plan j))

      -- ---- what is asked, and what is put

      module _ (most : Bool) (flag : most ≡ applies_in j.programme (table_at table)) where
        -- The code's flag is the theory's.
        flag_is : most ≡ applies
        flag_is = flag ∙ ap (λ (z : ℕ → ℕ → ℕ). applies_in j.programme z) says

        pub all_asked :
            (held : ℕ) → held ≡ held_most j → (out : List ℕ) → length levels ≡ 500 → length (plan_text j) ≤ length out →
            PutReasonsPre j.programme held (layers j) most sums rest levels out
        all_asked held held_is out levels-long room =
            rw flag_is
            (record {
              tables = record {
                few = ok.chunks_in.high;
                late = ok.delay_in.low;
                ends = ok.last_in;
                held_is = held_is;
                forecasts = λ t. rw (left.is t) (part_small 1 j.forecast (part_in j ok) t);
                long = (summed.long, left.long, levels-long);
              };
              job = j;
              plan = plan j;
              facts = facts;
              layers_is = refl;
              room = rw text_is room;
            })

        pub all_put : (old out : List ℕ) (next : ℕ) → PutReasonsPost j.programme (layers j) most sums rest levels old out next → Put old 0 (plan_text j) out next
        all_put old out next d =
            let e : PutReasonsPost j.programme (layers j) applies sums rest levels old out next = rw flag_is at d in
            rw text_is at (e.put j (plan j) facts refl)
