-- Laws on the whole: what the passes find is what refusal 22 asks, and the tables are those of the
-- rows. Assumes nothing.
use Prim.Native.Nat.{ℕ, ◌-◌, ◌/◌}
use mathlib.Core.Path.{◌≡◌, sym, ◌∙◌}
use mathlib.Core.Bool.{Bool, true, false, ◌&&◌}
use mathlib.Core.List.{List}
use native.Mathlib.Omega.{arith}
use lib.ListN.{length, get_or}
use lib.Dec.{leb}
use Rattle.theory_basics.specs.Tests.{all_to}
use Rattle.theory_basics.specs.lemmas.Tests.{T_true, and_T, true_T}
use Rattle.job.specs.Job.{Override, last_due}
use Rattle.core_sizes.specs.Table.{table_at}
use Rattle.job.specs.declared.Programme.{Programme}
use Rattle.fetch.specs.Rows.{Row}
use Rattle.fetch.specs.Verdict.{rule1, rule3}
use Rattle.fetch.proofs.Theorems.{rule1_iff, rule3_iff}
use Rattle.core_replan_decide.specs.lemmas.Decision.{job_from}
use Rattle.core_rules.proofs.Exact.{rule1_is, rule3_is, rule6_is}
use Rattle.core_rules.specs.declared.Pass.{Pass}
use Rattle.core_rules.specs.lemmas.Tables.{TallyPost, Shown, held_by}
use Rattle.core_replan_input.specs.declared.Kept.{Kept}
use Rattle.core_replan_input.specs.lemmas.Gather.{SetFlagsPost, GatherPost, SetLeftPost, InTurnPost}
use Rattle.core_replan_input.proofs.Rows.{few_is, room_is, small_of, tabled_of, turn_is}

module _
    (p : Programme) (table : List ℕ) (depth : ℕ) (earlier : List ℕ) (rows : List Row) (last : ℕ) (d : last ≡ last_due p) (r : Pass) (S L F : List ℕ)
    (a : TallyPost p last depth rows r S L F) where
  -- A row out of range breaks rule 1.
  pub gathered_none :
      {left begun whole : List ℕ} → r.ranged ≡ false → GatherPost p table depth earlier rows false left begun whole
  gathered_none g =
      record {
        kept = λ sizes os part w before. rw (sym (rule1_is (job_from p sizes os earlier part) a d w.depth_is) ∙ g);
        tabled = λ e. absurd (let y : ◌≡◌ {A = ℕ} 0 1 = cc in omega arith);
        small = λ e. absurd (let y : ◌≡◌ {A = ℕ} 0 1 = cc in omega arith);
      }

  -- Every row in range: the other rules by the tables.
  pub gathered :
      {left begun whole : List ℕ} → r.ranged ≡ true → (k : Kept) (room few turn : Bool) → SetLeftPost table L left →
      SetFlagsPost (table_at table) L F depth p.chunks k begun whole → room ≡ all_to (length earlier) (λ u. leb (get_or S u 0) (get_or earlier (u - 1) 0)) →
      few ≡ all_to last (λ u. leb (held_by p F u) (p.limit / p.span)) → InTurnPost F p.chunks turn → {answer : Bool} →
      answer ≡ k.few && (k.lower && (room && (r.timely && (few && turn)))) → GatherPost p table depth earlier rows answer left begun whole
  gathered {left} {begun} {whole} g k room few turn rest s q f u {answer} e =
      let t = a.tables g in
      let one : (sizes : List ℕ) (os : List Override) (part : List ℕ) → Shown table depth (job_from p sizes os earlier part) → rule1 (job_from p sizes os earlier part) rows ≡ true =
      λ sizes os part w. sym (rule1_is (job_from p sizes os earlier part) a d w.depth_is) ∙ g in
      let three : (sizes : List ℕ) (os : List Override) (part : List ℕ) → Shown table depth (job_from p sizes os earlier part) → k.lower ≡ rule3 (job_from p sizes os earlier part) rows =
      λ sizes os part w. (rw (w.sizes_are, w.depth_is) at s.lower) ∙ rule3_is (job_from p sizes os earlier part) rows S L F w.accepted t in
      record {
        kept = λ sizes os part w before.
            let j = job_from p sizes os earlier part in
            let range = (rule1_iff j rows).0 (true_T _ (one sizes os part w)) in
            e
            ∙ rw (
              one sizes os part w,
              (rw (w.sizes_are, w.depth_is) at s.few) ∙ few_is j w.accepted rows range t,
              three sizes os part w,
              q ∙ room_is p sizes os earlier part w.accepted rows before t,
              a.timely g,
              (rw d at f) ∙ rule6_is j rows S L F w.accepted t,
              turn_is j w.accepted rows range t u,
            );
        tabled = λ yes sizes os part w.
            let j = job_from p sizes os earlier part in
            let lower = (and_T k.lower _ (and_T k.few _ (true_T _ (sym e ∙ yes))).1).0 in
            let range = (rule1_iff j rows).0 (true_T _ (one sizes os part w)) in
            let low = (rule3_iff j rows).0 (true_T (rule3 j rows) (sym (three sizes os part w) ∙ T_true k.lower lower)) in
            tabled_of j w.accepted rows range t w.sizes_are rest (rw (w.sizes_are, w.depth_is) at s.flags) low;
        small = λ yes sizes os part w. small_of (job_from p sizes os earlier part) w.accepted w.sizes_are rest;
      }
