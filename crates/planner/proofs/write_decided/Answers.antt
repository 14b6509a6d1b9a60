-- `write_decided` meets its contract: what is decided and laid is the plan.
use mathlib.Core.Path.{refl}
use Prim.Native.Nat.{ℕ}
use lib.ListN.{get_or-replicate, length-replicate, replicate}
use Rattle.core_decide.specs.lemmas.Accepted.{decide_from, filled}
use Rattle.core_output.proofs.Rows.{writes_choice, written_choice}
use Rattle.planner.proofs.Outputs.{decided, output_laid}
use Rattle.job.specs.Theorems.{input_iff}
use Rattle.planner.proofs.write_decided.Goals as goal

pub decide-first-requires : goal.decide-first-requires
decide-first-requires c =
    let o = c.requires in
    let says = filled _ ((input_iff _).0 o.0).1 _ c.fill_sizes.ensures in
    decide_from _ ((input_iff _).0 o.0).1 _ says _ _ (length-replicate {A = ℕ} 500 0) (length-replicate {A = ℕ} 500 0) c.with-base.ensures

pub write_plan-made-requires : goal.write_plan-made-requires
write_plan-made-requires c =
    let o = c.requires in
    let says = filled _ ((input_iff _).0 o.0).1 _ c.fill_sizes.ensures in
    writes_choice _ _ _ _ _ _ _ _ _ (decided _ o.0 _ says (c.decide-first.ensures _ _ refl says)) _ (length-replicate {A = ℕ} 500 0) o.1

pub returns-clause-output : goal.returns-clause-output
returns-clause-output c =
    let o = c.requires in
    let says = filled _ ((input_iff _).0 o.0).1 _ c.fill_sizes.ensures in
    output_laid _ _ _ _ _ _ o.0 o.1
    (written_choice _ _ _ _ _ _ _ _ _ (decided _ o.0 _ says (c.decide-first.ensures _ _ refl says)) (replicate 500 0) (λ i l. get_or-replicate 500 i 0 0 l) c.write_plan-made.ensures) _ c.answered.ensures
