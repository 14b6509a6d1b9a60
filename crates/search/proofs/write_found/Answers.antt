-- `write_found` meets its contract.
use Prim.Native.Nat.{ℕ}
use lib.ListN.{get_or-replicate, length-replicate, replicate}
use Rattle.std.proofs.Common.{rules}
use Rattle.core_decide.specs.lemmas.Accepted.{decide_from, filled}
use Rattle.core_output.proofs.Rows.{writes_choice, written_choice}
use Rattle.search.proofs.Outputs.{decided, output_laid}
use Rattle.job.specs.Theorems.{input_accepted}
use Rattle.search.proofs.write_found.Goals as goal

pub decide-found-requires : goal.decide-found-requires
decide-found-requires c =
    let o = c.requires in
    let ok = input_accepted _ o.0 in
    let says = filled _ ok _ c.fill_sizes.ensures in
    record { accepted = ok; sizes_are = says; from = decide_from _ ok _ says _ _ (length-replicate {A = ℕ} 500 0) (length-replicate {A = ℕ} 500 0) c.with-base.ensures }

pub write_plan-made-requires : goal.write_plan-made-requires
write_plan-made-requires c =
    let o = c.requires in
    let ok = input_accepted _ o.0 in
    let says = filled _ ok _ c.fill_sizes.ensures in
    writes_choice _ _ _ _ _ _ _ _ _ (decided _ c.args.budget o.0 _ says c.decide-found.ensures.tables) _ (length-replicate {A = ℕ} 500 0) o.1

pub returns-in_err-plan-clause-output : goal.returns-in_err-plan-clause-output
returns-in_err-plan-clause-output c =
    let o = c.requires in
    let ok = input_accepted _ o.0 in
    let says = filled _ ok _ c.fill_sizes.ensures in
    let d = c.decide-found.ensures in
    output_laid _ c.args.budget _ _ _ _ _ o.0 o.1
    (written_choice _ _ _ _ _ _ _ _ _ (decided _ c.args.budget o.0 _ says d.tables) (replicate 500 0) (λ i l. get_or-replicate 500 i 0 0 l) c.write_plan-made.ensures) _ c.answered.ensures (search rules)

pub returns-clause-output : goal.returns-clause-output
returns-clause-output c =
    let o = c.requires in
    let ok = input_accepted _ o.0 in
    let says = filled _ ok _ c.fill_sizes.ensures in
    let d = c.decide-found.ensures in
    output_laid _ c.args.budget _ _ _ _ _ o.0 o.1
    (written_choice _ _ _ _ _ _ _ _ _ (decided _ c.args.budget o.0 _ says d.tables) (replicate 500 0) (λ i l. get_or-replicate 500 i 0 0 l) c.write_plan-made.ensures) _ c.answered.ensures (search rules)
