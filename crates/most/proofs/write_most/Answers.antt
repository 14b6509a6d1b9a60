-- `write_most` meets its contract.
use Prim.Native.Nat.{ℕ}
use lib.ListN.{get_or-replicate, length-replicate, replicate}
use Rattle.job.specs.Theorems.{input_accepted}
use Rattle.core_decide.specs.lemmas.Accepted.{filled}
use Rattle.core_output.proofs.Rows.{writes_choice, written_choice}
use Rattle.most.proofs.Outputs.{decide_pre, decided, output_written, room_of}
use Rattle.most.proofs.write_most.Goals as goal

pub decide-found-requires : goal.decide-found-requires
decide-found-requires c =
    let o = c.requires in
    let says = filled _ (input_accepted _ o.accepted) _ c.fill_sizes.ensures in
    decide_pre _ _ _ _ _ _ _ o _ says _ _ (length-replicate {A = ℕ} 500 0) (length-replicate {A = ℕ} 500 0) c.with-base.ensures

pub write_plan-made-requires : goal.write_plan-made-requires
write_plan-made-requires c =
    let o = c.requires in
    let says = filled _ (input_accepted _ o.accepted) _ c.fill_sizes.ensures in
    let d = c.decide-found.ensures.decides in
    writes_choice _ _ _ _ _ _ _ _ _ (decided _ _ _ _ _ _ _ o _ says d) _ (length-replicate {A = ℕ} 500 0) (room_of _ _ _ _ _ _ _ o).marks_fit

pub returns-clause-output : goal.returns-clause-output
returns-clause-output c =
    let o = c.requires in
    let says = filled _ (input_accepted _ o.accepted) _ c.fill_sizes.ensures in
    let d = c.decide-found.ensures.decides in
    output_written _ _ _ _ _ _ _ o d
    (written_choice _ _ _ _ _ _ _ _ _ (decided _ _ _ _ _ _ _ o _ says d) (replicate 500 0) (λ i l. get_or-replicate 500 i 0 0 l) c.write_plan-made.ensures) _ c.decide-found.ensures.work_long
