-- `replan` meets its contract: the refusals in their order, then the plan made afresh, with what
-- document 02 says of it.
use Prim.Native.Nat.{ℕ}
use mathlib.Core.Path.{refl, sym}
use native.Mathlib.Omega.{arith}
use lib.ListN.{length-replicate}
use Rattle.std.proofs.lemmas.Result.{err_from_is_err_and}
use Rattle.replan.proofs.Outputs.{decide_from, output_laid, promise_of, refused_input, short_marks, write_from}
use Rattle.replan.proofs.replan.Goals as goal

pub returns-in_err-accept_fetched-clause-promise : goal.returns-in_err-accept_fetched-clause-promise
returns-in_err-accept_fetched-clause-promise c =
    let p = err_from_is_err_and c.from_residual.result c.from_residual.ensures.1 in
    rw (p.1, p.2) (promise_of (refused_input _ _ _ _ _ _ _ _ c.in_err-accept_fetched.ensures.refused))

pub returns-then-out-count-clause-promise : goal.returns-then-out-count-clause-promise
returns-then-out-count-clause-promise c = promise_of (short_marks _ _ _ _ _ _ _ (sym c.in_ok-accept_fetched.ensures.refused) c.if-out-count.true)

pub decide-first-requires : goal.decide-first-requires
decide-first-requires c =
    let f = c.in_ok-accept_fetched.ensures in
    decide_from _ _ (sym f.refused) (f.gathered refl) (omega arith) (omega arith) (length-replicate {A = ℕ} 500 0) (length-replicate {A = ℕ} 500 0) (length-replicate {A = ℕ} 500 0)

pub write_plan-made-requires : goal.write_plan-made-requires
write_plan-made-requires c =
    let f = c.in_ok-accept_fetched.ensures in
    write_from _ _ (sym f.refused) (f.gathered refl) c.decide-first.ensures (omega arith) c.if-out-count.false

pub returns-clause-promise : goal.returns-clause-promise
returns-clause-promise c =
    let f = c.in_ok-accept_fetched.ensures in
    promise_of (output_laid _ _ (sym f.refused) (f.gathered refl) c.decide-first.ensures c.if-out-count.false c.write_plan-made.ensures _ c.answered.ensures)
