-- `live` meets its contract: the refusals in their order, then the asks, whole or not at all.
use mathlib.Core.Path.{◌≡◌, refl, sym}
use mathlib.Core.Bool.{false, ◌&&◌}
use native.Mathlib.Omega.{arith}
use lib.Dec.{leb}
use lib.ListN.{length}
use borrow.Author.Tests.{le-leb, lt-leb}
use Rattle.std.proofs.lemmas.Result.{err_from_is_err_and}
use Rattle.job.specs.Handed.{handed}
use Rattle.fetch.specs.Handed.{handed_rows}
use Rattle.live.specs.Answer.{live_input}
use Rattle.live.specs.Handed.{lent_pieces}
use Rattle.live.proofs.Writing.{ask_from, few_layers, handed_whole, output_short, refused_fetched}
use Rattle.live.proofs.live.Goals.{else-n-out-via-then-n-out+then-n-out-2+else-n-out-3, else-n-out-via-then-n-out+else-n-out-2, else-n-out-via-else-n-out}
use Rattle.live.proofs.live.Goals as goal

pub returns-in_err-accept_fetched-clause-promise : goal.returns-in_err-accept_fetched-clause-promise
returns-in_err-accept_fetched-clause-promise c =
    let a = c.args in
    let i = live_input (handed a.job.now) a.from (handed_rows a.fetched.now) a.rate in
    let p = err_from_is_err_and c.from_residual.result c.from_residual.ensures.1 in
    rw (p.1, p.2) (refused_fetched i (lent_pieces a.out.now) _ c.onward-rest.ensures _ c.in_err-accept_fetched.ensures.refused)

pub overflow_cast-depth : goal.overflow_cast-depth
overflow_cast-depth c =
    let a = c.args in
    let i = live_input (handed a.job.now) a.from (handed_rows a.fetched.now) a.rate in
    let f = c.in_ok-accept_fetched.ensures in
    omega (arith, few_layers i (lent_pieces a.out.now) _ c.onward-rest.ensures (sym f.refused) (f.gathered refl))

pub ask-n-requires : goal.ask-n-requires
ask-n-requires c =
    let a = c.args in
    let i = live_input (handed a.job.now) a.from (handed_rows a.fetched.now) a.rate in
    let f = c.in_ok-accept_fetched.ensures in
    ask_from i (lent_pieces a.out.now) _ c.onward-rest.ensures (sym f.refused) (f.gathered refl)

pub returns-then-n-out-3-clause-promise : goal.returns-then-n-out-3-clause-promise
returns-then-n-out-3-clause-promise c =
    let a = c.args in
    let i = live_input (handed a.job.now) a.from (handed_rows a.fetched.now) a.rate in
    let f = c.in_ok-accept_fetched.ensures in
    handed_whole i (lent_pieces a.out.now) _ c.onward-rest.ensures (sym f.refused) (f.gathered refl) c.ask-n.ensures
    c.if-n-out.true c.if-n-out-2.true c.if-n-out-3.true c.copy_over.ensures c.copy_over-then-n-out-3.ensures c.copy_over-then-n-out-3-2.ensures

pub returns-else-n-out-clause-promise : goal.returns-else-n-out-clause-promise
returns-else-n-out-clause-promise c =
    let a = c.args in
    let n = c.ask-n.result in
    let i = live_input (handed a.job.now) a.from (handed_rows a.fetched.now) a.rate in
    let f = c.in_ok-accept_fetched.ensures in
    let short : leb n (length a.out.now.chunks.now) && (leb n (length a.out.now.layers.now) && leb n (length a.out.now.bytes.now)) ≡ false =
    elim c.else-n-out.branch [
      | else-n-out-via-then-n-out+then-n-out-2+else-n-out-3 w ↦ rw (le-leb _ _ w.if-n-out.true, le-leb _ _ w.if-n-out-2.true, lt-leb _ _ w.if-n-out-3.false) refl
      | else-n-out-via-then-n-out+else-n-out-2 w ↦ rw (le-leb _ _ w.if-n-out.true, lt-leb _ _ w.if-n-out-2.false) refl
      | else-n-out-via-else-n-out w ↦ rw (lt-leb _ _ w.if-n-out.false) refl
    ] in
    output_short i (lent_pieces a.out.now) _ c.onward-rest.ensures (sym f.refused) (f.gathered refl) c.ask-n.ensures short
