-- What comes before 22 is asked first; then the rows are gathered.
use Rattle.std.proofs.Common.{sym}
use Rattle.std.proofs.lemmas.Result.{err_from_is_err_and}
use Rattle.replan.specs.Handed.{handed_on}
use Rattle.replan.proofs.Outputs.{earlier_long, gather_from, gathered, refused_asked, refused_kept}
use Rattle.replan.proofs.accept_fetched.Goals as goal

pub returns-in_err-accept_asked-clause-refused : goal.returns-in_err-accept_asked-clause-refused
returns-in_err-accept_asked-clause-refused c =
    let p = err_from_is_err_and c.from_residual.result c.from_residual.ensures.1 in
    rw (p.1, p.2) (refused_asked _ _ _ c.in_err-accept_asked.ensures)

pub slice_bounds-gather-length : goal.slice_bounds-gather-length
slice_bounds-gather-length c = earlier_long _ (handed_on c.args.from c.args.fetched.now c.args.onward.now) (sym c.in_ok-accept_asked.ensures)

pub gather-kept-requires : goal.gather-kept-requires
gather-kept-requires c =
    gather_from _ (handed_on c.args.from c.args.fetched.now c.args.onward.now) (sym c.in_ok-accept_asked.ensures)

pub returns-clause-refused : goal.returns-clause-refused
returns-clause-refused c =
    refused_kept _ _ (sym c.in_ok-accept_asked.ensures) c.fill_sizes.ensures c.gather-kept.ensures _ c.refuse_unless.ensures

pub returns-clause-gathered : goal.returns-clause-gathered
returns-clause-gathered c z =
    gathered _ _ (sym c.in_ok-accept_asked.ensures) c.fill_sizes.ensures c.gather-kept.ensures _ c.refuse_unless.ensures z
