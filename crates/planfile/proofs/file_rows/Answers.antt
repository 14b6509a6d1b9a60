use Rattle.std.proofs.lemmas.Result.{err_from_is_err_and}
use Rattle.planfile.specs.lemmas.Scan.{too_long, file_refused, file_taken}
use Rattle.planfile.proofs.file_rows.Goals as goal

pub returns-in_err-refuse_unless : goal.returns-in_err-refuse_unless
returns-in_err-refuse_unless c =
    let p = err_from_is_err_and c.from_residual.result c.from_residual.ensures.1 in
    rw (p.1, p.2) (too_long c.args.count c.args.file.now _ c.in_err-refuse_unless.ensures)

pub returns-in_err-accept_end : goal.returns-in_err-accept_end
returns-in_err-accept_end c =
    let a = c.args in
    let p = err_from_is_err_and c.from_residual-in_err-accept_end.result c.from_residual-in_err-accept_end.ensures.1 in
    rw (p.1, p.2) (file_refused a.count a.file.now c.in_ok-refuse_unless.ensures c.count_kps-kept.result c.count_kps-kept.ensures c.count_fts-rows.result c.count_fts-rows.ensures _ c.in_err-accept_end.ensures)

pub returns : goal.returns
returns c = let a = c.args in file_taken a.count a.file.now c.in_ok-refuse_unless.ensures c.count_kps-kept.result c.count_kps-kept.ensures c.count_fts-rows.result c.count_fts-rows.ensures c.in_ok-accept_end.ensures
