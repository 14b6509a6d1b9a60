use Rattle.std.proofs.Common.{arith}
use Rattle.std.proofs.lemmas.Result.{err_from_is_err_and}
use Rattle.job.specs.Handed.{handed}
use Rattle.fetch.specs.Handed.{lent_list}
use Rattle.planfile.proofs.Reader.{job_refused, file_refused, may_copy, short, whole, same_slices}
use Rattle.planfile.proofs.read_plan.Goals as goal

pub returns-in_err-accept-clause-promise : goal.returns-in_err-accept-clause-promise
returns-in_err-accept-clause-promise c =
    let p = err_from_is_err_and c.from_residual.result c.from_residual.ensures.1 in
    rw (p.1, p.2) (job_refused (handed c.args.job.now) c.args.file.now (lent_list c.args.out.now) _ c.in_err-accept.ensures)

pub returns-in_err-rows-clause-promise : goal.returns-in_err-rows-clause-promise
returns-in_err-rows-clause-promise c =
    let p = err_from_is_err_and c.from_residual-in_err-rows.result c.from_residual-in_err-rows.ensures.1 in
    rw (p.1, p.2) (file_refused (handed c.args.job.now) c.args.file.now (lent_list c.args.out.now) c.in_ok-accept.ensures _ c.in_err-rows.ensures)

pub returns-in_err-accept_room-clause-promise : goal.returns-in_err-accept_room-clause-promise
returns-in_err-accept_room-clause-promise c =
    let p = err_from_is_err_and c.from_residual-in_err-accept_room.result c.from_residual-in_err-accept_room.ensures.1 in
    rw (p.1, p.2) (short (handed c.args.job.now) c.args.file.now (lent_list c.args.out.now) c.in_ok-accept.ensures c.in_ok-rows.rows c.in_ok-rows.ensures _ c.in_err-accept_room.ensures)

pub copy_marks-requires : goal.copy_marks-requires
copy_marks-requires c =
    let may = may_copy (handed c.args.job.now) c.args.file.now (lent_list c.args.out.now) c.in_ok-accept.ensures c.in_ok-rows.rows c.in_ok-rows.ensures c.in_ok-accept_room.ensures in
    (may.for_marks, omega (arith, may.inside))

pub copy_rows-requires : goal.copy_rows-requires
copy_rows-requires c =
    let may = may_copy (handed c.args.job.now) c.args.file.now (lent_list c.args.out.now) c.in_ok-accept.ensures c.in_ok-rows.rows c.in_ok-rows.ensures c.in_ok-accept_room.ensures in
    (may.for_slots, may.for_chunks, may.for_layers, may.for_bytes, may.inside)

pub returns-clause-promise : goal.returns-clause-promise
returns-clause-promise c =
    let r = c.copy_rows.ensures in
    whole (handed c.args.job.now) c.args.file.now (lent_list c.args.out.now) c.in_ok-accept.ensures c.in_ok-rows.rows c.in_ok-rows.ensures c.in_ok-accept_room.ensures _ (same_slices c.copy_marks.ensures r.slots r.chunks r.layers r.bytes)
