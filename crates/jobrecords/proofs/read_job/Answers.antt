use Rattle.std.proofs.lemmas.Result.{err_from_is_err_and}
use Rattle.jobrecords.specs.Handed.{lent_job}
use Rattle.jobrecords.proofs.Answers.{read_long, read_broken, read_short, read_whole}
use Rattle.jobrecords.proofs.read_job.Goals as goal

pub returns-in_err-refuse_unless-clause-promise : goal.returns-in_err-refuse_unless-clause-promise
returns-in_err-refuse_unless-clause-promise c =
    let a = c.args in
    let p = err_from_is_err_and c.from_residual.result c.from_residual.ensures.1 in
    rw (p.1, p.2) (read_long a.sequenced a.file.now (lent_job a.out.now) _ c.in_err-refuse_unless.ensures)

pub returns-in_err-j-clause-promise : goal.returns-in_err-j-clause-promise
returns-in_err-j-clause-promise c =
    let a = c.args in
    let p = err_from_is_err_and c.from_residual-in_err-j.result c.from_residual-in_err-j.ensures.1 in
    rw (p.1, p.2) (read_broken a.sequenced a.file.now (lent_job a.out.now) c.in_ok-refuse_unless.ensures _ c.in_err-j.ensures)

pub returns-in_err-accept_room-clause-promise : goal.returns-in_err-accept_room-clause-promise
returns-in_err-accept_room-clause-promise c =
    let a = c.args in
    let p = err_from_is_err_and c.from_residual-in_err-accept_room.result c.from_residual-in_err-accept_room.ensures.1 in
    rw (p.1, p.2) (read_short a.sequenced a.file.now (lent_job a.out.now) c.in_ok-refuse_unless.ensures c.in_ok-j.j _ _ c.in_ok-j.ensures _ c.in_err-accept_room.ensures)

pub returns-clause-promise : goal.returns-clause-promise
returns-clause-promise c =
    let a = c.args in
    let g = c.gather.ensures in
    read_whole a.sequenced a.file.now (lent_job a.out.now) c.in_ok-refuse_unless.ensures c.in_ok-j.j _ _ c.in_ok-j.ensures c.in_ok-accept_room.ensures _ _ _ _ _ c.copy_from_slice.ensures.after g.chunks g.layers g.bytes c.copy_from_slice-2.ensures.after
