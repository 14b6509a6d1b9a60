use Rattle.std.proofs.Common.{◌∙◌}
use Rattle.std.proofs.lemmas.Result.{err_from_is_err_and}
use Rattle.jobrecords.proofs.Uneven.{many_uneven, some_uneven}
use Rattle.jobrecords.proofs.accept_overrides.Goals as goal

pub returns-in_err-refuse_unless : goal.returns-in_err-refuse_unless
returns-in_err-refuse_unless c =
    let a = c.args in
    let p = err_from_is_err_and c.from_residual.result c.from_residual.ensures.1 in
    rw (p.1, p.2) (many_uneven a.file.now a.from a.n a.p a.sizes.now c.requires.few.0 c.requires.few.1 _ c.in_err-refuse_unless.ensures)

pub returns : goal.returns
returns c =
    let a = c.args in
    let g = c.gather.ensures in
    c.accept_overrides.ensures ∙ some_uneven a.file.now a.from a.n a.p a.sizes.now _ _ _ _ _ _ g.chunks g.layers g.bytes
