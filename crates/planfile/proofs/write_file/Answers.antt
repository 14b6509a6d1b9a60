use Rattle.std.proofs.Common.{arith}
use Rattle.std.proofs.lemmas.Result.{err_from_is_err_and}
use Rattle.fetch.specs.Handed.{handed_list}
use Rattle.planfile.proofs.Writer.{not_above, not_whole, whole_rows, too_many, too_large, short, wrote}
use Rattle.planfile.proofs.write_file.Goals as goal

pub returns-in_err-accept_list : goal.returns-in_err-accept_list
returns-in_err-accept_list c =
    let p = err_from_is_err_and c.from_residual.result c.from_residual.ensures.1 in
    let w = not_whole c.args.count (handed_list c.args.list.now) c.args.out.now _ c.in_err-accept_list.ensures in
    record { answer = rw (p.1, p.2) w.answer; lent = w.lent }

pub returns-in_err-refuse_unless : goal.returns-in_err-refuse_unless
returns-in_err-refuse_unless c =
    let p = err_from_is_err_and c.from_residual-in_err-refuse_unless.result c.from_residual-in_err-refuse_unless.ensures.1 in
    let w = too_many c.args.count (handed_list c.args.list.now) c.args.out.now c.in_ok-accept_list.ensures _ c.in_err-refuse_unless.ensures in
    record { answer = rw (p.1, p.2) w.answer; lent = w.lent }

pub overflow_mul-from : goal.overflow_mul-from
overflow_mul-from c = let w = whole_rows c.args.count (handed_list c.args.list.now) c.args.out.now c.in_ok-accept_list.ensures in omega (arith, w.byte_each, c.ranges, not_above 9 _ _ (omega arith) c.in_ok-refuse_unless.ensures)

pub overflow_add-last : goal.overflow_add-last
overflow_add-last c = let w = whole_rows c.args.count (handed_list c.args.list.now) c.args.out.now c.in_ok-accept_list.ensures in omega (arith, w.byte_each, c.ranges, not_above 9 _ _ (omega arith) c.in_ok-refuse_unless.ensures)

pub overflow_add-end : goal.overflow_add-end
overflow_add-end c = let w = whole_rows c.args.count (handed_list c.args.list.now) c.args.out.now c.in_ok-accept_list.ensures in omega (arith, w.byte_each, c.ranges, not_above 9 _ _ (omega arith) c.in_ok-refuse_unless.ensures)

pub returns-in_err-refuse_unless-2 : goal.returns-in_err-refuse_unless-2
returns-in_err-refuse_unless-2 c =
    let p = err_from_is_err_and c.from_residual-in_err-refuse_unless-2.result c.from_residual-in_err-refuse_unless-2.ensures.1 in
    let w = too_large c.args.count (handed_list c.args.list.now) c.args.out.now c.in_ok-accept_list.ensures _ c.in_err-refuse_unless-2.ensures in
    record { answer = rw (p.1, p.2) w.answer; lent = w.lent }

pub returns-in_err-refuse_unless-3 : goal.returns-in_err-refuse_unless-3
returns-in_err-refuse_unless-3 c =
    let p = err_from_is_err_and c.from_residual-in_err-refuse_unless-3.result c.from_residual-in_err-refuse_unless-3.ensures.1 in
    let w = short c.args.count (handed_list c.args.list.now) c.args.out.now c.in_ok-accept_list.ensures c.in_ok-refuse_unless-2.ensures _ c.in_err-refuse_unless-3.ensures in
    record { answer = rw (p.1, p.2) w.answer; lent = w.lent }

pub put_fts-requires : goal.put_fts-requires
put_fts-requires c =
    let w = whole_rows c.args.count (handed_list c.args.list.now) c.args.out.now c.in_ok-accept_list.ensures in
    (w.chunk_each, w.layer_each, w.bytes_each, omega (arith, c.put_kps.auto.out, not_above 11 _ _ (omega arith) c.in_ok-refuse_unless-3.ensures))

pub returns : goal.returns
returns c =
    let room = c.in_ok-refuse_unless-3.ensures in
    let w = wrote c.args.count (handed_list c.args.list.now) c.args.out.now c.in_ok-accept_list.ensures c.in_ok-refuse_unless-2.ensures room (not_above 11 _ _ (omega arith) room) _ _ _ c.put_kps.ensures c.put_fts.ensures c.put.ensures in
    record { answer = w.answer; lent = w.lent }
