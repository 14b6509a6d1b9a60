-- `search` meets its contract. The laws of Laws say what each way of a turn leads to; where both
-- ways of the keep meet, `both` says what they have in common.
use Rattle.std.proofs.Common.{arith}
use native.Mathlib.Nat.{pos_of_ne-zero}
use Rattle.core_sizes.specs.Table.{table_at}
use Rattle.core_search.proofs.Laws.{Turn, kept_turn_lem, no_skip, refused_turn, skip_done, skip_from}
use Rattle.core_search.proofs.+search.Goals as goal
use Rattle.core_search.proofs.+search.Goals.{then-can_keep, else-can_keep}

pub returns-then-rest-lt2 : goal.returns-then-rest-lt2
returns-then-rest-lt2 t c =
    let f = c.requires in
    let some = pos_of_ne-zero c.if-i-eq0.false in
    let enough = c.if-left-lt2.false in
    let both : Turn c.args.i c.args.first c.args.held (table_at c.args.table.now) c.args.dues.now c.args.after.now c.args.ids.now c.args.needs.now c.args.best.now c.args.count.now c.args.left c.if-can_keep.ids c.if-can_keep.needs c.if-can_keep.best c.if-can_keep.count c.if-can_keep.rest =
    elim c.if-can_keep.branch [
      | then-can_keep w ↦
          rw (w.ids-is, w.needs-is, w.best-is, w.count-is, w.rest-is)
          (kept_turn_lem f c.args.left some enough c.can_keep.ensures w.if-can_keep.true w.keep_best.ensures w.search-rest.ensures)
      | else-can_keep w ↦
          rw (w.ids-is, w.needs-is, w.best-is, w.count-is, w.rest-is)
          (refused_turn f c.args.left some enough c.can_keep.ensures w.if-can_keep.false)
    ]
    in
    no_skip f c.args.left some enough both c.if-rest-lt2.true

pub search-requires : goal.search-requires
search-requires t c =
    let f = c.requires in
    let some = pos_of_ne-zero c.if-i-eq0.false in
    let enough = c.if-left-lt2.false in
    let both : Turn c.args.i c.args.first c.args.held (table_at c.args.table.now) c.args.dues.now c.args.after.now c.args.ids.now c.args.needs.now c.args.best.now c.args.count.now c.args.left c.if-can_keep.ids c.if-can_keep.needs c.if-can_keep.best c.if-can_keep.count c.if-can_keep.rest =
    elim c.if-can_keep.branch [
      | then-can_keep w ↦
          rw (w.ids-is, w.needs-is, w.best-is, w.count-is, w.rest-is)
          (kept_turn_lem f c.args.left some enough c.can_keep.ensures w.if-can_keep.true w.keep_best.ensures w.search-rest.ensures)
      | else-can_keep w ↦
          rw (w.ids-is, w.needs-is, w.best-is, w.count-is, w.rest-is)
          (refused_turn f c.args.left some enough c.can_keep.ensures w.if-can_keep.false)
    ]
    in
    (omega arith, skip_from f c.args.left some enough both c.if-rest-lt2.false)

pub returns : goal.returns
returns t c =
    let f = c.requires in
    let some = pos_of_ne-zero c.if-i-eq0.false in
    let enough = c.if-left-lt2.false in
    let both : Turn c.args.i c.args.first c.args.held (table_at c.args.table.now) c.args.dues.now c.args.after.now c.args.ids.now c.args.needs.now c.args.best.now c.args.count.now c.args.left c.if-can_keep.ids c.if-can_keep.needs c.if-can_keep.best c.if-can_keep.count c.if-can_keep.rest =
    elim c.if-can_keep.branch [
      | then-can_keep w ↦
          rw (w.ids-is, w.needs-is, w.best-is, w.count-is, w.rest-is)
          (kept_turn_lem f c.args.left some enough c.can_keep.ensures w.if-can_keep.true w.keep_best.ensures w.search-rest.ensures)
      | else-can_keep w ↦
          rw (w.ids-is, w.needs-is, w.best-is, w.count-is, w.rest-is)
          (refused_turn f c.args.left some enough c.can_keep.ensures w.if-can_keep.false)
    ]
    in
    skip_done f c.args.left some enough both c.if-rest-lt2.false c.search.ensures
