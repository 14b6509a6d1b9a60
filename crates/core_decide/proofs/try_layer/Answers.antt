use Rattle.std.proofs.Common.{◌≡◌, sym, ◌∙◌, ◌-◌, max, get_or, arith}
use Rattle.core_sizes.specs.Table.{table_at}
use Rattle.theory_plan.specs.lemmas.Parts.{at}
use Rattle.core_decide.proofs.Trials.{backing_start, backing_pass, backing_take, bytes_small, chunk_in, due_in}
use Rattle.core_decide.proofs.try_layer.Goals as goal

pub loop-k-init : goal.loop-k-init
loop-k-init c = let a = c.args in backing_start (table_at a.table.now) a.n a.after.now a.ids.now a.dues.now a.room.now a.first a.bytes.now a.mark.now c.requires

pub size_in-z-requires : goal.size_in-z-requires
size_in-z-requires c =
    let a = c.args in
    let l = c.loop-k in
    (chunk_in (table_at a.table.now) a.n a.after.now a.ids.now a.dues.now a.room.now a.first a.bytes.now a.mark.now c.requires l.bytes l.mark l.need l.k l.invariant c.loop-k-test.true, omega arith)

pub bounds-after-dues : goal.bounds-after-dues
bounds-after-dues c = let a = c.args in let l = c.loop-k in omega (arith, due_in (table_at a.table.now) a.n a.after.now a.ids.now a.dues.now a.room.now a.first a.bytes.now a.mark.now c.requires l.bytes l.mark l.need l.k l.invariant c.loop-k-test.true)

pub overflow_add-bytes : goal.overflow_add-bytes
overflow_add-bytes c = let a = c.args in let l = c.loop-k in omega (arith, bytes_small (table_at a.table.now) a.n a.after.now a.ids.now a.dues.now a.room.now a.first a.bytes.now a.mark.now c.requires l.bytes l.mark l.need l.k l.invariant c.loop-k-test.true, c.requires.small (get_or a.ids.now (l.k - 1) 0) a.n)

pub loop-k-preserved-then-takes : goal.loop-k-preserved-then-takes
loop-k-preserved-then-takes c =
    let a = c.args in
    let l = c.loop-k in
    let z = c.size_in-z.ensures in
    let m : c.max.result ≡ max (at a.after.now (get_or a.dues.now (l.k - 1) 0)) l.need = c.max.ensures in
    rw (z, c.with.ensures, m) (backing_take (table_at a.table.now) a.n a.after.now a.ids.now a.dues.now a.room.now a.first a.bytes.now a.mark.now c.requires l.bytes l.mark l.need l.k l.invariant c.loop-k-test.true (sym (rw (m, z) at c.takes.ensures) ∙ c.if-takes.true))

pub loop-k-preserved : goal.loop-k-preserved
loop-k-preserved c =
    let a = c.args in
    let l = c.loop-k in
    let m : c.max.result ≡ max (at a.after.now (get_or a.dues.now (l.k - 1) 0)) l.need = c.max.ensures in
    rw m (backing_pass (table_at a.table.now) a.n a.after.now a.ids.now a.dues.now a.room.now a.first a.bytes.now a.mark.now c.requires l.bytes l.mark l.need l.k l.invariant c.loop-k-test.true (sym (rw (m, c.size_in-z.ensures) at c.takes.ensures) ∙ c.if-takes.false))
