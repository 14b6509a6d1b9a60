use Prim.Native.Nat.{◌-◌}
use native.Mathlib.Omega.{arith}
use Rattle.core_sizes.specs.Table.{table_at}
use Rattle.theory_plan.specs.lemmas.Words.{due_by}
use Rattle.core_search.proofs.Found.{chunk_at_lem, placing_start}
use Rattle.core_search.proofs.set_bases.Goals as goal

pub loop-q-init : goal.loop-q-init
loop-q-init c = let a = c.args in placing_start a.p (table_at a.table.now) a.first a.ids.now a.dues.now a.bytes.now c.requires

pub overflow_cast-dues : goal.overflow_cast-dues
overflow_cast-dues c =
    let a = c.args in
    let k = chunk_at_lem a.p (table_at a.table.now) a.first a.ids.now c.requires (c.loop-q.q - 1) (omega arith) (omega arith) in
    omega (arith, due_by a.p _ k.high, c.requires.ends)

pub size_in-requires : goal.size_in-requires
size_in-requires c =
    let a = c.args in
    let k = chunk_at_lem a.p (table_at a.table.now) a.first a.ids.now c.requires (c.loop-q.q - 1) (omega arith) (omega arith) in
    (record { low = k.low; high = omega (arith, k.high, c.requires.few) }, omega arith)
