use native.Mathlib.Omega.{arith}
use mathlib.Core.Path.{◌≡◌}
use Prim.Native.Nat.{◌+◌, ◌-◌}
use Rattle.theory_plan.specs.lemmas.Words.{due_by}
use Rattle.core_reasons.proofs.SetTables.{setting_start, setting_pass, setting_keep, setting_end}
use Rattle.core_reasons.proofs.stretch.set_tables.Goals as goal

pub loop-k-init : goal.loop-k-init
loop-k-init c =
    let a = c.args in
    let e : a.p.chunks + 1 - 1 ≡ a.p.chunks = omega arith in
    rw e (setting_start a.p a.sums.now a.levels.now a.i a.n a.cap a.dues.now a.bytes.now c.requires.few c.told-dues c.told-bytes)

pub level_of-m-requires : goal.level_of-m-requires
level_of-m-requires c = (omega arith, omega (arith, c.loop-k.invariant.left, c.requires.few), c.requires.layer)

pub overflow_cast-dues : goal.overflow_cast-dues
overflow_cast-dues c = omega (arith, c.due_slot.ensures, due_by c.args.p (c.loop-k.k - 1) c.loop-k.invariant.left, c.requires.ends)

pub loop-k-preserved-then-m-gt0 : goal.loop-k-preserved-then-m-gt0
loop-k-preserved-then-m-gt0 c =
    let l = c.loop-k in
    let a = c.args in
    let m = c.level_of-m.ensures in
    rw (c.due_slot.ensures, m)
    (setting_keep a.p a.sums.now a.levels.now a.i a.n a.cap l.dues l.bytes l.first (l.k - 1) l.invariant (omega (arith, c.loop-k-test.true)) c.requires.few (rw m at c.if-m-gt0.true))

pub loop-k-preserved : goal.loop-k-preserved
loop-k-preserved c =
    let l = c.loop-k in
    let a = c.args in
    setting_pass a.p a.sums.now a.levels.now a.i a.n a.cap l.dues l.bytes l.first (l.k - 1) l.invariant (omega (arith, c.loop-k-test.true)) c.requires.few (rw c.level_of-m.ensures at c.if-m-gt0.false)

pub returns : goal.returns
returns c =
    let l = c.loop-k in
    let a = c.args in
    setting_end a.p a.sums.now a.levels.now a.i a.n a.cap l.dues l.bytes l.first (l.k - 1) l.invariant (omega arith)
