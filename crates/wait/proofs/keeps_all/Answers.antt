use native.Mathlib.Omega.{arith}
use Rattle.wait.proofs.Passes.{passing_start, passing_end, passing_large, passing_held, passing_more, due_in}
use Rattle.wait.proofs.keeps_all.Goals as goal

pub loop-q-init : goal.loop-q-init
loop-q-init c = let a = c.args in passing_start a.pass.now.chunks a.pass.now.span a.pass.now.held a.s a.pass.now.bases.now a.pass.now.sums.now a.begins.now c.requires c.told-begins

pub overflow_mul-due : goal.overflow_mul-due
overflow_mul-due c =
    let a = c.args in
    let l = c.loop-q in
    omega (arith, c.requires.reach, due_in a.pass.now.chunks a.pass.now.span a.s l.invariant.inside)

pub overflow_add-due : goal.overflow_add-due
overflow_add-due c =
    let a = c.args in
    let l = c.loop-q in
    omega (arith, c.requires.reach, due_in a.pass.now.chunks a.pass.now.span a.s l.invariant.inside)

pub offset_bounds-sums-due : goal.offset_bounds-sums-due
offset_bounds-sums-due c =
    let a = c.args in
    let l = c.loop-q in
    omega (arith, c.requires.reach, due_in a.pass.now.chunks a.pass.now.span a.s l.invariant.inside)

pub bounds-sums-due : goal.bounds-sums-due
bounds-sums-due c =
    let a = c.args in
    let l = c.loop-q in
    omega (arith, c.requires.reach, due_in a.pass.now.chunks a.pass.now.span a.s l.invariant.inside)

pub returns-then-by-size : goal.returns-then-by-size
returns-then-by-size c =
    let a = c.args in
    let l = c.loop-q in
    passing_large a.pass.now.chunks a.pass.now.span a.pass.now.held a.s a.pass.now.bases.now a.pass.now.sums.now l.begins l.begin l.q l.invariant a.begins.now c.requires c.loop-q-test.true (rw (c.min-by.ensures, c.from-size.ensures) at c.if-by-size.true)

pub offset_bounds-sums-before : goal.offset_bounds-sums-before
offset_bounds-sums-before c =
    let a = c.args in
    let l = c.loop-q in
    omega (arith, c.requires.reach, due_in a.pass.now.chunks a.pass.now.span a.s l.invariant.inside)

pub bounds-sums-before : goal.bounds-sums-before
bounds-sums-before c =
    let a = c.args in
    let l = c.loop-q in
    omega (arith, c.requires.reach, due_in a.pass.now.chunks a.pass.now.span a.s l.invariant.inside)

pub returns-then-begins-back : goal.returns-then-begins-back
returns-then-begins-back c =
    let a = c.args in
    let l = c.loop-q in
    rw (c.min-by.ensures, c.from-size.ensures)
    (passing_held a.pass.now.chunks a.pass.now.span a.pass.now.held a.s a.pass.now.bases.now a.pass.now.sums.now l.begins l.begin l.q l.invariant a.begins.now c.requires c.loop-q-test.true (rw (c.min-by.ensures, c.from-size.ensures) at c.if-by-size.false) (rw (c.min-by.ensures, c.from-size.ensures) at c.if-begins-back.true))

pub loop-q-preserved : goal.loop-q-preserved
loop-q-preserved c =
    let a = c.args in
    let l = c.loop-q in
    rw (c.min-by.ensures, c.from-size.ensures)
    (passing_more a.pass.now.chunks a.pass.now.span a.pass.now.held a.s a.pass.now.bases.now a.pass.now.sums.now l.begins l.begin l.q l.invariant a.begins.now c.requires c.loop-q-test.true (rw (c.min-by.ensures, c.from-size.ensures) at c.if-by-size.false) (rw (c.min-by.ensures, c.from-size.ensures) at c.if-begins-back.false))

pub returns : goal.returns
returns c =
    let a = c.args in
    let l = c.loop-q in
    passing_end a.pass.now.chunks a.pass.now.span a.pass.now.held a.s a.pass.now.bases.now a.pass.now.sums.now l.begins l.begin l.q l.invariant a.begins.now c.requires c.loop-q-test.false
