use native.Mathlib.Omega.{arith}
use Rattle.theory_basics.specs.Text.{digits}
use Rattle.trace.proofs.Repeats.{doubling_start, doubling_more, doubling_end, none_put, first_fits, out_long, apart, copy_fits}
use Rattle.trace.proofs.repeated.put_lines.Goals as goal

pub returns-then-count-lt1 : goal.returns-then-count-lt1
returns-then-count-lt1 c = let a = c.args in none_put a.out.now a.at (digits a.time) a.count c.if-count-lt1.true

pub put_line-next-requires : goal.put_line-next-requires
put_line-next-requires c = let a = c.args in first_fits a.out.now a.at (digits a.time) a.count c.requires c.if-count-lt1.false

pub loop-made-init : goal.loop-made-init
loop-made-init c =
    let a = c.args in
    let o = c.put_line-next in
    doubling_start a.out.now a.at (digits a.time) a.count c.requires o.new.out o.result c.if-count-lt1.false o.ensures

pub overflow_mul-more : goal.overflow_mul-more
overflow_mul-more c =
    let a = c.args in
    let o = c.put_line-next in
    let l = c.loop-made in
    rw c.min-more.ensures (omega (arith, copy_fits a.out.now a.at (digits a.time) a.count c.requires o.new.out o.result c.if-count-lt1.false o.ensures l.out l.next l.made l.invariant c.loop-made-test.true, out_long a.out.now a.at (digits a.time) a.count c.requires o.new.out o.result c.if-count-lt1.false o.ensures l.out l.next l.made l.invariant, c.well_formed))

pub copy_on-next-requires : goal.copy_on-next-requires
copy_on-next-requires c =
    let a = c.args in
    let o = c.put_line-next in
    let l = c.loop-made in
    rw c.min-more.ensures (apart a.out.now a.at (digits a.time) a.count c.requires o.new.out o.result c.if-count-lt1.false o.ensures l.out l.next l.made l.invariant c.loop-made-test.true, copy_fits a.out.now a.at (digits a.time) a.count c.requires o.new.out o.result c.if-count-lt1.false o.ensures l.out l.next l.made l.invariant c.loop-made-test.true)

pub loop-made-preserved : goal.loop-made-preserved
loop-made-preserved c =
    let a = c.args in
    let o = c.put_line-next in
    let l = c.loop-made in
    rw c.min-more.ensures
    (doubling_more a.out.now a.at (digits a.time) a.count c.requires o.new.out o.result c.if-count-lt1.false o.ensures l.out l.next l.made l.invariant c.loop-made-test.true c.copy_on-next.new.out c.copy_on-next.result (rw c.min-more.ensures at c.copy_on-next.ensures))

pub returns : goal.returns
returns c =
    let a = c.args in
    let o = c.put_line-next in
    let l = c.loop-made in
    doubling_end a.out.now a.at (digits a.time) a.count c.requires o.new.out o.result c.if-count-lt1.false o.ensures l.out l.next l.made l.invariant c.loop-made-test.false
