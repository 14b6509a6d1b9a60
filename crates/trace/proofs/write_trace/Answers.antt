-- `trace::write_trace` meets its contract. Assumes nothing.
use native.Mathlib.Omega.{arith}
use Rattle.std.proofs.Common.{ℕ, ◌<◌, ◌≤◌, ◌≡◌, Bool, true, false, rules, tests}
use Rattle.std.specs.Bool.{◌==◌}
use Rattle.trace.proofs.Writes.{wrote_none, wrote_many, wrote_odd, wrote_short, wrote_done, width_all}
use Rattle.trace.proofs.write_trace.Goals as goal
use Rattle.trace.proofs.write_trace.Goals.{then-is_empty-via-then-is_empty, then-is_empty-via-else-is_empty+then-forecast-gt-SLOTS}

empty : {n : ℕ} (r : Bool) → r ≡ (n == 0) → r ≡ true → n < 1
empty r is e = search (rules, tests)

some : {n : ℕ} (r : Bool) → r ≡ (n == 0) → r ≡ false → 1 ≤ n
some r is e = search (rules, tests)

pub returns-then-is_empty : goal.returns-then-is_empty
returns-then-is_empty c =
    let a = c.args in
    elim c.then-is_empty.branch [
      | then-is_empty-via-then-is_empty w ↦ wrote_none a.forecast.now a.out.now (empty c.is_empty.result c.is_empty.ensures w.if-is_empty.true)
      | then-is_empty-via-else-is_empty+then-forecast-gt-SLOTS w ↦ wrote_many a.forecast.now a.out.now w.if-forecast-gt-SLOTS.true
    ]

pub returns-then-not-all_writable : goal.returns-then-not-all_writable
returns-then-not-all_writable c =
    let a = c.args in
    let m = c.all_writable in
    wrote_odd a.forecast.now a.out.now (some c.is_empty.result c.is_empty.ensures c.if-is_empty.false) c.if-forecast-gt-SLOTS.false m.result m.ensures c.if-not-all_writable.true

pub returns-then-out-width : goal.returns-then-out-width
returns-then-out-width c =
    let a = c.args in
    let m = c.all_writable in
    let w = c.width in
    wrote_short a.forecast.now a.out.now (some c.is_empty.result c.is_empty.ensures c.if-is_empty.false) c.if-forecast-gt-SLOTS.false m.result m.ensures c.if-not-all_writable.false w.result w.ensures c.if-out-width.true

pub put_trace-requires : goal.put_trace-requires
put_trace-requires c =
    let a = c.args in
    let m = c.all_writable in
    let w = c.width in
    (c.if-forecast-gt-SLOTS.false, omega (arith, c.if-out-width.false, width_all a.forecast.now a.out.now (some c.is_empty.result c.is_empty.ensures c.if-is_empty.false) c.if-forecast-gt-SLOTS.false m.result m.ensures c.if-not-all_writable.false w.result w.ensures))

pub returns : goal.returns
returns c =
    let a = c.args in
    let m = c.all_writable in
    let w = c.width in
    let o = c.put_trace in
    wrote_done a.forecast.now a.out.now (some c.is_empty.result c.is_empty.ensures c.if-is_empty.false) c.if-forecast-gt-SLOTS.false m.result m.ensures c.if-not-all_writable.false w.result w.ensures c.if-out-width.false o.new.out o.result o.ensures
