-- `put_line` meets its contract: the sentence is that of the line. Assumes nothing.
use mathlib.Core.Path.{◌∙◌}
use native.Mathlib.Omega.{arith}
use Rattle.core_reasons.proofs.Lines.{cap_most, lower_done, lower_room, short_done, short_room}
use Rattle.core_reasons.proofs.put_line.Goals as goal

pub find_short-s-requires : goal.find_short-s-requires
find_short-s-requires c =
    let o = c.requires in
    let t = o.tables in
    record {
      few = t.few;
      late = t.late;
      ends = t.ends;
      held_is = t.held_is;
      layer = o.layer;
      cap_in = omega (arith, c.cap_of-cap.ensures, cap_most c.args.most c.args.n o.layer);
      forecasts = t.forecasts;
    }

pub put_short-requires : goal.put_short-requires
put_short-requires c =
    let a = c.args in
    let o = c.requires in
    let x = rw c.cap_of-cap.ensures at c.find_short-s.ensures in
    short_room a.p a.most a.sums.now a.after.now a.levels.now a.i a.n o.chunk_low o.chunk_high o.job o.plan o.facts o.in_job a.at a.out.now o.room (c.if-n-have.true ∙ o.have_is) c.find_short-s.result x

pub returns-then-n-have : goal.returns-then-n-have
returns-then-n-have c =
    let a = c.args in
    let o = c.requires in
    let x = rw c.cap_of-cap.ensures at c.find_short-s.ensures in
    short_done a.p a.most a.sums.now a.after.now a.levels.now a.i a.n o.chunk_low o.chunk_high a.out.now a.at _ _ (c.if-n-have.true ∙ o.have_is) c.find_short-s.result x c.put_short.ensures

pub put_lower-requires : goal.put_lower-requires
put_lower-requires c =
    let a = c.args in
    let o = c.requires in
    lower_room a.p a.most a.sums.now a.after.now a.levels.now a.i a.n o.chunk_low o.chunk_high o.job o.plan o.facts a.at a.out.now o.room (omega (arith, o.missing, o.have_is))

pub returns-else-n-have : goal.returns-else-n-have
returns-else-n-have c =
    let a = c.args in
    let o = c.requires in
    lower_done a.p a.most a.sums.now a.after.now a.levels.now a.i a.n o.chunk_low o.chunk_high a.out.now a.at _ _ (omega (arith, o.missing, o.have_is)) c.put_lower.ensures
