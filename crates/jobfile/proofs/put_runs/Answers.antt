use Rattle.std.proofs.Common.{arith}
use Rattle.jobfile.specs.lemmas.Runs.{run_inside}
use Rattle.jobfile.proofs.Queues.{run_fits, run_more}
use Rattle.jobfile.proofs.put_runs.Goals as goal

pub overflow_cast-end : goal.overflow_cast-end
overflow_cast-end c = omega (arith, c.run_end-end.ensures, run_inside c.args.forecast.now c.loop-i.i c.loop-i-test.true, c.requires.few_slots)

pub put_run-next-requires : goal.put_run-next-requires
put_run-next-requires c = let a = c.args in let l = c.loop-i in run_fits a.out.now a.at a.forecast.now c.requires.room l.i l.out l.next l.invariant.puts c.loop-i-test.true

pub loop-i-preserved : goal.loop-i-preserved
loop-i-preserved c =
    let a = c.args in
    let l = c.loop-i in
    let end = c.run_end-end.ensures in record {
      inside = omega (arith, end, run_inside a.forecast.now l.i c.loop-i-test.true);
      puts = run_more a.out.now a.at a.forecast.now c.requires.room l.i l.out l.next l.invariant.puts c.loop-i-test.true c.run_end-end.result end _ _ c.put_run-next.ensures;
    }
