use Rattle.std.proofs.Common.{arith}
use Rattle.std.proofs.lemmas.Result.{err_from_is_err_and}
use Rattle.job.specs.Handed.{handed}
use Rattle.jobfile.proofs.Writes.{output_refused, whole, good, few_bytes, output_short, output_fits, output_file}
use Rattle.jobfile.proofs.write_job.Goals as goal

pub returns-in_err-accept : goal.returns-in_err-accept
returns-in_err-accept c =
    let p = err_from_is_err_and c.from_residual.result c.from_residual.ensures.1 in
    rw (p.1, p.2) (output_refused (handed c.args.job.now) c.args.out.now _ c.in_err-accept.ensures)

pub overflow_mul-sizes-2 : goal.overflow_mul-sizes-2
overflow_mul-sizes-2 c = omega (arith, few_bytes (handed c.args.job.now) c.args.out.now c.in_ok-accept.ensures)

pub overflow_add-sizes : goal.overflow_add-sizes
overflow_add-sizes c = omega (arith, few_bytes (handed c.args.job.now) c.args.out.now c.in_ok-accept.ensures)

pub overflow_add-bytes : goal.overflow_add-bytes
overflow_add-bytes c = omega (arith, few_bytes (handed c.args.job.now) c.args.out.now c.in_ok-accept.ensures)

pub overflow_mul-bytes : goal.overflow_mul-bytes
overflow_mul-bytes c = omega (arith, few_bytes (handed c.args.job.now) c.args.out.now c.in_ok-accept.ensures, c.count_runs.ensures)

pub overflow_add-bytes-2 : goal.overflow_add-bytes-2
overflow_add-bytes-2 c = omega (arith, few_bytes (handed c.args.job.now) c.args.out.now c.in_ok-accept.ensures, c.count_runs.ensures)

pub returns-in_err-refuse_unless : goal.returns-in_err-refuse_unless
returns-in_err-refuse_unless c =
    let p = err_from_is_err_and c.from_residual-in_err-refuse_unless.result c.from_residual-in_err-refuse_unless.ensures.1 in
    rw (p.1, p.2) (output_short (handed c.args.job.now) c.args.out.now c.in_ok-accept.ensures c.count_runs.result c.count_runs.ensures _ c.in_err-refuse_unless.ensures)

pub put_job-requires-clause-whole_sizes : goal.put_job-requires-clause-whole_sizes
put_job-requires-clause-whole_sizes c = whole (handed c.args.job.now) c.args.out.now c.in_ok-accept.ensures

pub put_job-requires-clause-room : goal.put_job-requires-clause-room
put_job-requires-clause-room c = output_fits (handed c.args.job.now) c.args.out.now c.in_ok-accept.ensures c.count_runs.result c.count_runs.ensures c.in_ok-refuse_unless.ensures

pub put_job-requires-clause-few_slots : goal.put_job-requires-clause-few_slots
put_job-requires-clause-few_slots c = let g = good (handed c.args.job.now) c.args.out.now c.in_ok-accept.ensures in omega (arith, g.slots_in, g.last_in)

pub returns : goal.returns
returns c =
    let h = handed c.args.job.now in
    let none = c.in_ok-accept.ensures in
    output_file h c.args.out.now none (output_fits h c.args.out.now none c.count_runs.result c.count_runs.ensures c.in_ok-refuse_unless.ensures) _ _ c.put_job.ensures
