use Rattle.std.specs.Prelude.{map}
use Rattle.job.specs.Handed.{handed}
use Rattle.job.specs.Input.{job_in}
use Rattle.jobrecords.specs.declared.Record.TheVariants.{Pg}
use Rattle.jobrecords.specs.Records.{EN, encode}
use Rattle.jobfile.specs.Writer.{runs, layer_record, override_record, run_record, job_file}
use Rattle.jobfile.specs.lemmas.Puts.{records_bytes}
use Rattle.jobfile.proofs.Writes.{file_parts, first_room, second_room, third_room, fourth_room, last_room, all_parts}
use Rattle.jobfile.proofs.put_job.Goals as goal

pub put_programme-layers-requires : goal.put_programme-layers-requires
put_programme-layers-requires c =
    let job = c.args.job.now in
    let j = job_in (handed job) in
    first_room (job_file j) (encode (Pg job.programme)) (records_bytes (map layer_record job.sizes.now)) (records_bytes (map override_record j.overrides)) (records_bytes (map run_record (runs job.forecast.now))) EN (file_parts j) c.args.out.now c.requires.room

pub put_layers-overrides-requires : goal.put_layers-overrides-requires
put_layers-overrides-requires c =
    let job = c.args.job.now in
    let j = job_in (handed job) in
    second_room (job_file j) (encode (Pg job.programme)) (records_bytes (map layer_record job.sizes.now)) (records_bytes (map override_record j.overrides)) (records_bytes (map run_record (runs job.forecast.now))) EN (file_parts j) c.args.out.now c.requires.room _ _ c.put_programme-layers.ensures

pub put_overrides-runs-requires-clause-room : goal.put_overrides-runs-requires-clause-room
put_overrides-runs-requires-clause-room c =
    let job = c.args.job.now in
    let j = job_in (handed job) in
    third_room (job_file j) (encode (Pg job.programme)) (records_bytes (map layer_record job.sizes.now)) (records_bytes (map override_record j.overrides)) (records_bytes (map run_record (runs job.forecast.now))) EN (file_parts j) c.args.out.now c.requires.room _ _ c.put_programme-layers.ensures _ _ c.put_layers-overrides.ensures

pub put_runs-end-requires-clause-room : goal.put_runs-end-requires-clause-room
put_runs-end-requires-clause-room c =
    let job = c.args.job.now in
    let j = job_in (handed job) in
    fourth_room (job_file j) (encode (Pg job.programme)) (records_bytes (map layer_record job.sizes.now)) (records_bytes (map override_record j.overrides)) (records_bytes (map run_record (runs job.forecast.now))) EN (file_parts j) c.args.out.now c.requires.room _ _ c.put_programme-layers.ensures _ _ c.put_layers-overrides.ensures _ _ c.put_overrides-runs.ensures

pub put_bytes-requires : goal.put_bytes-requires
put_bytes-requires c =
    let job = c.args.job.now in
    let j = job_in (handed job) in
    last_room (job_file j) (encode (Pg job.programme)) (records_bytes (map layer_record job.sizes.now)) (records_bytes (map override_record j.overrides)) (records_bytes (map run_record (runs job.forecast.now))) EN (file_parts j) c.args.out.now c.requires.room _ _ c.put_programme-layers.ensures _ _ c.put_layers-overrides.ensures _ _ c.put_overrides-runs.ensures _ _ c.put_runs-end.ensures

pub returns : goal.returns
returns c =
    let job = c.args.job.now in
    let j = job_in (handed job) in
    all_parts (job_file j) (encode (Pg job.programme)) (records_bytes (map layer_record job.sizes.now)) (records_bytes (map override_record j.overrides)) (records_bytes (map run_record (runs job.forecast.now))) EN (file_parts j) c.args.out.now c.requires.room _ _ c.put_programme-layers.ensures _ _ c.put_layers-overrides.ensures _ _ c.put_overrides-runs.ensures _ _ c.put_runs-end.ensures _ _ c.put_bytes.ensures
