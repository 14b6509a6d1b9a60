-- Meaning. What the room that a job reader is lent holds.
use Rattle.std.specs.Prelude.{◌≡◌}
use Rattle.jobrecords.specs.declared.LentJob.{LentJob}
use Rattle.jobrecords.specs.Reader.{Buffers, buffers}

abbrev pub lent_job : LentJob → Buffers
lent_job l = buffers l.sizes.now l.chunks.now l.layers.now l.bytes.now l.forecast.now

-- After a call the room still is the caller's five buffers.
pub record SameBuffers (old new : LentJob) : Type 0 where
  pub sizes : new.sizes.ghost_name ≡ old.sizes.ghost_name
  pub chunks : new.chunks.ghost_name ≡ old.chunks.ghost_name
  pub layers : new.layers.ghost_name ≡ old.layers.ghost_name
  pub bytes : new.bytes.ghost_name ≡ old.bytes.ghost_name
  pub forecast : new.forecast.ghost_name ≡ old.forecast.ghost_name
