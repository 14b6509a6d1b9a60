-- Lemmas. What the record reader answers past the end of a file. Assumes nothing.
use Rattle.std.specs.Prelude.{ℕ, ◌<◌, ◌≡◌, List, length, Err}
use Rattle.std.proofs.Common.{arith, drop_of_length-le}
use Rattle.planfile.specs.Records.{front, read_at}

pub past_end : (s : List ℕ) (at : ℕ) → length s < at → Err 1 ≡ read_at s at
unfolding front
past_end s at l = rw (drop_of_length-le s {i = at} (omega arith))
