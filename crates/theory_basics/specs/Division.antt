-- Meaning. Whole quotients rounded up.
use Rattle.std.specs.Prelude.{ℕ, ◌+◌, ◌-◌, ◌/◌}

-- x / z rounded up, for z of at least 1: the least n with x ≤ n × z, which the lemma
-- `divided_up_iff` says.
abbrev pub divided_up : ℕ → ℕ → ℕ
divided_up x z = (x + (z - 1)) / z
