-- Meaning. What the lent slices of a call hand on: the slot, the rows fetched before it, and the
-- forecast from it on.
use Rattle.std.specs.Prelude.{ℕ, List}
use Rattle.fetch.specs.declared.handed.Rows.{Rows}
use Rattle.replan.specs.Answer.{ReplanInput, replan_input}

abbrev pub handed_on : ℕ → Rows → List ℕ → ReplanInput
handed_on from rows onward = replan_input from rows.slots.now rows.chunks.now rows.layers.now rows.bytes.now onward
