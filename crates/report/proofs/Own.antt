-- The plan's own list as four slices: its rows again, their bytes, and that each row has a place in
-- the table. Assumes nothing.
use Prim.Native.Nat.{ℕ, zero, suc, ◌<◌}
use mathlib.Core.Path.{◌≡◌, sym, ap, ◌∙◌}
use mathlib.Core.List.{List, [], ◌∷◌, map}
use native.Mathlib.Omega.{arith}
use lib.ListN.{length, get_or, length-map, get_or-map}
use Rattle.theory_basics.specs.Tests.{All}
use Rattle.theory_basics.specs.Sums.{sum}
use Rattle.job.specs.Job.{Job, Accepted}
use Rattle.fetch.specs.Rows.{Row, row_slot, row_chunk, row_layer, row_bytes}
use Rattle.fetch.specs.Rules.{RowInRange}
use Rattle.theory_plan.proofs.Theorems.{plan_keeps}
use Rattle.theory_plan.proofs.PlanRows.{plan_rows_few}
use Rattle.planner.specs.Answer.{plan_rows}
use Rattle.report.specs.Report.{bytes_in_rows}
use Rattle.report.specs.lemmas.Again.{rows_again}
use Rattle.report.specs.lemmas.Tables.{Rows}
use Rattle.report.proofs.ByTable.{spent_is}

abbrev none : Row
none = record { slot = 0; chunk = 0; layer = 0; bytes = 0 }

row_at_lem : (P : Row → Type 0) (l : List Row) (k : ℕ) → All P l → k < length l → P (get_or l k none)
row_at_lem P [] k a h = absurd (omega arith)
row_at_lem P (x ∷ l) zero a h = a.0
row_at_lem P (x ∷ l) (suc k) a h = row_at_lem P l k a.1 (omega arith)

-- The sum of the slice of bytes.
pub spent_again : (l : List Row) → sum (λ k. get_or (map row_bytes l) k 0) (length (map row_bytes l)) ≡ bytes_in_rows l
spent_again l =
    spent_is (map row_slot l) (map row_chunk l) (map row_layer l) (map row_bytes l) (length-map l row_slot ∙ sym (length-map l row_bytes))
    ∙ ap bytes_in_rows (rows_again l)

module _ {j : Job} (a : Accepted j) where
  -- Each of its rows has a place in the table.
  pub own_rows : Rows (map row_slot (plan_rows j)) (map row_chunk (plan_rows j)) (map row_layer (plan_rows j)) (map row_bytes (plan_rows j))
  own_rows =
      let l = plan_rows j in
      let at : (k : ℕ) → k < length (map row_slot l) → RowInRange j (get_or l k none) = λ k h. row_at_lem (RowInRange j) l k (plan_keeps j a).in_range_lem (omega (arith, length-map l row_slot)) in
      record {
        chunk_each = length-map l row_slot ∙ sym (length-map l row_chunk);
        layer_each = length-map l row_slot ∙ sym (length-map l row_layer);
        bytes_each = length-map l row_slot ∙ sym (length-map l row_bytes);
        few = omega (arith, length-map l row_slot, plan_rows_few j a);
        chunk_low = λ k h. rw (get_or-map row_chunk l k none) (at k h).chunk_low;
        chunk_high = λ k h. rw (get_or-map row_chunk l k none) (omega (arith, (at k h).chunk_high, a.chunks_in.high));
        layer_in = λ k h. rw (get_or-map row_layer l k none) (omega (arith, (at k h).layer_in, a.layers_in.high));
      }
