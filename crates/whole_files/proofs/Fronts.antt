-- Laws on the front of a buffer that a result was put into, and on the fronts of room for a list.
-- Assumes nothing.
use Prim.Native.Nat.{ℕ, ◌≤◌}
use mathlib.Core.Path.{◌≡◌, sym, ◌∙◌}
use mathlib.Core.List.{List, map}
use lib.ListN.{drop, length, length-map, take}
use lib.Seq.{take_at}
use borrow.Author.Tests.{eq-eqb}
use Rattle.theory_basics.specs.Lent.{lent_after}
use Rattle.fetch.specs.Input.{Whole}
use Rattle.fetch.specs.Rows.{row_bytes, row_chunk, row_layer, row_slot}
use Rattle.fetch.specs.Slices.{ListSlices}
use Rattle.std.specs.Prelude.{Result, Ok, Err}
use Rattle.planfile.specs.PlanFile.{Plan}
use Rattle.refusals.specs.declared.Refusal.{Refusal}
use Rattle.refusals.specs.Numbers.{answered, by_number}
use Rattle.whole_files.specs.declared.rooms.ListRoom.{ListRoom}
use Rattle.whole_files.specs.lemmas.Answers.{err_answered, ok_answered}
use Rattle.whole_files.specs.lemmas.Rooms.{HoldsList, list_of, slices_of_plan}

pub front : (refused : ℕ) (t old l : List ℕ) (n : ℕ) → refused ≡ 0 → n ≡ length t → l ≡ lent_after refused t old → take n l ≡ t
front refused t old l n z e b = rw (b, eq-eqb refused 0 z) (take_at t (drop (length t) old) n (sym e))

-- ---- a plan in room for a list

pub whole_plan : (count : ℕ) (plan : Plan) → length plan.marks ≡ count → Whole count plan.marks (map row_slot plan.rows) (map row_chunk plan.rows) (map row_layer plan.rows) (map row_bytes plan.rows)
whole_plan count plan e = record {
  byte_each = e;
  chunk_each = length-map plan.rows row_slot ∙ sym (length-map plan.rows row_chunk);
  layer_each = length-map plan.rows row_slot ∙ sym (length-map plan.rows row_layer);
  bytes_each = length-map plan.rows row_slot ∙ sym (length-map plan.rows row_bytes);
}

-- A plan was put into the room, if R, what the call was refused by, is 0.
pub record PutInto (R : ℕ) (plan : Plan) (old : ListSlices) (room : ListRoom) : Type 0 where
  pub marks_are : room.marks ≡ lent_after R plan.marks old.marks
  pub slots_are : room.slots ≡ lent_after R (map row_slot plan.rows) old.slots
  pub chunks_are : room.chunks ≡ lent_after R (map row_chunk plan.rows) old.chunks
  pub layers_are : room.layers ≡ lent_after R (map row_layer plan.rows) old.layers
  pub bytes_are : room.bytes ≡ lent_after R (map row_bytes plan.rows) old.bytes

-- The fronts of the room are then the plan's slices.
pub fronts :
    (R : ℕ) (plan : Plan) (count n : ℕ) (old : ListSlices) (room : ListRoom) → R ≡ 0 → length plan.marks ≡ count → n ≡ length plan.rows →
    PutInto R plan old room → list_of room count n ≡ slices_of_plan plan
fronts R plan count n old room z m r p =
    rw (
      front R plan.marks old.marks room.marks count z (sym m) p.marks_are,
      front R (map row_slot plan.rows) old.slots room.slots n z (r ∙ sym (length-map plan.rows row_slot)) p.slots_are,
      front R (map row_chunk plan.rows) old.chunks room.chunks n z (r ∙ sym (length-map plan.rows row_chunk)) p.chunks_are,
      front R (map row_layer plan.rows) old.layers room.layers n z (r ∙ sym (length-map plan.rows row_layer)) p.layers_are,
      front R (map row_bytes plan.rows) old.bytes room.bytes n z (r ∙ sym (length-map plan.rows row_bytes)) p.bytes_are,
    )

-- Room for any plan file, and so for any plan.
pub record Roomy (lent : ListSlices) : Type 0 where
  pub marks : 500 ≤ length lent.marks
  pub slots : 5957 ≤ length lent.slots
  pub chunks : 5957 ≤ length lent.chunks
  pub layers : 5957 ≤ length lent.layers
  pub bytes : 5957 ≤ length lent.bytes

pub holds_list :
    (refused R : ℕ) (plan : Plan) (count : ℕ) (old : ListSlices) (r : Result ℕ Refusal) (room : ListRoom) → R ≡ refused →
    (refused ≡ 0 → length plan.marks ≡ count) → by_number r ≡ answered R (length plan.rows) → PutInto R plan old room → HoldsList refused plan count r room
holds_list refused R plan count old (Ok n) room alone m a p =
    let known = ok_answered R n (length plan.rows) a in
    let z : refused ≡ 0 = sym alone ∙ known.0 in
    (z, fronts R plan count n old room known.0 (m z) known.1 p)
holds_list refused R plan count old (Err e) room alone m a p = sym alone ∙ (err_answered R _ (length plan.rows) a).0
