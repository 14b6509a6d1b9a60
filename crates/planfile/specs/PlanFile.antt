-- Meaning. A plan file: what its records say, the refusal of each, and the file of a plan. Document
-- 01, "KP chunk h, marks b, for chunk 1 to C; then FT ..; EN", refusal 8 "KP records not for 1 to C
-- in turn, before every FT, and complete by EN", and "The plan writer keeps the rows as handed". C
-- comes from the job.
use Rattle.std.specs.Prelude.{ℕ, ◌+◌, ◌<◌, ◌≡◌, ◌&&◌, length, get_or, leb, eqb}
use mathlib.Core.List.{List, [], ◌∷◌, ◌++◌, map, flat_map}
use Rattle.theory_basics.specs.Tests.{All}
use Rattle.theory_basics.specs.Lists.{up_to}
use Rattle.theory_basics.specs.Refusals.{unless}
use Rattle.records.specs.File.{Format, split}
use Rattle.fetch.specs.Rows.{Row}
use Rattle.planfile.specs.Records.{encode, front, is_end}
use Rattle.planfile.specs.declared.Record.{Record}
use Rattle.planfile.specs.declared.Record.TheVariants.{Kp, Ft, En}

-- The marks of the KP records, in order.
abbrev pub marks_in : List Record → List ℕ
marks_in [] = []
marks_in (Kp chunk marks ∷ rs) = marks ∷ marks_in rs
marks_in (Ft slot chunk layer bytes ∷ rs) = marks_in rs
marks_in (En ∷ rs) = marks_in rs

-- The rows of the FT records, in order.
abbrev pub rows_in : List Record → List Row
rows_in [] = []
rows_in (Kp chunk marks ∷ rs) = rows_in rs
rows_in (Ft slot chunk layer bytes ∷ rs) = record { slot = slot; chunk = chunk; layer = layer; bytes = bytes } ∷ rows_in rs
rows_in (En ∷ rs) = rows_in rs

-- The refusal of a record after those before it: a KP is for the next chunk, up to C, and stands
-- before every FT.
abbrev pub fault : ℕ → List Record → Record → ℕ
fault count before (Kp chunk marks) =
    unless 8 (eqb chunk (length (marks_in before) + 1) && (leb chunk count && eqb (length (rows_in before)) 0))
fault count before (Ft slot chunk layer bytes) = 0
fault count before En = 0

-- At EN there is a KP for each chunk.
abbrev pub lacking : ℕ → List Record → ℕ
lacking count rs = unless 8 (eqb (length (marks_in rs)) count)

-- Plan files of a job of so many chunks.
abbrev pub format : ℕ → Format Record
format count = record { front = front; is_end = is_end; fault = fault count; lacking = lacking count }

-- A plan on file: a mark byte a chunk, and rows.
pub record Plan : Type 0 where
  pub marks : List ℕ
  pub rows : List Row

-- Marks and rows of the widths that their fields have on file.
pub record RowInWidth (x : Row) : Type 0 where
  pub slot_in : x.slot < 65536
  pub chunk_in : x.chunk < 65536
  pub layer_in : x.layer < 256
  pub bytes_in_lem : x.bytes < 4294967296

pub record InWidth (plan : Plan) : Type 0 where
  pub marks_in_lem : All (λ m. m < 256) plan.marks
  pub rows_in_lem : All RowInWidth plan.rows

-- What some records say, and what a file says.
abbrev pub said : List Record → Plan
said rs = record { marks = marks_in rs; rows = rows_in rs }

unfoldable pub plan_in : ℕ → List ℕ → Plan
plan_in count file = said (split (format count) file).records

-- KP for chunk 1 to C, FT for the rows as handed.
abbrev pub kps : List ℕ → List Record
kps marks = up_to (λ k. Kp (k + 1) (get_or marks k 0)) (length marks)

abbrev pub ft_of : Row → Record
ft_of x = Ft x.slot x.chunk x.layer x.bytes

abbrev pub records_of : Plan → List Record
records_of plan = kps plan.marks ++ map ft_of plan.rows

-- The KP records are for 1 to C in turn, before every FT, and complete.
pub record InOrder (count : ℕ) (rs : List Record) : Type 0 where
  pub in_turn_lem : rs ≡ records_of (said rs)
  pub complete : length (marks_in rs) ≡ count

-- The file of a plan: its records one after the other, then EN.
unfoldable pub file_of : Plan → List ℕ
file_of plan = flat_map encode (records_of plan) ++ encode En
