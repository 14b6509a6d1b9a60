-- Lemmas. What the report's table holds of a list of rows, and the numbers that are read from it:
-- the contracts of private functions speak of these, no public one does.
use Rattle.std.specs.Prelude.{ℕ, ◌+◌, ◌*◌, ◌-◌, ◌/◌, ◌%◌, ◌≤◌, ◌<◌, ◌≡◌, Bool, cond, List, [], ◌∷◌, ◌++◌, length, get_or, eqb, Option, Some, None, Result}
use Rattle.theory_basics.specs.Sums.{sum, count}
use Rattle.theory_basics.specs.Lists.{up_to}
use Rattle.refusals.specs.declared.Refusal.{Refusal}
use Rattle.refusals.specs.Numbers.{answered, by_number}
use Rattle.job.specs.declared.Programme.{Programme}
use Rattle.job.specs.Input.{JobInput, job_in, job_refusal}
use Rattle.job.specs.Job.{last_due}
use Rattle.core_sizes.specs.Table.{table_at}
use Rattle.fetch.specs.Rows.{Row, bytes_of_layer}
use Rattle.planner.specs.Answer.{plan_rows}
use Rattle.theory_basics.specs.Text.{ascii, digits, line, text}
use Rattle.report.specs.Report.{apart, bytes_in_rows, differences, those}
use Rattle.report.specs.declared.table.Chunk.{Chunk}

-- Rows handed as four slices of one length, each with a place in the table.
pub record Rows (slots chunks layers' bytes : List ℕ) : Type 0 where
  pub chunk_each : length slots ≡ length chunks
  pub layer_each : length slots ≡ length layers'
  pub bytes_each : length slots ≡ length bytes
  pub few : length slots ≤ 5599
  pub chunk_low : (k : ℕ) → k < length slots → 1 ≤ get_or chunks k 0
  pub chunk_high : (k : ℕ) → k < length slots → get_or chunks k 0 ≤ 500
  pub layer_in : (k : ℕ) → k < length slots → get_or layers' k 0 < 4

-- The bytes of layer n of chunk i, by the table.
abbrev pub bytes_at : List ℕ → ℕ → ℕ → ℕ
bytes_at table i n = get_or table (4 * (i - 1) + n) 0

-- The table of a list's rows.
pub record Summed (rows : List Row) (table : List ℕ) : Type 0 where
  pub by_layer : (i n : ℕ) → 1 ≤ i → i ≤ 500 → n < 4 → bytes_at table i n ≡ bytes_of_layer rows i n

-- The bytes of the plan's rows and their table, or the job's refusal.
abbrev pub spent_of : JobInput → Result ℕ ℕ
spent_of h = answered (job_refusal h) (bytes_in_rows (plan_rows (job_in h)))

pub record Tabled (h : JobInput) (table : List ℕ) (r : Result ℕ Refusal) : Type 0 where
  pub spent : by_number r ≡ spent_of h
  pub by_rows : job_refusal h ≡ 0 → Summed (plan_rows (job_in h)) table

-- A table of all sizes, each in range.
abbrev pub SizesIn : List ℕ → Type 0
SizesIn sizes = (i n : ℕ) → table_at sizes i n ≤ 16777216

-- Layer n of chunk i is carried.
abbrev pub carried_by : List ℕ → List ℕ → ℕ → ℕ → Bool
carried_by sizes table i n = eqb (bytes_at table i n) (table_at sizes i n)

abbrev pub layers_by : List ℕ → List ℕ → ℕ → ℕ → ℕ
layers_by sizes table depth i = sum (λ n. cond (carried_by sizes table i n) 1 0) depth

abbrev pub bytes_by : List ℕ → List ℕ → ℕ → ℕ → ℕ
bytes_by sizes table depth i = sum (λ n. cond (carried_by sizes table i n) (bytes_at table i n) 0) depth

-- The layers and bytes that chunk i carries.
pub record ChunkBy (sizes table : List ℕ) (depth i : ℕ) (r : Chunk) : Type 0 where
  pub layers : r.layers ≡ layers_by sizes table depth i
  pub bytes : r.bytes ≡ bytes_by sizes table depth i

abbrev pub chunk_line_by : List ℕ → List ℕ → ℕ → ℕ → List ℕ
chunk_line_by sizes table depth i = line (digits i) (digits (layers_by sizes table depth i) ∷ digits (bytes_by sizes table depth i) ∷ [])

abbrev pub count_by : List ℕ → List ℕ → ℕ → ℕ → ℕ
count_by sizes table chunks n = count (λ i. carried_by sizes table i n) chunks

-- The bytes of the carried chunks among 1 .. n, and their differences.
abbrev pub bytes_to : List ℕ → List ℕ → ℕ → ℕ → List ℕ
bytes_to sizes table depth n = those (λ i. carried_by sizes table i 0) (bytes_by sizes table depth) n

abbrev pub switch_by : List ℕ → List ℕ → ℕ → ℕ → ℕ
switch_by sizes table depth n = differences (bytes_to sizes table depth n)

-- Chunk i on the screen.
abbrev pub picture_by : List ℕ → List ℕ → ℕ → ℕ → Option ℕ
picture_by sizes table depth i = cond (carried_by sizes table i 0) (Some (bytes_by sizes table depth i)) None

-- How far a picture differs from the last one.
abbrev pub change_of : Option ℕ → Option ℕ → ℕ
change_of None here = 0
change_of (Some a) None = 0
change_of (Some a) (Some b) = apart a b

-- The last of so many pictures.
abbrev pub last_of : List ℕ → Option ℕ
last_of [] = None
last_of (x ∷ []) = Some x
last_of (x ∷ (y ∷ ys)) = last_of (y ∷ ys)

-- The lines of a switch sum over so many slots of film.
abbrev pub switch_lines : ℕ → ℕ → List ℕ
switch_lines switch film = line (ascii "switch") (digits switch ∷ []) ++ line (ascii "rate") (digits (switch / film) ∷ digits (switch % film) ∷ [])

-- The report's lines, by the table and the sums of rows and forecast.
unfoldable pub lines_by : Programme → List ℕ → ℕ → List ℕ → ℕ → ℕ → List ℕ
lines_by p sizes depth table spent left =
    line (ascii "slots") (digits (last_due p) ∷ ascii "chunks" ∷ digits p.chunks ∷ ascii "held" ∷ digits (p.limit / p.span) ∷ [])
    ++ (text (up_to (λ k. chunk_line_by sizes table depth (k + 1)) p.chunks)
    ++ (line (ascii "layers") (up_to (λ n. digits (count_by sizes table p.chunks n)) depth)
    ++ (line (ascii "bytes") (digits spent ∷ ascii "left" ∷ digits left ∷ [])
    ++ switch_lines (switch_by sizes table depth p.chunks) (p.chunks * p.span))))
