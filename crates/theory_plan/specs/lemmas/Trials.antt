-- Lemmas. The trials in linear time, as definitions over any sizes, due slots and forecast: a stack
-- of needs for the base, rooms forward and trials back for a layer above it. Decided.antt shows
-- that they take what the plan takes. Assumes nothing. Section 4 of the argument.
use Rattle.std.specs.Prelude.{ℕ, zero, suc, ◌+◌, ◌-◌, max, min, Bool, true, cond, ◌&&◌, List, [], ◌∷◌, map, get_or, drop, leb}
use Rattle.job.specs.Job.{Job, chunks, due, held_most, layers, size}
use Rattle.theory_basics.specs.Sums.{sum}
use Rattle.fetch.specs.Rows.{mark_byte}
use Rattle.fetch.specs.Marks.{bit, with_layer}
use Rattle.theory_plan.specs.Bases.{moore_hodgson}
use Rattle.theory_plan.specs.Plan.{by_moore_hodgson, after}
use Rattle.theory_plan.specs.lemmas.Queue.{releases}

-- ---- the base: chunks from the last down, and the needs of the kept ones, the one kept last in
-- front

pub record Stack : Type 0 where
  pub needs : List ℕ
  pub chunks : List ℕ

-- s: the base's bytes of a chunk; d: its due slot; A t: what is forecast after slot t; h: how many
-- chunks may be held.
module _ (s d A : ℕ → ℕ) where
  -- The need of chunk i in front of the kept ones.
  abbrev pub candidate : List ℕ → ℕ → ℕ
  candidate ns i = s i + max (A (d i)) (get_or ns 0 0)

  -- It fits, and the chunk that the buffer holds back until i is due fits behind that.
  abbrev pub keeps : ℕ → List ℕ → ℕ → Bool
  keeps h ns i = leb (candidate ns i) (A 0) && leb (get_or (candidate ns i ∷ ns) h 0) (A (d i - 1))

  abbrev pub push : ℕ → Stack → ℕ → Stack
  push h o i = cond (keeps h o.needs i) (record { needs = candidate o.needs i ∷ o.needs; chunks = i ∷ o.chunks }) o

  -- The chunks lo + m down to lo + 1.
  abbrev pub bases : ℕ → ℕ → ℕ → Stack
  bases h lo zero = record { needs = []; chunks = [] }
  bases h lo (suc m) = push h (bases h (suc lo) m) (suc lo)

-- ---- a layer above the base

-- The mark of a chunk that carries m layers, from the base up.
abbrev pub level_mark : ℕ → ℕ
level_mark m = mark_byte (λ n. true) m

-- A kept chunk: its due slot, the bytes of the layers that it carries so far, and its mark.
pub record Kept : Type 0 where
  pub chunk : ℕ
  pub due : ℕ
  pub bytes : ℕ
  pub mark : ℕ

-- How much of the forecast, counted from its end, the chunks from each one on may use up: what its
-- release leaves, and what the chunk before it leaves. ws: the bytes of the chunks; rs: their
-- releases.
abbrev pub rooms : (ℕ → ℕ) → ℕ → List ℕ → List ℕ → List ℕ
rooms A room [] rs = []
rooms A room (w ∷ ws) [] = []
rooms A room (w ∷ ws) (r ∷ rs) = let here = min room (A (r - 1)) in here ∷ rooms A (here - w) ws rs

-- What the chunks use up, and what they carry now.
pub record Tried : Type 0 where
  pub need : ℕ
  pub kept : List Kept

-- Layer n of one chunk, after those behind it.
abbrev pub try_one : (ℕ → ℕ → ℕ) → (ℕ → ℕ) → ℕ → ℕ → Kept → Tried → Tried
try_one size A n room k o =
    let want : ℕ = k.bytes + max (A k.due) o.need in
    let more : ℕ = want + size k.chunk n in
    cond
    (bit k.mark (n - 1) && leb more room)
    (record { need = more; kept = record { chunk = k.chunk; due = k.due; bytes = k.bytes + size k.chunk n; mark = with_layer k.mark n } ∷ o.kept })
    (record { need = want; kept = k ∷ o.kept })

-- Layer n of all of them, from the last to the first.
unfoldable pub back : (ℕ → ℕ → ℕ) → (ℕ → ℕ) → ℕ → List ℕ → List Kept → Tried
back size A n hs [] = record { need = 0; kept = [] }
back size A n hs (k ∷ ks) = try_one size A n (get_or hs 0 0) k (back size A n (drop 1 hs) ks)

abbrev pub chunk_of : Kept → ℕ
chunk_of k = k.chunk

abbrev pub bytes_kept : Kept → ℕ
bytes_kept k = k.bytes

abbrev pub mark_of : Kept → ℕ
mark_of k = k.mark

-- A chunk of a job that carries lv layers.
abbrev pub kept_at : Job → (ℕ → ℕ) → ℕ → Kept
kept_at j lv k = record { chunk = k; due = due j k; bytes = sum (size j k) (lv k); mark = level_mark (lv k) }

-- ---- all layers

-- Layer n over what the layers below have settled. room: what all chunks together may use up; rs:
-- the releases.
abbrev pub on_layer : (ℕ → ℕ → ℕ) → (ℕ → ℕ) → ℕ → List ℕ → ℕ → List Kept → List Kept
on_layer size A room rs n ks = (back size A n (rooms A room (map bytes_kept ks) rs) ks).kept

-- Layers 1 to n, one after the other.
abbrev pub on_layers : (ℕ → ℕ → ℕ) → (ℕ → ℕ) → ℕ → List ℕ → ℕ → List Kept → List Kept
on_layers size A room rs zero ks = ks
on_layers size A room rs (suc n) ks = on_layer size A room rs (suc n) (on_layers size A room rs n ks)

-- The kept chunks of a list, each with its base alone.
abbrev pub based : Job → List ℕ → List Kept
based j ks = map (kept_at j (λ k. 1)) ks

-- The chunks whose base is kept in document 01's way: the stack.
abbrev pub stacked : Job → List ℕ
stacked j = (bases (λ k. size j k 0) (due j) (after j) (held_most j) 0 (chunks j)).chunks

-- The chunks whose base is kept: by Moore-Hodgson where request 9 settles them, else by the stack.
abbrev pub kept_bases : Job → List ℕ
kept_bases j = cond (by_moore_hodgson j) (moore_hodgson j) (stacked j)

-- What the trials of the upper layers decide of kept chunks: these, with their layers.
abbrev pub decided_on : Job → List ℕ → List Kept
decided_on j ks = on_layers (size j) (after j) (after j 0) (releases (due j) (held_most j) ks) (layers j - 1) (based j ks)

-- What is decided of a job.
abbrev pub decided : Job → List Kept
decided j = decided_on j (kept_bases j)
