-- Lemmas. What the tables hold of a list of rows: the contracts of the functions speak of these,
-- those of no public call do.
use Rattle.std.specs.Prelude.{ℕ, zero, suc, ◌+◌, ◌*◌, ◌-◌, ◌≤◌, ◌<◌, min, ◌≡◌, Bool, true, not, cond, ◌&&◌, ◌||◌, List, [], ◌∷◌, get_or, leb, ltb, eqb}
use Rattle.theory_basics.specs.Tests.{all, all_to, all_below}
use Rattle.theory_basics.specs.Sums.{count}
use Rattle.job.specs.declared.Programme.{Programme}
use Rattle.job.specs.Job.{Job, Accepted, due_slot, layers, size}
use Rattle.core_sizes.specs.Table.{table_at}
use Rattle.fetch.specs.Rows.{Row, bytes_in_slot, bytes_of_layer, mark_byte}
use Rattle.core_rules.specs.declared.Pass.{Pass}
use Rattle.core_rules.specs.declared.Seen.{Seen}
use Rattle.core_rules.specs.declared.Layers.{Layers}

-- Where sums stop: above every size and every forecast.
abbrev pub cap : ℕ
cap = 1099511627776

-- Rule 1 of one row, by the last slot, the number of chunks and the number of layers.
abbrev pub in_range : ℕ → ℕ → ℕ → Row → Bool
in_range last count depth x =
    leb 1 x.slot && (leb x.slot last && (leb 1 x.chunk && (leb x.chunk count && (ltb x.layer depth && leb 1 x.bytes))))

-- Rule 5 of one row.
abbrev pub on_time : Programme → Row → Bool
on_time p x = leb x.slot (due_slot p x.chunk)

-- The first slot with a row of chunk i; 65,535 if it has none.
abbrev pub first_of : ℕ → List Row → ℕ
first_of i [] = 65535
first_of i (x ∷ xs) = min (cond (eqb x.chunk i) x.slot 65535) (first_of i xs)

-- The tables of a list: bytes by slot, bytes by chunk and layer, first slots by chunk.
pub record Tallied (rows : List Row) (slotsum layersum first : List ℕ) : Type 0 where
  pub by_slot : (t : ℕ) → t ≤ 3600 → get_or slotsum t 0 ≡ min cap (bytes_in_slot rows t)
  pub by_layer : (i n : ℕ) → 1 ≤ i → i ≤ 500 → n < 4 → get_or layersum (4 * (i - 1) + n) 0 ≡ min cap (bytes_of_layer rows i n)
  pub firsts : (i : ℕ) → 1 ≤ i → i ≤ 500 → get_or first i 0 ≡ first_of i rows
  pub some_slot : (i : ℕ) → 1 ≤ i → i ≤ 500 → 1 ≤ get_or first i 0

-- What the pass over the rows finds: rule 1, and where it holds rule 5 and the tables.
pub record TallyPost (p : Programme) (last depth : ℕ) (rows : List Row) (r : Pass) (slotsum layersum first : List ℕ) : Type 0 where
  pub ranged : r.ranged ≡ all (in_range last p.chunks depth) rows
  pub timely : r.ranged ≡ true → r.timely ≡ all (on_time p) rows
  pub tables : r.ranged ≡ true → Tallied rows slotsum layersum first

-- ---- layers of a chunk

-- Layer n of chunk i is carried, by the table of sums and a size for each layer of each chunk.
abbrev pub carried_by : (ℕ → ℕ → ℕ) → List ℕ → ℕ → ℕ → Bool
carried_by size layersum i n = eqb (get_or layersum (4 * (i - 1) + n) 0) (size i n)

-- Its sum is 0 or its full size.
abbrev pub whole_by : (ℕ → ℕ → ℕ) → List ℕ → ℕ → ℕ → Bool
whole_by size layersum i n = eqb (get_or layersum (4 * (i - 1) + n) 0) 0 || carried_by size layersum i n

-- The layer below layer n passes, or n is the base.
abbrev pub under : (ℕ → Bool) → ℕ → Bool
under c zero = true
under c (suc n) = c n

abbrev pub lower_by : (ℕ → Bool) → ℕ → Bool
lower_by c n = not (c n) || under c n

-- The layers of chunk i: its mark byte, rules 2 and 3.
pub record SeeChunkPost (size : ℕ → ℕ → ℕ) (layersum : List ℕ) (depth i : ℕ) (r : Seen) : Type 0 where
  pub mark : r.mark ≡ mark_byte (carried_by size layersum i) depth
  pub whole : r.whole ≡ all_below depth (whole_by size layersum i)
  pub lower : r.lower ≡ all_below depth (lower_by (carried_by size layersum i))

-- Every chunk of a list with its marks: rules 2, 3 and 7.
pub record SeeAllPost (size : ℕ → ℕ → ℕ) (layersum marks : List ℕ) (depth n : ℕ) (r : Layers) : Type 0 where
  pub whole : r.whole ≡ all_to n (λ i. all_below depth (whole_by size layersum i))
  pub lower : r.lower ≡ all_to n (λ i. all_below depth (lower_by (carried_by size layersum i)))
  pub said : r.said ≡ all_to n (λ i. eqb (get_or marks (i - 1) 0) (mark_byte (carried_by size layersum i) depth))

-- ---- held chunks

-- The chunks held at the end of slot t, by first slots.
abbrev pub held_by : Programme → List ℕ → ℕ → ℕ
held_by p first t = count (λ i. leb (get_or first i 0) t && ltb t (due_slot p i)) p.chunks

-- Chunk i begins to be held in slot t; ceases to be in slot t.
abbrev pub starts_at : Programme → List ℕ → ℕ → ℕ → Bool
starts_at p first t i = ltb (get_or first i 0) (due_slot p i) && eqb (get_or first i 0) t

abbrev pub ends_at : Programme → List ℕ → ℕ → ℕ → Bool
ends_at p first t i = ltb (get_or first i 0) (due_slot p i) && eqb (due_slot p i) t

-- Tables of how many of the chunks 1 .. n begin and cease to be held in each slot.
pub record MarkTimesPost (p : Programme) (first : List ℕ) (n : ℕ) (begins ends : List ℕ) : Type 0 where
  pub begin_at : (t : ℕ) → t ≤ 3600 → get_or begins t 0 ≡ count (starts_at p first t) n
  pub end_at : (t : ℕ) → t ≤ 3600 → get_or ends t 0 ≡ count (ends_at p first t) n

-- ---- the job

-- An accepted job whose sizes a table has, for so many layers.
pub record Shown (table : List ℕ) (depth : ℕ) (j : Job) : Type 0 where
  pub accepted : Accepted j
  pub sizes_are : table_at table ≡ size j
  pub depth_is : depth ≡ layers j
