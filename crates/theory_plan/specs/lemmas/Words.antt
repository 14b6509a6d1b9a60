-- Lemmas. Words of the argument that document 01 does not have, and the order of due slots and
-- forecasts. Section 1 of the argument.
use Rattle.std.specs.Prelude.{ℕ, suc, ◌-◌, ◌≤◌, ◌<◌, Bool, List, [], ◌∷◌, map, eqb}
use Rattle.std.proofs.Common.{arith, mul-le-mul_right}
use Rattle.theory_basics.specs.lemmas.Ranges.{pre_mono}
use Rattle.theory_basics.specs.Tests.{All}
use Rattle.job.specs.Job.{Accepted, Job, Layer, chunks, due, forecast, layers, size, due_slot, last_due, Within}
use Rattle.job.specs.lemmas.Within.{size_least}
use Rattle.fetch.specs.Rows.{Row, bytes_if, has_row}
use Rattle.theory_plan.specs.Plan.{after}
use Rattle.theory_plan.specs.Bases.{Asc}
use Rattle.job.specs.declared.Programme.{Programme}

-- The bytes of chunk i, all layers.
abbrev pub bytes_of_chunk : List Row → ℕ → ℕ
bytes_of_chunk rows i = bytes_if (λ x. eqb x.chunk i) rows

-- Chunk i has a row.
abbrev pub carries : List Row → ℕ → Bool
carries rows i = has_row rows i

-- A later chunk is due no earlier.
pub due_mono : (j : Job) (x y : ℕ) → x ≤ y → due j x ≤ due j y
due_mono j x y h = let m : (x - 1) ≤ (y - 1) = omega arith in omega (arith, mul-le-mul_right j.programme.span m)

pub due_rises : (j : Job) → 1 ≤ j.programme.span → (x y : ℕ) → 1 ≤ x → x < y → due j x < due j y
due_rises j h x y u v = let m : suc (x - 1) ≤ y - 1 = omega arith in omega (arith, mul-le-mul_right j.programme.span m)

-- Every chunk is due by the last slot.
pub due_by : (p : Programme) (i : ℕ) → i ≤ p.chunks → due_slot p i ≤ last_due p
due_by p i h = omega (arith, mul-le-mul_right {m = i - 1} {n = p.chunks - 1} p.span (omega arith))

-- Chunks of a job that ends by slot 3,600 are due in slots.
pub due_slots : (p : Programme) → 1 ≤ p.delay → last_due p ≤ 3600 → (lo : ℕ) (ks : List ℕ) → Asc lo p.chunks ks → All (Within 1 3600) (map (due_slot p) ks)
due_slots p late ends lo [] a = tt
due_slots p late ends lo (k ∷ ks) a =
    (record { low = omega arith; high = omega (arith, due_by p k a.1) }, due_slots p late ends (suc k) ks a.2)

-- Later, less is left of the forecast.
pub after_anti : (j : Job) (x y : ℕ) → x ≤ y → after j y ≤ after j x
after_anti j x y h = omega (arith, pre_mono (forecast j) x y h)

pub layer_of : (j : Job) (i n : ℕ) → 1 ≤ i → i ≤ chunks j → n < layers j → Layer j i n
layer_of j i n u v w = record { chunk_low = u; chunk_high = v; layer_in = w }

-- Every layer has at least one byte. Sizes may differ by chunk and layer: this is all that the
-- decision asks of them.
abbrev pub Sized : Job → Type 0
Sized j = (i n : ℕ) → Layer j i n → 1 ≤ size j i n

pub accepted_sized : (j : Job) → Accepted j → Sized j
accepted_sized j a i n r = size_least j a i n r.layer_in
