-- Lemmas. The records still to be written, a record at a time. Assumes nothing.
use Prim.Native.Nat.{ℕ, ◌+◌, ◌-◌, ◌≤◌, ◌<◌}
use mathlib.Core.Path.{◌≡◌, ap}
use mathlib.Core.List.{List, [], ◌∷◌, map}
use native.Mathlib.Omega.{arith}
use native.Mathlib.Numerals.{add-one}
use lib.ListN.{length, get_or, drop, drop_of_length-le}
use lib.Seq.{drop-cons}
use Rattle.job.specs.Input.{WholeSizes}
use Rattle.job.specs.lemmas.Run.{from, from_end, from_more}
use Rattle.jobrecords.specs.declared.Record.{Record}
use Rattle.jobrecords.specs.declared.Record.TheVariants.{Ly, Sz, Bw}
use Rattle.jobrecords.specs.Records.{encode}
use Rattle.jobfile.specs.Writer.{runs, layer_record, override_record, run_record}
use Rattle.jobfile.specs.lemmas.Runs.{run_end, run_at}
use Rattle.jobfile.specs.lemmas.Puts.{Puts, records_bytes, Underway, underway_fits, underway_more, underway_end}

-- The layers from n on, and the runs from slot i on.
abbrev pub layers_from : List ℕ → ℕ → List Record
layers_from sizes n = map layer_record (drop n sizes)

abbrev pub runs_from : List ℕ → ℕ → List Record
runs_from f i = map run_record (runs (drop i f))

layers_next : (sizes : List ℕ) (n : ℕ) → n < length sizes → layers_from sizes n ≡ Ly (get_or sizes n 0) ∷ layers_from sizes (n + 1)
layers_next sizes n h = rw (drop-cons sizes n 0 h, add-one)

layers_none : (sizes : List ℕ) (n : ℕ) → length sizes ≤ n → layers_from sizes n ≡ []
layers_none sizes n h = rw (drop_of_length-le sizes {i = n} h)

-- The SZs from place i on.
abbrev pub overrides_from : List ℕ → List ℕ → List ℕ → ℕ → List Record
overrides_from cs ls bs i = map override_record (from i cs ls bs)

overrides_next :
    (cs ls bs : List ℕ) (i : ℕ) → WholeSizes cs ls bs → i < length cs →
    overrides_from cs ls bs i ≡ Sz (get_or cs i 0) (get_or ls i 0) (get_or bs i 0) ∷ overrides_from cs ls bs (i + 1)
overrides_next cs ls bs i w h = ap (map override_record) (from_more i cs ls bs (omega (arith, w.layer_each, w.bytes_each)))

overrides_none : (cs ls bs : List ℕ) (i : ℕ) → length cs ≤ i → overrides_from cs ls bs i ≡ []
overrides_none cs ls bs i h = ap (map override_record) (from_end i cs ls bs (omega arith))

runs_next : (f : List ℕ) (i : ℕ) → i < length f → runs_from f i ≡ Bw (run_end f i - i) (get_or f i 0) ∷ runs_from f (run_end f i)
runs_next f i h = ap (map run_record) (run_at f i h)

runs_none : (f : List ℕ) (i : ℕ) → length f ≤ i → runs_from f i ≡ []
runs_none f i h = rw (drop_of_length-le f {i = i} h)

-- ---- a queue of records, the next one in front

module _ (out : List ℕ) (at : ℕ) (all : List Record) (fits : at + length (records_bytes all) ≤ length out) (queue : List Record) (r : Record) (rest : List Record) (e : queue ≡ r ∷ rest) (out' : List ℕ) (here : ℕ) (u : Underway out at all queue out' here) where
  next_fits : here + length (encode r) ≤ length out'
  next_fits = underway_fits out at all fits r rest out' here (rw e at u)

  next_more : (out'' : List ℕ) (next : ℕ) → Puts out' here (encode r) out'' next → Underway out at all rest out'' next
  next_more out'' next p = underway_more out at all fits r rest out' here (rw e at u) out'' next p

module _ (out : List ℕ) (at : ℕ) (sizes : List ℕ) (fits : at + length (records_bytes (map layer_record sizes)) ≤ length out) (n : ℕ) (out' : List ℕ) (here : ℕ) (u : Underway out at (map layer_record sizes) (layers_from sizes n) out' here) where
  pub layers_end : length sizes ≤ n → Puts out at (records_bytes (map layer_record sizes)) out' here
  layers_end h = underway_end out at (map layer_record sizes) out' here (rw (layers_none sizes n h) at u)

  module _ (h : n < length sizes) where
    pub layer_fits : here + 6 ≤ length out'
    layer_fits = next_fits out at (map layer_record sizes) fits (layers_from sizes n) (Ly (get_or sizes n 0)) (layers_from sizes (n + 1)) (layers_next sizes n h) out' here u

    pub layer_more : (out'' : List ℕ) (next : ℕ) → Puts out' here (encode (Ly (get_or sizes n 0))) out'' next → Underway out at (map layer_record sizes) (layers_from sizes (n + 1)) out'' next
    layer_more = next_more out at (map layer_record sizes) fits (layers_from sizes n) (Ly (get_or sizes n 0)) (layers_from sizes (n + 1)) (layers_next sizes n h) out' here u

module _ (out : List ℕ) (at : ℕ) (f : List ℕ) (fits : at + length (records_bytes (map run_record (runs f))) ≤ length out) (i : ℕ) (out' : List ℕ) (here : ℕ) (u : Underway out at (map run_record (runs f)) (runs_from f i) out' here) where
  pub runs_end : length f ≤ i → Puts out at (records_bytes (map run_record (runs f))) out' here
  runs_end h = underway_end out at (map run_record (runs f)) out' here (rw (runs_none f i h) at u)

  module _ (h : i < length f) where
    pub run_fits : here + 8 ≤ length out'
    run_fits = next_fits out at (map run_record (runs f)) fits (runs_from f i) (Bw (run_end f i - i) (get_or f i 0)) (runs_from f (run_end f i)) (runs_next f i h) out' here u

    pub run_more : (end : ℕ) → end ≡ run_end f i → (out'' : List ℕ) (next : ℕ) → Puts out' here (encode (Bw (end - i) (get_or f i 0))) out'' next → Underway out at (map run_record (runs f)) (runs_from f end) out'' next
    run_more end e out'' next p =
        rw e
        (next_more out at (map run_record (runs f)) fits (runs_from f i) (Bw (run_end f i - i) (get_or f i 0)) (runs_from f (run_end f i)) (runs_next f i h) out' here u out'' next
        (rw e at p))

module _ (out : List ℕ) (at : ℕ) (cs ls bs : List ℕ) (w : WholeSizes cs ls bs) (fits : at + length (records_bytes (overrides_from cs ls bs 0)) ≤ length out) (i : ℕ) (out' : List ℕ) (here : ℕ) (u : Underway out at (overrides_from cs ls bs 0) (overrides_from cs ls bs i) out' here) where
  pub overrides_end : length cs ≤ i → Puts out at (records_bytes (overrides_from cs ls bs 0)) out' here
  overrides_end h = underway_end out at (overrides_from cs ls bs 0) out' here (rw (overrides_none cs ls bs i h) at u)

  module _ (h : i < length cs) where
    abbrev sz : Record
    sz = Sz (get_or cs i 0) (get_or ls i 0) (get_or bs i 0)

    pub override_fits : here + 9 ≤ length out'
    override_fits = next_fits out at (overrides_from cs ls bs 0) fits (overrides_from cs ls bs i) sz (overrides_from cs ls bs (i + 1)) (overrides_next cs ls bs i w h) out' here u

    pub override_more : (out'' : List ℕ) (next : ℕ) → Puts out' here (encode sz) out'' next → Underway out at (overrides_from cs ls bs 0) (overrides_from cs ls bs (i + 1)) out'' next
    override_more = next_more out at (overrides_from cs ls bs 0) fits (overrides_from cs ls bs i) sz (overrides_from cs ls bs (i + 1)) (overrides_next cs ls bs i w h) out' here u
