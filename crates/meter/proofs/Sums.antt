-- Laws of the forecast's loop: the shares of the first samples summed, none of which is 0. Assumes
-- nothing.
use Prim.Native.Nat.{ℕ, zero, suc, ◌+◌, ◌*◌, ◌/◌, ◌^◌, ◌≤◌, ◌<◌}
use mathlib.Core.Path.{◌≡◌, refl, ◌∙◌, ap}
use mathlib.Core.Bool.{Bool, true, false, ◌||◌, or-false}
use mathlib.Core.List.{List, [], ◌∷◌, ◌++◌, map, map-append}
use mathlib.Core.Logic.{inl, inr, ⊎_elim}
use native.Mathlib.Omega.{arith}
use native.Mathlib.Numerals.{add-one}
use lib.ListN.{length, get_or, length-map}
use lib.Dec.{T}
use borrow.Author.Tests.{ne_eqb, le-ltb, lt-ltb}
use Rattle.theory_basics.specs.Tests.{All, any}
use Rattle.theory_basics.specs.lemmas.Tests.{last, T_true, T_or_iff, any_append}
use Rattle.theory_basics.specs.Lists.{up_to}
use Rattle.theory_basics.specs.lemmas.Lists.{length_up_to}
use Rattle.meter.specs.declared.Meter.{Meter}
use Rattle.std.specs.Prelude.{Ok, Err}
use Rattle.meter.specs.Meter.{Sample, samples_of, InOrder, in_order}
use Rattle.meter.specs.Forecast.{bytes_of, is_zero, total, share, mean_of, forecast_of, answer_of}
use Rattle.meter.proofs.Means.{Counts, counts, share_narrow, total_pos, mean_high}
use Rattle.meter.proofs.Laws.{cell}

bytes_snoc : (l : List Sample) (x : Sample) → bytes_of (l ++ (x ∷ [])) ≡ bytes_of l ++ (x.bytes ∷ [])
bytes_snoc l x = map-append (λ (x : Sample). x.bytes) l (x ∷ [])

any_snoc : (p : ℕ → Bool) (l : List ℕ) (b : ℕ) → any p (l ++ (b ∷ [])) ≡ (any p l || p b)
any_snoc p l b = any_append p l (b ∷ []) ∙ ap (λ (c : Bool). any p l || c) (or-false (p b))

total_snoc : (l : List ℕ) (b : ℕ) → total (map share (l ++ (b ∷ []))) ≡ total (map share l) + share b
total_snoc [] b = omega arith
total_snoc (a ∷ l) b = omega (arith, total_snoc l b)

-- The shares of the first i samples sum to `sum`, and none of them is 0.
pub record Summed (m : Meter) (sum i : ℕ) : Type 0 where
  pub none : any is_zero (bytes_of (up_to (cell m) i)) ≡ false
  pub sums : sum ≡ total (map share (bytes_of (up_to (cell m) i)))
  pub small : sum ≤ i * 2 ^ 56

pub summed_start : (m : Meter) → Summed m 0 0
summed_start m = record { none = refl; sums = refl; small = omega arith }

pub summed_more : (m : Meter) (sum i : ℕ) → Summed m sum i → 0 < get_or m.bytes i 0 → Summed m (sum + share (get_or m.bytes i 0)) (i + 1)
summed_more m sum i w h =
    let b = get_or m.bytes i 0 in
    let l = up_to (cell m) i in
    rw (add-one i) record {
      none = rw (bytes_snoc l (cell m i), any_snoc is_zero (bytes_of l) b, w.none, ne_eqb b 0 (λ e. omega arith));
      sums = rw (bytes_snoc l (cell m i), total_snoc (bytes_of l) b, w.sums);
      small = omega (arith, w.small, share_narrow b h);
    }

-- A sample of 0 bytes.
zero_at : (f : ℕ → Sample) (i n : ℕ) → i < n → (f i).bytes ≡ 0 → T (any is_zero (bytes_of (up_to f n)))
zero_at f i zero h e = absurd (omega arith)
zero_at f i (suc n) h e =
    rw (bytes_snoc (up_to f n) (f n), any_snoc is_zero (bytes_of (up_to f n)) (f n).bytes)
    ((T_or_iff (any is_zero (bytes_of (up_to f n))) (is_zero (f n).bytes)).1
    (⊎_elim
    (λ u. inl (zero_at f i n (omega arith) e))
    (λ u. let k : n ≡ i = omega arith in inr (rw (k, e) tt))
    (last (suc i) n (omega arith))))

pub summed_zero : (m : Meter) (i : ℕ) → i < m.kept → get_or m.bytes i 0 ≡ 0 → 0 ≡ forecast_of (bytes_of (samples_of m))
unfolding forecast_of
summed_zero m i h e = rw (T_true (any is_zero (bytes_of (samples_of m))) (zero_at (cell m) i m.kept h e))

module _ (m : Meter) (sum : ℕ) (o : InOrder (samples_of m)) (some : 0 < m.kept) (w : Summed m sum m.kept) where
  abbrev bs : List ℕ
  bs = bytes_of (samples_of m)

  bs_length : length bs ≡ m.kept
  bs_length = length-map (samples_of m) (λ x. x.bytes) ∙ length_up_to (cell m) m.kept

  all_count : All Counts bs
  all_count = counts (samples_of m) o.each (rw w.none tt)

  pub summed_pos : 0 < sum
  summed_pos = rw w.sums (total_pos bs (omega (arith, bs_length)) all_count)

  summed_mean : m.kept * 2 ^ 56 / sum ≡ mean_of bs
  summed_mean = rw (w.sums, bs_length)

  pub summed_high : m.kept * 2 ^ 56 / sum ≤ 16777216
  summed_high = rw summed_mean (mean_high bs (omega (arith, bs_length)) all_count)

  pub summed_all : m.kept * 2 ^ 56 / sum ≡ forecast_of bs
  unfolding forecast_of
  summed_all = rw w.none summed_mean

-- ---- the three answers to a forecast

module _ (m : Meter) where
  pub forecasts_disorder : in_order (samples_of m) ≡ false → Err 10 ≡ answer_of m
  unfolding answer_of
  forecasts_disorder e = rw e

  module _ (ordered : in_order (samples_of m) ≡ true) where
    pub forecasts_none : m.kept ≡ 0 → Err 12 ≡ answer_of m
    unfolding answer_of
    forecasts_none e = rw (ordered, le-ltb 0 (length (samples_of m)) (omega (arith, length_up_to (cell m) m.kept)))

    pub forecasts_bytes : 0 < m.kept → Ok (forecast_of (bytes_of (samples_of m))) ≡ answer_of m
    unfolding answer_of
    forecasts_bytes h = rw (ordered, lt-ltb 0 (length (samples_of m)) (omega (arith, length_up_to (cell m) m.kept)))
