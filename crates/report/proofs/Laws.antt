-- The table after one row more, and bounds on the sums that are read from it. Assumes nothing.
use Prim.Native.Nat.{ℕ, zero, suc, ◌+◌, ◌*◌, ◌-◌, ◌≤◌, ◌<◌}
use mathlib.Core.Path.{◌≡◌, refl, sym, ◌∙◌}
use mathlib.Core.Bool.{Bool, true, false, cond, ◌&&◌}
use mathlib.Core.List.{List, [], ◌∷◌, ◌++◌}
use native.Mathlib.Omega.{arith}
use native.Mathlib.Numerals.{add-one}
use lib.ListN.{length, get_or, set, length-set, replicate, length-replicate, get_or-replicate}
use lib.Seq.{get_or-set_same, get_or-set_other}
use lib.Dec.{eqb}
use borrow.Author.Tests.{eqb-true, eqb-false}
use Rattle.theory_basics.specs.Lists.{up_to}
use Rattle.core_sizes.specs.Table.{table_at}
use Rattle.fetch.specs.Rows.{Row, row_at, rows_of, bytes_if, bytes_of_layer}
use Rattle.fetch.specs.lemmas.Rows.{bytes_snoc}
use Rattle.theory_basics.specs.lemmas.Ranges.{sum_most, cond_most}
use Rattle.report.specs.lemmas.Bounds.{equal_most}
use Rattle.report.specs.lemmas.Switches.{differences_more, differences_most, last_more}
use Rattle.report.specs.lemmas.Tables.{SizesIn, bytes_at, Summed, carried_by, layers_by, bytes_by, count_by, bytes_to, switch_by, picture_by, change_of, last_of}
use Rattle.std.specs.Prelude.{Option}
use Rattle.std.specs.Option.{option_or}

-- ---- bounds

module _ (sizes table : List ℕ) (h : SizesIn sizes) where
  -- A carried layer has the bytes of its size.
  pub carried_most : (i n : ℕ) → cond (carried_by sizes table i n) (bytes_at table i n) 0 ≤ 16777216
  carried_most i n = equal_most (bytes_at table i n) (table_at sizes i n) 16777216 (h i n)

  pub bytes_most : (depth i : ℕ) → bytes_by sizes table depth i ≤ depth * 16777216
  bytes_most depth i = sum_most (λ n. cond (carried_by sizes table i n) (bytes_at table i n) 0) 16777216 depth (carried_most i)

  pub switch_most : (depth n : ℕ) → switch_by sizes table depth n ≤ n * (depth * 16777216)
  switch_most depth n = differences_most (λ i. carried_by sizes table i 0) (bytes_by sizes table depth) (depth * 16777216) n (bytes_most depth)

-- ---- one layer more, and one chunk

module _ (sizes table : List ℕ) where
  pub layers_more : (n i : ℕ) → layers_by sizes table (n + 1) i ≡ layers_by sizes table n i + cond (carried_by sizes table i n) 1 0
  layers_more n i = rw (add-one n)

  pub bytes_more : (n i : ℕ) → bytes_by sizes table (n + 1) i ≡ bytes_by sizes table n i + cond (carried_by sizes table i n) (bytes_at table i n) 0
  bytes_more n i = rw (add-one n)

  pub count_more : (m n : ℕ) → count_by sizes table (m + 1) n ≡ count_by sizes table m n + cond (carried_by sizes table (m + 1) n) 1 0
  count_more m n = rw (add-one m)

-- ---- the table

-- So many rows of at most so many bytes.
pub rows_most : (p : Row → Bool) (f : ℕ → Row) (most n : ℕ) → ((k : ℕ) → (f k).bytes ≤ most) → bytes_if p (up_to f n) ≤ n * most
rows_most p f most zero h = omega arith
rows_most p f most (suc n) h =
    omega (arith, bytes_snoc p (up_to f n) (f n), rows_most p f most n h, cond_most (p (f n)) (f n).bytes most (h n))

summed_none : Summed [] (replicate 2000 0)
summed_none = record {
  by_layer = λ i n a b d. get_or-replicate {A = ℕ} 2000 (4 * (i - 1) + n) 0 0 (omega arith);
}

module _ (l : List Row) (table : List ℕ) (s c n b : ℕ) (h : Summed l table) (long : length table ≡ 2000) (low : 1 ≤ c) (high : c ≤ 500) (in-layers : n < 4) where
  abbrev x : Row
  x = record { slot = s; chunk = c; layer = n; bytes = b }

  abbrev at : ℕ
  at = 4 * (c - 1) + n

  abbrev next : List ℕ
  next = set table at (bytes_at table c n + b)

  layer_case : (i m : ℕ) → 1 ≤ i → i ≤ 500 → m < 4 → (e : Bool) → eqb c i ≡ e → (g : Bool) → eqb n m ≡ g → bytes_at next i m ≡ bytes_of_layer l i m + cond (e && g) b 0
  layer_case i m u v w true e true g =
      let q : c ≡ i = eqb-true _ _ e in
      let r : n ≡ m = eqb-true _ _ g in
      rw (sym q, sym r, get_or-set_same table at (bytes_at table c n + b) 0 (omega (arith, long))) (omega (arith, h.by_layer c n low high in-layers))
  layer_case i m u v w true e false g =
      let r : n ≡ m → ⊥ = eqb-false _ _ g in
      rw (get_or-set_other table at (4 * (i - 1) + m) (bytes_at table c n + b) 0 (λ q. r (omega arith))) (omega (arith, h.by_layer i m u v w))
  layer_case i m u v w false e g f =
      let r : c ≡ i → ⊥ = eqb-false _ _ e in
      rw (get_or-set_other table at (4 * (i - 1) + m) (bytes_at table c n + b) 0 (λ q. r (omega arith))) (omega (arith, h.by_layer i m u v w))

  summed_more : Summed (l ++ (x ∷ [])) next
  summed_more = record {
    by_layer = λ i m u v w. layer_case i m u v w (eqb c i) refl (eqb n m) refl ∙ sym (bytes_snoc (λ y. eqb y.chunk i && eqb y.layer m) l x);
  }

-- The table of the first i rows.
pub record Summing (ss cs ls bs table : List ℕ) (i : ℕ) : Type 0 where
  pub within : i ≤ length ss
  pub table_is : Summed (up_to (row_at ss cs ls bs) i) table
  pub long : length table ≡ 2000

module _ (ss cs ls bs : List ℕ) where
  pub summing_start : (table : List ℕ) → table ≡ replicate 2000 0 → Summing ss cs ls bs table 0
  summing_start table e = record { within = omega arith; table_is = rw e summed_none; long = rw e (length-replicate {A = ℕ} 2000 0) }

  module _ (table : List ℕ) (i : ℕ) (t : Summing ss cs ls bs table i) where
    -- A sum of at most 5,599 rows of 32 bits.
    pub summing_small : (c n : ℕ) → 1 ≤ c → c ≤ 500 → n < 4 → ((k : ℕ) → get_or bs k 0 ≤ 4294967295) → length ss ≤ 5599 → bytes_at table c n ≤ 35184372088832
    summing_small c n u v w h few =
        omega (
          arith,
          t.table_is.by_layer c n u v w,
          rows_most (λ x. eqb x.chunk c && eqb x.layer n) (row_at ss cs ls bs) 4294967295 i h,
          t.within,
        )

    pub summing_more : i < length ss → 1 ≤ get_or cs i 0 → get_or cs i 0 ≤ 500 → get_or ls i 0 < 4 →
        Summing ss cs ls bs (set table (4 * (get_or cs i 0 - 1) + get_or ls i 0) (bytes_at table (get_or cs i 0) (get_or ls i 0) + get_or bs i 0)) (i + 1)
    summing_more h u v w =
        rw add-one (record {
          within = omega arith;
          table_is = summed_more (up_to (row_at ss cs ls bs) i) table (get_or ss i 0) (get_or cs i 0) (get_or ls i 0) (get_or bs i 0) t.table_is t.long u v w;
          long = simp length-set t.long;
        })

    pub summing_end : length ss ≤ i → Summed (rows_of ss cs ls bs) table
    summing_end h = let e : i ≡ length ss = omega (arith, t.within) in rw e at t.table_is

-- ---- the switch sum, a chunk further

module _ (sizes table : List ℕ) (depth n : ℕ) {last here : Option ℕ} (e : last ≡ last_of (bytes_to sizes table depth n)) (f : here ≡ picture_by sizes table depth (n + 1)) where
  pub last_next : {r : Option ℕ} → r ≡ option_or here last → r ≡ last_of (bytes_to sizes table depth (n + 1))
  last_next h = h ∙ rw (e, f, add-one n) (sym (last_more (λ i. carried_by sizes table i 0) (bytes_by sizes table depth) n))

  pub switch_next : {sum r : ℕ} → sum ≡ switch_by sizes table depth n → r ≡ change_of last here → sum + r ≡ switch_by sizes table depth (n + 1)
  switch_next g h = rw (g, h, e, f, add-one n) (sym (differences_more (λ i. carried_by sizes table i 0) (bytes_by sizes table depth) n))
