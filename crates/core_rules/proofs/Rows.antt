-- Lemmas. The pass over the rows: tables after one row more, rules 1 and 5 so far. Assumes nothing.
use Prim.Native.Nat.{ℕ, zero, suc, ◌+◌, ◌*◌, ◌-◌, ◌≤◌, ◌<◌, min}
use mathlib.Core.Path.{◌≡◌, refl, sym, ap, ◌∙◌}
use mathlib.Core.Bool.{Bool, true, false, cond, ◌&&◌, and-false}
use mathlib.Core.List.{List, [], ◌∷◌, ◌++◌}
use mathlib.Core.Logic.{⊎_elim}
use native.Mathlib.Omega.{arith}
use native.Mathlib.Numerals.{add-one}
use lib.ListN.{length, get_or, set, length-set, replicate, get_or-replicate}
use lib.Seq.{get_or-set_same, get_or-set_other}
use lib.Dec.{T, eqb}
use borrow.Author.Tests.{eqb-true, eqb-false}
use Rattle.theory_basics.specs.Tests.{all}
use Rattle.theory_basics.specs.lemmas.Tests.{last, true_T, tests, all_snoc}
use Rattle.theory_basics.specs.Lists.{up_to}
use Rattle.job.specs.declared.Programme.{Programme}
use Rattle.fetch.specs.Rows.{Row, row_at, rows_of, bytes_in_slot, bytes_of_layer}
use Rattle.fetch.specs.lemmas.Rows.{bytes_snoc}
use Rattle.core_rules.specs.lemmas.Tables.{cap, in_range, on_time, first_of, Tallied, TallyPost}

-- ---- one row more

first_snoc : (i : ℕ) (l : List Row) (x : Row) → first_of i (l ++ (x ∷ [])) ≡ min (first_of i l) (cond (eqb x.chunk i) x.slot 65535)
first_snoc i [] x = omega arith
first_snoc i (y ∷ l) x = omega (arith, first_snoc i l x)

first_small : (i : ℕ) (l : List Row) → first_of i l ≤ 65535
first_small i [] = omega arith
first_small i (y ∷ l) = omega (arith, first_small i l)

-- A test that fails at one place fails of the whole.
all_not : (p : Row → Bool) (f : ℕ → Row) (i n : ℕ) → i < n → p (f i) ≡ false → all p (up_to f n) ≡ false
all_not p f i zero h e = absurd (omega arith)
all_not p f i (suc n) h e =
    all_snoc p (up_to f n) (f n)
    ∙ ⊎_elim
    (λ l. ap (λ (b : Bool). b && p (f n)) (all_not p f i n l e))
    (λ q. let s : i ≡ n = omega arith in rw (sym s, e) (and-false (all p (up_to f i))))
    (last (suc i) n h)

-- ---- the tables

rep_at : (n v k : ℕ) → k < n → get_or (replicate n v) k 0 ≡ v
rep_at n v k h = get_or-replicate {A = ℕ} n k v 0 h

tallied_none : Tallied [] (replicate 3601 0) (replicate 2000 0) (replicate 501 65535)
tallied_none = record {
  by_slot = λ t h. rw (rep_at 3601 0 t (omega arith)) (omega arith);
  by_layer = λ i n a b d. rw (rep_at 2000 0 (4 * (i - 1) + n) (omega arith)) (omega arith);
  firsts = λ i a b. rep_at 501 65535 i (omega arith);
  some_slot = λ i a b. rw (rep_at 501 65535 i (omega arith)) (omega arith);
}

module _ (l : List Row) (T L F : List ℕ) (s c n b : ℕ) (h : Tallied l T L F) (long : (length T ≡ 3601) × (length L ≡ 2000) × (length F ≡ 501)) (hs : s ≤ 3600) (hs' : 1 ≤ s) (hc : 1 ≤ c) (hc' : c ≤ 500) (hn : n < 4) where
  abbrev x : Row
  x = record { slot = s; chunk = c; layer = n; bytes = b }

  abbrev at : ℕ
  at = 4 * (c - 1) + n

  abbrev T' : List ℕ
  T' = set T s (min cap (get_or T s 0 + b))

  abbrev L' : List ℕ
  L' = set L at (min cap (get_or L at 0 + b))

  abbrev F' : List ℕ
  F' = set F c (min (get_or F c 0) s)

  slot_case : (t : ℕ) → t ≤ 3600 → (e : Bool) → eqb s t ≡ e → get_or T' t 0 ≡ min cap (bytes_in_slot l t + cond e b 0)
  slot_case t w true e =
      let q : s ≡ t = eqb-true _ _ e in
      rw (sym q, get_or-set_same T s (min cap (get_or T s 0 + b)) 0 (omega arith)) (omega (arith, h.by_slot s hs, ap (λ (y : ℕ). bytes_in_slot l y) q))
  slot_case t w false e =
      rw (get_or-set_other T s t (min cap (get_or T s 0 + b)) 0 (λ q. eqb-false _ _ e (sym q))) (omega (arith, h.by_slot t w))

  layer_case : (i m : ℕ) → 1 ≤ i → i ≤ 500 → m < 4 → (e : Bool) → eqb c i ≡ e → (g : Bool) → eqb n m ≡ g → get_or L' (4 * (i - 1) + m) 0 ≡ min cap (bytes_of_layer l i m + cond (e && g) b 0)
  layer_case i m u v w true e true g =
      let q : c ≡ i = eqb-true _ _ e in
      let r : n ≡ m = eqb-true _ _ g in
      rw (sym q, sym r, get_or-set_same L at (min cap (get_or L at 0 + b)) 0 (omega arith))
      (omega (arith, h.by_layer c n hc hc' hn))
  layer_case i m u v w true e false g =
      let r : n ≡ m → ⊥ = eqb-false _ _ g in
      rw (get_or-set_other L at (4 * (i - 1) + m) (min cap (get_or L at 0 + b)) 0 (λ q. r (omega arith))) (omega (arith, h.by_layer i m u v w))
  layer_case i m u v w false e g f =
      let r : c ≡ i → ⊥ = eqb-false _ _ e in
      rw (get_or-set_other L at (4 * (i - 1) + m) (min cap (get_or L at 0 + b)) 0 (λ q. r (omega arith))) (omega (arith, h.by_layer i m u v w))

  first_case : (i : ℕ) → 1 ≤ i → i ≤ 500 → (e : Bool) → eqb c i ≡ e → (get_or F' i 0 ≡ min (first_of i l) (cond e s 65535)) × (1 ≤ get_or F' i 0)
  first_case i u v true e =
      let q : c ≡ i = eqb-true _ _ e in
      rw (sym q, get_or-set_same F c (min (get_or F c 0) s) 0 (omega arith))
      (omega (arith, h.firsts c hc hc'), omega (arith, h.some_slot c hc hc'))
  first_case i u v false e =
      rw (get_or-set_other F c i (min (get_or F c 0) s) 0 (λ q. eqb-false _ _ e (sym q)))
      (omega (arith, h.firsts i u v, first_small i l), h.some_slot i u v)

  tallied_more : Tallied (l ++ (x ∷ [])) T' L' F'
  tallied_more = record {
    by_slot = λ t w. slot_case t w (eqb s t) refl ∙ ap (min cap) (sym (bytes_snoc (λ y. eqb y.slot t) l x));
    by_layer = λ i m u v w. layer_case i m u v w (eqb c i) refl (eqb n m) refl ∙ ap (min cap) (sym (bytes_snoc (λ y. eqb y.chunk i && eqb y.layer m) l x));
    firsts = λ i u v. (first_case i u v (eqb c i) refl).0 ∙ sym (first_snoc i l x);
    some_slot = λ i u v. (first_case i u v (eqb c i) refl).1;
  }

-- What rule 1 of a row says of its places in the tables.
pub record Places (x : Row) : Type 0 where
  pub slot_low : 1 ≤ x.slot
  pub slot_high : x.slot ≤ 3600
  pub chunk_low : 1 ≤ x.chunk
  pub chunk_high : x.chunk ≤ 500
  pub layer_in : x.layer < 4

pub places : (D C K : ℕ) (x : Row) → in_range D C K x ≡ true → D ≤ 3600 → C ≤ 500 → K ≤ 4 → Places x
places D C K x e d c k =
    let u = simp tests at (true_T (in_range D C K x) e) in
    omega arith

-- ---- the pass

pub record Tallying (p : Programme) (last depth : ℕ) (ss cs ls bs T L F : List ℕ) (timely : Bool) (i : ℕ) : Type 0 where
  pub tables : Tallied (up_to (row_at ss cs ls bs) i) T L F
  pub ranged : all (in_range last p.chunks depth) (up_to (row_at ss cs ls bs) i) ≡ true
  pub timed : timely ≡ all (on_time p) (up_to (row_at ss cs ls bs) i)

module _ (p : Programme) (D K : ℕ) (ss cs ls bs : List ℕ) where
  pub tallying_start : (T L F : List ℕ) → T ≡ replicate 3601 0 → L ≡ replicate 2000 0 → F ≡ replicate 501 65535 → Tallying p D K ss cs ls bs T L F true 0
  tallying_start T L F a b c = record { tables = rw (a, b, c) tallied_none; ranged = refl; timed = refl }

  module _ (T L F : List ℕ) (timely : Bool) (i : ℕ) (t : Tallying p D K ss cs ls bs T L F timely i) where
    abbrev now_row : Row
    now_row = row_at ss cs ls bs i

    pub tallying_end : i ≡ length ss → TallyPost p D K (rows_of ss cs ls bs) (record { ranged = true; timely = timely }) T L F
    tallying_end e =
        record {
          ranged = sym (rw e at t.ranged);
          timely = λ _. rw e at t.timed;
          tables = λ _. rw e at t.tables;
        }

    -- by the test of the row for rule 1
    module _ (h : i < length ss) (b : Bool) (s : b ≡ in_range D p.chunks K now_row) where
      pub tallying_stop : b ≡ false → TallyPost p D K (rows_of ss cs ls bs) (record { ranged = false; timely = false }) T L F
      tallying_stop e =
          record {
            ranged = sym (all_not (in_range D p.chunks K) (row_at ss cs ls bs) i (length ss) h (sym s ∙ e));
            timely = λ q. absurd (let z : ◌≡◌ {A = ℕ} 0 1 = cc in omega arith);
            tables = λ q. absurd (let z : ◌≡◌ {A = ℕ} 0 1 = cc in omega arith);
          }

      module _ (e : b ≡ true) (d : D ≤ 3600) (c : p.chunks ≤ 500) (k : K ≤ 4) where
        f : Places now_row
        f = places D p.chunks K now_row (sym s ∙ e) d c k

        -- What `add_row` asks: places in the tables, and sums that are capped.
        pub tallying_asks : (now_row.slot ≤ 3600) × (1 ≤ now_row.chunk) × (now_row.chunk ≤ 500) × (now_row.layer < 4) × (get_or T now_row.slot 0 ≤ cap) × (get_or L (4 * (now_row.chunk - 1) + now_row.layer) 0 ≤ cap)
        tallying_asks = (
          f.slot_high,
          f.chunk_low,
          f.chunk_high,
          f.layer_in,
          omega (arith, t.tables.by_slot now_row.slot f.slot_high),
          omega (arith, t.tables.by_layer now_row.chunk now_row.layer f.chunk_low f.chunk_high f.layer_in),
        )

        pub tallying_more : (T' L' F' : List ℕ) (timely' : Bool) → (length T' ≡ 3601) × (length L' ≡ 2000) × (length F' ≡ 501)
            → T' ≡ set T now_row.slot (min cap (get_or T now_row.slot 0 + now_row.bytes))
            → L' ≡ set L (4 * (now_row.chunk - 1) + now_row.layer) (min cap (get_or L (4 * (now_row.chunk - 1) + now_row.layer) 0 + now_row.bytes))
            → F' ≡ set F now_row.chunk (min (get_or F now_row.chunk 0) now_row.slot)
            → timely' ≡ timely && on_time p now_row
            → Tallying p D K ss cs ls bs T' L' F' timely' (i + 1)
        tallying_more T' L' F' timely' long x y z w =
            rw (add-one, x, y, z, w) (record {
              tables = tallied_more (up_to (row_at ss cs ls bs) i) T L F now_row.slot now_row.chunk now_row.layer now_row.bytes t.tables (simp length-set at (rw x at long.0), simp length-set at (rw y at long.1), simp length-set at (rw z at long.2)) f.slot_high f.slot_low f.chunk_low f.chunk_high f.layer_in;
              ranged = all_snoc (in_range D p.chunks K) (up_to (row_at ss cs ls bs) i) now_row ∙ rw (t.ranged, sym s ∙ e);
              timed = ap (λ (b : Bool). b && on_time p now_row) t.timed ∙ sym (all_snoc (on_time p) (up_to (row_at ss cs ls bs) i) now_row);
            })
