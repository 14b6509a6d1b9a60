-- Laws on rule 2 of the second call by tables: a flag for each layer with a row from the slot on.
-- Assumes nothing.
use Prim.Native.Nat.{ℕ, zero, suc, ◌+◌, ◌*◌, ◌-◌, ◌≤◌, ◌<◌}
use mathlib.Core.Path.{◌≡◌, refl, sym, ap, ◌∙◌}
use mathlib.Core.Bool.{Bool, true, false, not, ◌&&◌, ◌||◌, and-false, and-true, or-true}
use mathlib.Core.List.{List}
use mathlib.Core.Logic.{⊎_elim}
use native.Mathlib.Omega.{arith}
use native.Mathlib.Numerals.{add-one}
use lib.ListN.{length, set, replicate, get_or-replicate}
use lib.Seq.{get_or-set_other, get_or-set_same}
use lib.Dec.{eqb, ltb}
use borrow.Author.Tests.{eqb-false, eqb-true, le-ltb, lt-ltb}
use Rattle.theory_basics.specs.Lists.{up_to}
use Rattle.theory_basics.specs.Tests.{all}
use Rattle.theory_basics.specs.lemmas.Tests.{T_true, all_snoc, and_T, last, true_T}
use Rattle.fetch.specs.Rows.{Row, row_at, rows_of}
use Rattle.fetch.specs.VerdictFrom.{layer_before}
use Rattle.fetch.specs.Slices.{RowSlices, rows_in}
use Rattle.core_rules.proofs.Rows.{places}
use Rattle.core_rules.specs.lemmas.Tables.{in_range}
use Rattle.checker.specs.lemmas.Judged.{InTables, MarkLatePost, Placed, early}

-- A test that every row of a run passes, each passes.
all_each : (p : Row → Bool) (f : ℕ → Row) (n : ℕ) → all p (up_to f n) ≡ true → (k : ℕ) → k < n → p (f k) ≡ true
all_each p f zero e k h = absurd (omega arith)
all_each p f (suc n) e k h =
    let u = and_T (all p (up_to f n)) (p (f n)) (true_T (all p (up_to f n) && p (f n)) (sym (all_snoc p (up_to f n) (f n)) ∙ e)) in
    ⊎_elim
    (λ l. all_each p f n (T_true (all p (up_to f n)) u.0) k l)
    (λ q. let s : k ≡ n = omega arith in rw s (T_true (p (f n)) u.1))
    (last (suc k) n h)

-- Rows in range of a job of so many slots, chunks and layers have places.
pub in_tables :
    (last count depth : ℕ) (r : RowSlices) → all (in_range last count depth) (rows_in r) ≡ true → last ≤ 3600 → count ≤ 500 → depth ≤ 4 →
    length r.slots ≡ length r.chunks → length r.slots ≡ length r.layers → InTables r
in_tables last count depth r e few small deep c l =
    record {
      placed = λ k h.
          let its = places last count depth (row_at r.slots r.chunks r.layers r.bytes k) (all_each (in_range last count depth) (row_at r.slots r.chunks r.layers r.bytes) (length r.slots) e k h) few small deep in
          record { chunk_low = its.chunk_low; chunk_high = its.chunk_high; layer_in = its.layer_in };
      chunk_each = c;
      layer_each = l;
    }

-- The flags of the first k rows.
pub record Marking (from : ℕ) (ss cs ls bs : List ℕ) (late : List Bool) (k : ℕ) : Type 0 where
  pub is : (i n : ℕ) → 1 ≤ i → i ≤ 500 → n < 4 → early late i n ≡ layer_before from (up_to (row_at ss cs ls bs) k) i n

pub marking_start : (from : ℕ) (ss cs ls bs : List ℕ) (late : List Bool) → late ≡ replicate 2000 false → Marking from ss cs ls bs late 0
marking_start from ss cs ls bs late e =
    record { is = λ i n u v w. rw (e, get_or-replicate {A = Bool} 2000 (4 * (i - 1) + n) false false (omega arith)) }

module _ {from : ℕ} {ss cs ls bs : List ℕ} {late : List Bool} {k : ℕ} (m : Marking from ss cs ls bs late k) where
  abbrev x : Row
  x = row_at ss cs ls bs k

  abbrev front : List Row
  front = up_to (row_at ss cs ls bs) k

  -- The row counts for layer n of chunk i only if it is of that layer.
  abbrev passes : ℕ → ℕ → Bool
  passes i n = not (eqb x.chunk i && eqb x.layer n) || ltb x.slot from

  one_more : (i n : ℕ) → layer_before from (up_to (row_at ss cs ls bs) (suc k)) i n ≡ layer_before from front i n && passes i n
  one_more i n = all_snoc (λ y. not (eqb y.chunk i && eqb y.layer n) || ltb y.slot from) front x

  pub marking_end : k ≡ length ss → MarkLatePost from (rows_of ss cs ls bs) late
  marking_end e = record { is = λ i n u v w. rw e at (m.is i n u v w) }

  -- A row before the slot sets nothing.
  pub marking_early : x.slot < from → Marking from ss cs ls bs late (k + 1)
  marking_early e =
      rw add-one (record {
        is = λ i n u v w.
            m.is i n u v w
            ∙ sym (one_more i n ∙ ap (λ (b : Bool). layer_before from front i n && b) (rw (lt-ltb x.slot from e) (or-true (not (eqb x.chunk i && eqb x.layer n)))) ∙ and-true (layer_before from front i n));
      })

  abbrev at : ℕ
  at = 4 * (x.chunk - 1) + x.layer

  pub marking_late : length late ≡ 2000 → Placed x → from ≤ x.slot → Marking from ss cs ls bs (set late at true) (k + 1)
  marking_late long f e = rw add-one (record { is = λ i n u v w. case i n u v w (eqb x.chunk i) refl (eqb x.layer n) refl })
    where
      -- The row is of layer n of chunk i, or it is not.
      case :
          (i n : ℕ) → 1 ≤ i → i ≤ 500 → n < 4 → (a : Bool) → eqb x.chunk i ≡ a → (b : Bool) → eqb x.layer n ≡ b →
          early (set late at true) i n ≡ layer_before from (up_to (row_at ss cs ls bs) (suc k)) i n
      case i n u v w true p true q =
          let c : x.chunk ≡ i = eqb-true x.chunk i p in
          let l : x.layer ≡ n = eqb-true x.layer n q in
          let place : 4 * (i - 1) + n ≡ at = rw (c, l) in
          let off : passes i n ≡ false = rw (p, q, le-ltb x.slot from e) in
          rw (place, get_or-set_same late at true false (omega (arith, long, f.chunk_low, f.chunk_high, f.layer_in)))
          (sym (one_more i n ∙ ap (λ (b : Bool). layer_before from front i n && b) off ∙ and-false (layer_before from front i n)))
      case i n u v w true p false q =
          let on : passes i n ≡ true = rw (p, q) in
          rw (get_or-set_other late at (4 * (i - 1) + n) true false (λ z. eqb-false x.layer n q (omega (arith, f.layer_in, eqb-true x.chunk i p))))
          (m.is i n u v w ∙ sym (one_more i n ∙ ap (λ (b : Bool). layer_before from front i n && b) on ∙ and-true (layer_before from front i n)))
      case i n u v w false p b q =
          let on : passes i n ≡ true = rw p in
          rw (get_or-set_other late at (4 * (i - 1) + n) true false (λ z. eqb-false x.chunk i p (omega (arith, f.layer_in, f.chunk_low))))
          (m.is i n u v w ∙ sym (one_more i n ∙ ap (λ (b : Bool). layer_before from front i n && b) on ∙ and-true (layer_before from front i n)))
