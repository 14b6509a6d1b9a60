-- Laws on results that are copied into lent slices. Assumes nothing.
use mathlib.Core.Path.{◌≡◌, sym, ◌∙◌, ap}
use mathlib.Core.Bool.{Bool, true, ◌&&◌}
use mathlib.Core.List.{List, map}
use Prim.Native.Nat.{ℕ, ◌+◌, ◌≤◌, ◌<◌}
use native.Mathlib.Omega.{arith}
use native.Mathlib.Numerals.{add-one}
use lib.ListN.{length, get_or, set, take, drop, length-map, length-set}
use lib.Seq.{take-suc, take_at, length-take-le}
use lib.Dec.{leb}
use borrow.Author.Tests.{le-leb}
use Rattle.theory_basics.specs.Lent.{over}
use Rattle.theory_basics.proofs.Lent.{over_long, over_next}
use Rattle.theory_basics.specs.lemmas.Tests.{tests, true_T}
use Rattle.fetch.specs.Rows.{Row, row_bytes, row_chunk, row_layer, row_slot}
use Rattle.core_slices.specs.lemmas.Slices.{Result, rows_hold, Stands}

-- ---- a copy

pub record Copied (from old to : List ℕ) (n i : ℕ) : Type 0 where
  pub within : i ≤ n
  pub says : to ≡ over (take i from) old
  pub long : length to ≡ length old

pub copied_more : (from old to : List ℕ) (n i : ℕ) → Copied from old to n i → i < n → n ≤ length from → n ≤ length old → Copied from old (set to i (get_or from i 0)) n (i + 1)
copied_more from old to n i s h a b =
    let e = length-take-le i from (omega arith) in
    let l : i < length from = omega arith in
    record {
      within = omega arith;
      says = rw (add-one, take-suc from i 0, s.says) (ap (λ (k : ℕ). set (over (take i from) old) k (get_or from i 0)) (sym e) ∙ over_next (take i from) old (get_or from i 0) (omega (arith, e)));
      long = simp length-set s.long;
    }

-- ---- room

pub four_hold : {holds : Bool} (n a b c d : ℕ) → holds ≡ leb n a && (leb n b && (leb n c && leb n d)) → holds ≡ true → (n ≤ a) × (n ≤ b) × (n ≤ c) × (n ≤ d)
four_hold n a b c d e t =
    let u = simp tests at (true_T (leb n a && (leb n b && (leb n c && leb n d))) (sym e ∙ t)) in
    (u.0, u.1.0, u.1.1.0, u.1.1.1)

-- Where there is room for more rows there is room for n.
pub fewer_hold : {holds : Bool} (more n : ℕ) (slots cs ls bytes : List ℕ) → holds ≡ rows_hold more slots cs ls bytes → holds ≡ true → n ≤ more → rows_hold n slots cs ls bytes ≡ true
fewer_hold more n slots cs ls bytes e t h =
    let four = four_hold more (length slots) (length cs) (length ls) (length bytes) e t in
    rw (le-leb n (length slots) (omega (arith, four.0)), le-leb n (length cs) (omega (arith, four.1)), le-leb n (length ls) (omega (arith, four.2)), le-leb n (length bytes) (omega (arith, four.3)))

-- ---- a result laid out aside

-- What was laid out aside, copied into a lent slice.
pub copied_over : (t aside aside' to to' : List ℕ) (n : ℕ) → aside' ≡ over t aside → length t ≡ n → to' ≡ over (take n aside') to → to' ≡ over t to
copied_over t aside aside' to to' n e f g = g ∙ ap (λ (x : List ℕ). over x to) (ap (take n) e ∙ take_at t (drop (length t) aside) n f)

-- What stands aside is long enough to be copied.
pub long_aside : (t old new : List ℕ) → new ≡ over t old → length t ≤ length old → length t ≤ length new
long_aside t old new e f = omega (arith, ap length e ∙ over_long t old f)

-- So for a whole result.
module _ {x : Result} {n : ℕ} {counts ms ss cs ls bs ms' ss' cs' ls' bs' : List ℕ} (s : Stands x n counts ms ss cs ls bs ms' ss' cs' ls' bs') where
  column : (f : Row → ℕ) → length (map f x.rows) ≡ n
  column f = length-map x.rows f ∙ sym s.rows_are

  column_aside : (f : Row → ℕ) (old new : List ℕ) → new ≡ over (map f x.rows) old → {most : ℕ} → n ≤ most → length old ≡ most → n ≤ length new
  column_aside f old new e h l = omega (arith, column f, long_aside (map f x.rows) old new e (omega (arith, column f)))

  pub slots_aside : {most : ℕ} → n ≤ most → length ss ≡ most → n ≤ length ss'
  slots_aside = column_aside row_slot ss ss' s.slots_are

  pub chunks_aside : {most : ℕ} → n ≤ most → length cs ≡ most → n ≤ length cs'
  chunks_aside = column_aside row_chunk cs cs' s.chunks_are

  pub layers_aside : {most : ℕ} → n ≤ most → length ls ≡ most → n ≤ length ls'
  layers_aside = column_aside row_layer ls ls' s.layers_are

  pub bytes_aside : {most : ℕ} → n ≤ most → length bs ≡ most → n ≤ length bs'
  bytes_aside = column_aside row_bytes bs bs' s.bytes_are

  module _ (count : ℕ) (long : length x.marks ≡ count) where
    pub marks_aside : {most : ℕ} → count ≤ most → length ms ≡ most → count ≤ length ms'
    marks_aside h l = omega (arith, long, long_aside x.marks ms ms' s.marks_are (omega (arith, long)))

    pub copied :
        {marks slots chunks layers bytes marks' slots' chunks' layers' bytes' : List ℕ} →
        marks' ≡ over (take count ms') marks → slots' ≡ over (take n ss') slots → chunks' ≡ over (take n cs') chunks →
        layers' ≡ over (take n ls') layers → bytes' ≡ over (take n bs') bytes →
        Stands x n counts marks slots chunks layers bytes marks' slots' chunks' layers' bytes'
    copied ma sl ch la by =
        record {
          rows_are = s.rows_are;
          counts_are = s.counts_are;
          marks_are = copied_over x.marks ms ms' _ _ count s.marks_are long ma;
          slots_are = copied_over (map row_slot x.rows) ss ss' _ _ n s.slots_are (column row_slot) sl;
          chunks_are = copied_over (map row_chunk x.rows) cs cs' _ _ n s.chunks_are (column row_chunk) ch;
          layers_are = copied_over (map row_layer x.rows) ls ls' _ _ n s.layers_are (column row_layer) la;
          bytes_are = copied_over (map row_bytes x.rows) bs bs' _ _ n s.bytes_are (column row_bytes) by;
        }
