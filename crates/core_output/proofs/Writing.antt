-- Laws on what tables tell, handed over: where there is room for any, where it is laid out aside,
-- and where it does not fit. Assumes nothing.
use mathlib.Core.Path.{◌≡◌, refl, sym, ◌∙◌, ap, subst}
use mathlib.Core.Bool.{Bool, true, false}
use mathlib.Core.List.{List, [], ◌++◌, map, append-nil}
use Prim.Native.Nat.{ℕ, zero, suc, ◌+◌, ◌-◌, ◌≤◌}
use native.Mathlib.Omega.{arith}
use lib.ListN.{length, get_or, take, drop}
use lib.Seq.{take_at}
use Rattle.theory_basics.specs.Lent.{over}
use Rattle.theory_basics.specs.Lists.{up_to}
use Rattle.theory_basics.proofs.Lent.{over_long}
use Rattle.theory_basics.specs.lemmas.Lists.{length_up_to}
use Rattle.fetch.specs.Counts.{mark_count}
use Rattle.fetch.specs.Rows.{Row, row_slot, row_chunk, row_layer, row_bytes}
use Rattle.theory_plan.specs.lemmas.Fill.{fill}
use Rattle.core_decide.specs.lemmas.Marks.{mark_or}
use Rattle.core_fill.proofs.Pieces.{same_refl}
use Rattle.core_fill.specs.declared.Position.{Position}
use Rattle.core_fill.specs.lemmas.Filling.{bytes_at, last_of, Made, onward, PutPost}
use Rattle.core_fill.specs.lemmas.Left.{queue_in}
use Rattle.core_slices.proofs.Laws.{copied, fewer_hold, four_hold, marks_aside}
use Rattle.core_slices.specs.lemmas.Slices.{Result, rows_hold, Stands}
use Rattle.core_output.specs.declared.Filled.{Filled}
use Rattle.core_output.specs.declared.Output.{Output}
use Rattle.core_output.specs.lemmas.Writing.{begins, FillPre, FillPost, marks_in, over_if, rows_in, told, WritePre, WritePost}

-- ---- the marks

module _ (count first : ℕ) (ids mark whole marks : List ℕ) {marks' : List ℕ} (e : marks' ≡ over (marks_in count first ids mark whole) marks) where
  many_marks : length (marks_in count first ids mark whole) ≡ count
  many_marks = length_up_to (λ i. mark_or (get_or whole i 0) (i + 1) (drop first ids) (drop first mark)) count

  pub marks_stay_long : count ≤ length marks → length marks' ≡ length marks
  marks_stay_long fit = ap length e ∙ over_long (marks_in count first ids mark whole) marks (omega (arith, many_marks))

  front : take count marks' ≡ marks_in count first ids mark whole
  front = ap (take count) e ∙ take_at (marks_in count first ids mark whole) (drop (length (marks_in count first ids mark whole)) marks) count many_marks

  pub front_long : length (take count marks') ≡ count
  front_long = ap length front ∙ many_marks

  front_counts : {counts : List ℕ} → counts ≡ up_to (λ n. mark_count n (take count marks')) 4 → counts ≡ up_to (λ n. mark_count n (marks_in count first ids mark whole)) 4
  front_counts e' = e' ∙ ap (λ (m : List ℕ). up_to (λ n. mark_count n m) 4) front

-- ---- the rows

fill_none : (B : ℕ → ℕ) (n t : ℕ) → fill B n t [] ≡ []
fill_none B zero t = refl
fill_none B (suc n) t = fill_none B n (suc t)

nothing_left : (start : ℕ) (part : List ℕ) (t c : ℕ) → onward start part t c [] ≡ []
unfolding onward
nothing_left start part t c = fill_none (bytes_at start part) (last_of start part - t) t

-- What the fill, the marks and their counts leave in the slices is what the tables tell.
pub filled :
    (count start : ℕ) (part : List ℕ) (afresh : Bool) (own : ℕ → ℕ → ℕ) (first : ℕ) (ids ready mark whole marks : List ℕ) {k : ℕ} {ss cs ls bs : List ℕ} {r : Position}
    {marks' ss' cs' ls' bs' counts : List ℕ} →
    PutPost start part (queue_in afresh own (drop first ids) (drop first ready) (drop first mark)) k (begins start part) ss cs ls bs r ss' cs' ls' bs' →
    marks' ≡ over (marks_in count first ids mark whole) marks → counts ≡ up_to (λ n. mark_count n (take count marks')) 4 →
    Stands (told count start part afresh own first ids ready mark whole) r.rows counts marks ss cs ls bs marks' ss' cs' ls' bs'
filled count start part afresh own first ids ready mark whole marks {k} {ss} {cs} {ls} {bs} {r} y em ec =
    let q = queue_in afresh own (drop first ids) (drop first ready) (drop first mark) in
    let rows : List Row = rows_in start part afresh own first ids ready mark in
    let begin : Made rows start part ss cs ls bs (q ++ []) ss cs ls bs (begins start part) =
    record { made = []; says = ap (onward start part start (get_or part 0 0)) (sym (append-nil q)); slots = refl; chunks = refl; layers = refl; bytes = refl; counted = refl; long = same_refl ss cs ls bs } in
    let m = y.makes rows ss cs ls bs [] begin in
    let e : m.made ≡ rows = sym (m.says ∙ ap (λ (l : List Row). m.made ++ l) (nothing_left start part r.slot r.left) ∙ append-nil m.made) in
    record {
      rows_are = m.counted ∙ ap length e;
      counts_are = front_counts count first ids mark whole marks em ec;
      marks_are = em;
      slots_are = m.slots ∙ ap (λ (l : List Row). over (map row_slot l) ss) e;
      chunks_are = m.chunks ∙ ap (λ (l : List Row). over (map row_chunk l) cs) e;
      layers_are = m.layers ∙ ap (λ (l : List Row). over (map row_layer l) ls) e;
      bytes_are = m.bytes ∙ ap (λ (l : List Row). over (map row_bytes l) bs) e;
    }

-- ---- the parts put together

module _ {x : Result} {marks slots cs layers bytes : List ℕ} (r : Output) {marks' slots' cs' layers' bytes' : List ℕ} where
  -- The result, whole.
  lays_whole :
      r.whole ≡ true → rows_hold (length x.rows) slots cs layers bytes ≡ true → {made : Filled} → r.rows ≡ made.rows → r.counts ≡ made.counts →
      FillPost x marks slots cs layers bytes made marks' slots' cs' layers' bytes' → WritePost x marks slots cs layers bytes r marks' slots' cs' layers' bytes'
  lays_whole w h n k l =
      record {
        whole = w ∙ sym h;
        rows = n ∙ l.rows_are;
        counts = k ∙ l.counts_are;
        marks_are = rw w l.marks_are;
        slots_are = rw w l.slots_are;
        chunks_are = rw w l.chunks_are;
        layers_are = rw w l.layers_are;
        bytes_are = rw w l.bytes_are;
      }

-- Nothing.
lays_none :
    {x : Result} {marks slots cs layers bytes : List ℕ} (r : Output) → r.whole ≡ false →
    rows_hold (length x.rows) slots cs layers bytes ≡ false → r.rows ≡ length x.rows → r.counts ≡ x.counts →
    WritePost x marks slots cs layers bytes r marks slots cs layers bytes
lays_none r w h n k =
    record { whole = w ∙ sym h; rows = n; counts = k; marks_are = sym (rw w); slots_are = sym (rw w); chunks_are = sym (rw w); layers_are = sym (rw w); bytes_are = sym (rw w) }

module _ {count start : ℕ} {part : List ℕ} {afresh : Bool} {own : ℕ → ℕ → ℕ} {first : ℕ} {ids ready mark whole marks : List ℕ} (o : WritePre count start part afresh own first ids ready mark whole marks) where
  abbrev result : Result
  result = told count start part afresh own first ids ready mark whole

  -- ---- room for any plan

  module _ {slots cs layers bytes : List ℕ} {b : Bool} (e : b ≡ rows_hold 5599 slots cs layers bytes) (t : b ≡ true) where
    pub ample : FillPre count start part afresh own first ids ready mark whole marks slots cs layers bytes
    ample =
        let four = four_hold 5599 (length slots) (length cs) (length layers) (length bytes) e t in
        record { from = o; slots_fit = four.0; chunks_fit = four.1; layers_fit = four.2; bytes_fit = four.3 }

    pub laid_ample :
        {made : Filled} {marks' slots' cs' layers' bytes' : List ℕ} → FillPost result marks slots cs layers bytes made marks' slots' cs' layers' bytes' →
        (r : Output) → r.whole ≡ true → r.rows ≡ made.rows → r.counts ≡ made.counts → WritePost result marks slots cs layers bytes r marks' slots' cs' layers' bytes'
    laid_ample l r w n k = lays_whole r w (fewer_hold 5599 (length result.rows) slots cs layers bytes e t o.few_rows) n k l

  -- ---- laid out aside

  pub aside_from :
      {ms ss cs ls bs : List ℕ} → length ms ≡ 500 → length ss ≡ 5599 → length cs ≡ 5599 → length ls ≡ 5599 → length bs ≡ 5599 →
      FillPre count start part afresh own first ids ready mark whole ms ss cs ls bs
  aside_from em es ec el eb =
      record {
        from = record { some_slot = o.some_slot; fills = o.fills; few_rows = o.few_rows; within = o.within; few = o.few; ascending = o.ascending; long = o.long; marks_fit = omega (arith, o.few) };
        slots_fit = omega arith;
        chunks_fit = omega arith;
        layers_fit = omega arith;
        bytes_fit = omega arith;
      }

  module _ {ms ss cs ls bs : List ℕ} {made : Filled} {ms' ss' cs' ls' bs' : List ℕ} (l : FillPost result ms ss cs ls bs made ms' ss' cs' ls' bs') where
    marks_count : length result.marks ≡ count
    marks_count = length_up_to (λ i. mark_or (get_or whole i 0) (i + 1) (drop first ids) (drop first mark)) count

    pub few_aside : made.rows ≤ 5599
    few_aside = omega (arith, o.few_rows, l.rows_are)

    pub marks_room : length ms ≡ 500 → count ≤ length ms'
    marks_room = marks_aside l count marks_count o.few

    -- Copied into the lent slices, or not.
    module _ (slots chs layers bytes : List ℕ) {b : Bool} (e : b ≡ rows_hold made.rows slots chs layers bytes) (r : Output) (n : r.rows ≡ made.rows) (k : r.counts ≡ made.counts) where
      holds : (v : Bool) → b ≡ v → rows_hold (length result.rows) slots chs layers bytes ≡ v
      holds v t = ap (λ (m : ℕ). rows_hold m slots chs layers bytes) (sym l.rows_are) ∙ sym e ∙ t

      pub laid_copied :
          b ≡ true → r.whole ≡ true → {marks' slots' chs' layers' bytes' : List ℕ} → marks' ≡ over (take count ms') marks →
          slots' ≡ over (take made.rows ss') slots → chs' ≡ over (take made.rows cs') chs → layers' ≡ over (take made.rows ls') layers →
          bytes' ≡ over (take made.rows bs') bytes → WritePost result marks slots chs layers bytes r marks' slots' chs' layers' bytes'
      laid_copied t w ma sl ch la by = lays_whole r w (holds true t) n k (copied l count marks_count ma sl ch la by)

      pub laid_short : b ≡ false → r.whole ≡ false → WritePost result marks slots chs layers bytes r marks slots chs layers bytes
      laid_short t w = lays_none r w (holds false t) (n ∙ l.rows_are) (k ∙ l.counts_are)

-- ---- what a caller reads off

-- Where the slices don't hold the result whole, they are as they were.
pub unlaid :
    {x : Result} {marks slots cs layers bytes : List ℕ} {made : Output} {marks' slots' cs' layers' bytes' : List ℕ} →
    WritePost x marks slots cs layers bytes made marks' slots' cs' layers' bytes' → made.whole ≡ false →
    (P : (marks slots cs layers bytes : List ℕ) → Type 0) → P marks slots cs layers bytes → P marks' slots' cs' layers' bytes'
unlaid {x} {marks} {slots} {cs} {layers} {bytes} {made} {marks'} {slots'} {cs'} {layers'} {bytes'} l t P p =
    let back : (result old new : List ℕ) → new ≡ over_if made.whole result old → old ≡ new = λ result old new e. sym (e ∙ rw t) in
    subst (λ (q : List ℕ). P q slots' cs' layers' bytes') (back x.marks marks marks' l.marks_are)
    (subst (λ (q : List ℕ). P marks q cs' layers' bytes') (back (map row_slot x.rows) slots slots' l.slots_are)
    (subst (λ (q : List ℕ). P marks slots q layers' bytes') (back (map row_chunk x.rows) cs cs' l.chunks_are)
    (subst (λ (q : List ℕ). P marks slots cs q bytes') (back (map row_layer x.rows) layers layers' l.layers_are)
    (subst (λ (q : List ℕ). P marks slots cs layers q) (back (map row_bytes x.rows) bytes bytes' l.bytes_are) p))))
