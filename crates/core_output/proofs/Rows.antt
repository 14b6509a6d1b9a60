-- Laws on the tables of a decided choice: they tell its own list, its marks and its counts. Assumes
-- nothing.
use mathlib.Core.Path.{◌≡◌, refl, sym, ◌∙◌, ap, subst}
use mathlib.Core.Bool.{false, cond}
use mathlib.Core.List.{List, [], ◌∷◌, ◌++◌, map}
use Prim.Native.Nat.{ℕ, suc, ◌+◌, ◌*◌, ◌-◌, ◌≤◌, ◌<◌}
use native.Mathlib.Omega.{arith}
use lib.ListN.{length, get_or, take, drop, length-drop}
use lib.Dec.{leb, ltb, leb→le, nleb→lt}
use Rattle.theory_basics.specs.Lists.{up_to}
use Rattle.theory_basics.specs.lemmas.Lists.{up_to_cong, all_of_map}
use Rattle.theory_basics.specs.Tests.{All}
use Rattle.theory_basics.specs.lemmas.Tests.{by_cond, all_map}
use Rattle.job.specs.Job.{Job, Accepted, Within, size, chunks, layers, due, forecast, held_most, last_slot}
use Rattle.fetch.specs.Counts.{mark_count}
use Rattle.fetch.specs.Rows.{Row, mark_byte}
use Rattle.theory_plan.specs.lemmas.Ascending.{asc_within}
use Rattle.theory_plan.specs.lemmas.Choice.{fits_weight, kept_asc}
use Rattle.theory_plan.specs.Own.{own_list}
use Rattle.theory_plan.specs.Plan.{kept, after}
use Rattle.theory_plan.specs.lemmas.Fill.{QueuedPiece, Ready, fill, needs}
use Rattle.theory_plan.specs.lemmas.Kept.{picked_each}
use Rattle.theory_plan.specs.lemmas.Linear.{level_of_lem, mark_level}
use Rattle.theory_plan.proofs.OwnFill.{own_list_is}
use Rattle.theory_plan.specs.lemmas.Queue.{feas_relok, pieces, queue, ready_queue, releases, weight, all_ones}
use Rattle.theory_plan.specs.Statement.{Choice, counts_of, marks_of}
use Rattle.theory_plan.proofs.Theorems.{own_list_rows}
use Rattle.theory_plan.specs.lemmas.Sufficiency.{fetch}
use Rattle.theory_plan.specs.lemmas.Trials.{level_mark}
use Rattle.theory_plan.specs.lemmas.Words.{accepted_sized, due_by}
use Rattle.theory_plan.specs.lemmas.Parts.{ForecastPart}
use Rattle.core_decide.specs.lemmas.Accepted as accepted-job
use Rattle.core_decide.specs.lemmas.Marks.{mark_picked, mark_or}
use Rattle.core_output.specs.declared.Output.{Output}
use Rattle.core_output.specs.lemmas.Writing.{begins, Decided, marks_in, own_result, rows_in, told, WritePost, WritePre}
use Rattle.core_fill.specs.lemmas.Filling.{last_of, bytes_at, left_at, onward, load, Fed, Levels, queue_of}
use Rattle.core_fill.specs.lemmas.Left.{PutAllPre}
use Rattle.core_output.proofs.Marks.{counts_are}
use Rattle.core_slices.specs.lemmas.Slices.{Result}
use Rattle.theory_basics.specs.lemmas.Tables.{all_take}
use Rattle.core_fill.proofs.Pieces.{left_next, onward_next}
use Rattle.theory_plan.specs.Bases.{Asc}

-- ---- the queue of the tables

queue_is : (size : ℕ → ℕ → ℕ) (lv : ℕ → ℕ) (ks rs : List ℕ) → All (λ k. lv k ≤ 8) ks → queue_of size ks (take (length ks) rs) (map (λ k. level_mark (lv k)) ks) ≡ queue size lv ks rs
queue_is size lv [] rs a = refl
queue_is size lv (k ∷ ks) [] a = refl
queue_is size lv (k ∷ ks) (r ∷ rs) a =
    ap (λ (n : ℕ). pieces size k r 0 n ++ queue_of size ks (take (length ks) rs) (map (λ k. level_mark (lv k)) ks)) (level_of_lem (lv k) a.0)
    ∙ ap (λ (q : List QueuedPiece). pieces size k r 0 (lv k) ++ q) (queue_is size lv ks rs a.1)

load_needs : (d A : ℕ → ℕ) (q : List QueuedPiece) → load q ≤ needs d A q
load_needs d A [] = omega arith
load_needs d A (p ∷ q) = omega (arith, load_needs d A q)

fed_ready : (d A : ℕ → ℕ) (q : List QueuedPiece) → Ready d A q → Fed A q
fed_ready d A [] r = tt
fed_ready d A (p ∷ q) r = (omega (arith, r.0, load_needs d A (p ∷ q)), r.1, fed_ready d A q r.2)

-- ---- what holds of the kept chunks

each_kept : (P : ℕ → Type 0) (c lo : ℕ) (ks : List ℕ) → Asc lo c ks → 1 ≤ lo → ((k : ℕ) → 1 ≤ k → k ≤ c → P k) → All P ks
each_kept P c lo [] a l f = tt
each_kept P c lo (k ∷ ks) a l f = (f k (omega arith) a.1, each_kept P c (suc k) ks a.2 (omega arith) f)

-- ---- of a decided choice

module _
    (count : ℕ) (f : List ℕ) (own : ℕ → ℕ → ℕ) (first : ℕ) (ids ready mark : List ℕ) (j : Job) (x : ℕ → ℕ)
    (o : Decided count f own first ids ready mark j x) where
  ok : Accepted j
  ok = o.accepted

  c : Choice j x
  c = o.choice

  slots_are : length f ≡ last_slot j
  slots_are = ap length o.forecast_is ∙ ok.slots_in

  -- What is left after a slot is what is forecast after it.
  left_is : left_at 1 f ≡ after j
  left_is = ap (left_at 1) o.forecast_is ∙ accepted-job.left_is j ok

  levels_in : All (λ k. (1 ≤ x k) × (x k ≤ 4)) (kept j x)
  levels_in = picked_each (λ i. leb 1 (x i)) (λ k. (1 ≤ x k) × (x k ≤ 4)) 0 (chunks j) (λ i u v t. (leb→le 1 (x i) t, omega (arith, c i u (omega arith), ok.layers_in.high)))

  plan_queue : List QueuedPiece
  plan_queue = queue (size j) x (kept j x) (releases (due j) (held_most j) (kept j x))

  many : length (kept j x) ≡ 500 - first
  many = sym (ap length o.tables.chunks) ∙ length-drop first ids ∙ ap (λ (n : ℕ). n - first) o.tables.long.0

  -- For sizes read from any store that says the job's.
  queued : queue_of own (drop first ids) (drop first ready) (drop first mark) ≡ plan_queue
  unfolding plan_queue
  queued =
      let ks = kept j x in
      let rs = releases (due j) (held_most j) ks in
      ap (λ (z : ℕ → ℕ → ℕ). queue_of z (drop first ids) (drop first ready) (drop first mark)) o.sizes_are
      ∙ ap (λ (l : List ℕ). queue_of (size j) l (drop first ready) (drop first mark)) o.tables.chunks
      ∙ ap (λ (l : List ℕ). queue_of (size j) ks l (drop first mark)) (o.tables.releases_are ∙ ap (λ (n : ℕ). take n rs) (sym many))
      ∙ ap (λ (l : List ℕ). queue_of (size j) ks (take (length ks) rs) l) o.tables.marks
      ∙ queue_is (size j) x ks rs (all_map (λ k. (1 ≤ x k) × (x k ≤ 4)) (λ k. x k ≤ 8) ks (λ k h. omega arith) levels_in)

  plan_ready : (needs (due j) (after j) plan_queue ≤ after j 0) × Ready (due j) (after j) plan_queue
  unfolding plan_queue
  plan_ready =
      let ks = kept j x in
      let w : ℕ → ℕ = λ k. weight (size j) k 0 (x k) in
      let fw = fits_weight j x o.fits in
      let r = ready_queue (due j) (after j) (size j) x 1 (chunks j) (λ k i u v h. accepted_sized j ok k i (record { chunk_low = u; chunk_high = v; layer_in = omega (arith, c k u v) })) (omega arith) ks (releases (due j) (held_most j) ks) (kept_asc j x) (feas_relok w (due j) (after j) (held_most j) ks fw) in
      (omega (arith, r.0, fw.whole), r.1)

  first_slot : 1 ≤ length f
  first_slot = omega (arith, slots_are, ok.delay_in.low)

  all_from : (ss cs ls bs : List ℕ) → 5599 ≤ length ss → 5599 ≤ length cs → 5599 ≤ length ls → 5599 ≤ length bs → PutAllPre false 1 f own ids ready mark first (begins 1 f) ss cs ls bs
  all_from ss cs ls bs a b d e =
      let fs = first_slot in
      let slots = slots_are in
      let last = ok.last_in in
      let room : 0 + (last_of 1 f - 1) + 4 * (500 - first) ≤ 5599 = omega (arith, slots, last, o.tables.within) in
      record {
        within = o.tables.within;
        room = record { part_in = subst (ForecastPart 1) (sym o.forecast_is) (accepted-job.part_in j ok); low = omega arith; high = omega arith; count = omega arith; s = omega arith; c = omega arith; l = omega arith; b = omega arith };
        by = subst (All (λ r. r ≤ last_of 1 f)) (sym o.tables.releases_are) released;
        chunks_in = subst (All (Within 1 500)) (sym o.tables.chunks) (asc_within 1 (chunks j) 1 500 (kept j x) (omega arith) ok.chunks_in.high (kept_asc j x));
        levels = subst (All Levels) (sym o.tables.marks) (all_of_map Levels (λ k. level_mark (x k)) (kept j x) (all_map (λ k. (1 ≤ x k) × (x k ≤ 4)) (λ k. Levels (level_mark (x k))) (kept j x) level levels_in));
        fed = subst (Fed (left_at 1 f)) (sym queued) (subst (λ (A : ℕ → ℕ). Fed A plan_queue) (sym left_is) (fed_ready (due j) (after j) plan_queue plan_ready.1));
        fits = subst (λ (q : List QueuedPiece). load q ≤ get_or f 0 0 + left_at 1 f 1) (sym queued) (omega (arith, load_needs (due j) (after j) plan_queue, plan_ready.0, ap (λ (A : ℕ → ℕ). A 0) left_is, left_next 1 f 0 (omega arith)));
        long = o.tables.long;
      }
    where
      released : All (λ r. r ≤ last_of 1 f) (take (500 - first) (releases (due j) (held_most j) (kept j x)))
      released =
          all_take (λ r. r ≤ last_of 1 f) (500 - first) (releases (due j) (held_most j) (kept j x))
          (all_ones (λ r. r ≤ last_of 1 f) (omega (arith, first_slot)) (held_most j) (map (due j) (kept j x))
          (all_of_map (λ r. r ≤ last_of 1 f) (due j) (kept j x) (each_kept (λ k. due j k ≤ last_of 1 f) (chunks j) 1 (kept j x) (kept_asc j x) (omega arith) (λ k u v. omega (arith, due_by j.programme k v, slots_are)))))

      level : (k : ℕ) → (1 ≤ x k) × (x k ≤ 4) → Levels (level_mark (x k))
      level k h =
          let e = level_of_lem (x k) (omega arith) in
          record { low = omega (arith, e, h.0); high = omega (arith, e, h.1); closed = ap level_mark (sym e) }

  -- ---- the rows

  rows_are : own_list j x ≡ onward 1 f 1 (get_or f 0 0) (queue_of own (drop first ids) (drop first ready) (drop first mark))
  unfolding fetch plan_queue
  rows_are =
      let z : 1 - 1 + length f - 0 ≡ last_slot j = omega (arith, slots_are) in
      own_list_is j x
      ∙ ap (λ (n : ℕ). fill (forecast j) n 0 plan_queue) (sym z)
      ∙ ap (λ (g : List ℕ). fill (bytes_at 1 g) (1 - 1 + length f - 0) 0 plan_queue) (sym o.forecast_is)
      ∙ onward_next 1 f 0 plan_queue (omega (arith, first_slot))
      ∙ ap (onward 1 f 1 (get_or f 0 0)) (sym queued)

  -- ---- the marks

  marks_are : up_to (λ i. mark_or 0 (i + 1) (drop first ids) (drop first mark)) (chunks j) ≡ marks_of j x
  marks_are =
      up_to_cong _ _ (chunks j) (λ i h.
      ap (λ (l : List ℕ). mark_or 0 (i + 1) l (drop first mark)) o.tables.chunks
      ∙ ap (mark_or 0 (i + 1) (kept j x)) o.tables.marks
      ∙ mark_picked 0 (λ i. leb 1 (x i)) (λ k. level_mark (x k)) 0 (chunks j) (i + 1) (omega arith) (omega arith)
      ∙ one (x (i + 1)) (layers j) (c (i + 1) (omega arith) (omega arith)))
    where
      one : (c k : ℕ) → c ≤ k → cond (leb 1 c) (level_mark c) 0 ≡ mark_byte (λ n. ltb n c) k
      one c k h = by_cond (λ (x : ℕ). x ≡ mark_byte (λ n. ltb n c) k) (leb 1 c) (λ t. sym (mark_level c k h)) (λ t. let e : c ≡ 0 = omega (arith, nleb→lt 1 c t) in sym (mark_level c k h ∙ rw e))

  ascending : Asc 1 count (drop first ids)
  ascending = subst (Asc 1 count) (sym o.tables.chunks) (subst (λ (n : ℕ). Asc 1 n (kept j x)) (sym o.counted) (kept_asc j x))

  -- ---- what is asked of the tables, and what they tell

  module _ (whole : List ℕ) where
    pub writes_choice : length whole ≡ 500 → {marks : List ℕ} → count ≤ length marks → WritePre count 1 f false own first ids ready mark whole marks
    writes_choice lw fit =
        record {
          some_slot = first_slot;
          fills = all_from;
          few_rows = omega (arith, ap length rows_are, own_list_rows j ok x c);
          within = o.tables.within;
          few = omega (arith, o.counted, ok.chunks_in.high);
          ascending = ascending;
          long = (o.tables.long.0, o.tables.long.2, lw);
          marks_fit = fit;
        }

    -- Where no chunk that is left out is whole.
    module _ (none : (i : ℕ) → i < 500 → get_or whole i 0 ≡ 0) where
      marks_told : marks_in count first ids mark whole ≡ marks_of j x
      marks_told =
          ap (λ (n : ℕ). up_to (λ i. mark_or (get_or whole i 0) (i + 1) (drop first ids) (drop first mark)) n) o.counted
          ∙ up_to_cong _ _ (chunks j) (λ i h. ap (λ (w : ℕ). mark_or w (i + 1) (drop first ids) (drop first mark)) (none i (omega (arith, ok.chunks_in.high))))
          ∙ marks_are

      pub written_choice :
          {marks slots cs layers bytes : List ℕ} {r : Output} {marks' slots' cs' layers' bytes' : List ℕ} →
          WritePost (told count 1 f false own first ids ready mark whole) marks slots cs layers bytes r marks' slots' cs' layers' bytes' →
          WritePost (own_result j x) marks slots cs layers bytes r marks' slots' cs' layers' bytes'
      written_choice {marks} {slots} {cs} {layers} {bytes} {r} {marks'} {slots'} {cs'} {layers'} {bytes'} =
          subst (λ (y : Result). WritePost y marks slots cs layers bytes r marks' slots' cs' layers' bytes')
          (ap (λ (m : List ℕ). record { marks = m; counts = up_to (λ n. mark_count n m) 4; rows = rows_in 1 f false own first ids ready mark }) marks_told
          ∙ ap (λ (k : List ℕ). record { marks = marks_of j x; counts = k; rows = rows_in 1 f false own first ids ready mark }) (counts_are j x c)
          ∙ ap (λ (l : List Row). record { marks = marks_of j x; counts = counts_of j x; rows = l }) (sym rows_are))
