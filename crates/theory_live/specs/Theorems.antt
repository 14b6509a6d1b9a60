-- Theorems. The rule of Statement is safe whatever the link brings, passes no chunk over for
-- nothing, and asks no byte beyond a size.
use Rattle.std.specs.Prelude.{ℕ, zero, suc, ◌+◌, ◌*◌, ◌-◌, ◌≤◌, ◌<◌, min, ◌≡◌, refl, Bool, not, ◌&&◌, List, [], ◌++◌, length, take, T, leb, ltb}
use Rattle.std.proofs.Common.{ap, ap₂, subst, ⊎_elim, arith, mul-le-mul_right, T_not, leb→le, ltb→lt, le→leb, lt→ltb}
use Rattle.std.proofs.Math.Dec.{not_T, nleb→lt}
use Rattle.theory_basics.specs.Sums.{count}
use Rattle.theory_basics.specs.Tests.{All, In}
use Rattle.theory_basics.specs.lemmas.Ranges.{bit, count_none, count_step, pre_mono}
use Rattle.theory_basics.specs.lemmas.Tests.{and_T, at_row, T_and, test}
use Rattle.job.specs.Job.{Accepted, Job, Layer, Within, chunks, forecast, held_most, last_slot, layers, with_forecast}
use Rattle.job.specs.lemmas.Within.{size_least}
use Rattle.fetch.specs.Rows.{Row, Carried, bytes_of_layer, held_count}
use Rattle.fetch.specs.RulesFrom.{PassesFrom}
use Rattle.theory_plan.specs.Own.{Piece}
use Rattle.theory_replan.specs.Refusal.{replan_refusal_iff, replan_refusal}
use Rattle.theory_replan.specs.Statement.{Acceptable, joined}
use Rattle.theory_replan.specs.lemmas.Parts.{left_if}
use Rattle.theory_live.specs.Statement.{act, asked, asks, asks_below, brings, could_come, first_lacking, fresh, has_room, in_time, is_open, lacks, layer_asks, missing, next_in_time, passed_over, passes_for, piece_of, taken_of, remaining}
use Rattle.theory_live.specs.lemmas.Asked.{safe_beside}
use Rattle.theory_live.specs.lemmas.Ends.{acceptable_onward, whole_passes}
use Rattle.theory_live.specs.lemmas.Firsts.{found, room_filled}
use Rattle.theory_live.specs.lemmas.Pieces.{below_left, below_length, below_order, below_pieces, in_below, InOrder, of_layer, AskedPiece, whole_of}
use Rattle.theory_live.specs.lemmas.Safe.{lower_whole}

-- ---- (a) safe whatever comes

-- For every slot p before d(C) and every x, the rows fetched and the first x bytes of the asks as
-- rows of slot p keep what planning afresh asks of handed rows at p + 1, for a forecast with at
-- least x in slot p.
pub safe_whatever_comes :
    (j : Job) (p : ℕ) (rows : List Row) (r x : ℕ) → Acceptable j p rows → p < last_slot j → x ≤ forecast j p →
    Acceptable j (suc p) (rows ++ taken_of p x (asks j p rows r))
safe_whatever_comes j p rows r x ok h l = safe_beside j p rows (passed_over j p rows r) x ok h l

layer_same :
    (j : Job) (f : List ℕ) (rows : List Row) (a : ℕ → Bool) (n c : ℕ) →
    layer_asks (with_forecast j f) rows a n c ≡ layer_asks j rows a n c
layer_same j f rows a n zero = refl
layer_same j f rows a n (suc c) = ap (λ (l : List Piece). l ++ piece_of j rows a n (suc c)) (layer_same j f rows a n c)

below_same :
    (j : Job) (f : List ℕ) (rows : List Row) (a : ℕ → Bool) (m : ℕ) →
    asks_below (with_forecast j f) rows a m ≡ asks_below j rows a m
below_same j f rows a zero = refl
below_same j f rows a (suc m) = ap₂ (λ (k l : List Piece). k ++ l) (below_same j f rows a m) (layer_same j f rows a m (chunks j))

-- The asks read no forecast, so this is so of every forecast with at least x in slot p.
pub no_forecast : (j : Job) (f : List ℕ) (p : ℕ) (rows : List Row) (r : ℕ) → asks (with_forecast j f) p rows r ≡ asks j p rows r
unfolding passed_over
no_forecast j f p rows r = below_same j f rows (asked j p rows r) (layers j)

-- As the desk meets it: in slot p nothing is known of the forecast from p on, and whatever it turns
-- out to be, with at least x in slot p, the rows are acceptable at p + 1.
pub safe_whatever_forecast :
    (j : Job) (p : ℕ) (rows : List Row) (r : ℕ) → length j.forecast ≡ last_slot j → Acceptable j p rows → p < last_slot j →
    (onward : List ℕ) (x : ℕ) → x ≤ forecast (joined j p onward) p →
    Acceptable (joined j p onward) (suc p) (rows ++ taken_of p x (asks j p rows r))
safe_whatever_forecast j p rows r e ok h onward x l =
    subst (λ (ps : List Piece). Acceptable (joined j p onward) (suc p) (rows ++ taken_of p x ps))
    (no_forecast j (take (p - 1) j.forecast ++ onward) p rows r)
    (safe_whatever_comes (joined j p onward) p rows r x (acceptable_onward j p rows onward e ok) h l)

-- ---- (b) nothing for nothing

-- What chunk i is passed over for.
pub record PassedFor (j : Job) (p : ℕ) (rows : List Row) (r i first later : ℕ) : Type 0 where
  -- chunk i is open and lacks base bytes, and stands from the first to before the later one;
  pub itself_lacks : T (lacks j p rows i)
  pub from_first : first ≤ i
  pub before_later : i < later
  -- the first is the first open chunk that lacks base bytes, and is not in time;
  pub first_low : 1 ≤ first
  pub first_lacks : T (lacks j p rows first)
  pub is_first : (k : ℕ) → 1 ≤ k → k < first → T (not (lacks j p rows k))
  pub first_late : brings j p r first < missing j rows first
  -- the later one is of the next H open chunks, lacks base bytes, is in time, and is not in time
  -- behind the first;
  pub later_high : later ≤ chunks j
  pub later_near : count (is_open j p rows) later ≤ count (is_open j p rows) first + held_most j
  pub later_lacks : T (lacks j p rows later)
  pub later_in_time : missing j rows later ≤ brings j p r later
  pub not_behind : brings j p r later < missing j rows first + missing j rows later
  -- and chunk i itself is not in time.
  pub itself_late : brings j p r i < missing j rows i

could_come_lem :
    (j : Job) (p : ℕ) (rows : List Row) (r k i : ℕ) → T (could_come j p rows r k i) →
    (k < i) × (count (is_open j p rows) i ≤ count (is_open j p rows) k + held_most j) × T (lacks j p rows i)
    × (missing j rows i ≤ brings j p r i)
could_come_lem j p rows r k i t =
    let near = leb (count (is_open j p rows) i) (count (is_open j p rows) k + held_most j) in
    let a = and_T (ltb k i && near && lacks j p rows i) (in_time j p rows r i) t in
    let b = and_T (ltb k i && near) (lacks j p rows i) a.0 in
    let c = and_T (ltb k i) near b.0 in
    (ltb→lt k i c.0, leb→le (count (is_open j p rows) i) (count (is_open j p rows) k + held_most j) c.1, b.1, leb→le (missing j rows i) (brings j p r i) a.1)

pub nothing_for_nothing :
    (j : Job) (p : ℕ) (rows : List Row) (r i : ℕ) → T (passed_over j p rows r i) →
    PassedFor j p rows r i (first_lacking j p rows) (next_in_time j p rows r (first_lacking j p rows))
unfolding passed_over
nothing_for_nothing j p rows r i t = by (first_lacking j p rows) (next_in_time j p rows r (first_lacking j p rows)) t
    (found (lacks j p rows) (chunks j)).low (found (lacks j p rows) (chunks j)).before (found (lacks j p rows) (chunks j)).passes
    (found (could_come j p rows r (first_lacking j p rows)) (chunks j)).before (found (could_come j p rows r (first_lacking j p rows)) (chunks j)).passes
  where
    by :
        (k m : ℕ) → T (passes_for j p rows r k m i) → 1 ≤ k → ((n : ℕ) → 1 ≤ n → n < k → T (not (lacks j p rows n))) → (k ≤ chunks j → T (lacks j p rows k)) →
        ((n : ℕ) → 1 ≤ n → n < m → T (not (could_come j p rows r k n))) → (m ≤ chunks j → T (could_come j p rows r k m)) → PassedFor j p rows r i k m
    by k m t low first here' none at =
        let f = and_T (leb k i && ltb i m && leb m (chunks j) && lacks j p rows i && not (in_time j p rows r k)) (ltb (brings j p r m) (missing j rows k + missing j rows m)) t in
        let e = and_T (leb k i && ltb i m && leb m (chunks j) && lacks j p rows i) (not (in_time j p rows r k)) f.0 in
        let d = and_T (leb k i && ltb i m && leb m (chunks j)) (lacks j p rows i) e.0 in
        let c = and_T (leb k i && ltb i m) (leb m (chunks j)) d.0 in
        let b = and_T (leb k i) (ltb i m) c.0 in
        let from = leb→le k i b.0 in
        let to = ltb→lt i m b.1 in
        let hi = leb→le m (chunks j) c.1 in
        let q = could_come_lem j p rows r k m (at hi) in
        let late = nleb→lt (missing j rows k) (brings j p r k) e.1 in
        record {
          itself_lacks = d.1;
          from_first = from;
          before_later = to;
          first_low = low;
          first_lacks = here' (omega arith);
          is_first = first;
          first_late = late;
          later_high = hi;
          later_near = q.1;
          later_lacks = q.2;
          later_in_time = q.3;
          not_behind = ltb→lt (brings j p r m) (missing j rows k + missing j rows m) f.1;
          itself_late =
              ⊎_elim
              (λ u. subst (λ (n : ℕ). brings j p r n < missing j rows n) (omega (arith, leb→le i k u)) late)
              (λ u.
              let gt = nleb→lt i k u in
              let mono = pre_mono (λ n. bit (is_open j p rows n)) i m (omega arith) in
              ⊎_elim
              (λ v.
              let near = leb (count (is_open j p rows) i) (count (is_open j p rows) k + held_most j) in
              let near-T = le→leb (count (is_open j p rows) i) (count (is_open j p rows) k + held_most j) (omega (arith, mono, q.1)) in
              absurd (T_not (could_come j p rows r k i) (none i (omega arith) to)
              (T_and (ltb k i && near && lacks j p rows i) (in_time j p rows r i) (T_and (ltb k i && near) (lacks j p rows i) (T_and (ltb k i) near (lt→ltb k i gt) near-T) d.1) v)))
              (λ v. nleb→lt (missing j rows i) (brings j p r i) v)
              (test (in_time j p rows r i)))
              (test (leb i k));
        }

-- "While all bases come in time, none is" passed over: already while the first that lacks bytes
-- does.
pub none_passed_over :
    (j : Job) (p : ℕ) (rows : List Row) (r : ℕ) →
    (T (lacks j p rows (first_lacking j p rows)) → T (in_time j p rows r (first_lacking j p rows))) → (i : ℕ) →
    T (not (passed_over j p rows r i))
none_passed_over j p rows r f i =
    not_T (passed_over j p rows r i) (λ t.
    let n = nothing_for_nothing j p rows r i t in
    omega (arith, n.first_late, leb→le (missing j rows (first_lacking j p rows)) (brings j p r (first_lacking j p rows)) (f n.first_lacks)))

-- A link that brings nothing passes nothing over.
pub none_in_outage : (j : Job) (p : ℕ) (rows : List Row) (i : ℕ) → T (not (passed_over j p rows 0 i))
none_in_outage j p rows i =
    not_T (passed_over j p rows 0 i) (λ t.
    let n = nothing_for_nothing j p rows 0 i t in
    let m = next_in_time j p rows 0 (first_lacking j p rows) in
    let l = ltb→lt 0 (missing j rows m) (and_T (is_open j p rows m) (ltb 0 (missing j rows m)) n.later_lacks).1 in
    omega (arith, n.later_in_time, l))

-- Nor does a buffer that holds no chunk beyond its due slot.
pub none_with_no_room :
    (j : Job) (p : ℕ) (rows : List Row) (r : ℕ) → held_most j ≡ 0 → (i : ℕ) → T (not (passed_over j p rows r i))
none_with_no_room j p rows r z i =
    not_T (passed_over j p rows r i) (λ t.
    let n = nothing_for_nothing j p rows r i t in
    let k = first_lacking j p rows in
    let m = next_in_time j p rows r k in
    let open-later = (and_T (is_open j p rows m) (ltb 0 (missing j rows m)) n.later_lacks).0 in
    omega (arith, n.later_near, z, count_step (is_open j p rows) k m (omega (arith, n.from_first, n.before_later)) open-later))

-- "No byte of an upper layer is asked before every asked base is whole": with a byte of a layer
-- above n in the rows of x bytes, layer n of every asked chunk is whole.
pub lower_first :
    (j : Job) (p : ℕ) (rows : List Row) (r x : ℕ) → Acceptable j p rows → (i k n m : ℕ) → Layer j i n → n < m →
    m < layers j →
    T (asked j p rows r i) → 1 ≤ bytes_of_layer (taken_of p x (asks j p rows r)) k m →
    Carried j (rows ++ taken_of p x (asks j p rows r)) i n
lower_first j p rows r x ok i k n m l lt hi a h = lower_whole j p rows (asked j p rows r) x ok i k n m l lt hi a h

-- ---- (c) no bytes twice, none beyond a size, at most 2,000 pieces

-- The asks of a layer sum to at most what is not yet fetched of it.
pub no_more_asked :
    (j : Job) (p : ℕ) (rows : List Row) (r i n : ℕ) → left_if (of_layer i n) (asks j p rows r) ≤ remaining j rows i n
no_more_asked j p rows r i n = below_left j rows (asked j p rows r) i n (layers j)

-- And each layer of an asked chunk with bytes not yet fetched is asked for, with all of them.
pub all_asked :
    (j : Job) (p : ℕ) (rows : List Row) (r i n : ℕ) → Layer j i n → T (asked j p rows r i) → 1 ≤ remaining j rows i n →
    In (record { chunk = i; layer = n; bytes = remaining j rows i n }) (asks j p rows r)
all_asked j p rows r i n l a u = in_below j rows (asked j p rows r) i n (layers j) l.chunk_low l.chunk_high l.layer_in a u

-- The pieces stand by layer, then chunk, so no two are of the same layer of the same chunk,
pub asks_in_order : (j : Job) (p : ℕ) (rows : List Row) (r : ℕ) → InOrder (asks j p rows r)
asks_in_order j p rows r = below_order j rows (asked j p rows r) (layers j)

-- and each is a layer of an asked chunk, with its bytes not yet fetched, at least 1.
pub each_asked :
    (j : Job) (p : ℕ) (rows : List Row) (r : ℕ) → All (AskedPiece j rows (asked j p rows r) 0 (layers j) (chunks j)) (asks j p rows r)
each_asked j p rows r = below_pieces j rows (asked j p rows r) (layers j)

-- "As many as rule 6 allows": of the chunks that would be begun in p and held at its end, those
-- asked fill what is left of H, or are all.
pub as_many_as_allowed :
    (j : Job) (p : ℕ) (rows : List Row) (r : ℕ) → Acceptable j p rows →
    let over = passed_over j p rows r in
    held_count j rows p + count (λ i. fresh j p rows over i && has_room j p rows over i) (chunks j)
    ≡ min (held_most j) (held_count j rows p + count (fresh j p rows over) (chunks j))
as_many_as_allowed j p rows r ok =
    room_filled (fresh j p rows (passed_over j p rows r)) (held_count j rows p) (held_most j) (chunks j) (ok.few_held p ok.p_low ok.p_high)

pub few_pieces : (j : Job) → Accepted j → (p : ℕ) (rows : List Row) (r : ℕ) → length (asks j p rows r) ≤ 4 * chunks j
few_pieces j ok p rows r =
    omega (arith, below_length j rows (asked j p rows r) (layers j), mul-le-mul_right (chunks j) ok.layers_in.high)

pub at_most_2000 : (j : Job) → Accepted j → (p : ℕ) (rows : List Row) (r : ℕ) → length (asks j p rows r) ≤ 2000
at_most_2000 j ok p rows r = omega (arith, few_pieces j ok p rows r, ok.chunks_in.high)

-- ---- (d) the act from slot 1 on

-- Nothing fetched, at slot 1.
pub nothing_fetched : (j : Job) → Accepted j → Acceptable j 1 []
nothing_fetched j ok = record {
  p_low = omega arith;
  p_high = omega (arith, ok.delay_in.low);
  before = tt;
  in_range_lem = tt;
  no_more_lem = λ i n l. omega arith;
  lower = λ i n l e. absurd (omega (arith, size_least j ok i (suc n) l.layer_in));
  within = λ t g h. omega arith;
  on_time_lem = tt;
  few_held = λ t g h. omega (arith, count_none (λ i. Bool.false) (chunks j) (λ i u v. tt));
  in_turn_lem = λ x y m. absurd (at_row (λ x. ⊥) m tt);
}

-- A desk that asks so from slot 1 on, with whatever rates and whatever the link brings, is never
-- refused by 22, for any forecast with at least what came.
pub act_is_safe :
    (j : Job) → Accepted j → (rate got : ℕ → ℕ) (t : ℕ) → t < last_slot j →
    ((u : ℕ) → 1 ≤ u → u ≤ t → got u ≤ forecast j u) →
    Acceptable j (suc t) (act j rate got t)
act_is_safe j ok rate got zero h f = nothing_fetched j ok
act_is_safe j ok rate got (suc t) h f =
    safe_whatever_comes j (suc t) (act j rate got t) (rate (suc t)) (got (suc t))
    (act_is_safe j ok rate got t (omega arith) (λ u a b. f u a (omega arith))) h (f (suc t) (omega arith) (omega arith))

-- As the desk calls it: in slot t + 1, whatever it forecasts from there on, planning afresh with
-- the rows of the act refuses nothing.
pub never_refused :
    (j : Job) → Accepted j → (rate got : ℕ → ℕ) (t : ℕ) → t < last_slot j →
    ((u : ℕ) → 1 ≤ u → u ≤ t → got u ≤ forecast j u) →
    (onward : List ℕ) → All (Within 0 16777216) onward → length onward ≡ suc (last_slot j) - suc t →
    replan_refusal j (suc t) (act j rate got t) onward ≡ 0
never_refused j ok rate got t h f onward small many =
    (replan_refusal_iff j (suc t) (act j rate got t) onward).1 (record {
      slots_in = many;
      onward_in = small;
      acceptable = acceptable_onward j (suc t) (act j rate got t) onward ok.slots_in (act_is_safe j ok rate got t h f);
    })

-- Its list passes the second checker call at p = d(C), less the bytes that slot d(C) itself brought
-- of a layer that stays short: the rows fetched before slot t + 1, and the pieces that this slot,
-- the last one too, fetches whole.
pub act_passes :
    (j : Job) → Accepted j → (rate got : ℕ → ℕ) (t : ℕ) → t < last_slot j →
    ((u : ℕ) → 1 ≤ u → u ≤ suc t → got u ≤ forecast j u) →
    let rows = act j rate got t in let pieces = asks j (suc t) rows (rate (suc t)) in
    PassesFrom j (suc t) (rows ++ taken_of (suc t) (whole_of (got (suc t)) pieces) pieces)
act_passes j ok rate got t h f =
    whole_passes j (suc t) (act j rate got t) (passed_over j (suc t) (act j rate got t) (rate (suc t))) (got (suc t))
    (act_is_safe j ok rate got t h (λ u a b. f u a (omega arith))) (f (suc t) (omega arith) (omega arith))
