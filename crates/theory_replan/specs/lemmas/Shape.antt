-- Lemmas, then the theorems `own_rest_ascending` and `own_rest_rows`: the own rows from p on, of
-- any choice, have one row for each slot, chunk and layer, in this order; and those of a choice
-- that fits are at most 5,599.
use Rattle.std.specs.Prelude.{ℕ, zero, suc, ◌+◌, ◌*◌, ◌-◌, ◌≤◌, ◌<◌, ◌≡◌, refl, Bool, cond, List, [], ◌∷◌, ◌++◌, ◌⊎◌, length, drop, T, ltb}
use Rattle.std.proofs.Common.{sym, ◌∙◌, subst, append_assoc, append-nil, inl, inr, ⊎_elim, arith, mul-le-mul_right, length-append}
use Rattle.std.proofs.Math.Path.{ap}
use Rattle.std.proofs.Math.Seq.{drop-append_seam}
use Rattle.theory_basics.specs.Lists.{up_to}
use Rattle.theory_basics.specs.Tests.{All, In}
use Rattle.theory_basics.specs.lemmas.Lists.{length_up_to}
use Rattle.theory_basics.specs.lemmas.Tests.{all_append, all_map, at_row, by_cond, each_row}
use Rattle.job.specs.Job.{Accepted, chunks, forecast, Job, last_slot, layers}
use Rattle.fetch.specs.Rows.{bytes_of_layer, Row}
use Rattle.theory_plan.specs.Own.{allowed, Ascending, RowBefore, carried_to, Fetched, Piece, row_of, slot_takes, whole_layer, without}
use Rattle.theory_plan.specs.Statement.{Choice}
use Rattle.theory_plan.specs.lemmas.Words.{accepted_sized, Sized}
use Rattle.theory_replan.specs.Own.{fetched_from, own_rest, unfetched}
use Rattle.theory_replan.specs.Statement.{Acceptable, IsReplan}
use Rattle.theory_replan.specs.lemmas.Fits.{FitsFrom}
use Rattle.theory_replan.specs.lemmas.Parts.{PartBefore, Rising}
use Rattle.theory_replan.specs.lemmas.Plan.{is_replan_fits}
use Rattle.theory_replan.specs.lemmas.Rest.{Fetches, fetches}
use Rattle.theory_replan.specs.lemmas.Take.{all_of, Ends, part_of, slot_ends, Taken, taken_all, taken_rising}
use Rattle.theory_replan.specs.lemmas.Unfetched.{carried_all, carried_rises, Chosen, unfetched_all, unfetched_rising}

ascending_last : (a : List Row) (y : Row) → Ascending a → All (λ x. RowBefore x y) a → Ascending (a ++ (y ∷ []))
ascending_last [] y s b = (tt, tt)
ascending_last (x ∷ a) y s b = (all_append (RowBefore x) a (y ∷ []) s.0 (b.0, tt), ascending_last a y s.1 b.1)

-- A row of slot t, chunk i, layer n would stand after x.
abbrev Ahead : ℕ → ℕ → ℕ → Row → Type 0
Ahead t i n x = (x.slot < t) ⊎ ((x.slot ≡ t) × ((x.chunk < i) ⊎ ((x.chunk ≡ i) × (x.layer < n))))

module _ (fetched : List Row) (p start : ℕ) where
  -- In slot t, with c bytes of its forecast unspent. start: how many parts there are at the start.
  record Stands (t c : ℕ) (rows : List Row) (left : List Piece) : Type 0 where
    made : List Row
    made_is : rows ≡ fetched ++ made
    ascending : Ascending made
    slots : All (λ x. x.slot ≤ t) made
    rising : Rising left
    some : All (λ q. Unit {0} × (1 ≤ q.bytes)) left
    ahead : (c ≡ 0) ⊎ All (λ q. All (Ahead t q.chunk q.layer) made) left
    counted : (length made + length left ≤ start + (t - p)) ⊎ ((c ≡ 0) × (1 ≤ length left) × (length made + length left ≤ suc (start + (t - p))))

  module _ (j : Job) (t : ℕ) where
    ahead_next : (made : List Row) (q r : Piece) (b : ℕ) → PartBefore q r → All (Ahead t r.chunk r.layer) made → All (Ahead t r.chunk r.layer) (made ++ (row_of t q b ∷ []))
    ahead_next made q r b h a = all_append (Ahead t r.chunk r.layer) made (row_of t q b ∷ []) a (inr (refl, h), tt)

    -- RowBefore a row is taken nothing was cut short in this slot.
    open_count :
        (c : ℕ) (m l : ℕ) → 1 ≤ c → (m + l ≤ start + (t - p)) ⊎ ((c ≡ 0) × (1 ≤ l) × (m + l ≤ suc (start + (t - p)))) → m + l ≤ start + (t - p)
    open_count c m l h (inl x) = x
    open_count c m l h (inr x) = absurd (omega (arith, x.0))

    step :
        (c : ℕ) (rows : List Row) (q : Piece) (qs : List Piece) (b c' : ℕ) (left : List Piece) → Taken c q qs b c' left →
        T (allowed j rows t q) → Stands t c rows (q ∷ qs) → Stands t c' (rows ++ (row_of t q b ∷ [])) left
    step c rows q qs b c' left k al s = by b c' left k
      where
        -- All rows made stand before the next one.
        all_ahead : 1 ≤ c → All (λ r. All (Ahead t r.chunk r.layer) s.made) (q ∷ qs)
        all_ahead h = ⊎_elim (λ e. absurd (omega arith)) (λ a. a) s.ahead

        by : (b c' : ℕ) (left : List Piece) → Taken c q qs b c' left → Stands t c' (rows ++ (row_of t q b ∷ [])) left
        by b c' left (all_of e) =
            let x = row_of t q q.bytes in
            let pos : 1 ≤ c = omega (arith, e, s.some.0.1) in
            let a = all_ahead pos in
            let n = open_count c (length s.made) (length (q ∷ qs)) pos s.counted in
            record {
              made = s.made ++ (x ∷ []);
              made_is = ap (λ (l : List Row). l ++ (x ∷ [])) s.made_is ∙ append_assoc fetched s.made (x ∷ []);
              ascending = ascending_last s.made x s.ascending a.0;
              slots = all_append (λ y. y.slot ≤ t) s.made (x ∷ []) s.slots (omega arith, tt);
              rising = s.rising.1;
              some = s.some.1;
              ahead = inr (each_row (λ r. All (Ahead t r.chunk r.layer) (s.made ++ (x ∷ []))) qs (λ r i. ahead_next s.made q r q.bytes (at_row (PartBefore q) i s.rising.0) (at_row (λ r. All (Ahead t r.chunk r.layer) s.made) i a.1)));
              counted = inl (omega (arith, n, length-append s.made (x ∷ [])));
            }
        by b c' left (part_of m l) =
            let x = row_of t q c in
            let a = all_ahead m in
            let n = open_count c (length s.made) (length (q ∷ qs)) m s.counted in
            record {
              made = s.made ++ (x ∷ []);
              made_is = ap (λ (l : List Row). l ++ (x ∷ [])) s.made_is ∙ append_assoc fetched s.made (x ∷ []);
              ascending = ascending_last s.made x s.ascending a.0;
              slots = all_append (λ y. y.slot ≤ t) s.made (x ∷ []) s.slots (omega arith, tt);
              rising = s.rising;
              some = ((tt, omega arith), s.some.1);
              ahead = inl refl;
              counted = inr (refl, omega arith, omega (arith, n, length-append s.made (x ∷ [])));
            }

    next_slot : p ≤ t → (c : ℕ) (rows : List Row) (left : List Piece) → Stands t c rows left → Stands (suc t) (forecast j (suc t)) rows left
    next_slot h c rows left s =
        record {
          made = s.made;
          made_is = s.made_is;
          ascending = s.ascending;
          slots = all_map (λ x. x.slot ≤ t) (λ x. x.slot ≤ suc t) s.made (λ x u. omega arith) s.slots;
          rising = s.rising;
          some = s.some;
          ahead = inr (each_row (λ q. All (Ahead (suc t) q.chunk q.layer) s.made) left (λ q i. all_map (λ x. x.slot ≤ t) (Ahead (suc t) q.chunk q.layer) s.made (λ x u. inl (omega arith)) s.slots));
          counted = inl (⊎_elim (λ n. omega arith) (λ n. omega (arith, n.2)) s.counted);
        }

module _ (j : Job) (p : ℕ) (fetched : List Row) (lv : ℕ → ℕ) where
  abbrev start : List Piece
  start = unfetched fetched (carried_to j lv (chunks j))

  begin : (c : ℕ) → Stands fetched p (length start) p c fetched start
  begin c =
      record {
        made = [];
        made_is = sym (append-nil fetched);
        ascending = tt;
        slots = tt;
        rising = unfetched_rising fetched (carried_to j lv (chunks j)) (carried_rises j lv (chunks j));
        some = unfetched_all fetched (λ i n. Unit {0}) (carried_to j lv (chunks j)) (all_map (λ q. Chosen j lv (chunks j) q.chunk q.layer) (λ q. Unit {0}) (carried_to j lv (chunks j)) (λ q u. tt) (carried_all j lv (chunks j)));
        ahead = inr (each_row (λ q. All (Ahead p q.chunk q.layer) []) start (λ q i. tt));
        counted = inl (omega arith);
      }

  run : (m : ℕ) → Stands fetched p (length start) (m + p) (forecast j (m + p)) (fetched_from j p fetched lv m).rows (fetched_from j p fetched lv m).left
  run zero = let e : p ≡ 0 + p = omega arith in subst (λ (t : ℕ). Stands fetched p (length start) t (forecast j t) fetched start) e (begin (forecast j p))
  run (suc m) =
      let t : ℕ = m + p in
      let g = fetched_from j p fetched lv m in
      let o = slot_ends j t (Stands fetched p (length start) t) (step fetched p (length start) j t) (forecast j t) g.rows g.left (run m) in
      let e : suc (m + p) ≡ suc m + p = omega arith in
      let f = slot_takes j t (forecast j t) g.rows g.left in
      subst (λ (s : ℕ). Stands fetched p (length start) s (forecast j s) f.rows f.left) e (next_slot fetched p (length start) j t (omega arith) o.over f.rows f.left o.holds)

  -- After the last slot.
  record Done (g : Fetched) : Type 0 where
    over : ℕ
    last_slot_lem : ℕ
    last_is : last_slot_lem - p ≤ last_slot j - p
    holds : Stands fetched p (length start) last_slot_lem over g.rows g.left

  done : p ≤ last_slot j → Done (fetched_from j p fetched lv (suc (last_slot j) - p))
  done h =
      let m : ℕ = last_slot j - p in
      let t : ℕ = m + p in
      let e : suc m ≡ suc (last_slot j) - p = omega arith in
      let g = fetched_from j p fetched lv m in
      let o = slot_ends j t (Stands fetched p (length start) t) (step fetched p (length start) j t) (forecast j t) g.rows g.left (run m) in
      subst (λ (k : ℕ). Done (fetched_from j p fetched lv k)) e (record { over = o.over; last_slot_lem = t; last_is = omega arith; holds = o.holds })

  rest_is : (h : p ≤ last_slot j) → own_rest j p fetched lv ≡ (done h).holds.made
  unfolding own_rest
  rest_is h = ap (drop (length fetched)) (done h).holds.made_is ∙ drop-append_seam fetched (done h).holds.made

-- "One row per slot, chunk and layer", and the rows stand by slot, chunk, layer.
pub own_rest_ascending : (j : Job) (p : ℕ) (fetched : List Row) (choice : ℕ → ℕ) → p ≤ last_slot j → Ascending (own_rest j p fetched choice)
own_rest_ascending j p fetched lv h = subst Ascending (sym (rest_is j p fetched lv h)) (done j p fetched lv h).holds.ascending

-- ---- how many rows

unfetched_length : (fetched : List Row) (ps : List Piece) → length (unfetched fetched ps) ≤ length ps
unfetched_length fetched [] = omega arith
unfetched_length fetched (q ∷ ps) =
    by_cond (λ (l : List Piece). length l ≤ suc (length ps)) (ltb (bytes_of_layer fetched q.chunk q.layer) q.bytes) (λ t. omega (arith, unfetched_length fetched ps)) (λ t. omega (arith, unfetched_length fetched ps))

carried_length : (j : Job) (lv : ℕ → ℕ) → Choice j lv → (c : ℕ) → c ≤ chunks j → length (carried_to j lv c) ≤ c * layers j
carried_length j lv few zero h = omega arith
carried_length j lv few (suc c) h =
    omega (
      arith,
      carried_length j lv few c (omega arith),
      length-append (carried_to j lv c) (up_to (whole_layer j (suc c)) (lv (suc c))),
      length_up_to (whole_layer j (suc c)) (lv (suc c)),
      few (suc c) (omega arith) h,
    )

-- At most a row for each layer of each chunk, and one more for each slot from p on but one; so at
-- most 5,599.
pub own_rest_rows :
    (j : Job) → Accepted j → (p : ℕ) (fetched : List Row) → Acceptable j p fetched → (plan : ℕ → ℕ) → IsReplan j p fetched plan →
    length (own_rest j p fetched plan) ≤ 5599
own_rest_rows j a p fetched ok lv d =
    let sized = accepted_sized j a in
    let f = is_replan_fits j p fetched ok sized lv d in
    let z = (fetches j sized p fetched ok lv d.choice f).none_left in
    let w = done j p fetched lv ok.p_high in
    let e = rest_is j p fetched lv ok.p_high in
    let none : length (fetched_from j p fetched lv (suc (last_slot j) - p)).left ≡ 0 = ap length z in
    let few =
    ⊎_elim
    {C = length w.holds.made ≤ length (start j p fetched lv) + (w.last_slot_lem - p)}
    (λ n. omega (arith, n))
    (λ n. absurd (omega (arith, n.1, none)))
    w.holds.counted in
    omega (
      arith,
      ap length e,
      few,
      w.last_is,
      unfetched_length fetched (carried_to j lv (chunks j)),
      carried_length j lv d.choice (chunks j) (omega arith),
      mul-le-mul_right (layers j) a.chunks_in.high,
      a.layers_in.high,
      a.last_in,
      ok.p_low,
      ok.p_high,
    )
