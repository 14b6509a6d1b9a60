-- Lemmas. Rows fetched before p, and the rows that x bytes of slot p make of the asks, rule by
-- rule, whichever chunks are asked as long as the rule's three facts hold of them: `due-on`,
-- `in-line`, and room at the end of p. Assumes nothing.
use Rattle.std.specs.Prelude.{ℕ, suc, ◌+◌, ◌≤◌, ◌<◌, ◌≡◌, refl, Bool, not, ◌&&◌, List, ◌++◌, ◌⊎◌, T, ltb, eqb}
use Rattle.std.proofs.Common.{sym, ap, subst, inl, inr, ⊎_elim, arith, T_not, ltb→lt, nltb→le, eqb→eq, lt→ltb}
use Rattle.std.proofs.Math.Dec.{eqb_refl}
use Rattle.theory_basics.specs.Sums.{count}
use Rattle.theory_basics.specs.Tests.{All, In}
use Rattle.theory_basics.specs.lemmas.Ranges.{count_mono}
use Rattle.theory_basics.specs.lemmas.Tests.{all_append, all_map, and_T, any_row_lem, at_row, eqb_iff, in_append, T_and, test}
use Rattle.job.specs.Job.{Job, Layer, chunks, due, forecast, held_most, layers, size}
use Rattle.fetch.specs.Rows.{Row, Carried, begun, bytes_if, bytes_of_layer, has_row, held, held_count}
use Rattle.fetch.specs.Rules.{FewHeld, RowInRange, LowerCarried, OnTime, WithinForecast}
use Rattle.fetch.specs.lemmas.Rows.{any_some, bytes_append, bytes_none, row_counts, some_row}
use Rattle.theory_plan.specs.Own.{Piece, row_of}
use Rattle.theory_replan.specs.Statement.{Acceptable}
use Rattle.theory_replan.specs.lemmas.Held.{begun_by, begun_more, begun_row}
use Rattle.theory_live.specs.Statement.{asks_below, begun_after, taken_of, remaining}
use Rattle.theory_live.specs.lemmas.Firsts.{count_either}
use Rattle.theory_live.specs.lemmas.Pieces.{below_first, below_left, below_none, below_pieces, below_somes, in_below, of_layer, AskedPiece, reaches, taken_each, taken_left, taken_most, whole_row}

-- A row made in slot p.
pub record Made (j : Job) (p : ℕ) (asks : ℕ → Bool) (y : Row) : Type 0 where
  pub slot_is : y.slot ≡ p
  pub chunk_low : 1 ≤ y.chunk
  pub chunk_high : y.chunk ≤ chunks j
  pub layer_in : y.layer < layers j
  pub some_bytes : 1 ≤ y.bytes
  pub is_asked : T (asks y.chunk)

-- The rows that x bytes of slot p make, whichever chunks are asked.
abbrev pub made_of : Job → ℕ → List Row → (ℕ → Bool) → ℕ → List Row
made_of j p rows asks x = taken_of p x (asks_below j rows asks (layers j))

pub all_made : (j : Job) (p : ℕ) (rows : List Row) (asks : ℕ → Bool) (x : ℕ) → All (Made j p asks) (made_of j p rows asks x)
all_made j p rows asks x =
    taken_each (AskedPiece j rows asks 0 (layers j) (chunks j)) (Made j p asks) p
    (λ q b k g h. record {
      slot_is = refl;
      chunk_low = k.chunk_low;
      chunk_high = k.chunk_high;
      layer_in = k.layer_high;
      some_bytes = g;
      is_asked = k.is_asked;
    })
    x (asks_below j rows asks (layers j)) (below_pieces j rows asks (layers j)) (below_somes j rows asks (layers j))

module _ (j : Job) (p : ℕ) (rows : List Row) (asks : ℕ → Bool) (x : ℕ) (ok : Acceptable j p rows) where
  -- Each row stands before p + 1.
  pub before_next : All (λ y. y.slot < suc p) (rows ++ made_of j p rows asks x)
  before_next =
      all_append (λ y. y.slot < suc p) rows (made_of j p rows asks x)
      (all_map (λ y. y.slot < p) (λ y. y.slot < suc p) rows (λ y h. omega arith) ok.before)
      (all_map (Made j p asks) (λ y. y.slot < suc p) (made_of j p rows asks x) (λ y m. omega (arith, m.slot_is)) (all_made j p rows asks x))

  -- Rule 1.
  pub rule_1 : All (RowInRange j) (rows ++ made_of j p rows asks x)
  rule_1 =
      all_append (RowInRange j) rows (made_of j p rows asks x) ok.in_range_lem
      (all_map (Made j p asks) (RowInRange j) (made_of j p rows asks x)
      (λ y m. record {
        slot_low = omega (arith, m.slot_is, ok.p_low);
        slot_high = omega (arith, m.slot_is, ok.p_high);
        chunk_low = m.chunk_low;
        chunk_high = m.chunk_high;
        layer_in = m.layer_in;
        some_bytes = m.some_bytes;
      })
      (all_made j p rows asks x))

  -- A layer's sum, before and with the rows made.
  pub sums : (i n : ℕ) → bytes_of_layer (rows ++ made_of j p rows asks x) i n ≡ bytes_of_layer rows i n + bytes_of_layer (made_of j p rows asks x) i n
  sums i n = bytes_append (λ y. eqb y.chunk i && eqb y.layer n) rows (made_of j p rows asks x)

  made_most : (i n : ℕ) → bytes_of_layer (made_of j p rows asks x) i n ≤ remaining j rows i n
  made_most i n =
      omega (arith, taken_left (of_layer i n) p x (asks_below j rows asks (layers j)), below_left j rows asks i n (layers j))

  -- No sum is above its size.
  pub no_more_lem : (i n : ℕ) → Layer j i n → bytes_of_layer (rows ++ made_of j p rows asks x) i n ≤ size j i n
  no_more_lem i n l = omega (arith, sums i n, made_most i n, ok.no_more_lem i n l)

  -- A chunk with a row made is asked.
  made_asked : (i n : ℕ) → 1 ≤ bytes_of_layer (made_of j p rows asks x) i n → T (asks i)
  made_asked i n h =
      let s = some_row (λ y. eqb y.chunk i && eqb y.layer n) (made_of j p rows asks x) h in
      let u = and_T (eqb s.row.chunk i) (eqb s.row.layer n) s.passes in
      let m = at_row (Made j p asks) s.listed (all_made j p rows asks x) in
      subst (λ (k : ℕ). T (asks k)) (eqb→eq s.row.chunk i u.0) m.is_asked

  -- With a byte made of layer m of any chunk, each lower layer of an asked chunk is whole.
  pub lower_whole :
      (i k n m : ℕ) → Layer j i n → n < m → m < layers j → T (asks i) → 1 ≤ bytes_of_layer (made_of j p rows asks x) k m →
      Carried j (rows ++ made_of j p rows asks x) i n
  lower_whole i k n m l lt hi a h =
      let r = below_first j rows asks m (layers j) (omega arith) in
      let h' : 1 ≤ bytes_if (λ y. of_layer k m y.chunk y.layer) (taken_of p x (asks_below j rows asks m ++ r.0)) =
      subst (λ (q : List Piece). 1 ≤ bytes_if (λ y. of_layer k m y.chunk y.layer) (taken_of p x q)) r.1 h in
      let reached = reaches (of_layer k m) p x (asks_below j rows asks m) r.0 (below_none j rows asks m k m (omega arith)) h' in
      ⊎_elim
      (λ t.
      let some = ltb→lt 0 (remaining j rows i n) t in
      let q = in_below j rows asks i n m l.chunk_low l.chunk_high lt a some in
      let here' = whole_row p x r.0 (below_somes j rows asks m) (omega arith) q in
      let listed : In (row_of p (record { chunk = i; layer = n; bytes = remaining j rows i n }) (remaining j rows i n)) (made_of j p rows asks x) =
      subst (λ (q : List Piece). In (row_of p (record { chunk = i; layer = n; bytes = remaining j rows i n }) (remaining j rows i n)) (taken_of p x q)) (sym r.1) here' in
      let c = row_counts (λ y. eqb y.chunk i && eqb y.layer n) listed (T_and (eqb i i) (eqb n n) (eqb_refl i) (eqb_refl n)) in
      omega (arith, c, sums i n, made_most i n, ok.no_more_lem i n l))
      (λ t. omega (arith, nltb→le 0 (remaining j rows i n) t, sums i n, made_most i n, ok.no_more_lem i n l))
      (test (ltb 0 (remaining j rows i n)))

  -- Rule 3.
  pub rule_3 : LowerCarried j (rows ++ made_of j p rows asks x)
  rule_3 i n l c =
      let l' : Layer j i n = record { chunk_low = l.chunk_low; chunk_high = l.chunk_high; layer_in = omega (arith, l.layer_in) } in
      ⊎_elim
      (λ t.
      let h = ltb→lt 0 (bytes_of_layer (made_of j p rows asks x) i (suc n)) t in
      lower_whole i i n (suc n) l' (omega arith) l.layer_in (made_asked i (suc n) h) h)
      (λ t.
      let z = nltb→le 0 (bytes_of_layer (made_of j p rows asks x) i (suc n)) t in
      let e : Carried j rows i (suc n) = omega (arith, sums i (suc n)) in
      let f = ok.lower i n l e in
      omega (arith, f, sums i n, made_most i n))
      (test (ltb 0 (bytes_of_layer (made_of j p rows asks x) i (suc n))))

  -- Rule 4, for any forecast with at least x in slot p.
  pub rule_4 : x ≤ forecast j p → WithinForecast j (rows ++ made_of j p rows asks x)
  rule_4 room t g h =
      let s = bytes_append (λ y. eqb y.slot t) rows (made_of j p rows asks x) in
      ⊎_elim
      (λ u.
      let e = eqb→eq t p u in
      let z = bytes_none (λ y. eqb y.slot t) rows (λ y m v. omega (arith, at_row (λ y. y.slot < p) m ok.before, eqb→eq y.slot t v)) in
      let f : forecast j t ≡ forecast j p = ap (λ (k : ℕ). forecast j k) e in
      omega (arith, s, z, f, taken_most (λ y. eqb y.slot t) p x (asks_below j rows asks (layers j))))
      (λ u.
      let z = bytes_none (λ y. eqb y.slot t) (made_of j p rows asks x)
      (λ y m v.
      let e : t ≡ p = omega (arith, (at_row (Made j p asks) m (all_made j p rows asks x)).slot_is, eqb→eq y.slot t v) in
      T_not (eqb t p) u ((eqb_iff t p).1 e)) in
      omega (arith, s, z, ok.within t g h))
      (test (eqb t p))

  -- Rule 5, if each asked chunk is due in p or later.
  pub rule_5 : ((i : ℕ) → T (asks i) → p ≤ due j i) → All (OnTime j) (rows ++ made_of j p rows asks x)
  rule_5 due-on =
      all_append (OnTime j) rows (made_of j p rows asks x) ok.on_time_lem
      (all_map (Made j p asks) (OnTime j) (made_of j p rows asks x)
      (λ y m. omega (arith, m.slot_is, due-on y.chunk m.is_asked)) (all_made j p rows asks x))

  -- No chunk is begun before one that plays before it, if each asked chunk is begun or not
  -- overtaken.
  pub in_turn_lem :
      ((i : ℕ) → T (asks i) → T (has_row rows i) ⊎ T (not (begun_after rows i))) →
      (y z : Row) → In y (rows ++ made_of j p rows asks x) → In z (rows ++ made_of j p rows asks x) → z.chunk < y.chunk →
      T (begun (rows ++ made_of j p rows asks x) y.slot z.chunk)
  in_turn_lem line y z a b h =
      ⊎_elim
      (λ m.
      ⊎_elim
      (λ k. begun_more rows (made_of j p rows asks x) y.slot z.chunk (ok.in_turn_lem y z m k h))
      (λ k.
      ⊎_elim
      (λ t.
      let s = any_some (λ w. eqb w.chunk z.chunk) rows t in
      let e = eqb→eq s.row.chunk z.chunk s.passes in
      let g = ok.in_turn_lem y s.row m s.listed (omega arith) in
      begun_more rows (made_of j p rows asks x) y.slot z.chunk (subst (λ (i : ℕ). T (begun rows y.slot i)) e g))
      (λ t. absurd (T_not (begun_after rows z.chunk) t (any_row_lem (λ w. ltb z.chunk w.chunk) m (lt→ltb z.chunk y.chunk h))))
      (line z.chunk (at_row (Made j p asks) k (all_made j p rows asks x)).is_asked))
      (in_append rows (made_of j p rows asks x) b))
      (λ m.
      let e = (at_row (Made j p asks) m (all_made j p rows asks x)).slot_is in
      let l = at_row (λ w. w.slot < suc p) b before_next in
      begun_row (rows ++ made_of j p rows asks x) y.slot z.chunk z b refl (omega arith))
      (in_append rows (made_of j p rows asks x) a)

  -- Rule 6, if each asked chunk is begun, due by p, or of some that there is room for beside those
  -- held.
  module _
      (some : ℕ → Bool) (fits : held_count j rows p + count some (chunks j) ≤ held_most j)
      (room : (i : ℕ) → T (asks i) → T (has_row rows i) ⊎ ((due j i ≤ p) ⊎ T (some i))) where
    -- Before p, what was held.
    held_early : (t i : ℕ) → t < p → T (held j (rows ++ made_of j p rows asks x) t i) → T (held j rows t i)
    held_early t i h u =
        let v = and_T (begun (rows ++ made_of j p rows asks x) t i) (ltb t (due j i)) u in
        let y = begun_by (rows ++ made_of j p rows asks x) t i v.0 in
        ⊎_elim
        (λ m. T_and (begun rows t i) (ltb t (due j i)) (begun_row rows t i y.row m y.chunk_is y.slot_by) v.1)
        (λ m. absurd (omega (arith, (at_row (Made j p asks) m (all_made j p rows asks x)).slot_is, y.slot_by)))
        (in_append rows (made_of j p rows asks x) y.listed)

    -- A chunk with a row before p is begun by p.
    has_begun : (i : ℕ) → T (has_row rows i) → T (begun rows p i)
    has_begun i t =
        let s = any_some (λ w. eqb w.chunk i) rows t in
        begun_row rows p i s.row s.listed (eqb→eq s.row.chunk i s.passes) (omega (arith, at_row (λ w. w.slot < p) s.listed ok.before))

    -- From p on, what was held at the end of p, and those there is room for.
    held_late : (t i : ℕ) → p ≤ t → T (held j (rows ++ made_of j p rows asks x) t i) → T (held j rows p i) ⊎ T (some i)
    held_late t i h u =
        let v = and_T (begun (rows ++ made_of j p rows asks x) t i) (ltb t (due j i)) u in
        let y = begun_by (rows ++ made_of j p rows asks x) t i v.0 in
        let d : p < due j i = omega (arith, ltb→lt t (due j i) v.1) in
        let keep : T (begun rows p i) → T (held j rows p i) = λ b. T_and (begun rows p i) (ltb p (due j i)) b (lt→ltb p (due j i) d) in
        ⊎_elim
        (λ m. inl (keep (begun_row rows p i y.row m y.chunk_is (omega (arith, at_row (λ w. w.slot < p) m ok.before)))))
        (λ m.
        let a : T (asks i) = subst (λ (k : ℕ). T (asks k)) y.chunk_is (at_row (Made j p asks) m (all_made j p rows asks x)).is_asked in
        ⊎_elim (λ b. inl (keep (has_begun i b))) (λ b. ⊎_elim (λ c. absurd (omega arith)) (λ c. inr c) b) (room i a))
        (in_append rows (made_of j p rows asks x) y.listed)

    pub rule_6 : FewHeld j (rows ++ made_of j p rows asks x)
    rule_6 t g h =
        ⊎_elim
        (λ u.
        omega (
          arith,
          ok.few_held t g h,
          count_mono (held j (rows ++ made_of j p rows asks x) t) (held j rows t) (chunks j) (λ i a b c. held_early t i (ltb→lt t p u) c),
        ))
        (λ u.
        omega (
          arith,
          fits,
          count_either (held j (rows ++ made_of j p rows asks x) t) (held j rows p) some (chunks j) (λ i a b c. held_late t i (nltb→le t p u) c),
        ))
        (test (ltb t p))
