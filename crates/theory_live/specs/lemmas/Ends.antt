-- Lemmas. Acceptable rows pass the second checker call, and so they do with the whole pieces of
-- slot p; and they are acceptable whatever is forecast from p on. Assumes nothing.
use Rattle.std.specs.Prelude.{ℕ, ◌-◌, ◌≤◌, ◌<◌, ◌≡◌, refl, Bool, ◌&&◌, List, ◌++◌, ◌⊎◌, length, take, ltb, eqb}
use Rattle.std.proofs.Common.{subst, inl, inr, ⊎_elim, arith, length-take, get_or-take, ltb→lt, nltb→le, eqb→eq}
use Rattle.std.proofs.Math.ListN.{get_or-append}
use Rattle.theory_basics.specs.Tests.{All, In}
use Rattle.theory_basics.specs.lemmas.Tests.{all_map, and_T, at_row, eqb_iff, in_append, T_and, test}
use Rattle.job.specs.Job.{Job, chunks, forecast, held_most, last_slot, layers, size}
use Rattle.fetch.specs.Rows.{Row, Carried, bytes_of_layer, held_count}
use Rattle.fetch.specs.Rules.{RowInRange}
use Rattle.fetch.specs.RulesFrom.{PassesFrom, ShortBefore, WholeFrom}
use Rattle.fetch.specs.lemmas.Rows.{bytes_none, row_counts, some_row}
use Rattle.theory_replan.specs.Statement.{Acceptable, joined}
use Rattle.theory_live.specs.Statement.{asked_beside, asks_below, fresh, has_room, remaining}
use Rattle.theory_live.specs.lemmas.Asked.{asked_due, asked_room}
use Rattle.theory_live.specs.lemmas.Firsts.{room}
use Rattle.theory_live.specs.lemmas.Pieces.{below_pieces, AskedPiece, whole_each, whole_most, whole_of}
use Rattle.theory_live.specs.lemmas.Safe.{all_made, Made, made_of, no_more_lem, rule_1, rule_3, rule_4, rule_5, rule_6, sums}

-- ---- the forecast from p on

-- Rows acceptable at p are so whatever is forecast from p on.
pub acceptable_onward :
    (j : Job) (p : ℕ) (rows : List Row) (onward : List ℕ) → length j.forecast ≡ last_slot j → Acceptable j p rows → Acceptable (joined j p onward) p rows
acceptable_onward j p rows onward e ok = record {
  p_low = ok.p_low;
  p_high = ok.p_high;
  before = ok.before;
  in_range_lem = all_same ok.in_range_lem;
  no_more_lem = λ i n l. ok.no_more_lem i n (record { chunk_low = l.chunk_low; chunk_high = l.chunk_high; layer_in = l.layer_in });
  lower = λ i n l. ok.lower i n (record { chunk_low = l.chunk_low; chunk_high = l.chunk_high; layer_in = l.layer_in });
  within = λ t g h.
      ⊎_elim
      (λ u.
      let l = ltb→lt t p u in
      let a = get_or-append (take (p - 1) j.forecast) onward 0 (t - 1) (omega (arith, length-take (p - 1) j.forecast, ok.p_high, e)) in
      let b = get_or-take (p - 1) j.forecast (t - 1) 0 (omega arith) in
      omega (arith, ok.within t g h, a, b))
      (λ u.
      let l = nltb→le t p u in
      omega (arith, bytes_none (λ y. eqb y.slot t) rows (λ y m v. omega (arith, at_row (λ y. y.slot < p) m ok.before, eqb→eq y.slot t v))))
      (test (ltb t p));
  on_time_lem = ok.on_time_lem;
  few_held = ok.few_held;
  in_turn_lem = ok.in_turn_lem;
}
  where
    all_same : All (RowInRange j) rows → All (RowInRange (joined j p onward)) rows
    all_same =
        all_map (RowInRange j) (RowInRange (joined j p onward)) rows (λ y k. record {
          slot_low = k.slot_low;
          slot_high = k.slot_high;
          chunk_low = k.chunk_low;
          chunk_high = k.chunk_high;
          layer_in = k.layer_in;
          some_bytes = k.some_bytes;
        })

-- ---- the second call

-- A sum that is not above its size, of rows all before p, is full or short before p.
short_or_full :
    (j : Job) (p : ℕ) (rows : List Row) (i n : ℕ) → bytes_of_layer rows i n ≤ size j i n →
    ((y : Row) → In y rows → y.chunk ≡ i → y.layer ≡ n → y.slot < p) → Carried j rows i n ⊎ ShortBefore j p rows i n
short_or_full j p rows i n h f =
    ⊎_elim
    (λ t. inr (record { short = ltb→lt (bytes_of_layer rows i n) (size j i n) t; before = f }))
    (λ t. inl (omega (arith, nltb→le (bytes_of_layer rows i n) (size j i n) t)))
    (test (ltb (bytes_of_layer rows i n) (size j i n)))

-- Acceptable rows pass at p.
pub acceptable_passes : (j : Job) (p : ℕ) (rows : List Row) → Acceptable j p rows → PassesFrom j p rows
acceptable_passes j p rows ok = record {
  in_range_lem = ok.in_range_lem;
  whole = λ i n l. inr (short_or_full j p rows i n (ok.no_more_lem i n l) (λ y m a b. at_row (λ y. y.slot < p) m ok.before));
  lower = ok.lower;
  within = ok.within;
  on_time_lem = ok.on_time_lem;
  few_held = ok.few_held;
  marks_say = refl;
}

-- With the pieces that x bytes of slot p fetch whole, they pass at p, the last slot too.
module _ (j : Job) (p : ℕ) (rows : List Row) (over : ℕ → Bool) (x : ℕ) (ok : Acceptable j p rows) where
  abbrev kept : ℕ
  kept = whole_of x (asks_below j rows (asked_beside j p rows over) (layers j))

  made_whole : All (λ y. y.bytes ≡ remaining j rows y.chunk y.layer) (made_of j p rows (asked_beside j p rows over) kept)
  made_whole =
      let a = asked_beside j p rows over in
      whole_each (AskedPiece j rows a 0 (layers j) (chunks j)) (λ y. y.bytes ≡ remaining j rows y.chunk y.layer) p (λ q k. k.bytes_are)
      x (asks_below j rows a (layers j)) (below_pieces j rows a (layers j))

  whole_at : WholeFrom j p (rows ++ made_of j p rows (asked_beside j p rows over) kept)
  whole_at i n l =
      let a = asked_beside j p rows over in
      let made = made_of j p rows a kept in
      let most = no_more_lem j p rows a kept ok i n l in
      inr (⊎_elim
      (λ t.
      let s = some_row (λ y. eqb y.chunk i && eqb y.layer n) made (ltb→lt 0 (bytes_of_layer made i n) t) in
      let c = row_counts (λ y. eqb y.chunk i && eqb y.layer n) s.listed s.passes in
      let u = and_T (eqb s.row.chunk i) (eqb s.row.layer n) s.passes in
      let w : s.row.bytes ≡ remaining j rows i n =
      subst (λ (k : ℕ). s.row.bytes ≡ remaining j rows k n) (eqb→eq s.row.chunk i u.0)
      (subst (λ (k : ℕ). s.row.bytes ≡ remaining j rows s.row.chunk k) (eqb→eq s.row.layer n u.1)
      (at_row (λ y. y.bytes ≡ remaining j rows y.chunk y.layer) s.listed made_whole)) in
      inl (omega (arith, sums j p rows a kept ok i n, most, c, w)))
      (λ t.
      short_or_full j p (rows ++ made) i n most (λ y m d e.
      ⊎_elim
      (λ k. at_row (λ y. y.slot < p) k ok.before)
      (λ k.
      let c = row_counts (λ y. eqb y.chunk i && eqb y.layer n) k (T_and (eqb y.chunk i) (eqb y.layer n) ((eqb_iff y.chunk i).1 d) ((eqb_iff y.layer n).1 e)) in
      absurd (omega (arith, c, (at_row (Made j p a) k (all_made j p rows a kept)).some_bytes, nltb→le 0 (bytes_of_layer made i n) t)))
      (in_append rows made m)))
      (test (ltb 0 (bytes_of_layer made i n))))

  pub whole_passes : x ≤ forecast j p → PassesFrom j p (rows ++ made_of j p rows (asked_beside j p rows over) kept)
  whole_passes l =
      let a = asked_beside j p rows over in
      record {
        in_range_lem = rule_1 j p rows a kept ok;
        whole = whole_at;
        lower = rule_3 j p rows a kept ok;
        within = rule_4 j p rows a kept ok (omega (arith, whole_most x (asks_below j rows a (layers j))));
        on_time_lem = rule_5 j p rows a kept ok (asked_due j p rows over);
        few_held =
            rule_6 j p rows a kept ok (λ i. fresh j p rows over i && has_room j p rows over i)
            (room (fresh j p rows over) (held_count j rows p) (held_most j) (chunks j) (ok.few_held p ok.p_low ok.p_high)) (asked_room j p rows over);
        marks_say = refl;
      }
