-- Meaning, then its theorems. The refusals of planning afresh that come after the job's own and 8:
-- 21, 7 and 22, a definition a number and 21 apart for p and for the rows. And the joined job:
-- accepted if none applies, and the job itself if the forecast has not changed.
use Rattle.std.specs.Prelude.{ℕ, suc, ◌-◌, ◌≤◌, ◌<◌, ◌≡◌, Bool, not, ◌&&◌, ◌||◌, List, ◌↔◌, length, take, drop, T, leb, ltb, eqb}
use Rattle.std.proofs.Common.{ap, arith, length-append, take-append-drop, length-take-le, ltb→lt, lt→ltb}
use Rattle.theory_basics.specs.Refusals.{◌or_else◌, unless}
use Rattle.theory_basics.specs.Tests.{All, In, all}
use Rattle.theory_basics.specs.lemmas.Refusals.{and_as, or_else_as, unless_as}
use Rattle.theory_basics.specs.lemmas.Tables.{all_take}
use Rattle.theory_basics.specs.lemmas.Tests.{all_append, all_iff, at_row, each_row, eqb_iff, if_iff, leb_iff, ltb_iff}
use Rattle.job.specs.Job.{Accepted, Job, Layer, Within, last_slot, size, with_forecast}
use Rattle.job.specs.Refusal.{bytes_refusal}
use Rattle.job.specs.Theorems.{bytes_iff}
use Rattle.fetch.specs.Rows.{Row, begun, bytes_of_layer}
use Rattle.fetch.specs.Verdict.{all_layers, rule1, rule3, rule4, rule5, rule6}
use Rattle.fetch.proofs.Theorems.{layers_iff, rule1_iff, rule3_iff, rule4_iff, rule5_iff, rule6_iff, slot_iff}
use Rattle.fetch.specs.VerdictFrom.{slot_refusal}
use Rattle.theory_replan.specs.Statement.{Acceptable, joined}

-- 21: "in planning a handed row not before p".
abbrev pub before_refusal : ℕ → List Row → ℕ
before_refusal p fetched = unless 21 (all (λ x. ltb x.slot p) fetched)

-- 7: "a handed forecast out of range or not of d(C) − p + 1 slots is 7, between 21 and 22".
abbrev pub onward_refusal : Job → ℕ → List ℕ → ℕ
onward_refusal j p onward = bytes_refusal onward or_else unless 7 (eqb (length onward) (suc (last_slot j) - p))

-- No sum exceeds its size.
abbrev pub no_more : Job → List Row → Bool
no_more j rows = all_layers j (λ i n. leb (bytes_of_layer rows i n) (size j i n))

-- By the slot of each row, each chunk with a fetched row that plays before is begun.
abbrev pub in_turn : List Row → Bool
in_turn rows = all (λ x. all (λ y. not (ltb y.chunk x.chunk) || begun rows x.slot y.chunk) rows) rows

-- 22: "handed rows that break rule 1, 3, 4, 5 or 6, with rule 2 only where a sum exceeds its size,
-- or that begin a chunk in an earlier slot than a handed one that plays before it".
abbrev pub fetched_kept : Job → List Row → Bool
fetched_kept j rows = rule1 j rows && (no_more j rows && (rule3 j rows && (rule4 j rows && (rule5 j rows && (rule6 j rows && in_turn rows)))))

-- 21, 7 and 22, in this order.
unfoldable pub replan_refusal : Job → ℕ → List Row → List ℕ → ℕ
replan_refusal j p fetched onward =
    slot_refusal j.programme p
    or_else before_refusal p fetched
    or_else onward_refusal j p onward
    or_else unless 22 (fetched_kept (joined j p onward) fetched)

-- What none of them says.
pub record Replannable (j : Job) (p : ℕ) (fetched : List Row) (onward : List ℕ) : Type 0 where
  pub slots_in : length onward ≡ suc (last_slot j) - p
  pub onward_in : All (Within 0 16777216) onward
  pub acceptable : Acceptable (joined j p onward) p fetched

-- ---- they say it

no_more_iff : (j : Job) (rows : List Row) → T (no_more j rows) ↔ ((i n : ℕ) → Layer j i n → bytes_of_layer rows i n ≤ size j i n)
no_more_iff j rows =
    let a = layers_iff j (λ i n. leb (bytes_of_layer rows i n) (size j i n)) in
    (λ t i n r. (leb_iff _ _).0 (a.0 t i n r), λ f. a.1 (λ i n r. (leb_iff _ _).1 (f i n r)))

abbrev pub InTurn : List Row → Type 0
InTurn rows = (x y : Row) → In x rows → In y rows → y.chunk < x.chunk → T (begun rows x.slot y.chunk)

pub in_turn_iff : (rows : List Row) → T (in_turn rows) ↔ InTurn rows
in_turn_iff rows =
    let P : Row → Row → Type 0 = λ x y. y.chunk < x.chunk → T (begun rows x.slot y.chunk) in
    let one : (x : Row) → T (all (λ y. not (ltb y.chunk x.chunk) || begun rows x.slot y.chunk) rows) ↔ All (P x) rows =
    λ x. all_iff (λ y. not (ltb y.chunk x.chunk) || begun rows x.slot y.chunk) (P x) (λ y. (
      λ t h. (if_iff (ltb y.chunk x.chunk) (begun rows x.slot y.chunk)).0 t (lt→ltb _ _ h),
      λ f. (if_iff (ltb y.chunk x.chunk) (begun rows x.slot y.chunk)).1 (λ t. f (ltb→lt _ _ t)),
    )) rows in
    let both = all_iff (λ x. all (λ y. not (ltb y.chunk x.chunk) || begun rows x.slot y.chunk) rows) (λ x. All (P x) rows) one rows in (
      λ t x y i k. at_row (P x) k (at_row (λ x. All (P x) rows) i (both.0 t)),
      λ f. both.1 (each_row (λ x. All (P x) rows) rows (λ x i. each_row (P x) rows (λ y k. f x y i k))),
    )

pub before_iff : (p : ℕ) (fetched : List Row) → (before_refusal p fetched ≡ 0) ↔ All (λ x. x.slot < p) fetched
before_iff p fetched = unless_as 21 (all (λ x. ltb x.slot p) fetched) (omega arith) (all_iff (λ x. ltb x.slot p) (λ x. x.slot < p) (λ x. ltb_iff x.slot p) fetched)

pub onward_iff : (j : Job) (p : ℕ) (onward : List ℕ) → (onward_refusal j p onward ≡ 0) ↔ (All (Within 0 16777216) onward × (length onward ≡ suc (last_slot j) - p))
onward_iff j p onward =
    let many : Bool = eqb (length onward) (suc (last_slot j) - p) in
    or_else_as (bytes_refusal onward) (unless 7 many) (bytes_iff onward) (unless_as 7 many (omega arith) (eqb_iff (length onward) (suc (last_slot j) - p)))

pub replan_refusal_iff :
    (j : Job) (p : ℕ) (fetched : List Row) (onward : List ℕ) → (replan_refusal j p fetched onward ≡ 0) ↔ Replannable j p fetched onward
unfolding replan_refusal
replan_refusal_iff j p fetched onward =
    let k = joined j p onward in
    let kept =
    unless_as 22 (fetched_kept k fetched) (omega arith)
    (and_as (rule1 k fetched) _ (rule1_iff k fetched) (and_as (no_more k fetched) _ (no_more_iff k fetched) (and_as (rule3 k fetched) _ (rule3_iff k fetched) (and_as (rule4 k fetched) _ (rule4_iff k fetched) (and_as (rule5 k fetched) _ (rule5_iff k fetched) (and_as (rule6 k fetched) (in_turn fetched) (rule6_iff k fetched) (in_turn_iff fetched))))))) in
    let r = or_else_as _ _ (slot_iff j.programme p) (or_else_as _ _ (before_iff p fetched) (or_else_as _ _ (onward_iff j p onward) kept)) in (
      λ e.
          let u = r.0 e in
          let v = u.1.1.1 in
          record {
            slots_in = u.1.1.0.1;
            onward_in = u.1.1.0.0;
            acceptable =
                record {
                  p_low = u.0.low;
                  p_high = u.0.high;
                  before = u.1.0;
                  in_range_lem = v.0;
                  no_more_lem = v.1.0;
                  lower = v.1.1.0;
                  within = v.1.1.1.0;
                  on_time_lem = v.1.1.1.1.0;
                  few_held = v.1.1.1.1.1.0;
                  in_turn_lem = v.1.1.1.1.1.1;
                };
          },
      λ x.
          let c = x.acceptable in
          r.1 (record { low = c.p_low; high = c.p_high }, (c.before, ((x.onward_in, x.slots_in), (c.in_range_lem, (c.no_more_lem, (c.lower, (c.within, (c.on_time_lem, (c.few_held, c.in_turn_lem))))))))),
    )

-- ---- the joined job

-- By 21 of p and 7 alone.
pub joined_in :
    (j : Job) → Accepted j → (p : ℕ) → 1 ≤ p → p ≤ last_slot j → (onward : List ℕ) → All (Within 0 16777216) onward → length onward ≡ suc (last_slot j) - p →
    Accepted (joined j p onward)
joined_in j a p low high onward small many =
    record {
      chunks_in = a.chunks_in;
      span_in = a.span_in;
      delay_in = a.delay_in;
      limit_in = a.limit_in;
      last_in = a.last_in;
      layers_in = a.layers_in;
      sizes_in_lem = a.sizes_in_lem;
      overrides_named = a.overrides_named;
      overrides_rise = a.overrides_rise;
      overrides_in_lem = a.overrides_in_lem;
      forecast_in_lem = all_append (Within 0 16777216) (take (p - 1) j.forecast) onward (all_take (Within 0 16777216) (p - 1) j.forecast a.forecast_in_lem) small;
      slots_in =
          omega (
            arith,
            length-append (take (p - 1) j.forecast) onward,
            length-take-le (p - 1) j.forecast (omega (arith, a.slots_in)),
          );
    }

pub joined_accepted : (j : Job) → Accepted j → (p : ℕ) (fetched : List Row) (onward : List ℕ) → Replannable j p fetched onward → Accepted (joined j p onward)
joined_accepted j a p fetched onward r = joined_in j a p r.acceptable.p_low r.acceptable.p_high onward r.onward_in r.slots_in

-- "the forecast hasn't changed"
pub joined_unchanged : (j : Job) (p : ℕ) → joined j p (drop (p - 1) j.forecast) ≡ j
joined_unchanged j p = ap (with_forecast j) (take-append-drop (p - 1) j.forecast)
