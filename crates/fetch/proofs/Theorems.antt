-- Theorems. The verdicts of both checker calls say what their rules say: 0 exactly for a list with
-- marks that keeps them. The rows may come in any order, and where no row stands before p the
-- second call is the first.
use Rattle.std.specs.Prelude.{ℕ, zero, suc, ◌≤◌, ◌<◌, ◌≡◌, refl, Bool, true, false, not, ◌&&◌, ◌||◌, List, [], ◌∷◌, ◌↔◌, T, leb, ltb, eqb}
use Rattle.std.proofs.Common.{ap, inl, inr, ⊎_elim, arith, eqb→eq, ltb→lt, lt→ltb}
use Rattle.theory_basics.specs.Tests.{All, In, all, all_below, any}
use Rattle.theory_basics.specs.lemmas.Refusals.{unless_as}
use Rattle.theory_basics.specs.lemmas.Tests.{all_iff, all_map, all_below_cong, all_below_iff, all_to_cong, all_to_iff, and_T, at_row, each_row, eq_or_iff, eqb_iff, if_iff, leb_iff, not_T_false, same_test, T_and, T_or_iff, test, tests}
use Rattle.job.specs.Job.{Job, Layer, Within, chunks, due, last_due, layers, size}
use Rattle.job.specs.Refusal.{within}
use Rattle.job.specs.Theorems.{within_iff}
use Rattle.job.specs.declared.Programme.{Programme}
use Rattle.fetch.specs.Rows.{Row, Permuted, bytes_if, bytes_of_layer, carried, marks_given}
use Rattle.fetch.specs.Rules.{RowInRange, WholeLayers, LowerCarried, WithinForecast, OnTime, FewHeld, MarksSay, Keeps}
use Rattle.fetch.specs.RulesFrom.{KeepsFrom, WholeFrom}
use Rattle.fetch.specs.Verdict.{all_layers, lower_carried, lowest, rule1, rule2, rule3, rule4, rule5, rule6, rule7, same, verdict}
use Rattle.fetch.specs.VerdictFrom.{layer_before, rule2_from, slot_refusal, verdict_from, whole_from}
use Rattle.fetch.specs.lemmas.Rows.{all_permuted, any_permuted, bytes_none, bytes_permuted, lower_permuted}

-- ---- the tests say what the rules say

pub layers_iff : (j : Job) (p : ℕ → ℕ → Bool) → T (all_layers j p) ↔ ((i n : ℕ) → Layer j i n → T (p i n))
layers_iff j p =
    let a = all_to_iff (chunks j) (λ i. all_below (layers j) (p i)) in (
      λ t i n r. (all_below_iff (layers j) (p i)).0 (a.0 t i r.chunk_low r.chunk_high) n r.layer_in,
      λ f. a.1 (λ i u v. (all_below_iff (layers j) (p i)).1 (λ n w. f i n (record { chunk_low = u; chunk_high = v; layer_in = w }))),
    )

pub rule1_iff : (j : Job) (rows : List Row) → T (rule1 j rows) ↔ All (RowInRange j) rows
rule1_iff j rows = all_iff _ (RowInRange j) (λ x. (λ t. let u = simp tests at t in record { slot_low = u.0; slot_high = u.1.0; chunk_low = u.1.1.0; chunk_high = u.1.1.1.0; layer_in = u.1.1.1.1.0; some_bytes = u.1.1.1.1.1 }, λ r. simp tests (r.slot_low, (r.slot_high, (r.chunk_low, (r.chunk_high, (r.layer_in, r.some_bytes))))))) rows

pub rule2_iff : (j : Job) (rows : List Row) → T (rule2 j rows) ↔ WholeLayers j rows
rule2_iff j rows =
    let a = layers_iff j (λ i n. eqb (bytes_of_layer rows i n) 0 || eqb (bytes_of_layer rows i n) (size j i n)) in (
      λ t i n r. (eq_or_iff (bytes_of_layer rows i n) 0 (bytes_of_layer rows i n) (size j i n)).0 (a.0 t i n r),
      λ f. a.1 (λ i n r. (eq_or_iff (bytes_of_layer rows i n) 0 (bytes_of_layer rows i n) (size j i n)).1 (f i n r)),
    )

pub rule3_iff : (j : Job) (rows : List Row) → T (rule3 j rows) ↔ LowerCarried j rows
rule3_iff j rows =
    let a = layers_iff j (λ i n. not (carried j rows i n) || lower_carried j rows i n) in (
      λ t i n r c. eqb→eq _ _ ((if_iff (carried j rows i (suc n)) (carried j rows i n)).0 (a.0 t i (suc n) r) ((eqb_iff _ _).1 c)),
      λ f. a.1 (λ i n r. (if_iff (carried j rows i n) (lower_carried j rows i n)).1 (at f i n r)),
    )
  where
    at : LowerCarried j rows → (i n : ℕ) → Layer j i n → T (carried j rows i n) → T (lower_carried j rows i n)
    at f i zero r t = tt
    at f i (suc n) r t = (eqb_iff _ _).1 (f i n r (eqb→eq _ _ t))

pub rule4_iff : (j : Job) (rows : List Row) → T (rule4 j rows) ↔ WithinForecast j rows
rule4_iff j rows = simp tests ((λ f. f), (λ f. f))

pub rule5_iff : (j : Job) (rows : List Row) → T (rule5 j rows) ↔ All (OnTime j) rows
rule5_iff j rows = all_iff (λ x. leb x.slot (due j x.chunk)) (OnTime j) (λ x. leb_iff x.slot (due j x.chunk)) rows

pub rule6_iff : (j : Job) (rows : List Row) → T (rule6 j rows) ↔ FewHeld j rows
rule6_iff j rows = simp tests ((λ f. f), (λ f. f))

pub same_iff : (xs ys : List ℕ) → T (same xs ys) ↔ (xs ≡ ys)
same_iff [] [] = (λ t. refl, λ e. tt)
same_iff [] (y ∷ ys) = (λ t. absurd t, λ e. let z : ◌≡◌ {A = ℕ} 0 1 = cc in absurd (omega arith))
same_iff (x ∷ xs) [] = (λ t. absurd t, λ e. let z : ◌≡◌ {A = ℕ} 0 1 = cc in absurd (omega arith))
same_iff (x ∷ xs) (y ∷ ys) = (
  λ t.
      let u = and_T (eqb x y) (same xs ys) t in
      let h : x ≡ y = eqb→eq x y u.0 in
      let r : xs ≡ ys = (same_iff xs ys).0 u.1 in
      cc,
  λ e. let h : x ≡ y = cc in let r : xs ≡ ys = cc in T_and (eqb x y) (same xs ys) ((eqb_iff x y).1 h) ((same_iff xs ys).1 r),
)

pub rule7_iff : (j : Job) (marks : List ℕ) (rows : List Row) → T (rule7 j marks rows) ↔ MarksSay j marks rows
rule7_iff j marks rows = same_iff marks (marks_given j rows)

-- ---- verdict 0 exactly for a list that keeps the rules

pub lowest_iff : (n : ℕ) (bs : List Bool) → 0 < n → (lowest n bs ≡ 0) ↔ All T bs
lowest_iff n [] h = (λ e. tt, λ a. refl)
lowest_iff n (true ∷ bs) h = let r = lowest_iff (suc n) bs (omega arith) in (λ e. (tt, r.0 e), λ a. r.1 a.1)
lowest_iff n (false ∷ bs) h = (λ e. absurd (omega arith), λ a. absurd a.0)

-- Demand 2: "The checker passes a fetch list with its marks if and only if it keeps rules 1 to 7 of
-- document 01".
pub verdict_iff : (j : Job) (marks : List ℕ) (rows : List Row) → (verdict j marks rows ≡ 0) ↔ Keeps j marks rows
unfolding verdict
verdict_iff j marks rows =
    let l = lowest_iff 1 (rule1 j rows ∷ rule2 j rows ∷ rule3 j rows ∷ rule4 j rows ∷ rule5 j rows ∷ rule6 j rows ∷ rule7 j marks rows ∷ []) (omega arith) in (
      λ e.
          let a = l.0 e in
          record {
            in_range_lem = (rule1_iff j rows).0 a.0;
            whole = (rule2_iff j rows).0 a.1.0;
            lower = (rule3_iff j rows).0 a.1.1.0;
            within = (rule4_iff j rows).0 a.1.1.1.0;
            on_time_lem = (rule5_iff j rows).0 a.1.1.1.1.0;
            few_held = (rule6_iff j rows).0 a.1.1.1.1.1.0;
            marks_say = (rule7_iff j marks rows).0 a.1.1.1.1.1.1.0;
          },
      λ k.
          l.1 (
            (rule1_iff j rows).1 k.in_range_lem,
            (
              (rule2_iff j rows).1 k.whole,
              (
                (rule3_iff j rows).1 k.lower,
                (
                  (rule4_iff j rows).1 k.within,
                  ((rule5_iff j rows).1 k.on_time_lem, ((rule6_iff j rows).1 k.few_held, ((rule7_iff j marks rows).1 k.marks_say, tt))),
                ),
              ),
            ),
          ),
    )

-- ---- the second call

pub slot_iff : (f : Programme) (p : ℕ) → (slot_refusal f p ≡ 0) ↔ Within 1 (last_due f) p
slot_iff f p = unless_as 21 (within 1 (last_due f) p) (omega arith) (within_iff 1 (last_due f) p)

-- The tests say what the rules say.

pub before_iff :
    (p : ℕ) (rows : List Row) (i n : ℕ) →
    T (layer_before p rows i n) ↔ ((x : Row) → In x rows → x.chunk ≡ i → x.layer ≡ n → x.slot < p)
before_iff p rows i n =
    let P : Row → Type 0 = λ x. x.chunk ≡ i → x.layer ≡ n → x.slot < p in
    let a =
    all_iff (λ x. not (eqb x.chunk i && eqb x.layer n) || ltb x.slot p) P (λ x.
    let f = if_iff (eqb x.chunk i && eqb x.layer n) (ltb x.slot p) in (
      λ t c l. ltb→lt x.slot p (f.0 t (T_and (eqb x.chunk i) (eqb x.layer n) ((eqb_iff _ _).1 c) ((eqb_iff _ _).1 l))),
      λ g. f.1 (λ t. let u = and_T (eqb x.chunk i) (eqb x.layer n) t in lt→ltb x.slot p (g (eqb→eq _ _ u.0) (eqb→eq _ _ u.1))),
    )) rows in
    (λ t x m. at_row P m (a.0 t), λ f. a.1 (each_row P rows f))

pub rule2_from_iff : (j : Job) (p : ℕ) (rows : List Row) → T (rule2_from j p rows) ↔ WholeFrom j p rows
rule2_from_iff j p rows =
    let s : ℕ → ℕ → ℕ = bytes_of_layer rows in
    let a = layers_iff j (whole_from j p rows) in
    let whole : (i n : ℕ) → Bool = λ i n. eqb (s i n) (size j i n) in
    let short : (i n : ℕ) → Bool = λ i n. ltb (s i n) (size j i n) && layer_before p rows i n in (
      λ t i n r.
          ⊎_elim
          (λ u. inl (eqb→eq _ _ u))
          (λ u.
          inr
          (⊎_elim
          (λ v. inl (eqb→eq _ _ v))
          (λ v.
          let w = and_T (ltb (s i n) (size j i n)) (layer_before p rows i n) v in
          inr (record { short = ltb→lt _ _ w.0; before = (before_iff p rows i n).0 w.1 }))
          ((T_or_iff (whole i n) (short i n)).0 u)))
          ((T_or_iff (eqb (s i n) 0) (whole i n || short i n)).0 (a.0 t i n r)),
      λ f.
          a.1 (λ i n r.
          (T_or_iff (eqb (s i n) 0) (whole i n || short i n)).1
          (⊎_elim
          (λ u. inl ((eqb_iff _ _).1 u))
          (λ u.
          inr
          ((T_or_iff (whole i n) (short i n)).1
          (⊎_elim
          (λ v. inl ((eqb_iff _ _).1 v))
          (λ v. inr (T_and (ltb (s i n) (size j i n)) (layer_before p rows i n) (lt→ltb _ _ v.short) ((before_iff p rows i n).1 v.before)))
          u)))
          (f i n r))),
    )

-- The second call passes a list with its marks if and only if it keeps its rules.
pub verdict_from_iff : (j : Job) (p : ℕ) (marks : List ℕ) (rows : List Row) → (verdict_from j p marks rows ≡ 0) ↔ KeepsFrom j p marks rows
unfolding verdict_from
verdict_from_iff j p marks rows =
    let l = lowest_iff 1 (rule1 j rows ∷ rule2_from j p rows ∷ rule3 j rows ∷ rule4 j rows ∷ rule5 j rows ∷ rule6 j rows ∷ rule7 j marks rows ∷ []) (omega arith) in (
      λ e.
          let a = l.0 e in
          record {
            in_range_lem = (rule1_iff j rows).0 a.0;
            whole = (rule2_from_iff j p rows).0 a.1.0;
            lower = (rule3_iff j rows).0 a.1.1.0;
            within = (rule4_iff j rows).0 a.1.1.1.0;
            on_time_lem = (rule5_iff j rows).0 a.1.1.1.1.0;
            few_held = (rule6_iff j rows).0 a.1.1.1.1.1.0;
            marks_say = (rule7_iff j marks rows).0 a.1.1.1.1.1.1.0;
          },
      λ k.
          l.1 (
            (rule1_iff j rows).1 k.in_range_lem,
            (
              (rule2_from_iff j p rows).1 k.whole,
              (
                (rule3_iff j rows).1 k.lower,
                (
                  (rule4_iff j rows).1 k.within,
                  ((rule5_iff j rows).1 k.on_time_lem, ((rule6_iff j rows).1 k.few_held, ((rule7_iff j marks rows).1 k.marks_say, tt))),
                ),
              ),
            ),
          ),
    )

rule2_permuted : (j : Job) (p : ℕ) {a b : List Row} → Permuted a b → rule2_from j p a ≡ rule2_from j p b
rule2_permuted j p h =
    all_to_cong (chunks j) _ _ (λ i u v.
    all_below_cong (layers j) _ _ (λ n w.
    let sum = bytes_permuted (λ x. eqb x.chunk i && eqb x.layer n) h in
    let every = all_permuted (λ x. not (eqb x.chunk i && eqb x.layer n) || ltb x.slot p) h in
    rw (sum, every)))

-- "Rows may repeat and come in any order": the verdict is the same in each.
pub order_free_from : (j : Job) (p : ℕ) (marks : List ℕ) (a b : List Row) → Permuted a b → verdict_from j p marks a ≡ verdict_from j p marks b
unfolding verdict_from
order_free_from j p marks a b h =
    let sums : (q : Row → Bool) → bytes_if q a ≡ bytes_if q b = λ q. bytes_permuted q h in
    let every : (q : Row → Bool) → all q a ≡ all q b = λ q. all_permuted q h in
    let some : (q : Row → Bool) → any q a ≡ any q b = λ q. any_permuted q h in
    let lower : (i n : ℕ) → lower_carried j a i n ≡ lower_carried j b i n = lower_permuted j h in
    let two : rule2_from j p a ≡ rule2_from j p b = rule2_permuted j p h in
    simp (sums, every, some, lower, two)

-- ---- where no row stands before p it is the first call

none_before : (j : Job) (p : ℕ) (rows : List Row) → All (λ x. p ≤ x.slot) rows → rule2_from j p rows ≡ rule2 j rows
none_before j p rows later =
    let two = rule2_iff j rows in
    let from = rule2_from_iff j p rows in
    same_test (rule2_from j p rows) (rule2 j rows)
    (λ t. two.1 (λ i n r. ⊎_elim (λ z. inl z) (⊎_elim (λ w. inr w) (λ s. inl (none i n s.before))) (from.0 t i n r)))
    (λ t. from.1 (λ i n r. ⊎_elim (λ z. inl z) (λ w. inr (inl w)) (two.0 t i n r)))
  where
    none : (i n : ℕ) → ((x : Row) → In x rows → x.chunk ≡ i → x.layer ≡ n → x.slot < p) → bytes_of_layer rows i n ≡ 0
    none i n f =
        bytes_none (λ x. eqb x.chunk i && eqb x.layer n) rows (λ x m t.
        let u = and_T (eqb x.chunk i) (eqb x.layer n) t in
        omega (arith, f x m (eqb→eq _ _ u.0) (eqb→eq _ _ u.1), at_row (λ x. p ≤ x.slot) m later))

-- "for p with no rows before it": the same verdict.
pub no_rows_before : (j : Job) (p : ℕ) (marks : List ℕ) (rows : List Row) → All (λ x. p ≤ x.slot) rows → verdict_from j p marks rows ≡ verdict j marks rows
unfolding verdict_from verdict
no_rows_before j p marks rows later =
    ap (λ (b : Bool). lowest 1 (rule1 j rows ∷ b ∷ rule3 j rows ∷ rule4 j rows ∷ rule5 j rows ∷ rule6 j rows ∷ rule7 j marks rows ∷ [])) (none_before j p rows later)

-- At slot 1 of any rows: a row before it breaks rule 1 in both.
pub first_slot : (j : Job) (marks : List ℕ) (rows : List Row) → verdict_from j 1 marks rows ≡ verdict j marks rows
unfolding verdict_from verdict
first_slot j marks rows =
    ⊎_elim
    (λ t. no_rows_before j 1 marks rows (all_map (RowInRange j) (λ x. 1 ≤ x.slot) rows (λ x r. r.slot_low) ((rule1_iff j rows).0 t)))
    (λ t. rw (not_T_false (rule1 j rows) t))
    (test (rule1 j rows))
