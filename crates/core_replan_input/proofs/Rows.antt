-- Laws on what the tables say of the fetched rows. Assumes nothing.
use Prim.Native.Nat.{ℕ, suc, ◌+◌, ◌*◌, ◌-◌, ◌≤◌, ◌<◌, min}
use mathlib.Core.Path.{◌≡◌, refl, sym, ap, ◌∙◌, subst}
use mathlib.Core.Bool.{Bool}
use mathlib.Core.List.{List, [], ◌∷◌, ◌++◌}
use mathlib.Core.Logic.{⊎_elim}
use native.Mathlib.Omega.{arith}
use lib.ListN.{length, get_or, length-append, get_or-append}
use lib.Dec.{T, leb, ltb, eqb, eqb→eq, leb→le, nleb→lt, le→leb, ltb→lt, lt→ltb, nltb→le}
use borrow.Author.Tests.{eq-eqb, le-ltb, lt-ltb}
use Rattle.theory_basics.specs.Tests.{All, In, all_below, all_to, here, there}
use Rattle.theory_basics.specs.lemmas.Tests.{T_true, all_below_cong, all_to_cong, all_to_iff, any_row_lem, at_row, eqb_iff, not_T_false, same_test, test}
use Rattle.job.specs.Job.{Accepted, Job, Override, chunks, forecast, last_due, layers, size}
use Rattle.core_sizes.specs.Table.{spot, table_at}
use Rattle.job.specs.declared.Programme.{Programme}
use Rattle.job.specs.lemmas.Within.{all_most, size_most}
use Rattle.fetch.specs.Rows.{Row, bytes_in_slot, bytes_of_layer, carried, has_row, mark_byte}
use Rattle.fetch.specs.Rules.{RowInRange, LowerCarried}
use Rattle.fetch.specs.Verdict.{rule4}
use Rattle.fetch.specs.lemmas.Marks.{mark_cong}
use Rattle.fetch.specs.lemmas.Rows.{any_some, bytes_none}
use Rattle.theory_plan.specs.lemmas.Level.{level, level_choice, level_iff}
use Rattle.theory_plan.specs.lemmas.Linear.{mark_level}
use Rattle.theory_plan.specs.lemmas.Trials.{level_mark}
use Rattle.theory_plan.specs.lemmas.Words.{layer_of}
use Rattle.theory_replan.specs.Refusal.{InTurn, in_turn_iff, in_turn, no_more}
use Rattle.core_replan_decide.specs.lemmas.Decision.{Tabled, job_from}
use Rattle.core_replan_decide.specs.lemmas.Tables.{Small}
use Rattle.core_rules.proofs.Exact.{begun_is, carried_is, leb_cap}
use Rattle.core_rules.specs.lemmas.Tables.{Tallied, carried_by, first_of}
use Rattle.core_replan_input.specs.lemmas.Gather.{Flags, InTurnBy, SetLeftPost, InTurnPost, few_by}

-- ---- first slots

-- The first slot of a chunk is that of one of its rows,
first_row : (l : List Row) (i : ℕ) → first_of i l < 65535 → (x : Row) × In x l × (x.chunk ≡ i) × (x.slot ≡ first_of i l)
first_row [] i h = absurd (omega arith)
first_row (x ∷ l) i h =
    ⊎_elim
    (λ t.
    let e : x.chunk ≡ i = eqb→eq x.chunk i t in
    let f : first_of i (x ∷ l) ≡ min x.slot (first_of i l) = rw (T_true (eqb x.chunk i) t) in
    ⊎_elim
    (λ u. (x, here, e, omega (arith, f, leb→le x.slot (first_of i l) u)))
    (λ u.
    let less = nleb→lt x.slot (first_of i l) u in
    let r = first_row l i (omega (arith, f)) in
    (r.0, there r.1, r.2, omega (arith, f, r.3)))
    (test (leb x.slot (first_of i l))))
    (λ t.
    let f : first_of i (x ∷ l) ≡ min 65535 (first_of i l) = rw (not_T_false (eqb x.chunk i) t) in
    let r = first_row l i (omega (arith, f)) in
    (r.0, there r.1, r.2, omega (arith, f, r.3)))
    (test (eqb x.chunk i))

-- and none of them is earlier.
first_least : {x : Row} {l : List Row} → In x l → first_of x.chunk l ≤ x.slot
first_least {x = x} (here {xs = l}) =
    let e : first_of x.chunk (x ∷ l) ≡ min x.slot (first_of x.chunk l) = rw (eq-eqb x.chunk x.chunk refl) in omega (arith, e)
first_least {x = x} (there {y = y} {xs = l} i) = omega (arith, first_least i)

module _ (j : Job) (ok : Accepted j) (rows : List Row) (range : All (RowInRange j) rows) where
  -- A row's slot is a slot of a job.
  slot_few : {x : Row} → In x rows → x.slot ≤ 3600
  slot_few i = omega (arith, (at_row (RowInRange j) i range).slot_high, ok.last_in)

  began_is : (i : ℕ) → ltb (first_of i rows) 65535 ≡ has_row rows i
  began_is i =
      same_test (ltb (first_of i rows) 65535) (has_row rows i)
      (λ t. let r = first_row rows i (ltb→lt (first_of i rows) 65535 t) in any_row_lem (λ x. eqb x.chunk i) r.1 ((eqb_iff r.0.chunk i).1 r.2))
      (λ t.
      let s = any_some (λ x. eqb x.chunk i) rows t in
      let e : s.row.chunk ≡ i = eqb→eq s.row.chunk i s.passes in
      lt→ltb (first_of i rows) 65535 (omega (arith, rw e at (first_least s.listed), slot_few s.listed)))

  module _ {S L F : List ℕ} (t : Tallied rows S L F) where
    first_is : (i : ℕ) → 1 ≤ i → i ≤ chunks j → get_or F i 0 ≡ first_of i rows
    first_is i u v = t.firsts i u (omega (arith, ok.chunks_in.high))

    -- ---- in turn

    to_rows : InTurnBy F (chunks j) → InTurn rows
    to_rows f x y i k l =
        let zx = at_row (RowInRange j) i range in
        let zy = at_row (RowInRange j) k range in
        let fx = first_least i in
        let fy = first_least k in
        let ex = first_is x.chunk zx.chunk_low zx.chunk_high in
        let ey = first_is y.chunk zy.chunk_low zy.chunk_high in
        let sx = slot_few i in
        let sy = slot_few k in
        let o = f y.chunk x.chunk zy.chunk_low l zx.chunk_high (omega arith) (omega arith) in
        subst T (begun_is rows y.chunk x.slot (omega arith)) (le→leb (first_of y.chunk rows) x.slot (omega arith))

    from_rows : InTurn rows → InTurnBy F (chunks j)
    from_rows f a b u v w ha hb =
        let ea = first_is a u (omega arith) in
        let eb = first_is b (omega arith) w in
        let ra = first_row rows a (omega arith) in
        let rb = first_row rows b (omega arith) in
        let y = ra.0 in
        let x = rb.0 in
        let g = f x y rb.1 ra.1 (omega (arith, ra.2, rb.2)) in
        let s = slot_few rb.1 in
        let l = leb→le (first_of y.chunk rows) x.slot (subst T (sym (begun_is rows y.chunk x.slot (omega arith))) g) in
        let e : y.chunk ≡ a = ra.2 in
        omega (arith, rw e at l, rb.3)

    pub turn_is : {r : Bool} → InTurnPost F (chunks j) r → r ≡ in_turn rows
    turn_is {r} d =
        let q = in_turn_iff rows in
        same_test r (in_turn rows)
        (λ x. q.1 (to_rows (d.holds (T_true r x))))
        (λ x. ⊎_elim (λ y. y) (λ y. absurd (d.fails (not_T_false r y) (from_rows (q.0 x)))) (test r))

    -- ---- no sum exceeds its size

    pub few_is : all_to (chunks j) (λ i. all_below (layers j) (few_by (size j) L i)) ≡ no_more j rows
    few_is =
        all_to_cong (chunks j) _ _ (λ i u v.
        all_below_cong (layers j) _ _ (λ n w.
        ap (λ (s : ℕ). leb s (size j i n)) (t.by_layer i n u (omega (arith, ok.chunks_in.high)) (omega (arith, ok.layers_in.high)))
        ∙ leb_cap (bytes_of_layer rows i n) (size j i n) (omega (arith, size_most j ok i n))))

    -- ---- the tables that the decision asks for

    module _ {table left begun whole : List ℕ} (sizes_are : table_at table ≡ size j) (d : SetLeftPost table L left) (g : Flags (size j) L F (layers j) (chunks j) begun whole) (low : LowerCarried j rows) where
      in_table : (i n : ℕ) → 1 ≤ i → i ≤ 500 → n < 4 → (l : List ℕ) → table_at l i n ≡ get_or l (4 * (i - 1) + n) 0
      in_table i n u v w l =
          let e : spot i n ≡ 4 * (i - 1) + n = omega arith in
          let f : 4 * (i - 1) + n < 2000 = omega arith in
          rw (lt-ltb n 4 w, e, lt-ltb (4 * (i - 1) + n) 2000 f)

      left_at : (i n : ℕ) → 1 ≤ i → i ≤ chunks j → n < layers j → table_at left i n ≡ size j i n - bytes_of_layer rows i n
      left_at i n u v w =
          let few : i ≤ 500 = omega (arith, ok.chunks_in.high) in
          let deep : n < 4 = omega (arith, ok.layers_in.high) in
          let z : get_or table (4 * (i - 1) + n) 0 ≡ size j i n = sym (in_table i n u few deep table) ∙ ap (λ (f : ℕ → ℕ → ℕ). f i n) sizes_are in
          in_table i n u few deep left ∙ omega (arith, d.is (4 * (i - 1) + n) (omega arith), z, t.by_layer i n u few deep, size_most j ok i n)

      mark_at_lem : (i : ℕ) → 1 ≤ i → i ≤ chunks j → mark_byte (carried_by (size j) L i) (layers j) ≡ level_mark (level j rows i)
      mark_at_lem i u v =
          mark_cong (carried_by (size j) L i) (λ n. ltb n (level j rows i)) (layers j) (λ n w.
          let c = level_iff j rows low i n (layer_of j i n u v w) in
          carried_is j rows S L F ok t i n u v w
          ∙ same_test (carried j rows i n) (ltb n (level j rows i)) (λ x. lt→ltb n (level j rows i) (c.0 (eqb→eq _ _ x))) (λ x. (eqb_iff _ _).1 (c.1 (ltb→lt n (level j rows i) x))))
          ∙ mark_level (level j rows i) (layers j) (level_choice j rows i u v)

      pub tabled_of : Tabled j rows (table_at left) begun whole
      tabled_of =
          record {
            left_is = λ i n r. left_at i n r.chunk_low r.chunk_high r.layer_in;
            begun_is = λ i u v. g.begun_is i u v ∙ ap (λ (n : ℕ). ltb n 65535) (first_is i u v) ∙ began_is i;
            whole_is = λ i u v. g.whole_is i u v ∙ mark_at_lem i u v;
          }

-- ---- what is left is small

pub small_of : (j : Job) → Accepted j → {table sums left : List ℕ} → table_at table ≡ size j → SetLeftPost table sums left → Small (table_at left)
small_of j ok {table} {sums} {left} e d i n =
    let le : (k : ℕ) → k < 2000 → get_or left k 0 ≤ get_or table k 0 = λ k h. omega (arith, d.is k h) in
    let at : (i n : ℕ) → table_at table i n ≤ 16777216 = λ i n. subst (λ (f : ℕ → ℕ → ℕ). f i n ≤ 16777216) (sym e) (size_most j ok i n) in
    ⊎_elim
    (λ t.
    let w = ltb→lt n 4 t in
    ⊎_elim
    (λ s. let v = ltb→lt (spot i n) 2000 s in rw (lt-ltb n 4 w, lt-ltb (spot i n) 2000 v) (omega (arith, le (spot i n) v, rw (lt-ltb n 4 w, lt-ltb (spot i n) 2000 v) at (at i n))))
    (λ s. let v = nltb→le (spot i n) 2000 s in rw (lt-ltb n 4 w, le-ltb (spot i n) 2000 v) (omega (arith, le n (omega arith), rw (lt-ltb n 4 w, le-ltb (spot i n) 2000 v) at (at i n))))
    (test (ltb (spot i n) 2000)))
    (λ t. rw (le-ltb n 4 (nltb→le n 4 t)) (omega arith))
    (test (ltb n 4))

-- ---- rule 4, by the slots before the replanning slot

pub room_is :
    (p : Programme) (sizes : List ℕ) (os : List Override) (earlier part : List ℕ) → Accepted (job_from p sizes os earlier part) →
    (rows : List Row) → All (λ x. x.slot < suc (length earlier)) rows → {S L F : List ℕ} → Tallied rows S L F →
    all_to (length earlier) (λ u. leb (get_or S u 0) (get_or earlier (u - 1) 0)) ≡ rule4 (job_from p sizes os earlier part) rows
room_is p sizes os earlier part ok rows before {S} t =
    let j = job_from p sizes os earlier part in
    let many = length-append earlier part in
    let all : length earlier ≤ 3600 = omega (arith, ok.slots_in, ok.last_in) in
    let small : (u : ℕ) → 1 ≤ u → u ≤ length earlier → leb (get_or S u 0) (get_or earlier (u - 1) 0) ≡ leb (bytes_in_slot rows u) (forecast j u) =
    λ u a b.
    let e : get_or (earlier ++ part) (u - 1) 0 ≡ get_or earlier (u - 1) 0 = get_or-append earlier part 0 (u - 1) (omega arith) in
    ap (λ (s : ℕ). leb s (get_or earlier (u - 1) 0)) (t.by_slot u (omega arith))
    ∙ leb_cap (bytes_in_slot rows u) (get_or earlier (u - 1) 0) (omega (arith, e, all_most 0 16777216 (earlier ++ part) ok.forecast_in_lem (u - 1)))
    ∙ ap (leb (bytes_in_slot rows u)) (sym e) in
    let none : (u : ℕ) → length earlier < u → bytes_in_slot rows u ≡ 0 =
    λ u h. bytes_none (λ x. eqb x.slot u) rows (λ x i q. omega (arith, at_row (λ x. x.slot < suc (length earlier)) i before, eqb→eq x.slot u q)) in
    let a = all_to_iff (length earlier) (λ u. leb (get_or S u 0) (get_or earlier (u - 1) 0)) in
    let b = all_to_iff (last_due p) (λ u. leb (bytes_in_slot rows u) (forecast j u)) in
    same_test _ _
    (λ x.
    b.1 (λ u lo hi.
    ⊎_elim
    (λ y. let v = leb→le u (length earlier) y in subst T (small u lo v) (a.0 x u lo v))
    (λ y. le→leb (bytes_in_slot rows u) (forecast j u) (omega (arith, none u (nleb→lt u (length earlier) y))))
    (test (leb u (length earlier)))))
    (λ x. a.1 (λ u lo hi. subst T (sym (small u lo hi)) (b.0 x u lo (omega (arith, many, ok.slots_in)))))
