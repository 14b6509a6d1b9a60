-- Lemmas. What the tables say is what the rules say: sums that stop at the cap lose nothing.
-- Assumes nothing.
use Prim.Native.Nat.{ℕ, zero, suc, ◌+◌, ◌*◌, ◌-◌, ◌/◌, ◌≤◌, ◌<◌, min}
use mathlib.Core.Path.{◌≡◌, refl, sym, ap, ◌∙◌}
use mathlib.Core.Bool.{Bool, true, false, cond, ◌&&◌, ◌||◌}
use mathlib.Core.List.{List, [], ◌∷◌}
use native.Mathlib.Omega.{arith}
use native.Mathlib.Nat.{mul-le-mul_right}
use lib.ListN.{length, get_or}
use lib.Seq.{ext_get_or}
use lib.Dec.{T, leb, ltb, eqb}
use borrow.Author.Tests.{le-leb, lt-leb, leb-true, leb-false, lt-ltb, le-ltb, ltb-true, ltb-false, eq-eqb, ne_eqb, eqb-true, eqb-false}
use Rattle.theory_basics.specs.Tests.{all_to, all_below}
use Rattle.theory_basics.specs.lemmas.Tests.{all_to_iff, same_test, eqb_iff, all_to_cong, all_below_cong}
use Rattle.theory_basics.specs.Lists.{up_to}
use Rattle.theory_basics.specs.lemmas.Lists.{length_up_to, get_d_up_to}
use Rattle.job.specs.declared.Programme.{Programme}
use Rattle.job.specs.Input.{JobInput, job_in}
use Rattle.job.specs.Job.{Job, Accepted, due_slot, last_due, chunks, layers, size}
use Rattle.core_sizes.specs.Table.{sizes_table, table_at}
use Rattle.core_sizes.specs.Theorems.{table_is}
use Rattle.job.specs.lemmas.Within.{all_most, size_most}
use Rattle.fetch.specs.Rows.{Row, begun, held, held_count, carried, mark_byte, bytes_in_slot, bytes_of_layer}
use Rattle.fetch.specs.lemmas.Marks.{mark_cong}
use Rattle.fetch.specs.Verdict.{rule1, rule2, rule3, rule4, rule6, rule7, lower_carried, same}
use Rattle.fetch.proofs.Theorems.{same_iff}
use Rattle.core_rules.specs.declared.Pass.{Pass}
use Rattle.core_rules.specs.lemmas.Tables.{cap, first_of, Tallied, TallyPost, carried_by, whole_by, under, lower_by, held_by, Shown}
use Rattle.theory_basics.specs.lemmas.Ranges.{count_cong}

-- ---- a sum that stops at the cap

pub leb_cap : (s b : ℕ) → b < cap → leb (min cap s) b ≡ leb s b
leb_cap s b h = go (leb s b) refl where
  go : (x : Bool) → leb s b ≡ x → leb (min cap s) b ≡ x
  go true e = le-leb (min cap s) b (omega (arith, leb-true s b e))
  go false e = lt-leb (min cap s) b (omega (arith, leb-false s b e))

pub eqb_cap : (s b : ℕ) → b < cap → eqb (min cap s) b ≡ eqb s b
eqb_cap s b h = go (eqb s b) refl where
  go : (x : Bool) → eqb s b ≡ x → eqb (min cap s) b ≡ x
  go true e = eq-eqb (min cap s) b (omega (arith, eqb-true s b e))
  go false e = let n = eqb-false s b e in ne_eqb (min cap s) b (λ q. n (omega arith))

pub ltb_cap : (s b : ℕ) → b < cap → ltb (min cap s) b ≡ ltb s b
ltb_cap s b h = go (ltb s b) refl where
  go : (x : Bool) → ltb s b ≡ x → ltb (min cap s) b ≡ x
  go true e = lt-ltb (min cap s) b (omega (arith, ltb-true s b e))
  go false e = le-ltb (min cap s) b (omega (arith, ltb-false s b e))

-- ---- first slots say what is begun

leb_min : (a b t : ℕ) → leb (min a b) t ≡ leb a t || leb b t
leb_min a b t = go (leb a t) refl (leb b t) refl where
  go : (x : Bool) → leb a t ≡ x → (y : Bool) → leb b t ≡ y → leb (min a b) t ≡ x || y
  go true e y g = le-leb (min a b) t (omega (arith, leb-true a t e))
  go false e true g = le-leb (min a b) t (omega (arith, leb-true b t g))
  go false e false g = lt-leb (min a b) t (omega (arith, leb-false a t e, leb-false b t g))

pub begun_is : (l : List Row) (i t : ℕ) → t < 65535 → leb (first_of i l) t ≡ begun l t i
begun_is [] i t h = lt-leb 65535 t h
begun_is (x ∷ l) i t h = go (eqb x.chunk i) (begun_is l i t h) where
  go : (e : Bool) → leb (first_of i l) t ≡ begun l t i → leb (min (cond e x.slot 65535) (first_of i l)) t ≡ (e && leb x.slot t) || begun l t i
  go true r = leb_min x.slot (first_of i l) t ∙ rw r
  go false r = leb_min 65535 (first_of i l) t ∙ rw (lt-leb 65535 t h, r)

-- ---- one mark byte a chunk: the marks are those given exactly if each byte is

same_is : (marks : List ℕ) (n : ℕ) (f : ℕ → ℕ) → length marks ≡ n → all_to n (λ i. eqb (get_or marks (i - 1) 0) (f (i - 1))) ≡ same marks (up_to f n)
same_is marks n f e =
    same_test _ _
    (λ t. (same_iff marks (up_to f n)).1 (ext_get_or 0 marks (up_to f n) (e ∙ sym (length_up_to f n)) (λ k h. each t k (omega arith))))
    (λ t. let q = (same_iff marks (up_to f n)).0 t in (all_to_iff n (λ i. eqb (get_or marks (i - 1) 0) (f (i - 1)))).1 (λ i u v. (eqb_iff _ _).1 (ap (λ (l : List ℕ). get_or l (i - 1) 0) q ∙ get_d_up_to f n (i - 1) 0 (omega arith))))
  where
    each : T (all_to n (λ i. eqb (get_or marks (i - 1) 0) (f (i - 1)))) → (k : ℕ) → k < n → get_or marks k 0 ≡ get_or (up_to f n) k 0
    each t k h =
        let back : k + 1 - 1 ≡ k = omega arith in
        let x = (eqb_iff (get_or marks (k + 1 - 1) 0) (f (k + 1 - 1))).0 ((all_to_iff n (λ i. eqb (get_or marks (i - 1) 0) (f (i - 1)))).0 t (k + 1) (omega arith) (omega arith)) in
        (rw back at x) ∙ sym (get_d_up_to f n k 0 h)

-- ---- the rules

module _ (j : Job) (rows : List Row) (S L F : List ℕ) (ok : Accepted j) (t : Tallied rows S L F) where
  pub carried_is : (i n : ℕ) → 1 ≤ i → i ≤ chunks j → n < layers j → carried_by (size j) L i n ≡ carried j rows i n
  carried_is i n u v w =
      ap (λ (s : ℕ). eqb s (size j i n)) (t.by_layer i n u (omega (arith, ok.chunks_in.high)) (omega (arith, ok.layers_in.high)))
      ∙ eqb_cap (bytes_of_layer rows i n) (size j i n) (omega (arith, size_most j ok i n))

  whole_is : (i n : ℕ) → 1 ≤ i → i ≤ chunks j → n < layers j → whole_by (size j) L i n ≡ eqb (bytes_of_layer rows i n) 0 || carried j rows i n
  whole_is i n u v w =
      ap (λ (b : Bool). eqb (get_or L (4 * (i - 1) + n) 0) 0 || b) (carried_is i n u v w)
      ∙ ap (λ (b : Bool). b || carried j rows i n)
      (ap (λ (s : ℕ). eqb s 0) (t.by_layer i n u (omega (arith, ok.chunks_in.high)) (omega (arith, ok.layers_in.high))) ∙ eqb_cap (bytes_of_layer rows i n) 0 (omega arith))

  under_is : (i n : ℕ) → 1 ≤ i → i ≤ chunks j → n < layers j → under (carried_by (size j) L i) n ≡ lower_carried j rows i n
  under_is i zero u v w = refl
  under_is i (suc n) u v w = carried_is i n u v (omega arith)

  pub rule2_is : all_to (chunks j) (λ i. all_below (layers j) (whole_by (size j) L i)) ≡ rule2 j rows
  rule2_is = all_to_cong (chunks j) _ _ (λ i u v. all_below_cong (layers j) _ _ (λ n w. whole_is i n u v w))

  pub rule3_is : all_to (chunks j) (λ i. all_below (layers j) (lower_by (carried_by (size j) L i))) ≡ rule3 j rows
  rule3_is = all_to_cong (chunks j) _ _ (λ i u v. all_below_cong (layers j) _ _ (λ n w. rw (carried_is i n u v w, under_is i n u v w)))

  pub rule4_is : all_to (length j.forecast) (λ u. leb (get_or S u 0) (get_or j.forecast (u - 1) 0)) ≡ rule4 j rows
  rule4_is =
      ap (λ (n : ℕ). all_to n (λ u. leb (get_or S u 0) (get_or j.forecast (u - 1) 0))) ok.slots_in
      ∙ all_to_cong (last_due j.programme) _ _ (λ u a b. ap (λ (s : ℕ). leb s (get_or j.forecast (u - 1) 0)) (t.by_slot u (omega (arith, ok.last_in))) ∙ leb_cap (bytes_in_slot rows u) (get_or j.forecast (u - 1) 0) (omega (arith, all_most 0 16777216 j.forecast ok.forecast_in_lem (u - 1))))

  held_is : (u : ℕ) → u ≤ 3600 → held_by j.programme F u ≡ held_count j rows u
  held_is u h =
      count_cong (λ i. leb (get_or F i 0) u && ltb u (due_slot j.programme i)) (held j rows u) (chunks j) (λ i a b.
      ap (λ (e : Bool). e && ltb u (due_slot j.programme i)) (ap (λ (n : ℕ). leb n u) (t.firsts i a (omega (arith, ok.chunks_in.high))) ∙ begun_is rows i u (omega arith)))

  pub rule6_is : all_to (last_due j.programme) (λ u. leb (held_by j.programme F u) (j.programme.limit / j.programme.span)) ≡ rule6 j rows
  rule6_is = all_to_cong (last_due j.programme) _ _ (λ u a b. ap (λ (n : ℕ). leb n (j.programme.limit / j.programme.span)) (held_is u (omega (arith, ok.last_in))))

  pub rule7_is : (marks : List ℕ) → length marks ≡ chunks j → all_to (chunks j) (λ i. eqb (get_or marks (i - 1) 0) (mark_byte (carried_by (size j) L i) (layers j))) ≡ rule7 j marks rows
  rule7_is marks e =
      all_to_cong (chunks j) _ _ (λ i u v. ap (λ (m : ℕ). eqb (get_or marks (i - 1) 0) m) (mark_at_lem i u v))
      ∙ same_is marks (chunks j) (λ k. mark_byte (carried j rows (k + 1)) (layers j)) e
    where
      mark_at_lem : (i : ℕ) → 1 ≤ i → i ≤ chunks j → mark_byte (carried_by (size j) L i) (layers j) ≡ mark_byte (carried j rows (i - 1 + 1)) (layers j)
      mark_at_lem i u v =
          let back : i - 1 + 1 ≡ i = omega arith in
          rw back (mark_cong (carried_by (size j) L i) (carried j rows i) (layers j) (λ n w. carried_is i n u v w))

-- Rule 1 by the pass over the rows, with the last slot and the number of layers as numbers of their
-- own.
pub rule1_is : (j : Job) {rows : List Row} {last depth : ℕ} {r : Pass} {S L F : List ℕ} → TallyPost j.programme last depth rows r S L F
    → last ≡ last_due j.programme → depth ≡ layers j → r.ranged ≡ rule1 j rows
rule1_is j a d k = rw (d, k) at a.ranged

-- Every chunk is due by the last slot.
pub due_most : (p : Programme) (i n : ℕ) → last_due p ≤ n → i ≤ p.chunks → due_slot p i ≤ n
due_most p i n h l = omega (arith, mul-le-mul_right {m = i - 1} {n = p.chunks - 1} p.span (omega arith))

-- ---- the table of a handed job's sizes

pub shown : (h : JobInput) (table : List ℕ) → Accepted (job_in h) → table ≡ sizes_table h.sizes (job_in h).overrides → Shown table (length h.sizes) (job_in h)
shown h table ok e = record { accepted = ok; sizes_are = ap table_at e ∙ table_is (job_in h) ok; depth_is = refl }
