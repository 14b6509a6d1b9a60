-- Lemmas. The bases of a set can be carried exactly if they fit, and so can those that a passing
-- list in playing order carries.
use Rattle.std.specs.Prelude.{ℕ, ◌+◌, ◌≤◌, ◌≡◌, refl, Bool, true, false, cond, List, [], ◌∷◌, ◌↔◌, length, T, leb, ltb}
use Rattle.std.proofs.Common.{sym, ap, ◌∙◌, subst, arith, leb→le, le→leb, ltb→lt, lt→ltb}
use Rattle.theory_basics.specs.Lists.{has}
use Rattle.theory_basics.specs.Sums.{sum}
use Rattle.theory_basics.specs.lemmas.Ranges.{count_cong, sum_mono}
use Rattle.theory_basics.specs.lemmas.Tests.{same_test}
use Rattle.fetch.specs.Rows.{Row, layer_count}
use Rattle.fetch.specs.Rules.{Passes, PlayingOrder}
use Rattle.job.specs.Job.{Accepted, Job, chunks, due, held_most, layers, size}
use Rattle.theory_plan.specs.Bases.{base_size}
use Rattle.theory_plan.specs.Plan.{after, bytes, fits, kept, picked}
use Rattle.theory_plan.specs.Statement.{CanCarry, Choice, count_of}
use Rattle.theory_plan.specs.lemmas.Base.{bases_in, bases_counted}
use Rattle.theory_plan.specs.lemmas.Choice.{Fits, can_carry_fits, can_carry_iff_fits}
use Rattle.theory_plan.specs.lemmas.Kept.{feas_picked, length_picked, picked_cong}
use Rattle.theory_plan.specs.lemmas.Level.{count_carried, level, level_choice, level_exactly}
use Rattle.theory_plan.specs.lemmas.Need.{Feas}
use Rattle.theory_plan.specs.lemmas.Plan.{fits_iff, tested_le}
use Rattle.theory_plan.specs.lemmas.Words.{Sized, accepted_sized}
use Rattle.theory_plan.specs.lemmas.Decided.{kept_of_set}
use Rattle.theory_search.specs.Statement.{Chunks, Tells, bases_of}
use Rattle.theory_search.specs.Search.{fitting}

-- ---- the kept chunks of a choice

same_tests : (a : ℕ) → ltb 0 a ≡ leb 1 a
same_tests a = same_test (ltb 0 a) (leb 1 a) (λ t. le→leb 1 a (ltb→lt 0 a t)) (λ t. lt→ltb 0 a (leb→le 1 a t))

-- As many as carry their base.
pub count_kept : (j : Job) (p : ℕ → ℕ) → count_of j p 0 ≡ length (kept j p)
count_kept j p =
    let e : chunks j + 0 ≡ chunks j = omega arith in
    omega (
      arith,
      count_cong (λ i. ltb 0 (p i)) (λ i. leb 1 (p i)) (chunks j) (λ i u v. same_tests (p i)),
      rw e at (length_picked (λ i. leb 1 (p i)) 0 (chunks j)),
    )

one_or_none : (b : Bool) → (1 ≤ cond b 1 0) ↔ T b
one_or_none true = (λ l. tt, λ t. omega arith)
one_or_none false = (λ l. absurd (omega arith), λ t. absurd t)

-- Of the bases of a set, the set.
pub kept_bases_lem : (j : Job) (ks : List ℕ) → Chunks j ks → kept j (bases_of ks) ≡ ks
kept_bases_lem j ks a = kept_of_set j (bases_of ks) ks a (λ i u v. one_or_none (has ks i))

-- ---- the bases can be carried exactly if they fit

-- The bases of the set fit.
abbrev pub Good : Job → List ℕ → Type 0
Good j = Feas (base_size j) (due j) (after j) (held_most j)

base_bytes : (j : Job) (ks : List ℕ) (i : ℕ) → T (leb 1 (bases_of ks i)) → bytes j (bases_of ks) i ≡ base_size j i
base_bytes j ks i t = by (has ks i) ((one_or_none (has ks i)).0 (leb→le 1 (bases_of ks i) t))
  where
    by : (b : Bool) → T b → sum (size j i) (cond b 1 0) ≡ size j i 0
    by true u = omega arith
    by false u = absurd u

pub bases_choice : (j : Job) (ks : List ℕ) → 1 ≤ layers j → Choice j (bases_of ks)
bases_choice j ks h i u v = omega (arith, tested_le (has ks) i)

pub fits_good : (j : Job) (ks : List ℕ) → Chunks j ks → Fits j (bases_of ks) ↔ Good j ks
fits_good j ks a =
    let q : ℕ → Bool = λ i. leb 1 (bases_of ks i) in
    let w = kept_bases_lem j ks a in (
      λ f. subst (Good j) w (feas_picked (base_size j) (bytes j (bases_of ks)) (due j) (after j) (held_most j) q 0 (chunks j) (λ i u v t. omega (arith, base_bytes j ks i t)) f),
      λ g. feas_picked (bytes j (bases_of ks)) (base_size j) (due j) (after j) (held_most j) q 0 (chunks j) (λ i u v t. omega (arith, base_bytes j ks i t)) (subst (Good j) (sym w) g),
    )

pub can_carry_good : (j : Job) → Accepted j → (ks : List ℕ) → Chunks j ks → CanCarry j (bases_of ks) ↔ Good j ks
can_carry_good j ok ks a =
    let d = can_carry_iff_fits j (accepted_sized j ok) (bases_of ks) (bases_choice j ks ok.layers_in.low) in
    let g = fits_good j ks a in
    (λ s. g.0 (d.0 s), λ s. d.1 (g.1 s))

pub good_nil : (j : Job) → Good j []
good_nil j = record { whole = omega arith; tails = tt }

-- The computed test.
pub fitting_good : (j : Job) (ks : List ℕ) → Chunks j ks → T (fitting j ks) ↔ Good j ks
fitting_good j ks a =
    let f = fits_iff j (bases_of ks) in
    let g = fits_good j ks a in
    (λ t. g.0 (f.0 t), λ u. f.1 (g.1 u))

-- ---- a test that tells says what fits

pub told_good : (j : Job) → Accepted j → (allowed : List ℕ → Bool) → Tells j allowed → (ks : List ℕ) → Chunks j ks → T (allowed ks) ↔ Good j ks
told_good j ok allowed tells ks a =
    let t = tells ks a in
    let c = can_carry_good j ok ks a in
    (λ u. c.0 (t.0 u), λ g. t.1 (c.1 g))

-- ---- the bases that a passing list in playing order carries

pub list_bases_good : (j : Job) → Sized j → (rows : List Row) → Passes j rows → PlayingOrder j rows → Good j (bases_in j rows)
list_bases_good j sized rows ok o =
    let x = level j rows in
    let f = can_carry_fits j sized x (level_choice j rows) (record { rows = rows; passes = ok; in_order = o; exactly = level_exactly j rows ok }) in
    let g : Feas (bytes j x) (due j) (after j) (held_most j) (bases_in j rows) = subst (Feas (bytes j x) (due j) (after j) (held_most j)) (picked_cong (λ i. leb 1 (x i)) (λ i. ltb 0 (x i)) 0 (chunks j) (λ i u v. sym (same_tests (x i)))) f in
    feas_picked (base_size j) (bytes j x) (due j) (after j) (held_most j) (λ i. ltb 0 (x i)) 0 (chunks j)
    (λ i u v t. omega (arith, sum_mono (size j i) 1 (x i) (ltb→lt 0 (x i) t))) g

pub list_bases_counted : (j : Job) (rows : List Row) → Passes j rows → 1 ≤ layers j → layer_count j rows 0 ≡ length (bases_in j rows)
list_bases_counted j rows ok h = count_carried j rows (level j rows) (level_exactly j rows ok) 0 h ∙ bases_counted j rows
