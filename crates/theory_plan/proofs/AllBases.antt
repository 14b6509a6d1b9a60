-- Lemmas. A plan skips no base exactly if all chunks fit with their bases alone, whichever way its
-- bases are settled.
use Rattle.std.specs.Prelude.{ℕ, zero, suc, ◌+◌, ◌≤◌, ◌<◌, ◌≡◌, true, List, ◌∷◌, ◌↔◌, T, leb, ltb}
use Rattle.std.proofs.Common.{sym, subst, ⊎_elim, arith, le-leb, leb→le, ltb→lt, lt→ltb, nltb→le}
use Rattle.theory_basics.specs.lemmas.Ranges.{count_tight, sum_mono}
use Rattle.theory_basics.specs.lemmas.Tests.{test}
use Rattle.job.specs.Job.{Job, chunks, due, held_most, layers, size}
use Rattle.theory_plan.specs.Bases.{is_kept}
use Rattle.theory_plan.specs.Plan.{after, bytes, kept, picked}
use Rattle.theory_plan.specs.Statement.{BasesMooreHodgson, CanCarry, Choice, IsPlan, NoSkip, SettledByTrials, Settles}
use Rattle.theory_plan.specs.lemmas.Base.{base_picks}
use Rattle.theory_plan.proofs.Best.{by_trials_fits, is_plan_fits}
use Rattle.theory_plan.specs.lemmas.Choice.{Fits, can_carry_fits, fits_can_carry}
use Rattle.theory_plan.specs.lemmas.Kept.{feas_picked, picked_cong}
use Rattle.theory_plan.specs.lemmas.Level.{count_carried}
use Rattle.theory_plan.specs.lemmas.Need.{Feas, feas_tail}
use Rattle.theory_plan.specs.lemmas.Plan.{base_taken_iff, either_way}
use Rattle.theory_plan.specs.lemmas.MooreHodgson.{list_bases}
use Rattle.theory_plan.specs.lemmas.Words.{Sized}

-- The choice with every base and no other layer.
abbrev pub bases_alone : ℕ → ℕ
bases_alone i = 1

-- The chunks lo + 1 .. lo + m.
abbrev pub from : ℕ → ℕ → List ℕ
from lo m = picked (λ i. true) lo m

-- All chunks fit, each with its base alone.
abbrev pub AllFit : Job → Type 0
AllFit j = Feas (λ k. size j k 0) (due j) (after j) (held_most j) (from 0 (chunks j))

-- What fits, fits from each chunk on.
feas_from : (w d A : ℕ → ℕ) (h lo a m : ℕ) → Feas w d A h (from lo (a + m)) → Feas w d A h (from (a + lo) m)
feas_from w d A h lo zero m f = let e : 0 + m ≡ m = omega arith in let e' : 0 + lo ≡ lo = omega arith in rw e' (rw e at f)
feas_from w d A h lo (suc a) m f =
    let e : suc a + m ≡ suc (a + m) = omega arith in
    let e' : suc a + lo ≡ a + suc lo = omega arith in
    let f' : Feas w d A h (suc lo ∷ from (suc lo) (a + m)) = rw e at f in
    rw e' (feas_from w d A h (suc lo) a m (feas_tail w d A h (suc lo) (from (suc lo) (a + m)) f'))

module _ (j : Job) (some : 0 < layers j) where
  -- A choice that fits and has every base.
  pub fits_all_fit : (lv : ℕ → ℕ) → ((i : ℕ) → 1 ≤ i → i ≤ chunks j → 1 ≤ lv i) → Fits j lv → AllFit j
  fits_all_fit lv b f =
      let e : kept j lv ≡ from 0 (chunks j) = picked_cong (λ i. leb 1 (lv i)) (λ i. true) 0 (chunks j) (λ i u v. le-leb 1 (lv i) (b i u (omega arith))) in
      feas_picked (λ k. size j k 0) (bytes j lv) (due j) (after j) (held_most j) (λ i. true) 0 (chunks j)
      (λ i u v t. omega (arith, sum_mono (size j i) 1 (lv i) (b i u (omega arith))))
      (subst (Feas (bytes j lv) (due j) (after j) (held_most j)) e f)

  all_fit_fits : AllFit j → Fits j bases_alone
  all_fit_fits f =
      feas_picked (bytes j bases_alone) (λ k. size j k 0) (due j) (after j) (held_most j) (λ i. true) 0 (chunks j) (λ i u v t. omega arith) f

  bases_choice : Choice j bases_alone
  bases_choice i u v = some

  pub can_carry_all_iff : Sized j → CanCarry j bases_alone ↔ AllFit j
  can_carry_all_iff sized = (
    λ c. fits_all_fit bases_alone (λ i u v. omega arith) (can_carry_fits j sized bases_alone bases_choice c),
    λ f. fits_can_carry j sized bases_alone bases_choice (all_fit_fits f),
  )

  -- ---- settled by trials, or by Moore-Hodgson

  module _ (sized : Sized j) (p : ℕ → ℕ) (c : Choice j p) (d : Settles j p 0) where
    -- From the last chunk down, each is kept with all behind it.
    all_fit_kept : AllFit j → (m lo : ℕ) → lo + m ≡ chunks j → (i : ℕ) → lo < i → i ≤ chunks j → 0 < p i
    all_fit_kept f zero lo e i u v = absurd (omega arith)
    all_fit_kept f (suc m) lo e i u v =
        let r = all_fit_kept f m (suc lo) (omega arith) in
        let o : lo + 0 ≡ lo = omega arith in
        let g : Feas (λ k. size j k 0) (due j) (after j) (held_most j) (suc lo ∷ from (suc lo) m) =
        rw o at (feas_from (λ k. size j k 0) (due j) (after j) (held_most j) 0 lo (suc m) (rw e f)) in
        let s : from (suc lo) m ≡ picked (λ i. leb 1 (p i)) (suc lo) m =
        picked_cong (λ i. true) (λ i. leb 1 (p i)) (suc lo) m (λ k a b. sym (le-leb 1 (p k) (r k a (omega arith)))) in
        let own : 0 < p (suc lo) =
        leb→le 1 (p (suc lo)) ((base_picks j p (base_taken_iff j sized p c d some) (suc lo) m (omega arith) (omega arith)).1
        (subst (λ (ks : List ℕ). Feas (λ k. size j k 0) (due j) (after j) (held_most j) (suc lo ∷ ks)) s g)) in
        ⊎_elim
        (λ t. r i (ltb→lt (suc lo) i t) v)
        (λ t. let k : i ≡ suc lo = omega (arith, nltb→le (suc lo) i t) in rw k own)
        (test (ltb (suc lo) i))

    tried_all : AllFit j → NoSkip j p
    tried_all f i u v = all_fit_kept f (chunks j) 0 (omega arith) i u v

  -- As many bases are kept as a list that carries them all has.
  kept_all : Sized j → (p : ℕ → ℕ) → BasesMooreHodgson j p → AllFit j → NoSkip j p
  kept_all sized p b f i u v =
      let c = (can_carry_all_iff sized).1 f in
      let one : T (ltb 0 1) = lt→ltb 0 1 (omega arith) in
      let few = omega_le (count_carried j c.rows bases_alone c.exactly 0 some) (list_bases j some c.rows c.passes) in
      (b i u v).1 (count_tight (is_kept j) (λ k. ltb 0 1) (chunks j) (λ k x y t. one) few i u v one)
    where
      omega_le : {a b c : ℕ} → a ≡ b → a ≤ c → b ≤ c
      omega_le e h = rw e at h

  -- A plan skips no base exactly if all bases fit,
  pub no_skip_iff : Sized j → (p : ℕ → ℕ) → IsPlan j p → NoSkip j p ↔ AllFit j
  no_skip_iff sized p dec = (
    λ n. fits_all_fit p n (is_plan_fits j sized p dec),
    λ f. either_way j (NoSkip j p) (λ w. kept_all sized p (dec.moore_hodgson_lem w) f) (λ n. tried_all sized p dec.choice (dec.elsewhere n) f),
  )

  -- and so does what document 01's way by itself settles.
  pub trials_no_skip_iff : Sized j → (p : ℕ → ℕ) → SettledByTrials j p → NoSkip j p ↔ AllFit j
  trials_no_skip_iff sized p dec = (λ n. fits_all_fit p n (by_trials_fits j sized p dec), tried_all sized p dec.choice (dec.decided 0))
