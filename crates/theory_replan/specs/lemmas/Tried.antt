-- Lemmas. The layers that a trial afresh asks about, as Statement says them (`TrialFrom`), are the
-- choice that is computed (`tried_from`), where the layer itself is not whole before p: so a plan is
-- settled afresh by the one exactly if it is by the other.
use Rattle.std.specs.Prelude.{ℕ, suc, ◌≤◌, ◌<◌, max, ◌≡◌, List, ◌++◌, ◌⊎◌, ◌↔◌, ltb, eqb}
use Rattle.std.proofs.Common.{ap, inl, inr, ⊎_elim, arith, eq-eqb, T_not, ltb→lt, nltb→le, eqb→eq}
use Rattle.theory_basics.specs.lemmas.Tests.{eqb_iff, test, not_T_false}
use Rattle.job.specs.Job.{due, Job, Layer}
use Rattle.fetch.specs.Rows.{Carried, carried, Row}
use Rattle.fetch.specs.Rules.{LowerCarried}
use Rattle.theory_plan.specs.Plan.{tried}
use Rattle.theory_plan.specs.lemmas.Level.{level, level_iff}
use Rattle.theory_plan.specs.lemmas.Tried.{trial_iff}
use Rattle.theory_replan.specs.Plan.{tried_from}
use Rattle.theory_replan.specs.Statement.{CanCarryFrom, CanCarryOnlyFrom, SettlesFrom, TrialFrom}

pub can_carry_from_same :
    (j : Job) (p : ℕ) (fetched : List Row) (these those : ℕ → ℕ → Type 0) → ((i n : ℕ) → Layer j i n → these i n ↔ those i n) →
    CanCarryOnlyFrom j p fetched these → CanCarryOnlyFrom j p fetched those
can_carry_from_same j p fetched these those e s =
    record {
      more = s.more;
      later = s.later;
      passes = s.passes;
      in_order = s.in_order;
      exactly = λ i n r. (λ c. (e i n r).0 ((s.exactly i n r).0 c), λ u. (s.exactly i n r).1 ((e i n r).1 u));
    }

module _ (j : Job) (fetched : List Row) (low : LowerCarried j fetched) (plan : ℕ → ℕ) (n i : ℕ) (r : Layer j i n) where
  not_whole : (Carried j fetched i n → ⊥) → level j fetched i ≤ n
  not_whole o =
      ⊎_elim
      (λ t. absurd (o ((level_iff j fetched low i n r).1 (ltb→lt n (level j fetched i) t))))
      (λ t. nltb→le n (level j fetched i) t)
      (test (ltb n (level j fetched i)))

  tried_from_is : (Carried j fetched i n → ⊥) → (k : ℕ) → tried_from j fetched plan n i k ≡ max (level j fetched k) (tried plan n i k)
  tried_from_is o k =
      ⊎_elim
      (λ t. let e = eqb→eq k i t in rw (eq-eqb k i e) (omega (arith, not_whole o, ap (level j fetched) e)))
      (λ t. rw (not_T_false (eqb k i) t) (omega arith))
      (test (eqb k i))

  pub trial_from_iff :
      (Carried j fetched i n → ⊥) → n ≤ plan i → (k m : ℕ) → Layer j k m → (m < tried_from j fetched plan n i k) ↔ TrialFrom j fetched plan n i k m
  trial_from_iff o h k m q =
      let e = tried_from_is o k in
      let w = level_iff j fetched low k m q in
      let t = trial_iff plan n i h k m in (
        λ l.
            ⊎_elim
            (λ u. inl (w.1 (ltb→lt m (level j fetched k) u)))
            (λ u. inr (t.0 (omega (arith, nltb→le m (level j fetched k) u, e))))
            (test (ltb m (level j fetched k))),
        λ s. ⊎_elim (λ c. omega (arith, w.0 c, e)) (λ x. omega (arith, t.1 x, e)) s,
      )

-- The decision by the choice that is tried.
abbrev pub SettlesTriedFrom : Job → ℕ → List Row → (ℕ → ℕ) → Type 0
SettlesTriedFrom j p fetched plan =
    (i n : ℕ) → Layer j i n →
    (n < plan i) ↔ (Carried j fetched i n ⊎ ((p ≤ due j i) × (n ≤ plan i) × CanCarryFrom j p fetched (tried_from j fetched plan n i)))

module _ (j : Job) (p : ℕ) (fetched : List Row) (low : LowerCarried j fetched) (plan : ℕ → ℕ) where
  abbrev By : (ℕ → ℕ → Type 0) → ℕ → ℕ → Type 0
  By these i n = Carried j fetched i n ⊎ ((p ≤ due j i) × (n ≤ plan i) × CanCarryOnlyFrom j p fetched these)

  to_tried : (i n : ℕ) → Layer j i n → By (TrialFrom j fetched plan n i) i n → By (λ k m. m < tried_from j fetched plan n i k) i n
  to_tried i n r s =
      ⊎_elim
      (λ t. inl ((eqb_iff _ _).0 t))
      (λ t.
      ⊎_elim
      (λ c. inl c)
      (λ u.
      inr (
        u.0,
        u.1,
        can_carry_from_same j p fetched _ _ (λ k m q.
            let e = trial_from_iff j fetched low plan n i r (λ c. T_not (carried j fetched i n) t ((eqb_iff _ _).1 c)) u.1 k m q in (e.1, e.0)) u.2,
      ))
      s)
      (test (carried j fetched i n))

  of_tried : (i n : ℕ) → Layer j i n → By (λ k m. m < tried_from j fetched plan n i k) i n → By (TrialFrom j fetched plan n i) i n
  of_tried i n r s =
      ⊎_elim
      (λ t. inl ((eqb_iff _ _).0 t))
      (λ t.
      ⊎_elim
      (λ c. inl c)
      (λ u.
      inr (
        u.0,
        u.1,
        can_carry_from_same j p fetched _ _ (λ k m q.
            trial_from_iff j fetched low plan n i r (λ c. T_not (carried j fetched i n) t ((eqb_iff _ _).1 c)) u.1 k m q) u.2,
      ))
      s)
      (test (carried j fetched i n))

  pub settles_tried_from_iff : SettlesFrom j p fetched plan ↔ SettlesTriedFrom j p fetched plan
  settles_tried_from_iff = (
    λ d i n r. let e = d i n r in (λ l. to_tried i n r (e.0 l), λ s. e.1 (of_tried i n r s)),
    λ d i n r. let e = d i n r in (λ l. of_tried i n r (e.0 l), λ s. e.1 (to_tried i n r s)),
  )
