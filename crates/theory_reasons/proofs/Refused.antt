-- Lemmas. Each missing layer whose lower ones are carried was refused, against the choice that its
-- line is held against: so there are lines, and no others.
use Rattle.std.specs.Prelude.{ℕ, zero, suc, ◌≤◌, ◌<◌, ◌≡◌, refl, not, List, T, eqb, ltb}
use Rattle.std.proofs.Common.{arith, eq-eqb, T_not, lt→ltb, ltb→lt}
use Rattle.theory_basics.specs.lemmas.Ranges.{count_tight}
use Rattle.theory_basics.specs.lemmas.Tests.{by_cond}
use Rattle.job.specs.Job.{Accepted, Job, Layer, chunks, layers}
use Rattle.fetch.specs.Rows.{Row, layer_count}
use Rattle.fetch.specs.Rules.{Passes}
use Rattle.theory_plan.proofs.Pictures.{most_pictures}
use Rattle.theory_plan.specs.Plan.{by_moore_hodgson}
use Rattle.theory_plan.specs.Statement.{CanCarry, Choice, IsPlan, Settles, count_of}
use Rattle.theory_plan.specs.lemmas.Choice.{fits_can_carry}
use Rattle.theory_plan.specs.lemmas.Level.{count_carried}
use Rattle.theory_plan.specs.lemmas.Plan.{by_moore_hodgson_iff, tried_choice}
use Rattle.theory_plan.specs.lemmas.Tried.{settles_tried_iff}
use Rattle.theory_plan.specs.lemmas.Words.{accepted_sized}
use Rattle.theory_reasons.specs.Lines.{lines_of, stretch_of}
use Rattle.theory_reasons.specs.Statement.{Line, Reason, Reasons, against, all_bases, all_bases_kept, missing, settled_before}
use Rattle.theory_reasons.proofs.Named.{IsNamed, lines_are, reason_unique, stretch_named, under_unique}

-- With the layer added, the choice can't be carried.
abbrev pub Refuses : Job → (ℕ → ℕ) → (ℕ → ℕ → ℕ → ℕ) → Type 0
Refuses j plan held = (i n : ℕ) → Layer j i n → plan i ≡ n → Choice j (held i n) × (CanCarry j (held i n) → ⊥)

pub refused_stretch : (j : Job) → Accepted j → (choice : ℕ → ℕ) → Choice j choice → (CanCarry j choice → ⊥) → IsNamed j choice (stretch_of j choice)
refused_stretch j a choice c never = stretch_named j a choice (λ f. never (fits_can_carry j (accepted_sized j a) choice c f))

-- ---- the lines

pub lines_hold : (j : Job) → Accepted j → (plan : ℕ → ℕ) (held : ℕ → ℕ → ℕ → ℕ) → Refuses j plan held → Reasons j plan held (lines_of j plan held)
lines_hold j a plan held refuses =
    lines_are j plan held (λ i n l e. let r = refuses i n l e in refused_stretch j a (held i n) r.0 r.1)

pub lines_unique : (j : Job) (plan : ℕ → ℕ) (held : ℕ → ℕ → ℕ → ℕ) (ls ms : List Line) → Reasons j plan held ls → Reasons j plan held ms → ls ≡ ms
lines_unique j plan held ls ms = under_unique (Reason j plan held) (reason_unique j plan held) (missing j plan) ls ms

-- ---- settled by trials, against what was settled before

one_refused : (j : Job) (p : ℕ → ℕ) → Choice j p → (n : ℕ) → Settles j p n → (i : ℕ) → Layer j i n → p i ≡ n → Choice j (settled_before p i n) × (CanCarry j (settled_before p i n) → ⊥)
one_refused j p c n s i l e = (tried_choice j p i n c l.layer_in, λ can. let u = ((settles_tried_iff j p n).0 s i l).1 (omega arith, can) in omega arith)

-- ---- bases settled by request 9, against all bases kept: with one more there would be more than
-- any passing list carries

module _ (j : Job) (p : ℕ → ℕ) (most : (other : List Row) → Passes j other → layer_count j other 0 ≤ count_of j p 0) where
  one_more_base : (i : ℕ) → Layer j i 0 → p i ≡ 0 → CanCarry j (all_bases p i) → ⊥
  one_more_base i l e can =
      let b = all_bases p i in
      let counted : layer_count j can.rows 0 ≡ count_of j b 0 = count_carried j can.rows b can.exactly 0 l.layer_in in
      let few : count_of j b 0 ≤ count_of j p 0 = omega (arith, most can.rows can.passes) in
      let own : T (ltb 0 (b i)) = rw (eq-eqb i i refl) (lt→ltb 0 1 (omega arith)) in
      let t =
      count_tight (λ k. ltb 0 (p k)) (λ k. ltb 0 (b k)) (chunks j)
      (λ k u v t. lt→ltb 0 (b k) (by_cond (λ (x : ℕ). 0 < x) (eqb k i) (λ t. omega arith) (λ s. omega (arith, ltb→lt 0 (p k) t))))
      few i l.chunk_low l.chunk_high own in
      omega (arith, ltb→lt 0 (p i) t)

-- ---- the plan

module _ (j : Job) (a : Accepted j) (p : ℕ → ℕ) (d : IsPlan j p) where
  moore_hodgson_refuses : T (by_moore_hodgson j) → Refuses j p (all_bases_kept p)
  moore_hodgson_refuses t i zero l e =
      (λ k u v. by_cond (λ (x : ℕ). x ≤ layers j) (eqb k i) (λ t. l.layer_in) (λ t. omega (arith, l.layer_in)), one_more_base j p (most_pictures j a p d ((by_moore_hodgson_iff j).0 t).0) i l e)
  moore_hodgson_refuses t i (suc n) l e = one_refused j p d.choice (suc n) (d.upper n) i l e

  elsewhere_refuses : T (not (by_moore_hodgson j)) → Refuses j p (settled_before p)
  elsewhere_refuses t i zero l e = one_refused j p d.choice 0 (d.elsewhere (λ w. T_not (by_moore_hodgson j) t ((by_moore_hodgson_iff j).1 w))) i l e
  elsewhere_refuses t i (suc n) l e = one_refused j p d.choice (suc n) (d.upper n) i l e

  pub plan_refuses : Refuses j p (against j p)
  plan_refuses = by_cond (Refuses j p) (by_moore_hodgson j) moore_hodgson_refuses elsewhere_refuses
