-- Theorems. What Statement states, proved: such a stretch always exists and is a true reason, one
-- is named and no other; the list of missing layers; a plan's lines are those of Lines and no
-- others; they read back in one way only; how long their text is.
use Rattle.std.specs.Prelude.{ℕ, zero, suc, ◌≤◌, ◌<◌, ◌≡◌, refl, List, ◌↔◌, eqb, ltb, length}
use Rattle.std.proofs.Common.{sym, ap, subst, ◌∙◌, ⊎_elim, arith, eq-eqb, lt-ltb, le-ltb, eqb→eq, lt→ltb, ltb→lt, nltb→le}
use Rattle.theory_basics.specs.Tests.{In}
use Rattle.theory_basics.specs.lemmas.Tests.{test, not_T_false}
use Rattle.job.specs.Job.{Accepted, EqualBases, HoldsAll, Job, Layer, chunks, due, layers}
use Rattle.theory_plan.specs.Plan.{plan}
use Rattle.theory_plan.specs.Statement.{CanCarry, Choice, IsPlan, Same, SettledByTrials}
use Rattle.theory_plan.proofs.Theorems.{plan_exists, plan_unique}
use Rattle.theory_plan.specs.lemmas.Choice.{Fits, can_carry_fits}
use Rattle.theory_plan.proofs.OneSize.{trials_last}
use Rattle.theory_plan.specs.lemmas.Words.{accepted_sized}
use Rattle.theory_reasons.specs.Lines.{lines_of, plan_text, stretch_of}
use Rattle.theory_reasons.specs.Reading.{read_line, read_reasons}
use Rattle.theory_reasons.specs.Statement.{InTurn, IsMissing, Line, Named, Place, Reason, Reasons, Short, against, all_bases_kept, carry, missing, need, reasons_text, sentence, settled_before, short}
use Rattle.theory_reasons.proofs.Kept.{can_begin, kept_chunk, kept_count}
use Rattle.theory_reasons.proofs.Agree.{against_agree, reasons_agree}
use Rattle.theory_reasons.proofs.Bridge.{fits_none_short}
use Rattle.theory_reasons.proofs.Named.{is_named_unique, named_unique, passed, passed_searched, stretch_named, stretch_of_named, stretch_passed}
use Rattle.theory_reasons.proofs.Places as Places
use Rattle.theory_reasons.proofs.Readback as Readback
use Rattle.theory_reasons.proofs.Refused.{lines_hold, lines_unique, plan_refuses, refused_stretch}
use Rattle.theory_reasons.proofs.Widths.{lines_fit}

-- ---- the stretch of one choice

-- "Such a stretch always exists": a choice that no passing list in playing order carries has one,
-- and the search gives the one named.
pub stretch_exists :
    (j : Job) → Accepted j → (choice : ℕ → ℕ) → Choice j choice → (CanCarry j choice → ⊥) →
    Named j choice (stretch_of j choice).first (stretch_of j choice).last
stretch_exists j a choice c never = (refused_stretch j a choice c never).named

-- The sentence is a true reason: a choice with a stretch that needs more than it carries is carried
-- by no passing list in playing order.
pub stretch_forbids : (j : Job) → Accepted j → (choice : ℕ → ℕ) → Choice j choice → (a b : ℕ) → Short j choice a b → CanCarry j choice → ⊥
stretch_forbids j acc choice c a b s can = fits_none_short j acc choice (can_carry_fits j (accepted_sized j acc) choice c can) a b s

-- "Of several, the smallest last slot is named, then the greatest first slot": one and no other,
-- which the search gives.
pub stretch_unique : (j : Job) (choice : ℕ → ℕ) (a b a' b' : ℕ) → Named j choice a b → Named j choice a' b' → (a ≡ a') × (b ≡ b')
stretch_unique = named_unique

pub stretch_computed :
    (j : Job) (choice : ℕ → ℕ) (a b : ℕ) → Named j choice a b →
    stretch_of j choice ≡ record { first = a; last = b; carry = carry j a b; need = need j choice a b }
stretch_computed j choice a b n =
    is_named_unique j choice (stretch_of j choice) _ (stretch_of_named j choice a b n.short) (record { named = n; carry_is = refl; need_is = refl })

-- It ends where a kept chunk is due, and begins where one can begin.
pub record AtKept (j : Job) (choice : ℕ → ℕ) (a b : ℕ) : Type 0 where
  pub from : ℕ
  pub to : ℕ
  pub run : from ≤ to
  pub kept_to : to < kept_count j choice
  pub first_is : a ≡ can_begin j choice from
  pub last_is : b ≡ due j (kept_chunk j choice to)

pub stretch_at_kept : (j : Job) → Accepted j → (choice : ℕ → ℕ) (a b : ℕ) → Named j choice a b → AtKept j choice a b
stretch_at_kept j acc choice a b n =
    let never : Fits j choice → ⊥ = λ f. fits_none_short j acc choice f a b n.short in
    let x = passed_searched j acc choice never in
    let s = stretch_passed j acc choice never in
    let e = named_unique j choice _ _ a b (stretch_named j acc choice never).named n in
    record {
      from = x.from;
      to = x.to;
      run = x.found.run;
      kept_to = x.found.inside;
      first_is = sym e.0 ∙ ap (λ s. s.first) s ∙ x.first_is;
      last_is = sym e.1 ∙ ap (λ s. s.last) s ∙ x.last_is;
    }

-- ---- the missing layers

-- "For each layer of the job that its plan doesn't carry", and for no other,
pub missing_iff : (j : Job) (p : ℕ → ℕ) (x : Place) → In x (missing j p) ↔ IsMissing j p x
missing_iff = Places.missing_iff

-- "by chunk and then layer".
pub missing_in_turn : (j : Job) (p : ℕ → ℕ) → InTurn (missing j p)
missing_in_turn = Places.missing_in_turn

-- ---- the lines of a plan

-- "Need exceeds carry in every line of the first kind."
pub line_exceeds :
    (j : Job) (p : ℕ → ℕ) (held : ℕ → ℕ → ℕ → ℕ) (i n i' n' a b carried needed : ℕ) → Reason j p held i n (short i' n' a b carried needed) →
    carried < needed
line_exceeds j p held i n i' n' a b carried needed r = omega (arith, r.2.carry_is, r.2.need_is, r.2.stretch.short.exceeds)

-- Each layer with a line of the first kind was refused: what the line is held against can't be
-- carried.
pub line_refused :
    (j : Job) → Accepted j → (p : ℕ → ℕ) → IsPlan j p → (i n : ℕ) → Layer j i n → p i ≡ n →
    Choice j (against j p i n) × (CanCarry j (against j p i n) → ⊥)
line_refused j a p d = plan_refuses j a p d

-- Whichever plan of an accepted job is taken, these are its lines, and there are no others.
pub plan_reasons :
    (j : Job) → Accepted j → (p : ℕ → ℕ) → IsPlan j p → (ls : List Line) →
    Reasons j p (against j p) ls ↔ (ls ≡ lines_of j (plan j) (against j (plan j)))
plan_reasons j a p d ls =
    let q = plan j in
    let e = plan_unique j p q d (plan_exists j a) in
    let back : Same j q p = λ k u v. sym (e k u v) in
    let own = lines_hold j a q (against j q) (plan_refuses j a q (plan_exists j a)) in (
      λ r.
          lines_unique j q (against j q) ls (lines_of j q (against j q))
          (reasons_agree j p q (against j p) (against j q) e (λ i n u v w h. against_agree j p q e i n) ls r) own,
      λ x.
          subst (Reasons j p (against j p)) (sym x)
          (reasons_agree j q p (against j q) (against j p) back (λ i n u v w h. against_agree j q p back i n) (lines_of j q (against j q)) own),
    )

-- So the text is theirs.
pub plan_text_lem : (j : Job) → Accepted j → (p : ℕ → ℕ) → IsPlan j p → (ls : List Line) → Reasons j p (against j p) ls → plan_text j ≡ reasons_text ls
unfolding plan_text
plan_text_lem j a p d ls r = ap reasons_text (sym ((plan_reasons j a p d ls).0 r))

-- ---- reading back

-- "The sentence can be read back into its numbers
pub sentence_read : (l : Line) → read_line (sentence l) ≡ l
sentence_read = Readback.sentence_read

-- in one way only": equal sentences are of one kind and have the same numbers.
pub sentence_one_way : (x y : Line) → sentence x ≡ sentence y → x ≡ y
sentence_one_way x y e = sym (sentence_read x) ∙ ap read_line e ∙ sentence_read y

-- So can the whole text.
pub text_read : (ls : List Line) → read_reasons (reasons_text ls) ≡ ls
text_read = Readback.text_read

pub text_one_way : (ls ms : List Line) → reasons_text ls ≡ reasons_text ms → ls ≡ ms
text_one_way ls ms e = sym (text_read ls) ∙ ap read_reasons e ∙ text_read ms

-- ---- how long the text is

-- At most 94,000 bytes, so a local buffer holds it: for each of 500 chunks 74 in the line of its
-- first missing layer, and 38 in each of 3 more.
pub text_fits : (j : Job) → Accepted j → length (plan_text j) ≤ 94000
unfolding plan_text
text_fits j a =
    let p = plan j in
    let r = plan_refuses j a p (plan_exists j a) in
    lines_fit j a p (against j p) r (lines_of j p (against j p)) (lines_hold j a p (against j p) r)

-- ---- "for bases settled by request 9, against all bases kept"

-- Where the limit holds the programme and all bases have one size, document 01's way settles them,
-- and both readings give the same lines: the bases carried are the last ones. So nothing hangs on
-- whether request 9 is said to settle such bases.
module _ (j : Job) (a : Accepted j) (wide : HoldsAll j) (equal : EqualBases j) (p : ℕ → ℕ) (d : SettledByTrials j p) where
  skipped_before : (i : ℕ) → i ≤ chunks j → p i ≡ 0 → (k : ℕ) → 1 ≤ k → k ≤ i → p k ≡ 0
  skipped_before i h e k u v =
      ⊎_elim
      (λ t. absurd (omega (arith, ltb→lt 0 (p i) (trials_last j (accepted_sized j a) a.layers_in.low wide equal p d k i u v h t))))
      (λ t. omega (arith, nltb→le 0 (p k) t))
      (test (ltb 0 (p k)))

  same_base : (i : ℕ) → i ≤ chunks j → p i ≡ 0 → Same j (settled_before p i 0) (all_bases_kept p i 0)
  same_base i h e k u v =
      ⊎_elim
      (λ t. let q = eqb→eq k i t in rw (q, eq-eqb i i refl))
      (λ t.
      rw (not_T_false (eqb k i) t)
      (⊎_elim
      (λ s. rw (lt-ltb i k (ltb→lt i k s)))
      (λ s.
      let l = nltb→le i k s in
      let skipped = skipped_before i h e k u l in
      rw (le-ltb i k l, skipped))
      (test (ltb i k))))
      (test (eqb k i))

  same_held : (i n : ℕ) → 1 ≤ i → i ≤ chunks j → n < layers j → p i ≤ n → Same j (settled_before p i n) (all_bases_kept p i n)
  same_held i zero u v w h = same_base i v (omega arith)
  same_held i (suc n) u v w h = λ k g l. refl

  pub readings_agree : (ls : List Line) → Reasons j p (settled_before p) ls ↔ Reasons j p (all_bases_kept p) ls
  readings_agree ls = (
    reasons_agree j p p (settled_before p) (all_bases_kept p) (λ k u v. refl) same_held ls,
    reasons_agree j p p (all_bases_kept p) (settled_before p) (λ k u v. refl) (λ i n u v w h k x y. sym (same_held i n u v w h k x y)) ls,
  )
