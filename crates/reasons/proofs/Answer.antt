-- Laws on what the call hands over: a refusal by the job, 11, or the text in front of the old
-- bytes. Assumes nothing.
use Prim.Native.Nat.{ℕ, ◌≤◌, ◌<◌}
use mathlib.Core.Path.{◌≡◌, refl, sym, ap, subst, ◌∙◌}
use mathlib.Core.List.{List, [], ◌∷◌, ◌++◌}
use native.Mathlib.Omega.{arith}
use lib.ListN.{length, drop, take}
use lib.Dec.{leb}
use borrow.Author.Tests.{le-leb, lt-leb, ne_eqb}
use Rattle.theory_basics.specs.Refusals.{unless}
use Rattle.theory_basics.specs.Tests.{All, In, here, there}
use Rattle.theory_basics.specs.lemmas.Refusals.{or_else_none, or_else_some}
use Rattle.job.specs.Input.{JobInput, job_in, job_refusal}
use Rattle.job.specs.Job.{Accepted, Job}
use Rattle.records.specs.Fields.{written}
use Rattle.records.specs.lemmas.Puts.{written_whole}
use Rattle.theory_plan.specs.Plan.{plan}
use Rattle.theory_plan.specs.Statement.{IsPlan}
use Rattle.theory_reasons.specs.Lines.{lines_of, plan_text}
use Rattle.theory_reasons.specs.Statement.{Line, Place, Reason, Under, against, lower, missing, short}
use Rattle.theory_reasons.proofs.Theorems.{line_refused, missing_iff, plan_reasons, stretch_forbids, text_fits}
use Rattle.core_text.specs.lemmas.Places.{Put, put_front, put_whole}
use Rattle.reasons.specs.Answer.{LinesOfPlan, ReasonsPromise, TrueLine, TrueReason, refusal}
use Rattle.std.specs.Prelude.{Result, Ok, Err}
use Rattle.refusals.specs.declared.Refusal.{Refusal}
use Rattle.refusals.specs.declared.Refusal.TheVariants.{ShortBuffer}
use Rattle.refusals.specs.Numbers.{number_of}
use Rattle.refusals.specs.Laws.{number_above_0}
use Rattle.reasons.specs.lemmas.Told.{Told}
use Rattle.job.specs.Theorems.{input_accepted}

pub fits : (h : JobInput) → job_refusal h ≡ 0 → length (plan_text (job_in h)) ≤ 94000
fits h z = text_fits (job_in h) (input_accepted h z)

module _ (h : JobInput) (old : List ℕ) where
  pub told_refused : (e : Refusal) → number_of e ≡ job_refusal h → Told h old old (Err e)
  told_refused e is =
      let z : job_refusal h ≡ 0 → ⊥ = λ z. omega (arith, number_above_0 e) in
      let r : refusal h old ≡ number_of e = or_else_some (job_refusal h) (unless 11 (leb (length (plan_text (job_in h))) (length old))) z ∙ sym is in
      let n = ne_eqb (number_of e) 0 (λ z. omega (arith, number_above_0 e)) in
      record { result = rw (r, n); buffer = rw (r, n) }

  module _ (z : job_refusal h ≡ 0) where
    pub told_short : length old < length (plan_text (job_in h)) → Told h old old (Err ShortBuffer)
    told_short l =
        let r : refusal h old ≡ 11 = or_else_none (job_refusal h) (unless 11 (leb (length (plan_text (job_in h))) (length old))) z ∙ rw (lt-leb (length (plan_text (job_in h))) (length old) l) in
        record { result = rw r; buffer = rw r }

    pub told : (n : ℕ) (new : List ℕ) → length (plan_text (job_in h)) ≤ length old → n ≡ length (plan_text (job_in h)) → new ≡ plan_text (job_in h) ++ drop (length (plan_text (job_in h))) old → Told h old new (Ok n)
    told n new l e b =
        let r : refusal h old ≡ 0 = or_else_none (job_refusal h) (unless 11 (leb (length (plan_text (job_in h))) (length old))) z ∙ rw (le-leb (length (plan_text (job_in h))) (length old) l) in
        record { result = rw (r, e); buffer = rw r b }

    -- Put into the buffer itself,
    pub told_put : (n : ℕ) (new : List ℕ) → length (plan_text (job_in h)) ≤ length old → Put old 0 (plan_text (job_in h)) new n → Told h old new (Ok n)
    told_put n new l p = told n new l (omega (arith, p.place)) (put_whole l p)

    -- or put aside and copied.
    pub told_copied :
        (n : ℕ) (new before aside : List ℕ) → length (plan_text (job_in h)) ≤ length before → Put before 0 (plan_text (job_in h)) aside n → n ≤ length old →
        new ≡ written old 0 (take n aside) → Told h old new (Ok n)
    told_copied n new before aside room p l e =
        let t = (put_front room p).1 in
        let fit : length (plan_text (job_in h)) ≤ length old = omega (arith, p.place) in
        told n new fit (omega (arith, p.place)) (e ∙ ap (written old 0) t ∙ written_whole old (plan_text (job_in h)) fit)

-- ---- what the text says

-- What the line under each place says, of every line.
under_all : (R : ℕ → ℕ → Line → Type 0) (P : Line → Type 0) (xs : List Place) (ls : List Line) → Under R xs ls →
    ((x : Place) → In x xs → (l : Line) → R x.chunk x.layer l → P l) → All P ls
under_all R P [] [] u g = tt
under_all R P [] (l ∷ ls) u g = absurd u
under_all R P (x ∷ xs) [] u g = absurd u
under_all R P (x ∷ xs) (l ∷ ls) u g = (g x here l u.0, under_all R P xs ls u.1 (λ y i m r. g y (there i) m r))

true_line : (j : Job) → Accepted j → (p : ℕ → ℕ) → IsPlan j p → (x : Place) → In x (missing j p) → (l : Line) → Reason j p (against j p) x.chunk x.layer l → TrueLine j p l
true_line j a p d x at (short i n first last carried needed) r =
    let m = (missing_iff j p x).0 at in
    let exact : p x.chunk ≡ x.layer = omega (arith, m.not_carried, r.2.lower_carried) in
    let there_is : TrueReason j (against j p x.chunk x.layer) first last =
    record { short = r.2.stretch.short; never = (line_refused j a p d x.chunk x.layer m.layer exact).1 } in
    subst (λ (k : ℕ). TrueReason j (against j p k n) first last) (sym r.0)
    (subst (λ (k : ℕ). TrueReason j (against j p x.chunk k) first last) (sym r.1) there_is)
true_line j a p d x at (lower i n below) r = tt

lines_of_plan : (h : JobInput) → LinesOfPlan h
unfolding plan_text
lines_of_plan h z p d =
    let j = job_in h in
    let its : List Line = lines_of j (plan j) (against j (plan j)) in
    let only = plan_reasons j (input_accepted h z) p d in
    record {
      lines = its;
      reasons = only;
      text = refl;
      are_true = under_all (Reason j p (against j p)) (TrueLine j p) (missing j p) its ((only its).1 refl) (true_line j (input_accepted h z) p d);
    }

pub promised : {h : JobInput} {out out' : List ℕ} {r : Result ℕ Refusal} → Told h out out' r → ReasonsPromise h out r out'
promised {h = h} t =
    record { result = t.result; buffer = t.buffer; lines = lines_of_plan h; forbids = λ z. stretch_forbids (job_in h) (input_accepted h z) }
