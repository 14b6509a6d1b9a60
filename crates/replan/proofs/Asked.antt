-- Laws on the refusals: asked one after the other, and what they say if there is none. Assumes
-- nothing.
use Prim.Native.Nat.{ℕ, zero, suc, ◌-◌, ◌≤◌, ◌<◌}
use mathlib.Core.Path.{◌≡◌, refl, sym, ◌∙◌, ap}
use mathlib.Core.Bool.{Bool, ◌&&◌}
use mathlib.Core.List.{List, []}
use mathlib.Core.Logic.{⊎_elim}
use native.Mathlib.Omega.{arith}
use lib.Dec.{eqb, eqb→eq, ltb}
use lib.ListN.{get_or, length, take}
use lib.Seq.{take-length, take-suc}
use Rattle.theory_basics.specs.Lists.{up_to}
use Rattle.theory_basics.specs.Refusals.{◌or_else◌, unless}
use Rattle.theory_basics.specs.Tests.{All, all}
use Rattle.theory_basics.specs.lemmas.Refusals.{or_else_iff, or_else_none, or_else_some}
use Rattle.theory_basics.specs.lemmas.Tests.{all_snoc, test, neqb_ne}
use Rattle.job.specs.Input.{JobInput, job_in, job_refusal}
use Rattle.job.specs.Job.{Within, last_due}
use Rattle.fetch.specs.Input.{Whole, whole_iff, list_refusal}
use Rattle.fetch.specs.Rows.{row_at}
use Rattle.fetch.specs.VerdictFrom.{slot_refusal}
use Rattle.fetch.proofs.Theorems.{slot_iff}
use Rattle.theory_replan.specs.Refusal.{before_iff, before_refusal, fetched_kept, onward_iff, replan_refusal}
use Rattle.replan.specs.Answer.{ReplanInput, fetched, input_refusal, job_on}
use Rattle.replan.specs.lemmas.Asked.{asked_refusal, part_refusal}

-- ---- asked in turn

after : (a b c : ℕ) → ((a or_else b) or_else c) ≡ (a or_else b or_else c)
after a b c =
    ⊎_elim
    (λ t. let z = eqb→eq a 0 t in ap (λ (n : ℕ). n or_else c) (or_else_none a b z) ∙ sym (or_else_none a (b or_else c) z))
    (λ t.
    let n : a ≡ 0 → ⊥ = neqb_ne a 0 t in
    ap (λ (m : ℕ). m or_else c) (or_else_some a b n) ∙ or_else_some a c n ∙ sym (or_else_some a (b or_else c) n))
    (test (eqb a 0))

after_five : (a b c d e f : ℕ) → ((a or_else b or_else c or_else d or_else e) or_else f) ≡ (a or_else b or_else c or_else d or_else e or_else f)
after_five a b c d e f =
    after a (b or_else c or_else d or_else e) f
    ∙ ap (λ (n : ℕ). a or_else n)
    (after b (c or_else d or_else e) f ∙ ap (λ (n : ℕ). b or_else n) (after c (d or_else e) f ∙ ap (λ (n : ℕ). c or_else n) (after d e f)))

-- Every row is before p exactly if every slot is.
rows_before : (p : ℕ) (ss cs ls bs : List ℕ) (n : ℕ) → n ≤ length ss → all (λ x. ltb x.slot p) (up_to (row_at ss cs ls bs) n) ≡ all (λ s. ltb s p) (take n ss)
rows_before p ss cs ls bs zero h = refl
rows_before p ss cs ls bs (suc n) h =
    all_snoc (λ x. ltb x.slot p) (up_to (row_at ss cs ls bs) n) (row_at ss cs ls bs n)
    ∙ ap (λ (b : Bool). b && ltb (get_or ss n 0) p) (rows_before p ss cs ls bs n (omega arith))
    ∙ sym (ap (all (λ s. ltb s p)) (take-suc ss n 0 (omega arith)) ∙ all_snoc (λ s. ltb s p) (take n ss) (get_or ss n 0))

module _ (h : JobInput) (o : ReplanInput) where
  before_is : before_refusal o.from (fetched o) ≡ unless 21 (all (λ s. ltb s o.from) o.slots)
  before_is =
      ap (λ (b : Bool). unless 21 b)
      (rows_before o.from o.slots o.chunks o.layers o.bytes (length o.slots) (omega arith) ∙ ap (all (λ s. ltb s o.from)) (take-length o.slots))

  -- The refusals that come from the input: those asked first, then 22.
  pub input_is : input_refusal h o ≡ (asked_refusal h o or_else unless 22 (fetched_kept (job_on h o) (fetched o)))
  unfolding replan_refusal
  input_is =
      let job = job_refusal h in
      let whole = list_refusal 0 [] o.slots o.chunks o.layers o.bytes in
      let slot = slot_refusal h.programme o.from in
      let part = part_refusal h.programme o.from o.onward in
      let kept = unless 22 (fetched_kept (job_on h o) (fetched o)) in
      ap (λ (b : ℕ). job or_else whole or_else slot or_else b or_else part or_else kept) before_is
      ∙ sym (after_five job whole slot (unless 21 (all (λ s. ltb s o.from) o.slots)) part kept)

-- What none of the first says.
pub record Asked (h : JobInput) (o : ReplanInput) : Type 0 where
  pub job : job_refusal h ≡ 0
  pub whole : Whole 0 [] o.slots o.chunks o.layers o.bytes
  pub slot_in : Within 1 (last_due h.programme) o.from
  pub before : All (λ x. x.slot < o.from) (fetched o)
  pub onward_in : All (Within 0 16777216) o.onward
  pub slots_in : length o.onward ≡ suc (last_due h.programme) - o.from

pub asked_none : (h : JobInput) (o : ReplanInput) → asked_refusal h o ≡ 0 → Asked h o
asked_none h o z =
    let job = job_refusal h in
    let whole = list_refusal 0 [] o.slots o.chunks o.layers o.bytes in
    let slot = slot_refusal h.programme o.from in
    let row = unless 21 (all (λ s. ltb s o.from) o.slots) in
    let part = part_refusal h.programme o.from o.onward in
    let a = (or_else_iff job (whole or_else slot or_else row or_else part)).0 z in
    let b = (or_else_iff whole (slot or_else row or_else part)).0 a.1 in
    let c = (or_else_iff slot (row or_else part)).0 b.1 in
    let d = (or_else_iff row part).0 c.1 in
    let seven = (onward_iff (job_in h) o.from o.onward).0 d.1 in
    record {
      job = a.0;
      whole = (whole_iff 0 [] o.slots o.chunks o.layers o.bytes).0 b.0;
      slot_in = (slot_iff h.programme o.from).0 c.0;
      before = (before_iff o.from (fetched o)).0 (before_is h o ∙ d.0);
      onward_in = seven.0;
      slots_in = seven.1;
    }
