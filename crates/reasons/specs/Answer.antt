-- Meaning. What the call of request 14 answers, and the lent buffer afterwards: document 01,
-- "Direct calls without files check 5, 6, 7", with document 02's 18 before 7, then 11: "A lent
-- buffer is shorter than the whole result, after all input refusals. In a longer one the bytes past
-- the result stay unchanged." The lines are printed text and no file, so 9 does not apply.
use Rattle.std.specs.Prelude.{ℕ, ◌≡◌, List, ◌↔◌, length, leb, Result}
use Rattle.theory_basics.specs.Lent.{lent_after}
use Rattle.theory_basics.specs.Tests.{All}
use Rattle.theory_basics.specs.Refusals.{unless, ◌or_else◌}
use Rattle.refusals.specs.declared.Refusal.{Refusal}
use Rattle.refusals.specs.Numbers.{answered, by_number}
use Rattle.job.specs.Input.{JobInput, job_in, job_refusal}
use Rattle.job.specs.Job.{Job}
use Rattle.theory_plan.specs.Statement.{CanCarry, Choice, IsPlan}
use Rattle.theory_reasons.specs.Lines.{plan_text}
use Rattle.theory_reasons.specs.Statement.{Line, Reasons, Short, against, lower, reasons_text, short}

-- The refusal of the call: 5, 6, 18, 7 by the job, then 11 exactly if the buffer is shorter than
-- the text.
abbrev pub refusal : JobInput → List ℕ → ℕ
refusal h out = job_refusal h or_else unless 11 (leb (length (plan_text (job_in h))) (length out))

-- ---- what the text says

-- A line of the first kind is a true reason.
pub record TrueReason (j : Job) (choice : ℕ → ℕ) (first last : ℕ) : Type 0 where
  -- "Need exceeds carry" in the stretch that it names,
  pub short : Short j choice first last
  -- and no passing list in playing order carries just this layer and those it is held against.
  pub never : CanCarry j choice → ⊥

abbrev pub TrueLine : Job → (ℕ → ℕ) → Line → Type 0
TrueLine j p (short i n first last carried needed) = TrueReason j (against j p i n) first last
TrueLine j p (lower i n below) = Unit {0}

-- What holds of a plan of the job.
pub record OfPlan (j : Job) (p : ℕ → ℕ) : Type 0 where
  -- There are lines,
  pub lines : List Line
  -- which alone are those that request 14 asks for: "by chunk and then layer, for each layer of the
  -- job that its plan doesn't carry (for bases settled by request 9, against all bases kept)";
  pub reasons : (ls : List Line) → Reasons j p (against j p) ls ↔ (ls ≡ lines)
  -- they are what is printed;
  pub text : plan_text j ≡ reasons_text lines
  -- and each of the first kind is a true reason.
  pub are_true : All (TrueLine j p) lines

abbrev pub LinesOfPlan : JobInput → Type 0
LinesOfPlan h = job_refusal h ≡ 0 → (p : ℕ → ℕ) → IsPlan (job_in h) p → OfPlan (job_in h) p

-- Any choice with a stretch that needs more than it carries is carried by no passing list in
-- playing order.
abbrev pub StretchForbids : JobInput → Type 0
StretchForbids h =
    job_refusal h ≡ 0 → (choice : ℕ → ℕ) → Choice (job_in h) choice → (first last : ℕ) → Short (job_in h) choice first last → CanCarry (job_in h) choice → ⊥

-- ---- the call

-- What `reasons` promises of a job as handed and the buffer that it is lent, with its answer and
-- the buffer afterwards.
pub record ReasonsPromise (h : JobInput) (out : List ℕ) (r : Result ℕ Refusal) (out' : List ℕ) : Type 0 where
  -- The number of bytes, or a refusal's number.
  pub result : by_number r ≡ answered (refusal h out) (length (plan_text (job_in h)))
  -- "In a longer one the bytes past the result stay unchanged"; on a refusal all of them.
  pub buffer : out' ≡ lent_after (refusal h out) (plan_text (job_in h)) out
  -- "For each layer of the job that its plan doesn't carry", whichever plan of the job is taken.
  pub lines : LinesOfPlan h
  -- Why a line of the first kind is a reason.
  pub forbids : StretchForbids h
