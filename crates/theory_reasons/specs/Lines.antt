-- Meaning. The lines computed, so that a contract can name their text: the stretch by a search over
-- all stretches of slots, and a line under each missing layer. What the lines are says Statement
-- (`Reasons`); that these are they, and no others, says Theorems (`plan_reasons`), so nobody has to
-- believe the search.
use Rattle.std.specs.Prelude.{ℕ, zero, suc, ◌-◌, Bool, cond, List, map, leb, ltb}
use Rattle.job.specs.Job.{Job, last_slot}
use Rattle.theory_plan.specs.Plan.{plan}
use Rattle.theory_reasons.specs.Statement.{Line, against, carry, lower, missing, need, reasons_text, short}

-- ---- the stretch

-- A stretch as it is named.
pub record Stretch : Type 0 where
  pub first : ℕ
  pub last : ℕ
  pub carry : ℕ
  pub need : ℕ

-- The smallest of the n numbers from `at` on that passes, else the next one after them.
abbrev pub smallest : (ℕ → Bool) → ℕ → ℕ → ℕ
smallest p at zero = at
smallest p at (suc n) = cond (p at) at (smallest p (suc at) n)

-- The greatest of 1 .. n that passes, else 0.
abbrev pub greatest : (ℕ → Bool) → ℕ → ℕ
greatest p zero = 0
greatest p (suc n) = cond (p (suc n)) (suc n) (greatest p n)

-- The slots a to b need more than they carry.
abbrev pub exceeds : Job → (ℕ → ℕ) → ℕ → ℕ → Bool
exceeds j choice b a = ltb (carry j a b) (need j choice a b)

-- "Of several, the smallest last slot is named,
abbrev pub last_named : Job → (ℕ → ℕ) → ℕ
last_named j choice = smallest (λ b. leb 1 (greatest (exceeds j choice b) b)) 1 (last_slot j)

-- then the greatest first slot."
abbrev pub first_named : Job → (ℕ → ℕ) → ℕ
first_named j choice = let b = last_named j choice in greatest (exceeds j choice b) b

unfoldable pub stretch_of : Job → (ℕ → ℕ) → Stretch
stretch_of j choice =
    let a = first_named j choice in
    let b = last_named j choice in
    record { first = a; last = b; carry = carry j a b; need = need j choice a b }

-- ---- the lines

-- The line of the first kind with a stretch's numbers.
abbrev pub short_line : ℕ → ℕ → Stretch → Line
short_line i n s = short i n s.first s.last s.carry s.need

-- The line under layer n of chunk i, against a choice for each missing layer.
abbrev pub line_at : Job → (ℕ → ℕ) → (ℕ → ℕ → ℕ → ℕ) → ℕ → ℕ → Line
line_at j plan held i n = cond (leb n (plan i)) (short_line i n (stretch_of j (held i n))) (lower i n (n - 1))

-- One under each missing layer, in turn.
abbrev pub lines_of : Job → (ℕ → ℕ) → (ℕ → ℕ → ℕ → ℕ) → List Line
lines_of j plan held = map (λ x. line_at j plan held x.chunk x.layer) (missing j plan)

-- The text for a job: the lines of its plan.
unfoldable pub plan_text : Job → List ℕ
plan_text j = reasons_text (lines_of j (plan j) (against j (plan j)))
