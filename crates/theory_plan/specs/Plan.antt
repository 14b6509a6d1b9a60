-- Meaning. The plan computed, so that a contract can name it: the bases of request 9 or of document
-- 01's trials, then the trials of the upper layers in document 01's order, each decided by a test
-- that takes no list. What a plan is says Statement (`IsPlan`); that this is it, and the only one,
-- say `plan_exists` and `plan_unique` of Theorems, and that the test says whether some list can
-- carry the choice, `decision`. So nobody has to believe the test.
use Rattle.std.specs.Prelude.{ℕ, zero, suc, ◌+◌, ◌-◌, min, Bool, not, cond, ◌&&◌, List, [], ◌∷◌, leb, ltb, eqb}
use Rattle.theory_basics.specs.Sums.{pre, sum}
use Rattle.theory_basics.specs.Tests.{all_to}
use Rattle.job.specs.Job.{Job, chunks, due, forecast, held_most, last_slot, layers, size}
use Rattle.theory_plan.specs.Bases.{base_size, is_kept}
use Rattle.theory_plan.specs.lemmas.Feasible.{feas}

-- ---- the kept chunks of a choice

-- The numbers of lo + 1 .. lo + n that pass.
abbrev pub picked : (ℕ → Bool) → ℕ → ℕ → List ℕ
picked p lo zero = []
picked p lo (suc n) = cond (p (suc lo)) (suc lo ∷ picked p (suc lo) n) (picked p (suc lo) n)

-- The bytes of chunk k in the choice lv.
abbrev pub bytes : Job → (ℕ → ℕ) → ℕ → ℕ
bytes j lv k = sum (size j k) (lv k)

-- The chunks that are not skipped, in playing order.
abbrev pub kept : Job → (ℕ → ℕ) → List ℕ
kept j lv = picked (λ i. leb 1 (lv i)) 0 (chunks j)

-- What is forecast after slot t, up to the last slot.
abbrev pub after : Job → ℕ → ℕ
after j t = pre (forecast j) (last_slot j) - pre (forecast j) t

-- ---- whether they fit

-- The test that a choice fits: by what its chunks need of the forecast (lemmas Feasible, which
-- nobody has to read: `Theorems.decision` says what the test says).
unfoldable pub fits : Job → (ℕ → ℕ) → Bool
unfolding feas
fits j lv = feas (bytes j lv) (due j) (after j) (held_most j) (kept j lv)

-- ---- the trials

-- What chunk k carries of the layers settled before layer n of chunk i.
abbrev pub settled : (ℕ → ℕ) → ℕ → ℕ → ℕ → ℕ
settled plan n i k = min (plan k) (cond (ltb i k) (suc n) n)

-- The layers settled as carried so far, and layer n of chunk i: the choice that is tried
-- (Statement, `Trial`).
abbrev pub tried : (ℕ → ℕ) → ℕ → ℕ → ℕ → ℕ
tried plan n i k = cond (eqb k i) (suc n) (settled plan n i k)

-- One layer more for chunk i.
abbrev pub raise : (ℕ → ℕ) → ℕ → ℕ → ℕ
raise p i k = cond (eqb k i) (suc (p k)) (p k)

-- Trials in general: ok i says of the choice that is tried whether chunk i may have the layer. Of
-- the plan, whether it fits; a plan made afresh (theory_replan) asks more.
abbrev pub fitting : Job → ℕ → (ℕ → ℕ) → Bool
fitting j i choice = fits j choice

-- Layer n of chunk i is taken: the layers below are carried, and the choice with it passes.
abbrev pub takes : (ℕ → (ℕ → ℕ) → Bool) → ℕ → (ℕ → ℕ) → ℕ → Bool
takes ok n p i = eqb (p i) n && ok i (raise p i)

-- The choice after the trial of layer n of chunk i.
abbrev pub try : (ℕ → (ℕ → ℕ) → Bool) → ℕ → (ℕ → ℕ) → ℕ → ℕ → ℕ
try ok n p i = cond (takes ok n p i) (raise p i) p

-- Layer n is tried for the chunks lo + m down to lo + 1.
abbrev pub sweep : (ℕ → (ℕ → ℕ) → Bool) → ℕ → ℕ → ℕ → (ℕ → ℕ) → ℕ → ℕ
sweep ok n lo zero p = p
sweep ok n lo (suc m) p = try ok n (sweep ok n (suc lo) m p) (suc lo)

-- On settled bases, layers 1 .. n - 1 are tried for all chunks.
abbrev pub plan_to : Job → (ℕ → ℕ) → ℕ → ℕ → ℕ
plan_to j bases zero = λ k. 0
plan_to j bases (suc zero) = bases
plan_to j bases (suc (suc n)) = sweep (fitting j) (suc n) 0 (chunks j) (plan_to j bases (suc n))

-- All layers.
abbrev pub plan_on : Job → (ℕ → ℕ) → ℕ → ℕ
plan_on j bases = plan_to j bases (layers j)

-- ---- document 01's way by itself

-- The base is tried for all chunks.
abbrev pub bases_tried : Job → ℕ → ℕ
bases_tried j = sweep (fitting j) 0 0 (chunks j) (λ k. 0)

unfoldable pub plan_by_trials : Job → ℕ → ℕ
unfolding fits
plan_by_trials j = plan_on j (bases_tried j)

-- ---- the plan

-- Base sizes do not vary: each base has chunk 1's size.
abbrev pub equal_bases : Job → Bool
equal_bases j = all_to (chunks j) (λ i. eqb (base_size j i) (base_size j 1))

-- Request 9 settles the bases: H is at least C, and base sizes vary.
abbrev pub by_moore_hodgson : Job → Bool
by_moore_hodgson j = leb (chunks j) (held_most j) && not (equal_bases j)

-- The bases that Moore-Hodgson keeps.
abbrev pub bases_moore_hodgson : Job → ℕ → ℕ
bases_moore_hodgson j i = cond (is_kept j i) 1 0

unfoldable pub plan : Job → ℕ → ℕ
unfolding fits
plan j = plan_on j (cond (by_moore_hodgson j) (bases_moore_hodgson j) (bases_tried j))
