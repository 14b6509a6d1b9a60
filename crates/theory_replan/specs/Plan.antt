-- Meaning. The plan made afresh, computed, so that a contract can name it: the trials in document
-- 01's order, from the layers whole before p on, each decided by a test that takes no list. What
-- such a plan is says Statement (`IsReplan`); that this is it, and the only one, say
-- `replan_exists` and `replan_unique` of Theorems, and that the test says whether some list can
-- carry the choice, `decision_from`. So nobody has to believe the test.
use Rattle.std.specs.Prelude.{ℕ, zero, suc, ◌-◌, max, Bool, not, cond, ◌&&◌, ◌||◌, List, leb, ltb, eqb}
use Rattle.theory_basics.specs.Sums.{sum}
use Rattle.theory_basics.specs.Tests.{all, all_to}
use Rattle.job.specs.Job.{Job, chunks, due, held_most, layers, size}
use Rattle.fetch.specs.Rows.{Row, bytes_of_layer, has_row, layers_carried}
use Rattle.theory_plan.specs.Plan.{after, picked, settled, sweep}
use Rattle.theory_plan.specs.lemmas.Feasible.{feas}

-- ---- whether a choice still fits

-- What is forecast after slot t, of the slots from p on.
abbrev pub after_from : Job → ℕ → ℕ → ℕ
after_from j p t = after j (max t (p - 1))

-- The bytes of chunk k in the choice that are not yet fetched.
abbrev pub bytes_left : Job → List Row → (ℕ → ℕ) → ℕ → ℕ
bytes_left j fetched choice k = sum (λ n. size j k n - bytes_of_layer fetched k n) (choice k)

-- Chunk i is begun, given up or not, or it is kept: so it may be held.
abbrev pub busy : List Row → (ℕ → ℕ) → ℕ → Bool
busy fetched choice i = has_row fetched i || leb 1 (choice i)

abbrev pub busy_chunks : Job → List Row → (ℕ → ℕ) → List ℕ
busy_chunks j fetched choice = picked (busy fetched choice) 0 (chunks j)

-- Layers whole before p are in the choice, a chunk that is kept has begun or plays after all that
-- have, and the busy chunks fit, each with the bytes not yet fetched, into the slots from p on.
unfoldable pub fits_from : Job → ℕ → List Row → (ℕ → ℕ) → Bool
unfolding feas
fits_from j p fetched choice =
    all_to (chunks j) (λ k. leb (layers_carried j fetched k) (choice k))
    && (all_to (chunks j) (λ i. not (leb 1 (choice i)) || (has_row fetched i || all (λ x. ltb x.chunk i) fetched))
    && feas (bytes_left j fetched choice) (due j) (after_from j p) (held_most j) (busy_chunks j fetched choice))

-- ---- the trials

-- What chunk k carries of the layers settled as carried so far: those whole before p, and those
-- settled before layer n of chunk i. (Layers whole before p are, by rule 3, the lowest ones of
-- their chunk.)
abbrev pub settled_from : Job → List Row → (ℕ → ℕ) → ℕ → ℕ → ℕ → ℕ
settled_from j fetched plan n i k = max (layers_carried j fetched k) (settled plan n i k)

-- The choice that is tried: what is settled before layer n of chunk i, and that layer (Statement,
-- `TrialFrom`).
abbrev pub tried_from : Job → List Row → (ℕ → ℕ) → ℕ → ℕ → ℕ → ℕ
tried_from j fetched plan n i k = cond (eqb k i) (suc n) (settled_from j fetched plan n i k)

-- Chunk i is due from p on, and the choice fits.
abbrev pub open_to : Job → ℕ → List Row → ℕ → (ℕ → ℕ) → Bool
open_to j p fetched i choice = leb p (due j i) && fits_from j p fetched choice

-- Layers 0 .. n - 1 are tried for all of c chunks, of which those of base are carried from the
-- start.
abbrev pub plan_to : ℕ → (ℕ → ℕ) → (ℕ → (ℕ → ℕ) → Bool) → ℕ → ℕ → ℕ
plan_to c base ok zero = base
plan_to c base ok (suc n) = sweep ok n 0 c (plan_to c base ok n)

-- All layers, from those whole before p on.
unfoldable pub replan : Job → ℕ → List Row → ℕ → ℕ
unfolding fits_from
replan j p fetched = plan_to (chunks j) (layers_carried j fetched) (open_to j p fetched) (layers j)
