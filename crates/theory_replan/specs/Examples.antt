-- Theorems. Job A of document 01 planned afresh, by computation: the standing plan goes on; a
-- weaker forecast gives up the last chunk; a begun base that is given up stays spent, and its chunk
-- is held to its due slot; each refusal.
use Rattle.std.specs.Prelude.{ℕ, ◌≡◌, refl, List, [], ◌∷◌, ◌++◌}
use Rattle.job.specs.Job.{Job, size_in}
use Rattle.fetch.specs.Rows.{Row}
use Rattle.fetch.specs.VerdictFrom.{slot_refusal, verdict_from}
use Rattle.theory_plan.proofs.Examples.{poor}
use Rattle.theory_plan.specs.Plan.{plan}
use Rattle.theory_plan.specs.lemmas.Feasible.{feas}
use Rattle.theory_plan.specs.Statement.{marks_of}
use Rattle.theory_replan.specs.Own.{own_rest}
use Rattle.theory_replan.specs.Plan.{fits_from, replan}
use Rattle.theory_replan.specs.Refusal.{replan_refusal}
use Rattle.theory_replan.specs.Statement.{joined}

abbrev A : Job
A = record { programme = record { chunks = 3; span = 2; delay = 2; limit = 2 }; sizes = 2 ∷ 1 ∷ []; overrides = []; forecast = 3 ∷ 0 ∷ 1 ∷ 0 ∷ 2 ∷ 0 ∷ [] }

abbrev row : ℕ → ℕ → ℕ → ℕ → Row
row t i n b = record { slot = t; chunk = i; layer = n; bytes = b }

-- The standing plan's rows before slot 3.
abbrev begun : List Row
begun = row 1 2 0 2 ∷ row 1 2 1 1 ∷ []

same_accepted : replan_refusal A 3 begun (1 ∷ 0 ∷ 2 ∷ 0 ∷ []) ≡ 0
unfolding replan_refusal size_in
same_accepted = refl

same_marks : let k = joined A 3 (1 ∷ 0 ∷ 2 ∷ 0 ∷ []) in marks_of k (replan k 3 begun) ≡ 0 ∷ 3 ∷ 1 ∷ []
unfolding replan fits_from feas size_in
same_marks = refl

same_rest : let k = joined A 3 (1 ∷ 0 ∷ 2 ∷ 0 ∷ []) in own_rest k 3 begun (replan k 3 begun) ≡ row 5 3 0 2 ∷ []
unfolding replan fits_from feas size_in own_rest
same_rest = refl

-- With one byte less in slot 5.
weaker_marks : let k = joined A 3 (1 ∷ 0 ∷ 1 ∷ 0 ∷ []) in marks_of k (replan k 3 begun) ≡ 0 ∷ 3 ∷ 0 ∷ []
unfolding replan fits_from feas size_in
weaker_marks = refl

-- Half of the first base was fetched in slot 1; slot 2 brings nothing.
abbrev half : List Row
half = row 1 1 0 1 ∷ []

given_up_marks : let k = joined A 2 (0 ∷ 1 ∷ 0 ∷ 2 ∷ 0 ∷ []) in marks_of k (replan k 2 half) ≡ 0 ∷ 0 ∷ 3 ∷ []
unfolding replan fits_from feas size_in
given_up_marks = refl

given_up_rest : let k = joined A 2 (0 ∷ 1 ∷ 0 ∷ 2 ∷ 0 ∷ []) in own_rest k 2 half (replan k 2 half) ≡ row 3 3 0 1 ∷ row 5 3 0 1 ∷ row 5 3 1 1 ∷ []
unfolding replan fits_from feas size_in own_rest
given_up_rest = refl

given_up_passes : verdict_from A 2 (0 ∷ 0 ∷ 3 ∷ []) (half ++ (row 3 3 0 1 ∷ row 5 3 0 1 ∷ row 5 3 1 1 ∷ [])) ≡ 0
unfolding verdict_from size_in
given_up_passes = refl

-- The first call does not allow the short sum, and the second none with a row from p on.
short_fails : verdict_from A 1 (0 ∷ 0 ∷ 3 ∷ []) (half ++ (row 3 3 0 1 ∷ row 5 3 0 1 ∷ row 5 3 1 1 ∷ [])) ≡ 2
unfolding verdict_from size_in
short_fails = refl

late_row : replan_refusal A 3 (row 3 2 0 1 ∷ []) (1 ∷ 0 ∷ 2 ∷ 0 ∷ []) ≡ 21
unfolding replan_refusal size_in
late_row = refl

wrong_slots : replan_refusal A 3 begun (1 ∷ 0 ∷ 2 ∷ []) ≡ 7
unfolding replan_refusal size_in
wrong_slots = refl

too_much : replan_refusal A 3 (row 1 2 0 3 ∷ []) (1 ∷ 0 ∷ 2 ∷ 0 ∷ []) ≡ 22
unfolding replan_refusal size_in
too_much = refl

-- p is asked before the rows, and 21 before 7 and 22.
slots : let f = A.programme in (slot_refusal f 0 ≡ 21) × ((slot_refusal f 6 ≡ 0) × (slot_refusal f 7 ≡ 21))
slots = (refl, (refl, refl))

late_and_wrong : replan_refusal A 3 (row 3 2 0 9 ∷ []) [] ≡ 21
unfolding replan_refusal size_in
late_and_wrong = refl

-- C 2, L 1, s 2, limit 2, size 1, B = 1, 1, 1, replanned at 2 with chunk 2 fetched in slot 1: chunk
-- 1 plays before it and was not begun, so no list in playing order carries it any more.
abbrev Two : Job
Two = record { programme = record { chunks = 2; span = 1; delay = 2; limit = 2 }; sizes = 1 ∷ []; overrides = []; forecast = 1 ∷ 1 ∷ 1 ∷ [] }

passed_by : let k = joined Two 2 (1 ∷ 1 ∷ []) in marks_of k (replan k 2 (row 1 2 0 1 ∷ [])) ≡ 0 ∷ 1 ∷ []
unfolding replan fits_from feas size_in
passed_by = refl

-- Where request 9 settled the bases, planning afresh on an unchanged forecast can drop a picture
-- that it saved: theory_plan's example, at p = 1.
afresh_is_poor : let k = joined poor 1 (1 ∷ 1 ∷ 0 ∷ []) in (marks_of poor (plan poor) ≡ 1 ∷ 1 ∷ 0 ∷ []) × (marks_of k (replan k 1 []) ≡ 0 ∷ 0 ∷ 1 ∷ [])
unfolding plan replan fits_from feas size_in
afresh_is_poor = (refl, refl)
