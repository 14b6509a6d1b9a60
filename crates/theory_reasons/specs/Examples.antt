-- Theorems. Request 14 by computation: chunks that can begin from one slot, and a base held against
-- all bases kept. Job A's lines stand in crate theory_examples.
use Rattle.std.specs.Prelude.{◌≡◌, refl, [], ◌∷◌}
use Rattle.job.specs.Job.{Job, job_of, size_in}
use Rattle.theory_plan.proofs.Examples.{poor, with_limit}
use Rattle.theory_plan.specs.Plan.{plan}
use Rattle.theory_reasons.specs.Lines.{lines_of, stretch_of}
use Rattle.theory_reasons.specs.Statement.{against, carry, need, short}

-- C 2, L 1, s 1, limit 1, sizes 1 and 1, B = 1, 1: H is 1 and d = 1, 2, so chunk 2 can begin from
-- slot 1, when chunk 1 is due, as chunk 1 can. Both bases are carried, and with layer 1 of chunk 2
-- the slots 1 to 2 need the bytes of both chunks.
abbrev pub shared : Job
shared = job_of (record { chunks = 2; span = 1; delay = 1; limit = 1 }) (1 ∷ 1 ∷ []) [] (1 ∷ 1 ∷ [])

pub shared_lines : lines_of shared (plan shared) (against shared (plan shared)) ≡ short 1 1 1 1 1 2 ∷ short 2 1 1 2 2 3 ∷ []
unfolding plan stretch_of carry need size_in
shared_lines = refl

-- C 3, L 1, s 1, limit 3, bases 1, 1, 2, B = 1, 1, 0: request 9 keeps chunks 1 and 2. Against both,
-- chunk 3 needs 4 where 2 are carried.
pub poor_lines : lines_of poor (plan poor) (against poor (plan poor)) ≡ short 3 0 1 3 2 4 ∷ []
unfolding plan stretch_of carry need size_in
poor_lines = refl

-- With limit 2 chunk 3 alone is kept, and chunks 1 and 2 are each held against it alone.
pub limit_2_lines :
    let j = with_limit 2 in
    lines_of j (plan j) (against j (plan j)) ≡ short 1 0 1 3 2 3 ∷ short 2 0 1 3 2 3 ∷ []
unfolding plan stretch_of carry need size_in
limit_2_lines = refl
