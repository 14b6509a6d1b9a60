-- Meaning, then its theorem. How every call answers a caller in C or Rust: one 64-bit number, the
-- result, which is below 2^32, or 2^32 and the refusal's number more. Whatever else a call hands
-- over stands in lent slices, the result and then the old contents; on a refusal they keep their
-- bytes (theory_basics, Lent).
use Rattle.std.specs.Prelude.{ℕ, ◌+◌, ◌-◌, ◌≤◌, ◌<◌, ◌≡◌, cond, List, eqb}
use Rattle.std.proofs.Common.{arith, eqb→eq}
use Rattle.theory_basics.specs.lemmas.Tests.{by_cond}
use Rattle.job.specs.Input.{JobInput, job_input}

unfoldable pub answered : ℕ → ℕ → ℕ
answered refused result = cond (eqb refused 0) result (4294967296 + refused)

-- The refusal that a caller reads off an answer, 0 for a result: the header's film_refused.
abbrev pub refusal_in : ℕ → ℕ
refusal_in answer = answer - 4294967296

-- A job as numbers and slices.
abbrev pub film : (chunks span delay limit : ℕ) (sizes size_chunks size_layers size_bytes forecast : List ℕ) → JobInput
film chunks span delay limit sizes cs ls bs forecast =
    job_input (record { chunks = chunks; span = span; delay = delay; limit = limit }) sizes cs ls bs forecast

-- "no result can be mistaken for" a refusal: whatever a call answers, the refusal read off it is
-- the call's, if what it answers where it refuses nothing is below 2^32. That it is stands in
-- Theorems, call by call.
pub never_mistaken : (refused result most : ℕ) → most < 4294967296 → (refused ≡ 0 → result ≤ most) → refusal_in (answered refused result) ≡ refused
unfolding answered
never_mistaken refused result most small h =
    by_cond (λ (r : ℕ). refusal_in r ≡ refused) (eqb refused 0) (λ t. let e = eqb→eq refused 0 t in omega (arith, e, h e)) (λ t. omega arith)
