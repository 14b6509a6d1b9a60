-- Theorems. Small waits by computation: a longer wait can be worse, the smallest is found, and 16
-- in its ways; a film with uneven chunks.
use Rattle.std.specs.Prelude.{Ok, Err, ℕ, ◌≡◌, refl, true, false, List, [], ◌∷◌, T}
use Rattle.std.proofs.Common.{subst, sym, arith}
use Rattle.job.specs.Job.{size_in}
use Rattle.theory_plan.specs.Plan.{plan}
use Rattle.wait.specs.Answer.{WaitInput, answer_of, film_in, wait_input, input_refusal, shortest, skips_none, wait_refusal}
use Rattle.wait.specs.Theorems.{input_iff, skips_none_iff}
use Rattle.wait.specs.Wait.{Film, FilmInRange, Works, job_at}

-- One chunk of one slot and one byte, nothing held.
abbrev one : List ℕ → WaitInput
one forecast = wait_input 1 1 0 (1 ∷ []) [] [] [] forecast

abbrev falling : Film
falling = film_in (one (1 ∷ 0 ∷ []))

-- "A longer wait can be worse when the buffer limit binds": on B = 1, 0 the plan with s = 1 skips
-- no base, the one with s = 2 does.
pub longer_skips : (skips_none (job_at falling 1) ≡ true) × (skips_none (job_at falling 2) ≡ false)
unfolding skips_none plan size_in
longer_skips = (refl, refl)

falling_in_range : FilmInRange falling
unfolding input_refusal
falling_in_range = ((input_iff (one (1 ∷ 0 ∷ []))).0 refl).1

pub longer_worse : Works falling 1 × (Works falling 2 → ⊥)
longer_worse = (
  (skips_none_iff falling 1 falling_in_range (record { low = omega arith; reaches = omega arith })).0 (subst T (sym longer_skips.0) tt),
  λ k. subst T longer_skips.1 ((skips_none_iff falling 2 falling_in_range k.tried).1 k),
)

-- The first s, a later one, the last within the forecast, and none.
pub answers :
    (answer_of (one (1 ∷ 0 ∷ [])) ≡ Ok 1) × (answer_of (one (0 ∷ 0 ∷ 1 ∷ 1 ∷ [])) ≡ Ok 3)
    × (answer_of (one (0 ∷ 0 ∷ 1 ∷ [])) ≡ Ok 3) × (answer_of (one (0 ∷ 0 ∷ [])) ≡ Err 16)
unfolding wait_refusal input_refusal shortest skips_none plan size_in
answers = (refl, refl, refl, refl)

-- C 500 and L 60 are in range, and the forecast is too short for s = 1: 16. No slot: 7.
pub refused :
    (answer_of (wait_input 500 60 0 (1 ∷ []) [] [] [] (1 ∷ [])) ≡ Err 16)
    × (answer_of (wait_input 500 60 0 (1 ∷ []) [] [] [] []) ≡ Err 7)
unfolding wait_refusal input_refusal shortest
refused = (refl, refl)

-- Job A without s, on its own forecast: s = 1 skips no base; with s = 2, which is job A, the plan
-- skips chunk 1.
abbrev film_a : WaitInput
film_a = wait_input 3 2 2 (2 ∷ 1 ∷ []) [] [] [] (3 ∷ 0 ∷ 1 ∷ 0 ∷ 2 ∷ 0 ∷ [])

pub A_waits : (answer_of film_a ≡ Ok 1) × (skips_none (job_at (film_in film_a) 2) ≡ false)
unfolding wait_refusal input_refusal shortest skips_none plan size_in
A_waits = (refl, refl)

-- Two chunks of a byte with all held: s = 1 is enough on a byte a slot. With an SZ of three bytes
-- for chunk 2 it takes s = 3, and one of four bytes comes too late for every s.
abbrev smoke : (size_chunks size_layers size_bytes : List ℕ) → WaitInput
smoke cs ls bs = wait_input 2 1 2 (1 ∷ []) cs ls bs (1 ∷ 1 ∷ 1 ∷ 1 ∷ [])

pub uneven_waits :
    (answer_of (smoke [] [] []) ≡ Ok 1) × (answer_of (smoke (2 ∷ []) (0 ∷ []) (3 ∷ [])) ≡ Ok 3)
    × (answer_of (smoke (2 ∷ []) (0 ∷ []) (4 ∷ [])) ≡ Err 16)
unfolding wait_refusal input_refusal shortest skips_none plan size_in
uneven_waits = (refl, refl, refl)

-- 18: an SZ not handed whole, one for chunk 1, one for a layer that is not there, the layer's own
-- size, no byte.
pub uneven_refused :
    (answer_of (smoke (2 ∷ []) [] (3 ∷ [])) ≡ Err 18) × (answer_of (smoke (1 ∷ []) (0 ∷ []) (3 ∷ [])) ≡ Err 18)
    × (answer_of (smoke (2 ∷ []) (1 ∷ []) (3 ∷ [])) ≡ Err 18) × (answer_of (smoke (2 ∷ []) (0 ∷ []) (1 ∷ [])) ≡ Err 18)
    × (answer_of (smoke (2 ∷ []) (0 ∷ []) (0 ∷ [])) ≡ Err 18)
unfolding wait_refusal input_refusal
uneven_refused = (refl, refl, refl, refl, refl)
