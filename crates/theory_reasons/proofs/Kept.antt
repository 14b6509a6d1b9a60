-- Lemmas. Need by the places of the kept chunks: a sum over them, each with the slot from which it
-- can begin.
use Rattle.std.specs.Prelude.{ℕ, zero, suc, ◌+◌, ◌-◌, ◌≤◌, ◌<◌, ◌≡◌, refl, Bool, cond, ◌&&◌, List, [], ◌∷◌, leb, ltb, length, get_or}
use Rattle.std.proofs.Common.{ap, ◌∙◌, arith, length-append}
use Rattle.std.proofs.lemmas.List.{length-map, length-replicate}
use Rattle.theory_basics.specs.Sums.{sum}
use Rattle.theory_basics.specs.lemmas.Ranges.{sum_cong}
use Rattle.job.specs.Job.{Job, due, held_most}
use Rattle.theory_plan.specs.Plan.{bytes, kept}
use Rattle.theory_plan.specs.lemmas.Queue.{release_at}
use Rattle.theory_reasons.specs.Statement.{begin_slots, bytes_needed, need}

-- How many chunks a choice keeps, and the m-th of them in playing order, counted from 0.
abbrev pub kept_count : Job → (ℕ → ℕ) → ℕ
kept_count j choice = length (kept j choice)

abbrev pub kept_chunk : Job → (ℕ → ℕ) → ℕ → ℕ
kept_chunk j choice m = get_or (kept j choice) m 0

-- The slot from which it can begin.
abbrev pub can_begin : Job → (ℕ → ℕ) → ℕ → ℕ
can_begin j choice m = cond (ltb m (held_most j)) 1 (due j (kept_chunk j choice (m - held_most j)))

-- It can't begin before slot a and is due by slot b.
abbrev pub between : Job → (ℕ → ℕ) → ℕ → ℕ → ℕ → Bool
between j choice a b m = leb a (can_begin j choice m) && leb (due j (kept_chunk j choice m)) b

-- ---- the slots from which they can begin, by place

begin_at : (j : Job) (ks : List ℕ) (q : ℕ) → q < length ks → get_or (begin_slots j ks) q 0 ≡ cond (ltb q (held_most j)) 1 (due j (get_or ks (q - held_most j) 0))
begin_at j ks q l = release_at (due j) (held_most j) ks q l

-- ---- need as a sum

pub sum_front : (f : ℕ → ℕ) (n : ℕ) → sum f (suc n) ≡ f 0 + sum (λ q. f (suc q)) n
sum_front f zero = omega arith
sum_front f (suc n) = omega (arith, sum_front f n)

needed_sum :
    (j : Job) (choice : ℕ → ℕ) (a b : ℕ) (ss ks : List ℕ) → length ks ≤ length ss →
    bytes_needed j choice a b ss ks
    ≡ sum (λ m. cond (leb a (get_or ss m 0) && leb (due j (get_or ks m 0)) b) (bytes j choice (get_or ks m 0)) 0) (length ks)
needed_sum j choice a b ss [] h = refl
needed_sum j choice a b [] (k ∷ ks) h = absurd (omega arith)
needed_sum j choice a b (s ∷ ss) (k ∷ ks) h =
    omega (
      arith,
      needed_sum j choice a b ss ks (omega arith),
      sum_front (λ m. cond (leb a (get_or (s ∷ ss) m 0) && leb (due j (get_or (k ∷ ks) m 0)) b) (bytes j choice (get_or (k ∷ ks) m 0)) 0) (length ks),
    )

pub need_sum :
    (j : Job) (choice : ℕ → ℕ) (a b : ℕ) →
    need j choice a b ≡ sum (λ m. cond (between j choice a b m) (bytes j choice (kept_chunk j choice m)) 0) (kept_count j choice)
unfolding need
need_sum j choice a b =
    let ks = kept j choice in
    let long : length ks ≤ length (begin_slots j ks) = rw (length-append, length-map) (omega arith) in
    needed_sum j choice a b (begin_slots j ks) ks long
    ∙ sum_cong _ _ (length ks) (λ m h. ap (λ (s : ℕ). cond (leb a s && leb (due j (get_or ks m 0)) b) (bytes j choice (get_or ks m 0)) 0) (begin_at j ks m h))
