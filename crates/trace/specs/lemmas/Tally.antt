-- Lemmas. A table of counts, one for each slot, that stop at a cap, as the code keeps it; and how
-- long a written trace is. Assumes nothing.
use Rattle.std.specs.Prelude.{ℕ, zero, suc, ◌+◌, ◌*◌, ◌/◌, ◌≤◌, ◌<◌, min, ◌≡◌, refl, cond, List, [], ◌∷◌, ◌++◌, length, get_or, set, replicate}
use Rattle.std.proofs.Common.{sym, ap, ◌∙◌, ⊎_elim, arith, length-append, length-set, ext_get_or, get_or-set_same, get_or-set_other, T_not}
use Rattle.std.proofs.lemmas.List.{length-replicate, get_or-replicate}
use Rattle.theory_basics.specs.Lists.{up_to}
use Rattle.theory_basics.specs.lemmas.Lists.{get_d_up_to, length_up_to}
use Rattle.theory_basics.specs.lemmas.Tests.{T_true, not_T_false, test}
use Rattle.theory_basics.specs.Text.{digits}
use Rattle.trace.specs.lemmas.Times.{in_slot_iff}
use Rattle.trace.specs.Trace.{how_many, in_slot, lines_from, lines_bytes, trace_of}

-- ---- counts that stop at a cap

-- One line more in the slot of time t; a time after the last slot changes nothing.
abbrev pub bump : ℕ → List ℕ → ℕ → List ℕ
bump c counts t = set counts (t / 1000) (min c (get_or counts (t / 1000) 0 + 1))

abbrev pub tally : ℕ → List ℕ → List ℕ → List ℕ
tally c counts [] = counts
tally c counts (t ∷ ts) = tally c (bump c counts t) ts

bump_at : (c : ℕ) (counts : List ℕ) (t k : ℕ) → k < length counts → get_or counts k 0 ≤ c
    → get_or (bump c counts t) k 0 ≡ min c (get_or counts k 0 + cond (in_slot (k + 1) t) 1 0)
bump_at c counts t k h l =
    let i = in_slot_iff (k + 1) t (omega arith) in
    ⊎_elim
    (λ u.
    let e : t / 1000 ≡ k = omega (arith, i.0 u) in
    rw (e, T_true (in_slot (k + 1) t) u) (get_or-set_same counts k (min c (get_or counts k 0 + 1)) 0 h))
    (λ u.
    rw (not_T_false (in_slot (k + 1) t) u)
    (get_or-set_other counts (t / 1000) k (min c (get_or counts (t / 1000) 0 + 1)) 0 (λ e. T_not (in_slot (k + 1) t) u (i.1 (omega arith))) ∙ (omega arith)))
    (test (in_slot (k + 1) t))

tally_at : (c : ℕ) (ts counts : List ℕ) (k : ℕ) → k < length counts → get_or counts k 0 ≤ c
    → get_or (tally c counts ts) k 0 ≡ min c (get_or counts k 0 + how_many (in_slot (k + 1)) ts)
tally_at c [] counts k h l = omega arith
tally_at c (t ∷ ts) counts k h l =
    let b = bump_at c counts t k h l in
    let s : length (bump c counts t) ≡ length counts = length-set counts (t / 1000) (min c (get_or counts (t / 1000) 0 + 1)) in
    tally_at c ts (bump c counts t) k (omega arith) (omega arith) ∙ (omega arith)

tally_length : (c : ℕ) (ts counts : List ℕ) → length (tally c counts ts) ≡ length counts
tally_length c [] counts = refl
tally_length c (t ∷ ts) counts = tally_length c ts (bump c counts t) ∙ length-set counts (t / 1000) (min c (get_or counts (t / 1000) 0 + 1))

-- From zeros, each slot's count is that of its lines, stopped at c.
pub tally_counts : (c slots : ℕ) (ts : List ℕ) → tally c (replicate slots 0) ts ≡ up_to (λ k. min c (how_many (in_slot (k + 1)) ts)) slots
tally_counts c slots ts =
    let zeros : List ℕ = replicate slots 0 in
    let n : length zeros ≡ slots = length-replicate slots 0 in
    ext_get_or 0 (tally c zeros ts) (up_to (λ k. min c (how_many (in_slot (k + 1)) ts)) slots)
    (tally_length c ts zeros ∙ n ∙ sym (length_up_to (λ k. min c (how_many (in_slot (k + 1)) ts)) slots))
    (λ k h.
    let l : k < slots = omega (arith, tally_length c ts zeros, n) in
    let z : get_or zeros k 0 ≡ 0 = get_or-replicate slots k 0 0 l in
    tally_at c ts zeros k (omega (arith, n)) (omega arith)
    ∙ ap (λ (x : ℕ). min c (x + how_many (in_slot (k + 1)) ts)) z
    ∙ ap (min c) (omega arith)
    ∙ sym (get_d_up_to (λ k. min c (how_many (in_slot (k + 1)) ts)) slots k 0 l))

-- ---- how long a written trace is

-- For each slot, as many lines as it has, each with its line feed.
abbrev pub width_from : ℕ → List ℕ → ℕ
width_from t [] = 0
width_from t (b ∷ f) = b / 1500 * (length (digits (t * 1000)) + 1) + width_from (suc t) f

bytes_of_repeat : (n : ℕ) (l : List ℕ) (ls : List (List ℕ)) → length (lines_bytes (replicate n l ++ ls)) ≡ n * (length l + 1) + length (lines_bytes ls)
bytes_of_repeat zero l ls = omega arith
bytes_of_repeat (suc n) l ls = omega (arith, length-append l (10 ∷ lines_bytes (replicate n l ++ ls)), bytes_of_repeat n l ls)

bytes_of_width : (t : ℕ) (f : List ℕ) → length (lines_bytes (lines_from t f)) ≡ width_from t f
bytes_of_width t [] = refl
bytes_of_width t (b ∷ f) = bytes_of_repeat (b / 1500) (digits (t * 1000)) (lines_from (suc t) f) ∙ ap (λ (n : ℕ). b / 1500 * (length (digits (t * 1000)) + 1) + n) (bytes_of_width (suc t) f)

pub written_length : (f : List ℕ) → length (trace_of f) ≡ width_from 0 f
unfolding trace_of
written_length f = bytes_of_width 0 f
