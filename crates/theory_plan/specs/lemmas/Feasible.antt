-- Lemmas. Whether chunks fit, computed from their bytes, due slots and the forecast, without a
-- list. Nobody has to read or believe this: that a choice fits exactly if some list carries it is a
-- theorem (Theorems, `decision`; crate theory_replan, `decision_from`).
use Rattle.std.specs.Prelude.{ℕ, ◌+◌, ◌-◌, max, Bool, true, ◌&&◌, List, [], ◌∷◌, drop, leb}

-- Throughout, w k are the bytes of chunk k, d k its due slot, A t what is forecast after slot t,
-- and h how many chunks may be held.

-- How much of the forecast, counted from its end, the chunks use up.
abbrev pub need_of : (w d A : ℕ → ℕ) → List ℕ → ℕ
need_of w d A [] = 0
need_of w d A (k ∷ ks) = w k + max (A (d k)) (need_of w d A ks)

-- For each chunk, those from h places behind it on fit into the slots from its due slot on.
abbrev pub tails : (w d A : ℕ → ℕ) (h : ℕ) → List ℕ → Bool
tails w d A h [] = true
tails w d A h (k ∷ ks) = leb (need_of w d A (drop h (k ∷ ks))) (A (d k - 1)) && tails w d A h ks

-- The chunks fit: all of them into the whole forecast, and each behind the chunk that must be gone
-- when it begins.
unfoldable pub feas : (w d A : ℕ → ℕ) (h : ℕ) → List ℕ → Bool
feas w d A h ks = leb (need_of w d A ks) (A 0) && tails w d A h ks
