-- Lemmas. A mark for each chunk out of the tables of a decision: the one that stands with it, or
-- another. The plan's own marks have 0 for a chunk that is not kept, those of a plan made afresh
-- what is whole of it. Assumes nothing.
use Rattle.std.specs.Prelude.{◌≡◌, refl, Bool, true, false, cond, List, [], ◌∷◌, map, ℕ, zero, suc, ◌+◌, ◌≤◌, ◌<◌, eqb, leb}
use Rattle.std.proofs.Common.{⊎_elim, arith, leb→le, eq-eqb, ne_eqb}
use Rattle.std.proofs.Math.Dec.{nleb→lt}
use Rattle.theory_basics.specs.lemmas.Tests.{test}
use Rattle.theory_plan.specs.Plan.{picked}
use Rattle.theory_plan.specs.lemmas.Kept.{picked_asc}
use Rattle.theory_plan.specs.Bases.{Asc}

-- The mark that stands with chunk i, or w.
abbrev pub mark_or : ℕ → ℕ → List ℕ → List ℕ → ℕ
mark_or w i [] ms = w
mark_or w i (k ∷ ks) [] = w
mark_or w i (k ∷ ks) (m ∷ ms) = cond (eqb k i) m (mark_or w i ks ms)

-- Chunks that stand above chunk m leave it w.
pub asc_none : (w lo hi m : ℕ) (ks ms : List ℕ) → Asc lo hi ks → m < lo → mark_or w m ks ms ≡ w
asc_none w lo hi m [] ms a h = refl
asc_none w lo hi m (k ∷ ks) [] a h = refl
asc_none w lo hi m (k ∷ ks) (x ∷ ms) a h = rw (ne_eqb k m (λ e. omega arith)) (asc_none w (suc k) hi m ks ms a.2 (omega arith))

-- The marks of the chunks that pass a test.
pub mark_picked : (w : ℕ) (q : ℕ → Bool) (g : ℕ → ℕ) (lo n i : ℕ) → lo < i → i ≤ n + lo → mark_or w i (picked q lo n) (map g (picked q lo n)) ≡ cond (q i) (g i) w
mark_picked w q g lo zero i u v = absurd (omega arith)
mark_picked w q g lo (suc n) i u v =
    ⊎_elim
    (λ t.
    let e : i ≡ suc lo = omega (arith, leb→le i (suc lo) t) in
    rw e (here (q (suc lo))))
    (λ t. let x = nleb→lt i (suc lo) t in there (q (suc lo)) x (mark_picked w q g (suc lo) n i x (omega arith)))
    (test (leb i (suc lo)))
  where
    here : (b : Bool) → mark_or w (suc lo) (cond b (suc lo ∷ picked q (suc lo) n) (picked q (suc lo) n)) (map g (cond b (suc lo ∷ picked q (suc lo) n) (picked q (suc lo) n))) ≡ cond b (g (suc lo)) w
    here true = rw (eq-eqb (suc lo) (suc lo) refl)
    here false = asc_none w (suc (suc lo)) (n + suc lo) (suc lo) (picked q (suc lo) n) (map g (picked q (suc lo) n)) (picked_asc q (suc lo) n (n + suc lo) (omega arith)) (omega arith)

    there : (b : Bool) → suc lo < i → mark_or w i (picked q (suc lo) n) (map g (picked q (suc lo) n)) ≡ cond (q i) (g i) w → mark_or w i (cond b (suc lo ∷ picked q (suc lo) n) (picked q (suc lo) n)) (map g (cond b (suc lo ∷ picked q (suc lo) n) (picked q (suc lo) n))) ≡ cond (q i) (g i) w
    there true x e = rw (ne_eqb (suc lo) i (λ z. omega arith)) e
    there false x e = e
