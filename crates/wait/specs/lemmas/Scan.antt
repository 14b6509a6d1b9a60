-- Lemmas. The base pass of theory_plan's Trials for chunks that must all be kept: from the last
-- chunk down, a stack of needs, one test a chunk. And what the forecast brings up to each slot,
-- which serves every s.
use Rattle.std.specs.Prelude.{ℕ, zero, suc, ◌-◌, ◌≤◌, ◌/◌, ◌≡◌, refl, Bool, true, ◌&&◌, List, [], ◌∷◌, ◌↔◌, get_or, drop, T, leb}
use Rattle.std.proofs.Common.{sym, ap, ◌∙◌, subst, ⊎_elim, arith, get_or-take, leb→le}
use Rattle.std.proofs.Math.Path.{fun_ext}
use Rattle.std.proofs.Math.Dec.{nleb→lt}
use Rattle.theory_basics.specs.Sums.{pre}
use Rattle.theory_basics.specs.lemmas.Ranges.{pre_cong, pre_mono}
use Rattle.theory_basics.specs.lemmas.Tests.{T_and, and_T, test, tests}
use Rattle.job.specs.Job.{due, due_slot, forecast, held_most, last_due, size_in}
use Rattle.theory_plan.specs.Plan.{after}
use Rattle.theory_plan.specs.lemmas.Feasible.{need_of}
use Rattle.theory_plan.specs.lemmas.Linear.{needs_at, needs_of_lem}
use Rattle.theory_plan.specs.lemmas.Need.{Feas}
use Rattle.theory_plan.specs.lemmas.Trials.{candidate, keeps}
use Rattle.wait.specs.Wait.{Film, job_at, programme_at}
use Rattle.wait.specs.lemmas.Bases.{from}
use Rattle.theory_plan.proofs.AllBases.{AllFit}

-- ---- one pass

-- s: the base's bytes of a chunk; d: its due slot; A t: what is forecast after slot t.
module _ (s d A : ℕ → ℕ) where
  -- The needs of the chunks lo + m down to lo + 1, all kept; that of chunk lo + 1 stands in front.
  abbrev pub needs_from : ℕ → ℕ → List ℕ
  needs_from lo zero = []
  needs_from lo (suc m) = let ns = needs_from (suc lo) m in candidate s d A ns (suc lo) ∷ ns

  -- Each of them is kept.
  abbrev pub keeps_all : ℕ → ℕ → ℕ → Bool
  keeps_all h lo zero = true
  keeps_all h lo (suc m) = keeps_all h (suc lo) m && keeps s d A h (needs_from (suc lo) m) (suc lo)

  needs_from_are : (lo m : ℕ) → needs_from lo m ≡ needs_of_lem s d A (from lo m)
  needs_from_are lo zero = refl
  needs_from_are lo (suc m) =
      let r = needs_from_are (suc lo) m in
      let e = needs_at s d A (from (suc lo) m) 0 in
      let g : get_or (needs_from (suc lo) m) 0 0 ≡ need_of s d A (from (suc lo) m) = rw r e in
      let c : candidate s d A (needs_from (suc lo) m) (suc lo) ≡ need_of s d A (suc lo ∷ from (suc lo) m) = omega arith in
      subst (λ (n : ℕ). n ∷ needs_from (suc lo) m ≡ need_of s d A (suc lo ∷ from (suc lo) m) ∷ needs_of_lem s d A (from (suc lo) m)) (sym c)
      (ap (λ (ns : List ℕ). need_of s d A (suc lo ∷ from (suc lo) m) ∷ ns) r)

  -- All are kept exactly if they fit.
  keeps_all_iff : (h lo m : ℕ) → T (keeps_all h lo m) ↔ Feas s d A h (from lo m)
  keeps_all_iff h lo zero = (λ t. record { whole = omega arith; tails = tt }, λ f. tt)
  keeps_all_iff h lo (suc m) =
      let r = keeps_all_iff h (suc lo) m in
      let ns = needs_from (suc lo) m in
      let ks = from (suc lo) m in
      let all = needs_from_are lo (suc m) in
      let front : get_or (needs_from lo (suc m)) 0 0 ≡ need_of s d A (suc lo ∷ ks) = ap (λ (l : List ℕ). get_or l 0 0) all ∙ needs_at s d A (suc lo ∷ ks) 0 in
      let behind : get_or (needs_from lo (suc m)) h 0 ≡ need_of s d A (drop h (suc lo ∷ ks)) = ap (λ (l : List ℕ). get_or l h 0) all ∙ needs_at s d A (suc lo ∷ ks) h in (
        λ t.
            let u = and_T (keeps_all h (suc lo) m) (keeps s d A h ns (suc lo)) t in
            let v = simp tests at u.1 in
            record { whole = omega (arith, v.0, front); tails = (omega (arith, v.1, behind), (r.0 u.0).tails) },
        λ f.
            T_and (keeps_all h (suc lo) m) (keeps s d A h ns (suc lo))
            (r.1 (record { whole = omega (arith, f.whole); tails = f.tails.1 }))
            (simp tests (omega (arith, f.whole, front), omega (arith, f.tails.0, behind))),
      )

-- ---- one table for every s

-- What a forecast brings in the slots 1 to t.
abbrev pub brought : List ℕ → ℕ → ℕ
brought f t = pre (λ t. get_or f (t - 1) 0) t

-- What comes after slot t of the job with s.
abbrev pub left : Film → ℕ → ℕ → ℕ
left w s t = brought w.forecast (last_due (programme_at w s)) - brought w.forecast t

job_brought : (w : Film) (s t : ℕ) → t ≤ last_due (programme_at w s) → pre (forecast (job_at w s)) t ≡ brought w.forecast t
job_brought w s t h =
    pre_cong (forecast (job_at w s)) (λ t. get_or w.forecast (t - 1) 0) t (λ k u v.
    get_or-take (last_due (programme_at w s)) w.forecast (k - 1) 0 (omega arith))

-- It is what the theory calls `after`, for every t: past the last slot both are 0.
after_at : (w : Film) (s t : ℕ) → after (job_at w s) t ≡ left w s t
after_at w s t =
    let n : ℕ = last_due (programme_at w s) in
    let e : pre (forecast (job_at w s)) n ≡ brought w.forecast n = job_brought w s n (omega arith) in
    ⊎_elim
    (λ u. omega (arith, e, job_brought w s t (leb→le t n u)))
    (λ u.
    let l : n ≤ t = omega (arith, nleb→lt t n u) in
    omega (arith, e, pre_mono (forecast (job_at w s)) n t l, pre_mono (λ t. get_or w.forecast (t - 1) 0) n t l))
    (test (leb t n))

-- The bases of all chunks are kept in the job with s: one pass over the chunks.
unfoldable pub kept_with : Film → ℕ → Bool
kept_with w s = keeps_all (λ k. size_in w.sizes w.overrides k 0) (due_slot (programme_at w s)) (left w s) (w.limit / w.span) 0 w.chunks

pub kept_with_iff : (w : Film) (s : ℕ) → T (kept_with w s) ↔ AllFit (job_at w s)
unfolding kept_with
kept_with_iff w s =
    let j = job_at w s in
    let base : ℕ → ℕ = λ k. size_in w.sizes w.overrides k 0 in
    let k = keeps_all_iff base (due j) (left w s) (held_most j) 0 w.chunks in
    let e : after j ≡ left w s = fun_ext (λ x. after_at w s x) in
    let fit : (ℕ → ℕ) → Type 0 = λ A. Feas base (due j) A (held_most j) (from 0 w.chunks) in
    (λ u. subst fit (sym e) (k.0 u), λ f. k.1 (subst fit e f))
