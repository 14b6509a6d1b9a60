-- Refusal 18 one SZ at a time, over plain lists. Assumes nothing.
use Prim.Native.Nat.{ℕ, ◌+◌, ◌≤◌, ◌<◌, min}
use mathlib.Core.Path.{◌≡◌, sym, ap, ◌∙◌}
use mathlib.Core.Bool.{Bool, true, false, ◌&&◌}
use mathlib.Core.List.{List}
use lib.ListN.{length, get_or}
use Rattle.job.specs.declared.Programme.{Programme}
use Rattle.job.specs.Job.{Override}
use Rattle.theory_basics.specs.Refusals.{unless}
use Rattle.job.specs.Refusal.{named, sized, comes, overrides_refusal}
use Rattle.job.specs.Input.{overrides_of}
use Rattle.job.specs.lemmas.Run.{runs, runs_all, from, from_end, from_more}

-- ---- refusal 18

-- No refusal up to place i, where the SZ before is layer l of chunk c.
abbrev pub Clean : Programme → List ℕ → List ℕ → List ℕ → List ℕ → ℕ → ℕ → ℕ → Type 0
Clean p sizes cs ls bs c l i = runs p sizes 0 0 (from 0 cs ls bs) ≡ runs p sizes c l (from i cs ls bs)

module _ (p : Programme) (sizes : List ℕ) (cs ls bs : List ℕ) (c l i : ℕ) where
  -- The SZ at place i, and its test.
  abbrev pub here : Override
  here = record { chunk = get_or cs i 0; layer = get_or ls i 0; bytes = get_or bs i 0 }

  abbrev pub fits : Bool
  fits = (named p sizes here && sized here) && comes c l (get_or cs i 0) (get_or ls i 0)

  step : (z b : Bool) → z ≡ fits → z ≡ b → i < min (length cs) (min (length ls) (length bs)) → runs p sizes c l (from i cs ls bs) ≡ (b && runs p sizes (get_or cs i 0) (get_or ls i 0) (from (i + 1) cs ls bs))
  step z b e eb h = rw (from_more i cs ls bs h, ← e, eb)

  whole : (b : Bool) → runs p sizes 0 0 (from 0 cs ls bs) ≡ b → overrides_refusal p sizes (overrides_of cs ls bs) ≡ unless 18 b
  whole b e = ap (unless 18) (sym (runs_all p sizes (overrides_of cs ls bs)) ∙ e)

  pub run_on : (z : Bool) → z ≡ fits → z ≡ true → i < min (length cs) (min (length ls) (length bs)) → Clean p sizes cs ls bs c l i → Clean p sizes cs ls bs (get_or cs i 0) (get_or ls i 0) (i + 1)
  run_on z e t h r = r ∙ step z true e t h

  pub run_stop : (z : Bool) → z ≡ fits → z ≡ false → i < min (length cs) (min (length ls) (length bs)) → Clean p sizes cs ls bs c l i → 18 ≡ overrides_refusal p sizes (overrides_of cs ls bs)
  run_stop z e t h r = sym (whole false (r ∙ step z false e t h))

  pub run_end : min (length cs) (min (length ls) (length bs)) ≤ i → Clean p sizes cs ls bs c l i → 0 ≡ overrides_refusal p sizes (overrides_of cs ls bs)
  run_end h r = sym (whole true (r ∙ rw (from_end i cs ls bs h)))
