-- Lemmas. Refusal 18 of SZs that stand in a file, by how many there are and by what was copied of
-- them. Assumes nothing.
use Prim.Native.Nat.{ℕ, ◌+◌, ◌*◌, ◌≤◌}
use mathlib.Core.Path.{◌≡◌, sym, ap, ◌∙◌}
use mathlib.Core.List.{List, map}
use native.Mathlib.Omega.{arith}
use lib.ListN.{length, take, length-map}
use lib.Seq.{take_at}
use Rattle.std.specs.Prelude.{leb}
use Rattle.std.proofs.Math.Dec.{nleb→lt}
use Rattle.refusals.specs.declared.Refusal.{Refusal}
use Rattle.refusals.specs.Numbers.{number_of}
use Rattle.refusals.specs.Laws.{number_above_0}
use Rattle.theory_basics.specs.Refusals.{unless}
use Rattle.theory_basics.specs.lemmas.Tests.{by_cond}
use Rattle.theory_basics.specs.Lent.{over}
use Rattle.theory_basics.specs.lemmas.Lists.{length_up_to}
use Rattle.job.specs.declared.Programme.{Programme}
use Rattle.job.specs.Job.{Override}
use Rattle.job.specs.Refusal.{overrides_refusal}
use Rattle.job.specs.Input.{overrides_of, override_chunks, override_layers, override_bytes}
use Rattle.job.specs.Theorems.{slices_back_lem}
use Rattle.jobrecords.specs.lemmas.Few.{too_many}
use Rattle.jobrecords.specs.lemmas.Reading.{override_on, overrides_on}

module _ (s : List ℕ) (from n : ℕ) where
  pub how_many : length (overrides_on s from n) ≡ n
  how_many = length_up_to (λ k. override_on s (from + 9 * k)) n

  -- What was copied to the start of a buffer.
  front_copied : (g : Override → ℕ) (old t : List ℕ) → t ≡ over (map g (overrides_on s from n)) old → take n t ≡ map g (overrides_on s from n)
  front_copied g old t e = rw e (take_at (map g (overrides_on s from n)) _ n (length-map (overrides_on s from n) g ∙ how_many))

  module _ (p : Programme) (sizes : List ℕ) where
    pub many_uneven : p.chunks ≤ 500 → length sizes ≤ 4 → (e : Refusal) → number_of e ≡ unless 18 (leb n 1996) → number_of e ≡ overrides_refusal p sizes (overrides_on s from n)
    many_uneven c z e is = by_cond (λ (r : ℕ). number_of e ≡ r → number_of e ≡ overrides_refusal p sizes (overrides_on s from n)) (leb n 1996)
        (λ t none. absurd (omega (arith, number_above_0 e)))
        (λ t eighteen. eighteen ∙ sym (too_many p sizes (overrides_on s from n) c z (omega (arith, how_many, nleb→lt n 1996 t)))) is

    pub some_uneven :
        (cs ls bs a b c : List ℕ) → a ≡ over (override_chunks (overrides_on s from n)) cs → b ≡ over (override_layers (overrides_on s from n)) ls → c ≡ over (override_bytes (overrides_on s from n)) bs →
        overrides_refusal p sizes (overrides_of (take n a) (take n b) (take n c)) ≡ overrides_refusal p sizes (overrides_on s from n)
    some_uneven cs ls bs a b c x y z =
        let back : overrides_of (take n a) (take n b) (take n c) ≡ overrides_on s from n = rw (front_copied (λ o. o.chunk) cs a x, front_copied (λ o. o.layer) ls b y, front_copied (λ o. o.bytes) bs c z) (slices_back_lem (overrides_on s from n)) in
        ap (λ (os : List Override). overrides_refusal p sizes os) back
