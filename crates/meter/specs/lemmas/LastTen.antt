-- Lemmas. The last ten of samples that come one by one. Assumes nothing.
use Rattle.std.specs.Prelude.{ℕ, zero, suc, ◌-◌, ◌≤◌, ◌<◌, ◌≡◌, refl, List, [], ◌∷◌, ◌++◌, length, drop, not, T, leb}
use Rattle.std.proofs.Common.{sym, ap, ◌∙◌, ⊎_elim, arith, length-append, length-drop, leb→le}
use Rattle.std.proofs.Math.Dec.{nleb→lt}
use Rattle.theory_basics.specs.lemmas.Tests.{test}
use Rattle.meter.specs.Meter.{Sample, last_sample_slot, last_ten}

drop_snoc : (k : ℕ) (l : List Sample) (x : Sample) → k ≤ length l → drop k (l ++ (x ∷ [])) ≡ drop k l ++ (x ∷ [])
drop_snoc zero l x h = refl
drop_snoc (suc k) [] x h = absurd (omega arith)
drop_snoc (suc k) (y ∷ l) x h = drop_snoc k l x (omega arith)

drop_one : (k : ℕ) (l : List Sample) → drop (suc k) l ≡ drop 1 (drop k l)
drop_one zero l = refl
drop_one (suc k) [] = refl
drop_one (suc k) (y ∷ l) = drop_one k l

-- To know the last ten with one more, the last ten are enough.
pub last_ten_snoc : (l : List Sample) (x : Sample) → last_ten (last_ten l ++ (x ∷ [])) ≡ last_ten (l ++ (x ∷ []))
last_ten_snoc l x = ⊎_elim many few (test (leb 10 (length l))) where
  one : List Sample
  one = x ∷ []

  few : T (not (leb 10 (length l))) → last_ten (last_ten l ++ one) ≡ last_ten (l ++ one)
  few t = let e : length l - 10 ≡ 0 = omega (arith, nleb→lt 10 (length l) t) in ap (λ (n : ℕ). last_ten (drop n l ++ one)) e

  many : T (leb 10 (length l)) → last_ten (last_ten l ++ one) ≡ last_ten (l ++ one)
  many t =
      let h = leb→le 10 (length l) t in
      let a : length (drop (length l - 10) l ++ one) - 10 ≡ 1 = omega (arith, length-append (drop (length l - 10) l) one, length-drop (length l - 10) l) in
      let b : length (l ++ one) - 10 ≡ suc (length l - 10) = omega (arith, length-append l one) in
      ap (λ (n : ℕ). drop n (drop (length l - 10) l ++ one)) a
      ∙ ap (λ (q : List Sample). drop 1 q) (sym (drop_snoc (length l - 10) l x (omega arith)))
      ∙ sym (drop_one (length l - 10) (l ++ one))
      ∙ ap (λ (n : ℕ). drop n (l ++ one)) (sym b)

last_any : (s t : ℕ) (l : List Sample) → 0 < length l → last_sample_slot s l ≡ last_sample_slot t l
last_any s t [] h = absurd (omega arith)
last_any s t (y ∷ l) h = refl

last_slot_drop : (s k : ℕ) (l : List Sample) → k < length l → last_sample_slot s (drop k l) ≡ last_sample_slot s l
last_slot_drop s zero l h = refl
last_slot_drop s (suc k) [] h = absurd (omega arith)
last_slot_drop s (suc k) (y ∷ l) h =
    last_any s y.slot (drop k l) (omega (arith, length-drop k l)) ∙ last_slot_drop y.slot k l (omega arith)

-- The last of the last ten is the last.
pub last_slot_ten : (l : List Sample) → last_sample_slot 0 (last_ten l) ≡ last_sample_slot 0 l
last_slot_ten [] = refl
last_slot_ten (y ∷ l) = last_slot_drop 0 (length (y ∷ l) - 10) (y ∷ l) (omega arith)
