-- Theorems. Document 01, "Link meter": "It keeps the last ten samples", of a meter from its first
-- sample on.
use Rattle.std.specs.Prelude.{◌≡◌, refl, List, [], ◌∷◌, ◌++◌, ◌↔◌}
use Rattle.std.proofs.Common.{sym, ap, subst, ◌∙◌, append_assoc, append-nil, arith}
use Rattle.theory_basics.specs.Tests.{All}
use Rattle.meter.specs.declared.Meter.{Meter}
use Rattle.meter.specs.Meter.{Sample, samples_of, empty, SampleInRange, Rising, last_ten, take_refusal, taken}
use Rattle.meter.proofs.Promises.{taken_iff, taken_samples}
use Rattle.meter.specs.lemmas.LastTen.{last_slot_ten, last_ten_snoc}
use Rattle.meter.specs.lemmas.Order.{Fine, fine_snoc, last_ten_in_order}

-- The meter after samples that are handed to it one after the other.
abbrev pub after_all : Meter → List Sample → Meter
after_all m [] = m
after_all m (x ∷ xs) = after_all (taken m x.slot x.bytes).meter xs

-- None of them is refused.
abbrev pub AllTaken : Meter → List Sample → Type 0
AllTaken m [] = Unit {0}
AllTaken m (x ∷ xs) = ((taken m x.slot x.bytes).code ≡ 0) × AllTaken (taken m x.slot x.bytes).meter xs

code_is : (m : Meter) (x : Sample) → (taken m x.slot x.bytes).code ≡ take_refusal (samples_of m) x
unfolding taken
code_is m x = refl

-- A meter that keeps the last ten of l, with more samples.
next_kept :
    (m : Meter) (l : List Sample) (x : Sample) → samples_of m ≡ last_ten l → (taken m x.slot x.bytes).code ≡ 0 →
    samples_of (taken m x.slot x.bytes).meter ≡ last_ten (l ++ (x ∷ []))
next_kept m l x e z =
    taken_samples m x.slot x.bytes (sym (code_is m x) ∙ z) ∙ ap (λ (k : List Sample). last_ten (k ++ (x ∷ []))) e ∙ last_ten_snoc l x

kept_more : (m : Meter) (l xs : List Sample) → samples_of m ≡ last_ten l → AllTaken m xs → samples_of (after_all m xs) ≡ last_ten (l ++ xs)
kept_more m l [] e a = e ∙ ap last_ten (sym (append-nil l))
kept_more m l (x ∷ xs) e a =
    kept_more (taken m x.slot x.bytes).meter (l ++ (x ∷ [])) xs (next_kept m l x e a.0) a.1
    ∙ ap last_ten (append_assoc l (x ∷ []) xs)

-- It takes x exactly if l with x is in range and rising.
takes_one : (m : Meter) (l : List Sample) (x : Sample) → samples_of m ≡ last_ten l → Fine l → ((taken m x.slot x.bytes).code ≡ 0) ↔ Fine (l ++ (x ∷ []))
takes_one m l x e f =
    let say = taken_iff (last_ten l) x in
    let is : take_refusal (samples_of m) x ≡ take_refusal (last_ten l) x = ap (λ (k : List Sample). take_refusal k x) e in
    let same = last_slot_ten l in (
      λ z. let u = say.0 (sym is ∙ sym (code_is m x) ∙ z) in (fine_snoc l x).1 (f, (u.0, omega (arith, u.1.1))),
      λ g. let u = (fine_snoc l x).0 g in code_is m x ∙ is ∙ say.1 (u.1.0, (last_ten_in_order l f, omega (arith, u.1.1))),
    )

fine_front : (l xs : List Sample) → Fine (l ++ xs) → Fine l
fine_front l [] f = subst Fine (append-nil l) f
fine_front l (x ∷ xs) f = ((fine_snoc l x).0 (fine_front (l ++ (x ∷ [])) xs (subst Fine (sym (append_assoc l (x ∷ []) xs)) f))).0

takes_more : (m : Meter) (l xs : List Sample) → samples_of m ≡ last_ten l → Fine l → AllTaken m xs ↔ Fine (l ++ xs)
takes_more m l [] e f = (λ t. subst Fine (sym (append-nil l)) f, λ t. tt)
takes_more m l (x ∷ xs) e f =
    let m' = (taken m x.slot x.bytes).meter in
    let one = takes_one m l x e f in
    let more : (taken m x.slot x.bytes).code ≡ 0 → AllTaken m' xs ↔ Fine ((l ++ (x ∷ [])) ++ xs) =
    λ z. takes_more m' (l ++ (x ∷ [])) xs (next_kept m l x e z) (one.0 z) in
    let same = append_assoc l (x ∷ []) xs in (
      λ a. subst Fine same ((more a.0).0 a.1),
      λ g.
          let h = subst Fine (sym same) g in
          let z = one.1 (fine_front (l ++ (x ∷ [])) xs h) in
          (z, (more z).1 h),
    )

-- "It keeps the last ten samples": of the samples x₁ .. xₙ handed to the new meter one after the
-- other and all taken, it keeps the last ten, in their order; all, if there are no more.
pub keeps_last_ten : (xs : List Sample) → AllTaken empty xs → samples_of (after_all empty xs) ≡ last_ten xs
keeps_last_ten xs a = kept_more empty [] xs refl a

-- All are taken exactly if each is in range and their slots rise.
pub all_taken_iff : (xs : List Sample) → AllTaken empty xs ↔ (All SampleInRange xs × Rising 0 xs)
all_taken_iff xs =
    let t = takes_more empty [] xs refl (record { each = tt; rises = tt }) in
    (λ a. let f = t.0 a in (f.each, f.rises), λ g. t.1 (record { each = g.0; rises = g.1 }))
