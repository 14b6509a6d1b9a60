-- Lemmas. What stands in front of some bytes, by its mark, as the record reader answers it. Assumes
-- nothing.
use Rattle.std.specs.Prelude.{ℕ, ◌+◌, ◌*◌, ◌≤◌, ◌<◌, ◌≡◌, refl, Bool, true, false, ◌&&◌, List, [], ◌∷◌, length, get_or, drop, eqb, Result, Ok, Err}
use Rattle.std.specs.Result.{is_ok}
use Rattle.std.proofs.Common.{◌∙◌, arith, length-drop, drop_of_length-le, eqb→eq, le-leb}
use Rattle.theory_basics.specs.lemmas.Tests.{and_T}
use Rattle.refusals.specs.declared.Refusal.{Refusal}
use Rattle.refusals.specs.Numbers.{refusal_number}
use Rattle.records.specs.Fields.{h_at, w_at, marked}
use Rattle.records.specs.lemmas.Places.{h_on, w_on, mark_on, w_four}
use Rattle.jobrecords.specs.declared.Record.TheVariants.{Bw}
use Rattle.jobrecords.specs.Records.{SZ, BW, override_at, front}
use Rattle.jobrecords.specs.Reader.{read_at}

-- Past the end nothing is left.
pub past_end : (q : Bool) (s : List ℕ) (at : ℕ) → length s < at → Err 1 ≡ read_at q s at
unfolding front
past_end q s at l = rw (drop_of_length-le s {i = at} (omega arith))

-- One mark is no other.
other_mark : (s : List ℕ) (a b c d : ℕ) → marked (a ∷ b ∷ []) s ≡ true → eqb a c ≡ false → marked (c ∷ d ∷ []) s ≡ false
other_mark s a b c d e ne =
    let first : get_or s 0 0 ≡ a = eqb→eq (get_or s 0 0) a (and_T (eqb (get_or s 0 0) a) (eqb (get_or s 1 0) b) (rw e tt)).0 in
    rw (first, ne)

-- A whole run and, where one sequence is asked, a whole SZ, by mark and length.
module _ (s : List ℕ) (at : ℕ) where
  pub run_here :
      (q : Bool) → at + 8 ≤ length s → (eqb (get_or s at 0) 66 && eqb (get_or s (at + 1) 0) 87) ≡ true →
      (n x : ℕ) → n ≡ h_at s (at + 2) → x ≡ get_or s (at + 4) 0 + get_or s (at + 4 + 1) 0 * 256 + (get_or s (at + 4 + 2) 0 + get_or s (at + 4 + 3) 0 * 256) * 65536 →
      Ok (Bw n x, at + 8) ≡ read_at q s at
  unfolding front
  run_here q l m n x u v =
      let rest = drop at s in
      let b : marked BW rest ≡ true = mark_on s at BW ∙ m in
      let two = le-leb 2 (length rest) (omega (arith, length-drop at s)) in
      let long = le-leb 8 (length rest) (omega (arith, length-drop at s)) in
      let count : n ≡ h_at rest 2 = u ∙ h_on s at 2 (at + 2) refl in
      let bytes : x ≡ w_at rest 4 = v ∙ w_four s (at + 4) ∙ w_on s at 4 (at + 4) refl in
      rw (two, other_mark rest 66 87 80 71 b refl, other_mark rest 66 87 76 89 b refl, b, long, count, bytes)

  pub override_here : at + 9 ≤ length s → marked SZ (drop at s) ≡ true → Ok (override_at (drop at s), at + 9) ≡ read_at true s at
  unfolding front
  override_here l z =
      let rest = drop at s in
      let two = le-leb 2 (length rest) (omega (arith, length-drop at s)) in
      let long = le-leb 9 (length rest) (omega (arith, length-drop at s)) in
      rw (two, other_mark rest 83 90 80 71 z refl, other_mark rest 83 90 76 89 z refl, other_mark rest 83 90 66 87 z refl, other_mark rest 83 90 69 78 z refl, z, long)

-- A call that is `Ok` refuses nothing.
pub none_if_ok : {A : Type 0} (r : Result A Refusal) → is_ok r ≡ true → refusal_number r ≡ 0
none_if_ok (Ok x) e = refl
none_if_ok (Err f) e = absurd (let z : ◌≡◌ {A = ℕ} 0 1 = cc in omega arith)
