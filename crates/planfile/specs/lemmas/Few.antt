-- Lemmas. A file has at most as many rows as its bytes have room for: 11 bytes an FT. Assumes
-- nothing.
use Prim.Native.Nat.{ℕ, zero, suc, ◌+◌, ◌*◌, ◌≤◌}
use Rattle.std.specs.Prelude.{◌≡◌, refl, List, leb, length, drop}
use native.Mathlib.Omega.{arith}
use Rattle.std.proofs.Common.{leb→le, length-drop}
use Rattle.theory_basics.specs.Refusals.{unless}
use Rattle.theory_basics.specs.lemmas.Refusals.{or_else_iff, unless_as}
use Rattle.theory_basics.specs.lemmas.Tests.{by_cond, leb_iff}
use Rattle.records.specs.Fields.{marked}
use Rattle.records.specs.File.{Front, Split, file_refusal, got, none, records_refusal, split_by, split_up_to}
use Rattle.planfile.specs.PlanFile.{format, plan_in, rows_in}
use Rattle.planfile.specs.Records.{en, front, ft, kp}
use Rattle.planfile.specs.declared.Record.{Record}
use Rattle.planfile.specs.declared.Record.TheVariants.{Kp, Ft, En}

-- An FT in front of some bytes takes 11 of them.
abbrev Takes : List ℕ → Front Record → Type 0
Takes s (got (Kp chunk marks) n) = Unit {0}
Takes s (got (Ft slot chunk layer bytes) n) = (n ≡ 11) × (11 ≤ length s)
Takes s (got En n) = Unit {0}
Takes s (none n) = Unit {0}

front_takes : (s : List ℕ) → Takes s (front s)
unfolding front
front_takes s =
    by_cond (Takes s) (leb 2 (length s))
    (λ t.
    by_cond (Takes s) (marked kp s)
    (λ u. by_cond (Takes s) (leb 5 (length s)) (λ v. tt) (λ v. tt))
    (λ u.
    by_cond (Takes s) (marked ft s)
    (λ v. by_cond (Takes s) (leb 11 (length s)) (λ w. (refl, leb→le 11 (length s) w)) (λ w. tt))
    (λ v. by_cond (Takes s) (marked en s) (λ w. by_cond (Takes s) (leb 2 (length s)) (λ x. tt) (λ x. tt)) (λ w. tt))))
    (λ t. tt)

abbrev Inside : List ℕ → Split Record → Type 0
Inside s f = 11 * length (rows_in f.records) ≤ length s

module _ (count : ℕ) where
  inside_by : (rest : List ℕ → Split Record) → ((t : List ℕ) → Inside t (rest t)) → (s : List ℕ) (y : Front Record) → Takes s y → Inside s (split_by (format count) rest s y)
  inside_by rest more s (got (Kp chunk marks) n) t = omega (arith, more (drop n s), length-drop n s)
  inside_by rest more s (got (Ft slot chunk layer bytes) n) t = omega (arith, t.0, t.1, more (drop n s), length-drop n s)
  inside_by rest more s (got En n) t = omega arith
  inside_by rest more s (none n) t = omega arith

  inside_step : (k : ℕ) (s : List ℕ) → Inside s (split_up_to (format count) k s)
  unfolding split_up_to
  inside_step zero s = omega arith
  inside_step (suc k) s = inside_by (split_up_to (format count) k) (inside_step k) s (front s) (front_takes s)

  -- A file that is not refused has at most 65,536 bytes.
  pub rows_inside : (file : List ℕ) → file_refusal (format count) file ≡ 0 → 11 * length (plan_in count file).rows ≤ 65536
  unfolding file_refusal plan_in
  rows_inside file e =
      let fine = ((or_else_iff (unless 9 (leb (length file) 65536)) (records_refusal (format count) file)).0 e).0 in
      let short = (unless_as 9 (leb (length file) 65536) (omega arith) (leb_iff (length file) 65536)).0 fine in
      omega (arith, short, inside_step (length file + 1) file)
