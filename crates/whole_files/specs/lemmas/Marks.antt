-- Lemmas. A plan file that is not refused has a mark for each chunk: its records end at EN, where
-- none may lack. Assumes nothing.
use Prim.Native.Nat.{ℕ, zero, suc, ◌+◌, ◌≤◌}
use Rattle.std.specs.Prelude.{◌≡◌, List, leb, eqb, length, drop}
use native.Mathlib.Omega.{arith}
use Rattle.std.proofs.Common.{eqb→eq}
use Rattle.theory_basics.specs.Refusals.{unless}
use Rattle.theory_basics.specs.lemmas.Refusals.{or_else_iff, unless_iff}
use Rattle.theory_basics.specs.lemmas.Tests.{by_cond}
use Rattle.records.specs.Fields.{marked}
use Rattle.records.specs.File.{Front, Split, Stop, broken, ended, file_refusal, first_fault, got, none, records_refusal, split, split_by, split_up_to, stop_refusal}
use Rattle.planfile.specs.PlanFile.{format, lacking, marks_in, plan_in}
use Rattle.planfile.specs.Records.{en, front, ft, kp}
use Rattle.planfile.specs.declared.Record.{Record}
use Rattle.planfile.specs.declared.Record.TheVariants.{Kp, Ft, En}

-- Where no record stands the refusal has a number.
abbrev Numbered : Front Record → Type 0
Numbered (got r n) = Unit {0}
Numbered (none n) = 1 ≤ n

front_numbered : (s : List ℕ) → Numbered (front s)
unfolding front
front_numbered s =
    by_cond Numbered (leb 2 (length s))
    (λ t.
    by_cond Numbered (marked kp s)
    (λ u. by_cond Numbered (leb 5 (length s)) (λ v. tt) (λ v. omega arith))
    (λ u.
    by_cond Numbered (marked ft s)
    (λ v. by_cond Numbered (leb 11 (length s)) (λ w. tt) (λ w. omega arith))
    (λ v. by_cond Numbered (marked en s) (λ w. by_cond Numbered (leb 2 (length s)) (λ x. tt) (λ x. omega arith)) (λ w. omega arith))))
    (λ t. omega arith)

abbrev Stops : Stop → Type 0
Stops (ended k) = Unit {0}
Stops (broken n) = 1 ≤ n

module _ (count : ℕ) where
  stops_by : (rest : List ℕ → Split Record) → ((t : List ℕ) → Stops (rest t).stop) → (s : List ℕ) (y : Front Record) → Numbered y → Stops (split_by (format count) rest s y).stop
  stops_by rest more s (got (Kp chunk marks) n) h = more (drop n s)
  stops_by rest more s (got (Ft slot chunk layer bytes) n) h = more (drop n s)
  stops_by rest more s (got En n) h = tt
  stops_by rest more s (none n) h = h

  stops_step : (k : ℕ) (s : List ℕ) → Stops (split_up_to (format count) k s).stop
  unfolding split_up_to
  stops_step zero s = omega arith
  stops_step (suc k) s = stops_by (split_up_to (format count) k) (stops_step k) s (front s) (front_numbered s)

  complete_by : (rs : List Record) (stop : Stop) → Stops stop → stop_refusal (format count) rs stop ≡ 0 → length (marks_in rs) ≡ count
  complete_by rs (ended k) h e =
      let fine = ((or_else_iff (unless 3 (eqb k 0)) (lacking count rs)).0 e).1 in
      eqb→eq (length (marks_in rs)) count ((unless_iff 8 (eqb (length (marks_in rs)) count) (omega arith)).0 fine)
  complete_by rs (broken n) h e = absurd (omega arith)

  pub marks_complete : (file : List ℕ) → file_refusal (format count) file ≡ 0 → length (plan_in count file).marks ≡ count
  unfolding file_refusal plan_in
  marks_complete file e =
      let f = split (format count) file in
      let fine = ((or_else_iff (unless 9 (leb (length file) 65536)) (records_refusal (format count) file)).0 e).1 in
      complete_by f.records f.stop (stops_step (length file + 1) file) ((or_else_iff (first_fault (format count) _ f.records) (stop_refusal (format count) f.records f.stop)).0 fine).1
