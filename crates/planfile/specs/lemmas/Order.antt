-- Lemmas. A file whose records end at EN is accepted exactly if its KPs are in turn, before every
-- FT, and complete. Assumes nothing.
use Rattle.std.specs.Prelude.{ℕ, zero, suc, ◌+◌, ◌≤◌, ◌≡◌, refl, Bool, true, false, ◌&&◌, List, [], ◌∷◌, ◌++◌, map, ◌⊎◌, length, get_or, drop, leb, eqb}
use Rattle.std.proofs.Common.{sym, ap, ◌∙◌, append_assoc, append-nil, inl, inr, ⊎_elim, arith, length-append, eqb→eq, le-leb}
use Rattle.std.proofs.lemmas.List.{map-append, get_or_at}
use Rattle.std.proofs.Math.ListN.{get_or-append}
use Rattle.theory_basics.specs.Tests.{All}
use Rattle.theory_basics.specs.lemmas.Tests.{tests}
use Rattle.theory_basics.specs.lemmas.Lists.{up_to_cong}
use Rattle.theory_basics.specs.Refusals.{unless, ◌or_else◌}
use Rattle.theory_basics.specs.lemmas.Refusals.{unless_iff, or_else_iff}
use Rattle.records.specs.File.{Front, got, none, ended, Split, split_by, split_up_to, split, first_fault, file_refusal}
use Rattle.fetch.specs.Rows.{Row}
use Rattle.planfile.specs.Records.{front, is_end}
use Rattle.planfile.specs.PlanFile.{marks_in, rows_in, fault, lacking, format, said, InOrder, kps, ft_of, records_of}
use Rattle.planfile.specs.lemmas.Scan.{marks_append, rows_append}
use Rattle.planfile.specs.lemmas.Back.{no_fault, nothing_lacks}
use Rattle.planfile.specs.declared.Record.{Record}
use Rattle.planfile.specs.declared.Record.TheVariants.{Kp, Ft, En}

-- ---- EN is no record of a file

abbrev NotEnd : Record → Type 0
NotEnd r = is_end r ≡ false

none_ends_by : (count : ℕ) (rest : List ℕ → Split Record) → ((t : List ℕ) → All NotEnd (rest t).records) → (s : List ℕ) (x : Front Record) → All NotEnd (split_by (format count) rest s x).records
none_ends_by count rest h s (none n) = tt
none_ends_by count rest h s (got (Kp chunk marks) n) = (refl, h (drop n s))
none_ends_by count rest h s (got (Ft slot chunk layer bytes) n) = (refl, h (drop n s))
none_ends_by count rest h s (got En n) = tt

none_ends : (count k : ℕ) (s : List ℕ) → All NotEnd (split_up_to (format count) k s).records
unfolding split_up_to
none_ends count zero s = tt
none_ends count (suc k) s = none_ends_by count (split_up_to (format count) k) (λ t. none_ends count k t) s (front s)

-- ---- records without a fault are in turn

kps_more : (ms : List ℕ) (m : ℕ) → kps (ms ++ (m ∷ [])) ≡ kps ms ++ (Kp (length ms + 1) m ∷ [])
kps_more ms m =
    let l = ms ++ (m ∷ []) in
    let n : length l ≡ suc (length ms) = omega (arith, length-append ms (m ∷ [])) in
    let same = up_to_cong (λ k. Kp (k + 1) (get_or l k 0)) (λ k. Kp (k + 1) (get_or ms k 0)) (length ms) (λ k h. ap (Kp (k + 1)) (get_or-append ms (m ∷ []) 0 k h)) in
    rw (n, same, get_or_at ms m [] 0 (length ms) refl)

abbrev InTurn : List Record → Type 0
InTurn rs = rs ≡ records_of (said rs)

empty : (rows : List Row) → length rows ≡ 0 → rows ≡ []
empty [] e = refl
empty (x ∷ rows) e = absurd (omega arith)

one_more : (count : ℕ) (before : List Record) (r : Record) → NotEnd r → fault count before r ≡ 0 → InTurn before → InTurn (before ++ (r ∷ []))
one_more count before (Kp chunk marks) n f i =
    let u = simp tests at ((unless_iff 8 (eqb chunk (length (marks_in before) + 1) && (leb chunk count && eqb (length (rows_in before)) 0)) (omega arith)).0 f) in
    let none = empty (rows_in before) u.1.1 in
    let kept : before ≡ kps (marks_in before) = i ∙ rw none (append-nil (kps (marks_in before))) in
    let r = Kp chunk marks ∷ [] in
    let more : records_of (said (before ++ r)) ≡ kps (marks_in before) ++ (Kp (length (marks_in before) + 1) marks ∷ []) = rw (marks_append before r, rows_append before r, none, append-nil (kps (marks_in before ++ (marks ∷ [])))) (kps_more (marks_in before) marks) in
    ap (λ (l : List Record). l ++ r) kept ∙ ap (λ (c : ℕ). kps (marks_in before) ++ (Kp c marks ∷ [])) u.0 ∙ sym more
one_more count before (Ft slot chunk layer bytes) n f i =
    let x : Row = record { slot = slot; chunk = chunk; layer = layer; bytes = bytes } in
    let r = ft_of x ∷ [] in
    let more : records_of (said (before ++ r)) ≡ (kps (marks_in before) ++ map ft_of (rows_in before)) ++ r = rw (marks_append before r, rows_append before r, append-nil (marks_in before), map-append ft_of (rows_in before) (x ∷ [])) (sym (append_assoc (kps (marks_in before)) (map ft_of (rows_in before)) r)) in
    ap (λ (l : List Record). l ++ r) i ∙ sym more
one_more count before En n f i = let z : ◌≡◌ {A = ℕ} 0 1 = cc in absurd (omega arith)

so_far : (count : ℕ) (before rs : List Record) → All NotEnd rs → first_fault (format count) before rs ≡ 0 → InTurn before → InTurn (before ++ rs)
so_far count before [] a f i = rw (append-nil before) i
so_far count before (r ∷ rs) a f i =
    let u = (or_else_iff (fault count before r) (first_fault (format count) (before ++ (r ∷ [])) rs)).0 f in
    rw append_assoc at (so_far count (before ++ (r ∷ [])) rs a.1 u.1 (one_more count before r a.0 u.0 i))

-- ---- no refusal, or 8

none_or_eight_of : (b : Bool) → (unless 8 b ≡ 0) ⊎ (unless 8 b ≡ 8)
none_or_eight_of true = inl refl
none_or_eight_of false = inr refl

either : (a b : ℕ) → (a ≡ 0) ⊎ (a ≡ 8) → (b ≡ 0) ⊎ (b ≡ 8) → ((a or_else b) ≡ 0) ⊎ ((a or_else b) ≡ 8)
either a b p q = ⊎_elim (λ z. rw z q) (λ e. inr (rw e)) p

fault_or : (count : ℕ) (before : List Record) (r : Record) → (fault count before r ≡ 0) ⊎ (fault count before r ≡ 8)
fault_or count before (Kp chunk marks) = none_or_eight_of (eqb chunk (length (marks_in before) + 1) && (leb chunk count && eqb (length (rows_in before)) 0))
fault_or count before (Ft slot chunk layer bytes) = inl refl
fault_or count before En = inl refl

faults_or : (count : ℕ) (before rs : List Record) → (first_fault (format count) before rs ≡ 0) ⊎ (first_fault (format count) before rs ≡ 8)
faults_or count before [] = inl refl
faults_or count before (r ∷ rs) = either (fault count before r) (first_fault (format count) (before ++ (r ∷ [])) rs) (fault_or count before r) (faults_or count (before ++ (r ∷ [])) rs)

module _ (count : ℕ) (file : List ℕ) (l : length file ≤ 65536) (e : (split (format count) file).stop ≡ ended 0) where
  refusal_is : file_refusal (format count) file ≡ (first_fault (format count) [] (split (format count) file).records or_else lacking count (split (format count) file).records)
  unfolding file_refusal
  refusal_is = rw (le-leb (length file) 65536 l, e)

  pub none_or_eight : (file_refusal (format count) file ≡ 0) ⊎ (file_refusal (format count) file ≡ 8)
  none_or_eight =
      let rs = (split (format count) file).records in
      rw refusal_is (either (first_fault (format count) [] rs) (lacking count rs) (faults_or count [] rs) (none_or_eight_of (eqb (length (marks_in rs)) count)))

  pub in_order_accepted : file_refusal (format count) file ≡ 0 → InOrder count (split (format count) file).records
  in_order_accepted z =
      let rs = (split (format count) file).records in
      let u = (or_else_iff (first_fault (format count) [] rs) (lacking count rs)).0 (sym refusal_is ∙ z) in
      record {
        in_turn_lem = so_far count [] rs (none_ends count (length file + 1) file) u.0 refl;
        complete = eqb→eq (length (marks_in rs)) count ((unless_iff 8 (eqb (length (marks_in rs)) count) (omega arith)).0 u.1);
      }

  pub accepted_in_order : InOrder count (split (format count) file).records → file_refusal (format count) file ≡ 0
  accepted_in_order o =
      let rs = (split (format count) file).records in
      refusal_is ∙ ((or_else_iff (first_fault (format count) [] rs) (lacking count rs)).1 (ap (first_fault (format count) []) o.in_turn_lem ∙ no_fault count (said rs) o.complete, ap (lacking count) o.in_turn_lem ∙ nothing_lacks count (said rs) o.complete))
