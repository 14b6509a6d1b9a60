-- Lemmas. The records of a plan, written and read back, have no fault and say the plan. Assumes
-- nothing.
use Rattle.std.specs.Prelude.{ℕ, zero, suc, ◌+◌, ◌≤◌, ◌<◌, ◌≡◌, Bool, true, false, ◌↔◌, length, get_or, T, leb, eqb}
use Rattle.std.proofs.Math.Path.{refl, ap}
use Rattle.std.proofs.Common.{sym, ◌∙◌, ⊎_elim, arith, ext_get_or, leb→le, eq-eqb, le-leb}
use mathlib.Core.List.{List, [], ◌∷◌, ◌++◌, map, append_assoc, append-nil}
use Rattle.std.proofs.Math.Dec.{nleb→lt}
use Rattle.std.proofs.lemmas.Bool.{lt-leb}
use Rattle.theory_basics.specs.Tests.{All}
use Rattle.theory_basics.specs.lemmas.Tests.{all_append, test, T_true, not_T_false}
use Rattle.theory_basics.specs.Lists.{up_to}
use Rattle.theory_basics.specs.lemmas.Lists.{length_up_to, get_d_up_to, up_to_cong}
use Rattle.theory_basics.specs.Refusals.{unless, ◌or_else◌}
use Rattle.theory_basics.specs.lemmas.Refusals.{unless_iff, or_else_iff}
use Rattle.records.specs.File.{Format, got, split, first_fault, file_refusal, encode_all}
use Rattle.records.specs.lemmas.Written.{h_back, w_back, ReadsBack, Plain, split_written, refusal_written}
use Rattle.job.specs.Job.{chunks}
use Rattle.job.specs.Input.{JobInput, job_in, job_refusal}
use Rattle.fetch.specs.Rows.{Row, row_at}
use Rattle.fetch.specs.Input.{Whole, list_refusal, whole_iff}
use Rattle.fetch.specs.Slices.{ListSlices, room}
use Rattle.planfile.specs.Records.{encode, front}
use Rattle.planfile.specs.PlanFile.{marks_in, rows_in, fault, lacking, format, Plan, RowInWidth, InWidth, plan_in, kps, ft_of, records_of, file_of}
use Rattle.planfile.specs.Calls.{plan_read_refusal, plan_of, write_rest, write_refusal}
use Rattle.planfile.specs.lemmas.Scan.{marks_append, rows_append}
use Rattle.planfile.specs.lemmas.Writing.{bytes_all, all_up_to, map_up_to, length_file}
use Rattle.planfile.specs.declared.Record.{Record}
use Rattle.planfile.specs.declared.Record.TheVariants.{Kp, En}

-- ---- a record reads back

kp_front : (chunk marks : ℕ) → chunk < 65536 → (rest : List ℕ) → front (encode (Kp chunk marks) ++ rest) ≡ got (Kp chunk marks) 5
unfolding front
kp_front chunk marks l rest =
    let s = encode (Kp chunk marks) ++ rest in
    rw (le-leb 2 (length s) (omega arith), le-leb 5 (length s) (omega arith), h_back chunk l)

ft_front : (x : Row) → RowInWidth x → (rest : List ℕ) → front (encode (ft_of x) ++ rest) ≡ got (ft_of x) 11
unfolding front
ft_front x i rest =
    let s = encode (ft_of x) ++ rest in
    rw (le-leb 2 (length s) (omega arith), le-leb 11 (length s) (omega arith), h_back x.slot i.slot_in, h_back x.chunk i.chunk_in, w_back x.bytes i.bytes_in_lem)

en_front : (rest : List ℕ) → front (encode En ++ rest) ≡ got En 2
unfolding front
en_front rest = let s = encode En ++ rest in rw (le-leb 2 (length s) (omega arith))

module _ (count : ℕ) where
  kp_plain : (chunk marks : ℕ) → chunk < 65536 → Plain (format count) encode (Kp chunk marks)
  kp_plain chunk marks l = record { back = record { front_is = kp_front chunk marks l; some = omega arith }; not_end = refl }

  ft_plain : (x : Row) → RowInWidth x → Plain (format count) encode (ft_of x)
  ft_plain x i = record { back = record { front_is = ft_front x i; some = omega arith }; not_end = refl }

  en_back : ReadsBack (format count) encode En
  en_back = record { front_is = en_front; some = omega arith }

  fts_plain : (rows : List Row) → All RowInWidth rows → All (Plain (format count) encode) (map ft_of rows)
  fts_plain [] a = tt
  fts_plain (x ∷ rows) a = (ft_plain x a.0, fts_plain rows a.1)

  all_plain : (plan : Plan) → All RowInWidth plan.rows → length plan.marks < 65536 → All (Plain (format count) encode) (records_of plan)
  all_plain plan a l =
      all_append (Plain (format count) encode) (kps plan.marks) (map ft_of plan.rows)
      (all_up_to (Plain (format count) encode) (λ k. Kp (k + 1) (get_or plan.marks k 0)) (length plan.marks) (λ k h. kp_plain (k + 1) (get_or plan.marks k 0) (omega arith)))
      (fts_plain plan.rows a)

-- ---- what the records of a plan say

module _ (f : ℕ → ℕ) where
  kps_marks : (n : ℕ) → marks_in (up_to (λ k. Kp (k + 1) (f k)) n) ≡ up_to f n
  kps_marks zero = refl
  kps_marks (suc n) = marks_append (up_to (λ k. Kp (k + 1) (f k)) n) (Kp (n + 1) (f n) ∷ []) ∙ ap (λ (l : List ℕ). l ++ (f n ∷ [])) (kps_marks n)

  kps_rows : (n : ℕ) → rows_in (up_to (λ k. Kp (k + 1) (f k)) n) ≡ []
  kps_rows zero = refl
  kps_rows (suc n) = rows_append (up_to (λ k. Kp (k + 1) (f k)) n) (Kp (n + 1) (f n) ∷ []) ∙ append-nil (rows_in (up_to (λ k. Kp (k + 1) (f k)) n)) ∙ kps_rows n

fts_marks : (rows : List Row) → marks_in (map ft_of rows) ≡ []
fts_marks [] = refl
fts_marks (x ∷ rows) = fts_marks rows

fts_rows : (rows : List Row) → rows_in (map ft_of rows) ≡ rows
fts_rows [] = refl
fts_rows (x ∷ rows) = ap (λ (l : List Row). x ∷ l) (fts_rows rows)

-- A list is the elements at its indices.
pub up_to_get_d : (l : List ℕ) → up_to (λ k. get_or l k 0) (length l) ≡ l
up_to_get_d l =
    let n = length_up_to (λ k. get_or l k 0) (length l) in
    ext_get_or 0 (up_to (λ k. get_or l k 0) (length l)) l n (λ i h. get_d_up_to (λ k. get_or l k 0) (length l) i 0 (omega (arith, n)))

marks_said : (plan : Plan) → marks_in (records_of plan) ≡ plan.marks
marks_said plan =
    marks_append (kps plan.marks) (map ft_of plan.rows)
    ∙ rw (kps_marks (λ k. get_or plan.marks k 0) (length plan.marks), fts_marks plan.rows, append-nil (up_to (λ k. get_or plan.marks k 0) (length plan.marks))) (up_to_get_d plan.marks)

rows_said : (plan : Plan) → rows_in (records_of plan) ≡ plan.rows
rows_said plan = rows_append (kps plan.marks) (map ft_of plan.rows) ∙ rw (kps_rows (λ k. get_or plan.marks k 0) (length plan.marks)) (fts_rows plan.rows)

-- ---- the records of a plan have no fault

-- Of three refusals the first is given, however they are joined.
or_else_assoc : (a b c : ℕ) → ((a or_else b) or_else c) ≡ (a or_else (b or_else c))
or_else_assoc a b c =
    ⊎_elim
    (λ t. rw (T_true (eqb a 0) t))
    (λ t. let n = not_T_false (eqb a 0) t in rw (n, n))
    (test (eqb a 0))

fault_append : {R : Type 0} (F : Format R) (before a b : List R) → first_fault F before (a ++ b) ≡ (first_fault F before a or_else first_fault F (before ++ a) b)
fault_append F before [] b = rw (append-nil before)
fault_append F before (r ∷ a) b =
    let one = before ++ (r ∷ []) in
    rw (fault_append F one a b, append_assoc before (r ∷ []) a) (sym (or_else_assoc (F.fault before r) (first_fault F one a) (first_fault F (before ++ r ∷ a) b)))

module _ (count : ℕ) (f : ℕ → ℕ) where
  kps_fault : (n : ℕ) → n ≤ count → first_fault (format count) [] (up_to (λ k. Kp (k + 1) (f k)) n) ≡ 0
  kps_fault zero l = refl
  kps_fault (suc n) l =
      let before = up_to (λ k. Kp (k + 1) (f k)) n in
      let next : fault count before (Kp (n + 1) (f n)) ≡ 0 = rw (kps_marks f n, length_up_to f n, kps_rows f n, eq-eqb (n + 1) (n + 1) refl, le-leb (n + 1) count (omega arith)) in
      fault_append (format count) [] before (Kp (n + 1) (f n) ∷ []) ∙ rw (kps_fault n (omega arith), next)

fts_fault : (count : ℕ) (before : List Record) (rows : List Row) → first_fault (format count) before (map ft_of rows) ≡ 0
fts_fault count before [] = refl
fts_fault count before (x ∷ rows) = fts_fault count (before ++ (ft_of x ∷ [])) rows

pub no_fault : (count : ℕ) (plan : Plan) → length plan.marks ≡ count → first_fault (format count) [] (records_of plan) ≡ 0
no_fault count plan e =
    fault_append (format count) [] (kps plan.marks) (map ft_of plan.rows)
    ∙ rw (kps_fault count (λ k. get_or plan.marks k 0) (length plan.marks) (omega arith), fts_fault count (kps plan.marks) plan.rows)

pub nothing_lacks : (count : ℕ) (plan : Plan) → length plan.marks ≡ count → lacking count (records_of plan) ≡ 0
nothing_lacks count plan e = rw (marks_said plan, eq-eqb (length plan.marks) count e)

-- ---- the file of a plan

module _ (count : ℕ) (plan : Plan) (i : InWidth plan) (e : length plan.marks ≡ count) (l : length (file_of plan) ≤ 65536) where
  file_all : file_of plan ≡ encode_all encode (records_of plan) ++ encode En
  unfolding file_of
  file_all = ap (λ (x : List ℕ). x ++ encode En) (bytes_all count (records_of plan))

  plain : All (Plain (format count) encode) (records_of plan)
  plain = all_plain count plan i.rows_in_lem (omega (arith, length_file plan))

  pub file_accepted : file_refusal (format count) (file_of plan) ≡ 0
  file_accepted =
      rw file_all (refusal_written (format count) encode En (en_back count) refl (records_of plan) plain
      ∙ rw (← file_all, le-leb (length (file_of plan)) 65536 l, no_fault count plan e, nothing_lacks count plan e))

  pub file_says : plan_in count (file_of plan) ≡ plan
  unfolding plan_in
  file_says =
      let s = split_written (format count) encode En (en_back count) refl (records_of plan) plain in
      let r : (split (format count) (file_of plan)).records ≡ records_of plan = rw (file_all, s) in
      rw (r, marks_said plan, rows_said plan)

-- ---- the calls

-- What a writer that does not refuse has found.
pub record Accepts (h : JobInput) (s : ListSlices) : Type 0 where
  pub job_in_lem : job_refusal h ≡ 0
  pub whole : Whole (chunks (job_in h)) s.marks s.slots s.chunks s.layers s.bytes
  pub fits : length (file_of (plan_of s)) ≤ 65536

pub accepts : (h : JobInput) (s : ListSlices) (out : List ℕ) → write_refusal h s out ≡ 0 → Accepts h s
unfolding write_refusal write_rest
accepts h s out e =
    let list = list_refusal (chunks (job_in h)) s.marks s.slots s.chunks s.layers s.bytes in
    let long = length (file_of (plan_of s)) in
    let nine = unless 9 (leb long 65536) in
    let eleven = unless 11 (leb long (length out)) in
    let a = (or_else_iff (job_refusal h) (list or_else nine or_else eleven)).0 e in
    let b = (or_else_iff list (nine or_else eleven)).0 a.1 in
    record {
      job_in_lem = a.0;
      whole = (whole_iff (chunks (job_in h)) s.marks s.slots s.chunks s.layers s.bytes).0 b.0;
      fits = leb→le long 65536 ((unless_iff 9 (leb long 65536) (omega arith)).0 ((or_else_iff nine eleven).0 b.1).0);
    }

-- The fields of the rows that four slices of one length hand over are those slices.
pub field : (f : Row → ℕ) (s : ListSlices) (l : List ℕ) → ((k : ℕ) → f (row_at s.slots s.chunks s.layers s.bytes k) ≡ get_or l k 0) → length s.slots ≡ length l → map f (plan_of s).rows ≡ l
field f s l h e =
    map_up_to f (row_at s.slots s.chunks s.layers s.bytes) (length s.slots)
    ∙ up_to_cong (λ k. f (row_at s.slots s.chunks s.layers s.bytes k)) (λ k. get_or l k 0) (length s.slots) (λ k u. h k)
    ∙ rw e (up_to_get_d l)

-- A file that is accepted, says that plan and has room isn't refused.
pub not_short : (h : JobInput) (s lent : ListSlices) → job_refusal h ≡ 0 → file_refusal (format (chunks (job_in h))) (file_of (plan_of s)) ≡ 0 → plan_in (chunks (job_in h)) (file_of (plan_of s)) ≡ plan_of s → length (plan_of s).rows ≡ length s.slots → T (room lent (chunks (job_in h)) (length s.slots)) → plan_read_refusal h (file_of (plan_of s)) lent ≡ 0
unfolding plan_read_refusal
not_short h s lent z f p n t = rw (z, f, p, n, T_true (room lent (chunks (job_in h)) (length s.slots)) t)

-- 9 by the size alone, whatever the room.
pub nine_by_size : (n m : ℕ) → ((unless 9 (leb n 65536) or_else unless 11 (leb n m)) ≡ 9) ↔ (65536 < n)
nine_by_size n m = (
  λ e. ⊎_elim (λ t. absurd (eleven (leb n m) (rw (T_true (leb n 65536) t) at e))) (λ t. nleb→lt n 65536 t) (test (leb n 65536)),
  λ l. rw (lt-leb n 65536 l),
)
  where
    eleven : (b : Bool) → unless 11 b ≡ 9 → ⊥
    eleven true e = omega arith
    eleven false e = omega arith
