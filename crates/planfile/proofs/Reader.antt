-- What the plan reader hands over, by where it stops: the job's refusal, the file's, 11, or the
-- plan. Assumes nothing.
use Prim.Native.Nat.{ℕ, ◌+◌, ◌*◌, ◌≤◌}
use mathlib.Core.Path.{◌≡◌, sym, ap, ◌∙◌}
use mathlib.Core.List.{List, ◌++◌, map}
use mathlib.Core.Logic.{⊎_elim}
use native.Mathlib.Omega.{arith}
use lib.ListN.{length, drop}
use lib.Dec.{eqb, eqb→eq}
use borrow.Author.Tests.{eq-eqb, ne_eqb}
use Rattle.theory_basics.specs.lemmas.Tests.{test, not_T_false, T_true, tests}
use Rattle.theory_basics.specs.Lists.{up_to}
use Rattle.theory_basics.specs.lemmas.Lists.{length_up_to}
use Rattle.theory_basics.specs.Refusals.{unless, ◌or_else◌}
use Rattle.theory_basics.specs.lemmas.Refusals.{unless_iff, or_else_none, or_else_some}
use Rattle.std.specs.Prelude.{Ok, Err}
use Rattle.refusals.specs.declared.Refusal.{Refusal}
use Rattle.refusals.specs.Numbers.{number_of, answered}
use Rattle.refusals.specs.Laws.{number_above_0}
use Rattle.records.specs.File.{file_refusal}
use Rattle.job.specs.Job.{chunks}
use Rattle.job.specs.Input.{JobInput, job_in, job_refusal}
use Rattle.fetch.specs.Rows.{Row}
use Rattle.fetch.specs.Slices.{ListSlices, slices_of, room}
use Rattle.planfile.specs.PlanFile.{format, plan_in}
use Rattle.planfile.specs.Calls.{PlanReadPromise, plan_read_refusal}
use Rattle.planfile.specs.lemmas.Scan.{mark_on, row_on, Laid, FileRowsPost, filled}
use Rattle.planfile.specs.lemmas.Writing.{map_up_to}

-- ---- which answer says what

answer_refused : (f m n : ℕ) → Err n ≡ answered f m → (f ≡ n) × (f ≡ 0 → ⊥)
answer_refused f m n e =
    ⊎_elim
    (λ t. let x : Err n ≡ Ok m = e ∙ rw (T_true (eqb f 0) t) in let z : ◌≡◌ {A = ℕ} 0 1 = cc in absurd (omega arith))
    (λ t. let x : Err n ≡ Err f = e ∙ rw (not_T_false (eqb f 0) t) in (cc, λ z. absurd (rw (eq-eqb f 0 z) at t)))
    (test (eqb f 0))

answer_rows : (f m n : ℕ) → Ok n ≡ answered f m → (f ≡ 0) × (n ≡ m)
answer_rows f m n e =
    ⊎_elim
    (λ t. let x : Ok n ≡ Ok m = e ∙ rw (T_true (eqb f 0) t) in (eqb→eq f 0 t, cc))
    (λ t. let x : Ok n ≡ Err f = e ∙ rw (not_T_false (eqb f 0) t) in let z : ◌≡◌ {A = ℕ} 0 1 = cc in absurd (omega arith))
    (test (eqb f 0))

-- ---- the values of a laid out file

-- The four fields of the rows on file.
abbrev pub slot_on : List ℕ → ℕ → ℕ → ℕ
slot_on file count i = (row_on file count i).slot

abbrev pub chunk_on : List ℕ → ℕ → ℕ → ℕ
chunk_on file count i = (row_on file count i).chunk

abbrev pub layer_on : List ℕ → ℕ → ℕ → ℕ
layer_on file count i = (row_on file count i).layer

abbrev pub bytes_on : List ℕ → ℕ → ℕ → ℕ
bytes_on file count i = (row_on file count i).bytes

over : (f : ℕ → ℕ) (n : ℕ) (vals old : List ℕ) → vals ≡ up_to f n → filled f n old ≡ vals ++ drop (length vals) old
over f n vals old e = rw (e, length_up_to f n)

pub same_slices : {a b c d e a' b' c' d' e' : List ℕ} → a ≡ a' → b ≡ b' → c ≡ c' → d ≡ d' → e ≡ e' → slices_of a b c d e ≡ slices_of a' b' c' d' e'
same_slices p q r s t = cc

-- The slices after a plan of so many rows is read.
abbrev pub filled_all : ℕ → List ℕ → ℕ → ListSlices → ListSlices
filled_all count file rows lent =
    slices_of
    (filled (mark_on file) count lent.marks)
    (filled (λ i. (row_on file count i).slot) rows lent.slots)
    (filled (λ i. (row_on file count i).chunk) rows lent.chunks)
    (filled (λ i. (row_on file count i).layer) rows lent.layers)
    (filled (λ i. (row_on file count i).bytes) rows lent.bytes)

-- What holds where the slices are filled.
pub record MayCopy (count rows : ℕ) (file : List ℕ) (lent : ListSlices) : Type 0 where
  pub for_marks : count ≤ length lent.marks
  pub for_slots : rows ≤ length lent.slots
  pub for_chunks : rows ≤ length lent.chunks
  pub for_layers : rows ≤ length lent.layers
  pub for_bytes : rows ≤ length lent.bytes
  pub inside : 5 * count + 11 * rows ≤ length file

module _ (h : JobInput) (file : List ℕ) (lent : ListSlices) where
  abbrev count : ℕ
  count = chunks (job_in h)

  refuses : (e : Refusal) → plan_read_refusal h file lent ≡ number_of e → PlanReadPromise h file lent (Err (number_of e)) lent
  refuses e q =
      let some = ne_eqb (number_of e) 0 (λ y. omega (arith, number_above_0 e)) in
      record { answer = rw (q, some); after = rw (q, some) }

  pub job_refused : (e : Refusal) → number_of e ≡ job_refusal h → PlanReadPromise h file lent (Err (number_of e)) lent
  unfolding plan_read_refusal
  job_refused e is =
      let rest = file_refusal (format count) file or_else unless 11 (room lent count (length (plan_in count file).rows)) in
      let some : job_refusal h ≡ 0 → ⊥ = λ y. omega (arith, number_above_0 e) in
      refuses e (or_else_some (job_refusal h) rest some ∙ sym is)

  module _ (job_taken : 0 ≡ job_refusal h) where
    from_file : plan_read_refusal h file lent ≡ file_refusal (format count) file or_else unless 11 (room lent count (length (plan_in count file).rows))
    unfolding plan_read_refusal
    from_file = or_else_none (job_refusal h) (file_refusal (format count) file or_else unless 11 (room lent count (length (plan_in count file).rows))) (sym job_taken)

    pub file_refused : (e : Refusal) → FileRowsPost count file (file_refusal (format count) file) (Err (number_of e)) → PlanReadPromise h file lent (Err (number_of e)) lent
    file_refused e d =
        let f = file_refusal (format count) file in
        let u = answer_refused f (length (plan_in count file).rows) (number_of e) d.answer in
        refuses e (from_file ∙ or_else_some f (unless 11 (room lent count (length (plan_in count file).rows))) u.1 ∙ u.0)

    module _ (n : ℕ) (d : FileRowsPost count file (file_refusal (format count) file) (Ok n)) where
      accepted : (file_refusal (format count) file ≡ 0) × (n ≡ length (plan_in count file).rows)
      accepted = answer_rows (file_refusal (format count) file) (length (plan_in count file).rows) n d.answer

      only_room : plan_read_refusal h file lent ≡ unless 11 (room lent count n)
      only_room = from_file ∙ rw (accepted.0, ← accepted.1)

      laid : Laid count file
      laid = d.laid accepted.0

      pub short : (e : Refusal) → number_of e ≡ unless 11 (room lent count n) → PlanReadPromise h file lent (Err (number_of e)) lent
      short e is = refuses e (only_room ∙ sym is)

      module _ (fits : 0 ≡ unless 11 (room lent count n)) where
        pub may_copy : MayCopy count n file lent
        may_copy =
            let u = simp tests at ((unless_iff 11 (room lent count n) (omega arith)).0 (sym fits)) in
            record {
              for_marks = u.0;
              for_slots = u.1.0;
              for_chunks = u.1.1.0;
              for_layers = u.1.1.1.0;
              for_bytes = u.1.1.1.1;
              inside = rw accepted.1 laid.inside;
            }

        pub whole : (after : ListSlices) → after ≡ filled_all count file n lent → PlanReadPromise h file lent (Ok n) after
        whole after Filled-is =
            let none : plan_read_refusal h file lent ≡ 0 = only_room ∙ sym fits in
            let plan = plan_in count file in
            let rows : plan.rows ≡ up_to (row_on file count) n = rw accepted.1 laid.rows_are in
            record {
              answer = rw (none, ← accepted.1);
              after =
                  Filled-is
                  ∙ rw none (same_slices
                  (over (mark_on file) count plan.marks lent.marks laid.marks_are)
                  (over (λ i. (row_on file count i).slot) n (map (λ x. x.slot) plan.rows) lent.slots (ap (map (λ (x : Row). x.slot)) rows ∙ map_up_to (λ x. x.slot) (row_on file count) n))
                  (over (λ i. (row_on file count i).chunk) n (map (λ x. x.chunk) plan.rows) lent.chunks (ap (map (λ (x : Row). x.chunk)) rows ∙ map_up_to (λ x. x.chunk) (row_on file count) n))
                  (over (λ i. (row_on file count i).layer) n (map (λ x. x.layer) plan.rows) lent.layers (ap (map (λ (x : Row). x.layer)) rows ∙ map_up_to (λ x. x.layer) (row_on file count) n))
                  (over (λ i. (row_on file count i).bytes) n (map (λ x. x.bytes) plan.rows) lent.bytes (ap (map (λ (x : Row). x.bytes)) rows ∙ map_up_to (λ x. x.bytes) (row_on file count) n)));
            }
