-- Theorems. Demand 2: "Job and plan files read back as the job and plan written", for plan files.
-- Then refusals 8 and 9 exactly where document 01 lists them, and that a plan of at most 5,599 rows
-- always fits a file. Assumes nothing.
use Rattle.std.specs.Prelude.{ℕ, ◌+◌, ◌*◌, ◌≤◌, ◌<◌, ◌≡◌, refl, List, ◌++◌, ◌↔◌, length, drop, T, Ok}
use Rattle.std.proofs.Common.{⊎_elim, arith}
use Rattle.theory_basics.specs.Refusals.{unless, ◌or_else◌}
use Rattle.theory_basics.specs.lemmas.Lists.{length_up_to}
use Rattle.theory_basics.specs.lemmas.Refusals.{or_else_iff}
use Rattle.records.specs.File.{ended, split, file_refusal}
use Rattle.job.specs.Job.{Job, Accepted, chunks}
use Rattle.job.specs.Input.{JobInput, job_in, job_refusal}
use Rattle.fetch.specs.Rows.{row_at}
use Rattle.fetch.specs.Input.{Whole, whole_iff}
use Rattle.fetch.specs.Slices.{ListSlices, slices_of, room}
use Rattle.planfile.specs.PlanFile.{format, Plan, InWidth, InOrder, plan_in, file_of}
use Rattle.planfile.specs.Calls.{plan_read_refusal, read_answer, read_lent, plan_of, write_rest, write_refusal}
use Rattle.planfile.specs.lemmas.Writing.{length_file}
use Rattle.planfile.specs.lemmas.Few.{rows_inside}
use Rattle.planfile.specs.lemmas.Back.{file_accepted, file_says, accepts, field, not_short, nine_by_size}
use Rattle.planfile.specs.lemmas.Order.{in_order_accepted, accepted_in_order, none_or_eight}

-- ---- what is written reads back

-- "Job and plan files read back as the job and plan written": for every job, and every plan of one
-- mark a chunk whose file has at most 65,536 bytes, the file is not refused and says that plan.
pub record ReadsBackAs (j : Job) (plan : Plan) : Type 0 where
  pub not_refused : file_refusal (format (chunks j)) (file_of plan) ≡ 0
  pub says : plan_in (chunks j) (file_of plan) ≡ plan

pub plan_reads_back : (j : Job) (plan : Plan) → InWidth plan → length plan.marks ≡ chunks j → length (file_of plan) ≤ 65536 → ReadsBackAs j plan
plan_reads_back j plan i e l = record { not_refused = file_accepted (chunks j) plan i e l; says = file_says (chunks j) plan i e l }

-- The same for the calls: what the writer doesn't refuse, the reader, lent enough room, hands back
-- slice by slice.
abbrev pub slices_back : ListSlices → ListSlices → ListSlices
slices_back s lent =
    slices_of
    (s.marks ++ drop (length s.marks) lent.marks)
    (s.slots ++ drop (length s.slots) lent.slots)
    (s.chunks ++ drop (length s.chunks) lent.chunks)
    (s.layers ++ drop (length s.layers) lent.layers)
    (s.bytes ++ drop (length s.bytes) lent.bytes)

pub record SlicesBack (h : JobInput) (s lent : ListSlices) : Type 0 where
  pub answer : read_answer h (file_of (plan_of s)) lent ≡ Ok (length s.slots)
  pub lent_after : read_lent h (file_of (plan_of s)) lent ≡ slices_back s lent

pub reads_what_was_written : (h : JobInput) (s : ListSlices) (out : List ℕ) (lent : ListSlices) → InWidth (plan_of s) → write_refusal h s out ≡ 0 → T (room lent (chunks (job_in h)) (length s.slots)) → SlicesBack h s lent
reads_what_was_written h s out lent i e t =
    let a = accepts h s out e in
    let back = plan_reads_back (job_in h) (plan_of s) i a.whole.byte_each a.fits in
    let n : length (plan_of s).rows ≡ length s.slots = length_up_to (row_at s.slots s.chunks s.layers s.bytes) (length s.slots) in
    let none : plan_read_refusal h (file_of (plan_of s)) lent ≡ 0 = not_short h s lent a.job_in_lem back.not_refused back.says n t in
    record {
      answer = rw (none, back.says, n);
      lent_after = rw (none, back.says, field (λ x. x.slot) s s.slots (λ k. refl) refl, field (λ x. x.chunk) s s.chunks (λ k. refl) a.whole.chunk_each, field (λ x. x.layer) s s.layers (λ k. refl) a.whole.layer_each, field (λ x. x.bytes) s s.bytes (λ k. refl) a.whole.bytes_each);
    }

-- ---- 8 of the reader

-- "KP records not for 1 to C in turn, before every FT, and complete by EN": a file of at most
-- 65,536 bytes whose records end at EN, with nothing behind it, is refused by 8 exactly if its
-- records aren't so, and is accepted if they are.
pub eight_iff : (count : ℕ) (file : List ℕ) → length file ≤ 65536 → (split (format count) file).stop ≡ ended 0 → (file_refusal (format count) file ≡ 8) ↔ (InOrder count (split (format count) file).records → ⊥)
eight_iff count file l e = (
  λ r o. omega (arith, accepted_in_order count file l e o),
  λ n. ⊎_elim (λ z. absurd (n (in_order_accepted count file l e z))) (λ r. r) (none_or_eight count file l e),
)

pub accepted_iff_in_order : (count : ℕ) (file : List ℕ) → length file ≤ 65536 → (split (format count) file).stop ≡ ended 0 → (file_refusal (format count) file ≡ 0) ↔ InOrder count (split (format count) file).records
accepted_iff_in_order count file l e = (in_order_accepted count file l e, accepted_in_order count file l e)

-- A file that is read has at most 5,957 rows: 11 bytes each of 65,536.
pub rows_few : (h : JobInput) (file : List ℕ) (lent : ListSlices) → plan_read_refusal h file lent ≡ 0 → length (plan_in (chunks (job_in h)) file).rows ≤ 5957
unfolding plan_read_refusal
rows_few h file lent e =
    let count : ℕ = chunks (job_in h) in
    let own : ℕ = file_refusal (format count) file in
    let rest : ℕ = unless 11 (room lent count (length (plan_in count file).rows)) in
    omega (arith, rows_inside count file ((or_else_iff own rest).0 ((or_else_iff (job_refusal h) (own or_else rest)).0 e).1).0)

-- ---- 9 of the writer

-- 9 exactly if 5 bytes a chunk, 11 a row and 2 for EN are more than 65,536, after 5 to 8.
pub nine_iff : (h : JobInput) (s : ListSlices) (out : List ℕ) → job_refusal h ≡ 0 → Whole (chunks (job_in h)) s.marks s.slots s.chunks s.layers s.bytes → (write_refusal h s out ≡ 9) ↔ (65536 < 5 * chunks (job_in h) + 11 * length s.slots + 2)
unfolding write_refusal write_rest
nine_iff h s out z w =
    let list = (whole_iff (chunks (job_in h)) s.marks s.slots s.chunks s.layers s.bytes).1 w in
    let long : length (file_of (plan_of s)) ≡ 5 * chunks (job_in h) + 11 * length s.slots + 2 = omega (arith, length_file (plan_of s), length_up_to (row_at s.slots s.chunks s.layers s.bytes) (length s.slots), w.byte_each) in
    rw (z, list, long) (nine_by_size (5 * chunks (job_in h) + 11 * length s.slots + 2) (length out))

-- The plan of an accepted job with at most 5,599 rows has a file of at most 64,091 bytes.
pub always_fits : (j : Job) → Accepted j → (plan : Plan) → length plan.marks ≡ chunks j → length plan.rows ≤ 5599 → length (file_of plan) ≤ 64091
always_fits j a plan e l = omega (arith, length_file plan, a.chunks_in.high)
