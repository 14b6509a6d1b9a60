-- What the plan writer hands over, by where it stops: an input's refusal, 11, or the file. Assumes
-- nothing.
use Prim.Native.Nat.{ℕ, ◌+◌, ◌*◌, ◌≤◌, ◌<◌}
use mathlib.Core.Path.{◌≡◌, sym, ap, ◌∙◌}
use mathlib.Core.List.{List, ◌++◌, map}
use native.Mathlib.Omega.{arith}
use lib.ListN.{length, get_or, drop, length-append}
use lib.Dec.{leb}
use borrow.Author.Tests.{ne_eqb, lt-leb}
use Rattle.std.proofs.Math.Dec.{nleb→lt}
use Rattle.theory_basics.specs.lemmas.Tests.{by_cond, leb_iff}
use Rattle.theory_basics.specs.lemmas.Lists.{length_up_to}
use Rattle.theory_basics.specs.Lent.{lent_after}
use Rattle.theory_basics.specs.Refusals.{unless, ◌or_else◌}
use Rattle.theory_basics.specs.lemmas.Refusals.{unless_iff, or_else_some, or_else_none}
use Rattle.std.specs.Prelude.{Result, Ok, Err}
use Rattle.refusals.specs.declared.Refusal.{Refusal}
use Rattle.refusals.specs.Numbers.{number_of}
use Rattle.refusals.specs.Laws.{number_above_0}
use Rattle.records.specs.Fields.{written}
use Rattle.job.specs.Job.{chunks}
use Rattle.job.specs.Input.{JobInput, job_in, job_refusal}
use Rattle.fetch.specs.Rows.{row_at, rows_of}
use Rattle.fetch.specs.Input.{Whole, whole_iff}
use Rattle.fetch.specs.Slices.{ListSlices, slices_refusal}
use Rattle.planfile.specs.Records.{en}
use Rattle.planfile.specs.declared.Record.{Record}
use Rattle.planfile.specs.declared.Record.TheVariants.{Kp}
use Rattle.planfile.specs.PlanFile.{kps, ft_of, file_of}
use Rattle.planfile.specs.Calls.{PlanWritePromise, plan_of, write_rest, write_refusal, written_by}
use Rattle.planfile.specs.lemmas.Writing.{plan_records_bytes, file_parts, length_file, length_kps, length_fts, two_puts}
use Rattle.records.specs.lemmas.Puts.{written_whole}

-- ---- the records to be written

-- The KP at an index.
abbrev pub kp_at : List ℕ → ℕ → Record
kp_at marks k = Kp (k + 1) (get_or marks k 0)

-- The FT at an index.
abbrev pub ft_at : List ℕ → List ℕ → List ℕ → List ℕ → ℕ → Record
ft_at slots chunks layers bytes k = ft_of (row_at slots chunks layers bytes k)

-- ---- the answer and the buffer

-- A number that is not refused for being above another.
pub not_above : (n a b : ℕ) → 0 < n → 0 ≡ unless n (leb a b) → a ≤ b
not_above n a b some e = (leb_iff a b).0 ((unless_iff n (leb a b) some).0 (sym e))

-- The length of the file by the handed slices.
abbrev pub size_of : ListSlices → ℕ
size_of s = 5 * length s.marks + 11 * length s.slots + 2

length_plan_of : (s : ListSlices) → length (file_of (plan_of s)) ≡ size_of s
length_plan_of s = omega (arith, length_file (plan_of s), length_up_to (row_at s.slots s.chunks s.layers s.bytes) (length s.slots))

-- The answer and the buffer afterwards, by the refusal.
pub record Writes (refused : ℕ) (s : ListSlices) (out : List ℕ) (a : Result ℕ ℕ) (after : List ℕ) : Type 0 where
  pub answer : a ≡ written_by refused s
  pub lent : after ≡ lent_after refused (file_of (plan_of s)) out

refuses : (s : ListSlices) (out : List ℕ) (refused : ℕ) (e : Refusal) → refused ≡ number_of e → Writes refused s out (Err (number_of e)) out
refuses s out refused e is =
    let some = ne_eqb (number_of e) 0 (λ y. omega (arith, number_above_0 e)) in
    record { answer = rw (is, some); lent = rw (is, some) }

-- ---- for so many chunks

module _ (count : ℕ) (s : ListSlices) (out : List ℕ) where
  abbrev refused : ℕ
  refused = write_rest count s out

  abbrev pub long : ℕ
  long = unless 9 (leb (size_of s) 65536)

  abbrev pub little : ℕ
  little = unless 11 (leb (size_of s) (length out))

  in_three : refused ≡ slices_refusal count s or_else long or_else little
  unfolding write_rest
  in_three = rw (length_plan_of s)

  pub not_whole : (e : Refusal) → number_of e ≡ slices_refusal count s → Writes refused s out (Err (number_of e)) out
  not_whole e is =
      let some : slices_refusal count s ≡ 0 → ⊥ = λ y. omega (arith, number_above_0 e) in
      refuses s out refused e (in_three ∙ or_else_some (slices_refusal count s) (long or_else little) some ∙ sym is)

  module _ (whole : 0 ≡ slices_refusal count s) where
    pub whole_rows : Whole count s.marks s.slots s.chunks s.layers s.bytes
    whole_rows = (whole_iff count s.marks s.slots s.chunks s.layers s.bytes).0 (sym whole)

    in_two : refused ≡ long or_else little
    in_two = in_three ∙ or_else_none (slices_refusal count s) (long or_else little) (sym whole)

    pub too_large : (e : Refusal) → number_of e ≡ long → Writes refused s out (Err (number_of e)) out
    too_large e is =
        let some : long ≡ 0 → ⊥ = λ y. omega (arith, number_above_0 e) in
        refuses s out refused e (in_two ∙ or_else_some long little some ∙ sym is)

    -- So many rows alone are too many.
    pub too_many : (e : Refusal) → number_of e ≡ unless 9 (leb (length s.slots) 65535) → Writes refused s out (Err (number_of e)) out
    too_many e is = by_cond (λ (r : ℕ). number_of e ≡ r → Writes refused s out (Err (number_of e)) out) (leb (length s.slots) 65535)
        (λ t none. absurd (omega (arith, number_above_0 e)))
        (λ t nine. too_large e (nine ∙ rw (lt-leb (size_of s) 65536 (omega (arith, nleb→lt (length s.slots) 65535 t))))) is

    module _ (m : 0 ≡ long) where
      only_room : refused ≡ little
      only_room = in_two ∙ or_else_none long little (sym m)

      pub short : (e : Refusal) → number_of e ≡ little → Writes refused s out (Err (number_of e)) out
      short e is = refuses s out refused e (only_room ∙ sym is)

      pub wrote : 0 ≡ little → size_of s ≤ length out → (a b c : List ℕ) → a ≡ written out 0 (plan_records_bytes (kps s.marks)) → b ≡ written a (5 * length s.marks) (plan_records_bytes (map ft_of (rows_of s.slots s.chunks s.layers s.bytes))) → c ≡ written b (5 * length s.marks + 11 * length s.slots) en → Writes refused s out (Ok (size_of s)) c
      wrote room l a b c p q t =
          let k = plan_records_bytes (kps s.marks) in
          let f = plan_records_bytes (map ft_of (plan_of s).rows) in
          let file = file_of (plan_of s) in
          let size = length_plan_of s in
          let rows = length_up_to (row_at s.slots s.chunks s.layers s.bytes) (length s.slots) in
          let first : 5 * length s.marks ≡ 0 + length k = omega (arith, length_kps s.marks) in
          let then : 5 * length s.marks + 11 * length s.slots ≡ 0 + length (k ++ f) = omega (arith, length_kps s.marks, length_fts (plan_of s).rows, rows, length-append k f) in
          let both : b ≡ written out 0 (k ++ f) = two_puts out 0 k f p (q ∙ ap (λ (n : ℕ). written a n f) first) (omega (arith, length-append k f)) in
          let all : c ≡ written out 0 ((k ++ f) ++ en) = two_puts out 0 (k ++ f) en both (t ∙ ap (λ (n : ℕ). written b n en) then) (omega arith) in
          let after : c ≡ file ++ drop (length file) out = all ∙ ap (written out 0) (sym (file_parts (plan_of s))) ∙ written_whole out file (omega (arith, size)) in
          let none : refused ≡ 0 = only_room ∙ sym room in
          record { answer = rw (none, size); lent = rw none after }

-- ---- for a handed job

module _ (h : JobInput) (s : ListSlices) (out : List ℕ) where
  pub job_refused : (e : Refusal) → number_of e ≡ job_refusal h → PlanWritePromise h s out (Err (number_of e)) out
  unfolding write_refusal
  job_refused e is =
      let rest = write_rest (chunks (job_in h)) s out in
      let some : job_refusal h ≡ 0 → ⊥ = λ y. omega (arith, number_above_0 e) in
      let w = refuses s out (write_refusal h s out) e (or_else_some (job_refusal h) rest some ∙ sym is) in
      record { answer = w.answer; after = w.lent }

  pub job_accepted : 0 ≡ job_refusal h → (a : Result ℕ ℕ) (after : List ℕ) → a ≡ written_by (write_rest (chunks (job_in h)) s out) s → after ≡ lent_after (write_rest (chunks (job_in h)) s out) (file_of (plan_of s)) out → PlanWritePromise h s out a after
  unfolding write_refusal
  job_accepted z a after answer lent =
      let none = or_else_none (job_refusal h) (write_rest (chunks (job_in h)) s out) (sym z) in
      record { answer = rw none answer; after = rw none lent }
