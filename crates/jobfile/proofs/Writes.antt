-- Lemmas. The answer of the writer and the lent buffer afterwards. Assumes nothing.
use Prim.Native.Nat.{ℕ, ◌+◌, ◌*◌, ◌≤◌}
use mathlib.Core.Path.{◌≡◌, sym, ap, ◌∙◌}
use mathlib.Core.List.{List, ◌++◌, map, append_assoc}
use native.Mathlib.Omega.{arith}
use lib.ListN.{length, length-append}
use borrow.Author.Tests.{ne_eqb, le-leb}
use Rattle.std.specs.Prelude.{leb}
use Rattle.theory_basics.specs.Refusals.{unless, ◌or_else◌}
use Rattle.theory_basics.specs.lemmas.Refusals.{unless_iff, or_else_none, or_else_some}
use Rattle.theory_basics.specs.lemmas.Tests.{leb_iff}
use Rattle.job.specs.Job.{Job, Accepted}
use Rattle.job.specs.Input.{JobInput, WholeSizes, job_in, job_refusal}
use Rattle.job.specs.Theorems.{input_iff}
use Rattle.jobrecords.specs.declared.Record.TheVariants.{Pg}
use Rattle.std.specs.Prelude.{Ok, Err}
use Rattle.refusals.specs.declared.Refusal.{Refusal}
use Rattle.refusals.specs.Numbers.{number_of}
use Rattle.refusals.specs.Laws.{number_above_0}
use Rattle.jobrecords.specs.Records.{EN, encode}
use Rattle.jobfile.specs.Writer.{runs, layer_record, override_record, run_record, job_file, long_refusal, short_refusal, write_refusal, write_answer, file_written, JobWritePromise}
use Rattle.jobfile.specs.lemmas.Puts.{Puts, records_bytes, bytes_append, puts_then, length_puts}
use Rattle.records.specs.lemmas.Puts.{written_fits}
use Rattle.jobfile.specs.lemmas.FileLength.{file_length, short_file}
use Rattle.jobfile.specs.lemmas.Slices.{overrides_many}

module _ (h : JobInput) (out : List ℕ) where
  abbrev j : Job
  j = job_in h

  refused : (e : Refusal) → write_refusal h (length out) ≡ number_of e → JobWritePromise h out (Err (number_of e)) out
  unfolding write_answer file_written
  refused e is =
      let some = ne_eqb (number_of e) 0 (λ y. omega (arith, number_above_0 e)) in
      record { answer = rw (is, some); after = rw (is, some) }

  -- 5, 6, 18 or 7.
  pub output_refused : (e : Refusal) → number_of e ≡ job_refusal h → JobWritePromise h out (Err (number_of e)) out
  output_refused e is =
      let some : job_refusal h ≡ 0 → ⊥ = λ y. omega (arith, number_above_0 e) in
      refused e (or_else_some (job_refusal h) (long_refusal j or_else short_refusal j (length out)) some ∙ sym is)

  module _ (accepted : 0 ≡ job_refusal h) where
    none : job_refusal h ≡ 0
    none = sym accepted

    pub whole : WholeSizes h.size_chunks h.size_layers h.size_bytes
    whole = ((input_iff h).0 none).0

    -- As many bytes as the lengths of the slices and the number of runs say.
    pub bytes_count : length (job_file j) ≡ 12 + 6 * length h.sizes + 9 * length h.size_chunks + 8 * length (runs h.forecast)
    bytes_count = omega (arith, file_length j, overrides_many h.size_chunks h.size_layers h.size_bytes whole.layer_each whole.bytes_each)

    pub good : Accepted j
    good = ((input_iff h).0 none).1

    pub few_bytes : 12 + 6 * length h.sizes + 9 * length h.size_chunks + 8 * length (runs h.forecast) ≤ 46800
    few_bytes = omega (arith, bytes_count, short_file j good)

    -- An accepted job is never refused by 9.
    by_room : write_refusal h (length out) ≡ short_refusal j (length out)
    by_room =
        or_else_none (job_refusal h) (long_refusal j or_else short_refusal j (length out)) none
        ∙ or_else_none (long_refusal j) (short_refusal j (length out)) (rw (le-leb (length (job_file j)) 65536 (omega (arith, short_file j good))))

    -- 11 by the number of bytes that the lengths and the number of runs say.
    module _ (n : ℕ) (counted : n ≡ length (runs h.forecast)) where
      abbrev pub room : ℕ
      room = unless 11 (leb (12 + (6 * length h.sizes + 9 * length h.size_chunks) + 8 * n) (length out))

      room_is : room ≡ short_refusal j (length out)
      room_is =
          let same : 12 + (6 * length h.sizes + 9 * length h.size_chunks) + 8 * n ≡ length (job_file j) = omega (arith, bytes_count) in
          ap (λ (k : ℕ). unless 11 (leb k (length out))) same

      pub output_short : (e : Refusal) → number_of e ≡ room → JobWritePromise h out (Err (number_of e)) out
      output_short e is = refused e (by_room ∙ sym room_is ∙ sym is)

      pub output_fits : 0 ≡ room → length (job_file j) ≤ length out
      output_fits none = (leb_iff (length (job_file j)) (length out)).0 ((unless_iff 11 (leb (length (job_file j)) (length out)) (omega arith)).0 (sym room_is ∙ sym none))

    pub output_file : length (job_file j) ≤ length out → (out' : List ℕ) (next : ℕ) → Puts out 0 (job_file j) out' next → JobWritePromise h out (Ok next) out'
    unfolding write_answer file_written
    output_file l out' next p =
        let e : write_refusal h (length out) ≡ 0 = by_room ∙ rw (le-leb (length (job_file j)) (length out) l) in
        let n : 0 + length (job_file j) ≡ length (job_file j) = omega arith in
        record {
          answer = rw (e, p.next_is, n);
          after = rw e (p.out_is ∙ written_fits out 0 (job_file j) (omega arith) ∙ rw n);
        }

-- ---- the whole file, a part at a time

-- PG, the layers, the SZs, the runs, EN.
pub file_parts :
    (j : Job) → job_file j ≡ encode (Pg j.programme) ++ records_bytes (map layer_record j.sizes) ++ records_bytes (map override_record j.overrides) ++ records_bytes (map run_record (runs j.forecast)) ++ EN
unfolding job_file
file_parts j =
    let a = map layer_record j.sizes in
    let b = map override_record j.overrides in
    let c = map run_record (runs j.forecast) in
    let pg = encode (Pg j.programme) in
    ap (λ (l : List ℕ). (pg ++ l) ++ EN) (bytes_append a (b ++ c) ∙ ap (λ (l : List ℕ). records_bytes a ++ l) (bytes_append b c) ∙ sym (append_assoc (records_bytes a) (records_bytes b) (records_bytes c)))
    ∙ ap (λ (l : List ℕ). l ++ EN) (sym (append_assoc pg (records_bytes a ++ records_bytes b) (records_bytes c)) ∙ ap (λ (l : List ℕ). l ++ records_bytes c) (sym (append_assoc pg (records_bytes a) (records_bytes b))))

-- Five parts, one after the other from the start of a buffer that has room for them.
module _ (whole a b c d e : List ℕ) (is : whole ≡ a ++ b ++ c ++ d ++ e) (out : List ℕ) (fits : length whole ≤ length out) where
  lengths : length whole ≡ length a + length b + length c + length d + length e
  lengths = ap length is ∙ simp length-append

  pub first_room : 0 + length a ≤ length out
  first_room = omega (arith, lengths)

  module _ (out₁ : List ℕ) (n₁ : ℕ) (p₁ : Puts out 0 a out₁ n₁) where
    pub second_room : n₁ + length b ≤ length out₁
    second_room = omega (arith, lengths, p₁.next_is, length_puts out 0 a out₁ n₁ p₁)

    module _ (out₂ : List ℕ) (n₂ : ℕ) (p₂ : Puts out₁ n₁ b out₂ n₂) where
      two : Puts out 0 (a ++ b) out₂ n₂
      two = puts_then out 0 a out₁ n₁ p₁ b out₂ n₂ p₂ (omega (arith, lengths))

      pub third_room : n₂ + length c ≤ length out₂
      third_room = omega (arith, lengths, two.next_is, length-append a b, length_puts out 0 (a ++ b) out₂ n₂ two)

      module _ (out₃ : List ℕ) (n₃ : ℕ) (p₃ : Puts out₂ n₂ c out₃ n₃) where
        three : Puts out 0 (a ++ b ++ c) out₃ n₃
        three = puts_then out 0 (a ++ b) out₂ n₂ two c out₃ n₃ p₃ (omega (arith, lengths, length-append a b))

        three_length : length (a ++ b ++ c) ≡ length a + length b + length c
        three_length = simp length-append

        pub fourth_room : n₃ + length d ≤ length out₃
        fourth_room = omega (arith, lengths, three.next_is, three_length, length_puts out 0 (a ++ b ++ c) out₃ n₃ three)

        module _ (out₄ : List ℕ) (n₄ : ℕ) (p₄ : Puts out₃ n₃ d out₄ n₄) where
          four : Puts out 0 (a ++ b ++ c ++ d) out₄ n₄
          four = puts_then out 0 (a ++ b ++ c) out₃ n₃ three d out₄ n₄ p₄ (omega (arith, lengths, three_length))

          four_length : length (a ++ b ++ c ++ d) ≡ length a + length b + length c + length d
          four_length = simp length-append

          pub last_room : n₄ + length e ≤ length out₄
          last_room = omega (arith, lengths, four.next_is, four_length, length_puts out 0 (a ++ b ++ c ++ d) out₄ n₄ four)

          pub all_parts : (out₅ : List ℕ) (n₅ : ℕ) → Puts out₄ n₄ e out₅ n₅ → Puts out 0 whole out₅ n₅
          all_parts out₅ n₅ p₅ = rw is (puts_then out 0 (a ++ b ++ c ++ d) out₄ n₄ four e out₅ n₅ p₅ (omega (arith, lengths, four_length)))
