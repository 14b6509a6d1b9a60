-- Lemmas. The job readers: with room for the programme and the lengths they hand over what the
-- library's reader does, without it they answer 11 after all that comes before 11. Assumes nothing.
use Rattle.std.specs.Prelude.{ℕ, ◌≤◌, ◌<◌, ◌≡◌, refl, Bool, true, false, cond, ◌&&◌, ◌⊎◌, List, [], ◌∷◌, eqb, leb, length, Result, Err}
use Rattle.std.proofs.Common.{arith, sym, ap, ◌∙◌, ⊎_elim, le-leb, ne_eqb}
use Rattle.std.proofs.lemmas.Bool.{lt-leb}
use Rattle.theory_basics.specs.Lent.{lent_after}
use Rattle.theory_basics.specs.Refusals.{◌or_else◌, unless}
use Rattle.job.specs.Input.{override_bytes, override_chunks, override_layers}
use Rattle.job.specs.Job.{Job, Override, layers}
use Rattle.jobrecords.specs.Reader.{Buffers, JobReadPromise, buffers, job_answer, job_read_refusal, lent_by, lent_read, read_answer}
use Rattle.jobrecords.specs.lemmas.Lent.{same_buffers}
use Rattle.jobrecords.specs.Refusal.{job_of_file, mixed, refusal_of}
use Rattle.jobrecords.specs.Theorems.{no_overrides}
use Rattle.jobrecords.specs.declared.ReadJob.{ReadJob}
use Rattle.refusals.specs.Numbers
use Rattle.core_ffi.specs.Convention.{answered}
use Rattle.core_ffi.specs.Files.{JobReadReturned, JobRoom, job_return_refusal, lengths_of, programme_of}
use Rattle.core_ffi.specs.lemmas.Numbers.{answer_number, number_by, numbered, refused_number, stored, stored_of}
use Rattle.core_ffi.specs.lemmas.Slices.{eleven_once, eleven_some, no_more_lem, refused_keeps}

abbrev room_for : Job → Buffers → Bool
room_for j lent =
    leb (layers j) (length lent.sizes)
    && (leb (length j.overrides) (length lent.size_chunks)
    && (leb (length j.overrides) (length lent.size_layers)
    && (leb (length j.overrides) (length lent.size_bytes)
    && leb (length j.forecast) (length lent.forecast))))

abbrev pub programme_by : ReadJob → List ℕ
programme_by j = j.programme.chunks ∷ j.programme.span ∷ j.programme.delay ∷ j.programme.limit ∷ []

abbrev pub lengths_by : ReadJob → List ℕ
lengths_by j = j.layers ∷ j.overrides ∷ []

-- One of the two is too short.
abbrev pub NoRoom : JobRoom → Type 0
NoRoom lent = (length lent.programme < 4) ⊎ (length lent.lengths < 2)

neither : (b : Bool) → b && false ≡ false
neither true = refl
neither false = refl

no_room : (lent : JobRoom) → NoRoom lent → leb 4 (length lent.programme) && leb 2 (length lent.lengths) ≡ false
no_room lent =
    ⊎_elim
    (λ p. ap (λ (b : Bool). b && leb 2 (length lent.lengths)) (lt-leb 4 (length lent.programme) p))
    (λ n. ap (λ (b : Bool). leb 4 (length lent.programme) && b) (lt-leb 2 (length lent.lengths) n) ∙ neither (leb 4 (length lent.programme)))

module _ (sequenced : Bool) (file : List ℕ) where
  -- With room.
  pub read_whole : (lent lent' : JobRoom) (a : Result ReadJob ℕ) (r : ℕ)
      → 4 ≤ length lent.programme
      → 2 ≤ length lent.lengths
      → JobReadPromise sequenced file lent.job a lent'.job
      → lent'.programme ≡ stored_of programme_by a lent.programme
      → lent'.lengths ≡ stored_of lengths_by a lent.lengths
      → r ≡ number_by (λ (j : ReadJob). j.slots) a
      → JobReadReturned sequenced file lent r lent'
  unfolding lent_read read_answer
  read_whole lent lent' a r four two p ep en er =
      let j = job_of_file sequenced file in
      let refused : ℕ = job_read_refusal sequenced file lent.job in
      let same : job_return_refusal sequenced file lent ≡ refused = rw (le-leb 4 (length lent.programme) four, le-leb 2 (length lent.lengths) two) (no_more_lem refused) in
      let w = sym same in
      record {
        number = er ∙ numbered (λ (x : ReadJob). x.slots) refused (job_answer j) a p.answer ∙ ap (λ (n : ℕ). answered n (length j.forecast)) w;
        buffers_are = p.after ∙ ap (λ (n : ℕ). lent_by n j lent.job) w;
        programme_is = ep ∙ stored programme_by refused (job_answer j) a lent.programme p.answer ∙ ap (λ (n : ℕ). lent_after n (programme_of j) lent.programme) w;
        lengths_are = en ∙ stored lengths_by refused (job_answer j) a lent.lengths p.answer ∙ ap (λ (n : ℕ). lent_after n (lengths_of j) lent.lengths) w;
      }

  -- Without room.
  pub read_short : (lent : JobRoom) (a : Result ℕ ℕ)
      → NoRoom lent
      → a ≡ Err (refusal_of sequenced file or_else 11)
      → JobReadReturned sequenced file lent (answer_number a) lent
  unfolding answered
  read_short lent a short e =
      let j = job_of_file sequenced file in
      let old = lent.job in
      let R : ℕ = job_return_refusal sequenced file lent in
      let is : R ≡ refusal_of sequenced file or_else 11 =
      ap (λ (b : Bool). job_read_refusal sequenced file old or_else unless 11 b) (no_room lent short) ∙ eleven_once (refusal_of sequenced file) (room_for j old) in
      let some : R ≡ 0 → ⊥ = λ z. eleven_some (refusal_of sequenced file) (sym is ∙ z) in
      let keeps : (result before : List ℕ) → before ≡ lent_after R result before = λ result before. sym (refused_keeps R result before some) in
      record {
        number = ap answer_number e ∙ sym (ap refused_number is) ∙ sym (ap (λ (b : Bool). cond b (length j.forecast) (refused_number R)) (ne_eqb R 0 some));
        buffers_are =
            same_buffers (keeps j.sizes old.sizes) (keeps (override_chunks j.overrides) old.size_chunks) (keeps (override_layers j.overrides) old.size_layers)
            (keeps (override_bytes j.overrides) old.size_bytes) (keeps j.forecast old.forecast);
        programme_is = keeps (programme_of j) lent.programme;
        lengths_are = keeps (lengths_of j) lent.lengths;
      }

-- ---- a mixed file, which has no SZ, read with room for them

one_way : (b : Bool) (xs : List ℕ) → xs ≡ cond b xs xs
one_way true xs = refl
one_way false xs = refl

module _ (file : List ℕ) (lent lent' : Buffers) (a : Result ReadJob ℕ) where
  abbrev without : Buffers → Buffers
  without l = buffers l.sizes [] [] [] l.forecast

  same_refusal : job_read_refusal mixed file (without lent) ≡ job_read_refusal mixed file lent
  same_refusal =
      let os = (job_of_file mixed file).overrides in
      let none : length os ≡ 0 = ap length (no_overrides file) in
      rw (
        le-leb (length os) (length lent.size_chunks) (omega (arith, none)),
        le-leb (length os) (length lent.size_layers) (omega (arith, none)),
        le-leb (length os) (length lent.size_bytes) (omega (arith, none)),
        le-leb (length os) (length (without lent).size_chunks) (omega (arith, none)),
      )

  -- It is read as if there were none, and the room stays as it is.
  pub mixed_beside : JobReadPromise mixed file (without lent) a (without lent')
      → lent'.size_chunks ≡ lent.size_chunks
      → lent'.size_layers ≡ lent.size_layers
      → lent'.size_bytes ≡ lent.size_bytes
      → JobReadPromise mixed file lent a lent'
  unfolding lent_read read_answer
  mixed_beside p c l b =
      let j = job_of_file mixed file in
      let none = no_overrides file in
      let R : ℕ = job_read_refusal mixed file lent in
      let w = same_refusal in
      record {
        answer = p.answer ∙ ap (λ (n : ℕ). Numbers.answered n (job_answer j)) w;
        after =
            same_buffers
            (ap (λ (x : Buffers). x.sizes) p.after ∙ ap (λ (n : ℕ). lent_after n j.sizes lent.sizes) w)
            (c ∙ one_way (eqb R 0) lent.size_chunks ∙ ap (λ (os : List Override). lent_after R (override_chunks os) lent.size_chunks) (sym none))
            (l ∙ one_way (eqb R 0) lent.size_layers ∙ ap (λ (os : List Override). lent_after R (override_layers os) lent.size_layers) (sym none))
            (b ∙ one_way (eqb R 0) lent.size_bytes ∙ ap (λ (os : List Override). lent_after R (override_bytes os) lent.size_bytes) (sym none))
            (ap (λ (x : Buffers). x.forecast) p.after ∙ ap (λ (n : ℕ). lent_after n j.forecast lent.forecast) w);
      }
