-- Lemmas. The lent buffers of a job reader, field by field; nothing is lent for the SZs of a mixed
-- file, which has none. Assumes nothing.
use Rattle.std.specs.Prelude.{ℕ, ◌≡◌, refl, Bool, true, false, cond, List, [], map, eqb, Result}
use Rattle.std.proofs.Common.{sym, ap, ◌∙◌}
use Rattle.theory_basics.specs.Lent.{lent_after}
use Rattle.job.specs.Job.{Override}
use Rattle.jobrecords.specs.declared.ReadJob.{ReadJob}
use Rattle.jobrecords.specs.Reader.{Buffers, JobReadPromise, buffers, job_read_refusal, lent_read}
use Rattle.jobrecords.specs.Refusal.{job_of_file, mixed}
use Rattle.jobrecords.specs.Theorems.{no_overrides}

pub same_buffers : {a a' b b' c c' d d' e e' : List ℕ} → a ≡ a' → b ≡ b' → c ≡ c' → d ≡ d' → e ≡ e' → ◌≡◌ {A = Buffers} (buffers a b c d e) (buffers a' b' c' d' e')
same_buffers p q r s t = cc

-- Where there is no SZ and nothing is lent for them, nothing is there afterwards.
nothing : (f : Override → ℕ) (refused : ℕ) (os : List Override) → os ≡ [] → [] ≡ lent_after refused (map f os) []
nothing f refused os e = sym (ap (λ (l : List Override). lent_after refused (map f l) []) e ∙ either (eqb refused 0))
  where
    either : (b : Bool) → ◌≡◌ {A = List ℕ} (cond b [] []) []
    either true = refl
    either false = refl

pub nothing_lent : (file sizes forecast : List ℕ) (r : Result ReadJob ℕ) (after : Buffers) →
    JobReadPromise mixed file (buffers sizes [] [] [] forecast) r after →
    JobReadPromise mixed file (buffers sizes [] [] [] forecast) r (buffers after.sizes [] [] [] after.forecast)
unfolding lent_read
nothing_lent file sizes forecast r after p =
    let lent = buffers sizes [] [] [] forecast in
    let refused : ℕ = job_read_refusal mixed file lent in
    let os = (job_of_file mixed file).overrides in
    let none = no_overrides file in
    record {
      answer = p.answer;
      after =
          same_buffers (ap (λ (b : Buffers). b.sizes) p.after)
          (nothing (λ (o : Override). o.chunk) refused os none) (nothing (λ (o : Override). o.layer) refused os none) (nothing (λ (o : Override). o.bytes) refused os none)
          (ap (λ (b : Buffers). b.forecast) p.after);
    }
