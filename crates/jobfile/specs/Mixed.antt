-- Theorems. Document 01: "`PG` may stand anywhere before `EN`, and `LY` and `BW` may mix." A string
-- of bytes is taken as a mixed file exactly if it is records and `EN`, one `PG` among them, no run
-- empty, and the job that they say is accepted: every arrangement is taken.
use Rattle.std.specs.Prelude.{ℕ, ◌≡◌, refl, List, [], ◌↔◌, length}
use Rattle.std.proofs.Common.{sym, ap, subst, ◌∙◌, le-leb}
use Rattle.records.specs.Fields.{Bytes}
use Rattle.records.specs.File.{Split, split}
use Rattle.records.specs.lemmas.Written.{split_written, refusal_written}
use Rattle.records.specs.lemmas.Exact.{split_exact, none_end}
use Rattle.jobrecords.specs.declared.Record.{Record}
use Rattle.jobrecords.specs.declared.Record.TheVariants.{En}
use Rattle.jobrecords.specs.Records.{encode}
use Rattle.jobrecords.specs.Says.{job_in}
use Rattle.jobrecords.specs.Refusal.{mixed, format, refusal_of, job_of_file}
use Rattle.jobrecords.specs.Theorems.{file_accepted}
use Rattle.jobrecords.specs.lemmas.Clean.{taken}
use Rattle.jobrecords.specs.lemmas.Exact.{exact}
use Rattle.jobrecords.specs.lemmas.Mixed.{none_mixed}
use Rattle.jobfile.specs.Arranged.{Arranged, Arrangement, with_end}
use Rattle.jobfile.specs.lemmas.Back.{end_back}
use Rattle.jobfile.specs.lemmas.Arranged.{all_good, all_plain, few_bytes, no_faults, nothing_lacks, once, stand}

-- Every arrangement is taken, and says the job of its records.
pub record TakenAs (rs : List Record) : Type 0 where
  pub not_refused : refusal_of mixed (with_end rs) ≡ 0
  pub says : job_of_file mixed (with_end rs) ≡ job_in rs

pub every_arrangement : (rs : List Record) → Arrangement rs → TakenAs rs
every_arrangement rs a =
    let good = all_good rs a.kinds a.one_programme a.accepted in
    let plain = all_plain rs good in
    record {
      not_refused =
          refusal_written (format mixed) encode En (end_back mixed) refl rs plain
          ∙ rw (le-leb (length (with_end rs)) 65536 (few_bytes rs good a.one_programme a.accepted), no_faults rs good a.one_programme a.accepted)
          (nothing_lacks rs a.one_programme a.accepted);
      says = ap (λ (f : Split Record). job_in f.records) (split_written (format mixed) encode En (end_back mixed) refl rs plain);
    }

-- And nothing else is.
pub mixed_taken_iff : (s : List ℕ) → Bytes s → (refusal_of mixed s ≡ 0) ↔ Arranged s
mixed_taken_iff s b = (
  λ e.
      let t = taken mixed s e in
      let rs = (split (format mixed) s).records in
      record {
        records = rs;
        arrangement = record {
          kinds = stand [] rs t.no_faults (none_end (format mixed) s) (none_mixed s);
          one_programme = once rs t.no_faults t.none_lacking;
          accepted = file_accepted mixed s e;
        };
        is = sym (split_exact (format mixed) encode En (exact mixed) s b t.ends);
      },
  λ a. subst (λ (t : List ℕ). refusal_of mixed t ≡ 0) a.is (every_arrangement a.records a.arrangement).not_refused,
)
