use Rattle.std.proofs.Common.{ap, ap₂, subst, sym, inl, inr, refl, rules}
use Rattle.std.proofs.lemmas.Result.{err_from_is_err_and}
use Rattle.jobrecords.specs.Handed.{lent_job}
use Rattle.core_ffi.specs.Files.{JobReadReturned, job_room}
use Rattle.core_ffi.specs.lemmas.Reading.{read_short, read_whole}
use Rattle.core_ffi.proofs.Chunks.{kept}
use Rattle.core_ffi.proofs.files.read_with_lengths.Goals as goal

pub returns-in_default-clause-returned : goal.returns-in_default-clause-returned
returns-in_default-clause-returned c = read_short _ _ _ _ (inl c.in_default.ensures.cases) c.read_short.ensures

pub returns-in_default-first_chunk_mut-clause-returned : goal.returns-in_default-first_chunk_mut-clause-returned
returns-in_default-first_chunk_mut-clause-returned c =
    rw (kept c.in-Some.ensures.cases) (read_short _ _ _ _ (inr c.in_default-first_chunk_mut.ensures.cases) c.read_short-in_default-first_chunk_mut.ensures)

pub returns-in_err-read-clause-returned : goal.returns-in_err-read-clause-returned
returns-in_err-read-clause-returned c =
    let p = err_from_is_err_and c.from_residual.result c.from_residual.ensures.1 in
    rw (p.1, p.2) (read_whole _ _ _ _ _ _ c.in-Some.ensures.cases.enough c.in-Some-first_chunk_mut.ensures.cases.enough c.in_err-read.ensures.promise (kept c.in-Some.ensures.cases) (kept c.in-Some-first_chunk_mut.ensures.cases) refl)

pub returns-clause-returned : goal.returns-clause-returned
returns-clause-returned c =
    read_whole _ _ _ _ _ _ c.in-Some.ensures.cases.enough c.in-Some-first_chunk_mut.ensures.cases.enough c.in_ok-read.ensures.promise refl refl refl
