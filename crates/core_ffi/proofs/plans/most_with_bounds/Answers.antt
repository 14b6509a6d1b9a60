use Rattle.std.proofs.Common.{arith, refl, inl, inr}
use Rattle.std.proofs.lemmas.Result.{err_from_is_err_and}
use Rattle.job.specs.Handed.{handed}
use Rattle.core_ffi.specs.lemmas.Pictures.{most_short, most_whole}
use Rattle.core_ffi.proofs.Chunks.{byte_is, kept, put}
use Rattle.core_ffi.proofs.plans.most_with_bounds.Goals as goal

pub returns-in_default-clause-returned : goal.returns-in_default-clause-returned
returns-in_default-clause-returned c = most_short _ _ _ _ _ (inl c.in_default.ensures.cases) c.refuse_short.ensures

pub returns-in_default-first_chunk_mut-clause-returned : goal.returns-in_default-first_chunk_mut-clause-returned
returns-in_default-first_chunk_mut-clause-returned c =
    rw (kept c.in-Some.ensures.cases) (most_short _ _ _ _ _ (inr c.in_default-first_chunk_mut.ensures.cases) c.refuse_short-in_default-first_chunk_mut.ensures)

pub returns-in_err-found-clause-returned : goal.returns-in_err-found-clause-returned
returns-in_err-found-clause-returned c =
    let p = err_from_is_err_and c.from_residual.result c.from_residual.ensures.1 in
    rw (p.1, p.2) (most_whole _ _ _ _ _ _ _ _ _ c.in-Some.ensures.cases.enough c.in-Some-first_chunk_mut.ensures.cases.enough c.in_err-found.ensures.promise (kept c.in-Some.ensures.cases) (kept c.in-Some-first_chunk_mut.ensures.cases) refl)

pub returns-clause-returned : goal.returns-clause-returned
returns-clause-returned c =
    rw (byte_is c.in_ok-found.found.exact) (most_whole _ _ _ _ _ _ _ _ _ c.in-Some.ensures.cases.enough c.in-Some-first_chunk_mut.ensures.cases.enough c.in_ok-found.ensures.promise (put c.in_ok-found.found.counts c.args.counts.now 4 (omega arith)) refl refl)
