-- Theorems. Film with uneven chunks: how many SZs a job can have, chunk 1's own sizes, that chunks
-- are equal exactly if there is no SZ, and that then their bases are.
use Rattle.std.specs.Prelude.{ℕ, ◌≤◌, ◌≡◌, refl, List, [], ◌∷◌, ◌↔◌, length, get_or}
use Rattle.std.proofs.Common.{sym, subst, ◌∙◌, inl, arith}
use Rattle.theory_basics.specs.Tests.{All}
use Rattle.theory_basics.specs.lemmas.Tests.{all_map}
use Rattle.job.specs.Job.{Job, Override, Named, Layer, Accepted, EqualBases, EqualChunks, chunks, layers, size}
use Rattle.job.specs.lemmas.Spots.{Spot, spots, few, Other, own_where, own_size, head_size}

-- "A file can hold more SZs than any valid job": at most 1,996.
pub overrides_few : (j : Job) → Accepted j → length j.overrides ≤ 1996
overrides_few j a = omega (arith, few (chunks j) j.overrides a.chunks_in.low a.overrides_rise (spots j a), a.chunks_in.high)

-- `LY` gives chunk 1's own.
pub size_one : (j : Job) → Accepted j → (n : ℕ) → size j 1 n ≡ get_or j.sizes n 0
size_one j a n = own_where j.sizes j.overrides 1 n (all_map (Spot (chunks j)) (Other 1 n) j.overrides (λ o s. inl (λ e. omega (arith, s.low))) (spots j a))

-- Chunks are equal exactly if there is no SZ.
pub equal_iff : (j : Job) → Accepted j → EqualChunks j ↔ (j.overrides ≡ [])
equal_iff j a = (λ e. by_list e j.overrides refl, λ none i k n x y. rw none (own_size j.sizes i n ∙ sym (own_size j.sizes k n))) where
  by_list : EqualChunks j → (os : List Override) → j.overrides ≡ os → os ≡ []
  by_list e [] i = refl
  by_list e (o ∷ os) i =
      let named = (subst (λ (l : List Override). All (Named j.programme j.sizes) l) i a.overrides_named).0 in
      let here : Layer j o.chunk o.layer = record { chunk_low = omega (arith, named.chunk_in.low); chunk_high = named.chunk_in.high; layer_in = named.layer_in } in
      let one : Layer j 1 o.layer = record { chunk_low = omega arith; chunk_high = a.chunks_in.low; layer_in = named.layer_in } in
      let its : size j o.chunk o.layer ≡ o.bytes = rw i (head_size j.sizes o os) in
      absurd (named.not_own (sym its ∙ e o.chunk 1 o.layer here one ∙ size_one j a o.layer))

-- Of equal chunks the bases are.
pub equal_chunks_bases : (j : Job) → 1 ≤ layers j → EqualChunks j → EqualBases j
equal_chunks_bases j some equal i k u v =
    equal i k 0
    (record { chunk_low = u.low; chunk_high = u.high; layer_in = some })
    (record { chunk_low = v.low; chunk_high = v.high; layer_in = some })
