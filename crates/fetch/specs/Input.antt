-- Meaning, then its theorem. Refusal 8 of a direct call: "8 for marks that aren't one byte a chunk
-- or a row not handed whole". A row is handed whole if the four slices of the list have one length.
use Rattle.std.specs.Prelude.{ℕ, ◌≡◌, ◌&&◌, List, ◌↔◌, length, eqb}
use Rattle.std.proofs.Common.{arith}
use Rattle.theory_basics.specs.lemmas.Tests.{eqb_iff}
use Rattle.theory_basics.specs.Refusals.{unless}
use Rattle.theory_basics.specs.lemmas.Refusals.{and_as, unless_as}

-- One mark byte a chunk, and every row whole.
pub record Whole (count : ℕ) (marks slots chunks layers bytes : List ℕ) : Type 0 where
  pub byte_each : length marks ≡ count
  pub chunk_each : length slots ≡ length chunks
  pub layer_each : length slots ≡ length layers
  pub bytes_each : length slots ≡ length bytes

-- 8, by the number of chunks, the marks and the four slices.
unfoldable pub list_refusal : ℕ → List ℕ → List ℕ → List ℕ → List ℕ → List ℕ → ℕ
list_refusal count marks slots chunks layers bytes =
    unless 8 (eqb (length marks) count && (eqb (length slots) (length chunks) && (eqb (length slots) (length layers) && eqb (length slots) (length bytes))))

-- No refusal 8 exactly if there is one mark byte a chunk and every row is whole.
pub whole_iff : (count : ℕ) (marks slots chunks layers bytes : List ℕ) → (list_refusal count marks slots chunks layers bytes ≡ 0) ↔ Whole count marks slots chunks layers bytes
unfolding list_refusal
whole_iff count marks slots chunks layers bytes =
    let m = eqb (length marks) count in
    let c = eqb (length slots) (length chunks) in
    let l = eqb (length slots) (length layers) in
    let b = eqb (length slots) (length bytes) in
    let r = unless_as 8 (m && (c && (l && b))) (omega arith) (and_as m (c && (l && b)) (eqb_iff (length marks) count) (and_as c (l && b) (eqb_iff (length slots) (length chunks)) (and_as l b (eqb_iff (length slots) (length layers)) (eqb_iff (length slots) (length bytes))))) in (
      λ e. let u = r.0 e in record { byte_each = u.0; chunk_each = u.1.0; layer_each = u.1.1.0; bytes_each = u.1.1.1 },
      λ w. r.1 (w.byte_each, (w.chunk_each, (w.layer_each, w.bytes_each))),
    )
