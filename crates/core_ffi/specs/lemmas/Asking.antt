-- Lemmas. The answer of what to fetch next as one number. Assumes nothing.
use Rattle.std.specs.Prelude.{ℕ, ◌≡◌, length, Result}
use Rattle.std.proofs.Common.{◌∙◌}
use Rattle.refusals.specs.declared.Refusal.{Refusal}
use Rattle.refusals.specs.Numbers.{by_number}
use Rattle.live.specs.Answer.{LiveInput, LivePromise, PieceSlices, pieces, refusal}
use Rattle.core_ffi.specs.Asks.{LiveReturned}
use Rattle.core_ffi.specs.lemmas.Numbers.{answer_number, numbered}

pub asked_of : {i : LiveInput} {l l' : PieceSlices} {a : Result ℕ Refusal} {r : ℕ} → r ≡ answer_number (by_number a) → LivePromise i l a l' → LiveReturned i l r l'
asked_of {i} {l} {l'} {a} e p =
    let h = p.output in
    record {
      number = e ∙ numbered (λ (n : ℕ). n) (refusal i l) (length (pieces i)) (by_number a) h.answer;
      chunks_are = h.chunks_are;
      layers_are = h.layers_are;
      bytes_are = h.bytes_are;
    }
