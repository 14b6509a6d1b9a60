-- Lemmas. A text's answer and slice as one number and a slice. Assumes nothing.
use Rattle.std.specs.Prelude.{ℕ, ◌≡◌, List, length, Result}
use Rattle.std.proofs.Common.{◌∙◌}
use Rattle.refusals.specs.declared.Refusal.{Refusal}
use Rattle.refusals.specs.Numbers.{by_number}
use Rattle.whole_files.specs.Calls.{TextPromise, with_room}
use Rattle.core_ffi.specs.Programs.{TextReturned}
use Rattle.core_ffi.specs.lemmas.Numbers.{answer_number, numbered}

pub text_handed : {refused : ℕ} {text old new : List ℕ} {a : Result ℕ Refusal} {r : ℕ} → r ≡ answer_number (by_number a) → TextPromise refused text old a new → TextReturned refused text old r new
text_handed {refused} {text} {old} {new} {a} g w = record { number = g ∙ numbered (λ (n : ℕ). n) (with_room refused text old) (length text) (by_number a) w.answer; buffer = w.buffer }
