-- Theorems. Document 02, request 14, on document 01's job A, by computation: the lines that the
-- program prints, byte by byte, and which plan they are of.
use Rattle.std.specs.Prelude.{ℕ, ◌≡◌, refl, List}
use Rattle.std.proofs.Common.{sym, ◌∙◌}
use Rattle.theory_basics.specs.Text.{ascii, digits}
use Rattle.job.specs.Job.{size_in}
use Rattle.job.specs.Theorems.{accepted_iff}
use Rattle.theory_plan.specs.Plan.{plan}
use Rattle.theory_plan.specs.Statement.{IsPlan}
use Rattle.theory_reasons.specs.Lines.{plan_text, stretch_of}
use Rattle.theory_reasons.specs.Statement.{Line, Reasons, against, carry, need, reasons_text, sentence}
use Rattle.theory_reasons.proofs.Theorems.{plan_text_lem}
use Rattle.theory_examples.specs.Worked.{A, A_accepted}

abbrev listing : List ℕ
listing =
    ascii "chunk 1 layer 0: slots 2 to 4 carry 1, need 2\nchunk 1 layer 1: layer 0 is missing\nchunk 3 layer 1: slots 4 to 6 carry 2, need 3\n"

-- The text of A,
pub A_text : plan_text A ≡ listing
unfolding plan_text plan stretch_of carry need sentence digits size_in
A_text = refl

-- so the lines of every plan of A.
pub A_reasons : (p : ℕ → ℕ) → IsPlan A p → (ls : List Line) → Reasons A p (against A p) ls → reasons_text ls ≡ listing
A_reasons p d ls r = sym (plan_text_lem A ((accepted_iff A).0 A_accepted) p d ls r) ∙ A_text
