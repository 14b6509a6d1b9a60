-- Lemmas. The parts of the report's text: a chunk's line, a layer's count, and the five parts, with
-- the room for each after those before it. Assumes nothing.
use Prim.Native.Nat.{ℕ, ◌+◌, ◌*◌, ◌/◌, ◌≤◌}
use mathlib.Core.Path.{◌≡◌}
use mathlib.Core.List.{List, [], ◌∷◌, ◌++◌}
use native.Mathlib.Omega.{arith}
use lib.ListN.{length}
use Rattle.theory_basics.specs.Lists.{up_to}
use Rattle.theory_basics.specs.Text.{ascii, digits, text, line}
use Rattle.job.specs.declared.Programme.{Programme}
use Rattle.job.specs.Job.{last_due}
use Rattle.report.specs.lemmas.Tables.{chunk_line_by, count_by, switch_by, switch_lines, lines_by}
use Rattle.core_text.specs.lemmas.Places.{Put, put_room, put_then, room_first}

-- The line of the chunk at an index.
abbrev pub chunk_piece : List ℕ → List ℕ → ℕ → ℕ → List ℕ
chunk_piece sizes table depth k = chunk_line_by sizes table depth (k + 1)

-- The count of a layer after a space.
abbrev pub count_piece : List ℕ → List ℕ → ℕ → ℕ → List ℕ
count_piece sizes table count n = 32 ∷ digits (count_by sizes table count n)

-- The five parts of the text, with the numbers that the calls before hand over, and the room for
-- each after those before it.
module _
    (p : Programme) (sizes table out : List ℕ) (depth spent left : ℕ) {last held switch : ℕ}
    (h : length (lines_by p sizes depth table spent left) ≤ length out)
    (e : last ≡ last_due p) (f : held ≡ p.limit / p.span) (g : switch ≡ switch_by sizes table depth p.chunks) where
  abbrev one : List ℕ
  one = line (ascii "slots") (digits last ∷ ascii "chunks" ∷ digits p.chunks ∷ ascii "held" ∷ digits held ∷ [])

  abbrev two : List ℕ
  two = text (up_to (λ k. chunk_line_by sizes table depth (k + 1)) p.chunks)

  abbrev three : List ℕ
  three = line (ascii "layers") (up_to (λ n. digits (count_by sizes table p.chunks n)) depth)

  abbrev four : List ℕ
  four = line (ascii "bytes") (digits spent ∷ ascii "left" ∷ digits left ∷ [])

  abbrev five : List ℕ
  five = switch_lines switch (p.chunks * p.span)

  room : 0 + length (one ++ (two ++ (three ++ (four ++ five)))) ≤ length out
  unfolding lines_by
  room = rw (e, f, g) (omega arith)

  pub room_one : 0 + length one ≤ length out
  room_one = room_first 0 one (two ++ (three ++ (four ++ five))) room

  module _ {out₁ : List ℕ} {at₁ : ℕ} (p₁ : Put out 0 one out₁ at₁) where
    room₁ : at₁ + length (two ++ (three ++ (four ++ five))) ≤ length out₁
    room₁ = put_room one (two ++ (three ++ (four ++ five))) room p₁

    pub room_two : at₁ + length two ≤ length out₁
    room_two = room_first at₁ two (three ++ (four ++ five)) room₁

    module _ {out₂ : List ℕ} {at₂ : ℕ} (p₂ : Put out₁ at₁ two out₂ at₂) where
      room₂ : at₂ + length (three ++ (four ++ five)) ≤ length out₂
      room₂ = put_room two (three ++ (four ++ five)) room₁ p₂

      pub room_three : at₂ + length three ≤ length out₂
      room_three = room_first at₂ three (four ++ five) room₂

      module _ {out₃ : List ℕ} {at₃ : ℕ} (p₃ : Put out₂ at₂ three out₃ at₃) where
        room₃ : at₃ + length (four ++ five) ≤ length out₃
        room₃ = put_room three (four ++ five) room₂ p₃

        pub room_four : at₃ + length four ≤ length out₃
        room_four = room_first at₃ four five room₃

        module _ {out₄ : List ℕ} {at₄ : ℕ} (p₄ : Put out₃ at₃ four out₄ at₄) where
          pub room_five : at₄ + length five ≤ length out₄
          room_five = put_room four five room₃ p₄

          pub whole : {out₅ : List ℕ} {at₅ : ℕ} → Put out₄ at₄ five out₅ at₅ → Put out 0 (lines_by p sizes depth table spent left) out₅ at₅
          unfolding lines_by
          whole p₅ =
              rw (← e, ← f, ← g)
              (put_then one (two ++ (three ++ (four ++ five))) room p₁ (put_then two (three ++ (four ++ five)) room₁ p₂ (put_then three (four ++ five) room₂ p₃ (put_then four five room₃ p₄ p₅))))
