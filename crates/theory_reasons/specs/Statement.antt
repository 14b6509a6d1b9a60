-- Meaning. The reason under each missing layer: document 02, request 14. A choice says of each
-- chunk how many layers it carries, from the base up (Statement of crate theory_plan); its kept
-- chunks are those with at least one.
use Rattle.std.specs.Prelude.{ℕ, zero, suc, ◌+◌, ◌≤◌, ◌<◌, min, ◌≡◌, cond, ◌&&◌, List, [], ◌∷◌, ◌++◌, map, ◌⊎◌, leb, ltb, eqb, replicate}
use Rattle.theory_basics.specs.Sums.{pre}
use Rattle.job.specs.Job.{Job, Layer, chunks, due, forecast, held_most, last_slot, layers}
use Rattle.theory_basics.specs.Tests.{All}
use Rattle.theory_basics.specs.Text.{ascii, digits, line, text}
use Rattle.theory_plan.specs.Plan.{by_moore_hodgson, bytes, kept, tried}

-- ---- carry and need

-- "Carry is the forecast of the slots named": of the slots a to b.
unfoldable pub carry : Job → ℕ → ℕ → ℕ
carry j a b = pre (λ t. cond (leb a t) (forecast j t) 0) b

-- "In playing order the first H kept chunks can begin in slot 1, each later one from the due slot
-- of the kept chunk H places before it": the slots from which they can begin, in turn.
abbrev pub begin_slots : Job → List ℕ → List ℕ
begin_slots j kept = replicate (held_most j) 1 ++ map (due j) kept

-- The bytes of the chunks that can't begin before slot a and are due by slot b, of the kept ones,
-- each with the slot from which it can begin.
abbrev pub bytes_needed : Job → (ℕ → ℕ) → (a b : ℕ) → (begins kept : List ℕ) → ℕ
bytes_needed j choice a b ss [] = 0
bytes_needed j choice a b [] (k ∷ ks) = 0
bytes_needed j choice a b (s ∷ ss) (k ∷ ks) =
    cond (leb a s && leb (due j k) b) (bytes j choice k) 0 + bytes_needed j choice a b ss ks

-- "Need is the bytes .. of chunks that can't begin before the first slot named and are due by the
-- last one." All of them count, also where several can begin from the same slot.
unfoldable pub need : Job → (ℕ → ℕ) → ℕ → ℕ → ℕ
need j choice a b = bytes_needed j choice a b (begin_slots j (kept j choice)) (kept j choice)

-- ---- the stretch named

-- The slots a to b, and "need exceeds carry".
pub record Short (j : Job) (choice : ℕ → ℕ) (a b : ℕ) : Type 0 where
  pub first_slot : 1 ≤ a
  pub in_order : a ≤ b
  pub last_slot_lem : b ≤ last_slot j
  pub exceeds : carry j a b < need j choice a b

-- "Of several, the smallest last slot is named, then the greatest first slot."
pub record Named (j : Job) (choice : ℕ → ℕ) (a b : ℕ) : Type 0 where
  pub short : Short j choice a b
  pub smallest_last : (a' b' : ℕ) → Short j choice a' b' → b ≤ b'
  pub greatest_first : (a' : ℕ) → Short j choice a' b → a' ≤ a

-- ---- against which choice

-- "with this layer added to those settled as carried before it".
abbrev pub settled_before : (ℕ → ℕ) → ℕ → ℕ → ℕ → ℕ
settled_before plan i n = tried plan n i

-- "for bases settled by request 9, against all bases kept": the bases that the plan carries, and
-- this one; upper layers as before.
abbrev pub all_bases : (ℕ → ℕ) → ℕ → ℕ → ℕ
all_bases plan i k = cond (eqb k i) 1 (min (plan k) 1)

abbrev pub all_bases_kept : (ℕ → ℕ) → ℕ → ℕ → ℕ → ℕ
all_bases_kept plan i zero = all_bases plan i
all_bases_kept plan i (suc n) = tried plan (suc n) i

-- What a missing layer of the plan is held against: "for bases settled by request 9, against all
-- bases kept", else against what was settled before. Upper layers are the same in both.
abbrev pub against : Job → (ℕ → ℕ) → ℕ → ℕ → ℕ → ℕ
against j plan = cond (by_moore_hodgson j) (all_bases_kept plan) (settled_before plan)

-- ---- the lines

-- A line of either kind: chunk, layer, first and last slot, carry and need; or chunk, layer and the
-- lower layer that is missing.
pub data Line : Type 0 where
  short : (chunk layer first last carry need : ℕ) → Line
  lower : (chunk layer below : ℕ) → Line

-- "The second is for a layer whose next lower one is missing, and names that one."
pub record LowerMissing (plan : ℕ → ℕ) (i n below : ℕ) : Type 0 where
  pub next_lower : n ≡ suc below
  pub missing : plan i ≤ below

-- The first is for the others: the layers below n are carried. Against a choice it names the
-- stretch, its carry and its need.
pub record TooLittle (j : Job) (plan choice : ℕ → ℕ) (i n first last carried needed : ℕ) : Type 0 where
  pub lower_carried : n ≤ plan i
  pub stretch : Named j choice first last
  pub carry_is : carried ≡ carry j first last
  pub need_is : needed ≡ need j choice first last

-- The line is the reason under layer n of chunk i. `against i n` is the choice with this layer
-- added.
abbrev pub Reason : Job → (ℕ → ℕ) → (ℕ → ℕ → ℕ → ℕ) → ℕ → ℕ → Line → Type 0
Reason j plan against i n (short i' n' a b carried needed) = (i' ≡ i) × (n' ≡ n) × TooLittle j plan (against i n) i n a b carried needed
Reason j plan against i n (lower i' n' below) = (i' ≡ i) × (n' ≡ n) × LowerMissing plan i n below

-- ---- "by chunk and then layer, for each layer of the job that its plan doesn't carry"

-- Layer `layer` of chunk `chunk`.
pub record Place : Type 0 where
  pub chunk : ℕ
  pub layer : ℕ

-- The layers below n of chunk i that the plan doesn't carry.
abbrev pub missing_of : (ℕ → ℕ) → ℕ → ℕ → List Place
missing_of plan i zero = []
missing_of plan i (suc n) = missing_of plan i n ++ cond (ltb n (plan i)) [] (record { chunk = i; layer = n } ∷ [])

-- The layers below n of the chunks 1 to i that the plan doesn't carry.
abbrev pub missing_to : (ℕ → ℕ) → ℕ → ℕ → List Place
missing_to plan n zero = []
missing_to plan n (suc i) = missing_to plan n i ++ missing_of plan (suc i) n

abbrev pub missing : Job → (ℕ → ℕ) → List Place
missing j plan = missing_to plan (layers j) (chunks j)

-- What this list has is a theorem (`missing_iff`, `missing_in_turn`): each missing layer of the
-- job,
pub record IsMissing (j : Job) (plan : ℕ → ℕ) (x : Place) : Type 0 where
  pub layer : Layer j x.chunk x.layer
  pub not_carried : plan x.chunk ≤ x.layer

-- "by chunk and then layer".
abbrev pub PlaceBefore : Place → Place → Type 0
PlaceBefore x y = (x.chunk < y.chunk) ⊎ ((x.chunk ≡ y.chunk) × (x.layer < y.layer))

abbrev pub InTurn : List Place → Type 0
InTurn [] = Unit {0}
InTurn (x ∷ xs) = All (PlaceBefore x) xs × InTurn xs

-- One line under each place, in turn.
abbrev pub Under : (ℕ → ℕ → Line → Type 0) → List Place → List Line → Type 0
Under R [] [] = Unit {0}
Under R [] (l ∷ ls) = ⊥
Under R (x ∷ xs) [] = ⊥
Under R (x ∷ xs) (l ∷ ls) = R x.chunk x.layer l × Under R xs ls

-- The lines that the program prints for a plan.
abbrev pub Reasons : Job → (ℕ → ℕ) → (ℕ → ℕ → ℕ → ℕ) → List Line → Type 0
Reasons j plan against = Under (Reason j plan against) (missing j plan)

-- ---- the text

-- The words after `chunk`: `chunk 1 layer 0: slots 2 to 4 carry 1, need 2` or `chunk 1 layer 1:
-- layer 0 is missing`.
abbrev pub words : Line → List (List ℕ)
words (short i n a b c m) =
    digits i
    ∷ ascii "layer"
    ∷ (digits n ++ ascii ":")
    ∷ ascii "slots"
    ∷ digits a
    ∷ ascii "to"
    ∷ digits b
    ∷ ascii "carry"
    ∷ (digits c ++ ascii ",")
    ∷ ascii "need"
    ∷ digits m
    ∷ []
words (lower i n below) =
    digits i ∷ ascii "layer" ∷ (digits n ++ ascii ":") ∷ ascii "layer" ∷ digits below ∷ ascii "is" ∷ ascii "missing" ∷ []

-- A sentence, with its line feed.
unfoldable pub sentence : Line → List ℕ
sentence l = line (ascii "chunk") (words l)

-- The whole output.
abbrev pub reasons_text : List Line → List ℕ
reasons_text ls = text (map sentence ls)
