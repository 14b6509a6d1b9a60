-- Lemmas. What the functions hand each other: tables of 500 places whose end, from a first place
-- on, holds chunks in playing order, and tables by chunk. The definitions behind them are those of
-- theory_plan, Trials, and theory_replan, Passes.
use Rattle.std.specs.Prelude.{ℕ, zero, suc, ◌+◌, ◌-◌, ◌≤◌, ◌<◌, ◌≡◌, Bool, true, false, cond, ◌&&◌, List, [], ◌∷◌, map, ◌⊎◌, length, get_or, set, drop, leb, eqb}
use Rattle.job.specs.Job.{due_slot, last_due}
use Rattle.job.specs.declared.Programme.{Programme}
use Rattle.theory_plan.specs.Plan.{picked}
use Rattle.theory_plan.specs.lemmas.Parts.{at}
use Rattle.theory_plan.specs.lemmas.Trials.{candidate, keeps, Stack}
use Rattle.theory_replan.specs.lemmas.Passes.{bases_new}
use Rattle.core_decide.specs.lemmas.Decision.{Sums}
use Rattle.theory_plan.specs.Bases.{Asc}

-- ---- tables

-- A table read as a function of the chunk number: chunk 1 has place 0.
abbrev pub of : List ℕ → ℕ → ℕ
of l i = get_or l (i - 1) 0

-- What is left of the base of chunk i, of what is left of each layer.
abbrev pub base_of : (ℕ → ℕ → ℕ) → ℕ → ℕ
base_of left i = left i 0

-- No layer has more than 16,777,216 bytes left.
abbrev pub Small : (ℕ → ℕ → ℕ) → Type 0
Small left = (i n : ℕ) → left i n ≤ 16777216

-- A programme whose due slots are slots of a forecast.
pub record Fine (p : Programme) : Type 0 where
  pub few : p.chunks ≤ 500
  pub late : 1 ≤ p.delay
  pub ends : last_due p ≤ 3600

-- ---- the begun chunks

-- Chunk i is begun, by its flag, and due from slot start on.
abbrev pub is_begun : Programme → ℕ → List ℕ → ℕ → Bool
is_begun p start begun i = eqb (of begun i) 1 && leb start (due_slot p i)

-- What is forecast from the due slot of chunk b on.
abbrev pub cap_of : Programme → List ℕ → ℕ → ℕ
cap_of p after b = at after (due_slot p b - 1)

-- The last begun chunk, or 0.
pub record LastBegunPost (p : Programme) (begun : List ℕ) (last : ℕ) : Type 0 where
  pub within : last ≤ p.chunks
  pub behind : (i : ℕ) → last < i → i ≤ p.chunks → eqb (of begun i) 1 ≡ false
  pub top : (last ≡ 0) ⊎ (eqb (of begun last) 1 ≡ true)

pub record FindFrontPre (p : Programme) (last : ℕ) (begun after front caps : List ℕ) : Type 0 where
  pub fine : Fine p
  pub within : last ≤ p.chunks
  pub long : (length begun ≡ 500) × (length after ≡ 3601) × (length front ≡ 500) × (length caps ≡ 500)

-- The begun chunks up to last that are due from start on, and their caps.
pub record FindFrontPost (p : Programme) (start last : ℕ) (begun after : List ℕ) (head : ℕ) (front caps : List ℕ) : Type 0 where
  pub within : head ≤ 500
  pub chunks : drop head front ≡ picked (is_begun p start begun) 0 last
  pub caps_are : drop head caps ≡ map (cap_of p after) (drop head front)
  pub ascending : Asc 1 last (drop head front)
  pub room : 500 ≤ head + last
  pub long : (length front ≡ 500) × (length caps ≡ 500)

-- ---- the new bases

-- What the caps of the begun chunks ask of the needs of those behind them.
abbrev pub caps_ok : ℕ → List ℕ → List ℕ → Bool
caps_ok h [] ns = true
caps_ok h (c ∷ cs) ns = leb (get_or ns (h - length (c ∷ cs)) 0) c && caps_ok h cs ns

-- As basesNew of theory_replan, Passes, with the caps for the begun chunks.
module _ (s d A : ℕ → ℕ) (p h : ℕ) (cs : List ℕ) where
  abbrev pub keeps_caps : List ℕ → ℕ → Bool
  keeps_caps ns i = leb p (d i) && (keeps s d A h ns i && caps_ok h cs (candidate s d A ns i ∷ ns))

  abbrev pub push_caps : Stack → ℕ → Stack
  push_caps o i = cond (keeps_caps o.needs i) (record { needs = candidate s d A o.needs i ∷ o.needs; chunks = i ∷ o.chunks }) o

  abbrev pub bases_caps : ℕ → ℕ → Stack
  bases_caps lo zero = record { needs = []; chunks = [] }
  bases_caps lo (suc m) = push_caps (bases_caps (suc lo) m) (suc lo)

-- The caps fall from place to place.
abbrev pub Falls : List ℕ → ℕ → Type 0
Falls caps head = (x y : ℕ) → head ≤ x → x ≤ y → y < 500 → get_or caps y 0 ≤ get_or caps x 0

-- What the need in front is held to at once: the caps of the begun chunks that stand h places
-- before it or more.
pub record NeedCapPost (h : ℕ) (caps : List ℕ) (head cap : ℕ) : Type 0 where
  pub is : (x : ℕ) → head ≤ x → x < 500 → h ≤ 500 - x → (c : ℕ) → c ≤ cap → c ≤ 60414754816 → c ≤ get_or caps x 0
  pub only : (c : ℕ) → c ≤ 60414754816 → cap < c → ((x : ℕ) → head ≤ x → x < 500 → h ≤ 500 - x → c ≤ get_or caps x 0) → ⊥

-- From g down to the first place from which on the caps are below c.
pub record PlacesBelowPost (caps : List ℕ) (head edge c edge' : ℕ) : Type 0 where
  pub low : head ≤ edge'
  pub high : edge' ≤ edge
  pub above : (x : ℕ) → edge' ≤ x → x < edge → get_or caps x 0 < c
  pub last : head < edge' → c ≤ get_or caps (edge' - 1) 0

-- One new chunk is tested, in front of the kept ones: roof and floor say what the begun chunks ask.
pub record CanKeepPre (p : Programme) (held : ℕ) (left : ℕ → ℕ → ℕ) (after : List ℕ) (i first : ℕ) (needs : List ℕ) : Type 0 where
  pub fine : Fine p
  pub most_held : held ≤ 65535
  pub small : Small left
  pub sums : Sums after
  pub some : 1 ≤ i
  pub in_job : i ≤ p.chunks
  pub room : i ≤ first
  pub within : first ≤ 500
  pub top : get_or needs first 0 ≤ get_or after 0 0
  pub long : (length after ≡ 3601) × (length needs ≡ 500)

pub record CanKeepPost (p : Programme) (start held : ℕ) (left : ℕ → ℕ → ℕ) (after : List ℕ) (cap lowest i first : ℕ) (needs needs' : List ℕ) (r : Bool) : Type 0 where
  pub is :
      r ≡ leb start (due_slot p i) && (keeps (base_of left) (due_slot p) (at after) held (drop first needs) i
      && (leb lowest (first - 1) && leb (candidate (base_of left) (due_slot p) (at after) (drop first needs) i) cap))
  pub wrote : needs' ≡ set needs (first - 1) (candidate (base_of left) (due_slot p) (at after) (drop first needs) i)

pub record NewBasesPre (p : Programme) (held last : ℕ) (left : ℕ → ℕ → ℕ) (after caps : List ℕ) (head : ℕ) (ids dues bytes mark needs : List ℕ) : Type 0 where
  pub fine : Fine p
  pub most_held : held ≤ 65535
  pub within : last ≤ p.chunks
  pub small : Small left
  pub sums : Sums after
  pub fb_in : head ≤ 500
  pub falls : Falls caps head
  pub long : (length after ≡ 3601) × (length caps ≡ 500) × (length ids ≡ 500) × (length dues ≡ 500) × (length bytes ≡ 500) × (length mark ≡ 500) × (length needs ≡ 500)

-- The new chunks that are kept, with their due slots, bytes and marks, and what they use up.
pub record NewBasesPost (p : Programme) (start held last : ℕ) (left : ℕ → ℕ → ℕ) (after caps : List ℕ) (head first : ℕ) (ids dues bytes mark needs : List ℕ) : Type 0 where
  pub within : first ≤ 500
  -- Whatever begun chunks have these caps: the pass of theory_replan, Passes.
  pub kept :
      (bs : List ℕ) → drop head caps ≡ map (cap_of p after) bs →
      record { needs = drop first needs; chunks = drop first ids } ≡ bases_new (base_of left) (due_slot p) (at after) start held bs last (p.chunks - last)
  pub due_slots : drop first dues ≡ map (due_slot p) (drop first ids)
  pub base_bytes : drop first bytes ≡ map (base_of left) (drop first ids)
  pub marks : drop first mark ≡ map (λ k. 1) (drop first ids)
  pub ascending : Asc (suc last) p.chunks (drop first ids)
  pub room : last ≤ first
  pub top : get_or needs first 0 ≤ get_or after 0 0
  pub long : (length ids ≡ 500) × (length dues ≡ 500) × (length bytes ≡ 500) × (length mark ≡ 500) × (length needs ≡ 500)
