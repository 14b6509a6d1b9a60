-- Lemmas. The pass over the begun chunks, from the last to the first: what each keeps of its base,
-- and its bytes and mark with it.
use Rattle.std.specs.Prelude.{ℕ, ◌+◌, ◌≤◌, max, ◌≡◌, refl, Bool, true, false, cond, List, [], ◌∷◌, ◌++◌, length, drop, leb}
use Rattle.theory_basics.specs.Tests.{All}
use Rattle.job.specs.Job.{due_slot, Within}
use Rattle.job.specs.declared.Programme.{Programme}
use Rattle.fetch.specs.Marks.{bit}
use Rattle.theory_plan.specs.lemmas.Parts.{at}
use Rattle.theory_plan.specs.lemmas.Trials.{Kept, Tried}
use Rattle.theory_replan.specs.lemmas.Passes.{bases_begun, Begun}
use Rattle.core_decide.specs.lemmas.Decision.{kept_of, Slot, Sums}
use Rattle.core_replan_decide.specs.declared.Chosen.{Chosen}
use Rattle.core_replan_decide.specs.lemmas.Tables.{base_of, Fine, of, Small}

-- A begun chunk with whole layers w, z left of its base, that behind it wants so much, where all is
-- forecast from p on: its whole layers at no cost, or its base if what is left of it fits, or
-- nothing.
abbrev pub choose : ℕ → ℕ → ℕ → ℕ → Chosen
choose w z want all =
    cond (bit w 0) (record { need = want; bytes = 0; mark = w })
    (cond (leb (z + want) all) (record { need = z + want; bytes = z; mark = 1 }) (record { need = want; bytes = 0; mark = 0 }))

-- s: what is left of the base; d: due slot; A: what is forecast after a slot; w: the mark of the
-- whole layers; cap: what is forecast from p on.
module _ (s d A w : ℕ → ℕ) (cap : ℕ) where
  abbrev pub front_one : ℕ → Tried → Tried
  front_one b o =
      let c : Chosen = choose (w b) (s b) (max (A (d b)) o.need) cap in
      record { need = c.need; kept = record { chunk = b; due = d b; bytes = c.bytes; mark = c.mark } ∷ o.kept }

  -- From the last to the first, behind them a need of n and the chunks ks.
  abbrev pub scan_front : ℕ → List Kept → List ℕ → Tried
  scan_front n ks [] = record { need = n; kept = ks }
  scan_front n ks (b ∷ bs) = front_one b (scan_front n ks bs)

-- The chunks of a list that carry their base.
abbrev pub based : List Kept → List ℕ
based [] = []
based (k ∷ ks) = cond (bit k.mark 0) (k.chunk ∷ based ks) (based ks)

-- The walk is the pass of theory_replan, Passes: the same need, and the same begun chunks keep
-- their base.
pub scan_is_begun :
    (s d A w : ℕ → ℕ) (cap n : ℕ) (bs : List ℕ) →
    bases_begun s d A (λ b. bit (w b) 0) cap n bs ≡ record { need = (scan_front s d A w cap n [] bs).need; kept = based (scan_front s d A w cap n [] bs).kept }
scan_is_begun s d A w cap n [] = refl
scan_is_begun s d A w cap n (b ∷ bs) =
    let o = scan_front s d A w cap n [] bs in
    rw (scan_is_begun s d A w cap n bs) (one (bit (w b) 0) (leb (s b + max (A (d b)) o.need) cap) (w b) refl o)
  where
    one :
        (x y : Bool) (m : ℕ) → bit m 0 ≡ x → (o : Tried) →
        let want : ℕ = max (A (d b)) o.need in
        let c : Chosen = cond x (record { need = want; bytes = 0; mark = m }) (cond y (record { need = s b + want; bytes = s b; mark = 1 }) (record { need = want; bytes = 0; mark = 0 })) in
        ◌≡◌ {A = Begun}
        (cond x (record { need = want; kept = b ∷ based o.kept }) (cond y (record { need = s b + want; kept = b ∷ based o.kept }) (record { need = want; kept = based o.kept })))
        (record { need = c.need; kept = cond (bit c.mark 0) (b ∷ based o.kept) (based o.kept) })
    one true y m e o = rw e
    one false true m e o = refl
    one false false m e o = refl

pub record KeepBegunPre (p : Programme) (left : ℕ → ℕ → ℕ) (whole after front : List ℕ) (head need from : ℕ) (ids dues bytes mark : List ℕ) : Type 0 where
  pub fine : Fine p
  pub small : Small left
  pub sums : Sums after
  pub fb_in : head ≤ 500
  pub chunks_in : All (Within 1 p.chunks) (drop head front)
  pub need_in : need ≤ 60397977600
  pub room : 500 ≤ head + from
  pub within : from ≤ 500
  pub ids_in : All (Within 1 p.chunks) (drop from ids)
  pub slots : All Slot (drop from dues)
  pub light : All (λ b. b ≤ 16777216) (drop from bytes)
  pub long : (length whole ≡ 500) × (length after ≡ 3601) × (length front ≡ 500) × (length ids ≡ 500) × (length dues ≡ 500) × (length bytes ≡ 500) × (length mark ≡ 500)

-- The begun chunks in front of those that stand in the tables.
pub record KeepBegunPost (p : Programme) (left : ℕ → ℕ → ℕ) (whole after front : List ℕ) (head need from : ℕ) (ids dues bytes mark : List ℕ) (first : ℕ) (ids' dues' bytes' mark' : List ℕ) : Type 0 where
  pub within : first ≤ 500
  pub kept :
      kept_of (drop first ids') (drop first dues') (drop first bytes') (drop first mark')
      ≡ (scan_front (base_of left) (due_slot p) (at after) (of whole) (at after 0) need (kept_of (drop from ids) (drop from dues) (drop from bytes) (drop from mark)) (drop head front)).kept
  pub ids_are : drop first ids' ≡ drop head front ++ drop from ids
  pub ids_in : All (Within 1 p.chunks) (drop first ids')
  pub slots : All Slot (drop first dues')
  pub light : All (λ b. b ≤ 16777216) (drop first bytes')
  pub long : (length ids' ≡ 500) × (length dues' ≡ 500) × (length bytes' ≡ 500) × (length mark' ≡ 500)
