-- Laws on the tables of the kept chunks of a trial. Assumes nothing.
use mathlib.Core.Path.{◌≡◌, ◌∙◌, ap}
use mathlib.Core.Bool.{Bool, true, false, cond}
use mathlib.Core.List.{List, [], ◌∷◌, map}
use Prim.Native.Nat.{ℕ, suc, ◌+◌, ◌-◌, ◌≤◌, ◌<◌}
use native.Mathlib.Omega.{arith}
use lib.ListN.{length, set, drop, length-set, drop_of_length-le}
use lib.Dec.{leb}
use borrow.Author.Tests.{le-leb, lt-leb}
use Rattle.job.specs.declared.Programme.{Programme}
use Rattle.job.specs.Job.{due_slot}
use Rattle.theory_plan.specs.Plan.{picked}
use Rattle.core_reasons.specs.lemmas.Tables.{SetTablesPost, bytes_in, level_in}
use Rattle.theory_basics.specs.lemmas.Tables.{set_before}

module _ (p : Programme) (sums levels : List ℕ) (i n cap : ℕ) where
  abbrev level : ℕ → ℕ
  level k = level_in levels i n cap k

  abbrev keeps : ℕ → Bool
  keeps k = leb 1 (level k)

  -- What is kept of the chunks behind k.
  abbrev behind : ℕ → List ℕ
  behind k = picked keeps k (p.chunks - k)

  abbrev bytes_at : ℕ → ℕ
  bytes_at k = bytes_in sums k (level k)

  pub record Setting (dues bytes : List ℕ) (first k : ℕ) : Type 0 where
    pub due_slots : drop first dues ≡ map (due_slot p) (behind k)
    pub carried : drop first bytes ≡ map bytes_at (behind k)
    pub room : k + 500 ≤ first + p.chunks
    pub within : first ≤ 500
    pub left : k ≤ p.chunks
    pub long : (length dues ≡ 500) × (length bytes ≡ 500)

  pub setting_start : (dues bytes : List ℕ) → p.chunks ≤ 500 → length dues ≡ 500 → length bytes ≡ 500 → Setting dues bytes 500 p.chunks
  setting_start dues bytes few d b =
      let z : p.chunks - p.chunks ≡ 0 = omega arith in
      let f : drop 500 dues ≡ [] = drop_of_length-le dues {i = 500} (omega (arith, d)) in
      let g : drop 500 bytes ≡ [] = drop_of_length-le bytes {i = 500} (omega (arith, b)) in
      record { due_slots = rw (z, f); carried = rw (z, g); room = omega arith; within = omega arith; left = omega arith; long = (d, b) }

  module _ (dues bytes : List ℕ) (first k : ℕ) (b : Setting dues bytes first k) (some : 0 < k) (few : p.chunks ≤ 500) where
    some_place : 0 < first
    some_place = omega (arith, b.room)

    step : (t : Bool) → keeps k ≡ t → behind (k - 1) ≡ cond t (k ∷ behind k) (behind k)
    step t h =
        let e : p.chunks - (k - 1) ≡ suc (p.chunks - k) = omega (arith, b.left) in
        let e' : suc (k - 1) ≡ k = omega arith in
        rw (e, e', h)

    front : (l : List ℕ) (v : ℕ) → length l ≡ 500 → drop (first - 1) (set l (first - 1) v) ≡ v ∷ drop first l
    front l v e = set_before l first v some_place (omega (arith, b.within))

    pub setting_pass : level k ≤ 0 → Setting dues bytes first (k - 1)
    setting_pass h =
        let e = step false (lt-leb 1 (level k) (omega arith)) in
        record {
          due_slots = rw e b.due_slots;
          carried = rw e b.carried;
          room = omega (arith, b.room);
          within = b.within;
          left = omega (arith, b.left);
          long = b.long;
        }

    pub setting_keep : 0 < level k → Setting (set dues (first - 1) (due_slot p k)) (set bytes (first - 1) (bytes_at k)) (first - 1) (k - 1)
    setting_keep h =
        let e = step true (le-leb 1 (level k) h) in
        record {
          due_slots = rw e (front dues (due_slot p k) b.long.0 ∙ ap (λ (l : List ℕ). due_slot p k ∷ l) b.due_slots);
          carried = rw e (front bytes (bytes_at k) b.long.1 ∙ ap (λ (l : List ℕ). bytes_at k ∷ l) b.carried);
          room = omega (arith, b.room);
          within = omega (arith, b.within);
          left = omega (arith, b.left);
          long = (simp length-set b.long.0, simp length-set b.long.1);
        }

  pub setting_end : (dues bytes : List ℕ) (first k : ℕ) → Setting dues bytes first k → k ≤ 0 → SetTablesPost p sums levels i n cap first dues bytes
  setting_end dues bytes first k b h =
      let e : k ≡ 0 = omega arith in
      let b' : Setting dues bytes first 0 = rw e at b in
      let s : p.chunks - 0 ≡ p.chunks = omega arith in
      record { within = b.within; due_slots = rw s at b'.due_slots; carried = rw s at b'.carried }
