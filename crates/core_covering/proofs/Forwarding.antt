-- Laws on chunks kept in turn: the table and the levels that keep_forward has after chunk i.
-- Assumes nothing.
use Prim.Native.Nat.{ℕ, suc, ◌+◌, ◌≤◌, ◌<◌, max}
use mathlib.Core.Path.{◌≡◌, sym, ap, ◌∙◌}
use mathlib.Core.Bool.{cond}
use mathlib.Core.List.{List, [], ◌∷◌, ◌++◌}
use native.Mathlib.Omega.{arith}
use native.Mathlib.Numerals.{add-one}
use borrow.Author.Tests.{le-leb, lt-leb}
use lib.ListN.{length, get_or, set, take, length-set}
use lib.Seq.{take-suc-set}
use lib.Dec.{ltb, ltb→lt, nltb→le}
use Rattle.theory_basics.specs.lemmas.Tests.{by_cond}
use Rattle.job.specs.Job.{Job, chunks, held_most}
use Rattle.theory_plan.specs.Bases.{base_size}
use Rattle.theory_most.specs.Statement.{State, after_set, end_of, keep, open_of, release, used_with}
use Rattle.theory_most.specs.Search.{forward}
use Rattle.theory_most.proofs.Theorems.{set_state}
use Rattle.theory_most.specs.lemmas.Forward.{release_own, release_wait, waits_last}
use Rattle.theory_most.proofs.Search.{forward_set}
use Rattle.core_covering.specs.lemmas.Tables.{ForwardFor}
use Rattle.core_covering.specs.lemmas.Levels.{base_small, open_small, set_used, set_wait_small}

-- ---- of one job

-- After chunk i: the kept chunks, what they have used, and, if some chunk may be held, the opening
-- of the last of them.
pub record Kept (j : Job) (i kept used last : ℕ) (ids : List ℕ) : Type 0 where
  pub are : take kept ids ≡ forward j i
  pub used_is : used ≡ (after_set j (forward j i)).used
  pub last_is : 0 < held_most j → last ≡ (after_set j (forward j i)).waits 0

-- Chunk i + 1 is in time, or not.
forward_keep : (j : Job) (i : ℕ) → used_with j (after_set j (forward j i)) (suc i) ≤ end_of j (suc i) → forward j (suc i) ≡ forward j i ++ (suc i ∷ [])
forward_keep j i h = rw (le-leb (used_with j (after_set j (forward j i)) (suc i)) (end_of j (suc i)) h)

forward_skip : (j : Job) (i : ℕ) → end_of j (suc i) < used_with j (after_set j (forward j i)) (suc i) → forward j (suc i) ≡ forward j i
forward_skip j i h = rw (lt-leb (used_with j (after_set j (forward j i)) (suc i)) (end_of j (suc i)) h)

kept_keep :
    (j : Job) → held_most j ≤ 1 → (i kept used last : ℕ) (ids : List ℕ) → Kept j i kept used last ids → kept < length ids → (level own : ℕ) →
    level ≡ used_with j (after_set j (forward j i)) (suc i) → own ≡ open_of j (suc i) → level ≤ end_of j (suc i) →
    Kept j (suc i) (suc kept) level own (set ids kept (suc i))
kept_keep j few i kept used last ids p room level own e g h =
    let f = forward_keep j i (omega arith) in
    let s : after_set j (forward j (suc i)) ≡ keep j (after_set j (forward j i)) (suc i) = ap (after_set j) f ∙ set_state j (forward j i) (suc i) in
    record {
      are = take-suc-set ids kept (suc i) room ∙ ap (λ (l : List ℕ). l ++ (suc i ∷ [])) p.are ∙ sym f;
      used_is = e ∙ sym (ap (λ (x : State). x.used) s);
      last_is = λ some. g ∙ sym (ap (λ (x : State). x.waits 0) s ∙ waits_last j (after_set j (forward j i)) (suc i) 0 few);
    }

kept_skip :
    (j : Job) (i kept used last : ℕ) (ids : List ℕ) → Kept j i kept used last ids →
    end_of j (suc i) < used_with j (after_set j (forward j i)) (suc i) → Kept j (suc i) kept used last ids
kept_skip j i kept used last ids p h =
    let f = forward_skip j i h in
    record {
      are = p.are ∙ sym f;
      used_is = p.used_is ∙ ap (λ (l : List ℕ). (after_set j l).used) (sym f);
      last_is = λ some. p.last_is some ∙ ap (λ (l : List ℕ). (after_set j l).waits 0) (sym f);
    }

-- ---- of each job

module _ (count held : ℕ) (ends opens bases : List ℕ) where
  abbrev For : Job → Type 0
  For j = ForwardFor j count held ends opens bases

  pub record Forwarding (i kept used last : ℕ) (ids : List ℕ) : Type 0 where
    pub within : i ≤ count
    pub small : count ≤ 500
    pub few : kept ≤ i
    pub long : length ids ≡ 500
    pub each : (j : Job) → For j → Kept j i kept used last ids

  -- What the code computes of chunk i + 1.
  abbrev pub level_of : (i used last : ℕ) → ℕ
  level_of i used last = max used (cond (ltb 0 held) last (get_or opens (i + 1) 0)) + get_or bases (i + 1) 0

  module _ (i kept used last : ℕ) (ids : List ℕ) (f : Forwarding i kept used last ids) (more : i < count) where
    open_is : (j : Job) → For j → get_or opens (i + 1) 0 ≡ open_of j (suc i)
    open_is j o = rw add-one (o.opens_are.is (suc i) (omega arith) (omega (arith, o.count_is)))

    end_is : (j : Job) → For j → get_or ends (i + 1) 0 ≡ end_of j (suc i)
    end_is j o = rw add-one (o.ends_are.is (suc i) (omega arith) (omega (arith, o.count_is)))

    wait_is : (j : Job) → For j → cond (ltb 0 held) last (get_or opens (i + 1) 0) ≡ release j (after_set j (forward j i)) (suc i)
    wait_is j o =
        by_cond
        (λ (x : ℕ). x ≡ release j (after_set j (forward j i)) (suc i))
        (ltb 0 held)
        (λ t.
        let some : 0 < held_most j = omega (arith, ltb→lt 0 held t, o.held_is) in
        (f.each j o).last_is some ∙ sym (release_wait j (after_set j (forward j i)) (suc i) some))
        (λ t. open_is j o ∙ sym (release_own j (after_set j (forward j i)) (suc i) (omega (arith, nltb→le 0 held t, o.held_is))))

    pub level_is : (j : Job) → For j → level_of i used last ≡ used_with j (after_set j (forward j i)) (suc i)
    level_is j o =
        let b : get_or bases (i + 1) 0 ≡ base_size j (suc i) = rw add-one (o.bases_are.is (suc i) (omega arith) (omega (arith, o.count_is))) in
        rw (wait_is j o, b, (f.each j o).used_is)

    -- There is room for it.
    pub level_fits : (j : Job) → For j → level_of i used last ≤ 60414754816
    level_fits j o =
        let s = forward_set j i in
        let in_job : i ≤ chunks j = omega (arith, o.count_is) in
        let w : release j (after_set j (forward j i)) (suc i) ≤ 60397977600 =
        by_cond
        (λ (x : ℕ). x ≤ 60397977600)
        (ltb 0 (held_most j))
        (λ t. set_wait_small j o.accepted i (forward j i) in_job s 0 (ltb→lt 0 (held_most j) t))
        (λ t. open_small j o.accepted (suc i) (omega (arith, o.count_is))) in
        omega (arith, level_is j o, w, set_used j o.accepted i (forward j i) in_job s, base_small j o.accepted (suc i))

    -- It is kept if it is in time,
    pub forwarding_keep :
        (level : ℕ) → level ≡ level_of i used last → level ≤ get_or ends (i + 1) 0 →
        Forwarding (i + 1) (kept + 1) level (get_or opens (i + 1) 0) (set ids kept (i + 1))
    forwarding_keep level e h =
        record {
          within = omega arith;
          small = f.small;
          few = omega (arith, f.few);
          long = length-set ids kept (i + 1) ∙ f.long;
          each = λ j o.
              rw (add-one i, add-one kept)
              (kept_keep j (omega (arith, o.held_is, o.held_few)) i kept used last ids (f.each j o) (omega (arith, f.few, f.small, f.long))
              level _ (e ∙ level_is j o) (rw add-one at (open_is j o)) (omega (arith, end_is j o)));
        }

    -- and else not.
    pub forwarding_skip : (level : ℕ) → level ≡ level_of i used last → get_or ends (i + 1) 0 < level → Forwarding (i + 1) kept used last ids
    forwarding_skip level e h =
        record {
          within = omega arith;
          small = f.small;
          few = omega (arith, f.few);
          long = f.long;
          each = λ j o. rw add-one (kept_skip j i kept used last ids (f.each j o) (omega (arith, e, level_is j o, end_is j o)));
        }
