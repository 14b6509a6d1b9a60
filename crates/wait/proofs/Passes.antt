-- Laws on the pass over the chunks for one s: what stands in the table is the forecast's sum less
-- the need of the theory's pass. Assumes nothing.
use Prim.Native.Nat.{ℕ, zero, suc, ◌+◌, ◌*◌, ◌-◌, ◌≤◌, ◌<◌, max, min}
use mathlib.Core.Path.{◌≡◌, sym, ◌∙◌}
use mathlib.Core.Bool.{Bool, true, false, ◌&&◌}
use mathlib.Core.List.{List, ◌∷◌}
use mathlib.Core.Logic.{⊎_elim}
use native.Mathlib.Omega.{arith}
use lib.ListN.{length, get_or, set, length-set}
use lib.Dec.{leb, leb→le, nleb→lt}
use borrow.Author.Tests.{le-leb, lt-leb}
use Rattle.theory_basics.specs.lemmas.Tests.{test}
use Rattle.theory_plan.specs.lemmas.Trials.{keeps}
use Rattle.theory_plan.specs.lemmas.Words.{due_by}
use Rattle.wait.specs.lemmas.Scan.{keeps_all, needs_from}
use Rattle.wait.specs.lemmas.Table.{Free, KeepsAllPost, KeepsAllPre, due_at, kept_by, left_at, never, size_at}
use Rattle.theory_basics.specs.lemmas.Tables.{at_set}

-- To begin when the forecast has brought x at most is the same as to need n of what it brings after
-- that, up to total.
abbrev pub Same : ℕ → ℕ → ℕ → Type 0
Same total x n = (b : ℕ) → b ≤ total → leb b x ≡ leb n (total - b)

same_sum : (total x n : ℕ) → x + n ≡ total → Same total x n
same_sum total x n e b h =
    ⊎_elim
    (λ t. let l = leb→le b x t in rw (le-leb b x l, le-leb n (total - b) (omega arith)))
    (λ t. let l = nleb→lt b x t in rw (lt-leb b x l, lt-leb n (total - b) (omega arith)))
    (test (leb b x))

same_free : (total x : ℕ) → total ≤ x → Same total x 0
same_free total x e b h = rw (le-leb b x (omega arith), le-leb 0 (total - b) (omega arith))

-- What fails behind, fails.
fails : (S D A : ℕ → ℕ) (h n i m : ℕ) → i + m ≡ n → keeps_all S D A h i m ≡ false → keeps_all S D A h 0 n ≡ false
fails S D A h n zero m e f = let z : m ≡ n = omega arith in rw z at f
fails S D A h n (suc i) m e f = fails S D A h n i (suc m) (omega arith) (rw f)

-- Every chunk is due by the last slot.
pub due_in : (chunks span s : ℕ) {i : ℕ} → i ≤ chunks → due_at span s i ≤ due_at span s chunks
due_in chunks span s {i = i} h = due_by (record { chunks = chunks; span = span; delay = s; limit = 0 }) i h

module _ (chunks span held s : ℕ) (bases sums : List ℕ) where
  abbrev last : ℕ
  last = due_at span s chunks

  abbrev total : ℕ
  total = get_or sums last 0

  -- The needs of the chunks behind i, and whether they are kept.
  abbrev behind : ℕ → List ℕ
  behind i = needs_from (size_at bases) (due_at span s) (left_at sums last) i (chunks - i)

  abbrev kept : ℕ → Bool
  kept i = keeps_all (size_at bases) (due_at span s) (left_at sums last) held i (chunks - i)

  pub record Passing (begins : List ℕ) (begin i : ℕ) : Type 0 where
    pub inside : i ≤ chunks
    pub all : kept i ≡ true
    pub top : begin + get_or (behind i) 0 0 ≡ total
    pub table : (k : ℕ) → i ≤ k → k < 1000 → Same total (get_or begins k 0) (get_or (behind i) (k - i) 0)
    pub free : Free chunks begins
    pub long : length begins ≡ 1000

  pub passing_start : (begins : List ℕ) → KeepsAllPre chunks span held s bases sums begins → length begins ≡ 1000 → Passing begins total chunks
  passing_start begins o l =
      let z : chunks - chunks ≡ 0 = omega arith in
      record {
        inside = omega arith;
        all = rw z;
        top = rw z (omega arith);
        table = λ k u h. rw (z, o.free k u h) (same_free total never o.most);
        free = o.free;
        long = l;
      }

  module _ (begins : List ℕ) (begin i : ℕ) (p : Passing begins begin i) (first : List ℕ) (o : KeepsAllPre chunks span held s bases sums first) where
    pub passing_end : i ≤ 0 → KeepsAllPost chunks span held s bases sums begins true
    unfolding kept_by
    passing_end h =
        let e : i ≡ 0 = omega arith in
        let z : chunks - 0 ≡ chunks = omega arith in
        record { answer = sym (rw (e, z) at p.all); free = p.free }

    module _ (here : 0 < i) where
      abbrev q : ℕ
      q = i - 1

      abbrev due : ℕ
      due = q * span + s

      due_last : due ≤ last
      due_last = due_in chunks span s p.inside

      before_last : due - 1 ≤ last
      before_last = omega (arith, due_last)

      is_i : suc q ≡ i
      is_i = omega arith

      fewer : chunks - q ≡ suc (chunks - i)
      fewer = omega (arith, p.inside)

      abbrev by : ℕ
      by = min (get_or sums due 0) begin

      abbrev size : ℕ
      size = get_or bases q 0

      abbrev cand : ℕ
      cand = size + max (total - get_or sums due 0) (get_or (behind i) 0 0)

      cand_small : size ≤ by → by - size + cand ≡ total
      cand_small h = omega (arith, p.top, o.rise due last due_last (omega arith))

      cand_large : by < size → total < cand
      cand_large h = omega (arith, p.top, o.rise due last due_last (omega arith))

      needs_step : behind q ≡ cand ∷ behind i
      needs_step = rw (fewer, is_i)

      kept_step : kept q ≡ kept i && keeps (size_at bases) (due_at span s) (left_at sums last) held (behind i) i
      kept_step = rw (fewer, is_i)

      all_left : left_at sums last 0 ≡ total
      all_left = omega (arith, o.zero_first)

      abbrev fits : Bool
      fits = leb cand (left_at sums last 0) && leb (get_or (cand ∷ behind i) held 0) (left_at sums last (due - 1))

      kept_is : kept q ≡ fits
      kept_is = kept_step ∙ rw p.all

      no : kept q ≡ false → (begins' : List ℕ) → Free chunks begins' → KeepsAllPost chunks span held s bases sums begins' false
      unfolding kept_by
      no e begins' f = record { answer = sym (fails (size_at bases) (due_at span s) (left_at sums last) held chunks q (chunks - q) (omega (arith, p.inside)) e); free = f }

      -- No room for its own bytes.
      pub passing_large : by < size → KeepsAllPost chunks span held s bases sums begins false
      passing_large h = no (kept_is ∙ rw (all_left, lt-leb cand total (cand_large h))) begins p.free

      module _ (room : size ≤ by) where
        abbrev stored : List ℕ
        stored = set begins q (by - size)

        stored_long : length stored ≡ 1000
        stored_long = length-set begins q (by - size) ∙ p.long

        stored_free : Free chunks stored
        stored_free k l h =
            at_set (λ x. x ≡ never) begins q (by - size) k (omega (arith, p.long, o.few, p.inside))
            (λ e. absurd (omega (arith, p.inside)))
            (λ e. p.free k l h)

        stored_same : (k : ℕ) → q ≤ k → k < 1000 → Same total (get_or stored k 0) (get_or (cand ∷ behind i) (k - q) 0)
        stored_same k l h =
            at_set (λ x. Same total x (get_or (cand ∷ behind i) (k - q) 0)) begins q (by - size) k (omega (arith, p.long, o.few, p.inside))
            (λ e. let z : k - q ≡ 0 = omega arith in rw z (same_sum total (by - size) cand (cand_small room)))
            (λ e. let z : k - q ≡ suc (k - i) = after k l e in rw z (p.table k (above k l e) h))
          where
            above : (k : ℕ) → q ≤ k → (k ≡ q → ⊥) → i ≤ k
            above k l e = omega (arith, e)

            after : (k : ℕ) → q ≤ k → (k ≡ q → ⊥) → k - q ≡ suc (k - i)
            after k l e = omega (arith, above k l e)

        -- The test of what the buffer holds back.
        tested : leb (get_or sums (due - 1) 0) (get_or stored (q + held) 0) ≡ leb (get_or (cand ∷ behind i) held 0) (left_at sums last (due - 1))
        tested =
            let z : q + held - q ≡ held = omega arith in
            rw z at (stored_same (q + held) (omega arith) (omega (arith, o.held_in, o.few, p.inside)) (get_or sums (due - 1) 0) (o.rise (due - 1) last before_last (omega arith)))

        kept_tested : kept q ≡ leb (get_or sums (due - 1) 0) (get_or stored (q + held) 0)
        kept_tested = kept_is ∙ rw (all_left, le-leb cand total (omega (arith, cand_small room)), tested)

        pub passing_held : get_or stored (q + held) 0 < get_or sums (due - 1) 0 → KeepsAllPost chunks span held s bases sums stored false
        passing_held h = no (kept_tested ∙ lt-leb (get_or sums (due - 1) 0) (get_or stored (q + held) 0) h) stored stored_free

        pub passing_more : get_or sums (due - 1) 0 ≤ get_or stored (q + held) 0 → Passing stored (by - size) q
        passing_more h = record {
          inside = omega (arith, p.inside);
          all = kept_tested ∙ le-leb (get_or sums (due - 1) 0) (get_or stored (q + held) 0) h;
          top = rw needs_step (cand_small room);
          table = λ k l u. rw needs_step (stored_same k l u);
          free = stored_free;
          long = stored_long;
        }
