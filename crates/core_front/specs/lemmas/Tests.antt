-- Lemmas. The sets of a front and the tests of core_covering: what those ask and say of slices, in
-- terms of the sets.
use Rattle.std.specs.Prelude.{ℕ, ◌+◌, ◌*◌, ◌-◌, ◌<◌, ◌≤◌, ◌≡◌, Bool, true, get_or, take, drop}
use Rattle.std.proofs.Common.{sym, ap, arith}
use Rattle.std.proofs.Math.Path.{subst}
use mathlib.Core.List.{List}
use Rattle.job.specs.Job.{Job}
use Rattle.core_covering.specs.lemmas.Tables.{CoversPost, HopelessFor, HopelessPost, HopelessPre, TwoSets}
use Rattle.core_front.specs.declared.Measure.{Measure}
use Rattle.core_front.specs.declared.Sets.{Sets}
use Rattle.core_front.specs.lemmas.Tables.{IsCoveredPost, IsHopelessPost, SetCoversFor, SetCoversPost, SettleFor, SettlePre, TrialFor, set_at}

-- A slice from the first place of a set to the one behind its last.
pub part_is : (sets : Sets) (a n : ℕ) → n ≡ get_or sets.counts a 0 → take (a * 500 + n - a * 500) (drop (a * 500) sets.chunks) ≡ set_at sets a
part_is sets a n e = let h : a * 500 + n - a * 500 ≡ get_or sets.counts a 0 = omega arith in ap (λ k. take k (drop (a * 500) sets.chunks)) h

-- ---- one set against another

module _ {by : Measure} {opens : List ℕ} {sets : Sets} {a b : ℕ} where
  two_sets :
      {j : Job} {i : ℕ} → SetCoversFor j i by opens sets a b →
      TwoSets j by.held by.smallest opens (set_at sets a) (get_or sets.useds a 0) (set_at sets b) (get_or sets.useds b 0)
  two_sets {j} {i} h =
      let m = h.measure in
      record {
        chunk = i;
        inside = m.inside;
        set_u = h.one.is_set;
        set_s = h.other.is_set;
        u_is = h.one.used_is;
        s_is = h.other.used_is;
        small = m.least_small;
        accepted = m.accepted;
        held_is = m.held_is;
        held_some = m.held_some;
        opens_are = m.opens_are;
      }

  pub covers_says :
      (u s : List ℕ) (r : Bool) → u ≡ set_at sets a → s ≡ set_at sets b →
      CoversPost by.held by.smallest opens u (get_or sets.useds a 0) s (get_or sets.useds b 0) r → SetCoversPost by opens sets a b r
  covers_says u s r e f p j i h t =
      subst (λ (s : List ℕ). CoversPost by.held by.smallest opens (set_at sets a) (get_or sets.useds a 0) s (get_or sets.useds b 0) r) f
      (subst (λ (u : List ℕ). CoversPost by.held by.smallest opens u (get_or sets.useds a 0) s (get_or sets.useds b 0) r) e p)
      j (two_sets h) t

-- ---- one set beside the row

module _ {by : Measure} {row opens : List ℕ} {sets : Sets} {n : ℕ} where
  hopeless_for :
      {j : Job} {i : ℕ} → SettleFor j i by row opens sets n →
      HopelessFor j by.target by.held row opens (set_at sets n) (get_or sets.useds n 0)
  hopeless_for {j} {i} h =
      let m = h.trial.measure in
      let s = h.trial.front.each n (omega arith) in
      record {
        set_in = record {
          chunk = i;
          inside = m.inside;
          is_set = s.is_set;
          accepted = m.accepted;
          held_is = m.held_is;
          held_some = m.held_some;
          opens_are = m.opens_are;
        };
        used_is = s.used_is;
        target_in = m.target_in;
        row_is = h.row_is;
      }

  pub hopeless_asked :
      SettlePre by row opens sets n → (set : List ℕ) → set ≡ set_at sets n →
      HopelessPre by.target by.held row opens set (get_or sets.useds n 0)
  hopeless_asked g set e =
      subst (λ (set : List ℕ). HopelessPre by.target by.held row opens set (get_or sets.useds n 0)) (sym e)
      (record { job = g.job; holds = hopeless_for g.holds })

  pub hopeless_says :
      (set : List ℕ) (r : Bool) → set ≡ set_at sets n → HopelessPost by.target by.held by.all row opens set (get_or sets.useds n 0) r →
      IsHopelessPost by row opens sets n r
  unfolding hopeless_for
  hopeless_says set r e p j i h t =
      subst (λ (set : List ℕ). HopelessPost by.target by.held by.all row opens set (get_or sets.useds n 0) r) e p j (hopeless_for h) h.trial.measure.all_is t

-- ---- the sets of a front against the one in place n

module _ {by : Measure} {opens : List ℕ} {sets : Sets} {n : ℕ} where
  pub two_of : {j : Job} {i : ℕ} → TrialFor j i by opens sets n → (a b : ℕ) → a ≤ n → b ≤ n → SetCoversFor j i by opens sets a b
  two_of h a b u v = record { measure = h.measure; one = h.front.each a (omega arith); other = h.front.each b (omega arith) }

  pub covered_by : (a : ℕ) (r : Bool) → a < n → r ≡ true → SetCoversPost by opens sets a n r → IsCoveredPost by opens sets n true
  covered_by a r u e p j i h t = record { place = a; inside = u; covered = p j i (two_of h a n (omega arith) (omega arith)) e }
