-- Lemmas. A set is settled beside the sets of a front: those that it covers are taken out, turn by
-- turn, and it takes the place behind those that are left.
use Rattle.std.specs.Prelude.{ℕ, zero, suc, ◌+◌, ◌<◌, ◌≤◌, ◌≡◌, refl, Bool, true, false, List, ◌⊎◌, get_or}
use Rattle.std.proofs.Common.{◌∙◌, subst, ⊎_elim, inl, inr, arith}
use Rattle.std.proofs.lemmas.Bool.{false≢true}
use Rattle.theory_basics.specs.Tests.{In, here, there}
use Rattle.job.specs.Job.{Job}
use Rattle.theory_most.specs.Statement.{Settled, covered, hopeless, stays}
use Rattle.core_covering.specs.lemmas.Tables.{CoveredBy}
use Rattle.core_front.specs.declared.Measure.{Measure}
use Rattle.core_front.specs.declared.Sets.{Sets}
use Rattle.core_front.specs.lemmas.Tables.{FrontIn, IsCoveredPost, IsHopelessPost, Long, MoveSetPost, MoveSetPre, Same, SetCoversFor, SetCoversPost, SetIn, SettleFor, SettledOf, SettlePost, SettlePre, TakeOutPost, TrialFor, TrialPre, front_of, set_at}
use Rattle.core_front.specs.lemmas.Sets.{before_or_at}

-- ---- the sets of a front

pub front_has : (sets : Sets) (n a : ℕ) → a < n → In (set_at sets a) (front_of sets n)
front_has sets zero a h = absurd (omega arith)
front_has sets (suc n) a h = ⊎_elim (λ u. there (front_has sets n a u)) (λ e. rw e here) (before_or_at a n (omega arith))

-- What is in it stands in one of its places.
pub record PlaceOf (sets : Sets) (n : ℕ) (ks : List ℕ) : Type 0 where
  pub place : ℕ
  pub inside : place < n
  pub is : set_at sets place ≡ ks

pub place_of : (sets : Sets) (n : ℕ) (ks : List ℕ) → In ks (front_of sets n) → PlaceOf sets n ks
place_of sets zero ks x' = elim x' [ ]
place_of sets (suc n) ks here = record { place = n; inside = omega arith; is = refl }
place_of sets (suc n) ks (there m) =
    let p = place_of sets n ks m in record { place = p.place; inside = omega (arith, p.inside); is = p.is }

pub place_has : (sets : Sets) (n : ℕ) {ks : List ℕ} → PlaceOf sets n ks → In ks (front_of sets n)
place_has sets n p = subst (λ (l : List ℕ). In l (front_of sets n)) p.is (front_has sets n p.place p.inside)

-- ---- places that hold the same

pub same_self : (sets : Sets) (a : ℕ) → Same sets a sets a
same_self sets a = record { set_is = refl; count_is = refl; used_is = refl }

pub same_then :
    {sets sets' sets'' : Sets} {a b c : ℕ} → Same sets a sets' b →
    Same sets' b sets'' c → Same sets a sets'' c
same_then s t = record { set_is = t.set_is ∙ s.set_is; count_is = t.count_is ∙ s.count_is; used_is = t.used_is ∙ s.used_is }

pub same_in :
    {j : Job} {i : ℕ} {sets sets' : Sets} {a b : ℕ} → Same sets a sets' b →
    SetIn j i sets a → SetIn j i sets' b
same_in {j} {i} {sets} {sets'} {a} {b} s h =
    record { is_set = rw s.set_is h.is_set; used_is = rw s.set_is (s.used_is ∙ h.used_is); few = omega (arith, s.count_is, h.few) }

-- ---- covered sets are taken out

-- A place that holds what one of the first n held.
pub record Kept (sets : Sets) (n : ℕ) (sets' : Sets) (b : ℕ) : Type 0 where
  pub place : ℕ
  pub inside : place < n
  pub same : Same sets place sets' b

kept_on :
    {sets sets' sets'' : Sets} {n b c : ℕ} → Kept sets n sets' b →
    Same sets' b sets'' c → Kept sets n sets'' c
kept_on k s = record { place = k.place; inside = k.inside; same = same_then k.same s }

-- After a turns: `left` sets stay, in the first places; those from place a on are as they were.
pub record Taking (by : Measure) (opens : List ℕ) (sets : Sets) (n : ℕ) (sets' : Sets) (left a : ℕ) : Type 0 where
  pub long : Long sets'
  pub up : left ≤ a
  pub inside : a ≤ n
  pub ahead : (b : ℕ) → a ≤ b → b ≤ n → Same sets b sets' b
  pub kept : (b : ℕ) → b < left → Kept sets n sets' b
  pub gone :
      (p : ℕ) → p < a →
      PlaceOf sets' left (set_at sets p)
      ⊎ ((j : Job) (i : ℕ) → TrialFor j i by opens sets n → CoveredBy j by.smallest (set_at sets n) (set_at sets p))

module _ {by : Measure} {opens : List ℕ} {sets : Sets} {n : ℕ} (g : TrialPre by opens sets n) where
  few_at : (a : ℕ) → a ≤ n → get_or sets.counts a 0 ≤ 500
  few_at a h = (g.holds.front.each a (omega arith)).few

  pub taking_start : Taking by opens sets n sets 0 0
  taking_start =
      record {
        long = g.holds.front.long;
        up = omega arith;
        inside = omega arith;
        ahead = λ b u v. same_self sets b;
        kept = λ b h. absurd (omega arith);
        gone = λ p h. absurd (omega arith);
      }

  module _ {sets' : Sets} {left a : ℕ} (t : Taking by opens sets n sets' left a) (h : a < n) where
    taking_two : {j : Job} {i : ℕ} → TrialFor j i by opens sets n → (b c : ℕ) → a ≤ b → b ≤ n → a ≤ c → c ≤ n → SetCoversFor j i by opens sets' b c
    taking_two f b c p q r s =
        record {
          measure = f.measure;
          one = same_in (t.ahead b p q) (f.front.each b (omega arith));
          other = same_in (t.ahead c r s) (f.front.each c (omega arith));
        }

    pub taking_out : (r : Bool) → r ≡ true → SetCoversPost by opens sets' n a r → Taking by opens sets n sets' left (a + 1)
    taking_out r e p =
        let u = (t.ahead n t.inside (omega arith)).set_is in
        let v = (t.ahead a (omega arith) t.inside).set_is in
        let c : (j : Job) (i : ℕ) → TrialFor j i by opens sets n → CoveredBy j by.smallest (set_at sets n) (set_at sets a) = λ j i f. rw (u, v) at (p j i (taking_two f n a t.inside (omega arith) (omega arith) t.inside) e) in
        record {
          long = t.long;
          up = omega (arith, t.up);
          inside = omega arith;
          ahead = λ b x y. t.ahead b (omega arith) y;
          kept = t.kept;
          gone = λ q x.
              ⊎_elim
              (λ y. t.gone q y)
              (λ y. inr (rw y c))
              (before_or_at q a (omega arith));
        }

    module _ {sets'' : Sets} (m : MoveSetPost sets' a left sets'') where
      others_stay : (b : ℕ) → b < left → Same sets' b sets'' b
      others_stay b x =
          let k = t.kept b x in
          m.others b (inl x) (omega (arith, g.holds.room, t.up)) (omega (arith, k.same.count_is, few_at k.place (omega (arith, k.inside))))

      pub taking_on : Taking by opens sets n sets'' (left + 1) (a + 1)
      taking_on =
          let e = same_then (t.ahead a (omega arith) t.inside) m.moved in
          record {
            long = m.long;
            up = omega (arith, t.up);
            inside = omega arith;
            ahead = λ b x y.
                let s = t.ahead b (omega arith) y in
                same_then s (m.others b (inr (omega (arith, t.up))) (omega (arith, g.holds.room)) (omega (arith, s.count_is, few_at b y)));
            kept = λ b x.
                ⊎_elim
                (λ y. kept_on (t.kept b y) (others_stay b y))
                (λ y. rw y (record { place = a; inside = h; same = e }))
                (before_or_at b left (omega arith));
            gone = λ q x.
                ⊎_elim
                (λ y.
                ⊎_elim
                (λ z. inl (record { place = z.place; inside = omega (arith, z.inside); is = (others_stay z.place z.inside).set_is ∙ z.is }))
                (λ z. inr z)
                (t.gone q y))
                (λ y. inl (record { place = left; inside = omega arith; is = rw y e.set_is }))
                (before_or_at q a (omega arith));
          }

  pub taking_end : {sets' : Sets} {left a : ℕ} → Taking by opens sets n sets' left a → n ≤ a → TakeOutPost by opens sets n left sets'
  taking_end {sets'} {left} {a} t h =
      let s = t.ahead n t.inside (omega arith) in
      record {
        each = λ j i f. record {
          front = record {
            each = λ b x. let k = t.kept b x in same_in k.same (f.front.each k.place (omega (arith, k.inside)));
            long = t.long;
          };
          trial = same_in s (f.front.each n (omega arith));
          trial_is = s.set_is;
          stay_or_covered = λ p x. ⊎_elim (λ z. inl (place_has sets' left z)) (λ z. inr (z j i f)) (t.gone p (omega (arith, t.inside)));
        };
        fewer = omega (arith, t.up, t.inside);
      }

-- ---- a set is settled

module _ {by : Measure} {row opens : List ℕ} {sets : Sets} {n : ℕ} (g : SettlePre by row opens sets n) where
  front_stays : {j : Job} {i : ℕ} → SettleFor j i by row opens sets n → FrontIn j i sets n
  front_stays f = record { each = λ a h. f.trial.front.each a (omega arith); long = f.trial.front.long }

  -- The set in place n is left out.
  left_out :
      ((j : Job) (i : ℕ) → SettleFor j i by row opens sets n → Settled j by.target i (front_of sets n) (set_at sets n)) →
      SettlePost by row opens sets n (record { sets = n; whole = true }) sets
  left_out s =
      record {
        each = λ j i f. record { front = front_stays f; settled = λ e ks m. of_cons (s j i f) m };
        room = g.holds.trial.room;
      }
    where
      of_cons :
          {j : Job} {i : ℕ} {ks : List ℕ} → Settled j by.target i (front_of sets n) (set_at sets n) →
          In ks (front_of sets (suc n)) → Settled j by.target i (front_of sets n) ks
      of_cons s here = s
      of_cons s (there m) = stays m

  pub settled_hopeless :
      (r : Bool) → r ≡ true → IsHopelessPost by row opens sets n r →
      SettlePost by row opens sets n (record { sets = n; whole = true }) sets
  settled_hopeless r e p =
      left_out (λ j i f. let h = p j i f e in hopeless (f.trial.front.each n (omega arith)).is_set h.fewer h.too_much)

  pub settled_covered :
      (r : Bool) → r ≡ true → IsCoveredPost by opens sets n r →
      SettlePost by row opens sets n (record { sets = n; whole = true }) sets
  settled_covered r e p =
      left_out (λ j i f.
      let q = p j i f.trial e in
      let h = q.covered in
      covered (set_at sets q.place) by.smallest (f.trial.front.each q.place (omega (arith, q.inside))).is_set
      h.no_fewer
      f.trial.measure.least_is
      h.covers
      (stays (front_has sets n q.place q.inside)))

  module _ {sets' : Sets} {left : ℕ} (t : TakeOutPost by opens sets n left sets') where
    -- There is no room: the set is dropped.
    pub dropped : SettlePost by row opens sets n (record { sets = left; whole = false }) sets'
    dropped =
        record {
          each = λ j i f. record { front = (t.each j i f.trial).front; settled = λ e. absurd (false≢true e) };
          room = omega (arith, g.holds.trial.room, t.fewer);
        }

    pub last_asked : MoveSetPre sets' n left
    last_asked =
        let w = t.each g.job g.chunk g.holds.trial in
        record { long = w.front.long; from_in = omega (arith, g.holds.trial.room); up = t.fewer; few = w.trial.few }

    -- There is: it takes the place behind those that are left.
    module _ {sets'' : Sets} (room : left < 64) (m : MoveSetPost sets' n left sets'') where
      put_last : {j : Job} {i : ℕ} → SettleFor j i by row opens sets n → SettledOf j i by sets n (record { sets = left + 1; whole = true }) sets''
      put_last {j} {i} f =
          let w = t.each j i f.trial in
          let same : (a : ℕ) → a < left → Same sets' a sets'' a = λ a h. m.others a (inl h) (omega arith) (w.front.each a h).few in
          let new : set_at sets'' left ≡ set_at sets n = m.moved.set_is ∙ w.trial_is in
          let newest : In (set_at sets n) (front_of sets'' (left + 1)) = place_has sets'' (left + 1) (record { place = left; inside = omega arith; is = new }) in
          record {
            front = record {
              each = λ a h. ⊎_elim (λ x. same_in (same a x) (w.front.each a x)) (λ x. rw x (same_in m.moved w.trial)) (before_or_at a left (omega arith));
              long = m.long;
            };
            settled = λ e ks k.
                let p = place_of sets (suc n) ks k in
                subst (λ (l : List ℕ). Settled j by.target i (front_of sets'' (left + 1)) l) p.is
                (⊎_elim
                (λ x.
                ⊎_elim
                (λ z.
                let q = place_of sets' left (set_at sets p.place) z in
                stays (place_has sets'' (left + 1) (record { place = q.place; inside = omega (arith, q.inside); is = (same q.place q.inside).set_is ∙ q.is })))
                (λ z.
                covered (set_at sets n) by.smallest (f.trial.front.each n (omega arith)).is_set
                z.no_fewer
                f.trial.measure.least_is
                z.covers
                (stays newest))
                (w.stay_or_covered p.place x))
                (λ x. rw x (stays newest))
                (before_or_at p.place n (omega (arith, p.inside))));
          }

      pub settled_last : SettlePost by row opens sets n (record { sets = left + 1; whole = true }) sets''
      settled_last = record { each = λ j i f. put_last f; room = omega arith }
