-- Lemmas. A pass over the chunks with a front of sets: where a set of so many can be fetched, some
-- set of the front begins one.
use Rattle.std.specs.Prelude.{ℕ, suc, ◌+◌, ◌-◌, ◌≤◌, ◌<◌, max, ◌≡◌, List, [], ◌∷◌, ◌++◌, ◌⊎◌, length, drop, take, leb, ltb}
use Rattle.std.proofs.Common.{sym, subst, ⊎_elim, inl, inr, arith, length-drop, length-take, length-append, leb→le, ltb→lt}
use Rattle.std.proofs.Math.Dec.{nleb→lt}
use Rattle.theory_basics.specs.Tests.{In, here}
use Rattle.theory_basics.specs.lemmas.Tests.{by_cond, test}
use Rattle.job.specs.Job.{Job, chunks, held_most}
use Rattle.theory_plan.specs.Bases.{Asc}
use Rattle.theory_plan.specs.Plan.{after}
use Rattle.theory_plan.specs.lemmas.Ascending.{asc_without}
use Rattle.theory_most.specs.Statement.{Begins, Covers, InTime, LeastAfter, Pass, Set, Settled, Some, State, after_set, begin, covered, end_of, hopeless, keep, least, next_from, onward, start, stays, used_with}
use Rattle.theory_most.specs.lemmas.Forward.{Inside, asc_take, in_time_append, in_time_roomy, in_time_take, inside_all, inside_start, keep_all_append}
use Rattle.theory_most.proofs.Covering.{behind_set, covers_in_time}
use Rattle.theory_most.proofs.InOrder.{least_under}

-- ---- one chunk on

module _ (j : Job) (target i : ℕ) where
  -- Without the next chunk, or with it.
  begins_next :
      (ks : List ℕ) → Begins j target i ks →
      Begins j target (suc i) ks ⊎ ((used_with j (after_set j ks) (suc i) ≤ end_of j (suc i)) × Begins j target (suc i) (ks ++ (suc i ∷ [])))
  begins_next ks b = by b.more b.later b.in_time_lem b.enough
    where
      by :
          (more : List ℕ) → Asc (suc i) (chunks j) more → InTime j (after_set j ks) more → target ≤ length ks + length more →
          Begins j target (suc i) ks ⊎ ((used_with j (after_set j ks) (suc i) ≤ end_of j (suc i)) × Begins j target (suc i) (ks ++ (suc i ∷ [])))
      by [] a t e = inl (record { more = []; later = tt; in_time_lem = tt; enough = e })
      by (k ∷ more) a t e =
          ⊎_elim
          (λ u.
          let p : k ≡ suc i = omega (arith, leb→le k (suc i) u, a.0) in
          let t₀ = rw p at t.0 in
          let a₂ = rw p at a.2 in
          let t₁ = subst (λ (x : ℕ). InTime j (keep j (after_set j ks) x) more) p t.1 in
          let n = length-append ks (suc i ∷ []) in
          inr (
            t₀,
            record {
              more = more;
              later = a₂;
              in_time_lem = subst (λ (s : State). InTime j s more) (sym (keep_all_append j start ks (suc i ∷ []))) t₁;
              enough = omega (arith, n, e);
            },
          ))
          (λ u. inl (record { more = k ∷ more; later = (nleb→lt k (suc i) u, a.1, a.2); in_time_lem = t; enough = e }))
          (test (leb k (suc i)))

  -- ---- what is left out

  -- As many as the set lacks need no more than is there from its level on.
  begins_least :
      (ks : List ℕ) → Inside j (after_set j ks) → Begins j target i ks → length ks < target →
      next_from j (after_set j ks) + least j i (target - length ks) ≤ after j 0
  begins_least ks inside b h =
      let c = target - length ks in
      let zs = take c b.more in
      let a = asc_take c (suc i) (chunks j) b.more b.later in
      let r = in_time_roomy j zs (after_set j ks) (suc i) a inside (in_time_take j c (after_set j ks) b.more b.in_time_lem) in
      let n : length zs ≡ c = omega (arith, length-take c b.more, b.enough) in
      let l = rw n at (least_under j (chunks j) i (omega arith) zs a r.tails) in
      by_cond
      (λ (x : ℕ). max (after_set j ks).used x + least j i c ≤ after j 0)
      (ltb 0 (held_most j))
      (λ t. omega (arith, l, r.whole, r.waiting 0 (ltb→lt 0 (held_most j) t)))
      (λ t. omega (arith, l, r.whole))

  -- A set that covers it begins one too.
  begins_covered :
      1 ≤ j.programme.span → (ks us : List ℕ) (g : ℕ) → Set j i us → length ks ≤ length us → LeastAfter j i g →
      Covers j g (length us - length ks) (after_set j us) (after_set j ks) → Begins j target i ks → Begins j target i us
  begins_covered span ks us g set h z c b =
      let k = length us - length ks in
      record {
        more = drop k b.more;
        later = asc_without (suc i) (chunks j) b.more k b.later;
        in_time_lem = covers_in_time j span g b.more k i (after_set j us) (after_set j ks) z b.later (behind_set j span us i set.ascending set.in_time_lem) c b.in_time_lem;
        enough = omega (arith, length-drop k b.more, b.enough);
      }

-- ---- sets

pub set_skip : (j : Job) (i : ℕ) (ks : List ℕ) → Set j i ks → Set j (suc i) ks
set_skip j i ks s = record { ascending = asc_higher 1 i ks s.ascending; in_time_lem = s.in_time_lem }
  where
    asc_higher : (lo hi : ℕ) (ks : List ℕ) → Asc lo hi ks → Asc lo (suc hi) ks
    asc_higher lo hi [] a = tt
    asc_higher lo hi (k ∷ ks) a = (a.0, omega (arith, a.1), asc_higher (suc k) hi ks a.2)

asc_snoc : (lo hi : ℕ) (ks : List ℕ) → lo ≤ suc hi → Asc lo hi ks → Asc lo (suc hi) (ks ++ (suc hi ∷ []))
asc_snoc lo hi [] h a = (h, omega arith, tt)
asc_snoc lo hi (k ∷ ks) h a = (a.0, omega (arith, a.1), asc_snoc (suc k) hi ks (omega (arith, a.1)) a.2)

pub set_keep : (j : Job) (i : ℕ) (ks : List ℕ) → Set j i ks → used_with j (after_set j ks) (suc i) ≤ end_of j (suc i) → Set j (suc i) (ks ++ (suc i ∷ []))
set_keep j i ks s t =
    record {
      ascending = asc_snoc 1 i ks (omega arith) s.ascending;
      in_time_lem = (in_time_append j start ks (suc i ∷ [])).1 (s.in_time_lem, (t, tt));
    }

pub set_inside : (j : Job) (i : ℕ) (ks : List ℕ) → i ≤ chunks j → Set j i ks → Inside j (after_set j ks)
set_inside j i ks h s = inside_all j ks start 1 i h s.ascending (inside_start j) s.in_time_lem

-- ---- the pass

module _ (j : Job) (span : 1 ≤ j.programme.span) (target : ℕ) where
  pub settled_some :
      (i : ℕ) (front : List (List ℕ)) {ks : List ℕ} → i ≤ chunks j → Settled j target i front ks → Begins j target i ks → Some j target i front
  settled_some i front h (stays {ks = ks} m) b = record { set = ks; there_is = m; begins = b }
  settled_some i front h (hopeless {ks = ks} s l n) b = absurd (omega (arith, n, begins_least j target i ks (set_inside j i ks h s) b l))
  settled_some i front h (covered {ks = ks} us g s l z c r) b = settled_some i front h r (begins_covered j target i span ks us g s l z c b)

  pub pass_some : {i : ℕ} {front : List (List ℕ)} → Pass j target i front → Begins j target 0 [] → Some j target i front
  pass_some begin b = record { set = []; there_is = here; begins = b }
  pass_some (onward {i = i} {front = front} {next = next} p h n) b =
      let r = pass_some p b in
      ⊎_elim
      (λ u. settled_some (suc i) next h (n.skipped r.set r.there_is) u)
      (λ u. settled_some (suc i) next h (n.kept r.set r.there_is u.0) u.1)
      (begins_next j target i r.set r.begins)

-- Settled with respect to a front whose sets are all settled in another one.
pub settled_through :
    (j : Job) (target i : ℕ) (front other : List (List ℕ)) → ((ks : List ℕ) → In ks front → Settled j target i other ks) → {ks : List ℕ} →
    Settled j target i front ks → Settled j target i other ks
settled_through j target i front other f (stays {ks = ks} m) = f ks m
settled_through j target i front other f (hopeless s l n) = hopeless s l n
settled_through j target i front other f (covered us g s l z c r) = covered us g s l z c (settled_through j target i front other f r)
