-- Lemmas. The computed search: a pass that dropped nothing is a pass, its sets can be fetched, and
-- those of its last front are large enough.
use Rattle.std.specs.Prelude.{ℕ, zero, suc, ◌+◌, ◌*◌, ◌-◌, ◌≤◌, ◌<◌, max, min, ◌≡◌, refl, Bool, true, false, cond, not, ◌&&◌, ◌||◌, List, [], ◌∷◌, ◌++◌, ◌⊎◌, ◌↔◌, length, T, leb, ltb}
use Rattle.std.proofs.Common.{sym, subst, ⊎_elim, inl, inr, arith, length-append, T_not, leb→le, ltb→lt, nltb→le, le→leb, lt→ltb}
use Rattle.std.proofs.Math.Dec.{nleb→lt}
use Rattle.theory_basics.specs.Tests.{In, all, all_below, any, here, there}
use Rattle.theory_basics.specs.lemmas.Tests.{T_and, T_or_iff, all_below_iff, and_T, at_row, by_cond, test}
use Rattle.job.specs.Job.{Job, chunks, held_most}
use Rattle.theory_plan.specs.Bases.{base_size}
use Rattle.theory_plan.specs.Plan.{after}
use Rattle.theory_most.specs.Statement.{Covers, LeastAfter, Next, Pass, Set, Settled, State, after_set, begin, covered, end_of, hopeless, least, next_from, onward, stays, too_much, used_with}
use Rattle.theory_most.specs.Search.{Front, covers, forward, is_hopeless, next_front, offer, pass, put, set_covers, smallest, whole_pass, without}
use Rattle.theory_most.proofs.Bounds.{least_end}
use Rattle.theory_most.proofs.Front.{set_keep, set_skip, settled_through}

-- ---- the tests

pub covers_iff : (j : Job) (g k : ℕ) (u s : State) → T (covers j g k u s) ↔ Covers j g k u s
covers_iff j g k u s = (
  λ t.
      ⊎_elim
      (λ h.
      let n = leb→le (held_most j) k h in
      record { used_covered = λ l. absurd (omega arith); waits_covered = λ q l. absurd (omega arith) })
      (λ h.
      let a = and_T (leb u.used (max (s.used + k * g) (s.waits k))) (all_below (held_most j - k) (λ q. leb (u.waits q) (max (s.used + (q + k) * g) (s.waits (q + k))))) h in
      let w = (all_below_iff (held_most j - k) (λ q. leb (u.waits q) (max (s.used + (q + k) * g) (s.waits (q + k))))).0 a.1 in
      record {
        used_covered = λ l. leb→le u.used (max (s.used + k * g) (s.waits k)) a.0;
        waits_covered = λ q l. leb→le (u.waits q) (max (s.used + (q + k) * g) (s.waits (q + k))) (w q (omega arith));
      })
      ((T_or_iff (leb (held_most j) k) (leb u.used (max (s.used + k * g) (s.waits k)) && all_below (held_most j - k) (λ q. leb (u.waits q) (max (s.used + (q + k) * g) (s.waits (q + k)))))).0 t),
  λ c.
      (T_or_iff (leb (held_most j) k) (leb u.used (max (s.used + k * g) (s.waits k)) && all_below (held_most j - k) (λ q. leb (u.waits q) (max (s.used + (q + k) * g) (s.waits (q + k)))))).1
      (⊎_elim
      (λ h. inl h)
      (λ h.
      let n = nleb→lt (held_most j) k h in
      inr (T_and (leb u.used (max (s.used + k * g) (s.waits k))) (all_below (held_most j - k) (λ q. leb (u.waits q) (max (s.used + (q + k) * g) (s.waits (q + k)))))
      (le→leb u.used (max (s.used + k * g) (s.waits k)) (c.used_covered n))
      ((all_below_iff (held_most j - k) (λ q. leb (u.waits q) (max (s.used + (q + k) * g) (s.waits (q + k))))).1 (λ q l. le→leb (u.waits q) (max (s.used + (q + k) * g) (s.waits (q + k))) (c.waits_covered q (omega arith))))))
      (test (leb (held_most j) k))),
)

pub smallest_after : (j : Job) (n i : ℕ) → i + n ≡ chunks j → LeastAfter j i (smallest j n)
smallest_after j zero i e k u v = absurd (omega arith)
smallest_after j (suc n) i e k u v =
    let a : chunks j - n ≡ suc i = omega arith in
    ⊎_elim
    (λ t.
    let b : k ≡ suc i = omega (arith, leb→le k (suc i) t) in
    let c : min (base_size j (suc i)) (smallest j n) ≤ base_size j (suc i) = omega arith in
    rw (a, b) c)
    (λ t. omega (arith, smallest_after j n (suc i) (omega arith) k (nleb→lt k (suc i) t) v))
    (test (leb k (suc i)))

-- ---- one set more

abbrev pub Sets : Job → ℕ → List (List ℕ) → Type 0
Sets j i l = (ks : List ℕ) → In ks l → Set j i ks

pub of_cons : (P : List ℕ → Type 0) (x : List ℕ) (l : List (List ℕ)) → P x → ((us : List ℕ) → In us l → P us) → (us : List ℕ) → In us (x ∷ l) → P us
of_cons P x l a f us here = a
of_cons P x l a f us (there m) = f us m

-- Each set of a front.
abbrev pub Each : (List ℕ → Type 0) → List (List ℕ) → Type 0
Each Q l = (ks : List ℕ) → In ks l → Q ks

pub without_each : (Q : List ℕ → Type 0) (p : List ℕ → Bool) (l : List (List ℕ)) → Each Q l → Each Q (without p l)
without_each Q p [] s = s
without_each Q p (x ∷ l) s =
    let r = without_each Q p l (λ us m. s us (there m)) in
    by_cond (λ (w : List (List ℕ)). Each Q w) (p x) {x = without p l} {y = x ∷ without p l} (λ t. r) (λ t. of_cons Q x (without p l) (s x here) r)

pub put_each :
    (Q : List ℕ → Type 0) (room : ℕ) (by : List ℕ → List ℕ → Bool) (ks : List ℕ) (f : Front) → Q ks → Each Q f.sets →
    Each Q (put by room ks f).sets
put_each Q room by ks f s all =
    let rest = without (by ks) f.sets in
    by_cond
    (λ (h : Front). Each Q h.sets)
    (any (λ us. by us ks) f.sets)
    {x = f}
    {y = cond (ltb (length rest) room) (record { sets = ks ∷ rest; dropped = f.dropped }) (record { sets = f.sets; dropped = true })}
    (λ t. all)
    (λ t.
    by_cond
    (λ (h : Front). Each Q h.sets)
    (ltb (length rest) room)
    {x = record { sets = ks ∷ rest; dropped = f.dropped }}
    {y = record { sets = f.sets; dropped = true }}
    (λ u. of_cons Q ks rest s (without_each Q (by ks) f.sets all))
    (λ u. all))

pub offer_each :
    (Q : List ℕ → Type 0) (j : Job) (target room i : ℕ) (ks : List ℕ) (f : Front) → (T (not (is_hopeless j target i ks)) → Q ks) → Each Q f.sets →
    Each Q (offer j target room i ks f).sets
offer_each Q j target room i ks f s all =
    by_cond
    (λ (h : Front). Each Q h.sets)
    (is_hopeless j target i ks)
    {x = f}
    {y = put (set_covers j (smallest j (chunks j - i))) room ks f}
    (λ t. all)
    (λ t. put_each Q room (set_covers j (smallest j (chunks j - i))) ks f (s t) all)

pub offer_sets : (j : Job) (target room i : ℕ) (ks : List ℕ) (f : Front) → Set j i ks → Sets j i f.sets → Sets j i (offer j target room i ks f).sets
offer_sets j target room i ks f s all = offer_each (Set j i) j target room i ks f (λ t. s) all

module _ (j : Job) (target i g : ℕ) (small : LeastAfter j i g) where
  abbrev pub S : List (List ℕ) → List ℕ → Type 0
  S = Settled j target i

  pub by_cover : (front : List (List ℕ)) (us ks : List ℕ) → T (set_covers j g us ks) → Set j i us → S front us → S front ks
  by_cover front us ks t s r =
      let a = and_T (leb (length ks) (length us)) (covers j g (length us - length ks) (after_set j us) (after_set j ks)) t in
      covered us g s (leb→le (length ks) (length us) a.0) small ((covers_iff j g (length us - length ks) (after_set j us) (after_set j ks)).0 a.1) r

  -- One of the front covers it.
  pub any_cover : (front l : List (List ℕ)) (ks : List ℕ) → Sets j i l → ((us : List ℕ) → In us l → S front us) → T (any (λ us. set_covers j g us ks) l) → S front ks
  any_cover front [] ks s f t = absurd t
  any_cover front (x ∷ l) ks s f t =
      ⊎_elim
      (λ u. by_cover front x ks u (s x here) (f x here))
      (λ u. any_cover front l ks (λ us m. s us (there m)) (λ us m. f us (there m)) u)
      ((T_or_iff (set_covers j g x ks) (any (λ us. set_covers j g us ks) l)).0 t)

  pub in_without : {us : List ℕ} (p : List ℕ → Bool) {l : List (List ℕ)} → In us l → T (p us) ⊎ In us (without p l)
  in_without {us = us} p (here {xs = xs}) = by_cond (λ (r : List (List ℕ)). T (p us) ⊎ In us r) (p us) (λ t. inl t) (λ t. inr here)
  in_without {us = us} p (there {y = y} {xs = xs} m) =
      ⊎_elim
      (λ t. inl t)
      (λ n. inr (by_cond (λ (r : List (List ℕ)). In us r) (p y) (λ t. n) (λ t. there n)))
      (in_without p m)

  -- What a set put into a front leaves, if nothing was dropped.
  pub record Offered (f : Front) (ks : List ℕ) (h : Front) : Type 0 where
    pub undropped : T (not f.dropped)
    pub old : (us : List ℕ) → In us f.sets → S h.sets us
    pub new : S h.sets ks

  abbrev pub Ok : Front → List ℕ → Front → Type 0
  Ok f ks h = T (not h.dropped) → Offered f ks h

  pub put_ok : (room : ℕ) (ks : List ℕ) (f : Front) → Set j i ks → Sets j i f.sets → Ok f ks (put (set_covers j g) room ks f)
  put_ok room ks f s all =
      let rest = without (set_covers j g ks) f.sets in
      by_cond
      (Ok f ks)
      (any (λ us. set_covers j g us ks) f.sets)
      {x = f}
      {y = cond (ltb (length rest) room) (record { sets = ks ∷ rest; dropped = f.dropped }) (record { sets = f.sets; dropped = true })}
      (λ t d. record { undropped = d; old = λ us m. stays m; new = any_cover f.sets f.sets ks all (λ us m. stays m) t })
      (λ t.
      by_cond
      (Ok f ks)
      (ltb (length rest) room)
      {x = record { sets = ks ∷ rest; dropped = f.dropped }}
      {y = record { sets = f.sets; dropped = true }}
      (λ u d. record {
        undropped = d;
        old = λ us m. ⊎_elim (λ c. by_cover (ks ∷ rest) ks us c s (stays here)) (λ n. stays (there n)) (in_without (set_covers j g ks) m);
        new = stays here;
      })
      (λ u d. absurd d))

-- ---- the next front

module _ (j : Job) (target room i : ℕ) (inside : i ≤ chunks j) where
  abbrev pub small : LeastAfter j i (smallest j (chunks j - i))
  small = smallest_after j (chunks j - i) i (omega arith)

  pub offer_ok :
      (ks : List ℕ) (f : Front) → Set j i ks → Sets j i f.sets →
      Ok j target i (smallest j (chunks j - i)) small f ks (offer j target room i ks f)
  offer_ok ks f s all =
      by_cond
      (Ok j target i (smallest j (chunks j - i)) small f ks)
      (is_hopeless j target i ks)
      {x = f}
      {y = put (set_covers j (smallest j (chunks j - i))) room ks f}
      (λ t d.
      let a = and_T (ltb (length ks) target) (ltb (after j 0) (next_from j (after_set j ks) + least j i (target - length ks))) t in
      record {
        undropped = d;
        old = λ us m. stays m;
        new = hopeless s (ltb→lt (length ks) target a.0) (ltb→lt (after j 0) (next_from j (after_set j ks) + least j i (target - length ks)) a.1);
      })
      (λ t. put_ok j target i (smallest j (chunks j - i)) small room ks f s all)

module _ (j : Job) (target room i : ℕ) where
  pub next_sets : (front : List (List ℕ)) → Sets j i front → Sets j (suc i) (next_front j target room i front).sets
  next_sets [] s = λ us m. absurd (at_row (λ (x : List ℕ). ⊥) m tt)
  next_sets (ks ∷ rest) s =
      let r = next_sets rest (λ us m. s us (there m)) in
      let f = offer j target room (suc i) ks (next_front j target room i rest) in
      let a = offer_sets j target room (suc i) ks (next_front j target room i rest) (set_skip j i ks (s ks here)) r in
      by_cond
      (λ (h : Front). Sets j (suc i) h.sets)
      (leb (used_with j (after_set j ks) (suc i)) (end_of j (suc i)))
      {x = offer j target room (suc i) (ks ++ (suc i ∷ [])) f}
      {y = f}
      (λ t. offer_sets j target room (suc i) (ks ++ (suc i ∷ [])) f (set_keep j i ks (s ks here) (leb→le (used_with j (after_set j ks) (suc i)) (end_of j (suc i)) t)) a)
      (λ t. a)

  abbrev pub Makes : List (List ℕ) → Front → Type 0
  Makes front h = T (not h.dropped) → Next j target i front h.sets

  -- From one front to the next one that is made of it.
  through :
      (l : i < chunks j) (f h : Front) (ks : List ℕ) → Offered j target (suc i) (smallest j (chunks j - suc i)) (small j target room (suc i) l) f ks h →
      (us : List ℕ) → Settled j target (suc i) f.sets us → Settled j target (suc i) h.sets us
  through l f h ks o us r = settled_through j target (suc i) f.sets h.sets o.old r

  pub next_more :
      i < chunks j → (ks : List ℕ) (rest : List (List ℕ)) (f : Front) → Set j i ks → Sets j (suc i) f.sets → Makes rest f →
      Makes (ks ∷ rest)
      (let g = offer j target room (suc i) ks f in
      cond (leb (used_with j (after_set j ks) (suc i)) (end_of j (suc i))) (offer j target room (suc i) (ks ++ (suc i ∷ [])) g) g)
  next_more l ks rest f s all ih =
      let g = offer j target room (suc i) ks f in
      let s₁ = set_skip j i ks s in
      let all₁ = offer_sets j target room (suc i) ks f s₁ all in
      let b = leb (used_with j (after_set j ks) (suc i)) (end_of j (suc i)) in
      by_cond
      (Makes (ks ∷ rest))
      b
      {x = offer j target room (suc i) (ks ++ (suc i ∷ [])) g}
      {y = g}
      (λ t d.
      let h = offer j target room (suc i) (ks ++ (suc i ∷ [])) g in
      let s₂ = set_keep j i ks s (leb→le (used_with j (after_set j ks) (suc i)) (end_of j (suc i)) t) in
      let o₂ = offer_ok j target room (suc i) l (ks ++ (suc i ∷ [])) g s₂ all₁ d in
      let o₁ = offer_ok j target room (suc i) l ks f s₁ all o₂.undropped in
      let n = ih o₁.undropped in
      let on : (us : List ℕ) → Settled j target (suc i) f.sets us → Settled j target (suc i) h.sets us = λ us r.
      through l g h (ks ++ (suc i ∷ [])) o₂ us (through l f g ks o₁ us r) in
      record {
        skipped = λ us m. of_cons (λ (x : List ℕ). Settled j target (suc i) h.sets x) ks rest (through l g h (ks ++ (suc i ∷ [])) o₂ ks o₁.new) (λ x w. on x (n.skipped x w)) us m;
        kept = λ us m.
            of_cons
            (λ (x : List ℕ). used_with j (after_set j x) (suc i) ≤ end_of j (suc i) → Settled j target (suc i) h.sets (x ++ (suc i ∷ [])))
            ks
            rest
            (λ z. o₂.new)
            (λ x w z. on (x ++ (suc i ∷ [])) (n.kept x w z))
            us
            m;
      })
      (λ t d.
      let o₁ = offer_ok j target room (suc i) l ks f s₁ all d in
      let n = ih o₁.undropped in
      record {
        skipped = λ us m. of_cons (λ (x : List ℕ). Settled j target (suc i) g.sets x) ks rest o₁.new (λ x w. through l f g ks o₁ x (n.skipped x w)) us m;
        kept = λ us m.
            of_cons
            (λ (x : List ℕ). used_with j (after_set j x) (suc i) ≤ end_of j (suc i) → Settled j target (suc i) g.sets (x ++ (suc i ∷ [])))
            ks
            rest
            (λ z. absurd (T_not b t (le→leb (used_with j (after_set j ks) (suc i)) (end_of j (suc i)) z)))
            (λ x w z. through l f g ks o₁ (x ++ (suc i ∷ [])) (n.kept x w z))
            us
            m;
      })

  pub next_ok : i < chunks j → (front : List (List ℕ)) → Sets j i front → Makes front (next_front j target room i front)
  next_ok l [] s = λ d. record { skipped = λ ks m. absurd (at_row (λ (x : List ℕ). ⊥) m tt); kept = λ ks m t. absurd (at_row (λ (x : List ℕ). ⊥) m tt) }
  next_ok l (ks ∷ rest) s =
      next_more l ks rest (next_front j target room i rest) (s ks here) (next_sets rest (λ us m. s us (there m))) (next_ok l rest (λ us m. s us (there m)))

  -- None of them is hopeless.
  pub next_alive : (front : List (List ℕ)) → Each (λ ks. T (not (is_hopeless j target (suc i) ks))) (next_front j target room i front).sets
  next_alive [] = λ us m. absurd (at_row (λ (x : List ℕ). ⊥) m tt)
  next_alive (ks ∷ rest) =
      let Q : List ℕ → Type 0 = λ ks. T (not (is_hopeless j target (suc i) ks)) in
      let f = offer j target room (suc i) ks (next_front j target room i rest) in
      let a = offer_each Q j target room (suc i) ks (next_front j target room i rest) (λ t. t) (next_alive rest) in
      by_cond
      (λ (h : Front). Each Q h.sets)
      (leb (used_with j (after_set j ks) (suc i)) (end_of j (suc i)))
      {x = offer j target room (suc i) (ks ++ (suc i ∷ [])) f}
      {y = f}
      (λ t. offer_each Q j target room (suc i) (ks ++ (suc i ∷ [])) f (λ u. u) a)
      (λ t. a)

-- After the last chunk a set that lacks one is hopeless.
pub last_enough : (j : Job) (target : ℕ) (ks : List ℕ) → T (not (is_hopeless j target (chunks j) ks)) → target ≤ length ks
last_enough j target ks t =
    ⊎_elim
    (λ u.
    let l = ltb→lt (length ks) target u in
    let e : target - length ks ≡ suc (target - length ks - 1) = omega arith in
    let z : least j (chunks j) (target - length ks) ≡ too_much j = rw e (least_end j (chunks j) (target - length ks - 1) (omega arith)) in
    let n = next_from j (after_set j ks) in
    let w : after j 0 < n + least j (chunks j) (target - length ks) = omega (arith, z) in
    absurd (T_not (is_hopeless j target (chunks j) ks) t (T_and (ltb (length ks) target) (ltb (after j 0) (n + least j (chunks j) (target - length ks))) u (lt→ltb (after j 0) (n + least j (chunks j) (target - length ks)) w))))
    (λ u. nltb→le (length ks) target u)
    (test (ltb (length ks) target))

-- ---- a whole pass

-- What holds of a front after chunk i.
pub record Fronted (j : Job) (target i : ℕ) (f : Front) : Type 0 where
  pub sets_in : Sets j i f.sets
  pub passed : T (not f.dropped) → Pass j target i f.sets

either_not : (a b : Bool) → T (not (a || b)) → T (not a) × T (not b)
either_not true b t = absurd t
either_not false b t = (tt, t)

pub pass_one :
    (j : Job) (target room i : ℕ) (f : Front) → i < chunks j → Fronted j target i f →
    let g = next_front j target room i f.sets in Fronted j target (suc i) (record { sets = g.sets; dropped = f.dropped || g.dropped })
pass_one j target room i f l r =
    let g = next_front j target room i f.sets in
    record {
      sets_in = next_sets j target room i f.sets r.sets_in;
      passed = λ t.
          let u = either_not f.dropped g.dropped t in
          onward (r.passed u.0) l (next_ok j target room i l f.sets r.sets_in u.1);
    }

pub pass_ok : (j : Job) (target room n i : ℕ) (f : Front) → i + n ≡ chunks j → Fronted j target i f → Fronted j target (chunks j) (pass j target room n f)
pass_ok j target room zero i f e r = let e' : i ≡ chunks j = omega arith in subst (λ (x : ℕ). Fronted j target x f) e' r
pass_ok j target room (suc n) i f e r =
    let k : chunks j - suc n ≡ i = omega arith in
    let g = next_front j target room (chunks j - suc n) f.sets in
    pass_ok j target room n (suc i) (record { sets = g.sets; dropped = f.dropped || g.dropped }) (omega arith)
    (subst (λ (x : ℕ). let g = next_front j target room x f.sets in Fronted j target (suc i) (record { sets = g.sets; dropped = f.dropped || g.dropped })) (sym k) (pass_one j target room i f (omega arith) r))

pub pass_enough : (j : Job) (target room n : ℕ) (f : Front) → suc n ≤ chunks j → Each (λ ks. target ≤ length ks) (pass j target room (suc n) f).sets
pass_enough j target room zero f h =
    let k : suc (chunks j - 1) ≡ chunks j = omega arith in
    λ ks m. last_enough j target ks (rw k at (next_alive j target room (chunks j - 1) f.sets ks m))
pass_enough j target room (suc n) f h =
    let g = next_front j target room (chunks j - suc (suc n)) f.sets in
    pass_enough j target room n (record { sets = g.sets; dropped = f.dropped || g.dropped }) (omega arith)

pub whole_sets : (j : Job) (target room : ℕ) → (ks : List ℕ) → In ks (whole_pass j target room).sets → Set j (chunks j) ks
whole_sets j target room =
    (pass_ok j target room (chunks j) 0 (record { sets = [] ∷ []; dropped = false }) (omega arith)
    (record { sets_in = of_cons (Set j 0) [] [] (record { ascending = tt; in_time_lem = tt }) (λ us m. absurd (at_row (λ (x : List ℕ). ⊥) m tt)); passed = λ t. begin })).sets_in

pub whole_passed : (j : Job) (target room : ℕ) → T (not (whole_pass j target room).dropped) → Pass j target (chunks j) (whole_pass j target room).sets
whole_passed j target room =
    (pass_ok j target room (chunks j) 0 (record { sets = [] ∷ []; dropped = false }) (omega arith)
    (record { sets_in = of_cons (Set j 0) [] [] (record { ascending = tt; in_time_lem = tt }) (λ us m. absurd (at_row (λ (x : List ℕ). ⊥) m tt)); passed = λ t. begin })).passed

pub whole_enough : (j : Job) (target room : ℕ) → 1 ≤ chunks j → (ks : List ℕ) → In ks (whole_pass j target room).sets → target ≤ length ks
whole_enough j target room h = enough (chunks j) refl h
  where
    enough : (n : ℕ) → chunks j ≡ n → 1 ≤ n → Each (λ ks. target ≤ length ks) (pass j target room n (record { sets = [] ∷ []; dropped = false })).sets
    enough zero e h = absurd (omega arith)
    enough (suc n) e h = pass_enough j target room n (record { sets = [] ∷ []; dropped = false }) (omega arith)

-- ---- each chunk kept if it is in time

pub forward_set : (j : Job) (i : ℕ) → Set j i (forward j i)
forward_set j zero = record { ascending = tt; in_time_lem = tt }
forward_set j (suc i) =
    let ks = forward j i in
    let s = forward_set j i in
    by_cond (Set j (suc i)) (leb (used_with j (after_set j ks) (suc i)) (end_of j (suc i))) {x = ks ++ (suc i ∷ [])} {y = ks}
    (λ t. set_keep j i ks s (leb→le (used_with j (after_set j ks) (suc i)) (end_of j (suc i)) t))
    (λ t. set_skip j i ks s)

none_in : (us : List ℕ) → In us [] → ⊥
none_in us m = at_row (λ (x : List ℕ). ⊥) m tt

module _ (j : Job) (few : held_most j ≤ 1) (target : ℕ) where
  -- It alone is a front: where H is at most 1 a set covers all smaller ones.
  pub forward_next :
      (i : ℕ) (ks : List ℕ) → Set j i ks →
      let b = leb (used_with j (after_set j ks) (suc i)) (end_of j (suc i)) in
      Next j target i (ks ∷ []) (cond b (ks ++ (suc i ∷ [])) ks ∷ [])
  forward_next i ks s =
      let b = leb (used_with j (after_set j ks) (suc i)) (end_of j (suc i)) in
      by_cond
      (λ (next : List ℕ). Next j target i (ks ∷ []) (next ∷ []))
      b
      {x = ks ++ (suc i ∷ [])}
      {y = ks}
      (λ t.
      let us = ks ++ (suc i ∷ []) in
      let n = length-append ks (suc i ∷ []) in
      let more : length us ≡ suc (length ks) = omega (arith, n) in
      let set = set_keep j i ks s (leb→le (used_with j (after_set j ks) (suc i)) (end_of j (suc i)) t) in
      let c : Covers j 0 (length us - length ks) (after_set j us) (after_set j ks) = record {
        used_covered = λ l. absurd (omega (arith, l, more));
        waits_covered = λ q l. absurd (omega (arith, l, more));
      } in
      record {
        skipped = of_cons (Settled j target (suc i) (us ∷ [])) ks [] (covered us 0 set (omega (arith, more)) (λ k u v. omega arith) c (stays here)) (λ us m. absurd (none_in us m));
        kept = of_cons (λ (x : List ℕ). used_with j (after_set j x) (suc i) ≤ end_of j (suc i) → Settled j target (suc i) (us ∷ []) (x ++ (suc i ∷ []))) ks [] (λ z. stays here) (λ us m. absurd (none_in us m));
      })
      (λ t. record {
        skipped = of_cons (Settled j target (suc i) (ks ∷ [])) ks [] (stays here) (λ us m. absurd (none_in us m));
        kept =
            of_cons
            (λ (x : List ℕ). used_with j (after_set j x) (suc i) ≤ end_of j (suc i) → Settled j target (suc i) (ks ∷ []) (x ++ (suc i ∷ [])))
            ks
            []
            (λ z. absurd (T_not b t (le→leb (used_with j (after_set j ks) (suc i)) (end_of j (suc i)) z)))
            (λ us m. absurd (none_in us m));
      })
