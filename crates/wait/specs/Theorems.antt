-- Theorems. Document 02, request 5: the answer is the shortest wait, there is one at most, 16 says
-- that there is none; and "the plan skips no base" is the same as "some passing list carries every
-- base", for lists in playing order, and for equal chunks in any order.
use Prim.Native.Nat.{ℕ, ◌+◌, ◌≤◌, ◌<◌}
use Rattle.std.specs.Prelude.{Ok, Err, ◌≡◌, refl, Bool, true, false, cond, ◌&&◌, ◌↔◌, length, T}
use Rattle.std.proofs.Math.Path.{sym}
use Rattle.std.proofs.Common.{◌∙◌, subst, arith, length-take-le}
use Rattle.std.proofs.Math.Logic.{⊎_elim}
use Rattle.std.proofs.Math.Dec.{T_not, eqb, ltb, eqb→eq, ltb→lt, lt→ltb, nltb→le}
use borrow.Author.Tests.{ne_eqb}
use Rattle.theory_basics.specs.Refusals.{◌or_else◌, unless}
use Rattle.theory_basics.specs.Tests.{all}
use Rattle.theory_basics.specs.lemmas.Refusals.{or_else_as, or_else_none, or_else_some, unless_as}
use Rattle.theory_basics.specs.lemmas.Tables.{all_take}
use Rattle.theory_basics.specs.lemmas.Tests.{all_map, all_to_iff, by_cond, ltb_iff, test, neqb_ne}
use Rattle.job.specs.Input.{whole_refusal}
use Rattle.job.specs.Theorems.{whole_iff, bytes_iff, film_iff, overrides_iff, sizes_iff, within_iff}
use Rattle.job.specs.Job.{Accepted, EqualChunks, Named, Within, chunks, last_due}
use Rattle.job.specs.Refusal.{bytes_refusal, named, rising, sized, within}
use Rattle.theory_plan.specs.Plan.{plan}
use Rattle.theory_plan.specs.Statement.{CanCarry, IsPlan, NoSkip}
use Rattle.theory_plan.proofs.Theorems.{plan_exists, plan_unique}
use Rattle.theory_plan.specs.lemmas.Words.{accepted_sized}
use Rattle.wait.specs.Answer.{DelayMeans, WaitInput, WholeSizesIn, SixteenMeans, answer_of, eighteen_refusal, film_in, five_refusal, input_refusal, numbers_refusal, seven_refusal, shortest, six_refusal, sixteen_refusal, skips_none, slots_refusal, tries, wait_refusal}
use Rattle.wait.specs.Wait.{Film, FilmInRange, NoneWorks, ShortestWait, SomeList, SomeOrdered, Tried, Works, job_at, programme_at}
use Rattle.wait.specs.lemmas.Bases.{no_skip_any, no_skip_can_carry, no_skip_ordered}
use Rattle.wait.specs.lemmas.First.{first_none, first_some}
use Rattle.theory_plan.proofs.AllBases.{bases_alone}

-- ---- the input

-- The job for a tried s is accepted.
pub job_accepted : (w : Film) (s : ℕ) → FilmInRange w → Tried w s → Accepted (job_at w s)
job_accepted w s r t =
    record {
      chunks_in = r.chunks_in;
      span_in = r.span_in;
      delay_in = record { low = t.low; high = omega (arith, t.reaches, r.slots_in.high) };
      limit_in = r.limit_in;
      last_in = omega (arith, t.reaches, r.slots_in.high);
      layers_in = r.layers_in;
      sizes_in_lem = r.sizes_in;
      overrides_named =
          all_map (Named (programme_at w 1) w.sizes) (Named (programme_at w s) w.sizes) w.overrides
          (λ o n. record { chunk_in = n.chunk_in; layer_in = n.layer_in; not_own = n.not_own }) r.overrides_named;
      overrides_rise = r.overrides_rise;
      overrides_in_lem = r.overrides_in;
      forecast_in_lem = all_take (Within 0 16777216) (last_due (programme_at w s)) w.forecast r.forecast_in;
      slots_in = length-take-le (last_due (programme_at w s)) w.forecast t.reaches;
    }

-- None of 5, 6, 18 and 7 exactly if every SZ is handed whole and the input is in range.
pub input_iff : (h : WaitInput) → (input_refusal h ≡ 0) ↔ (WholeSizesIn h × FilmInRange (film_in h))
unfolding input_refusal
input_iff h =
    let w = film_in h in
    let n = length w.forecast in
    let seven =
    or_else_as (slots_refusal w.forecast) (bytes_refusal w.forecast)
    (unless_as 7 (within 1 3600 n) (omega arith) (within_iff 1 3600 n)) (bytes_iff w.forecast) in
    let eighteen =
    or_else_as (whole_refusal h.size_chunks h.size_layers h.size_bytes) (numbers_refusal w)
    (whole_iff h.size_chunks h.size_layers h.size_bytes) (overrides_iff (programme_at w 1) w.sizes w.overrides) in
    let six =
    or_else_as (six_refusal w) (eighteen_refusal h or_else seven_refusal w) (sizes_iff w.sizes)
    (or_else_as (eighteen_refusal h) (seven_refusal w) eighteen seven) in
    let r = or_else_as (five_refusal w) (six_refusal w or_else eighteen_refusal h or_else seven_refusal w) (film_iff (programme_at w 1)) six in (
      λ e.
          let u = r.0 e in (
            u.1.1.0.0,
            record {
              chunks_in = u.0.0;
              span_in = u.0.1.0;
              limit_in = u.0.1.1;
              layers_in = u.1.0.0;
              sizes_in = u.1.0.1;
              overrides_named = u.1.1.0.1.0;
              overrides_rise = u.1.1.0.1.1.0;
              overrides_in = u.1.1.0.1.1.1;
              slots_in = u.1.1.1.0;
              forecast_in = u.1.1.1.1;
            },
          ),
      λ x.
          let i = x.1 in
          r.1
          ((i.chunks_in, (i.span_in, i.limit_in)), ((i.layers_in, i.sizes_in), ((x.0, (i.overrides_named, (i.overrides_rise, i.overrides_in))), (i.slots_in, i.forecast_in)))),
    )

-- ---- one s

module _ (w : Film) (s : ℕ) (r : FilmInRange w) (t : Tried w s) where
  accepted : Accepted (job_at w s)
  accepted = job_accepted w s r t

  -- Whichever plan of the job is meant: there is exactly one.
  pub works_iff_plan : (p : ℕ → ℕ) → IsPlan (job_at w s) p → Works w s ↔ NoSkip (job_at w s) p
  works_iff_plan p d = (
    λ k i u v. rw (plan_unique (job_at w s) k.plan p k.is_plan d i u v) at (k.no_skip i u v),
    λ n. record { tried = t; plan = p; is_plan = d; no_skip = n },
  )

  the_plan : IsPlan (job_at w s) (plan (job_at w s))
  the_plan = plan_exists (job_at w s) accepted

  -- s works exactly if all bases can be carried,
  pub works_iff_can_carry : Works w s ↔ CanCarry (job_at w s) bases_alone
  works_iff_can_carry =
      let a = works_iff_plan (plan (job_at w s)) the_plan in
      let b = no_skip_can_carry (job_at w s) r.layers_in.low (accepted_sized (job_at w s) accepted) (plan (job_at w s)) the_plan in
      (λ k. b.0 (a.0 k), λ c. a.1 (b.1 c))

  -- if some passing list in playing order carries every base,
  pub works_iff_ordered : Works w s ↔ SomeOrdered (job_at w s)
  works_iff_ordered =
      let a = works_iff_plan (plan (job_at w s)) the_plan in
      let b = no_skip_ordered (job_at w s) r.layers_in.low (accepted_sized (job_at w s) accepted) (plan (job_at w s)) the_plan in
      (λ k. b.0 (a.0 k), λ c. a.1 (b.1 c))

  -- and for equal chunks if some passing list in any order does.
  pub works_iff_any : EqualChunks (job_at w s) → Works w s ↔ SomeList (job_at w s)
  works_iff_any equal =
      let a = works_iff_plan (plan (job_at w s)) the_plan in
      let b = no_skip_any (job_at w s) r.layers_in.low (accepted_sized (job_at w s) accepted) (plan (job_at w s)) the_plan equal in
      (λ k. b.0 (a.0 k), λ c. a.1 (b.1 c))

  -- The test that the answer's definition makes of the computed plan says it.
  pub skips_none_iff : T (skips_none (job_at w s)) ↔ Works w s
  unfolding skips_none
  skips_none_iff =
      let j = job_at w s in
      let a = works_iff_plan (plan j) the_plan in
      let b = all_to_iff (chunks j) (λ i. ltb 0 (plan j i)) in
      (λ t. a.1 (λ i u v. ltb→lt 0 (plan j i) (b.0 t i u v)), λ k. b.1 (λ i u v. lt→ltb 0 (plan j i) (a.0 k i u v)))

-- ---- the smallest s

-- There is one shortest wait at most.
pub shortest_unique : (w : Film) (s r : ℕ) → ShortestWait w s → ShortestWait w r → s ≡ r
shortest_unique w s r a b =
    ⊎_elim
    (λ t. absurd (b.least s (ltb→lt s r t) a.works))
    (λ t.
    ⊎_elim
    (λ u. absurd (a.least r (ltb→lt r s u) b.works))
    (λ u. omega (arith, nltb→le s r t, nltb→le r s u))
    (test (ltb r s)))
    (test (ltb s r))

-- The s that the forecast reaches are 1 to `tries`.
tried_within : (w : Film) (s : ℕ) → 1 ≤ s → s < 1 + tries w → Tried w s
tried_within w s g h = record { low = g; reaches = omega arith }

within_tried : (w : Film) (s : ℕ) → Tried w s → s < 1 + tries w
within_tried w s t = omega (arith, t.low, t.reaches)

module _ (w : Film) (r : FilmInRange w) where
  abbrev each : ℕ → Bool
  each s = skips_none (job_at w s)

  -- What is computed is the shortest wait,
  shortest_is : 0 < shortest w → ShortestWait w (shortest w)
  unfolding shortest
  shortest_is h =
      let f = first_some each 1 (tries w) (omega arith) h in
      let s : ℕ = shortest w in
      record {
        works = (skips_none_iff w s r (tried_within w s f.low f.high)).0 f.passes;
        least = λ k l x. T_not (each k) (f.least k x.tried.low l) ((skips_none_iff w k r x.tried).1 x);
      }

  -- and where there is none no s works.
  shortest_none : shortest w ≡ 0 → NoneWorks w
  unfolding shortest
  shortest_none h s x =
      T_not (each s) (first_none each 1 (tries w) (omega arith) h s x.tried.low (within_tried w s x.tried)) ((skips_none_iff w s r x.tried).1 x)

  pub shortest_iff : (s : ℕ) → ((shortest w ≡ s) × (0 < s)) ↔ ShortestWait w s
  shortest_iff s = (
    λ u. rw u.0 at (shortest_is (omega arith)),
    λ a.
        let pos : 0 < s = a.works.tried.low in
        ⊎_elim
        (λ t. (shortest_unique w (shortest w) s (shortest_is (ltb→lt 0 (shortest w) t)) a, pos))
        (λ t. absurd (shortest_none (omega (arith, nltb→le 0 (shortest w) t)) s a.works))
        (test (ltb 0 (shortest w))),
  )

  pub none_iff : (shortest w ≡ 0) ↔ NoneWorks w
  none_iff = (
    shortest_none,
    λ n. ⊎_elim (λ t. absurd (n (shortest w) (shortest_is (ltb→lt 0 (shortest w) t)).works)) (λ t. omega (arith, nltb→le 0 (shortest w) t)) (test (ltb 0 (shortest w))),
  )

-- ---- the refusals

-- Not refused exactly if every SZ is handed whole, the input is in range and some s works.
pub wait_iff : (h : WaitInput) → (wait_refusal h ≡ 0) ↔ ((WholeSizesIn h × FilmInRange (film_in h)) × (0 < shortest (film_in h)))
unfolding wait_refusal
wait_iff h =
    let s : ℕ = shortest (film_in h) in
    or_else_as (input_refusal h) (sixteen_refusal (film_in h)) (input_iff h) (unless_as 16 (ltb 0 s) (omega arith) (ltb_iff 0 s))

-- A delay that is answered is within the forecast: at most 3,600.
pub wait_few : (h : WaitInput) → wait_refusal h ≡ 0 → shortest (film_in h) ≤ 3600
wait_few h e =
    let u = (wait_iff h).0 e in
    let t = ((shortest_iff (film_in h) u.0.1 (shortest (film_in h))).0 (refl, u.1)).works.tried in
    omega (arith, t.reaches, u.0.1.slots_in.high)

-- ---- the answer

-- A composed refusal is none but one of its parts.
unless_other : (m n : ℕ) (b : Bool) → 0 < m → (n ≡ m → ⊥) → unless n b ≡ m → ⊥
unless_other m n b p h = by_cond (λ (r : ℕ). r ≡ m → ⊥) b (λ t e. omega arith) (λ t. h)

or_else_other : (m a b : ℕ) → (a ≡ m → ⊥) → (b ≡ m → ⊥) → (a or_else b) ≡ m → ⊥
or_else_other m a b g h = by_cond (λ (r : ℕ). r ≡ m → ⊥) (eqb a 0) (λ t. h) (λ t. g)

module _ (h : WaitInput) where
  abbrev film : Film
  film = film_in h

  delay_test : (s : ℕ) (b : Bool) → cond b (Ok (shortest film)) (Err (wait_refusal h)) ≡ Ok s → (b ≡ true) × (shortest film ≡ s)
  delay_test s true e = (cc, cc)
  delay_test s false e = let z : ◌≡◌ {A = ℕ} 0 1 = cc in absurd (omega arith)

  refused_test : (n : ℕ) (b : Bool) → cond b (Ok (shortest film)) (Err (wait_refusal h)) ≡ Err n → wait_refusal h ≡ n
  refused_test n true e = let z : ◌≡◌ {A = ℕ} 0 1 = cc in absurd (omega arith)
  refused_test n false e = cc

  -- The call answers s exactly if it is the shortest wait.
  pub answered_iff : DelayMeans h (answer_of h)
  answered_iff s = (
    λ e.
        let u = delay_test s (eqb (wait_refusal h) 0) e in
        let z : wait_refusal h ≡ 0 = eqb→eq (wait_refusal h) 0 (subst T (sym u.0) tt) in
        let r = (wait_iff h).0 z in
        let x = (shortest_iff film r.0.1 s).0 (u.1, omega (arith, r.1, u.1)) in
        record { whole = r.0.0; in_range = r.0.1; accepted = job_accepted film s r.0.1 x.works.tried; shortest = x },
    λ x.
        let v = (shortest_iff film x.in_range s).1 x.shortest in
        let z : wait_refusal h ≡ 0 = (wait_iff h).1 ((x.whole, x.in_range), omega (arith, v.0, v.1)) in
        rw (z, v.0),
  )

  -- 5, 6, 18 and 7 come first,
  pub input_first : 0 < input_refusal h → answer_of h ≡ Err (input_refusal h)
  unfolding wait_refusal
  input_first p =
      let z : input_refusal h ≡ 0 → ⊥ = λ e. omega (arith, p, e) in
      let r : wait_refusal h ≡ input_refusal h = or_else_some (input_refusal h) (sixteen_refusal film) z in
      rw (r, ne_eqb (input_refusal h) 0 z)

  not_sixteen : input_refusal h ≡ 16 → ⊥
  unfolding input_refusal
  not_sixteen =
      let p = programme_at film 1 in
      let five = within 1 500 p.chunks && (within 1 60 p.span && within 0 65535 p.limit) in
      let six = within 1 4 (length h.sizes) && all (within 1 16777216) h.sizes in
      let whole = eqb (length h.size_layers) (length h.size_chunks) && eqb (length h.size_bytes) (length h.size_chunks) in
      let os = film.overrides in
      let numbers = all (named p h.sizes) os && (rising os && all sized os) in
      let slots = within 1 3600 (length h.forecast) in
      let bytes = all (within 0 16777216) h.forecast in
      let no : (n : ℕ) (b : Bool) → (n ≡ 16 → ⊥) → unless n b ≡ 16 → ⊥ = λ n b. unless_other 16 n b (omega arith) in
      let seven = or_else_other 16 (slots_refusal h.forecast) (bytes_refusal h.forecast) (no 7 slots (λ e. omega arith)) (no 7 bytes (λ e. omega arith)) in
      let eighteen =
      or_else_other 16 (whole_refusal h.size_chunks h.size_layers h.size_bytes) (numbers_refusal film) (no 18 whole (λ e. omega arith)) (no 18 numbers (λ e. omega arith)) in
      or_else_other 16 (five_refusal film) (six_refusal film or_else eighteen_refusal h or_else seven_refusal film) (no 5 five (λ e. omega arith))
      (or_else_other 16 (six_refusal film) (eighteen_refusal h or_else seven_refusal film) (no 6 six (λ e. omega arith)) (or_else_other 16 (eighteen_refusal h) (seven_refusal film) eighteen seven))

  sixteen_in_range : wait_refusal h ≡ 16 → (input_refusal h ≡ 0) × (shortest film ≡ 0)
  unfolding wait_refusal
  sixteen_in_range e =
      ⊎_elim
      (λ t.
      let z = eqb→eq (input_refusal h) 0 t in
      let s : sixteen_refusal film ≡ 16 = sym (or_else_none (input_refusal h) (sixteen_refusal film) z) ∙ e in (
        z,
        ⊎_elim
            (λ u. absurd (omega (arith, s, (unless_as 16 (ltb 0 (shortest film)) (omega arith) (ltb_iff 0 (shortest film))).1 (ltb→lt 0 (shortest film) u))))
            (λ u. omega (arith, nltb→le 0 (shortest film) u))
            (test (ltb 0 (shortest film))),
      ))
      (λ t.
      let n : input_refusal h ≡ 0 → ⊥ = neqb_ne (input_refusal h) 0 t in
      absurd (not_sixteen (sym (or_else_some (input_refusal h) (sixteen_refusal film) n) ∙ e)))
      (test (eqb (input_refusal h) 0))

  none_sixteen : input_refusal h ≡ 0 → shortest film ≡ 0 → wait_refusal h ≡ 16
  unfolding wait_refusal
  none_sixteen z e = or_else_none (input_refusal h) (sixteen_refusal film) z ∙ rw e

  -- then "16, exactly if no s within the forecast works,
  pub sixteen_iff : SixteenMeans h (answer_of h)
  sixteen_iff = (
    λ e.
        let u = sixteen_in_range (refused_test 16 (eqb (wait_refusal h) 0) e) in
        let r = (input_iff h).0 u.0 in
        (r, (none_iff film r.1).0 u.1),
    λ x. let z : wait_refusal h ≡ 16 = none_sixteen ((input_iff h).1 x.0) ((none_iff film x.0.1).1 x.1) in rw z,
  )

  -- a forecast too short for s = 1 included."
  pub too_short : WholeSizesIn h → FilmInRange film → length film.forecast < last_due (programme_at film 1) → answer_of h ≡ Err 16
  too_short whole r l = sixteen_iff.1 ((whole, r), λ s k. omega (arith, l, k.tried.low, k.tried.reaches))
