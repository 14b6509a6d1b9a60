-- Lemmas. A turn of a pass (the next front takes the front's place), a pass, and the search: one
-- pass after the other for falling targets. Assumes nothing.
use Rattle.std.specs.Prelude.{ℕ, suc, ◌+◌, ◌*◌, ◌-◌, ◌<◌, ◌≤◌, ◌≡◌, Bool, true, List, [], ◌∷◌, length, get_or, set, take, drop, leb}
use Rattle.std.proofs.Common.{sym, ap, ◌∙◌, subst, arith, add-one, length-drop, length-set, length-take, get_or-drop, get_or-set_same, get_or-take}
use Rattle.job.specs.Job.{Job, chunks}
use Rattle.theory_plan.specs.Plan.{after}
use Rattle.theory_most.specs.Statement.{Next, NoneAboveInOrder, Pass, Set, after_set, begin, bound, least, onward}
use Rattle.theory_most.proofs.Theorems.{bound_in_order, pass_ends}
use Rattle.theory_most.proofs.Bounds.{largest_le}
use Rattle.core_covering.specs.lemmas.Tables.{RowOf}
use Rattle.core_front.specs.declared.Front.{Front}
use Rattle.core_front.specs.declared.Measure.{Measure}
use Rattle.core_front.specs.declared.Sets.{Sets}
use Rattle.core_front.specs.lemmas.Sets.{set_long}
use Rattle.core_front.specs.lemmas.Tables.{FrontIn, Long, SetIn, front_of, set_at}
use Rattle.core_passes.specs.declared.Chunk.{Chunk}
use Rattle.core_passes.specs.declared.Film.{Film}
use Rattle.core_passes.specs.declared.Found.{Found}
use Rattle.core_passes.specs.lemmas.Fronts.{front_all, front_same, set_moves}
use Rattle.core_passes.specs.lemmas.Tables.{CopyFrontPost, CopyFrontPre, FilmOf, LargestPost, LookPost, LookPre, PassPost, PassPre, StepFor, StepPost, StepPre, TurnFor, TurnPost, TurnPre}

-- ---- a turn

abbrev pub measure_at : Film → ℕ → List ℕ → ℕ → Measure
measure_at film target smallest k = record { target = target; held = film.held; all = film.all; smallest = get_or smallest k 0 }

abbrev pub chunk_at : List ℕ → List ℕ → ℕ → Chunk
chunk_at bases ends k = record { number = k; base = get_or bases k 0; end = get_or ends k 0 }

-- Row k of the work slice.
abbrev pub row_at : List ℕ → ℕ → List ℕ
row_at work k = take (k * 501 + 501 - k * 501) (drop (k * 501) work)

row_at_lem :
    {j : Job} {film : Film} {ends opens bases smallest work : List ℕ} → FilmOf j film ends opens bases smallest work → (k : ℕ) → k ≤ chunks j →
    RowOf j k (row_at work k)
row_at_lem {work = work} f k h =
    let few = f.accepted.chunks_in.high in
    let e : k * 501 + 501 - k * 501 ≡ 501 = omega arith in
    record {
      is = λ c l.
          get_or-take (k * 501 + 501 - k * 501) (drop (k * 501) work) c 0 (omega (arith, few))
          ∙ get_or-drop (k * 501) work c 0
          ∙ f.rows k c (omega arith) h l;
      long = omega (arith, length-take (k * 501 + 501 - k * 501) (drop (k * 501) work), length-drop (k * 501) work, f.long);
    }

module _ {film : Film} {target i : ℕ} {ends opens bases smallest work : List ℕ} {sets : Sets} {n : ℕ} where
  step_for :
      {j : Job} → TurnFor j film target i ends opens bases smallest work sets n → (k : ℕ) → k ≡ suc i →
      StepFor j i (measure_at film target smallest k) (chunk_at bases ends k) (row_at work k) opens sets n
  step_for {j} t k e =
      let f = t.film_is in
      let in_job : suc i ≤ chunks j = omega (arith, t.inside) in
      let at_least : 1 ≤ suc i = omega arith in
      record {
        inside = t.inside;
        measure = record {
          accepted = f.accepted;
          inside = in_job;
          target_in = t.target_in;
          held_is = f.held_is;
          held_some = f.held_some;
          all_is = f.all_is;
          least_is = rw e (f.levels.least_are.is (suc i) at_least in_job);
          least_small = rw e (f.levels.least_are.small (suc i) at_least in_job);
          opens_are = f.levels.opens_are;
        };
        row_is = rw e (row_at_lem f (suc i) in_job);
        chunk_is = record {
          number_is = e;
          base_is = rw e (f.levels.bases_are.is (suc i) at_least in_job);
          end_is = rw e (f.levels.ends_are.is (suc i) at_least in_job);
        };
        front = t.front;
        room = t.room;
      }

  module _ {nextSets : Sets} (p : TurnPre film target i ends opens bases smallest work sets n nextSets) (k : ℕ) (e : k ≡ suc i) where
    pub turn_step_pre :
        StepPre (measure_at film target smallest k) (chunk_at bases ends k) (row_at work k) opens sets n nextSets
    turn_step_pre = record { job = p.job; before = i; holds = step_for p.holds k e; long = p.next_long }

    module _ {r : Front} {made : Sets} (stepped : StepPost (measure_at film target smallest k) (chunk_at bases ends k) (row_at work k) opens sets n r made) where
      pub turn_copy_pre : CopyFrontPre made r.sets sets
      turn_copy_pre =
          let f = (stepped.each p.job i (step_for p.holds k e)).front in
          record { long = f.long; to_long = p.holds.front.long; few = λ a h. (f.each a h).few; room = stepped.room }

      pub turn_post :
          {made' : Sets} → CopyFrontPost made r.sets made' →
          TurnPost film target i ends opens bases smallest work sets n r made' made
      turn_post {made'} copied =
          record {
            each = λ j t.
                let o = stepped.each j i (step_for t k e) in
                record {
                  front = record {
                    each = λ a h. set_moves (copied.same a h) (copied.same_counts a h) (copied.same_useds a h) (o.front.each a h);
                    long = copied.long;
                  };
                  next = λ w. subst (λ (l : List (List ℕ)). Next j target i (front_of sets n) l) (sym (front_same made made' r.sets copied.same)) (o.next w);
                };
            room = stepped.room;
            next_long = (stepped.each p.job i (step_for p.holds k e)).front.long;
          }

-- ---- a pass

-- The front after chunk i.
pub record PassingOf (j : Job) (target : ℕ) (sets : Sets) (n : ℕ) (whole : Bool) (i : ℕ) : Type 0 where
  pub front : FrontIn j i sets n
  pub pass : whole ≡ true → Pass j target i (front_of sets n)

pub record Passing (film : Film) (target : ℕ) (ends opens bases smallest work : List ℕ) (sets nextSets : Sets) (n : ℕ) (whole : Bool) (i : ℕ) : Type 0 where
  pub each : (j : Job) → FilmOf j film ends opens bases smallest work → target ≤ chunks j → PassingOf j target sets n whole i
  pub room : n ≤ 64
  pub so_far : i ≤ film.count
  pub next_long : Long nextSets

-- The empty set alone.
abbrev pub with_none : Sets → Sets
with_none sets = record { chunks = sets.chunks; counts = set sets.counts 0 0; useds = set sets.useds 0 0 }

pub passing_start :
    {film : Film} {target : ℕ} {ends opens bases smallest work : List ℕ} {sets nextSets : Sets} {whole : Bool} →
    PassPre film target ends opens bases smallest work sets nextSets →
    Passing film target ends opens bases smallest work (with_none sets) nextSets 1 whole 0
passing_start {film} {target} {ends} {opens} {bases} {smallest} {work} {sets} {whole = whole} p =
    record { each = λ j f t. on j; room = omega arith; so_far = omega arith; next_long = p.next_long }
  where
    count_none : get_or (set sets.counts 0 0) 0 0 ≡ 0
    count_none = get_or-set_same sets.counts 0 0 0 (omega (arith, p.long.counts_long))

    none : set_at (with_none sets) 0 ≡ []
    none = rw count_none

    empty : (j : Job) → SetIn j 0 (with_none sets) 0
    empty j =
        record {
          is_set = subst (λ (ks : List ℕ). Set j 0 ks) (sym none) (record { ascending = tt; in_time_lem = tt });
          used_is = get_or-set_same sets.useds 0 0 0 (omega (arith, p.long.useds_long)) ∙ ap (λ (ks : List ℕ). (after_set j ks).used) (sym none);
          few = omega (arith, count_none);
        }

    on : (j : Job) → PassingOf j target (with_none sets) 1 whole 0
    on j =
        record {
          front = record {
            each = λ a h. let e : 0 ≡ a = omega arith in subst (λ (x : ℕ). SetIn j 0 (with_none sets) x) e (empty j);
            long = record { sets_long = p.long.sets_long; counts_long = simp length-set p.long.counts_long; useds_long = simp length-set p.long.useds_long };
          };
          pass = λ w. subst (λ (ks : List ℕ). Pass j target 0 (ks ∷ [])) (sym none) begin;
        }

module _ {film : Film} {target : ℕ} {ends opens bases smallest work : List ℕ} {sets nextSets : Sets} {n : ℕ} {whole : Bool} {i : ℕ} (v : Passing film target ends opens bases smallest work sets nextSets n whole i) (more : i < film.count) where
  turn_for :
      {j : Job} → FilmOf j film ends opens bases smallest work → target ≤ chunks j → TurnFor j film target i ends opens bases smallest work sets n
  turn_for {j} f t =
      record { film_is = f; target_in = t; inside = omega (arith, f.count_is); front = (v.each j f t).front; room = v.room }

  pub passing_more :
      {r : Front} {made nextMade : Sets} {whole' : Bool} → TurnPost film target i ends opens bases smallest work sets n r made nextMade →
      (whole' ≡ true → (whole ≡ true) × (r.whole ≡ true)) →
      Passing film target ends opens bases smallest work made nextMade r.sets whole' (i + 1)
  passing_more {r} {made} {nextMade} {whole'} turned both =
      record { each = on; room = turned.room; so_far = omega arith; next_long = turned.next_long }
    where
      on : (j : Job) → FilmOf j film ends opens bases smallest work → target ≤ chunks j → PassingOf j target made r.sets whole' (i + 1)
      on j f t =
          let o = turned.each j (turn_for f t) in
          rw (add-one i)
          (record {
            front = o.front;
            pass = λ w. onward ((v.each j f t).pass (both w).0) (omega (arith, f.count_is)) (o.next (both w).1);
          })

pub passing_long :
    {film : Film} {target : ℕ} {ends opens bases smallest work : List ℕ} {sets nextSets : Sets} {n : ℕ} {whole : Bool} {i : ℕ} →
    Passing film target ends opens bases smallest work sets nextSets n whole i →
    {made₀ nextMade₀ : Sets} → PassPre film target ends opens bases smallest work made₀ nextMade₀ → Long sets
passing_long v p = (v.each p.job p.film_is (omega (arith, p.target_in, p.film_is.count_is))).front.long

pub passing_end :
    {film : Film} {target : ℕ} {ends opens bases smallest work : List ℕ} {sets nextSets : Sets} {i : ℕ} (r : Front) →
    {made₀ nextMade₀ : Sets} → PassPre film target ends opens bases smallest work made₀ nextMade₀ →
    Passing film target ends opens bases smallest work sets nextSets r.sets r.whole i → film.count ≤ i →
    PassPost film target ends opens bases smallest work r sets nextSets
passing_end {film} {target} {sets = sets} {i = i} r p v h =
    record {
      each = λ j f t.
          let e : i ≡ chunks j = omega (arith, f.count_is, v.so_far) in
          let o = subst (λ (x : ℕ). PassingOf j target sets r.sets r.whole x) e (v.each j f t) in
          record { front = o.front; pass = o.pass };
      room = v.room;
      long = passing_long v p;
      next_long = v.next_long;
    }

-- ---- a set of most chunks

pub record Larger (counts : List ℕ) (n best a : ℕ) : Type 0 where
  pub one : 0 < a → best < a
  pub none : a ≤ 0 → best ≤ 0
  pub most : (b : ℕ) → b < a → get_or counts b 0 ≤ get_or counts best 0
  pub so_far : a ≤ n

-- ---- the search

bound_few : (j : Job) → bound j ≤ chunks j
unfolding bound
bound_few j = largest_le (λ c. leb (least j 0 c) (after j 0)) (chunks j)

pub record Looking (film : Film) (most : ℕ) (ends opens bases smallest work : List ℕ) (sets nextSets : Sets) (lowest target : ℕ) : Type 0 where
  pub each : (j : Job) → FilmOf j film ends opens bases smallest work → most ≡ bound j → NoneAboveInOrder j lowest × (lowest ≤ bound j)
  pub target_in : target ≤ most
  pub long : Long sets
  pub next_long : Long nextSets

pub looking_start :
    {film : Film} {most : ℕ} {ends opens bases smallest work : List ℕ} {sets nextSets : Sets} →
    LookPre film most ends opens bases smallest work sets nextSets →
    Looking film most ends opens bases smallest work sets nextSets most most
looking_start p =
    record {
      each = λ j f e. (rw e (bound_in_order j f.accepted), omega (arith, e));
      target_in = omega arith;
      long = p.long;
      next_long = p.next_long;
    }

module _ {film : Film} {most : ℕ} {ends opens bases smallest work : List ℕ} {sets nextSets : Sets} {lowest target : ℕ} (v : Looking film most ends opens bases smallest work sets nextSets lowest target) where
  module _ {made₀ nextMade₀ : Sets} (p : LookPre film most ends opens bases smallest work made₀ nextMade₀) where
    pub looking_pass_pre : PassPre film target ends opens bases smallest work sets nextSets
    looking_pass_pre =
        record {
          job = p.job;
          film_is = p.film_is;
          target_in = omega (arith, v.target_in, p.bound_is, bound_few p.job, p.film_is.count_is);
          long = v.long;
          next_long = v.next_long;
        }

    -- A set that reaches the target is found.
    pub looked_found :
        {r : Front} {made nextMade : Sets} (has : ℕ) (out : Found) → PassPost film target ends opens bases smallest work r made nextMade →
        out.place < r.sets → out.count ≡ get_or made.counts out.place 0 → out.bound ≡ lowest →
        LookPost film most has ends opens bases smallest work out made
    looked_found {r} {made} has out q inside counted lowered =
        let f = (q.each p.job p.film_is (omega (arith, v.target_in, p.bound_is, bound_few p.job))).front in
        record {
          each = λ j g e. record {
            none_above = rw lowered (v.each j g e).0;
            no_higher = omega (arith, lowered, (v.each j g e).1);
            set_in = λ h. ((q.each j g (omega (arith, v.target_in, e, bound_few j))).front.each out.place inside).is_set;
          };
          long = q.long;
          place_in = omega (arith, q.room);
          few = omega (arith, counted, (f.each out.place inside).few);
          count_is = λ h. counted;
        }

  -- And if it was whole, so does the bound.
  pub looking_lower :
      {r : Front} {made nextMade : Sets} {next place low : ℕ} → PassPost film target ends opens bases smallest work r made nextMade → next + 1 ≡ target →
      LargestPost made.counts r.sets place → (0 < r.sets → get_or made.counts place 0 < target) → r.whole ≡ true → low ≡ next →
      Looking film most ends opens bases smallest work made nextMade low next
  looking_lower {r} {made} {next = next} {place = place} {low = low} q e l small whole lowered =
      record {
        each = λ j f b.
            let o = q.each j f (omega (arith, v.target_in, b, bound_few j)) in
            let d : target - 1 ≡ low = omega arith in (
              subst (NoneAboveInOrder j) d
                  (pass_ends j f.accepted target (front_of made r.sets) (o.pass whole)
                  (front_all (λ ks. length ks < target) made r.sets
                  (λ a h.
                  let one = o.front.each a h in
                  omega (arith, set_long made a q.long.sets_long (omega (arith, q.room)) one.few, l.most a h, small (omega arith))))),
              omega (arith, v.target_in, b),
            );
        target_in = omega (arith, v.target_in);
        long = q.long;
        next_long = q.next_long;
      }
