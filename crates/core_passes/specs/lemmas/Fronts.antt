-- Lemmas. Fronts in tables: a chunk put behind a set, a set offered to the next front without the
-- next chunk and with it, and the next front made so, set by set. Assumes nothing.
use Rattle.std.specs.Prelude.{ℕ, zero, suc, ◌+◌, ◌*◌, ◌-◌, ◌<◌, ◌≤◌, ◌≡◌, refl, Bool, true, List, [], ◌∷◌, ◌++◌, get_or, take, drop, ltb}
use Rattle.std.proofs.Common.{sym, ap, ◌∙◌, subst, ⊎_elim, arith, lt-ltb}
use Rattle.theory_basics.specs.Tests.{All, In, here, there}
use Rattle.theory_basics.specs.lemmas.Tests.{at_row}
use Rattle.job.specs.Job.{Job, held_most}
use Rattle.theory_most.specs.Statement.{Set, Settled, State, after_set, end_of, stays, used_with}
use Rattle.theory_most.proofs.Theorems.{keeps_to_set, set_state, settled_on, skips_to_set}
use Rattle.core_covering.specs.lemmas.Levels.{after_small, base_small, set_few}
use Rattle.core_covering.specs.lemmas.Tables.{NextFromPost, SetOf}
use Rattle.theory_most.proofs.Front.{set_inside}
use Rattle.core_front.specs.declared.Front.{Front}
use Rattle.core_front.specs.declared.Measure.{Measure}
use Rattle.core_front.specs.declared.Sets.{Sets}
use Rattle.core_front.specs.lemmas.Sets.{before_or_at, set_long}
use Rattle.core_front.specs.lemmas.Tests.{part_is}
use Rattle.core_front.specs.lemmas.Tables.{CopySetPost, FrontIn, Long, SetIn, SettleFor, SettlePost, SettlePre, front_of, set_at}
use Rattle.core_passes.specs.declared.Chunk.{Chunk}
use Rattle.core_passes.specs.lemmas.Tables.{AppendPost, AppendPre, ChunkOf, KeepFor, KeepPost, KeepPre, OfferFor, OfferPost, OfferPre, StepFor, StepPost, StepPre}

-- ---- the sets of a front

pub front_all : (P : List ℕ → Type 0) (sets : Sets) (n : ℕ) → ((a : ℕ) → a < n → P (set_at sets a)) → All P (front_of sets n)
front_all P sets zero f = tt
front_all P sets (suc n) f = (f n (omega arith), front_all P sets n (λ a h. f a (omega arith)))

-- What holds of the set in each place holds of each set.
pub in_front_lem :
    (P : List ℕ → Type 0) (sets : Sets) (n : ℕ) → ((a : ℕ) → a < n → P (set_at sets a)) → (ks : List ℕ) →
    In ks (front_of sets n) → P ks
in_front_lem P sets n f ks i = at_row P i (front_all P sets n f)

pub front_same :
    (sets sets' : Sets) (n : ℕ) → ((a : ℕ) → a < n → set_at sets' a ≡ set_at sets a) →
    front_of sets' n ≡ front_of sets n
front_same sets sets' zero f = refl
front_same sets sets' (suc n) f =
    ap (λ (l : List (List ℕ)). set_at sets' n ∷ l) (front_same sets sets' n (λ a h. f a (omega arith)))
    ∙ ap (λ (ks : List ℕ). ks ∷ front_of sets n) (f n (omega arith))

-- A set that stands elsewhere as it stood here.
pub set_moves :
    {j : Job} {i : ℕ} {sets : Sets} {a : ℕ} {sets' : Sets} {b : ℕ} → set_at sets' b ≡ set_at sets a →
    get_or sets'.counts b 0 ≡ get_or sets.counts a 0 → get_or sets'.useds b 0 ≡ get_or sets.useds a 0 → SetIn j i sets a → SetIn j i sets' b
set_moves {j} {i} e n u s =
    record {
      is_set = subst (λ (ks : List ℕ). Set j i ks) (sym e) s.is_set;
      used_is = u ∙ s.used_is ∙ ap (λ (ks : List ℕ). (after_set j ks).used) (sym e);
      few = omega (arith, n, s.few);
    }

-- The first n sets as they were, and one more in place n.
pub front_more :
    {j : Job} {i : ℕ} {sets sets' : Sets} {n : ℕ} → FrontIn j i sets n → Long sets' →
    ((a : ℕ) → a < n → set_at sets' a ≡ set_at sets a) → ((a : ℕ) → a < n → get_or sets'.counts a 0 ≡ get_or sets.counts a 0) →
    ((a : ℕ) → a < n → get_or sets'.useds a 0 ≡ get_or sets.useds a 0) → SetIn j i sets' n → FrontIn j i sets' (suc n)
front_more {j} {i} {sets} {sets'} {n} f l e c u s =
    record {
      each = λ a h. ⊎_elim (λ b. set_moves (e a b) (c a b) (u a b) (f.each a b)) (λ b. subst (λ (x : ℕ). SetIn j i sets' x) (sym b) s) (before_or_at a n (omega arith));
      long = l;
    }

-- ---- a set offered without the next chunk

module _ {by : Measure} {row opens : List ℕ} {sets : Sets} {a : ℕ} {nextSets : Sets} {n : ℕ} where
  module _ {made : Sets} (copied : CopySetPost sets a nextSets n made) where
    skip_settles : {j : Job} {i : ℕ} → OfferFor j i by row opens sets a nextSets n → SettleFor j (suc i) by row opens made n
    skip_settles {j} {i} o =
        let one = o.one in
        let skipped : SetIn j (suc i) sets a = record { is_set = skips_to_set j i (set_at sets a) one.is_set; used_is = one.used_is; few = one.few } in
        record {
          trial = record {
            measure = o.measure;
            front = front_more o.next copied.long copied.others copied.other_counts copied.other_useds (set_moves copied.copied copied.count_is copied.used_is skipped);
            room = o.room;
          };
          row_is = o.row_is;
        }

    pub skip_settle_pre : OfferPre by row opens sets a nextSets n → SettlePre by row opens made n
    skip_settle_pre o = record { job = o.job; chunk = suc o.chunk; holds = skip_settles o.holds }

    pub skip_post :
        {r : Front} {made' : Sets} → SettlePost by row opens made n r made' →
        OfferPost by row opens sets a nextSets n r made'
    skip_post {r} {made'} p =
        record {
          each = λ j i o.
              let q = p.each j (suc i) (skip_settles o) in
              let e = front_same nextSets made n copied.others in
              record {
                front = q.front;
                still = λ w ks h. q.settled w ks (there (subst (λ (l : List (List ℕ)). In ks l) (sym e) h));
                offered = λ w.
                    subst (λ (ks : List ℕ). Settled j by.target (suc i) (front_of made' r.sets) ks) copied.copied
                    (q.settled w (set_at made n) here);
              };
          room = p.room;
        }

-- ---- a set offered with the next chunk

-- Copied to place n, and the chunk put behind it.
module _ {sets : Sets} {a : ℕ} {nextSets : Sets} {n : ℕ} {made : Sets} {number used : ℕ} {made₁ : Sets} (copied : CopySetPost sets a nextSets n made) (appended : AppendPost number used made n made₁) where
  keep_is : {j : Job} {i : ℕ} {chunk : Chunk} → ChunkOf j i chunk → number ≡ chunk.number → set_at made₁ n ≡ set_at sets a ++ (suc i ∷ [])
  keep_is {j} {i} h e = appended.appended ∙ rw (copied.copied, e, h.number_is)

  keep_same : (b : ℕ) → b < n → set_at made₁ b ≡ set_at nextSets b
  keep_same b h = appended.others b h ∙ copied.others b h

pub keep_next :
    (held : ℕ) (opens : List ℕ) (sets : Sets) (a used level count : ℕ) → count ≡ get_or sets.counts a 0 →
    NextFromPost held opens (take (a * 500 + count - a * 500) (drop (a * 500) sets.chunks)) used level →
    NextFromPost held opens (set_at sets a) used level
keep_next held opens sets a used level count e f =
    subst (λ (l : List ℕ). NextFromPost held opens l used level) (part_is sets a count e) f

module _ {by : Measure} {chunk : Chunk} {row opens : List ℕ} {sets : Sets} {a : ℕ} {nextSets : Sets} {n : ℕ} where
  pub keep_wait_pre :
      {j : Job} {i : ℕ} → KeepFor j i by chunk row opens sets a nextSets n →
      SetOf j by.held opens (set_at sets a)
  keep_wait_pre {j} {i} k =
      let o = k.offer in
      record {
        chunk = i;
        inside = omega (arith, o.inside);
        is_set = o.one.is_set;
        accepted = o.measure.accepted;
        held_is = o.measure.held_is;
        held_some = o.measure.held_some;
        opens_are = o.measure.opens_are;
      }

  -- The level used up to with the chunk.
  pub keep_used :
      {j : Job} {i level : ℕ} → KeepFor j i by chunk row opens sets a nextSets n →
      NextFromPost by.held opens (set_at sets a) (get_or sets.useds a 0) level →
      level + chunk.base ≡ used_with j (after_set j (set_at sets a)) (suc i)
  keep_used {j} {i} {level} k f =
      let m = k.offer.measure in
      let e = f j (keep_wait_pre k) k.offer.one.used_is in
      let t : ltb 0 (held_most j) ≡ true = lt-ltb 0 (held_most j) (omega (arith, m.held_is, m.held_some)) in
      rw (e, k.chunk_is.base_is, t)

  pub keep_small :
      {level : ℕ} → KeepPre by chunk row opens sets a nextSets n →
      NextFromPost by.held opens (set_at sets a) (get_or sets.useds a 0) level → level + chunk.base ≤ 60414754816
  keep_small {level} p f =
      let j = p.job in
      let k = p.holds in
      let m = k.offer.measure in
      let e = f j (keep_wait_pre k) k.offer.one.used_is in
      let s = set_inside j p.before (set_at sets a) (omega (arith, k.offer.inside)) k.offer.one.is_set in
      let t : ltb 0 (held_most j) ≡ true = lt-ltb 0 (held_most j) (omega (arith, m.held_is, m.held_some)) in
      let d = rw t at e in
      omega (
        arith,
        d,
        s.used_in,
        s.waits_in 0 (omega (arith, m.held_is, m.held_some)),
        after_small j m.accepted 0,
        k.chunk_is.base_is,
        base_small j m.accepted (suc p.before),
      )

  -- The chunk is not in time: the next front stays as it is.
  pub keep_none :
      {level : ℕ} (r : Front) → r.sets ≡ n → KeepPre by chunk row opens sets a nextSets n →
      NextFromPost by.held opens (set_at sets a) (get_or sets.useds a 0) level → chunk.end < level + chunk.base →
      KeepPost by chunk row opens sets a nextSets n r nextSets
  keep_none {level} r e p f late =
      record {
        each = λ j i k. record {
          front = subst (λ (m : ℕ). FrontIn j (suc i) nextSets m) (sym e) k.offer.next;
          still = λ w ks h. stays (subst (λ (m : ℕ). In ks (front_of nextSets m)) (sym e) h);
          kept = λ w h. absurd (omega (arith, h, late, keep_used {i = i} {level = level} k f, k.chunk_is.end_is));
        };
        room = omega (arith, e, p.holds.offer.room);
      }

  module _ {made : Sets} (copied : CopySetPost sets a nextSets n made) where
    keep_few : {j : Job} {i : ℕ} → KeepFor j i by chunk row opens sets a nextSets n → get_or made.counts n 0 ≤ i
    keep_few {j} {i} k =
        let o = k.offer in
        omega (arith, copied.count_is, set_long sets a o.long.sets_long o.place_in o.one.few, set_few j i (set_at sets a) o.one.is_set)

    pub keep_append_pre : KeepPre by chunk row opens sets a nextSets n → AppendPre made n
    keep_append_pre p =
        let o = p.holds.offer in
        record {
          long = copied.long;
          inside = omega (arith, o.room);
          few = omega (arith, keep_few {i = p.before} p.holds, o.inside, o.measure.accepted.chunks_in.high);
          others_few = λ b h. omega (arith, copied.other_counts b h, (o.next.each b h).few);
        }

    module _ {number used : ℕ} {made₁ : Sets} (appended : AppendPost number used made n made₁) where
      module _ (numbered : number ≡ chunk.number) {level : ℕ} (from : NextFromPost by.held opens (set_at sets a) (get_or sets.useds a 0) level) (reached : used ≡ level + chunk.base) (in_time_lem : used ≤ chunk.end) where
        keep_settles : {j : Job} {i : ℕ} → KeepFor j i by chunk row opens sets a nextSets n → SettleFor j (suc i) by row opens made₁ n
        keep_settles {j} {i} k =
            let o = k.offer in
            let ks = set_at sets a in
            let w = keep_used {i = i} {level = level} k from in
            let e = keep_is copied appended k.chunk_is numbered in
            let t = set_state j ks (suc i) in
            let kept : SetIn j (suc i) made₁ n =
            record {
              is_set = subst (λ (l : List ℕ). Set j (suc i) l) (sym e) (keeps_to_set j i ks o.one.is_set (omega (arith, w, reached, in_time_lem, k.chunk_is.end_is)));
              used_is = appended.used_is ∙ reached ∙ w ∙ sym (ap (λ (x : State). x.used) t) ∙ ap (λ (l : List ℕ). (after_set j l).used) (sym e);
              few = omega (arith, appended.count_is, keep_few {i = i} k, o.inside, o.measure.accepted.chunks_in.high);
            } in
            record {
              trial = record {
                measure = o.measure;
                front =
                    front_more o.next appended.long (keep_same copied appended) (λ b h. appended.other_counts b h ∙ copied.other_counts b h)
                    (λ b h. appended.other_useds b h ∙ copied.other_useds b h) kept;
                room = o.room;
              };
              row_is = o.row_is;
            }

        pub keep_settle_pre : KeepPre by chunk row opens sets a nextSets n → SettlePre by row opens made₁ n
        keep_settle_pre p = record { job = p.job; chunk = suc p.before; holds = keep_settles p.holds }

        pub keep_post :
            {r : Front} {made' : Sets} → SettlePost by row opens made₁ n r made' →
            KeepPost by chunk row opens sets a nextSets n r made'
        keep_post {r} {made'} p =
            record {
              each = λ j i k.
                  let q = p.each j (suc i) (keep_settles k) in
                  let e = front_same nextSets made₁ n (keep_same copied appended) in
                  record {
                    front = q.front;
                    still = λ w ks h. q.settled w ks (there (subst (λ (l : List (List ℕ)). In ks l) (sym e) h));
                    kept = λ w h.
                        subst (λ (ks : List ℕ). Settled j by.target (suc i) (front_of made' r.sets) ks) (keep_is copied appended k.chunk_is numbered)
                        (q.settled w (set_at made₁ n) here);
                  };
              room = p.room;
            }

-- ---- the next front, set by set

-- A set without the next chunk, and with it if that is in time, is settled.
pub record Done (j : Job) (target i : ℕ) (ks : List ℕ) (front : List (List ℕ)) : Type 0 where
  pub skipped : Settled j target (suc i) front ks
  pub kept : used_with j (after_set j ks) (suc i) ≤ end_of j (suc i) → Settled j target (suc i) front (ks ++ (suc i ∷ []))

done_on :
    {j : Job} {target i : ℕ} {ks : List ℕ} {front other : List (List ℕ)} → ((l : List ℕ) → In l front → Settled j target (suc i) other l) →
    Done j target i ks front → Done j target i ks other
done_on {j} {target} {i} {ks} {front} {other} f d =
    record {
      skipped = settled_on j target (suc i) front other f ks d.skipped;
      kept = λ h. settled_on j target (suc i) front other f (ks ++ (suc i ∷ [])) (d.kept h);
    }

-- The first a sets are done.
pub record SteppingOf (j : Job) (i target : ℕ) (sets nextSets : Sets) (kept : ℕ) (whole : Bool) (a : ℕ) : Type 0 where
  pub front : FrontIn j (suc i) nextSets kept
  pub done : whole ≡ true → (b : ℕ) → b < a → Done j target i (set_at sets b) (front_of nextSets kept)

pub record Stepping (by : Measure) (chunk : Chunk) (row opens : List ℕ) (sets : Sets) (n : ℕ) (nextSets : Sets) (kept : ℕ) (whole : Bool) (a : ℕ) : Type 0 where
  pub each :
      (j : Job) (i : ℕ) → StepFor j i by chunk row opens sets n →
      SteppingOf j i by.target sets nextSets kept whole a
  pub room : kept ≤ 64
  pub so_far : a ≤ n

module _ {by : Measure} {chunk : Chunk} {row opens : List ℕ} {sets : Sets} {n : ℕ} {nextSets : Sets} {kept : ℕ} {whole : Bool} {a : ℕ} (v : Stepping by chunk row opens sets n nextSets kept whole a) (more : a < n) where
  skip_for : {j : Job} {i : ℕ} → StepFor j i by chunk row opens sets n → OfferFor j i by row opens sets a nextSets kept
  skip_for {j} {i} s =
      record {
        inside = s.inside;
        measure = s.measure;
        row_is = s.row_is;
        one = s.front.each a more;
        long = s.front.long;
        place_in = omega (arith, s.room);
        next = (v.each j i s).front;
        room = v.room;
      }

  module _ {r₁ : Front} {made₁ : Sets} (skipped : OfferPost by row opens sets a nextSets kept r₁ made₁) where
    keep_for : {j : Job} {i : ℕ} → StepFor j i by chunk row opens sets n → KeepFor j i by chunk row opens sets a made₁ r₁.sets
    keep_for {j} {i} s =
        record {
          offer = record {
            inside = s.inside;
            measure = s.measure;
            row_is = s.row_is;
            one = s.front.each a more;
            long = s.front.long;
            place_in = omega (arith, s.room);
            next = (skipped.each j i (skip_for s)).front;
            room = skipped.room;
          };
          chunk_is = s.chunk_is;
        }

    pub stepping_keep_pre :
        {nextSets₀ : Sets} → StepPre by chunk row opens sets n nextSets₀ →
        KeepPre by chunk row opens sets a made₁ r₁.sets
    stepping_keep_pre p = record { job = p.job; before = p.before; holds = keep_for p.holds }

    pub stepping_more :
        {r₂ : Front} {made₂ : Sets} {whole' : Bool} → KeepPost by chunk row opens sets a made₁ r₁.sets r₂ made₂ →
        (whole' ≡ true → (whole ≡ true) × (r₁.whole ≡ true) × (r₂.whole ≡ true)) →
        Stepping by chunk row opens sets n made₂ r₂.sets whole' (a + 1)
    stepping_more {r₂} {made₂} {whole'} k all =
        record { each = λ j i s. on j i s; room = k.room; so_far = omega arith }
      where
        on : (j : Job) (i : ℕ) → StepFor j i by chunk row opens sets n → SteppingOf j i by.target sets made₂ r₂.sets whole' (a + 1)
        on j i s =
            let o = skipped.each j i (skip_for s) in
            let p = k.each j i (keep_for s) in
            record {
              front = p.front;
              done = λ w b h.
                  let t = all w in
                  ⊎_elim
                  (λ l. done_on (p.still t.2) (done_on (o.still t.1) ((v.each j i s).done t.0 b l)))
                  (λ e.
                  subst (λ (x : ℕ). Done j by.target i (set_at sets x) (front_of made₂ r₂.sets)) (sym e)
                  (record {
                    skipped = settled_on j by.target (suc i) (front_of made₁ r₁.sets) (front_of made₂ r₂.sets) (p.still t.2) (set_at sets a) (o.offered t.1);
                    kept = p.kept t.2;
                  }))
                  (before_or_at b a (omega arith));
            }

pub stepping_end :
    {by : Measure} {chunk : Chunk} {row opens : List ℕ} {sets : Sets} {n : ℕ} {nextSets : Sets} {a : ℕ} (r : Front) →
    Stepping by chunk row opens sets n nextSets r.sets r.whole a → n ≤ a →
    StepPost by chunk row opens sets n r nextSets
stepping_end {by} {chunk} {row} {opens} {sets} {n} {nextSets} {a} r v h =
    record {
      each = λ j i s.
          let t = v.each j i s in
          let f = front_of nextSets r.sets in
          record {
            front = t.front;
            next = λ w. record {
              skipped = in_front_lem (λ (ks : List ℕ). Settled j by.target (suc i) f ks) sets n (λ b l. (t.done w b (omega arith)).skipped);
              kept =
                  in_front_lem (λ (ks : List ℕ). used_with j (after_set j ks) (suc i) ≤ end_of j (suc i) → Settled j by.target (suc i) f (ks ++ (suc i ∷ [])))
                  sets n
                  (λ b l. (t.done w b (omega arith)).kept);
            };
          };
      room = v.room;
    }
