-- Laws on the passes over the bases: the begun chunks that stand in front, and the new ones behind
-- them. Assumes nothing.
use mathlib.Core.Path.{◌≡◌, refl, sym, ◌∙◌, ap, subst}
use mathlib.Core.Bool.{Bool, true, false, cond, ◌&&◌}
use mathlib.Core.List.{List, [], ◌∷◌, map}
use mathlib.Core.Logic.{⊎_elim}
use Prim.Native.Nat.{ℕ, zero, suc, ◌+◌, ◌-◌, ◌≤◌, ◌<◌, max}
use native.Mathlib.Omega.{arith}
use lib.ListN.{length, get_or, set, drop, length-set, drop_of_length-le, get_or-eq_default}
use lib.Seq.{drop-set-lt, get_or-drop, get_or-set_other, get_or-set_same}
use lib.Dec.{T, leb, eqb, ltb, leb→le, le→leb, ltb→lt, nltb→le}
use borrow.Author.Tests.{le-ltb, lt-ltb}
use Rattle.theory_basics.specs.lemmas.Tables.{set_before}
use Rattle.theory_basics.specs.lemmas.Tests.{and_T, same_test, T_and, test, true_T}
use Rattle.job.specs.Job.{due_slot}
use Rattle.job.specs.declared.Programme.{Programme}
use Rattle.theory_plan.specs.Plan.{picked}
use Rattle.theory_plan.specs.lemmas.Ascending.{asc_lower}
use Rattle.theory_plan.specs.lemmas.Parts.{at}
use Rattle.theory_plan.specs.lemmas.Words.{due_by}
use Rattle.theory_plan.specs.lemmas.Trials.{candidate, keeps, Stack}
use Rattle.theory_replan.specs.lemmas.Passes.{bases_new, front_ok}
use Rattle.core_replan_decide.proofs.Front.{front_rises, front_stays, front_test, Fronted, fronted_start}
use Rattle.core_replan_decide.specs.lemmas.Tables.{base_of, bases_caps, cap_of, caps_ok, PlacesBelowPost, Fine, FindFrontPre, is_begun, keeps_caps, NewBasesPost, NewBasesPre, of, NeedCapPost, CanKeepPost}
use Rattle.theory_plan.specs.Bases.{Asc}

-- ---- due slots

pub due_in : {p : Programme} → Fine p → (i : ℕ) → i ≤ p.chunks → (1 ≤ due_slot p i) × (due_slot p i ≤ 3600)
due_in {p} f i h = (omega (arith, f.late), omega (arith, f.ends, due_by p i h))

-- ---- the last begun chunk

pub record Lasting (begun : List ℕ) (most i : ℕ) : Type 0 where
  pub within : i ≤ most
  pub behind : (k : ℕ) → i < k → k ≤ most → eqb (of begun k) 1 ≡ false

-- ---- the begun chunks in front

pub record Fronting (p : Programme) (start last : ℕ) (begun after front caps : List ℕ) (head i : ℕ) : Type 0 where
  pub chunks : drop head front ≡ picked (is_begun p start begun) i (last - i)
  pub caps_are : drop head caps ≡ map (cap_of p after) (drop head front)
  pub ascending : Asc (suc i) last (drop head front)
  pub room : i + 500 ≤ head + last
  pub within : head ≤ 500
  pub left : i ≤ last
  pub long : (length front ≡ 500) × (length caps ≡ 500)

pub fronting_start : {p : Programme} {last : ℕ} {begun after front caps : List ℕ} (start : ℕ) → FindFrontPre p last begun after front caps → Fronting p start last begun after front caps 500 last
fronting_start {p} {last} {begun} {after} {front} {caps} start o =
    let z : last - last ≡ 0 = omega arith in
    let e : drop 500 front ≡ [] = drop_of_length-le front {i = 500} (omega (arith, o.long.2)) in
    let f : drop 500 caps ≡ [] = drop_of_length-le caps {i = 500} (omega (arith, o.long.3)) in
    record { chunks = rw (z, e); caps_are = rw (e, f); ascending = rw e tt; room = omega arith; within = omega arith; left = omega arith; long = (o.long.2, o.long.3) }

module _ {p : Programme} {start last : ℕ} {begun after front caps : List ℕ} {head i : ℕ} (b : Fronting p start last begun after front caps head i) (some : 0 < i) (few : last ≤ 500) where
  abbrev test_of : Bool
  test_of = is_begun p start begun i

  fronted : (t : Bool) → test_of ≡ t → picked (is_begun p start begun) (i - 1) (last - (i - 1)) ≡ cond t (i ∷ drop head front) (drop head front)
  fronted t e =
      let u : last - (i - 1) ≡ suc (last - i) = omega (arith, b.left) in
      let v : suc (i - 1) ≡ i = omega arith in
      rw (u, v, e, b.chunks)

  some_place : 0 < head
  some_place = omega (arith, b.room)

  pub fronting_pass : test_of ≡ false → Fronting p start last begun after front caps head (i - 1)
  fronting_pass e =
      let s : suc (i - 1) ≡ i = omega arith in
      record {
        chunks = sym (fronted false e);
        caps_are = b.caps_are;
        ascending = rw s (asc_lower i (suc i) last (drop head front) (omega arith) b.ascending);
        room = omega (arith, b.room);
        within = b.within;
        left = omega (arith, b.left);
        long = b.long;
      }

  pub fronting_keep : test_of ≡ true → Fronting p start last begun after (set front (head - 1) i) (set caps (head - 1) (cap_of p after i)) (head - 1) (i - 1)
  fronting_keep e =
      let s : suc (i - 1) ≡ i = omega arith in
      let f = set_before front head i some_place (omega (arith, b.within, b.long.0)) in
      let edge = set_before caps head (cap_of p after i) some_place (omega (arith, b.within, b.long.1)) in
      record {
        chunks = f ∙ sym (fronted true e);
        caps_are = rw f (edge ∙ rw b.caps_are);
        ascending = rw (f, s) (omega arith, b.left, b.ascending);
        room = omega (arith, b.room);
        within = omega (arith, b.within);
        left = omega (arith, b.left);
        long = (simp length-set b.long.0, simp length-set b.long.1);
      }

-- ---- the new chunks

-- The caps say of the begun chunks what Passes asks of them.
caps_front : (d A : ℕ → ℕ) (h : ℕ) (bs ns : List ℕ) → caps_ok h (map (λ b. A (d b - 1)) bs) ns ≡ front_ok d A h bs ns
caps_front d A h [] ns = refl
caps_front d A h (b ∷ bs) ns =
    rw (caps_front d A h bs ns) (ap (λ (m : ℕ). leb (get_or ns (h - suc m) 0) (A (d b - 1)) && front_ok d A h bs ns) (map_long (λ b. A (d b - 1)) bs))
  where
    map_long : (f : ℕ → ℕ) (l : List ℕ) → length (map f l) ≡ length l
    map_long f [] = refl
    map_long f (x ∷ l) = ap suc (map_long f l)

bases_caps_lem :
    (s d A : ℕ → ℕ) (p h : ℕ) (bs : List ℕ) (lo m : ℕ) →
    bases_caps s d A p h (map (λ b. A (d b - 1)) bs) lo m ≡ bases_new s d A p h bs lo m
bases_caps_lem s d A p h bs lo zero = refl
bases_caps_lem s d A p h bs lo (suc m) =
    rw (bases_caps_lem s d A p h bs (suc lo) m, caps_front d A h bs (candidate s d A (bases_new s d A p h bs (suc lo) m).needs (suc lo) ∷ (bases_new s d A p h bs (suc lo) m).needs))

second : (a b c d x : Bool) → a && ((b && c) && (d && x)) ≡ true → T b × T d × T x
second true true true true true e = (tt, tt, tt)
second true true true true false e = absurd (true_T false e)
second true true true false x e = absurd (true_T false e)
second true true false d x e = absurd (true_T false e)
second true false c d x e = absurd (true_T false e)
second false b c d x e = absurd (true_T false e)

-- What is kept of the chunks behind i.
abbrev behind : Programme → ℕ → ℕ → (ℕ → ℕ → ℕ) → List ℕ → List ℕ → ℕ → ℕ → Stack
behind p start held left after caps head i = bases_caps (base_of left) (due_slot p) (at after) start held (drop head caps) i (p.chunks - i)

pub record Basing (p : Programme) (start held last : ℕ) (left : ℕ → ℕ → ℕ) (after caps : List ℕ) (head : ℕ) (ids dues bytes mark needs : List ℕ) (cap first lowest edge i : ℕ) : Type 0 where
  pub chunks : drop first ids ≡ (behind p start held left after caps head i).chunks
  pub stack : drop first needs ≡ (behind p start held left after caps head i).needs
  pub due_slots : drop first dues ≡ map (due_slot p) (drop first ids)
  pub base_bytes : drop first bytes ≡ map (base_of left) (drop first ids)
  pub marks : drop first mark ≡ map (λ k. 1) (drop first ids)
  pub ascending : Asc (suc i) p.chunks (drop first ids)
  pub top : get_or needs first 0 ≤ get_or after 0 0
  pub roof_is : NeedCapPost held caps head cap
  pub fronted : Fronted held caps head (drop first needs) first lowest edge
  pub room : i + 500 ≤ first + p.chunks
  pub within : first ≤ 500
  pub from : last ≤ i
  pub to : i ≤ p.chunks
  pub long : (length ids ≡ 500) × (length dues ≡ 500) × (length bytes ≡ 500) × (length mark ≡ 500) × (length needs ≡ 500)

pub basing_start :
    {p : Programme} {held last : ℕ} {left : ℕ → ℕ → ℕ} {after caps : List ℕ} {head : ℕ} {ids dues bytes mark needs : List ℕ} (start : ℕ) →
    NewBasesPre p held last left after caps head ids dues bytes mark needs → {cap : ℕ} → NeedCapPost held caps head cap → Basing p start held last left after caps head ids dues bytes mark needs cap 500 0 500 p.chunks
basing_start {p} {held} {caps = caps} {head = head} {ids = ids} {dues} {bytes} {mark} {needs} start o r =
    let z : p.chunks - p.chunks ≡ 0 = omega arith in
    let none : (l : List ℕ) → length l ≡ 500 → drop 500 l ≡ [] = λ l u. drop_of_length-le l {i = 500} (omega arith) in
    let e = none ids o.long.2 in
    record {
      chunks = rw (z, e);
      stack = rw (z, none needs o.long.6);
      due_slots = rw (e, none dues o.long.3);
      base_bytes = rw (e, none bytes o.long.4);
      marks = rw (e, none mark o.long.5);
      ascending = rw e tt;
      top = rw (get_or-eq_default needs 0 {n = 500} (omega (arith, o.long.6))) (omega arith);
      roof_is = r;
      fronted = rw (none needs o.long.6) (fronted_start held caps head o.fb_in);
      room = omega arith;
      within = omega arith;
      from = o.within;
      to = omega arith;
      long = (o.long.2, o.long.3, o.long.4, o.long.5, o.long.6);
    }

module _
    {p : Programme} {start held last : ℕ} {left : ℕ → ℕ → ℕ} {after caps : List ℕ} {head : ℕ} {ids₀ dues₀ bytes₀ mark₀ needs₀ : List ℕ} {ids dues bytes mark needs : List ℕ} {cap first lowest edge i : ℕ}
    (b : Basing p start held last left after caps head ids dues bytes mark needs cap first lowest edge i) (some : last < i) (o : NewBasesPre p held last left after caps head ids₀ dues₀ bytes₀ mark₀ needs₀) where
  pub place : i ≤ first
  place = omega (arith, b.room, o.fine.few)

  module _ {needs' : List ℕ} {r : Bool} (t : CanKeepPost p start held left after cap lowest i first needs needs' r) where
    abbrev now : Stack
    now = behind p start held left after caps head i

    abbrev new : ℕ
    new = candidate (base_of left) (due_slot p) (at after) now.needs i

    wrote : needs' ≡ set needs (first - 1) new
    wrote = t.wrote ∙ rw b.stack

    new_small : new ≤ 60414754816
    new_small =
        let e : first + 0 ≡ first = omega arith in
        let z : get_or now.needs 0 0 ≤ 60397977600 = rw (← b.stack, get_or-drop first needs 0 0, e) (omega (arith, b.top, o.sums 0)) in
        omega (arith, o.small i 0, o.sums (due_slot p i))

    -- NeedCapPost and floor say what the caps ask.
    front_same : caps_ok held (drop head caps) (new ∷ now.needs) ≡ leb lowest (first - 1) && leb new cap
    front_same =
        let f : Fronted held caps head now.needs first lowest edge = subst (λ (l : List ℕ). Fronted held caps head l first lowest edge) b.stack b.fronted in
        let q = front_test f o.long.1 (omega (arith, place)) b.roof_is new new_small in
        same_test (caps_ok held (drop head caps) (new ∷ now.needs)) (leb lowest (first - 1) && leb new cap)
        (λ x. let y = q.0 x in T_and (leb lowest (first - 1)) (leb new cap) (le→leb lowest (first - 1) y.0) (le→leb new cap y.1))
        (λ x. let y = and_T (leb lowest (first - 1)) (leb new cap) x in q.1 (leb→le lowest (first - 1) y.0, leb→le new cap y.1))

    test_is : keeps_caps (base_of left) (due_slot p) (at after) start held (drop head caps) now.needs i ≡ r
    test_is =
        ap (λ (x : Bool). leb start (due_slot p i) && (keeps (base_of left) (due_slot p) (at after) held now.needs i && x)) front_same
        ∙ sym (t.is ∙ rw b.stack)

    -- One chunk more is tried.
    step : behind p start held left after caps head (i - 1) ≡ cond r (record { needs = new ∷ now.needs; chunks = i ∷ now.chunks }) now
    step =
        let e : p.chunks - (i - 1) ≡ suc (p.chunks - i) = omega (arith, b.to) in
        let e' : suc (i - 1) ≡ i = omega arith in
        rw (e, e', test_is)

    pub needs_long : length needs' ≡ 500
    needs_long = rw wrote (simp length-set b.long.4)

    pub basing_pass : r ≡ false → Basing p start held last left after caps head ids dues bytes mark needs' cap first lowest edge (i - 1)
    basing_pass e =
        let q = rw e at step in
        let s : suc (i - 1) ≡ i = omega arith in
        let same : drop first needs' ≡ drop first needs = rw wrote (drop-set-lt first needs (first - 1) new (omega (arith, place))) in
        record {
          chunks = b.chunks ∙ ap (λ (o : Stack). o.chunks) (sym q);
          stack = same ∙ b.stack ∙ ap (λ (o : Stack). o.needs) (sym q);
          due_slots = b.due_slots;
          base_bytes = b.base_bytes;
          marks = b.marks;
          ascending = rw s (asc_lower i (suc i) p.chunks (drop first ids) (omega arith) b.ascending);
          top = rw (wrote, get_or-set_other needs (first - 1) first new 0 (λ x. omega (arith, place))) b.top;
          roof_is = b.roof_is;
          fronted = rw same b.fronted;
          room = omega (arith, b.room);
          within = b.within;
          from = omega arith;
          to = omega (arith, b.to);
          long = (b.long.0, b.long.1, b.long.2, b.long.3, needs_long);
        }

    -- It is kept: what is written, and the tests that it passed.
    module _ (e : r ≡ true) where
      passed : (new ≤ at after 0) × (lowest ≤ first - 1) × (new ≤ cap)
      passed =
          let w = rw (front_same) at (test_is ∙ e) in
          let q = second (leb start (due_slot p i)) (leb new (at after 0)) (leb (get_or (new ∷ now.needs) held 0) (at after (due_slot p i - 1))) (leb lowest (first - 1)) (leb new cap) w in
          (leb→le new (at after 0) q.0, leb→le lowest (first - 1) q.1, leb→le new cap q.2)

      -- The need in front is the one written.
      pub kept_need : get_or needs' (first - 1) 0 ≡ new
      kept_need = rw (wrote, get_or-set_same needs (first - 1) new 0 (omega (arith, b.long.4, b.within, place)))

      pub basing_keep :
          {c edge' lowest' : ℕ} → c ≡ get_or needs' (first - 1) 0 → PlacesBelowPost caps head edge c edge' → lowest' ≡ cond (ltb edge' 500) (max lowest (first - 1 + 501 - (edge' + held))) lowest →
          Basing p start held last left after caps head (set ids (first - 1) i) (set dues (first - 1) (due_slot p i)) (set bytes (first - 1) (base_of left i)) (set mark (first - 1) 1) needs' cap (first - 1) lowest' edge' (i - 1)
      basing_keep {c} {edge'} {lowest'} ce fa fe =
          let q = rw e at step in
          let s : suc (i - 1) ≡ i = omega arith in
          let pos : 0 < first = omega (arith, place) in
          let front : (l : List ℕ) (v : ℕ) → length l ≡ 500 → drop (first - 1) (set l (first - 1) v) ≡ v ∷ drop first l = λ l v u. set_before l first v pos (omega (arith, b.within)) in
          let f = front ids i b.long.0 in
          let written : drop (first - 1) needs' ≡ new ∷ now.needs = rw wrote (front needs new b.long.4 ∙ rw b.stack) in
          record {
            chunks = f ∙ ap (λ (l : List ℕ). i ∷ l) b.chunks ∙ ap (λ (o : Stack). o.chunks) (sym q);
            stack = written ∙ ap (λ (o : Stack). o.needs) (sym q);
            due_slots = rw f (front dues (due_slot p i) b.long.1 ∙ rw b.due_slots);
            base_bytes = rw f (front bytes (base_of left i) b.long.2 ∙ rw b.base_bytes);
            marks = rw f (front mark 1 b.long.3 ∙ rw b.marks);
            ascending = rw (f, s) (omega arith, b.to, b.ascending);
            top = rw kept_need passed.0;
            roof_is = b.roof_is;
            fronted = rw (written, fe) pushed;
            room = omega (arith, b.room);
            within = omega (arith, b.within);
            from = omega arith;
            to = omega (arith, b.to);
            long = (simp length-set b.long.0, simp length-set b.long.1, simp length-set b.long.2, simp length-set b.long.3, needs_long);
          }
        where
          here : Fronted held caps head now.needs first lowest edge
          here = subst (λ (l : List ℕ). Fronted held caps head l first lowest edge) b.stack b.fronted

          new_is : c ≡ new
          new_is = ce ∙ kept_need

          above : (x : ℕ) → edge' ≤ x → x < 500 → get_or caps x 0 < new
          above x u v =
              ⊎_elim
              (λ y. omega (arith, fa.above x u (ltb→lt x edge y), new_is))
              (λ y. omega (arith, here.above x (nltb→le x edge y) v))
              (test (ltb x edge))

          low : head < edge' → new ≤ get_or caps (edge' - 1) 0
          low u = omega (arith, fa.last u, new_is)

          pushed : Fronted held caps head (new ∷ now.needs) (first - 1) (cond (ltb edge' 500) (max lowest (first - 1 + 501 - (edge' + held))) lowest) edge'
          pushed =
              let hi : edge' ≤ 500 = omega (arith, fa.high, here.high) in
              let pos : 0 < first = omega (arith, place) in
              ⊎_elim
              (λ y. let w = ltb→lt edge' 500 y in rw (lt-ltb edge' 500 w) (front_rises here o.long.1 pos b.roof_is new new_small passed.2 o.falls passed.1 edge' fa.low hi above low w))
              (λ y. let w = nltb→le edge' 500 y in rw (le-ltb edge' 500 w) (front_stays here o.long.1 pos b.roof_is new new_small passed.2 o.falls passed.1 edge' fa.low hi above low w))
              (test (ltb edge' 500))

pub basing_end :
    {p : Programme} {start held last : ℕ} {left : ℕ → ℕ → ℕ} {after caps : List ℕ} {head : ℕ} {ids dues bytes mark needs : List ℕ} {cap first lowest edge i : ℕ} →
    Basing p start held last left after caps head ids dues bytes mark needs cap first lowest edge i → i ≤ last → p.chunks ≤ 500 →
    NewBasesPost p start held last left after caps head first ids dues bytes mark needs
basing_end {p} {start} {held} {last} {left} {after} {caps} {head} {ids} {dues} {bytes} {mark} {needs} {first = first} {i = i} b h few =
    let e : i ≡ last = omega (arith, b.from) in
    record {
      within = b.within;
      kept = λ bs q.
          ap (λ (l : List ℕ). record { needs = l; chunks = drop first ids }) b.stack
          ∙ ap (λ (l : List ℕ). record { needs = (behind p start held left after caps head i).needs; chunks = l }) b.chunks
          ∙ ap (λ (n : ℕ). behind p start held left after caps head n) e
          ∙ ap (λ (l : List ℕ). bases_caps (base_of left) (due_slot p) (at after) start held l last (p.chunks - last)) q
          ∙ bases_caps_lem (base_of left) (due_slot p) (at after) start held bs last (p.chunks - last);
      due_slots = b.due_slots;
      base_bytes = b.base_bytes;
      marks = b.marks;
      ascending = rw e at b.ascending;
      room = omega (arith, b.room);
      top = b.top;
      long = b.long;
    }
