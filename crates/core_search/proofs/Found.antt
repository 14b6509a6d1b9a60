-- Laws on the whole search: the tables that it is asked with, the set found at the end of its
-- tables, and where it stands at the end. Assumes nothing.
use Prim.Native.Nat.{ℕ, zero, suc, ◌+◌, ◌-◌, ◌/◌, ◌≤◌, ◌<◌}
use mathlib.Core.Path.{◌≡◌, refl, sym, ap, ◌∙◌, subst, fun_ext}
use mathlib.Core.Bool.{true, cond}
use mathlib.Core.List.{List, [], ◌∷◌, map}
use native.Mathlib.Omega.{arith}
use borrow.Author.Tests.{lt-ltb}
use lib.ListN.{length, get_or, set, drop, length-set, drop_of_length-le, get_or-eq_default}
use lib.Dec.{ltb}
use Rattle.theory_basics.specs.lemmas.Tables.{all_from, drop_before, set_before}
use Rattle.theory_basics.specs.lemmas.Tests.{by_cond}
use Rattle.job.specs.declared.Programme.{Programme}
use Rattle.job.specs.Job.{Within, due_slot}
use Rattle.theory_plan.specs.Bases.{Asc}
use Rattle.theory_plan.specs.lemmas.Ascending.{asc_lower, asc_within}
use Rattle.theory_plan.specs.lemmas.Parts.{at}
use Rattle.theory_plan.specs.lemmas.Trials.{Stack, keeps}
use Rattle.theory_plan.specs.lemmas.Words.{due_by}
use Rattle.core_moore_hodgson.specs.lemmas.Tables.{KeptIn, Long}
use Rattle.theory_search.specs.Search.{Walked, cut, goes_on, meet, spend, start}
use Rattle.theory_search.specs.lemmas.Stack.{empty, in_front, search_stack}
use Rattle.core_search.specs.declared.Outcome.{Outcome}
use Rattle.core_search.specs.lemmas.Tables.{base_of, of, best_at, walked, walk_in, DueTable, PlaceBestPre, SearchPre, SearchPost, FindBestPre, FindBestPost}

-- ---- due slots

-- ---- a set at the end of ids, with its due slots and bytes

module _ (p : Programme) (size : ℕ → ℕ → ℕ) (first : ℕ) (ids : List ℕ) where
  pub record Placing (dues bytes : List ℕ) (q : ℕ) : Type 0 where
    pub reached : first ≤ q
    pub to : q ≤ 500
    pub due_slots : drop q dues ≡ map (due_slot p) (drop q ids)
    pub base_bytes : drop q bytes ≡ map (base_of size) (drop q ids)
    pub long : Long ids dues bytes

  pub placing_start : (dues bytes : List ℕ) → PlaceBestPre p first ids dues bytes → Placing dues bytes 500
  placing_start dues bytes o =
      let e : drop 500 ids ≡ [] = drop_of_length-le ids {i = 500} (omega (arith, o.long.0)) in
      let f : drop 500 dues ≡ [] = drop_of_length-le dues {i = 500} (omega (arith, o.long.1)) in
      let g : drop 500 bytes ≡ [] = drop_of_length-le bytes {i = 500} (omega (arith, o.long.2)) in
      record { reached = o.within; to = omega arith; due_slots = rw (e, f); base_bytes = rw (e, g); long = o.long }

  -- What stands there is a chunk of the programme.
  pub chunk_at_lem : {dues bytes : List ℕ} → PlaceBestPre p first ids dues bytes → (k : ℕ) → first ≤ k → k < 500 → Within 1 p.chunks (get_or ids k 0)
  chunk_at_lem o k h u =
      all_from (Within 1 p.chunks) ids first k (asc_within 1 p.chunks 1 p.chunks (drop first ids) (omega arith) (omega arith) o.ascending) h (omega (arith, o.long.0))

  pub placing_more :
      (dues bytes : List ℕ) (q : ℕ) → Placing dues bytes q → first < q → {slot z : ℕ} → slot ≡ due_slot p (get_or ids (q - 1) 0) → z ≡ size (get_or ids (q - 1) 0) 0 →
      Placing (set dues (q - 1) slot) (set bytes (q - 1) z) (q - 1)
  placing_more dues bytes q b h {slot} {z} e f =
      let i = drop_before ids q (omega arith) (omega (arith, b.to, b.long.0)) in
      record {
        reached = omega arith;
        to = omega (arith, b.to);
        due_slots = set_before dues q slot (omega arith) (omega (arith, b.to, b.long.1)) ∙ rw (i, e, b.due_slots);
        base_bytes = set_before bytes q z (omega arith) (omega (arith, b.to, b.long.2)) ∙ rw (i, f, b.base_bytes);
        long = (b.long.0, simp length-set b.long.1, simp length-set b.long.2);
      }

  pub placing_end : (dues bytes : List ℕ) (q : ℕ) → Placing dues bytes q → q ≤ first → Asc 1 p.chunks (drop first ids) → KeptIn p size (drop first ids) first ids dues bytes
  placing_end dues bytes q b h a =
      let e : q ≡ first = omega (arith, b.reached) in
      record {
        within = omega (arith, b.to);
        kept = refl;
        due_slots = subst (λ (k : ℕ). drop k dues ≡ map (due_slot p) (drop k ids)) e b.due_slots;
        base_bytes = subst (λ (k : ℕ). drop k bytes ≡ map (base_of size) (drop k ids)) e b.base_bytes;
        ascending = a;
        long = b.long;
      }

-- ---- the best set is of chunks in playing order

module _ (s d A : ℕ → ℕ) (h c : ℕ) where
  abbrev InTurn : Walked → Type 0
  InTurn w = Asc 1 c w.best

  step_asc : (on : Walked → Walked) (w : Walked) → InTurn w → (InTurn (spend w) → InTurn (on (spend w))) → InTurn (cond (goes_on w) (on (spend w)) (cut w))
  step_asc on w a f = by_cond InTurn (goes_on w) {x = on (spend w)} {y = cut w} (λ t. f a) (λ t. a)

  pub search_asc : (i : ℕ) (o : Stack) (w : Walked) → i ≤ c → Asc (suc i) c o.chunks → InTurn w → InTurn (search_stack s d A h i o w)
  search_asc zero o w u a b = b
  search_asc (suc i) o w u a b =
      let front : Asc (suc i) c (suc i ∷ o.chunks) = (omega arith, u, a) in
      let deeper : Walked → Walked = λ r. search_stack s d A h i (in_front s d A h o (suc i)) (meet (suc i ∷ o.chunks) r) in
      let keep : Walked → Walked = λ r. cond (keeps s d A h o.needs (suc i)) (deeper r) r in
      let kept : Walked = cond (goes_on w) (keep (spend w)) (cut w) in
      let met-in : (r : Walked) → InTurn r → InTurn (meet (suc i ∷ o.chunks) r) = λ r x. by_cond (Asc 1 c) (ltb (length r.best) (length (suc i ∷ o.chunks))) (λ t. asc_lower 1 (suc i) c (suc i ∷ o.chunks) (omega arith) front) (λ t. x) in
      let first : InTurn kept =
      step_asc keep w b (λ x. by_cond InTurn (keeps s d A h o.needs (suc i)) {x = deeper (spend w)} {y = spend w} (λ t. search_asc i (in_front s d A h o (suc i)) (meet (suc i ∷ o.chunks) (spend w)) (omega arith) front (met-in (spend w) x)) (λ t. x)) in
      step_asc (search_stack s d A h i o) kept first (λ x. search_asc i o (spend kept) (omega arith) (asc_lower (suc i) (suc (suc i)) c o.chunks (omega arith) a) x)

-- ---- the tables are those of the programme

-- The search asks for the due slots of the untried chunks alone.
module _ (s d d' A : ℕ → ℕ) (h : ℕ) where
  pub search_same : (i : ℕ) (o : Stack) (w : Walked) → ((k : ℕ) → 1 ≤ k → k ≤ i → d k ≡ d' k) → search_stack s d A h i o w ≡ search_stack s d' A h i o w
  search_same zero o w g = refl
  search_same (suc i) o w g =
      let below : search_stack s d A h i ≡ search_stack s d' A h i = fun_ext (λ o₁. fun_ext (λ w₁. search_same i o₁ w₁ (λ k u v. g k u (omega arith)))) in
      rw (below, g (suc i) (omega arith) (omega arith))

module _ (p : Programme) (size : ℕ → ℕ → ℕ) (after ids₀ dues₀ bytes₀ : List ℕ) (o : FindBestPre p size after ids₀ dues₀ bytes₀) (dues : List ℕ) (t : DueTable p p.chunks dues) where
  due_at_lem : (k : ℕ) → 1 ≤ k → k ≤ p.chunks → of dues k ≡ due_slot p k
  due_at_lem k u v = let e : k - 1 + 1 ≡ k = omega arith in t.is (k - 1) (omega arith) ∙ rw e

  pub search_from : {held : ℕ} → held ≡ p.limit / p.span → held ≤ 65535 → (ids needs best : List ℕ) → length ids ≡ 500 → length needs ≡ 500 → length best ≡ 500 → SearchPre p.chunks 500 held size dues after ids needs best 0
  search_from h m ids needs best li ln lb =
      record {
        given = record {
          most_held = m;
          few = o.few;
          small = o.small;
          early = λ k u. let e : k + 1 - 1 ≡ k = omega arith in omega (arith, t.is k u, o.late);
          late = λ k u. omega (arith, t.is k u, due_by p (k + 1) (omega arith), o.ends);
          sums = o.sums;
          long = (t.long, o.slots);
        };
        room = o.few;
        within = omega arith;
        top = top_none needs ln;
        few = omega arith;
        long = (li, ln, lb);
      }
    where
      top_none : (l : List ℕ) → length l ≡ 500 → get_or l 500 0 ≤ get_or after 0 0
      top_none l e = omega (arith, get_or-eq_default l 0 {n = 500} (omega arith))

  module _
      (budget : ℕ) {held : ℕ} (he : held ≡ p.limit / p.span) {stack needs stack' needs' best : List ℕ} {count left : ℕ} (li : length stack ≡ 500)
      (ln : length needs ≡ 500) (lb : length ids₀ ≡ 500) (q : SearchPost p.chunks 500 held size dues after stack needs ids₀ 0 (budget + 1) stack' needs' best count left) where
    none : (l : List ℕ) → length l ≡ 500 → drop 500 l ≡ []
    none l e = drop_of_length-le l {i = 500} (omega arith)

    -- Where the search stands.
    stands : walked left count best ≡ walk_in p size (at after) budget
    stands =
        let z : budget + 1 - 1 ≡ budget = omega arith in
        let e : ltb 0 (budget + 1) ≡ true = lt-ltb 0 (budget + 1) (omega arith) in
        let from : walked left count best ≡ search_stack (base_of size) (of dues) (at after) held p.chunks empty (start budget) = q.is ∙ rw (none stack li, none needs ln, none ids₀ lb, z, e) in
        from ∙ rw he (search_same (base_of size) (of dues) (due_slot p) (at after) (p.limit / p.span) p.chunks empty (start budget) due_at_lem)

    best_is : best_at count best ≡ (walk_in p size (at after) budget).best
    best_is = ap (λ (w : Walked). w.best) stands

    pub best_asc : Asc 1 p.chunks (drop (500 - count) best)
    best_asc = subst (Asc 1 p.chunks) (sym best_is) (search_asc (base_of size) (due_slot p) (at after) (p.limit / p.span) p.chunks p.chunks empty (start budget) (omega arith) tt tt)

    pub found_by_lem :
        {dues' bytes' : List ℕ} → KeptIn p size (drop (500 - count) best) (500 - count) best dues' bytes' → {r : Outcome} → r.first ≡ 500 - count →
        r.steps ≡ budget - (left - 1) → r.ended ≡ ltb 0 left → FindBestPost p size after budget r best dues' bytes'
    found_by_lem {dues'} {bytes'} k {r} e₁ e₂ e₃ =
        record {
          kept = subst (λ (n : ℕ). KeptIn p size (walk_in p size (at after) budget).best n best dues' bytes') (sym e₁) (subst (λ (l : List ℕ). KeptIn p size l (500 - count) best dues' bytes') best_is k);
          steps = e₂ ∙ ap (λ (w : Walked). budget - w.left) stands;
          ended = e₃ ∙ ap (λ (w : Walked). w.ended) stands;
        }
