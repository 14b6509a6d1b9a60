-- Laws on the search over tables: the kept chunks and the best set at the ends of tables, and a
-- turn of the recursion. Assumes nothing.
use Prim.Native.Nat.{ℕ, suc, ◌+◌, ◌-◌, ◌≤◌, ◌<◌, max}
use mathlib.Core.Path.{◌≡◌, refl, sym, ap, ◌∙◌, subst}
use mathlib.Core.Bool.{Bool, true, false, cond, not, ◌&&◌}
use mathlib.Core.List.{List, ◌∷◌}
use native.Mathlib.Omega.{arith}
use borrow.Author.Tests.{le-ltb, lt-ltb, lt-leb}
use lib.ListN.{length, get_or, set, drop, length-set, length-drop}
use lib.Seq.{drop-drop, drop-set-lt, get_or-drop, get_or-set_same}
use lib.Dec.{T, leb, ltb, leb→le}
use Rattle.theory_basics.specs.lemmas.Tables.{set_before, written_before}
use Rattle.theory_basics.specs.lemmas.Tests.{and_T, true_T}
use Rattle.theory_plan.specs.lemmas.Parts.{at}
use Rattle.theory_plan.specs.lemmas.Trials.{Stack, candidate, keeps}
use Rattle.theory_search.specs.Search.{Walked, better, cut, goes_on, meet, spend}
use Rattle.theory_search.specs.lemmas.Stack.{in_front, search_keeps, search_skips, search_stops, search_stack}
use Rattle.core_search.specs.lemmas.Tables.{base_of, of, stack_at, best_at, walked, Given, KeepBestPost, CanKeepPost, CanKeepPre, SearchPre, SearchPost}

-- ---- the end of a table

-- What is left as it is from a place on is so from the next place on.
pub drop_after : (a b : List ℕ) (q : ℕ) → 0 < q → drop (q - 1) a ≡ drop (q - 1) b → drop q a ≡ drop q b
drop_after a b q h e =
    let s : q - 1 + 1 ≡ q = omega arith in
    rw s at (sym (drop-drop 1 (q - 1) a) ∙ ap (drop 1) e ∙ drop-drop 1 (q - 1) b)

-- ---- a set is met

pub best_long : (count : ℕ) (best : List ℕ) → count ≤ 500 → length best ≡ 500 → length (best_at count best) ≡ count
best_long count best h e = length-drop (500 - count) best ∙ omega arith

module _ (k : ℕ) (ids best : List ℕ) (count : ℕ) (within : k ≤ 500) (few : count ≤ 500) (long : length ids ≡ 500) (held : length best ≡ 500) where
  ids_long : length (drop k ids) ≡ 500 - k
  ids_long = length-drop k ids ∙ omega arith

-- ---- the test

module _ {i first held : ℕ} {size : ℕ → ℕ → ℕ} {dues after needs : List ℕ} (f : CanKeepPre i first held size dues after needs) where
  abbrev cand : ℕ
  cand = candidate (base_of size) (of dues) (at after) (drop first needs) i

  pub cand_is : {x y n : ℕ} → x ≡ size i 0 → y ≡ max (at after (of dues i)) n → n ≡ get_or needs (first + 0) 0 → x + y ≡ cand
  cand_is {x} {y} {n} u v z = rw (u, v, z, get_or-drop first needs 0 0)

  pub cand_small : cand ≤ 60414754816
  cand_small =
      let e : first + 0 ≡ first = omega arith in
      let g = f.given in
      let t : get_or (drop first needs) 0 0 ≤ 60397977600 = rw (get_or-drop first needs 0 0, e) (omega (arith, f.top, g.sums 0)) in
      omega (arith, g.small i 0, g.sums (of dues i))

  -- The need H places on, once the candidate is written in front.
  pub held_is : get_or (set needs (first - 1) cand) (first - 1 + held) 0 ≡ get_or (cand ∷ drop first needs) held 0
  held_is = written_before needs first cand held (omega (arith, f.some, f.room)) (omega (arith, f.within, f.long))

  pub tested_not_all : at after 0 < cand → CanKeepPost i first held size dues after needs (set needs (first - 1) cand) false
  tested_not_all g = record { is = rw (lt-leb cand (at after 0) g); wrote = refl }

-- ---- a turn of the search

pub goes : (left count : ℕ) (best : List ℕ) → 2 ≤ left → T (goes_on (walked left count best))
goes left count best h = true_T (goes_on (walked left count best)) (rw (lt-ltb 0 left (omega arith), lt-ltb 0 (left - 1) (omega arith)))

pub goes_not : (left count : ℕ) (best : List ℕ) → left < 2 → T (not (goes_on (walked left count best)))
goes_not left count best h = rw (le-ltb 0 (left - 1) (omega arith)) (by (ltb 0 left))
  where
    by : (b : Bool) → T (not (b && false))
    by true = tt
    by false = tt

-- One step is taken.
pub spends : (left count : ℕ) (best : List ℕ) → 2 ≤ left → walked (left - 1) count best ≡ spend (walked left count best)
spends left count best h = rw (lt-ltb 0 left (omega arith), lt-ltb 0 (left - 1) (omega arith))

-- A step is wanted that the budget does not have.
pub stops : (left count : ℕ) (best : List ℕ) → left < 2 → walked 0 count best ≡ cut (walked left count best)
stops left count best h = let e : left - 1 ≡ 0 = omega arith in rw e

-- What the keep of chunk i leads to, where down is the number before i.
module _ (s d A : ℕ → ℕ) (h : ℕ) (o : Stack) (w : Walked) (i down : ℕ) where
  abbrev pub turn_of : Walked
  turn_of = let next = search_stack s d A h down (in_front s d A h o i) (meet (i ∷ o.chunks) (spend w)) in cond (keeps s d A h o.needs i) next (spend w)

module _ (s d A : ℕ → ℕ) (h : ℕ) (o : Stack) (w : Walked) (i down : ℕ) (e : suc down ≡ i) where
  pub turn_stops : T (not (goes_on w)) → search_stack s d A h i o w ≡ cut w
  turn_stops = subst (λ (n : ℕ). T (not (goes_on w)) → search_stack s d A h n o w ≡ cut w) e (search_stops s d A h down o w)

  pub turn_keeps : T (goes_on w) → T (not (goes_on (turn_of s d A h o w i down))) → search_stack s d A h i o w ≡ cut (turn_of s d A h o w i down)
  turn_keeps = subst (λ (n : ℕ). T (goes_on w) → T (not (goes_on (turn_of s d A h o w n down))) → search_stack s d A h n o w ≡ cut (turn_of s d A h o w n down)) e (search_keeps s d A h down o w)

  pub turn_skips : T (goes_on w) → T (goes_on (turn_of s d A h o w i down)) → search_stack s d A h i o w ≡ search_stack s d A h down o (spend (turn_of s d A h o w i down))
  turn_skips = subst (λ (n : ℕ). T (goes_on w) → T (goes_on (turn_of s d A h o w n down)) → search_stack s d A h n o w ≡ search_stack s d A h down o (spend (turn_of s d A h o w n down))) e (search_skips s d A h down o w)

pub given_less : {i held : ℕ} {size : ℕ → ℕ → ℕ} {dues after : List ℕ} → Given i held size dues after → Given (i - 1) held size dues after
given_less g =
    record {
      most_held = g.most_held;
      few = omega (arith, g.few);
      small = g.small;
      early = λ k h. g.early k (omega arith);
      late = λ k h. g.late k (omega arith);
      sums = g.sums;
      long = g.long;
    }

-- Where the search stands after the keep.
pub record Turn (i first held : ℕ) (size : ℕ → ℕ → ℕ) (dues after ids needs best : List ℕ) (count left : ℕ) (ids' needs' best' : List ℕ) (count' left' : ℕ) : Type 0 where
  pub is : walked left' count' best' ≡ turn_of (base_of size) (of dues) (at after) held (stack_at first ids needs) (walked left count best) i (i - 1)
  pub same_ids : drop first ids' ≡ drop first ids
  pub same_needs : drop first needs' ≡ drop first needs
  pub less : left' ≤ left
  pub more : count ≤ count'
  pub few : count' ≤ 500
  pub long : (length ids' ≡ 500) × (length needs' ≡ 500) × (length best' ≡ 500)

module _ {i first held : ℕ} {size : ℕ → ℕ → ℕ} {dues after ids needs best : List ℕ} {count : ℕ} (f : SearchPre i first held size dues after ids needs best count) (left : ℕ) where
  abbrev result : List ℕ → List ℕ → List ℕ → ℕ → ℕ → Type 0
  result = SearchPost i first held size dues after ids needs best count left

  abbrev turned : List ℕ → List ℕ → List ℕ → ℕ → ℕ → Type 0
  turned = Turn i first held size dues after ids needs best count left

  abbrev wanted : ℕ
  wanted = candidate (base_of size) (of dues) (at after) (drop first needs) i

  abbrev here : Walked
  here = walked left count best

  -- No chunk is untried.
  pub none_left : i ≡ 0 → result ids needs best count left
  none_left e = record { is = rw e; same_ids = refl; same_needs = refl; less = omega arith; more = omega arith; few = f.few; long = f.long }

  module _ (some : 0 < i) where
    before : suc (i - 1) ≡ i
    before = omega arith

    wrote_same : {needs₁ : List ℕ} → needs₁ ≡ set needs (first - 1) wanted → drop first needs₁ ≡ drop first needs
    wrote_same e = rw e (drop-set-lt first needs (first - 1) wanted (omega (arith, f.room)))

    wrote_front : {needs₁ : List ℕ} → needs₁ ≡ set needs (first - 1) wanted → drop (first - 1) needs₁ ≡ wanted ∷ drop first needs
    wrote_front e = rw e (set_before needs first wanted (omega (arith, f.room)) (omega (arith, f.within, f.long)))

    wrote_long : {needs₁ : List ℕ} → needs₁ ≡ set needs (first - 1) wanted → length needs₁ ≡ 500
    wrote_long e = rw e (simp length-set f.long.1)

    module _ (enough : 2 ≤ left) where
      going : T (goes_on here)
      going = goes left count best enough

      -- The keep is refused.
      pub refused_turn : {needs₁ : List ℕ} {b : Bool} → CanKeepPost i first held size dues after needs needs₁ b → b ≡ false → turned ids needs₁ best count (left - 1)
      refused_turn t e =
          let no : keeps (base_of size) (of dues) (at after) held (drop first needs) i ≡ false = sym t.is ∙ e in
          record {
            is = rw no (spends left count best enough);
            same_ids = refl;
            same_needs = wrote_same t.wrote;
            less = omega arith;
            more = omega arith;
            few = f.few;
            long = (f.long.0, wrote_long t.wrote, f.long.2);
          }

      module _ {needs₁ best₁ : List ℕ} {b : Bool} {count₁ : ℕ} (t : CanKeepPost i first held size dues after needs needs₁ b) (e : b ≡ true) (n : KeepBestPost (first - 1) (set ids (first - 1) i) best count best₁ count₁) where
        yes : keeps (base_of size) (of dues) (at after) held (drop first needs) i ≡ true
        yes = sym t.is ∙ e

        whole : wanted ≤ at after 0
        whole = leb→le wanted (at after 0) (and_T (leb wanted (at after 0)) _ (true_T (keeps (base_of size) (of dues) (at after) held (drop first needs) i) yes)).0

        top_small : get_or needs₁ (first - 1) 0 ≤ get_or after 0 0
        top_small = rw (t.wrote, get_or-set_same needs (first - 1) wanted 0 (omega (arith, f.room, f.within, f.long))) whole

        ids_front : drop (first - 1) (set ids (first - 1) i) ≡ i ∷ drop first ids
        ids_front = set_before ids first i (omega (arith, f.room)) (omega (arith, f.within, f.long))

        -- The new set is met.
        met_is : walked (left - 1) count₁ best₁ ≡ meet (i ∷ drop first ids) (spend here)
        met_is =
            rw (lt-ltb 0 left (omega arith), lt-ltb 0 (left - 1) (omega arith))
            (ap (λ (l : List ℕ). record { left = left - 1 - 1; best = l; ended = true }) (n.is ∙ ap (better (best_at count best)) ids_front))

        pub kept_turn_lem : {ids' needs' best' : List ℕ} {count' left' : ℕ} → SearchPost (i - 1) (first - 1) held size dues after (set ids (first - 1) i) needs₁ best₁ count₁ (left - 1) ids' needs' best' count' left' → turned ids' needs' best' count' left'
        kept_turn_lem {ids'} {needs'} {best'} q =
            let one : 0 < first = omega (arith, f.room) in
            let o : stack_at (first - 1) (set ids (first - 1) i) needs₁ ≡ in_front (base_of size) (of dues) (at after) held (stack_at first ids needs) i = rw (ids_front, wrote_front t.wrote) in
            record {
              is = q.is ∙ rw (yes, o, met_is);
              same_ids = drop_after ids' (set ids (first - 1) i) first one q.same_ids ∙ drop-set-lt first ids (first - 1) i (omega arith);
              same_needs = drop_after needs' needs₁ first one q.same_needs ∙ wrote_same t.wrote;
              less = omega (arith, q.less);
              more = omega (arith, q.more, n.more);
              few = q.few;
              long = q.long;
            }

      module _ {ids' needs' best' : List ℕ} {count' left' : ℕ} (u : turned ids' needs' best' count' left') where
        -- No step is left for the skip.
        pub no_skip : left' < 2 → result ids' needs' best' count' 0
        no_skip e =
            record {
              is =
                  stops left' count' best' e ∙ ap cut u.is
                  ∙ sym (turn_keeps (base_of size) (of dues) (at after) held (stack_at first ids needs) here i (i - 1) before going (subst (λ (x : Walked). T (not (goes_on x))) u.is (goes_not left' count' best' e)));
              same_ids = u.same_ids;
              same_needs = u.same_needs;
              less = omega arith;
              more = u.more;
              few = u.few;
              long = u.long;
            }

        module _ (more : 2 ≤ left') where
          pub skip_from : SearchPre (i - 1) first held size dues after ids' needs' best' count'
          skip_from =
              let z : first + 0 ≡ first = omega arith in
              let top-same : get_or needs' first 0 ≡ get_or needs first 0 = rw z at (sym (get_or-drop first needs' 0 0) ∙ ap (λ (l : List ℕ). get_or l 0 0) u.same_needs ∙ get_or-drop first needs 0 0) in
              record {
                given = given_less f.given;
                room = omega (arith, f.room);
                within = f.within;
                top = rw top-same f.top;
                few = u.few;
                long = u.long;
              }

          pub skip_done : {ids'' needs'' best'' : List ℕ} {count'' left'' : ℕ} → SearchPost (i - 1) first held size dues after ids' needs' best' count' (left' - 1) ids'' needs'' best'' count'' left'' → result ids'' needs'' best'' count'' left''
          skip_done q =
              let o : stack_at first ids' needs' ≡ stack_at first ids needs = rw (u.same_ids, u.same_needs) in
              let v = spends left' count' best' more ∙ ap spend u.is in
              let turn = turn_skips (base_of size) (of dues) (at after) held (stack_at first ids needs) here i (i - 1) before going (subst (λ (x : Walked). T (goes_on x)) u.is (goes left' count' best' more)) in
              record {
                is =
                    q.is ∙ ap (λ (x : Stack). search_stack (base_of size) (of dues) (at after) held (i - 1) x (walked (left' - 1) count' best')) o
                    ∙ ap (search_stack (base_of size) (of dues) (at after) held (i - 1) (stack_at first ids needs)) v
                    ∙ sym turn;
                same_ids = q.same_ids ∙ u.same_ids;
                same_needs = q.same_needs ∙ u.same_needs;
                less = omega (arith, q.less, u.less);
                more = omega (arith, q.more, u.more);
                few = q.few;
                long = q.long;
              }
