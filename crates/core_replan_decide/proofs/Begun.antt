-- Laws on the pass over the begun chunks. Assumes nothing.
use mathlib.Core.Path.{◌≡◌, refl, ◌∙◌}
use mathlib.Core.List.{List, ◌∷◌, ◌++◌}
use Prim.Native.Nat.{ℕ, ◌+◌, ◌-◌, ◌≤◌, ◌<◌, max}
use native.Mathlib.Omega.{arith}
use lib.ListN.{length, get_or, set, drop, length-set, drop_of_length-le}
use lib.Dec.{leb, leb→le}
use Rattle.theory_basics.specs.Tests.{All}
use Rattle.theory_basics.specs.lemmas.Tables.{all_from, drop_before, set_before}
use Rattle.theory_basics.specs.lemmas.Tests.{by_cond}
use Rattle.job.specs.Job.{due_slot, Within}
use Rattle.job.specs.declared.Programme.{Programme}
use Rattle.fetch.specs.Marks.{bit}
use Rattle.theory_plan.specs.lemmas.Parts.{at}
use Rattle.core_decide.specs.lemmas.Decision.{kept_of, Slot}
use Rattle.core_replan_decide.proofs.Bases.{due_in}
use Rattle.core_replan_decide.specs.declared.Chosen.{Chosen}
use Rattle.core_replan_decide.specs.lemmas.Begun.{KeepBegunPre, choose, scan_front}
use Rattle.core_replan_decide.specs.lemmas.Tables.{base_of, of}

choose_small : (w z want all : ℕ) → want ≤ 60397977600 → all ≤ 60397977600 → z ≤ 16777216 → ((choose w z want all).need ≤ 60397977600) × ((choose w z want all).bytes ≤ 16777216)
choose_small w z want all u v k =
    by_cond (λ (c : Chosen). (c.need ≤ 60397977600) × (c.bytes ≤ 16777216)) (bit w 0) (λ t. (u, omega arith))
    (λ t. by_cond (λ (c : Chosen). (c.need ≤ 60397977600) × (c.bytes ≤ 16777216)) (leb (z + want) all) (λ y. (omega (arith, leb→le (z + want) all y), k)) (λ y. (u, omega arith)))

pub record Walking (p : Programme) (left : ℕ → ℕ → ℕ) (whole after front : List ℕ) (head need from : ℕ) (ids₀ dues₀ bytes₀ mark₀ ids dues bytes mark : List ℕ) (used first q : ℕ) : Type 0 where
  pub says :
      scan_front (base_of left) (due_slot p) (at after) (of whole) (at after 0) need (kept_of (drop from ids₀) (drop from dues₀) (drop from bytes₀) (drop from mark₀)) (drop q front)
      ≡ record { need = used; kept = kept_of (drop first ids) (drop first dues) (drop first bytes) (drop first mark) }
  pub small : used ≤ 60397977600
  pub place : first + 500 ≡ from + q
  pub low : head ≤ q
  pub high : q ≤ 500
  pub ids_are : drop first ids ≡ drop q front ++ drop from ids₀
  pub ids_in : All (Within 1 p.chunks) (drop first ids)
  pub slots : All Slot (drop first dues)
  pub light : All (λ b. b ≤ 16777216) (drop first bytes)
  pub long : (length ids ≡ 500) × (length dues ≡ 500) × (length bytes ≡ 500) × (length mark ≡ 500)

module _ {p : Programme} {left : ℕ → ℕ → ℕ} {whole after front : List ℕ} {head need from : ℕ} {ids₀ dues₀ bytes₀ mark₀ : List ℕ} (o : KeepBegunPre p left whole after front head need from ids₀ dues₀ bytes₀ mark₀) where
  pub begun_start : Walking p left whole after front head need from ids₀ dues₀ bytes₀ mark₀ ids₀ dues₀ bytes₀ mark₀ need from 500
  begun_start =
      record {
        says = rw (drop_of_length-le front {i = 500} (omega (arith, o.long.2)));
        small = o.need_in;
        place = refl;
        low = o.fb_in;
        high = omega arith;
        ids_are = rw (drop_of_length-le front {i = 500} (omega (arith, o.long.2)));
        ids_in = o.ids_in;
        slots = o.slots;
        light = o.light;
        long = (o.long.3, o.long.4, o.long.5, o.long.6);
      }

  module _ {ids dues bytes mark : List ℕ} {used first q : ℕ} (b : Walking p left whole after front head need from ids₀ dues₀ bytes₀ mark₀ ids dues bytes mark used first q) where
    module _ (h : head < q) where
      abbrev it : ℕ
      it = get_or front (q - 1) 0

      pub it_in : Within 1 p.chunks it
      it_in = all_from (Within 1 p.chunks) front head (q - 1) o.chunks_in (omega arith) (omega (arith, b.high, o.long.2))

      pub first_in : (0 < first) × (first ≤ 500)
      first_in = (omega (arith, b.place, o.room), omega (arith, b.place, b.high, o.within))

      pub want_small : max (at after (due_slot p it)) used ≤ 60397977600
      want_small = omega (arith, b.small, o.sums (due_slot p it))

      pub begun_more :
          {x : Chosen} → x ≡ choose (of whole it) (base_of left it) (max (at after (due_slot p it)) used) (at after 0) →
          Walking p left whole after front head need from ids₀ dues₀ bytes₀ mark₀ (set ids (first - 1) it) (set dues (first - 1) (due_slot p it)) (set bytes (first - 1) x.bytes) (set mark (first - 1) x.mark) x.need (first - 1) (q - 1)
      begun_more {x} e =
          let front_is : drop (q - 1) front ≡ it ∷ drop q front = drop_before front q (omega arith) (omega (arith, b.high, o.long.2)) in
          let put : (l : List ℕ) (v : ℕ) → length l ≡ 500 → drop (first - 1) (set l (first - 1) v) ≡ v ∷ drop first l = λ l v u. set_before l first v first_in.0 (omega (arith, first_in.1)) in
          let sm = choose_small (of whole it) (base_of left it) (max (at after (due_slot p it)) used) (at after 0) want_small (o.sums 0) (o.small it 0) in
          let d = due_in o.fine it it_in.high in
          record {
            says = rw (front_is, b.says, ← e, put ids it b.long.0, put dues (due_slot p it) b.long.1, put bytes x.bytes b.long.2, put mark x.mark b.long.3);
            small = rw e sm.0;
            place = omega (arith, b.place, first_in);
            low = omega arith;
            high = omega (arith, b.high);
            ids_are = put ids it b.long.0 ∙ rw (b.ids_are, front_is);
            ids_in = rw (put ids it b.long.0) (it_in, b.ids_in);
            slots = rw (put dues (due_slot p it) b.long.1) (record { low = d.0; high = d.1 }, b.slots);
            light = rw (put bytes x.bytes b.long.2) (rw e sm.1, b.light);
            long = (simp length-set b.long.0, simp length-set b.long.1, simp length-set b.long.2, simp length-set b.long.3);
          }
