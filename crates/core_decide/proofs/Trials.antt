-- Laws on the trials of a layer, from the last kept chunk to the first. Assumes nothing.
use mathlib.Core.Path.{◌≡◌, refl, sym, ◌∙◌, ap}
use mathlib.Core.Bool.{true, false, ◌&&◌}
use mathlib.Core.List.{List, [], ◌∷◌}
use Prim.Native.Nat.{ℕ, suc, ◌+◌, ◌*◌, ◌-◌, ◌≤◌, ◌<◌, max}
use native.Mathlib.Omega.{arith}
use lib.ListN.{length, get_or, set, drop, length-set, drop_of_length-le}
use lib.Seq.{get_or-set_other}
use lib.Dec.{leb}
use Rattle.theory_basics.specs.Tests.{All}
use Rattle.job.specs.Job.{Within}
use Rattle.fetch.specs.Marks.{bit, with_layer}
use Rattle.theory_plan.specs.lemmas.Trials.{Kept, Tried, try_one, back}
use Rattle.theory_plan.specs.lemmas.Parts.{at}
use Rattle.core_decide.specs.lemmas.Decision.{kept_of, Slot, TryLayerPre, TryLayerPost}
use Rattle.theory_basics.specs.lemmas.Tables.{drop_before, set_before, all_from}

pub record Backing (size : ℕ → ℕ → ℕ) (n : ℕ) (after ids dues room : List ℕ) (first : ℕ) (bytes₀ mark₀ bytes mark : List ℕ) (need q : ℕ) : Type 0 where
  pub says :
      back size (at after) n (drop q room) (kept_of (drop q ids) (drop q dues) (drop q bytes₀) (drop q mark₀))
      ≡ record { need = need; kept = kept_of (drop q ids) (drop q dues) (drop q bytes) (drop q mark) }
  pub old : (k : ℕ) → k < q → (get_or bytes k 0 ≡ get_or bytes₀ k 0) × (get_or mark k 0 ≡ get_or mark₀ k 0)
  pub from : first ≤ q
  pub to : q ≤ 500
  pub small : need ≤ 60397977600 + (500 - q) * 67108864
  pub carried : All (λ b. b ≤ suc n * 16777216) (drop q bytes)
  pub long : (length bytes ≡ 500) × (length mark ≡ 500)

module _ (size : ℕ → ℕ → ℕ) (n : ℕ) (after ids dues room : List ℕ) (first : ℕ) (bytes₀ mark₀ : List ℕ) (o : TryLayerPre size n after ids dues room first bytes₀ mark₀) where
  pub backing_start : Backing size n after ids dues room first bytes₀ mark₀ bytes₀ mark₀ 0 500
  unfolding back
  backing_start =
      let e : drop 500 ids ≡ [] = drop_of_length-le ids {i = 500} (omega (arith, o.long.1)) in
      let f : drop 500 bytes₀ ≡ [] = drop_of_length-le bytes₀ {i = 500} (omega (arith, o.long.4)) in
      record {
        says = rw e;
        old = λ k h. (refl, refl);
        from = o.within;
        to = omega arith;
        small = omega arith;
        carried = rw f tt;
        long = (o.long.4, o.long.5);
      }

  module _ (bytes mark : List ℕ) (need q : ℕ) (b : Backing size n after ids dues room first bytes₀ mark₀ bytes mark need q) where
    pub backing_end : q ≤ first → TryLayerPost size n after ids dues room first bytes₀ mark₀ bytes mark
    backing_end h =
        let e : q ≡ first = omega (arith, b.from) in
        record { kept = sym (ap (λ (o : Tried). o.kept) (rw e at b.says)); carried = rw e at b.carried; long = b.long }

    module _ (h : first < q) where
      abbrev its : ℕ
      its = size (get_or ids (q - 1) 0) n

      abbrev want : ℕ
      want = get_or bytes (q - 1) 0 + max (at after (get_or dues (q - 1) 0)) need

      abbrev it : Kept
      it = record { chunk = get_or ids (q - 1) 0; due = get_or dues (q - 1) 0; bytes = get_or bytes (q - 1) 0; mark = get_or mark (q - 1) 0 }

      before : (l : List ℕ) → length l ≡ 500 → drop (q - 1) l ≡ get_or l (q - 1) 0 ∷ drop q l
      before l e = drop_before l q (omega arith) (omega (arith, b.to))

      stored : (l : List ℕ) (v : ℕ) → length l ≡ 500 → drop (q - 1) (set l (q - 1) v) ≡ v ∷ drop q l
      stored l v e = set_before l q v (omega arith) (omega (arith, b.to))

      one :
          back size (at after) n (drop (q - 1) room) (kept_of (drop (q - 1) ids) (drop (q - 1) dues) (drop (q - 1) bytes₀) (drop (q - 1) mark₀))
          ≡ try_one size (at after) n (get_or room (q - 1) 0) it (record { need = need; kept = kept_of (drop q ids) (drop q dues) (drop q bytes) (drop q mark) })
      unfolding back
      one =
          let old = b.old (q - 1) (omega arith) in
          rw (before room o.long.3, before ids o.long.1, before dues o.long.2, before bytes₀ o.long.4, before mark₀ o.long.5, b.says, old.0, old.1)

      -- Its bytes so far.
      pub bytes_small : get_or bytes (q - 1) 0 ≤ n * 16777216
      bytes_small = rw (b.old (q - 1) (omega arith)).0 (all_from (λ x. x ≤ n * 16777216) bytes₀ first (q - 1) o.carried (omega arith) (omega (arith, b.to, o.long.4)))

      pub chunk_in : Within 1 500 (get_or ids (q - 1) 0)
      chunk_in = all_from (Within 1 500) ids first (q - 1) o.chunks_in (omega arith) (omega (arith, b.to, o.long.1))

      pub due_in : Slot (get_or dues (q - 1) 0)
      due_in = all_from Slot dues first (q - 1) o.slots (omega arith) (omega (arith, b.to, o.long.2))

      pub want_small : want + its ≤ 100000000000
      want_small = omega (arith, b.small, bytes_small, o.high, o.sums (get_or dues (q - 1) 0), o.small (get_or ids (q - 1) 0) n, b.to)

      need_small : (x : ℕ) → x ≤ 67108864 → x + max (at after (get_or dues (q - 1) 0)) need ≤ 60397977600 + (500 - (q - 1)) * 67108864
      need_small x u = omega (arith, b.small, o.sums (get_or dues (q - 1) 0), b.to)

      pub backing_pass : bit (get_or mark (q - 1) 0) (n - 1) && leb (want + its) (get_or room (q - 1) 0) ≡ false → Backing size n after ids dues room first bytes₀ mark₀ bytes mark want (q - 1)
      backing_pass t =
          record {
            says = one ∙ rw (t, before ids o.long.1, before dues o.long.2, before bytes b.long.0, before mark b.long.1);
            old = λ k w. b.old k (omega arith);
            from = omega arith;
            to = omega (arith, b.to);
            small = need_small (get_or bytes (q - 1) 0) (omega (arith, bytes_small, o.high));
            carried = rw (before bytes b.long.0) (omega (arith, bytes_small), b.carried);
            long = b.long;
          }

      pub backing_take :
          bit (get_or mark (q - 1) 0) (n - 1) && leb (want + its) (get_or room (q - 1) 0) ≡ true →
          Backing size n after ids dues room first bytes₀ mark₀ (set bytes (q - 1) (get_or bytes (q - 1) 0 + its)) (set mark (q - 1) (with_layer (get_or mark (q - 1) 0) n)) (want + its) (q - 1)
      backing_take t =
          let sb = stored bytes (get_or bytes (q - 1) 0 + its) b.long.0 in
          let sm = stored mark (with_layer (get_or mark (q - 1) 0) n) b.long.1 in
          let z = o.small (get_or ids (q - 1) 0) n in
          record {
            says = one ∙ rw (t, before ids o.long.1, before dues o.long.2, sb, sm);
            old = λ k w. (get_or-set_other bytes (q - 1) k _ 0 (λ e. omega arith) ∙ (b.old k (omega arith)).0, get_or-set_other mark (q - 1) k _ 0 (λ e. omega arith) ∙ (b.old k (omega arith)).1);
            from = omega arith;
            to = omega (arith, b.to);
            small = omega (arith, need_small (get_or bytes (q - 1) 0 + its) (omega (arith, bytes_small, o.high, z)));
            carried = rw sb (omega (arith, bytes_small, z), b.carried);
            long = (simp length-set b.long.0, simp length-set b.long.1);
          }
