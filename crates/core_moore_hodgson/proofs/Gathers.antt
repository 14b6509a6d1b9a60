-- Laws on gathering the kept chunks at the end of the tables. Assumes nothing.
use mathlib.Core.Path.{◌≡◌, refl, sym, ◌∙◌, ap}
use mathlib.Core.Bool.{Bool, true, false, cond}
use mathlib.Core.List.{List, [], ◌∷◌, map}
use Prim.Native.Nat.{ℕ, suc, ◌+◌, ◌-◌, ◌≤◌, ◌<◌}
use native.Mathlib.Omega.{arith}
use lib.ListN.{length, set, drop, drop_of_length-le}
use lib.Dec.{T, ltb}
use borrow.Author.Tests.{le-ltb, lt-ltb}
use Rattle.theory_basics.specs.Lists.{has}
use Rattle.theory_basics.specs.lemmas.Tests.{T_true}
use Rattle.theory_basics.specs.lemmas.Tables.{set_before}
use Rattle.theory_basics.specs.lemmas.Lists.{map_cong}
use Rattle.job.specs.declared.Programme.{Programme}
use Rattle.job.specs.Job.{due_slot}
use Rattle.theory_plan.specs.Plan.{picked}
use Rattle.theory_plan.specs.lemmas.Kept.{picked_asc, picked_cong, picked_each, picked_has}
use Rattle.theory_plan.specs.lemmas.Parts.{at}
use Rattle.theory_plan.specs.lemmas.KeepOrDrop.{kept_asc}
use Rattle.core_moore_hodgson.specs.lemmas.Tables.{Fit, GatherPost, KeptIn, Long, KeepOrDropPost, room_in, stands, moore_hodgson_in}

module _ (p : Programme) (tree : List ℕ) where
  -- The bytes of a leaf.
  abbrev leaf_of : ℕ → ℕ
  leaf_of i = at tree (512 + i)

  -- The chunks behind i.
  pub record Gathering (ids dues bytes : List ℕ) (first i : ℕ) : Type 0 where
    pub chunks : drop first ids ≡ picked (stands tree) i (p.chunks - i)
    pub due_slots : drop first dues ≡ map (due_slot p) (drop first ids)
    pub base_bytes : drop first bytes ≡ map leaf_of (drop first ids)
    pub room : i + 500 ≤ first + p.chunks
    pub within : first ≤ 500
    pub left : i ≤ p.chunks

  pub gathering_start : (ids dues bytes : List ℕ) → Long ids dues bytes → Gathering ids dues bytes 500 p.chunks
  gathering_start ids dues bytes long =
      let z : p.chunks - p.chunks ≡ 0 = omega arith in
      let e : drop 500 ids ≡ [] = drop_of_length-le ids {i = 500} (omega (arith, long.0)) in
      let f : drop 500 dues ≡ [] = drop_of_length-le dues {i = 500} (omega (arith, long.1)) in
      let g : drop 500 bytes ≡ [] = drop_of_length-le bytes {i = 500} (omega (arith, long.2)) in
      record {
        chunks = rw (z, e);
        due_slots = rw (e, f);
        base_bytes = rw (e, g);
        room = omega arith;
        within = omega arith;
        left = omega arith;
      }

  module _ (ids dues bytes : List ℕ) (first i : ℕ) (b : Gathering ids dues bytes first i) (some : 0 < i) (few : p.chunks ≤ 500) where
    pub some_place : 0 < first
    some_place = omega (arith, b.room)

    -- One chunk more.
    next : (t : Bool) → stands tree i ≡ t → picked (stands tree) (i - 1) (p.chunks - (i - 1)) ≡ cond t (i ∷ picked (stands tree) i (p.chunks - i)) (picked (stands tree) i (p.chunks - i))
    next t h =
        let e : p.chunks - (i - 1) ≡ suc (p.chunks - i) = omega (arith, b.left) in
        let e' : suc (i - 1) ≡ i = omega arith in
        rw (e, e', h)

    front : (l : List ℕ) (v : ℕ) → length l ≡ 500 → drop (first - 1) (set l (first - 1) v) ≡ v ∷ drop first l
    front l v e = set_before l first v some_place (omega (arith, b.within))

    pub gathering_pass : leaf_of i ≤ 0 → Gathering ids dues bytes first (i - 1)
    gathering_pass h =
        record {
          chunks = b.chunks ∙ sym (next false (le-ltb 0 (leaf_of i) h));
          due_slots = b.due_slots;
          base_bytes = b.base_bytes;
          room = omega (arith, b.room);
          within = b.within;
          left = omega (arith, b.left);
        }

    pub gathering_keep : Long ids dues bytes → 0 < leaf_of i → Gathering (set ids (first - 1) i) (set dues (first - 1) (due_slot p i)) (set bytes (first - 1) (leaf_of i)) (first - 1) (i - 1)
    gathering_keep long h =
        let f = front ids i long.0 in
        record {
          chunks = f ∙ ap (λ (l : List ℕ). i ∷ l) b.chunks ∙ sym (next true (lt-ltb 0 (leaf_of i) h));
          due_slots = rw f (front dues (due_slot p i) long.1 ∙ rw b.due_slots);
          base_bytes = rw f (front bytes (leaf_of i) long.2 ∙ rw b.base_bytes);
          room = omega (arith, b.room);
          within = omega (arith, b.within);
          left = omega (arith, b.left);
        }

  pub gathering_end : (ids dues bytes : List ℕ) (first i : ℕ) → Gathering ids dues bytes first i → i ≤ 0 → GatherPost p tree first ids dues bytes
  gathering_end ids dues bytes first i b h =
      let e : i ≡ 0 = omega arith in
      let s : p.chunks - i ≡ p.chunks = omega arith in
      record { within = b.within; kept = b.chunks ∙ rw (s, e); due_slots = b.due_slots; base_bytes = b.base_bytes }

-- ---- the whole

stands_is : (b : Bool) (v : ℕ) → 1 ≤ v → ltb 0 (cond b v 0) ≡ b
stands_is true v h = lt-ltb 0 v h
stands_is false v h = refl

-- What is gathered of the tree are the chunks that the algorithm keeps.
pub keeps :
    (p : Programme) (size : ℕ → ℕ → ℕ) (after tree : List ℕ) (first : ℕ) (ids dues bytes : List ℕ) → Fit p size after →
    KeepOrDropPost p size after tree → GatherPost p tree first ids dues bytes → Long ids dues bytes → KeptIn p size (moore_hodgson_in p size (at after)) first ids dues bytes
keeps p size after tree first ids dues bytes fit w g long =
    let s : ℕ → ℕ = λ k. size k 0 in
    let ks = moore_hodgson_in p size (at after) in
    let is : (i : ℕ) → 0 < i → i ≤ p.chunks + 0 → stands tree i ≡ has ks i = λ i u v. ap (ltb 0) (w.leaf i (omega (arith, fit.few))) ∙ stands_is (has ks i) (s i) (fit.bases i u (omega arith)).low in
    let all : picked (stands tree) 0 p.chunks ≡ ks = picked_cong (stands tree) (has ks) 0 p.chunks is ∙ picked_has 0 p.chunks p.chunks ks (omega arith) (kept_asc s (room_in p (at after)) p.chunks) in
    record {
      within = g.within;
      kept = g.kept ∙ all;
      due_slots = g.due_slots;
      base_bytes = g.base_bytes ∙ rw g.kept (map_cong (λ i. at tree (512 + i)) s (picked (stands tree) 0 p.chunks) (picked_each (stands tree) (λ i. at tree (512 + i) ≡ s i) 0 p.chunks (λ i u v t. bytes_are i u v (rw (is i u v) at t))));
      ascending = rw g.kept (picked_asc (stands tree) 0 p.chunks p.chunks (omega arith));
      long = long;
    }
  where
    bytes_are : (i : ℕ) → 0 < i → i ≤ p.chunks + 0 → T (has (moore_hodgson_in p size (at after)) i) → at tree (512 + i) ≡ size i 0
    bytes_are i u v t = w.leaf i (omega (arith, fit.few)) ∙ ap (λ (b : Bool). cond b (size i 0) 0) (T_true (has (moore_hodgson_in p size (at after)) i) t)
