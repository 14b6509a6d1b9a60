-- Laws on all layers above the base, and on the whole decision. Assumes nothing.
use mathlib.Core.Path.{◌≡◌, refl, sym, ◌∙◌, ap}
use mathlib.Core.List.{List, [], ◌∷◌, map}
use Prim.Native.Nat.{ℕ, suc, ◌+◌, ◌*◌, ◌-◌, ◌≤◌, ◌<◌}
use native.Mathlib.Omega.{arith}
use lib.ListN.{length, drop, length-drop}
use Rattle.theory_basics.specs.Tests.{All}
use Rattle.theory_plan.specs.lemmas.Trials.{Kept, rooms, back, bytes_kept, mark_of, on_layer, on_layers}
use Rattle.theory_plan.specs.lemmas.Parts.{at}
use Rattle.core_decide.specs.lemmas.Decision.{kept_of, TryLayerPre, TryLayerPost, SettleLayersPre, SettleLayersPost}

-- ---- four tables of one length

bytes_of : (is ds bs ms : List ℕ) → length is ≡ length ds → length is ≡ length bs → length is ≡ length ms → map bytes_kept (kept_of is ds bs ms) ≡ bs
bytes_of [] ds [] ms d b m = refl
bytes_of [] ds (y ∷ bs) ms d b m = absurd (omega arith)
bytes_of (i ∷ is) [] bs ms d b m = absurd (omega arith)
bytes_of (i ∷ is) (x ∷ ds) [] ms d b m = absurd (omega arith)
bytes_of (i ∷ is) (x ∷ ds) (y ∷ bs) [] d b m = absurd (omega arith)
bytes_of (i ∷ is) (x ∷ ds) (y ∷ bs) (z ∷ ms) d b m = ap (λ (l : List ℕ). y ∷ l) (bytes_of is ds bs ms (omega arith) (omega arith) (omega arith))

pub marks_of_lem : (is ds bs ms : List ℕ) → length is ≡ length ds → length is ≡ length bs → length is ≡ length ms → map mark_of (kept_of is ds bs ms) ≡ ms
marks_of_lem [] ds bs [] d b m = refl
marks_of_lem [] ds bs (z ∷ ms) d b m = absurd (omega arith)
marks_of_lem (i ∷ is) [] bs ms d b m = absurd (omega arith)
marks_of_lem (i ∷ is) (x ∷ ds) [] ms d b m = absurd (omega arith)
marks_of_lem (i ∷ is) (x ∷ ds) (y ∷ bs) [] d b m = absurd (omega arith)
marks_of_lem (i ∷ is) (x ∷ ds) (y ∷ bs) (z ∷ ms) d b m = ap (λ (l : List ℕ). z ∷ l) (marks_of_lem is ds bs ms (omega arith) (omega arith) (omega arith))

pub same_long : (a b : List ℕ) (first : ℕ) → length a ≡ 500 → length b ≡ 500 → length (drop first a) ≡ length (drop first b)
same_long a b first e g = omega (arith, length-drop first a, length-drop first b)

-- ---- layer by layer

pub record Settling (layers : ℕ) (size : ℕ → ℕ → ℕ) (all : ℕ) (after ids dues ready : List ℕ) (first : ℕ) (bytes₀ mark₀ bytes room mark : List ℕ) (n : ℕ) : Type 0 where
  pub says :
      kept_of (drop first ids) (drop first dues) (drop first bytes) (drop first mark)
      ≡ on_layers size (at after) all (drop first ready) (n - 1) (kept_of (drop first ids) (drop first dues) (drop first bytes₀) (drop first mark₀))
  pub low : 1 ≤ n
  pub high : n ≤ layers
  pub carried : All (λ b. b ≤ n * 16777216) (drop first bytes)
  pub long : (length bytes ≡ 500) × (length room ≡ 500) × (length mark ≡ 500)

all_imp : (P Q : ℕ → Type 0) (l : List ℕ) → ((x : ℕ) → P x → Q x) → All P l → All Q l
all_imp P Q [] f a = tt
all_imp P Q (x ∷ l) f a = (f x a.0, all_imp P Q l f a.1)

module _ (layers : ℕ) (size : ℕ → ℕ → ℕ) (all : ℕ) (after ids dues ready : List ℕ) (first : ℕ) (bytes₀ room₀ mark₀ : List ℕ) (o : SettleLayersPre layers size after ids dues ready first bytes₀ room₀ mark₀) where
  pub settling_start : Settling layers size all after ids dues ready first bytes₀ mark₀ bytes₀ room₀ mark₀ 1
  settling_start =
      record {
        says = refl;
        low = omega arith;
        high = o.some;
        carried = all_imp (λ b. b ≤ 16777216) (λ b. b ≤ 1 * 16777216) (drop first bytes₀) (λ x h. omega arith) o.carried;
        long = (o.long.4, o.long.5, o.long.6);
      }

  module _ (bytes room mark : List ℕ) (n : ℕ) (s : Settling layers size all after ids dues ready first bytes₀ mark₀ bytes room mark n) where
    pub settling_end : layers ≤ n → SettleLayersPost layers size all after ids dues ready first bytes₀ mark₀ bytes mark
    settling_end h =
        let e : n ≡ layers = omega (arith, s.high) in
        record { kept = rw e at s.says; long = (s.long.0, s.long.2) }

    module _ (h : n < layers) where
      pub layer_from : (room' : List ℕ) → length room' ≡ 500 → TryLayerPre size n after ids dues room' first bytes mark
      layer_from room' e =
          record {
            low = s.low;
            high = omega (arith, o.few);
            chunks_in = o.chunks_in;
            small = o.small;
            sums = o.sums;
            slots = o.due_slots;
            within = o.within;
            carried = s.carried;
            long = (o.long.0, o.long.1, o.long.2, e, s.long.0, s.long.2);
          }

      pub settling_more : (room' bytes' mark' : List ℕ) → length room' ≡ 500
          → drop first room' ≡ rooms (at after) all (drop first bytes) (drop first ready)
          → TryLayerPost size n after ids dues room' first bytes mark bytes' mark'
          → Settling layers size all after ids dues ready first bytes₀ mark₀ bytes' room' mark' (n + 1)
      settling_more room' bytes' mark' e r y =
          let here : List Kept = kept_of (drop first ids) (drop first dues) (drop first bytes) (drop first mark) in
          let there : List Kept = kept_of (drop first ids) (drop first dues) (drop first bytes₀) (drop first mark₀) in
          let b : map bytes_kept here ≡ drop first bytes = bytes_of (drop first ids) (drop first dues) (drop first bytes) (drop first mark) (same_long ids dues first o.long.1 o.long.2) (same_long ids bytes first o.long.1 s.long.0) (same_long ids mark first o.long.1 s.long.2) in
          let d : suc (n - 1) ≡ n = omega (arith, s.low) in
          let d' : n + 1 - 1 ≡ suc (n - 1) = omega (arith, s.low) in
          let step : kept_of (drop first ids) (drop first dues) (drop first bytes') (drop first mark') ≡ on_layer size (at after) all (drop first ready) n here =
          y.kept ∙ ap (λ (l : List ℕ). (back size (at after) n l here).kept) (r ∙ ap (λ (l : List ℕ). rooms (at after) all l (drop first ready)) (sym b)) in
          record {
            says = step ∙ ap (on_layer size (at after) all (drop first ready) n) s.says
                ∙ ap (λ (m : ℕ). on_layer size (at after) all (drop first ready) m (on_layers size (at after) all (drop first ready) (n - 1) there)) (sym d)
                ∙ ap (λ (m : ℕ). on_layers size (at after) all (drop first ready) m there) (sym d');
            low = omega arith;
            high = omega arith;
            carried = all_imp (λ b. b ≤ suc n * 16777216) (λ b. b ≤ (n + 1) * 16777216) (drop first bytes') (λ x h. omega arith) y.carried;
            long = (y.long.0, e, y.long.1);
          }
