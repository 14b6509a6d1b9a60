-- Lemmas. The trials of the layers above the base ask of the releases one a chunk. Assumes nothing.
use Prim.Native.Nat.{ℕ, zero, suc, ◌+◌, ◌-◌, max, min}
use Rattle.std.specs.Prelude.{◌≡◌, ◌&&◌, get_or, take, drop}
use Rattle.std.proofs.Math.Path.{refl, ap}
use Rattle.std.proofs.Common.{sym, ◌∙◌}
use mathlib.Core.List.{List, [], ◌∷◌, map}
use Rattle.std.proofs.Math.ListN.{length}
use Rattle.std.proofs.lemmas.List.{length-map}
use Rattle.std.proofs.Math.Dec.{leb}
use Rattle.theory_basics.specs.lemmas.Tests.{by_cond}
use Rattle.fetch.specs.Marks.{bit}
use Rattle.theory_plan.specs.lemmas.Trials.{Kept, Tried, back, bytes_kept, on_layer, on_layers, rooms}

rooms_take : (A : ℕ → ℕ) (room : ℕ) (ws rs : List ℕ) → rooms A room ws (take (length ws) rs) ≡ rooms A room ws rs
rooms_take A room [] rs = refl
rooms_take A room (w ∷ ws) [] = refl
rooms_take A room (w ∷ ws) (r ∷ rs) = rw (rooms_take A (min room (A (r - 1)) - w) ws rs)

module _ (size : ℕ → ℕ → ℕ) (A : ℕ → ℕ) where
  back_long : (n : ℕ) (hs : List ℕ) (ks : List Kept) → length (back size A n hs ks).kept ≡ length ks
  unfolding back
  back_long n hs [] = refl
  back_long n hs (k ∷ ks) =
      let o = back size A n (drop 1 hs) ks in
      by_cond
      (λ (o : Tried). length o.kept ≡ suc (length ks))
      (bit k.mark (n - 1) && leb (k.bytes + max (A k.due) o.need + size k.chunk n) (get_or hs 0 0))
      (λ t. ap suc (back_long n (drop 1 hs) ks))
      (λ t. ap suc (back_long n (drop 1 hs) ks))

  on_layers_long : (room : ℕ) (rs : List ℕ) (n : ℕ) (ks : List Kept) → length (on_layers size A room rs n ks) ≡ length ks
  on_layers_long room rs zero ks = refl
  on_layers_long room rs (suc n) ks = back_long (suc n) _ (on_layers size A room rs n ks) ∙ on_layers_long room rs n ks

  pub on_layers_take : (room : ℕ) (rs : List ℕ) (n : ℕ) (ks : List Kept) → on_layers size A room (take (length ks) rs) n ks ≡ on_layers size A room rs n ks
  on_layers_take room rs zero ks = refl
  on_layers_take room rs (suc n) ks =
      let o = on_layers size A room rs n ks in
      let e : length ks ≡ length (map bytes_kept o) = sym (length-map o bytes_kept ∙ on_layers_long room rs n ks) in
      ap (on_layer size A room (take (length ks) rs) (suc n)) (on_layers_take room rs n ks)
      ∙ ap (λ (m : ℕ). (back size A (suc n) (rooms A room (map bytes_kept o) (take m rs)) o).kept) e
      ∙ ap (λ (hs : List ℕ). (back size A (suc n) hs o).kept) (rooms_take A room (map bytes_kept o) rs)
