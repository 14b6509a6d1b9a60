-- Laws on pieces put into tables, behind those that stand there. Assumes nothing.
use Prim.Native.Nat.{ℕ, ◌+◌, ◌-◌, ◌≤◌, ◌<◌}
use mathlib.Core.Path.{◌≡◌, sym, ◌∙◌, ap, subst}
use mathlib.Core.Bool.{Bool, true, false, cond, ◌&&◌}
use mathlib.Core.List.{List, [], ◌∷◌, ◌++◌, map, append_assoc, append-nil, map-append}
use native.Mathlib.Omega.{arith}
use native.Mathlib.Numerals.{add-one}
use lib.Dec.{eqb, ltb}
use lib.ListN.{length, get_or, set, take, length-append}
use lib.Seq.{take-set-le, take-suc-set}
use Rattle.theory_basics.specs.lemmas.Ranges.{bit_le}
use Rattle.theory_plan.specs.Own.{Piece}
use Rattle.theory_live.specs.Statement.{piece_bytes, piece_chunk, piece_layer}
use Rattle.core_live.specs.lemmas.ByTables.{layer_at, piece_at, PiecesStand}

-- A column, one place written behind what stands there.
column_more : (f : Piece → ℕ) (made : List Piece) (q : Piece) (l : List ℕ) (w : ℕ) → w < length l → take w l ≡ map f made → take (w + 1) (set l w (f q)) ≡ map f (made ++ (q ∷ []))
column_more f made q l w h e = rw (add-one, take-suc-set l w (f q) h, e) (sym (map-append f made (q ∷ [])))

column_same : (f : Piece → ℕ) (made : List Piece) (l : List ℕ) (w v : ℕ) → take w l ≡ map f made → take w (set l w v) ≡ map f made
column_same f made l w v e = take-set-le w l w v (omega arith) ∙ e

-- A place is written whether or not it is a piece; if it isn't, the next is written over it.
pub stand_more :
    {made : List Piece} {w : ℕ} {cs ls bs : List ℕ} → PiecesStand made w cs ls bs → w < length cs → w < length ls → w < length bs → (q : Piece) (yes : Bool) →
    PiecesStand (made ++ cond yes (q ∷ []) []) (w + cond yes 1 0) (set cs w q.chunk) (set ls w q.layer) (set bs w q.bytes)
stand_more {made} {w} {cs} {ls} {bs} s h k m q true = record {
  many = omega (arith, s.many, length-append made (q ∷ []));
  chunks_are = column_more piece_chunk made q cs w h s.chunks_are;
  layers_are = column_more piece_layer made q ls w k s.layers_are;
  bytes_are = column_more piece_bytes made q bs w m s.bytes_are;
}
stand_more {made} {w} {cs} {ls} {bs} s h k m q false =
    let n = append-nil made in
    let z : w + 0 ≡ w = omega arith in
    record {
      many = rw n (omega (arith, s.many));
      chunks_are = rw (n, z) (column_same piece_chunk made cs w q.chunk s.chunks_are);
      layers_are = rw (n, z) (column_same piece_layer made ls w q.layer s.layers_are);
      bytes_are = rw (n, z) (column_same piece_bytes made bs w q.bytes s.bytes_are);
    }

-- The pieces of layer n of the chunks up to i stand behind those that stood.
module _ (left : ℕ → ℕ → ℕ) (asked : List ℕ) (n at : ℕ) (cs₀ ls₀ bs₀ : List ℕ) where
  pub record Putting (cs ls bs : List ℕ) (w i : ℕ) : Type 0 where
    pub most : w ≤ at + i
    pub behind : (made : List Piece) → PiecesStand made at cs₀ ls₀ bs₀ → PiecesStand (made ++ layer_at left asked n i) w cs ls bs

  layer_more : (i : ℕ) → layer_at left asked n (i + 1) ≡ layer_at left asked n i ++ piece_at left asked n (i + 1)
  layer_more i = rw add-one

  pub putting_more :
      {cs ls bs : List ℕ} {w i : ℕ} → Putting cs ls bs w i → w < length cs → w < length ls → w < length bs → {b more : ℕ} → b ≡ left (i + 1) n →
      more ≡ cond (eqb (get_or asked i 0) 1 && ltb 0 b) 1 0 →
      Putting (set cs w (i + 1)) (set ls w n) (set bs w b) (w + more) (i + 1)
  putting_more {cs} {ls} {bs} {w} {i} a h k m {b} {more} e f =
      let q : Piece = record { chunk = i + 1; layer = n; bytes = b } in
      let yes : Bool = eqb (get_or asked i 0) 1 && ltb 0 b in
      let back : i + 1 - 1 ≡ i = omega arith in
      record {
        most = omega (arith, a.most, f, bit_le yes);
        behind = λ made s.
            let same : cond yes (q ∷ []) [] ≡ piece_at left asked n (i + 1) = rw (back, e) in
            let t = stand_more (a.behind made s) h k m q yes in
            let z : (made ++ layer_at left asked n i) ++ cond yes (q ∷ []) [] ≡ made ++ layer_at left asked n (i + 1) =
            append_assoc made (layer_at left asked n i) (cond yes (q ∷ []) [])
            ∙ ap (λ (l : List Piece). made ++ (layer_at left asked n i ++ l)) same
            ∙ ap (λ (l : List Piece). made ++ l) (sym (layer_more i)) in
            subst (λ (l : List Piece). PiecesStand l (w + more) (set cs w (i + 1)) (set ls w n) (set bs w b)) z (rw f t);
      }
