-- Laws on what is left of a chunk's layers, one piece after the other. Assumes nothing.
use mathlib.Core.Path.{◌≡◌, refl, sym, ◌∙◌, ap, subst}
use mathlib.Core.Bool.{Bool, true, false, cond}
use mathlib.Core.List.{List, [], ◌∷◌, ◌++◌, append_assoc, append-nil}
use Prim.Native.Nat.{ℕ, zero, suc, ◌+◌, ◌-◌, ◌≤◌, ◌<◌}
use native.Mathlib.Omega.{arith}
use lib.Dec.{ltb}
use borrow.Author.Tests.{lt-ltb, le-ltb}
use Rattle.theory_plan.specs.lemmas.Fill.{QueuedPiece}
use Rattle.core_fill.proofs.Chunks.{begun_by, begun_fits, begun_room, fed_append, puts_as, puts_begun, puts_both, puts_more, puts_none, puts_one, room_left}
use Rattle.core_fill.specs.declared.Position.{Position}
use Rattle.core_fill.specs.lemmas.Filling.{begun, Fed, left_at, level_of, load, piece, PutPiecesPre, PutPost, PutPiecePost, PutPiecePre}
use Rattle.core_fill.specs.lemmas.Left.{PutLeftPre, PutLayerPre, layers_by, layers_left, LevelsBy, pieces_left}

-- ---- a piece from its release on

module _ {start : ℕ} {part : List ℕ} {a : Position} {ready size : ℕ} {ss cs ls bs : List ℕ} (o : PutLayerPre start part a ready size ss cs ls bs) (chunk layer : ℕ) {b : Position} (begins : b ≡ begun start part a ready) where
  abbrev one : QueuedPiece
  one = piece chunk layer size ready

  one_load : load (one ∷ []) ≡ size
  one_load = omega arith

  pub one_room : PutPiecePre start part 1 b ss cs ls bs
  one_room = subst (λ (x : Position). PutPiecePre start part 1 x ss cs ls bs) (sym begins) (begun_room start part a ready ss cs ls bs o.by 1 o.room)

  pub one_fits : size ≤ b.left + left_at start part b.slot
  one_fits =
      subst (λ (x : Position). size ≤ x.left + left_at start part x.slot) (sym begins)
      (omega (arith, begun_fits start part a ready ss cs ls bs o.by one [] refl (omega (arith, o.fed), o.some, tt) (omega (arith, o.fits))))

  pub one_puts : {r : Position} {ss' cs' ls' bs' : List ℕ} → PutPiecePost start part chunk layer size b ss cs ls bs r ss' cs' ls' bs' → PutPost start part (one ∷ []) 1 a ss cs ls bs r ss' cs' ls' bs'
  one_puts {r} {ss'} {cs'} {ls'} {bs'} p =
      puts_begun start part a ready ss cs ls bs o.by one [] 1 refl r ss' cs' ls' bs'
      (puts_one start part ready (begun_by start part a ready ss cs ls bs o.by) (subst (λ (x : Position). PutPiecePost start part chunk layer size x ss cs ls bs r ss' cs' ls' bs') begins p))

-- ---- the layers of a chunk

module _ (size : ℕ → ℕ → ℕ) (k r : ℕ) where
  -- Layer n, if something is left of it.
  abbrev pub layer_at : ℕ → List QueuedPiece
  layer_at n = cond (ltb 0 (size k n)) (piece k n (size k n) r ∷ []) []

  pieces_cons : (m n : ℕ) → pieces_left size k r m (suc n) ≡ layer_at m ++ pieces_left size k r (suc m) n
  pieces_cons m n = by (ltb 0 (size k m))
    where
      by : (x : Bool) → cond x (piece k m (size k m) r ∷ pieces_left size k r (suc m) n) (pieces_left size k r (suc m) n) ≡ cond x (piece k m (size k m) r ∷ []) [] ++ pieces_left size k r (suc m) n
      by true = refl
      by false = refl

  pieces_split : (m n d : ℕ) → pieces_left size k r m (n + d) ≡ pieces_left size k r m n ++ pieces_left size k r (n + m) d
  pieces_split m zero d = let e : 0 + d ≡ d = omega arith in let e' : 0 + m ≡ m = omega arith in rw (e, e')
  pieces_split m (suc n) d =
      let e : suc n + d ≡ suc (n + d) = omega arith in
      let e' : suc n + m ≡ n + suc m = omega arith in
      ap (pieces_left size k r m) e ∙ pieces_cons m (n + d)
      ∙ ap (λ (l : List QueuedPiece). layer_at m ++ l) (pieces_split (suc m) n d)
      ∙ sym (append_assoc (layer_at m) (pieces_left size k r (suc m) n) (pieces_left size k r (n + suc m) d))
      ∙ ap (λ (l : List QueuedPiece). l ++ pieces_left size k r (n + suc m) d) (sym (pieces_cons m n))
      ∙ ap (λ (i : ℕ). pieces_left size k r m (suc n) ++ pieces_left size k r i d) (sym e')

  pub pieces_next : (n : ℕ) → pieces_left size k r 0 (n + 1) ≡ pieces_left size k r 0 n ++ layer_at n
  pieces_next n =
      let z : n + 0 ≡ n = omega arith in
      pieces_split 0 n 1 ∙ ap (λ (l : List QueuedPiece). pieces_left size k r 0 n ++ l) (pieces_cons (n + 0) 0 ∙ append-nil (layer_at (n + 0)) ∙ ap layer_at z)

pub record Layering (start : ℕ) (part : List ℕ) (left : ℕ → ℕ → ℕ) (k r m : ℕ) (a : Position) (ss cs ls bs ss' cs' ls' bs' : List ℕ) (at : Position) (n : ℕ) : Type 0 where
  pub within : n ≤ level_of m
  pub puts : PutPost start part (pieces_left (left) k r 0 n) n a ss cs ls bs at ss' cs' ls' bs'

module _ {start : ℕ} {part : List ℕ} {left : ℕ → ℕ → ℕ} {k r m : ℕ} {a : Position} {ss cs ls bs : List ℕ} (o : PutLeftPre start part left a r k m ss cs ls bs) where
  pub layering_start : Layering start part left k r m a ss cs ls bs ss cs ls bs a 0
  layering_start = record { within = omega arith; puts = puts_none start part a ss cs ls bs o.asks.room.low o.asks.room.high }

  module _ {ss' cs' ls' bs' : List ℕ} {at : Position} {n : ℕ} (y : Layering start part left k r m a ss cs ls bs ss' cs' ls' bs' at n) where
    pub layering_end : level_of m ≤ n → PutPost start part (layers_left left k r m) 4 a ss cs ls bs at ss' cs' ls' bs'
    layering_end e =
        let d : n ≡ level_of m = omega (arith, y.within) in
        puts_more start part (omega (arith, y.within, o.asks.levels.high)) (puts_as start part (ap (pieces_left (left) k r 0) d) y.puts)

    module _ (below_level : n < level_of m) where
      pub layering_skip : left k n ≤ 0 → Layering start part left k r m a ss cs ls bs ss' cs' ls' bs' at (n + 1)
      layering_skip z =
          let none : layer_at (left) k r n ≡ [] = rw (le-ltb 0 (left k n) z) in
          record {
            within = omega (arith, below_level);
            puts = puts_more start part (omega arith) (puts_as start part (sym (pieces_next (left) k r n ∙ ap (λ (l : List QueuedPiece). pieces_left (left) k r 0 n ++ l) none ∙ append-nil (pieces_left (left) k r 0 n))) y.puts);
          }

      module _ (z : 0 < left k n) where
        abbrev more : List QueuedPiece
        more = pieces_left (left) k r (suc n) (level_of m - n - 1)

        -- What is still to place of the chunk, layer n first.
        rest_is : layers_left left k r m ≡ pieces_left (left) k r 0 n ++ (piece k n (left k n) r ∷ more)
        rest_is =
            let d : level_of m ≡ n + suc (level_of m - n - 1) = omega (arith, below_level) in
            let q : n + 0 ≡ n = omega arith in
            ap (pieces_left (left) k r 0) d ∙ pieces_split (left) k r 0 n (suc (level_of m - n - 1)) ∙ rw (q, lt-ltb 0 (left k n) z)

        rest_fed : Fed (left_at start part) (pieces_left (left) k r 0 n ++ (piece k n (left k n) r ∷ more))
        rest_fed = subst (Fed (left_at start part)) rest_is o.asks.fed

        pub layer_from : PutLayerPre start part at r (left k n) ss' cs' ls' bs'
        layer_from =
            let f = fed_append (left_at start part) (pieces_left (left) k r 0 n) (piece k n (left k n) r ∷ more) rest_fed in
            record {
              room = room_left start part 1 4 (omega (arith, below_level, o.asks.levels.high)) o.asks.room y.puts;
              by = o.asks.by;
              some = z;
              fed = omega (arith, f.0);
              fits = omega (arith, y.puts.enough (piece k n (left k n) r ∷ more) rest_fed (subst (λ (l : List QueuedPiece). load l ≤ a.left + left_at start part a.slot) rest_is o.asks.fits));
            }

        pub layering_more : {at' : Position} {s₂ c₂ l₂ b₂ : List ℕ} → PutPost start part (piece k n (left k n) r ∷ []) 1 at ss' cs' ls' bs' at' s₂ c₂ l₂ b₂ → Layering start part left k r m a ss cs ls bs s₂ c₂ l₂ b₂ at' (n + 1)
        layering_more p =
            let here : layer_at (left) k r n ≡ piece k n (left k n) r ∷ [] = rw (lt-ltb 0 (left k n) z) in
            record {
              within = omega (arith, below_level);
              puts = puts_as start part (sym (pieces_next (left) k r n ∙ ap (λ (l : List QueuedPiece). pieces_left (left) k r 0 n ++ l) here)) (puts_both start part y.puts p);
            }

-- ---- both ways

module _
    (size : ℕ → ℕ → ℕ) (k r m : ℕ) {afresh : Bool} (v : Bool) (e : afresh ≡ v)
    {start : ℕ} {part : List ℕ} {a : Position} {ss cs ls bs : List ℕ} where
  pub asks_by : PutPiecesPre (LevelsBy afresh) start part (layers_by afresh size k r m) a r k m ss cs ls bs → PutPiecesPre (LevelsBy v) start part (layers_by v size k r m) a r k m ss cs ls bs
  asks_by = subst (λ (b : Bool). PutPiecesPre (LevelsBy b) start part (layers_by b size k r m) a r k m ss cs ls bs) e

  pub puts_by :
      {z : Position} {ss' cs' ls' bs' : List ℕ} → PutPost start part (layers_by v size k r m) 4 a ss cs ls bs z ss' cs' ls' bs' →
      PutPost start part (layers_by afresh size k r m) 4 a ss cs ls bs z ss' cs' ls' bs'
  puts_by {z} {ss'} {cs'} {ls'} {bs'} = subst (λ (b : Bool). PutPost start part (layers_by b size k r m) 4 a ss cs ls bs z ss' cs' ls' bs') (sym e)
