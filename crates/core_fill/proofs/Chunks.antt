-- Laws on the pieces of a chunk, and of all chunks, one after the other. Assumes nothing.
use mathlib.Core.Path.{◌≡◌, refl, sym, ◌∙◌, ap, subst}
use mathlib.Core.List.{List, [], ◌∷◌, ◌++◌, append_assoc, append-nil}
use mathlib.Core.Logic.{⊎_elim}
use Prim.Native.Nat.{ℕ, zero, suc, ◌+◌, ◌*◌, ◌-◌, ◌≤◌, ◌<◌}
use native.Mathlib.Omega.{arith}
use native.Mathlib.Numerals.{add-one}
use lib.ListN.{get_or, drop, drop_of_length-le}
use lib.Dec.{ltb, ltb→lt, nltb→le}
use borrow.Author.Tests.{lt-ltb, le-ltb, ltb-true, ltb-false}
use Rattle.theory_basics.specs.lemmas.Tests.{test}
use Rattle.job.specs.Job.{Within}
use Rattle.theory_plan.specs.lemmas.Fill.{QueuedPiece}
use Rattle.theory_plan.specs.lemmas.Queue.{pieces}
use Rattle.theory_plan.specs.lemmas.Trials.{level_mark}
use Rattle.theory_plan.specs.lemmas.Linear.{level_bit}
use Rattle.fetch.specs.Marks.{bit}
use mathlib.Core.Bool.{true, false}
use Rattle.core_fill.specs.declared.Position.{Position}
use Rattle.core_fill.specs.lemmas.Filling.{AllBy, begun, bytes_at, PutChunkPre, Fed, last_of, layers_of, left_at, level_of, load, Made, onward, piece, PutPiecesPre, PutPost, PutPiecePost, queue_by, PutPiecePre, Same}
use Rattle.core_fill.proofs.Pieces.{jump, left_next, made_same, same_refl}
use Rattle.theory_basics.specs.lemmas.Tables.{drop_next, all_from}

-- ---- loads

pub load_append : (a b : List QueuedPiece) → load (a ++ b) ≡ load a + load b
load_append [] b = omega arith
load_append (p ∷ a) b = omega (arith, load_append a b)

pub fed_append : (A : ℕ → ℕ) (a b : List QueuedPiece) → Fed A (a ++ b) → Fed A b
fed_append A [] b f = f
fed_append A (p ∷ a) b f = fed_append A a b f.2

pub fed_front : (A : ℕ → ℕ) (a b : List QueuedPiece) → Fed A (a ++ b) → Fed A a
fed_front A [] b f = tt
fed_front A (p ∷ a) b f = (omega (arith, f.0, load_append a b), f.1, fed_front A a b f.2)

-- ---- placing nothing, and placing twice

module _ (start : ℕ) (part : List ℕ) where
  pub puts_none : (a : Position) (ss cs ls bs : List ℕ) → start ≤ a.slot → a.slot ≤ last_of start part → PutPost start part [] 0 a ss cs ls bs a ss cs ls bs
  puts_none a ss cs ls bs h k =
      record {
        goes = record { low = h; high = k; later = omega arith; rows = omega arith };
        long = same_refl ss cs ls bs;
        enough = λ rest f u. u;
        makes = λ w s₀ c₀ l₀ b₀ rest m. m;
      }

  pub puts_one : {chunk layer size : ℕ} {a : Position} {ss cs ls bs : List ℕ} {r : Position} {ss' cs' ls' bs' : List ℕ} (ready : ℕ) → ready ≤ a.slot
      → PutPiecePost start part chunk layer size a ss cs ls bs r ss' cs' ls' bs' → PutPost start part (piece chunk layer size ready ∷ []) 1 a ss cs ls bs r ss' cs' ls' bs'
  puts_one ready h p =
      record {
        goes = p.goes;
        long = p.long;
        enough = λ rest f u. p.enough (load rest) u;
        makes = λ w s₀ c₀ l₀ b₀ rest m. p.makes w s₀ c₀ l₀ b₀ ready rest h m;
      }

  same_both : {s₁ c₁ l₁ b₁ s₂ c₂ l₂ b₂ s₃ c₃ l₃ b₃ : List ℕ} → Same s₁ c₁ l₁ b₁ s₂ c₂ l₂ b₂ → Same s₂ c₂ l₂ b₂ s₃ c₃ l₃ b₃ → Same s₁ c₁ l₁ b₁ s₃ c₃ l₃ b₃
  same_both x y = record { s = y.s ∙ x.s; c = y.c ∙ x.c; l = y.l ∙ x.l; b = y.b ∙ x.b }

  pub puts_both : {q q' : List QueuedPiece} {k k' : ℕ} {a b c : Position} {s₁ c₁ l₁ b₁ s₂ c₂ l₂ b₂ s₃ c₃ l₃ b₃ : List ℕ}
      → PutPost start part q k a s₁ c₁ l₁ b₁ b s₂ c₂ l₂ b₂ → PutPost start part q' k' b s₂ c₂ l₂ b₂ c s₃ c₃ l₃ b₃ → PutPost start part (q ++ q') (k + k') a s₁ c₁ l₁ b₁ c s₃ c₃ l₃ b₃
  puts_both {q} {q'} {k} {k'} {a} {b} {c} {s₁} {c₁} {l₁} {b₁} x y =
      record {
        goes = record { low = y.goes.low; high = y.goes.high; later = omega (arith, x.goes.later, y.goes.later); rows = omega (arith, x.goes.rows, y.goes.rows) };
        long = same_both x.long y.long;
        enough = λ rest f u.
            let e = append_assoc q q' rest in
            let f' : Fed (left_at start part) (q ++ (q' ++ rest)) = subst (Fed (left_at start part)) e f in
            y.enough rest (fed_append (left_at start part) q (q' ++ rest) f') (x.enough (q' ++ rest) f' (subst (λ (l : List QueuedPiece). load l ≤ a.left + left_at start part a.slot) e u));
        makes = λ w s₀ c₀ l₀ b₀ rest m.
            y.makes w s₀ c₀ l₀ b₀ rest (x.makes w s₀ c₀ l₀ b₀ (q' ++ rest) (subst (λ (l : List QueuedPiece). Made w start part s₀ c₀ l₀ b₀ l s₁ c₁ l₁ b₁ a) (append_assoc q q' rest) m));
      }

  pub puts_more : {q : List QueuedPiece} {k k' : ℕ} {a b : Position} {s₁ c₁ l₁ b₁ s₂ c₂ l₂ b₂ : List ℕ} → k ≤ k' → PutPost start part q k a s₁ c₁ l₁ b₁ b s₂ c₂ l₂ b₂ → PutPost start part q k' a s₁ c₁ l₁ b₁ b s₂ c₂ l₂ b₂
  puts_more h p = record { goes = record { low = p.goes.low; high = p.goes.high; later = p.goes.later; rows = omega (arith, p.goes.rows) }; long = p.long; enough = p.enough; makes = p.makes }

  pub puts_as : {q q' : List QueuedPiece} {k : ℕ} {a b : Position} {s₁ c₁ l₁ b₁ s₂ c₂ l₂ b₂ : List ℕ} → q ≡ q' → PutPost start part q k a s₁ c₁ l₁ b₁ b s₂ c₂ l₂ b₂ → PutPost start part q' k a s₁ c₁ l₁ b₁ b s₂ c₂ l₂ b₂
  puts_as {q} {q'} {k} {a} {b} {s₁} {c₁} {l₁} {b₁} {s₂} {c₂} {l₂} {b₂} e p = subst (λ (t : List QueuedPiece). PutPost start part t k a s₁ c₁ l₁ b₁ b s₂ c₂ l₂ b₂) e p

  -- Room is kept for the pieces that are still to place.
  pub room_left : {q : List QueuedPiece} {k : ℕ} {a b : Position} {s₁ c₁ l₁ b₁ s₂ c₂ l₂ b₂ : List ℕ} (k' K : ℕ) → k + k' ≤ K → PutPiecePre start part K a s₁ c₁ l₁ b₁ → PutPost start part q k a s₁ c₁ l₁ b₁ b s₂ c₂ l₂ b₂ → PutPiecePre start part k' b s₂ c₂ l₂ b₂
  room_left k' K h g p =
      let r = p.goes.rows in
      record {
        part_in = g.part_in;
        low = p.goes.low;
        high = p.goes.high;
        count = omega (arith, r, g.count);
        s = omega (arith, r, g.s, p.long.s);
        c = omega (arith, r, g.c, p.long.c);
        l = omega (arith, r, g.l, p.long.l);
        b = omega (arith, r, g.b, p.long.b);
      }

  -- A chunk waits for its release first.
  module _ (a : Position) (ready : ℕ) (ss cs ls bs : List ℕ) (by : ready ≤ last_of start part) where
    pub begun_room : (k : ℕ) → PutPiecePre start part k a ss cs ls bs → PutPiecePre start part k (begun start part a ready) ss cs ls bs
    begun_room k g =
        ⊎_elim
        (λ t.
        let u = ltb→lt a.slot ready t in
        rw (lt-ltb a.slot ready u) (record { part_in = g.part_in; low = omega (arith, g.low); high = by; count = omega (arith, g.count); s = omega (arith, g.s); c = omega (arith, g.c); l = omega (arith, g.l); b = omega (arith, g.b) }))
        (λ t. rw (le-ltb a.slot ready (nltb→le a.slot ready t)) g)
        (test (ltb a.slot ready))

    pub begun_by : ready ≤ (begun start part a ready).slot
    begun_by = ⊎_elim (λ t. rw (lt-ltb a.slot ready (ltb→lt a.slot ready t)) (omega arith)) (λ t. let u = nltb→le a.slot ready t in rw (le-ltb a.slot ready u) u) (test (ltb a.slot ready))

    -- What the first piece asks for is there when it begins.
    pub begun_fits : (p : QueuedPiece) (ps : List QueuedPiece) → p.ready ≡ ready → Fed (left_at start part) (p ∷ ps) → load (p ∷ ps) ≤ a.left + left_at start part a.slot → load (p ∷ ps) ≤ (begun start part a ready).left + left_at start part (begun start part a ready).slot
    begun_fits p ps e f h =
        ⊎_elim
        (λ t.
        let u = ltb→lt a.slot ready t in
        let d : ready - 1 + 1 ≡ ready = omega arith in
        let n = rw d at (left_next start part (ready - 1) (omega arith)) in
        let f' : load (p ∷ ps) ≤ left_at start part (ready - 1) = rw e at f.0 in
        rw (lt-ltb a.slot ready u) (omega (arith, n, f')))
        (λ t. rw (le-ltb a.slot ready (nltb→le a.slot ready t)) h)
        (test (ltb a.slot ready))

    pub puts_begun : (p : QueuedPiece) (ps : List QueuedPiece) (k : ℕ) → p.ready ≡ ready → (r : Position) (ss' cs' ls' bs' : List ℕ) → PutPost start part (p ∷ ps) k (begun start part a ready) ss cs ls bs r ss' cs' ls' bs' → PutPost start part (p ∷ ps) k a ss cs ls bs r ss' cs' ls' bs'
    puts_begun p ps k e r ss' cs' ls' bs' y =
        ⊎_elim
        (λ t.
        let u = ltb→lt a.slot ready t in
        let q = rw (lt-ltb a.slot ready u) at y in
        let d : p.ready ≡ a.slot + suc (ready - a.slot - 1) = omega arith in
        let w : p.ready ≤ last_of start part = omega arith in
        record {
          goes = record { low = q.goes.low; high = q.goes.high; later = omega (arith, q.goes.later); rows = omega (arith, q.goes.rows) };
          long = q.long;
          enough = λ rest f h. y.enough rest f (begun_fits p (ps ++ rest) e f h);
          makes = λ v s₀ c₀ l₀ b₀ rest m.
              q.makes v s₀ c₀ l₀ b₀ rest (made_same m refl (jump start part (ready - a.slot - 1) a.slot a.left p (ps ++ rest) d w ∙ ap (λ (n : ℕ). onward start part n (bytes_at start part n) (p ∷ (ps ++ rest))) e));
        })
        (λ t. rw (le-ltb a.slot ready (nltb→le a.slot ready t)) at y)
        (test (ltb a.slot ready))

-- ---- the layers of a chunk

-- ---- the bits of a mark that has its layers from the base up

module _ (m : ℕ) (closed : m ≡ level_mark (level_of m)) (n : ℕ) where
  level_bits : bit m n ≡ ltb n (level_of m)
  level_bits = ap (λ (x : ℕ). bit x n) closed ∙ level_bit (level_of m) n

  pub set_below : bit m n ≡ true → n < level_of m
  set_below e = ltb-true n (level_of m) (sym level_bits ∙ e)

  pub clear_from : bit m n ≡ false → level_of m ≤ n
  clear_from e = let u = ltb-false n (level_of m) (sym level_bits ∙ e) in omega arith

pieces_next : (size : ℕ → ℕ → ℕ) (k r m n : ℕ) → pieces size k r m n ++ (piece k (n + m) (size k (n + m)) r ∷ []) ≡ pieces size k r m (suc n)
pieces_next size k r m zero = let e : 0 + m ≡ m = omega arith in rw e
pieces_next size k r m (suc n) = let e : suc n + m ≡ n + suc m = omega arith in rw e (ap (λ (l : List QueuedPiece). piece k m (size k m) r ∷ l) (pieces_next size k r (suc m) n))

pieces_split : (size : ℕ → ℕ → ℕ) (k r m n d : ℕ) → pieces size k r m (n + d) ≡ pieces size k r m n ++ pieces size k r (n + m) d
pieces_split size k r m zero d = let e : 0 + d ≡ d = omega arith in let e' : 0 + m ≡ m = omega arith in rw (e, e')
pieces_split size k r m (suc n) d =
    let e : suc n + d ≡ suc (n + d) = omega arith in
    let e' : suc n + m ≡ n + suc m = omega arith in
    rw (e, e') (ap (λ (l : List QueuedPiece). piece k m (size k m) r ∷ l) (pieces_split size k r (suc m) n d))

pub record Layering (start : ℕ) (part : List ℕ) (size : ℕ → ℕ → ℕ) (k r m : ℕ) (b : Position) (ss cs ls bs ss' cs' ls' bs' : List ℕ) (at : Position) (n : ℕ) : Type 0 where
  pub within : n ≤ level_of m
  pub puts : PutPost start part (pieces size k r 0 n) n b ss cs ls bs at ss' cs' ls' bs'

module _ (start : ℕ) (part : List ℕ) (size : ℕ → ℕ → ℕ) (k r m : ℕ) (a : Position) (ss cs ls bs : List ℕ) (o : PutChunkPre start part size a r k m ss cs ls bs) (b : Position) (begins : b ≡ begun start part a r) where
  here : PutPiecePre start part 4 b ss cs ls bs
  here = subst (λ (x : Position). PutPiecePre start part 4 x ss cs ls bs) (sym begins) (begun_room start part a r ss cs ls bs o.by 4 o.room)

  pub layering_start : Layering start part size k r m b ss cs ls bs ss cs ls bs b 0
  layering_start = record { within = omega arith; puts = puts_none start part b ss cs ls bs here.low here.high }

  first_piece : layers_of size k r m ≡ piece k 0 (size k 0) r ∷ pieces size k r 1 (level_of m - 1)
  first_piece = let e : level_of m ≡ suc (level_of m - 1) = omega (arith, o.levels.low) in ap (pieces size k r 0) e

  module _ (ss' cs' ls' bs' : List ℕ) (at : Position) (n : ℕ) (y : Layering start part size k r m b ss cs ls bs ss' cs' ls' bs' at n) where
    pub layering_end : level_of m ≤ n → PutPost start part (layers_of size k r m) 4 a ss cs ls bs at ss' cs' ls' bs'
    layering_end e =
        let d : n ≡ level_of m = omega (arith, y.within) in
        let q : PutPost start part (layers_of size k r m) 4 b ss cs ls bs at ss' cs' ls' bs' = puts_more start part (omega (arith, y.within, o.levels.high)) (puts_as start part (ap (pieces size k r 0) d) y.puts) in
        puts_as start part (sym first_piece)
        (puts_begun start part a r ss cs ls bs o.by (piece k 0 (size k 0) r) (pieces size k r 1 (level_of m - 1)) 4 refl at ss' cs' ls' bs'
        (subst (λ (x : Position). PutPost start part (piece k 0 (size k 0) r ∷ pieces size k r 1 (level_of m - 1)) 4 x ss cs ls bs at ss' cs' ls' bs') begins (puts_as start part first_piece q)))

    module _ (below_level : n < level_of m) where
      pub layer_room : PutPiecePre start part 1 at ss' cs' ls' bs'
      layer_room = room_left start part 1 4 (omega (arith, below_level, o.levels.high)) here y.puts

      -- What is still to place of the chunk, layer n first.
      rest_is : layers_of size k r m ≡ pieces size k r 0 n ++ (piece k n (size k n) r ∷ pieces size k r (suc n) (level_of m - n - 1))
      rest_is =
          let d : level_of m ≡ n + suc (level_of m - n - 1) = omega (arith, below_level) in
          let z : n + 0 ≡ n = omega arith in
          ap (pieces size k r 0) d ∙ pieces_split size k r 0 n (suc (level_of m - n - 1)) ∙ rw z

      rest_fed : Fed (left_at start part) (pieces size k r 0 n ++ (piece k n (size k n) r ∷ pieces size k r (suc n) (level_of m - n - 1)))
      rest_fed = subst (Fed (left_at start part)) rest_is o.fed

      pub layer_some : 1 ≤ size k n
      layer_some = (fed_append (left_at start part) (pieces size k r 0 n) (piece k n (size k n) r ∷ pieces size k r (suc n) (level_of m - n - 1)) rest_fed).1

      pub layer_fits : size k n ≤ at.left + left_at start part at.slot
      layer_fits =
          let whole = begun_fits start part a r ss cs ls bs o.by (piece k 0 (size k 0) r) (pieces size k r 1 (level_of m - 1)) refl
          (subst (Fed (left_at start part)) first_piece o.fed) (subst (λ (l : List QueuedPiece). load l ≤ a.left + left_at start part a.slot) first_piece o.fits) in
          let whole' : load (piece k 0 (size k 0) r ∷ pieces size k r 1 (level_of m - 1)) ≤ b.left + left_at start part b.slot = subst (λ (x : Position). load (piece k 0 (size k 0) r ∷ pieces size k r 1 (level_of m - 1)) ≤ x.left + left_at start part x.slot) (sym begins) whole in
          let all = subst (λ (l : List QueuedPiece). load l ≤ b.left + left_at start part b.slot) (sym first_piece ∙ rest_is) whole' in
          omega (arith, y.puts.enough (piece k n (size k n) r ∷ pieces size k r (suc n) (level_of m - n - 1)) rest_fed all)

      pub layering_more : (at' : Position) (s₂ c₂ l₂ b₂ : List ℕ) → PutPiecePost start part k n (size k n) at ss' cs' ls' bs' at' s₂ c₂ l₂ b₂ → Layering start part size k r m b ss cs ls bs s₂ c₂ l₂ b₂ at' (n + 1)
      layering_more at' s₂ c₂ l₂ b₂ p =
          let z : n + 0 ≡ n = omega arith in
          let snoc : pieces size k r 0 n ++ (piece k n (size k n) r ∷ []) ≡ pieces size k r 0 (n + 1) = rw add-one (rw z at (pieces_next size k r 0 n)) in
          let by : r ≤ b.slot = subst (λ (x : Position). r ≤ x.slot) (sym begins) (begun_by start part a r ss cs ls bs o.by) in
          record {
            within = omega (arith, below_level);
            puts = puts_as start part snoc (puts_both start part y.puts (puts_one start part r (omega (arith, by, y.puts.goes.later)) p));
          }

-- ---- all chunks

pub record Placing (f : ℕ → ℕ → ℕ → List QueuedPiece) (start : ℕ) (part ids ready mark : List ℕ) (first : ℕ) (a : Position) (ss cs ls bs ss' cs' ls' bs' : List ℕ) (at : Position) (q : ℕ) : Type 0 where
  pub done : List QueuedPiece
  pub says : queue_by f (drop first ids) (drop first ready) (drop first mark) ≡ done ++ queue_by f (drop q ids) (drop q ready) (drop q mark)
  pub from : first ≤ q
  pub to : q ≤ 500
  pub puts : PutPost start part done (4 * (q - first)) a ss cs ls bs at ss' cs' ls' bs'

module _ (P : ℕ → Type 0) (f : ℕ → ℕ → ℕ → List QueuedPiece) (start : ℕ) (part ids ready mark : List ℕ) (first : ℕ) (a : Position) (ss cs ls bs : List ℕ) (o : AllBy P f start part ids ready mark first a ss cs ls bs) where
  pub placing_start : Placing f start part ids ready mark first a ss cs ls bs ss cs ls bs a first
  placing_start =
      record {
        done = [];
        says = refl;
        from = omega arith;
        to = o.within;
        puts = puts_more start part (omega arith) (puts_none start part a ss cs ls bs o.room.low o.room.high);
      }

  module _ (ss' cs' ls' bs' : List ℕ) (at : Position) (q : ℕ) (y : Placing f start part ids ready mark first a ss cs ls bs ss' cs' ls' bs' at q) where
    pub placing_end : 500 ≤ q → PutPost start part (queue_by f (drop first ids) (drop first ready) (drop first mark)) (4 * (500 - first)) a ss cs ls bs at ss' cs' ls' bs'
    placing_end h =
        let e : drop q ids ≡ [] = drop_of_length-le ids {i = q} (omega (arith, o.long.0)) in
        puts_as start part (sym (append-nil y.done) ∙ sym (rw e at y.says)) (puts_more start part (omega (arith, y.to)) y.puts)

    module _ (h : q < 500) where
      abbrev here' : List QueuedPiece
      here' = f (get_or ids q 0) (get_or ready q 0) (get_or mark q 0)

      abbrev later : List QueuedPiece
      later = queue_by f (drop (q + 1) ids) (drop (q + 1) ready) (drop (q + 1) mark)

      next : queue_by f (drop q ids) (drop q ready) (drop q mark) ≡ here' ++ later
      next = rw (drop_next ids q (omega (arith, o.long.0)), drop_next ready q (omega (arith, o.long.1)), drop_next mark q (omega (arith, o.long.2)))

      split : queue_by f (drop first ids) (drop first ready) (drop first mark) ≡ y.done ++ (here' ++ later)
      split = y.says ∙ ap (λ (l : List QueuedPiece). y.done ++ l) next

      split_fed : Fed (left_at start part) (y.done ++ (here' ++ later))
      split_fed = subst (Fed (left_at start part)) split o.fed

      pub chunk_from : PutPiecesPre P start part here' at (get_or ready q 0) (get_or ids q 0) (get_or mark q 0) ss' cs' ls' bs'
      chunk_from =
          record {
            room = room_left start part 4 (4 * (500 - first)) (omega (arith, y.from)) o.room y.puts;
            by = all_from (λ r. r ≤ last_of start part) ready first q o.by y.from (omega (arith, o.long.1));
            chunk_in = all_from (Within 1 500) ids first q o.chunks_in y.from (omega (arith, o.long.0));
            levels = all_from P mark first q o.levels y.from (omega (arith, o.long.2));
            fed = fed_front (left_at start part) here' later (fed_append (left_at start part) y.done (here' ++ later) split_fed);
            fits = omega (arith, load_append here' later, y.puts.enough (here' ++ later) split_fed (subst (λ (l : List QueuedPiece). load l ≤ a.left + left_at start part a.slot) split o.fits));
          }

      pub placing_more : (at' : Position) (s₂ c₂ l₂ b₂ : List ℕ) → PutPost start part here' 4 at ss' cs' ls' bs' at' s₂ c₂ l₂ b₂ → Placing f start part ids ready mark first a ss cs ls bs s₂ c₂ l₂ b₂ at' (q + 1)
      placing_more at' s₂ c₂ l₂ b₂ p =
          record {
            done = y.done ++ here';
            says = split ∙ sym (append_assoc y.done here' later);
            from = omega (arith, y.from);
            to = omega arith;
            puts = puts_more start part (omega (arith, y.from)) (puts_both start part y.puts p);
          }
