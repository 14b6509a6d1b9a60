-- Laws on one piece that goes into slot after slot. Assumes nothing.
use mathlib.Core.Path.{◌≡◌, refl, sym, ◌∙◌, ap}
use mathlib.Core.List.{List, [], ◌∷◌, ◌++◌, append_assoc}
use mathlib.Core.Bool.{cond}
use mathlib.Core.Logic.{⊎_elim}
use Prim.Native.Nat.{ℕ, zero, suc, ◌+◌, ◌-◌, ◌≤◌, ◌<◌}
use native.Mathlib.Omega.{arith}
use native.Mathlib.Numerals.{add-one}
use lib.ListN.{length, set, get_or, length-set}
use lib.Seq.{set-set}
use lib.Dec.{eqb, ltb, ltb→lt, nltb→le}
use borrow.Author.Tests.{eq-eqb, ne_eqb, le-leb, lt-leb, lt-ltb, le-ltb}
use Rattle.theory_basics.specs.lemmas.Tests.{test}
use Rattle.fetch.specs.Rows.{Row, row_slot, row_chunk, row_layer, row_bytes}
use Rattle.theory_plan.specs.lemmas.Fill.{QueuedPiece, row, less, fill}
use Rattle.core_fill.specs.declared.Position.{Position}
use Rattle.theory_plan.specs.lemmas.Parts.{padded, left_none, left_step, padded_long, padded_at}
use Rattle.core_fill.specs.lemmas.Filling.{last_of, bytes_at, left_at, onward, Made, Same, Goes, PutPiecePre, piece, PutPiecePost}
use Rattle.theory_basics.proofs.Lent.{length_snoc, stored}

-- ---- the rest of a list

module _ (start : ℕ) (part : List ℕ) where
  pub onward_next : (t : ℕ) (q : List QueuedPiece) → t < last_of start part → fill (bytes_at start part) (last_of start part - t) t q ≡ onward start part (t + 1) (bytes_at start part (t + 1)) q
  unfolding onward
  onward_next t q h = let e : last_of start part - t ≡ suc (last_of start part - suc t) = omega arith in rw (add-one, e)

  module _ (t c : ℕ) (p : QueuedPiece) (ps : List QueuedPiece) where
    onward_late : t < p.ready → onward start part t c (p ∷ ps) ≡ fill (bytes_at start part) (last_of start part - t) t (p ∷ ps)
    unfolding onward
    onward_late e = rw (lt-leb _ _ e)

    onward_empty : p.ready ≤ t → c ≡ 0 → onward start part t c (p ∷ ps) ≡ fill (bytes_at start part) (last_of start part - t) t (p ∷ ps)
    unfolding onward
    onward_empty e z = rw (le-leb _ _ e, le-ltb 0 c (omega arith))

    onward_whole : p.ready ≤ t → 0 < c → p.left ≤ c → onward start part t c (p ∷ ps) ≡ row t p p.left ∷ onward start part t (c - p.left) ps
    unfolding onward
    onward_whole e z h = rw (le-leb _ _ e, lt-ltb 0 c z, le-leb _ _ h)

    onward_part : p.ready ≤ t → 0 < c → c < p.left → onward start part t c (p ∷ ps) ≡ row t p c ∷ fill (bytes_at start part) (last_of start part - t) t (less p c ∷ ps)
    unfolding onward
    onward_part e z h = rw (le-leb _ _ e, lt-ltb 0 c z, lt-leb _ _ h)

  -- The slots before a release pass.
  pub jump : (d t c : ℕ) (p : QueuedPiece) (ps : List QueuedPiece) → p.ready ≡ t + suc d → p.ready ≤ last_of start part → onward start part t c (p ∷ ps) ≡ onward start part p.ready (bytes_at start part p.ready) (p ∷ ps)
  jump zero t c p ps e h =
      let a : t + 1 ≡ p.ready = omega arith in
      onward_late t c p ps (omega arith) ∙ onward_next t (p ∷ ps) (omega arith) ∙ ap (λ (n : ℕ). onward start part n (bytes_at start part n) (p ∷ ps)) a
  jump (suc d) t c p ps e h =
      onward_late t c p ps (omega arith) ∙ onward_next t (p ∷ ps) (omega arith) ∙ jump d (t + 1) (bytes_at start part (t + 1)) p ps (omega arith) h

  -- What a slot takes from what is left.
  pub left_next : (t : ℕ) → t < last_of start part → left_at start part t ≡ bytes_at start part (t + 1) + left_at start part (t + 1)
  left_next t h =
      let e : t + 1 - 1 ≡ t = omega arith in
      let s = left_step (padded start part) t (omega (arith, padded_long start part)) in
      rw e (omega (arith, s))

  -- The slot's bytes in the part.
  pub bytes_in_lem : (t : ℕ) → 1 ≤ start → start ≤ t → bytes_at start part t ≡ get_or part (t - start) 0
  bytes_in_lem t s h = let e : t - 1 ≡ start - 1 + (t - start) = omega arith in ap (λ (n : ℕ). get_or (padded start part) n 0) e ∙ padded_at start part (t - start)

  -- Past the last slot nothing is left.
  pub some_left : (t : ℕ) → 0 < left_at start part t → t < last_of start part
  some_left t h =
      ⊎_elim
      (λ u. ltb→lt t (last_of start part) u)
      (λ u. absurd (omega (arith, left_none (padded start part) t (omega (arith, padded_long start part, nltb→le t (last_of start part) u)))))
      (test (ltb t (last_of start part)))

-- ---- steps of a list under way

pub same_refl : (ss cs ls bs : List ℕ) → Same ss cs ls bs ss cs ls bs
same_refl ss cs ls bs = record { s = refl; c = refl; l = refl; b = refl }

module _ {whole : List Row} {start : ℕ} {part s₀ c₀ l₀ b₀ ss cs ls bs : List ℕ} where
  pub made_same : {q q' : List QueuedPiece} {a b : Position} (m : Made whole start part s₀ c₀ l₀ b₀ q ss cs ls bs a) → b.rows ≡ a.rows → onward start part a.slot a.left q ≡ onward start part b.slot b.left q' → Made whole start part s₀ c₀ l₀ b₀ q' ss cs ls bs b
  made_same m e g =
      record {
        made = m.made;
        says = m.says ∙ ap (λ (l : List Row). m.made ++ l) g;
        slots = m.slots;
        chunks = m.chunks;
        layers = m.layers;
        bytes = m.bytes;
        counted = e ∙ m.counted;
        long = m.long;
      }

  made_row : {q q' : List QueuedPiece} {a b : Position} (m : Made whole start part s₀ c₀ l₀ b₀ q ss cs ls bs a) (r : Row) → b.rows ≡ a.rows + 1
      → a.rows < length ss → a.rows < length cs → a.rows < length ls → a.rows < length bs
      → onward start part a.slot a.left q ≡ r ∷ onward start part b.slot b.left q'
      → Made whole start part s₀ c₀ l₀ b₀ q' (set ss a.rows r.slot) (set cs a.rows r.chunk) (set ls a.rows r.layer) (set bs a.rows r.bytes) b
  made_row {q} {q'} {a} {b} m r e hs hc hl hb g =
      record {
        made = m.made ++ (r ∷ []);
        says = m.says ∙ ap (λ (l : List Row). m.made ++ l) g ∙ sym (append_assoc m.made (r ∷ []) (onward start part b.slot b.left q'));
        slots = stored row_slot s₀ ss m.made r a.rows m.counted hs m.slots m.long.s;
        chunks = stored row_chunk c₀ cs m.made r a.rows m.counted hc m.chunks m.long.c;
        layers = stored row_layer l₀ ls m.made r a.rows m.counted hl m.layers m.long.l;
        bytes = stored row_bytes b₀ bs m.made r a.rows m.counted hb m.bytes m.long.b;
        counted = omega (arith, m.counted, length_snoc m.made r);
        long = record { s = simp length-set m.long.s; c = simp length-set m.long.c; l = simp length-set m.long.l; b = simp length-set m.long.b };
      }

-- ---- one piece

-- Placed in part: left is still to place.
pub record Putting (start : ℕ) (part : List ℕ) (chunk layer size : ℕ) (a : Position) (ss cs ls bs ss' cs' ls' bs' : List ℕ) (t c n left : ℕ) : Type 0 where
  pub some : 1 ≤ left
  pub goes : Goes start part 0 a (record { slot = t; left = c; rows = n })
  pub fits : left ≤ c + left_at start part t
  pub long : Same ss cs ls bs ss' cs' ls' bs'
  pub enough : (x : ℕ) → size + x ≤ a.left + left_at start part a.slot → left + x ≤ c + left_at start part t
  pub makes :
      (whole : List Row) (s₀ c₀ l₀ b₀ : List ℕ) (ready : ℕ) (rest : List QueuedPiece) → ready ≤ a.slot →
      Made whole start part s₀ c₀ l₀ b₀ (piece chunk layer size ready ∷ rest) ss cs ls bs a →
      Made whole start part s₀ c₀ l₀ b₀ (piece chunk layer left ready ∷ rest) ss' cs' ls' bs' (record { slot = t; left = c; rows = n })

module _ (start : ℕ) (part : List ℕ) (chunk layer size : ℕ) (a : Position) (ss cs ls bs : List ℕ) (g : PutPiecePre start part 1 a ss cs ls bs) where
  pub putting_start : 1 ≤ size → size ≤ a.left + left_at start part a.slot → Putting start part chunk layer size a ss cs ls bs ss cs ls bs a.slot a.left a.rows size
  putting_start h k =
      record {
        some = h;
        goes = record { low = g.low; high = g.high; later = omega arith; rows = omega arith };
        fits = k;
        long = same_refl ss cs ls bs;
        enough = λ x u. u;
        makes = λ w s₀ c₀ l₀ b₀ ready rest r m. m;
      }

  module _ (ss' cs' ls' bs' : List ℕ) (t c n left : ℕ) (p : Putting start part chunk layer size a ss cs ls bs ss' cs' ls' bs' t c n left) where
    -- A piece that the slot can't end has a slot after it.
    pub slot_after : c < left → t < last_of start part
    slot_after h = some_left start part t (omega (arith, p.fits))

    pub places : (n < length ss') × (n < length cs') × (n < length ls') × (n < length bs') × (t ≤ 3600)
    places =
        let r = p.goes.rows in (
          omega (arith, r, p.long.s, g.s, p.goes.later),
          omega (arith, r, p.long.c, g.c, p.goes.later),
          omega (arith, r, p.long.l, g.l, p.goes.later),
          omega (arith, r, p.long.b, g.b, p.goes.later),
          omega (arith, p.goes.high, g.part_in.high, g.part_in.low),
        )

    pub putting_wait : c ≡ 0 → c < left → Putting start part chunk layer size a ss cs ls bs ss' cs' ls' bs' (t + 1) (bytes_at start part (t + 1)) n left
    putting_wait z h =
        let u = slot_after h in
        let v = left_next start part t u in
        record {
          some = p.some;
          goes = record { low = omega (arith, p.goes.low); high = omega arith; later = omega (arith, p.goes.later); rows = omega (arith, p.goes.rows) };
          fits = omega (arith, p.fits);
          long = p.long;
          enough = λ x w. omega (arith, p.enough x w);
          makes = λ w s₀ c₀ l₀ b₀ ready rest r m.
              made_same (p.makes w s₀ c₀ l₀ b₀ ready rest r m) refl
              (onward_empty start part t c (piece chunk layer left ready) rest (omega (arith, p.goes.later)) z ∙ onward_next start part t (piece chunk layer left ready ∷ rest) u);
        }

    sets_long : (x y z w : ℕ) → Same ss cs ls bs (set ss' n x) (set cs' n y) (set ls' n z) (set bs' n w)
    sets_long x y z w = record { s = simp length-set p.long.s; c = simp length-set p.long.c; l = simp length-set p.long.l; b = simp length-set p.long.b }

    pub putting_part : 0 < c → c < left → Putting start part chunk layer size a ss cs ls bs (set ss' n t) (set cs' n chunk) (set ls' n layer) (set bs' n c) (t + 1) (bytes_at start part (t + 1)) (n + 1) (left - c)
    putting_part z h =
        let u = slot_after h in
        let v = left_next start part t u in
        record {
          some = omega arith;
          goes = record { low = omega (arith, p.goes.low); high = omega arith; later = omega (arith, p.goes.later); rows = omega (arith, p.goes.rows) };
          fits = omega (arith, p.fits);
          long = sets_long t chunk layer c;
          enough = λ x w. omega (arith, p.enough x w);
          makes = λ w s₀ c₀ l₀ b₀ ready rest r m.
              made_row (p.makes w s₀ c₀ l₀ b₀ ready rest r m) (row t (piece chunk layer left ready) c) refl places.0 places.1 places.2 places.3
              (onward_part start part t c (piece chunk layer left ready) rest (omega (arith, p.goes.later)) z h
              ∙ ap (λ (l : List Row). row t (piece chunk layer left ready) c ∷ l) (onward_next start part t (piece chunk layer (left - c) ready ∷ rest) u));
        }

    pub putting_end : left ≤ c → PutPiecePost start part chunk layer size a ss cs ls bs (record { slot = t; left = c - left; rows = n + 1 }) (set ss' n t) (set cs' n chunk) (set ls' n layer) (set bs' n left)
    putting_end h =
        record {
          goes = record { low = p.goes.low; high = p.goes.high; later = p.goes.later; rows = omega (arith, p.goes.rows) };
          long = sets_long t chunk layer left;
          enough = λ x w. omega (arith, p.enough x w);
          makes = λ w s₀ c₀ l₀ b₀ ready rest r m.
              made_row (p.makes w s₀ c₀ l₀ b₀ ready rest r m) (row t (piece chunk layer left ready) left) refl places.0 places.1 places.2 places.3
              (onward_whole start part t c (piece chunk layer left ready) rest (omega (arith, p.goes.later)) (omega (arith, p.some)) h);
        }

-- Placed in part, with a row without bytes at place n perhaps: the next is written over it.
pub record Laying (start : ℕ) (part : List ℕ) (chunk layer size : ℕ) (a : Position) (ss cs ls bs ss' cs' ls' bs' : List ℕ) (t c n left : ℕ) : Type 0 where
  pub slots : List ℕ
  pub chunks : List ℕ
  pub layers : List ℕ
  pub bytes : List ℕ
  pub putting : Putting start part chunk layer size a ss cs ls bs slots chunks layers bytes t c n left
  pub slots_but : (x : ℕ) → set ss' n x ≡ set slots n x
  pub chunks_but : (x : ℕ) → set cs' n x ≡ set chunks n x
  pub layers_but : (x : ℕ) → set ls' n x ≡ set layers n x
  pub bytes_but : (x : ℕ) → set bs' n x ≡ set bytes n x

but_long : (xs ys : List ℕ) (n : ℕ) → ((x : ℕ) → set xs n x ≡ set ys n x) → length xs ≡ length ys
but_long xs ys n h = sym (length-set xs n 0) ∙ ap length (h 0) ∙ length-set ys n 0

module _ (start : ℕ) (part : List ℕ) (chunk layer size : ℕ) (a : Position) (ss cs ls bs : List ℕ) (g : PutPiecePre start part 1 a ss cs ls bs) where
  pub laying_start : 1 ≤ size → size ≤ a.left + left_at start part a.slot → Laying start part chunk layer size a ss cs ls bs ss cs ls bs a.slot a.left a.rows size
  laying_start h k =
      record {
        slots = ss;
        chunks = cs;
        layers = ls;
        bytes = bs;
        putting = putting_start start part chunk layer size a ss cs ls bs g h k;
        slots_but = λ x. refl;
        chunks_but = λ x. refl;
        layers_but = λ x. refl;
        bytes_but = λ x. refl;
      }

  module _ (ss' cs' ls' bs' : List ℕ) (t c n left : ℕ) (p : Laying start part chunk layer size a ss cs ls bs ss' cs' ls' bs' t c n left) where
    pub laying_slot_after : c < left → t < last_of start part
    laying_slot_after = slot_after start part chunk layer size a ss cs ls bs g p.slots p.chunks p.layers p.bytes t c n left p.putting

    pub laying_long : Same ss cs ls bs ss' cs' ls' bs'
    laying_long =
        record {
          s = but_long ss' p.slots n p.slots_but ∙ p.putting.long.s;
          c = but_long cs' p.chunks n p.chunks_but ∙ p.putting.long.c;
          l = but_long ls' p.layers n p.layers_but ∙ p.putting.long.l;
          b = but_long bs' p.bytes n p.bytes_but ∙ p.putting.long.b;
        }

    pub laying_places : (n < length ss') × (n < length cs') × (n < length ls') × (n < length bs') × (t ≤ 3600)
    laying_places = rw (but_long ss' p.slots n p.slots_but, but_long cs' p.chunks n p.chunks_but, but_long ls' p.layers n p.layers_but, but_long bs' p.bytes n p.bytes_but) (places start part chunk layer size a ss cs ls bs g p.slots p.chunks p.layers p.bytes t c n left p.putting)

    laying_wait : c ≡ 0 → c < left → Laying start part chunk layer size a ss cs ls bs (set ss' n t) (set cs' n chunk) (set ls' n layer) (set bs' n c) (t + 1) (bytes_at start part (t + 1)) n left
    laying_wait z h =
        record {
          slots = p.slots;
          chunks = p.chunks;
          layers = p.layers;
          bytes = p.bytes;
          putting = putting_wait start part chunk layer size a ss cs ls bs g p.slots p.chunks p.layers p.bytes t c n left p.putting z h;
          slots_but = λ x. set-set ss' n t x ∙ p.slots_but x;
          chunks_but = λ x. set-set cs' n chunk x ∙ p.chunks_but x;
          layers_but = λ x. set-set ls' n layer x ∙ p.layers_but x;
          bytes_but = λ x. set-set bs' n c x ∙ p.bytes_but x;
        }

    laying_part : 0 < c → c < left → Laying start part chunk layer size a ss cs ls bs (set ss' n t) (set cs' n chunk) (set ls' n layer) (set bs' n c) (t + 1) (bytes_at start part (t + 1)) (n + 1) (left - c)
    laying_part z h =
        record {
          slots = set p.slots n t;
          chunks = set p.chunks n chunk;
          layers = set p.layers n layer;
          bytes = set p.bytes n c;
          putting = putting_part start part chunk layer size a ss cs ls bs g p.slots p.chunks p.layers p.bytes t c n left p.putting z h;
          slots_but = λ x. ap (λ (l : List ℕ). set l (n + 1) x) (p.slots_but t);
          chunks_but = λ x. ap (λ (l : List ℕ). set l (n + 1) x) (p.chunks_but chunk);
          layers_but = λ x. ap (λ (l : List ℕ). set l (n + 1) x) (p.layers_but layer);
          bytes_but = λ x. ap (λ (l : List ℕ). set l (n + 1) x) (p.bytes_but c);
        }

    pub laying_more : c < left → Laying start part chunk layer size a ss cs ls bs (set ss' n t) (set cs' n chunk) (set ls' n layer) (set bs' n c) (t + 1) (bytes_at start part (t + 1)) (cond (eqb c 0) n (n + 1)) (left - c)
    laying_more h =
        ⊎_elim
        (λ u. let z = ltb→lt 0 c u in rw (ne_eqb c 0 (λ e. omega (arith, e))) (laying_part z h))
        (λ u. let z : c ≡ 0 = omega (arith, nltb→le 0 c u) in let e : left - c ≡ left = omega arith in rw (eq-eqb c 0 z, e) (laying_wait z h))
        (test (ltb 0 c))

    pub laying_end : left ≤ c → PutPiecePost start part chunk layer size a ss cs ls bs (record { slot = t; left = c - left; rows = n + 1 }) (set ss' n t) (set cs' n chunk) (set ls' n layer) (set bs' n left)
    laying_end h = rw (p.slots_but t, p.chunks_but chunk, p.layers_but layer, p.bytes_but left) (putting_end start part chunk layer size a ss cs ls bs g p.slots p.chunks p.layers p.bytes t c n left p.putting h)
