-- Lemmas. The asks as a list of pieces, and the rows that bytes of a slot make of a list of pieces,
-- whichever chunks are asked. Assumes nothing.
use Rattle.std.specs.Prelude.{ℕ, zero, suc, ◌+◌, ◌*◌, ◌-◌, ◌≤◌, ◌<◌, min, ◌≡◌, refl, Bool, true, false, cond, ◌&&◌, List, [], ◌∷◌, ◌++◌, ◌⊎◌, length, T, leb, ltb, eqb}
use Rattle.std.proofs.Common.{sym, ap, subst, ◌∙◌, append_assoc, append-nil, inl, inr, ⊎_elim, arith, length-append, leb→le, ltb→lt, nltb→le, eqb→eq, lt→ltb}
use Rattle.theory_basics.specs.Tests.{All, In, here, there}
use Rattle.theory_basics.specs.lemmas.Ranges.{cond_most}
use Rattle.theory_basics.specs.lemmas.Tests.{all_append, all_map, and_T, by_cond, in_left, in_right, last, not_T_false, T_and, T_true, test, neqb_ne}
use Rattle.theory_basics.specs.lemmas.Tables.{ne_lt}
use Rattle.job.specs.Job.{Job, chunks}
use Rattle.fetch.specs.Rows.{Row, bytes_if}
use Rattle.theory_plan.specs.Own.{Piece, row_of}
use Rattle.theory_replan.specs.lemmas.Parts.{left_none, left_if}
use Rattle.theory_live.specs.Statement.{asks_below, layer_asks, piece_of, taken_of, remaining}

-- ---- what x bytes of slot p make of pieces

-- Layer n of chunk i.
abbrev pub of_layer : ℕ → ℕ → ℕ → ℕ → Bool
of_layer i n c m = eqb c i && eqb m n

-- The bytes of all pieces.
abbrev pub total : List Piece → ℕ
total qs = left_if (λ c m. true) qs

-- Each piece has a byte.
abbrev pub Somes : List Piece → Type 0
Somes qs = All (λ q. 1 ≤ q.bytes) qs

-- Each row is some bytes of a piece.
pub taken_each :
    (P : Piece → Type 0) (Q : Row → Type 0) (p : ℕ) → ((q : Piece) (b : ℕ) → P q → 1 ≤ b → b ≤ q.bytes → Q (row_of p q b)) →
    (x : ℕ) (qs : List Piece) → All P qs → Somes qs → All Q (taken_of p x qs)
taken_each P Q p f x [] a s = tt
taken_each P Q p f x (q ∷ qs) a s =
    by_cond (λ l. All Q l) (ltb 0 x)
    (λ t.
    let h = ltb→lt 0 x t in
    let g : 1 ≤ min x q.bytes = omega (arith, h, s.0) in
    (f q (min x q.bytes) a.0 g (omega arith), taken_each P Q p f (x - q.bytes) qs a.1 s.1))
    (λ t. tt)

-- The rows sum to at most x.
pub taken_most : (f : Row → Bool) (p x : ℕ) (qs : List Piece) → bytes_if f (taken_of p x qs) ≤ x
taken_most f p x [] = omega arith
taken_most f p x (q ∷ qs) =
    by_cond (λ l. bytes_if f l ≤ x) (ltb 0 x)
    (λ t.
    let m : min x q.bytes ≤ min x q.bytes = omega arith in
    omega (arith, taken_most f p (x - q.bytes) qs, cond_most (f (row_of p q (min x q.bytes))) (min x q.bytes) (min x q.bytes) m))
    (λ t. omega arith)

cond_less : (b : Bool) (x y : ℕ) → x ≤ y → cond b x 0 ≤ cond b y 0
cond_less true x y h = h
cond_less false x y h = omega arith

-- And of layers that pass to at most the pieces'.
pub taken_left : (P : ℕ → ℕ → Bool) (p x : ℕ) (qs : List Piece) → bytes_if (λ r. P r.chunk r.layer) (taken_of p x qs) ≤ left_if P qs
taken_left P p x [] = omega arith
taken_left P p x (q ∷ qs) =
    by_cond (λ l. bytes_if (λ r. P r.chunk r.layer) l ≤ left_if P (q ∷ qs)) (ltb 0 x)
    (λ t.
    let m : min x q.bytes ≤ q.bytes = omega arith in
    omega (arith, taken_left P p (x - q.bytes) qs, cond_less (P q.chunk q.layer) (min x q.bytes) q.bytes m))
    (λ t. omega arith)

-- A row of a layer that no piece of the first ones is of: all the first ones were fetched.
pub reaches :
    (P : ℕ → ℕ → Bool) (p x : ℕ) (a b : List Piece) → left_if P a ≡ 0 →
    1 ≤ bytes_if (λ r. P r.chunk r.layer) (taken_of p x (a ++ b)) → total a < x
reaches P p x [] b e h = omega (arith, taken_most (λ r. P r.chunk r.layer) p x b)
reaches P p x (q ∷ a) b e h =
    ⊎_elim
    (λ t.
    let u = T_true (ltb 0 x) t in
    let h' : 1 ≤ cond (P q.chunk q.layer) (min x q.bytes) 0 + bytes_if (λ r. P r.chunk r.layer) (taken_of p (x - q.bytes) (a ++ b)) = rw u at h in
    let m : min x q.bytes ≤ q.bytes = omega arith in
    let l = cond_less (P q.chunk q.layer) (min x q.bytes) q.bytes m in
    omega (arith, reaches P p (x - q.bytes) a b (omega arith) (omega arith)))
    (λ t.
    let u = not_T_false (ltb 0 x) t in
    let h' : 1 ≤ 0 = rw u at h in absurd (omega arith))
    (test (ltb 0 x))

-- Then each of them is a row.
pub whole_row : {q : Piece} (p x : ℕ) {a : List Piece} (b : List Piece) → Somes a → total a ≤ x → In q a → In (row_of p q q.bytes) (taken_of p x (a ++ b))
whole_row {q = q} p x b s h (here {xs = a}) =
    let l : 0 < x = omega (arith, s.0) in
    let u = T_true (ltb 0 x) (lt→ltb 0 x l) in
    let m : min x q.bytes ≡ q.bytes = omega arith in
    rw u (rw m here)
whole_row {q = q} p x b s h (there {y = y} {xs = a} i) =
    let l : 0 < x = omega (arith, s.0) in
    let u = T_true (ltb 0 x) (lt→ltb 0 x l) in
    rw u (there (whole_row p (x - y.bytes) b s.1 (omega arith) i))

-- The bytes of the first pieces that x bytes fetch whole.
abbrev pub whole_of : ℕ → List Piece → ℕ
whole_of x [] = 0
whole_of x (q ∷ qs) = cond (leb q.bytes x) (q.bytes + whole_of (x - q.bytes) qs) 0

pub whole_most : (x : ℕ) (qs : List Piece) → whole_of x qs ≤ x
whole_most x [] = omega arith
whole_most x (q ∷ qs) =
    by_cond (λ (w : ℕ). w ≤ x) (leb q.bytes x) (λ t. omega (arith, leb→le q.bytes x t, whole_most (x - q.bytes) qs)) (λ t. omega arith)

-- The rows of these are whole pieces.
pub whole_each :
    (P : Piece → Type 0) (Q : Row → Type 0) (p : ℕ) → ((q : Piece) → P q → Q (row_of p q q.bytes)) → (x : ℕ) (qs : List Piece) →
    All P qs → All Q (taken_of p (whole_of x qs) qs)
whole_each P Q p f x [] a = tt
whole_each P Q p f x (q ∷ qs) a =
    by_cond (λ (w : ℕ). All Q (taken_of p w (q ∷ qs))) (leb q.bytes x)
    (λ t.
    let w = whole_of (x - q.bytes) qs in
    let m : q.bytes ≡ min (q.bytes + w) q.bytes = omega arith in
    let d : w ≡ (q.bytes + w) - q.bytes = omega arith in
    by_cond (λ l. All Q l) (ltb 0 (q.bytes + w))
    (λ u. (subst (λ (b : ℕ). Q (row_of p q b)) m (f q a.0), subst (λ (b : ℕ). All Q (taken_of p b qs)) d (whole_each P Q p f (x - q.bytes) qs a.1)))
    (λ u. tt))
    (λ t. tt)

pub left_append : (P : ℕ → ℕ → Bool) (a b : List Piece) → left_if P (a ++ b) ≡ left_if P a + left_if P b
left_append P [] b = omega arith
left_append P (q ∷ a) b = omega (arith, left_append P a b)

-- ---- the asks, whichever chunks are asked

-- A piece of a layer from lo to below hi, of a chunk of 1 .. c that is asked.
pub record AskedPiece (j : Job) (rows : List Row) (asks : ℕ → Bool) (lo hi c : ℕ) (q : Piece) : Type 0 where
  pub chunk_low : 1 ≤ q.chunk
  pub chunk_high : q.chunk ≤ c
  pub layer_low : lo ≤ q.layer
  pub layer_high : q.layer < hi
  pub is_asked : T (asks q.chunk)
  pub some : 1 ≤ q.bytes
  pub bytes_are : q.bytes ≡ remaining j rows q.chunk q.layer

wider :
    (j : Job) (rows : List Row) (asks : ℕ → Bool) (lo hi c lo' hi' c' : ℕ) → lo' ≤ lo → hi ≤ hi' → c ≤ c' → (q : Piece) →
    AskedPiece j rows asks lo hi c q → AskedPiece j rows asks lo' hi' c' q
wider j rows asks lo hi c lo' hi' c' u v w q k = record {
  chunk_low = k.chunk_low;
  chunk_high = omega (arith, k.chunk_high);
  layer_low = omega (arith, k.layer_low);
  layer_high = omega (arith, k.layer_high);
  is_asked = k.is_asked;
  some = k.some;
  bytes_are = k.bytes_are;
}

module _ (j : Job) (rows : List Row) (asks : ℕ → Bool) where
  one_piece : (n c : ℕ) → All (AskedPiece j rows asks n (suc n) (suc c)) (piece_of j rows asks n (suc c))
  one_piece n c =
      by_cond (λ l. All (AskedPiece j rows asks n (suc n) (suc c)) l) (asks (suc c) && ltb 0 (remaining j rows (suc c) n))
      (λ t.
      let u = and_T (asks (suc c)) (ltb 0 (remaining j rows (suc c) n)) t in (
        record {
          chunk_low = omega arith;
          chunk_high = omega arith;
          layer_low = omega arith;
          layer_high = omega arith;
          is_asked = u.0;
          some = ltb→lt 0 (remaining j rows (suc c) n) u.1;
          bytes_are = refl;
        },
        tt,
      ))
      (λ t. tt)

  pub layer_pieces : (n c : ℕ) → All (AskedPiece j rows asks n (suc n) c) (layer_asks j rows asks n c)
  layer_pieces n zero = tt
  layer_pieces n (suc c) =
      all_append (AskedPiece j rows asks n (suc n) (suc c)) (layer_asks j rows asks n c) (piece_of j rows asks n (suc c))
      (all_map (AskedPiece j rows asks n (suc n) c) (AskedPiece j rows asks n (suc n) (suc c)) (layer_asks j rows asks n c)
      (wider j rows asks n (suc n) c n (suc n) (suc c) (omega arith) (omega arith) (omega arith)) (layer_pieces n c))
      (one_piece n c)

  pub below_pieces : (m : ℕ) → All (AskedPiece j rows asks 0 m (chunks j)) (asks_below j rows asks m)
  below_pieces zero = tt
  below_pieces (suc m) =
      all_append (AskedPiece j rows asks 0 (suc m) (chunks j)) (asks_below j rows asks m) (layer_asks j rows asks m (chunks j))
      (all_map (AskedPiece j rows asks 0 m (chunks j)) (AskedPiece j rows asks 0 (suc m) (chunks j)) (asks_below j rows asks m)
      (wider j rows asks 0 m (chunks j) 0 (suc m) (chunks j) (omega arith) (omega arith) (omega arith)) (below_pieces m))
      (all_map (AskedPiece j rows asks m (suc m) (chunks j)) (AskedPiece j rows asks 0 (suc m) (chunks j)) (layer_asks j rows asks m (chunks j))
      (wider j rows asks m (suc m) (chunks j) 0 (suc m) (chunks j) (omega arith) (omega arith) (omega arith)) (layer_pieces m (chunks j)))

  pub below_somes : (m : ℕ) → Somes (asks_below j rows asks m)
  below_somes m = all_map (AskedPiece j rows asks 0 m (chunks j)) (λ q. 1 ≤ q.bytes) (asks_below j rows asks m) (λ q k. k.some) (below_pieces m)

  -- No piece of a layer that they are not of.
  pieces_none :
      (lo hi c : ℕ) (qs : List Piece) (i n : ℕ) → All (AskedPiece j rows asks lo hi c) qs → (c < i) ⊎ ((n < lo) ⊎ (hi ≤ n)) →
      left_if (of_layer i n) qs ≡ 0
  pieces_none lo hi c qs i n a h =
      left_none (of_layer i n) qs
      (all_map (AskedPiece j rows asks lo hi c) (λ q. T (of_layer i n q.chunk q.layer) → ⊥) qs (λ q k t.
      let u = and_T (eqb q.chunk i) (eqb q.layer n) t in
      let e = eqb→eq q.chunk i u.0 in
      let f = eqb→eq q.layer n u.1 in
      ⊎_elim (λ g. omega (arith, k.chunk_high)) (λ g. ⊎_elim (λ g. omega (arith, k.layer_low)) (λ g. omega (arith, k.layer_high)) g) h) a)

  pub below_none : (m i n : ℕ) → m ≤ n → left_if (of_layer i n) (asks_below j rows asks m) ≡ 0
  below_none m i n h = pieces_none 0 m (chunks j) (asks_below j rows asks m) i n (below_pieces m) (inr (inr h))

  piece_left : (i n c : ℕ) → left_if (of_layer i n) (piece_of j rows asks n c) ≤ remaining j rows c n
  piece_left i n c =
      by_cond (λ l. left_if (of_layer i n) l ≤ remaining j rows c n) (asks c && ltb 0 (remaining j rows c n))
      (λ t.
      let m : remaining j rows c n ≤ remaining j rows c n = omega arith in
      omega (arith, cond_most (eqb c i && eqb n n) (remaining j rows c n) (remaining j rows c n) m))
      (λ t. omega arith)

  piece_other : (i n c : ℕ) → (c ≡ i → ⊥) → left_if (of_layer i n) (piece_of j rows asks n c) ≡ 0
  piece_other i n c h =
      by_cond (λ l. left_if (of_layer i n) l ≡ 0) (asks c && ltb 0 (remaining j rows c n))
      (λ t. left_none (of_layer i n) (record { chunk = c; layer = n; bytes = remaining j rows c n } ∷ []) (λ u. h (eqb→eq c i (and_T (eqb c i) (eqb n n) u).0), tt))
      (λ t. refl)

  layer_left : (i n c : ℕ) → left_if (of_layer i n) (layer_asks j rows asks n c) ≤ remaining j rows i n
  layer_left i n zero = omega arith
  layer_left i n (suc c) =
      let s = left_append (of_layer i n) (layer_asks j rows asks n c) (piece_of j rows asks n (suc c)) in
      ⊎_elim
      (λ t.
      let e = eqb→eq (suc c) i t in
      let z = pieces_none n (suc n) c (layer_asks j rows asks n c) i n (layer_pieces n c) (inl (omega arith)) in
      let y : left_if (of_layer i n) (piece_of j rows asks n (suc c)) ≤ remaining j rows i n =
      subst (λ (k : ℕ). left_if (of_layer i n) (piece_of j rows asks n (suc c)) ≤ remaining j rows k n) e (piece_left i n (suc c)) in
      omega (arith, s, z, y))
      (λ t. omega (arith, s, layer_left i n c, piece_other i n (suc c) (neqb_ne (suc c) i t)))
      (test (eqb (suc c) i))

  -- "No bytes twice and none beyond a size."
  pub below_left : (i n m : ℕ) → left_if (of_layer i n) (asks_below j rows asks m) ≤ remaining j rows i n
  below_left i n zero = omega arith
  below_left i n (suc m) =
      let s = left_append (of_layer i n) (asks_below j rows asks m) (layer_asks j rows asks m (chunks j)) in
      ⊎_elim
      (λ t.
      let e = eqb→eq m n t in
      let z = below_none m i n (omega arith) in
      let y : left_if (of_layer i n) (layer_asks j rows asks m (chunks j)) ≤ remaining j rows i n =
      subst (λ (k : ℕ). left_if (of_layer i n) (layer_asks j rows asks k (chunks j)) ≤ remaining j rows i n) (sym e) (layer_left i n (chunks j)) in
      omega (arith, s, z, y))
      (λ t.
      let d : (n < m) ⊎ (suc m ≤ n) =
      ⊎_elim (λ u. inl (ltb→lt n m u)) (λ u. inr (ne_lt m n (nltb→le n m u) (neqb_ne m n t))) (test (ltb n m)) in
      omega (arith, s, below_left i n m, pieces_none m (suc m) (chunks j) (layer_asks j rows asks m (chunks j)) i n (layer_pieces m (chunks j)) (inr d)))
      (test (eqb m n))

  -- Each asked layer with bytes not yet fetched is a piece.
  in_layer :
      (i n c : ℕ) → 1 ≤ i → i ≤ c → T (asks i) → 1 ≤ remaining j rows i n →
      In (record { chunk = i; layer = n; bytes = remaining j rows i n }) (layer_asks j rows asks n c)
  in_layer i n zero g h a u = absurd (omega arith)
  in_layer i n (suc c) g h a u =
      ⊎_elim
      (λ l. in_left (layer_asks j rows asks n c) (piece_of j rows asks n (suc c)) (in_layer i n c g l a u))
      (λ e.
      let q = in_right (layer_asks j rows asks n c) (piece_of j rows asks n i) (now i n a u) in
      subst (λ (k : ℕ). In (record { chunk = i; layer = n; bytes = remaining j rows i n }) (layer_asks j rows asks n c ++ piece_of j rows asks n k)) e q)
      (last i c h)
    where
      now : (i n : ℕ) → T (asks i) → 1 ≤ remaining j rows i n → In (record { chunk = i; layer = n; bytes = remaining j rows i n }) (piece_of j rows asks n i)
      now i n a u = rw (T_true (asks i && ltb 0 (remaining j rows i n)) (T_and (asks i) (ltb 0 (remaining j rows i n)) a (lt→ltb 0 (remaining j rows i n) u))) here

  pub in_below :
      (i n m : ℕ) → 1 ≤ i → i ≤ chunks j → n < m → T (asks i) → 1 ≤ remaining j rows i n →
      In (record { chunk = i; layer = n; bytes = remaining j rows i n }) (asks_below j rows asks m)
  in_below i n zero g h l a u = absurd (omega arith)
  in_below i n (suc m) g h l a u =
      ⊎_elim
      (λ t. in_left (asks_below j rows asks m) (layer_asks j rows asks m (chunks j)) (in_below i n m g h (ltb→lt n m t) a u))
      (λ t.
      let e : n ≡ m = omega (arith, nltb→le n m t) in
      in_right (asks_below j rows asks m) (layer_asks j rows asks m (chunks j))
      (subst (λ (k : ℕ). In (record { chunk = i; layer = n; bytes = remaining j rows i n }) (layer_asks j rows asks k (chunks j))) e (in_layer i n (chunks j) g h a u)))
      (test (ltb n m))

  -- The layers below m come first.
  pub below_first : (m n : ℕ) → m ≤ n → (rest : List Piece) × (asks_below j rows asks n ≡ asks_below j rows asks m ++ rest)
  below_first m zero h = let e : m ≡ 0 = omega arith in ([], subst (λ (k : ℕ). asks_below j rows asks 0 ≡ asks_below j rows asks k ++ []) (sym e) refl)
  below_first m (suc n) h =
      ⊎_elim
      (λ l.
      let r = below_first m n l in (
        r.0 ++ layer_asks j rows asks n (chunks j),
        ap (λ (q : List Piece). q ++ layer_asks j rows asks n (chunks j)) r.1
            ∙ append_assoc (asks_below j rows asks m) r.0 (layer_asks j rows asks n (chunks j)),
      ))
      (λ e. ([], subst (λ (k : ℕ). asks_below j rows asks k ≡ asks_below j rows asks m ++ []) e (sym (append-nil (asks_below j rows asks m)))))
      (last m n h)

  -- At most a piece for each layer of each chunk.
  layer_length : (n c : ℕ) → length (layer_asks j rows asks n c) ≤ c
  layer_length n zero = omega arith
  layer_length n (suc c) =
      let one : length (piece_of j rows asks n (suc c)) ≤ 1 =
      by_cond (λ (l : List Piece). length l ≤ 1) (asks (suc c) && ltb 0 (remaining j rows (suc c) n)) (λ t. omega arith) (λ t. omega arith) in
      omega (arith, length-append (layer_asks j rows asks n c) (piece_of j rows asks n (suc c)), layer_length n c, one)

  pub below_length : (m : ℕ) → length (asks_below j rows asks m) ≤ m * chunks j
  below_length zero = omega arith
  below_length (suc m) =
      omega (arith, length-append (asks_below j rows asks m) (layer_asks j rows asks m (chunks j)), below_length m, layer_length m (chunks j))

-- ---- in order

-- Piece q stands before piece z by layer, then chunk.
abbrev pub AskedBefore : Piece → Piece → Type 0
AskedBefore q z = (q.layer < z.layer) ⊎ ((q.layer ≡ z.layer) × (q.chunk < z.chunk))

-- Each stands before all after it, so no two are of the same layer and chunk.
abbrev pub InOrder : List Piece → Type 0
InOrder [] = Unit {0}
InOrder (q ∷ qs) = All (AskedBefore q) qs × InOrder qs

order_append : (a b : List Piece) → InOrder a → InOrder b → All (λ q. All (AskedBefore q) b) a → InOrder (a ++ b)
order_append [] b u v w = v
order_append (q ∷ a) b u v w = (all_append (AskedBefore q) a b u.0 w.0, order_append a b u.1 v w.1)

module _ (j : Job) (rows : List Row) (asks : ℕ → Bool) where
  layer_order : (n c : ℕ) → InOrder (layer_asks j rows asks n c)
  layer_order n zero = tt
  layer_order n (suc c) =
      order_append (layer_asks j rows asks n c) (piece_of j rows asks n (suc c)) (layer_order n c)
      (by_cond (λ l. InOrder l) (asks (suc c) && ltb 0 (remaining j rows (suc c) n)) (λ t. (tt, tt)) (λ t. tt))
      (all_map (AskedPiece j rows asks n (suc n) c) (λ q. All (AskedBefore q) (piece_of j rows asks n (suc c))) (layer_asks j rows asks n c)
      (λ q k.
      by_cond (λ l. All (AskedBefore q) l) (asks (suc c) && ltb 0 (remaining j rows (suc c) n))
      (λ t. (inr (omega (arith, k.layer_low, k.layer_high), omega (arith, k.chunk_high)), tt)) (λ t. tt))
      (layer_pieces j rows asks n c))

  pub below_order : (m : ℕ) → InOrder (asks_below j rows asks m)
  below_order zero = tt
  below_order (suc m) =
      order_append (asks_below j rows asks m) (layer_asks j rows asks m (chunks j)) (below_order m) (layer_order m (chunks j))
      (all_map (AskedPiece j rows asks 0 m (chunks j)) (λ q. All (AskedBefore q) (layer_asks j rows asks m (chunks j))) (asks_below j rows asks m)
      (λ q k.
      all_map (AskedPiece j rows asks m (suc m) (chunks j)) (AskedBefore q) (layer_asks j rows asks m (chunks j))
      (λ z w. inl (omega (arith, k.layer_high, w.layer_low))) (layer_pieces j rows asks m (chunks j)))
      (below_pieces j rows asks m))
