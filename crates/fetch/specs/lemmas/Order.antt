-- Lemmas. Playing order by rows: where sizes are above 0, a list is in playing order exactly if by
-- the slot of each of its rows each carried chunk that plays before its chunk is begun.
use Rattle.std.specs.Prelude.{ℕ, ◌≤◌, ◌<◌, ◌≡◌, refl, ◌&&◌, List, [], ◌∷◌, ◌⊎◌, T, eqb, leb}
use Rattle.std.proofs.Common.{inl, inr, ⊎_elim, arith, eqb→eq, leb→le, le→leb}
use Rattle.std.proofs.Math.Dec.{nleb→lt}
use Rattle.theory_basics.specs.Tests.{All, In, here, there}
use Rattle.theory_basics.specs.lemmas.Tests.{and_T, any_row_lem, at_row, eqb_iff, T_and, test, neqb_ne}
use Rattle.job.specs.Job.{Job, Layer, size}
use Rattle.fetch.specs.Rows.{Row, begun, Carried}
use Rattle.fetch.specs.Rules.{BegunIn, PlayingOrder, RowInRange}
use Rattle.fetch.specs.lemmas.Rows.{any_some, some_row}

-- ---- each chunk with a row is begun in some slot

-- No row of chunk i stands before slot t.
abbrev NoneBefore : List Row → ℕ → ℕ → Type 0
NoneBefore rows i t = All (λ x. x.chunk ≡ i → t ≤ x.slot) rows

record First (rows : List Row) (i : ℕ) : Type 0 where
  row : Row
  listed : In row rows
  chunk_is : row.chunk ≡ i
  none_before : NoneBefore rows i row.slot

none_later : (rows : List Row) (i s t : ℕ) → s ≤ t → NoneBefore rows i t → NoneBefore rows i s
none_later [] i s t h a = tt
none_later (x ∷ xs) i s t h a = (λ e. omega (arith, a.0 e), none_later xs i s t h a.1)

absent : (rows : List Row) (i t : ℕ) → All (λ x. x.chunk ≡ i → ⊥) rows → NoneBefore rows i t
absent [] i t a = tt
absent (x ∷ xs) i t a = (λ e. absurd (a.0 e), absent xs i t a.1)

first_of : (rows : List Row) (i : ℕ) → First rows i ⊎ All (λ x. x.chunk ≡ i → ⊥) rows
first_of [] i = inr tt
first_of (x ∷ xs) i =
    let r = first_of xs i in
    ⊎_elim
    (λ t.
    let e = eqb→eq x.chunk i t in
    inl
    (⊎_elim
    (λ f.
    ⊎_elim
    (λ u.
    let h = leb→le x.slot f.row.slot u in
    record { row = x; listed = here; chunk_is = e; none_before = (λ q. omega arith, none_later xs i x.slot f.row.slot h f.none_before) })
    (λ u.
    let h = nleb→lt x.slot f.row.slot u in
    record { row = f.row; listed = there f.listed; chunk_is = f.chunk_is; none_before = (λ q. omega arith, f.none_before) })
    (test (leb x.slot f.row.slot)))
    (λ n. record { row = x; listed = here; chunk_is = e; none_before = (λ q. omega arith, absent xs i x.slot n) })
    r))
    (λ t.
    let o : x.chunk ≡ i → ⊥ = neqb_ne x.chunk i t in
    ⊎_elim
    (λ f. inl (record { row = f.row; listed = there f.listed; chunk_is = f.chunk_is; none_before = (λ q. absurd (o q), f.none_before) }))
    (λ n. inr (o, n))
    r)
    (test (eqb x.chunk i))

-- The slot in which the chunk of a row is begun, at most the row's own.
pub record Begins (rows : List Row) (i t : ℕ) : Type 0 where
  pub slot : ℕ
  pub begun_in : BegunIn rows i slot
  pub by : slot ≤ t

pub begins : (rows : List Row) (x : Row) → In x rows → (i : ℕ) → x.chunk ≡ i → Begins rows i x.slot
begins rows x m i e =
    ⊎_elim
    (λ f.
    record {
      slot = f.row.slot;
      begun_in =
          record {
            row = f.row;
            listed = f.listed;
            chunk_is = f.chunk_is;
            slot_is = refl;
            first = λ y k. at_row (λ y. y.chunk ≡ i → f.row.slot ≤ y.slot) k f.none_before;
          };
      by = at_row (λ y. y.chunk ≡ i → f.row.slot ≤ y.slot) m f.none_before e;
    })
    (λ n. absurd (at_row (λ y. y.chunk ≡ i → ⊥) m n e))
    (first_of rows i)

-- ---- playing order by rows

-- By the slot of each row of a chunk each carried chunk that plays before it is begun.
abbrev pub BegunInTurn : Job → List Row → Type 0
BegunInTurn j rows =
    (x : Row) → In x rows → (i : ℕ) → 1 ≤ i → i < x.chunk → Carried j rows i 0 → T (begun rows x.slot i)

pub order_begun :
    (j : Job) → ((i n : ℕ) → Layer j i n → 1 ≤ size j i n) → (rows : List Row) → All (RowInRange j) rows → PlayingOrder j rows → BegunInTurn j rows
unfolding PlayingOrder
order_begun j sized rows range o x m i g h c =
    let r = at_row (RowInRange j) m range in
    let some = sized i 0 (record { chunk_low = g; chunk_high = omega (arith, r.chunk_high); layer_in = omega (arith, r.layer_in) }) in
    let y = some_row (λ z. eqb z.chunk i && eqb z.layer 0) rows (omega (arith, c)) in
    let e = eqb→eq y.row.chunk i (and_T (eqb y.row.chunk i) (eqb y.row.layer 0) y.passes).0 in
    let a = begins rows y.row y.listed i e in
    let b = begins rows x m x.chunk refl in
    let z = a.begun_in in
    let l = o i x.chunk a.slot b.slot g h c z b.begun_in in
    any_row_lem (λ w. eqb w.chunk i && leb w.slot x.slot) z.listed
    (T_and (eqb z.row.chunk i) (leb z.row.slot x.slot) ((eqb_iff z.row.chunk i).1 z.chunk_is) (le→leb z.row.slot x.slot (omega (arith, z.slot_is, l, b.by))))

pub begun_order : (j : Job) (rows : List Row) → BegunInTurn j rows → PlayingOrder j rows
unfolding PlayingOrder
begun_order j rows f i k s t g h c a b =
    let u = f b.row b.listed i g (omega (arith, b.chunk_is)) c in
    let y = any_some (λ w. eqb w.chunk i && leb w.slot b.row.slot) rows u in
    let v = and_T (eqb y.row.chunk i) (leb y.row.slot b.row.slot) y.passes in
    omega (arith, leb→le y.row.slot b.row.slot v.1, a.first y.row y.listed (eqb→eq y.row.chunk i v.0), b.slot_is)
