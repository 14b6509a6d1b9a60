-- Lemmas. The own list of any choice has one row for each slot, chunk and
-- layer, in this order, and at most 5,599 rows. Section 3 of the argument.
use Rattle.std.specs.Prelude.{ℕ, zero, suc, ◌+◌, ◌*◌, ◌-◌, ◌≤◌, ◌<◌, ◌≡◌, refl, List, [], ◌∷◌, ◌++◌, ◌⊎◌, length, leb, ltb}
use Rattle.std.proofs.Common.{sym, subst, inl, inr, ⊎_elim, arith, mul-le-mul_right, length-append, ltb→lt, nltb→le}
use Rattle.theory_basics.specs.Tests.{All}
use Rattle.theory_basics.specs.lemmas.Tests.{all_map, test}
use Rattle.fetch.specs.Rows.{Row}
use Rattle.job.specs.Job.{Accepted, Job, chunks, due, forecast, held_most, last_slot, layers, size}
use Rattle.theory_plan.specs.Statement.{Choice}
use Rattle.theory_plan.specs.Own.{Ascending, RowBefore, own_list}
use Rattle.theory_plan.specs.lemmas.Kept.{length_picked_le}
use Rattle.theory_plan.specs.Plan.{kept}
use Rattle.theory_plan.specs.lemmas.Choice.{kept_asc}
use Rattle.theory_plan.specs.lemmas.Fill.{Out, QueuedPiece, by_slot, fill, slot_in_slot, take_slot}
use Rattle.theory_plan.specs.lemmas.Queue.{pieces, queue, releases}
use Rattle.theory_plan.specs.lemmas.Sufficiency.{fetch}
use Rattle.theory_plan.proofs.OwnFill.{own_list_is}
use Rattle.theory_plan.specs.Bases.{Asc}

-- ---- from a place on

-- (a, b) is at most (c, d), the first numbers before the second.
abbrev Upto : ℕ → ℕ → ℕ → ℕ → Type 0
Upto a b c d = (a < c) ⊎ ((a ≡ c) × (b ≤ d))

upto_trans : (a b c d e f : ℕ) → Upto a b c d → Upto c (suc d) e f → Upto a b e f
upto_trans a b c d e f (inl x) (inl y) = inl (omega arith)
upto_trans a b c d e f (inl x) (inr y) = inl (omega arith)
upto_trans a b c d e f (inr x) (inl y) = inl (omega arith)
upto_trans a b c d e f (inr x) (inr y) = inr (omega arith)

-- Row x stands in slot t, chunk k, layer n or after.
abbrev AtOrAfter : ℕ → ℕ → ℕ → Row → Type 0
AtOrAfter t k n x = (t < x.slot) ⊎ ((t ≡ x.slot) × Upto k n x.chunk x.layer)

at_or_after_trans :
    (t k n : ℕ) (x y : Row) → AtOrAfter t k n x → AtOrAfter x.slot x.chunk (suc x.layer) y → AtOrAfter t k n y
at_or_after_trans t k n x y (inl u) (inl v) = inl (omega arith)
at_or_after_trans t k n x y (inl u) (inr v) = inl (omega arith)
at_or_after_trans t k n x y (inr u) (inl v) = inl (omega arith)
at_or_after_trans t k n x y (inr u) (inr v) = inr (omega arith, upto_trans k n x.chunk x.layer y.chunk y.layer u.1 v.1)

after_before : (x y : Row) → AtOrAfter x.slot x.chunk (suc x.layer) y → RowBefore x y
after_before x y (inl u) = inl u
after_before x y (inr u) = inr (u.0, ⊎_elim (λ v. inl v) (λ v. inr (v.0, omega arith)) u.1)

-- The rows rise from slot t, chunk k, layer n on.
abbrev Rising : ℕ → ℕ → ℕ → List Row → Type 0
Rising t k n [] = Unit {0}
Rising t k n (x ∷ xs) = AtOrAfter t k n x × Rising x.slot x.chunk (suc x.layer) xs

rising_all : (t k n : ℕ) (l : List Row) → Rising t k n l → All (AtOrAfter t k n) l
rising_all t k n [] r = tt
rising_all t k n (x ∷ xs) r = (
  r.0,
  all_map (AtOrAfter x.slot x.chunk (suc x.layer)) (AtOrAfter t k n) xs (λ y v. at_or_after_trans t k n x y r.0 v) (rising_all x.slot x.chunk (suc x.layer) xs r.1),
)

rising_ascending : (t k n : ℕ) (l : List Row) → Rising t k n l → Ascending l
rising_ascending t k n [] r = tt
rising_ascending t k n (x ∷ xs) r = (
  all_map (AtOrAfter x.slot x.chunk (suc x.layer)) (RowBefore x) xs (after_before x) (rising_all x.slot x.chunk (suc x.layer) xs r.1),
  rising_ascending x.slot x.chunk (suc x.layer) xs r.1,
)

-- ---- a queue that rises gives rows that rise

-- The pieces rise from chunk k, layer n on.
abbrev QueueFrom : ℕ → ℕ → List QueuedPiece → Type 0
QueueFrom k n [] = Unit {0}
QueueFrom k n (p ∷ ps) = Upto k n p.chunk p.layer × QueueFrom p.chunk (suc p.layer) ps

queue_lower : (a b c d : ℕ) (q : List QueuedPiece) → Upto a b c d → QueueFrom c (suc d) q → QueueFrom a b q
queue_lower a b c d [] h f = tt
queue_lower a b c d (p ∷ ps) h f = (upto_trans a b c d p.chunk p.layer h f.0, f.1)

-- What a slot takes, and what it leaves.
record Rises (t k n : ℕ) (o : Out) : Type 0 where
  rows_rise : Rising t k n o.rows
  rest_rises : QueueFrom k n o.rest

slot_rises : (t c : ℕ) (q : List QueuedPiece) (k n : ℕ) → QueueFrom k n q → Rises t k n (take_slot t c q)
slot_rises t =
    by_slot
    t
    (λ c q o. (k n : ℕ) → QueueFrom k n q → Rises t k n o)
    (λ c k n f. record { rows_rise = tt; rest_rises = tt })
    (λ c p ps h k n f. record { rows_rise = tt; rest_rises = f })
    (λ c p ps o h l g k n f.
    let r = g p.chunk (suc p.layer) f.1 in
    record { rows_rise = (inr (refl, f.0), r.rows_rise); rest_rises = queue_lower k n p.chunk p.layer o.rest f.0 r.rest_rises })
    (λ c p ps h m l k n f. record { rows_rise = (inr (refl, f.0), tt); rest_rises = (f.0, f.1) })

rising_append :
    (t k n : ℕ) (a b : List Row) → Rising t k n a → All (λ x. x.slot ≡ t) a → Rising (suc t) 0 0 b → Rising t k n (a ++ b)
rising_append t k n [] [] f s g = tt
rising_append t k n [] (y ∷ ys) f s g = (inl (⊎_elim (λ u. omega arith) (λ u. omega arith) g.0), g.1)
rising_append t k n (x ∷ xs) b f s g =
    let e : x.slot ≡ t = s.0 in (
      f.0,
      subst (λ (y : ℕ). Rising y x.chunk (suc x.layer) (xs ++ b)) (sym e) (rising_append t x.chunk (suc x.layer) xs b (subst (λ (y : ℕ). Rising y x.chunk (suc x.layer) xs) e f.1) s.1 g),
    )

fill_rises : (B : ℕ → ℕ) (n t : ℕ) (q : List QueuedPiece) → QueueFrom 0 0 q → Rising (suc t) 0 0 (fill B n t q)
fill_rises B zero t q f = tt
fill_rises B (suc n) t q f =
    let o = take_slot (suc t) (B (suc t)) q in
    let r = slot_rises (suc t) (B (suc t)) q 0 0 f in
    rising_append (suc t) 0 0 o.rows (fill B n (suc t) o.rest) r.rows_rise (slot_in_slot (suc t) (B (suc t)) q) (fill_rises B n (suc t) o.rest r.rest_rises)

-- ---- the queue of a choice rises

pieces_rise :
    (size : ℕ → ℕ → ℕ) (k r m n : ℕ) (q : List QueuedPiece) → ((n : ℕ) → QueueFrom k n q) → QueueFrom k m (pieces size k r m n ++ q)
pieces_rise size k r m zero q f = f m
pieces_rise size k r m (suc n) q f = (inr (refl, omega arith), pieces_rise size k r (suc m) n q f)

queue_before : (a b m : ℕ) (q : List QueuedPiece) → a < b → QueueFrom b 0 q → QueueFrom a m q
queue_before a b m [] h f = tt
queue_before a b m (p ∷ ps) h f = (inl (⊎_elim (λ u. omega arith) (λ u. omega arith) f.0), f.1)

queue_rises :
    (size : ℕ → ℕ → ℕ) (choice : ℕ → ℕ) (ks rs : List ℕ) (lo c : ℕ) → Asc lo c ks → QueueFrom lo 0 (queue size choice ks rs)
queue_rises size choice [] rs lo c a = tt
queue_rises size choice (k ∷ ks) [] lo c a = tt
queue_rises size choice (k ∷ ks) (r ∷ rs) lo c a =
    let rest = queue_rises size choice ks rs (suc k) c a.2 in
    let q = pieces size k r 0 (choice k) ++ queue size choice ks rs in
    let f = pieces_rise size k r 0 (choice k) (queue size choice ks rs) (λ n. queue_before k (suc k) n (queue size choice ks rs) (omega arith) rest) in
    ⊎_elim
    (λ t. queue_before lo k 0 q (ltb→lt lo k t) f)
    (λ t. let e : k ≡ lo = omega (arith, nltb→le lo k t) in subst (λ (y : ℕ). QueueFrom y 0 q) e f)
    (test (ltb lo k))

-- "One row per slot, chunk and layer", and the rows stand by slot, chunk, layer.
pub own_ascending : (j : Job) (choice : ℕ → ℕ) → Ascending (own_list j choice)
unfolding fetch
own_ascending j choice =
    let ks = kept j choice in
    let rs = releases (due j) (held_most j) ks in
    let f = queue_before 0 1 0 (queue (size j) choice ks rs) (omega arith) (queue_rises (size j) choice ks rs 1 (chunks j) (kept_asc j choice)) in
    rw (own_list_is j choice) (rising_ascending 1 0 0 (fetch j choice ks) (fill_rises (forecast j) (last_slot j) 0 (queue (size j) choice ks rs) f))

-- ---- how many rows

-- A row that does not finish its piece is its slot's last, and no piece has two.
slot_count :
    (t c : ℕ) (q : List QueuedPiece) →
    (length (take_slot t c q).rows + length (take_slot t c q).rest ≤ suc (length q)) × (length (take_slot t c q).rows ≤ length q)
slot_count t =
    by_slot
    t
    (λ c q o. (length o.rows + length o.rest ≤ suc (length q)) × (length o.rows ≤ length q))
    (λ c. omega arith)
    (λ c p ps h. omega arith)
    (λ c p ps o h l e. omega arith)
    (λ c p ps h m l. omega arith)

-- At most pieces + slots - 1 rows.
fill_count : (B : ℕ → ℕ) (n t : ℕ) (q : List QueuedPiece) → length (fill B n t q) ≤ length q + (n - 1)
fill_count B zero t q = omega arith
fill_count B (suc zero) t q = omega (arith, length-append (take_slot (suc t) (B (suc t)) q).rows [], (slot_count (suc t) (B (suc t)) q).1)
fill_count B (suc (suc n)) t q =
    let o = take_slot (suc t) (B (suc t)) q in
    omega (
      arith,
      length-append o.rows (fill B (suc n) (suc t) o.rest),
      (slot_count (suc t) (B (suc t)) q).0,
      fill_count B (suc n) (suc t) o.rest,
    )

length_pieces : (size : ℕ → ℕ → ℕ) (k r m n : ℕ) → length (pieces size k r m n) ≡ n
length_pieces size k r m zero = refl
length_pieces size k r m (suc n) = omega (arith, length_pieces size k r (suc m) n)

length_queue :
    (size : ℕ → ℕ → ℕ) (choice : ℕ → ℕ) (b c : ℕ) (rs ks : List ℕ) (lo : ℕ) → 1 ≤ lo → Asc lo c ks →
    ((k : ℕ) → 1 ≤ k → k ≤ c → choice k ≤ b) → length (queue size choice ks rs) ≤ length ks * b
length_queue size choice b c rs [] lo h a f = omega arith
length_queue size choice b c [] (k ∷ ks) lo h a f = omega arith
length_queue size choice b c (r ∷ rs) (k ∷ ks) lo h a f =
    omega (
      arith,
      length-append (pieces size k r 0 (choice k)) (queue size choice ks rs),
      length_pieces size k r 0 (choice k),
      f k (omega arith) a.1,
      length_queue size choice b c rs ks (suc k) (omega arith) a.2 f,
    )

-- A row for each layer of each chunk, and one more for each slot but one.
own_list_count : (j : Job) (choice : ℕ → ℕ) → Choice j choice → length (own_list j choice) ≤ chunks j * layers j + (last_slot j - 1)
unfolding fetch
own_list_count j choice few =
    let ks = kept j choice in
    let rs = releases (due j) (held_most j) ks in
    let q = queue (size j) choice ks rs in
    rw
    (own_list_is j choice)
    (omega (
      arith,
      fill_count (forecast j) (last_slot j) 0 q,
      length_queue (size j) choice (layers j) (chunks j) rs ks 1 (omega arith) (kept_asc j choice) few,
      mul-le-mul_right (layers j) (length_picked_le (λ i. leb 1 (choice i)) 0 (chunks j)),
    ))

-- "It has at most 5,599 rows."
pub own_few_rows : (j : Job) → Accepted j → (choice : ℕ → ℕ) → Choice j choice → length (own_list j choice) ≤ 5599
own_few_rows j a choice few =
    omega (
      arith,
      own_list_count j choice few,
      mul-le-mul_right (layers j) a.chunks_in.high,
      a.layers_in.high,
      a.last_in,
    )
