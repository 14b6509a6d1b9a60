-- Lemmas. The fill: a queue of pieces and what each slot takes of it, from any slot on. What holds
-- of a slot by cases; nothing is lost, no slot is above its forecast, no row comes before its
-- piece's release; the invariant on need, and that rows are on time. Section 3 of the argument.
use Rattle.std.specs.Prelude.{ℕ, zero, suc, ◌+◌, ◌-◌, ◌≤◌, ◌<◌, max, ◌≡◌, refl, Bool, true, false, cond, ◌&&◌, List, [], ◌∷◌, ◌++◌, ◌⊎◌, T, leb, ltb, eqb}
use Rattle.std.proofs.Common.{ap, inl, inr, ⊎_elim, arith, leb→le, ltb→lt, nltb→le, eqb→eq, T_not}
use Rattle.std.proofs.Math.Dec.{nleb→lt}
use Rattle.theory_basics.specs.Tests.{All}
use Rattle.theory_basics.specs.lemmas.Tests.{all_append, all_map, at_row, by_cond, each_row, not_and, test, tests}
use Rattle.fetch.specs.Rows.{Row, bytes_if, bytes_in_slot}
use Rattle.fetch.specs.lemmas.Rows.{bytes_append, bytes_none}

-- ---- the fill

-- Bytes left of one layer of one chunk, and the first slot that may take them, its release.
pub record QueuedPiece : Type 0 where
  pub chunk : ℕ
  pub layer : ℕ
  pub left : ℕ
  pub ready : ℕ

-- What a slot takes of a queue, and what it leaves.
pub record Out : Type 0 where
  pub rows : List Row
  pub rest : List QueuedPiece

-- b bytes of piece p in slot t; what they leave of p; all that is left of p, before what the slot
-- takes next.
abbrev pub row : ℕ → QueuedPiece → ℕ → Row
row t p b = record { slot = t; chunk = p.chunk; layer = p.layer; bytes = b }

abbrev pub less : QueuedPiece → ℕ → QueuedPiece
less p b = record { chunk = p.chunk; layer = p.layer; left = p.left - b; ready = p.ready }

abbrev pub after_row : ℕ → QueuedPiece → Out → Out
after_row t p o = record { rows = row t p p.left ∷ o.rows; rest = o.rest }

-- What slot t takes, with c bytes left in it.
abbrev pub take_slot : ℕ → ℕ → List QueuedPiece → Out
take_slot t c [] = record { rows = []; rest = [] }
take_slot t c (p ∷ ps) =
    cond
    (leb p.ready t && ltb 0 c)
    (cond
    (leb p.left c)
    (after_row t p (take_slot t (c - p.left) ps))
    (record { rows = row t p c ∷ []; rest = less p c ∷ ps }))
    (record { rows = []; rest = p ∷ ps })

-- What n slots take, from slot t + 1 on, and what they leave.
abbrev pub fill : (ℕ → ℕ) → ℕ → ℕ → List QueuedPiece → List Row
fill B zero t q = []
fill B (suc n) t q = let o = take_slot (suc t) (B (suc t)) q in o.rows ++ fill B n (suc t) o.rest

abbrev pub rest_after : (ℕ → ℕ) → ℕ → ℕ → List QueuedPiece → List QueuedPiece
rest_after B zero t q = q
rest_after B (suc n) t q = rest_after B n (suc t) (take_slot (suc t) (B (suc t)) q).rest

-- What holds of a slot, by cases: the queue is empty; the slot is shut to the first piece; it takes
-- that piece whole and goes on; it takes a part of it and is spent.
pub by_slot :
    (t : ℕ) (P : ℕ → List QueuedPiece → Out → Type 0) →
    ((c : ℕ) → P c [] (record { rows = []; rest = [] })) →
    ((c : ℕ) (p : QueuedPiece) (ps : List QueuedPiece) → (t < p.ready) ⊎ (c ≡ 0) → P c (p ∷ ps) (record { rows = []; rest = p ∷ ps })) →
    ((c :
    ℕ) (p : QueuedPiece) (ps : List QueuedPiece) (o : Out) → p.ready ≤ t → p.left ≤ c → P (c - p.left) ps o → P c (p ∷ ps) (after_row t p o)) →
    ((c :
    ℕ) (p : QueuedPiece) (ps : List QueuedPiece) → p.ready ≤ t → 1 ≤ c → c < p.left → P c (p ∷ ps) (record { rows = row t p c ∷ []; rest = less p c ∷ ps })) →
    (c : ℕ) (q : List QueuedPiece) → P c q (take_slot t c q)
by_slot t P none shut whole part c [] = none c
by_slot t P none shut whole part c (p ∷ ps) =
    by_cond
    (P c (p ∷ ps))
    (leb p.ready t && ltb 0 c)
    (λ u.
    let v = simp tests at u in
    by_cond
    (P c (p ∷ ps))
    (leb p.left c)
    (λ w. whole c p ps (take_slot t (c - p.left) ps) v.0 (leb→le p.left c w) (by_slot t P none shut whole part (c - p.left) ps))
    (λ w. part c p ps v.0 v.1 (nleb→lt p.left c w)))
    (λ u.
    shut c p ps
    (⊎_elim (λ v. inl (nleb→lt p.ready t v)) (λ v. inr (omega (arith, nltb→le 0 c v))) (not_and (leb p.ready t) (ltb 0 c) u)))

-- ---- nothing is lost

-- The bytes queued of the layers that pass.
abbrev pub left_of : (ℕ → ℕ → Bool) → List QueuedPiece → ℕ
left_of P [] = 0
left_of P (p ∷ ps) = cond (P p.chunk p.layer) p.left 0 + left_of P ps

-- The rows of the layers that pass.
abbrev pub on : (ℕ → ℕ → Bool) → Row → Bool
on P x = P x.chunk x.layer

split_left : (b : Bool) (x c : ℕ) → c ≤ x → cond b c 0 + cond b (x - c) 0 ≡ cond b x 0
split_left true x c h = omega arith
split_left false x c h = omega arith

slot_loses_nothing :
    (P : ℕ → ℕ → Bool) (t c : ℕ) (q : List QueuedPiece) →
    bytes_if (on P) (take_slot t c q).rows + left_of P (take_slot t c q).rest ≡ left_of P q
slot_loses_nothing P t =
    by_slot
    t
    (λ c q o. bytes_if (on P) o.rows + left_of P o.rest ≡ left_of P q)
    (λ c. omega arith)
    (λ c p ps h. omega arith)
    (λ c p ps o h l e. omega arith)
    (λ c p ps h m l. omega (arith, split_left (P p.chunk p.layer) p.left c (omega arith)))

pub fill_loses_nothing :
    (P : ℕ → ℕ → Bool) (B : ℕ → ℕ) (n t : ℕ) (q : List QueuedPiece) →
    bytes_if (on P) (fill B n t q) + left_of P (rest_after B n t q) ≡ left_of P q
fill_loses_nothing P B zero t q = omega arith
fill_loses_nothing P B (suc n) t q =
    let o = take_slot (suc t) (B (suc t)) q in
    omega (arith, slot_loses_nothing P (suc t) (B (suc t)) q, fill_loses_nothing P B n (suc t) o.rest, bytes_append (on P) o.rows (fill B n (suc t) o.rest))

-- ---- the slots of the rows, and that none is above its forecast

pub slot_in_slot : (t c : ℕ) (q : List QueuedPiece) → All (λ x. x.slot ≡ t) (take_slot t c q).rows
slot_in_slot t =
    by_slot t (λ c q o. All (λ x. x.slot ≡ t) o.rows) (λ c. tt) (λ c p ps h. tt) (λ c p ps o h l a. (refl, a)) (λ c p ps h m l. (refl, tt))

pub fill_in_slots : (B : ℕ → ℕ) (n t : ℕ) (q : List QueuedPiece) → All (λ x. (t < x.slot) × (x.slot ≤ n + t)) (fill B n t q)
fill_in_slots B zero t q = tt
fill_in_slots B (suc n) t q =
    let o = take_slot (suc t) (B (suc t)) q in
    all_append
    (λ x. (t < x.slot) × (x.slot ≤ suc n + t))
    o.rows
    (fill B n (suc t) o.rest)
    (all_map (λ x. x.slot ≡ suc t) (λ x. (t < x.slot) × (x.slot ≤ suc n + t)) o.rows (λ x e. omega arith) (slot_in_slot (suc t) (B (suc t)) q))
    (all_map (λ x. (suc t < x.slot) × (x.slot ≤ n + suc t)) (λ x. (t < x.slot) × (x.slot ≤ suc n + t)) (fill B n (suc t) o.rest) (λ x h. omega arith) (fill_in_slots B n (suc t) o.rest))

slot_within : (t c : ℕ) (q : List QueuedPiece) → bytes_if (λ x. true) (take_slot t c q).rows ≤ c
slot_within t =
    by_slot
    t
    (λ c q o. bytes_if (λ x. true) o.rows ≤ c)
    (λ c. omega arith)
    (λ c p ps h. omega arith)
    (λ c p ps o h l e. omega arith)
    (λ c p ps h m l. omega arith)

bytes_all : (p : Row → Bool) (l : List Row) → bytes_if p l ≤ bytes_if (λ x. true) l
bytes_all p [] = omega arith
bytes_all p (x ∷ xs) = omega (arith, bytes_all p xs, by_cond (λ n. n ≤ x.bytes) (p x) {x = x.bytes} {y = 0} (λ t. omega arith) (λ t. omega arith))

pub fill_within : (B : ℕ → ℕ) (n t : ℕ) (q : List QueuedPiece) (s : ℕ) → bytes_in_slot (fill B n t q) s ≤ B s
fill_within B zero t q s = omega arith
fill_within B (suc n) t q s =
    let o = take_slot (suc t) (B (suc t)) q in
    let more = fill B n (suc t) o.rest in
    let here : Row → Bool = λ x. eqb x.slot s in
    let sum = bytes_append here o.rows more in
    ⊎_elim
    (λ u.
    let e : suc t ≡ s = eqb→eq (suc t) s u in
    let none = bytes_none here more (λ x i v. omega (arith, at_row (λ x. (suc t < x.slot) × (x.slot ≤ n + suc t)) i (fill_in_slots B n (suc t) o.rest), eqb→eq x.slot s v)) in
    omega (arith, sum, none, bytes_all here o.rows, slot_within (suc t) (B (suc t)) q, ap B e))
    (λ u.
    let none = bytes_none here o.rows (λ x i v. T_not (eqb (suc t) s) u (rw (at_row (λ x. x.slot ≡ suc t) i (slot_in_slot (suc t) (B (suc t)) q)) at v)) in
    omega (arith, sum, none, fill_within B n (suc t) o.rest s))
    (test (eqb (suc t) s))

-- ---- what holds of the pieces holds of the rows

-- A piece with bytes left, of which Q holds: of its chunk, its layer and its release.
abbrev pub Still : (ℕ → ℕ → ℕ → Type 0) → QueuedPiece → Type 0
Still Q p = (1 ≤ p.left) × Q p.chunk p.layer p.ready

-- A row with bytes, no earlier than the release of a piece of which Q holds.
pub record Sent (Q : ℕ → ℕ → ℕ → Type 0) (x : Row) : Type 0 where
  pub some : 1 ≤ x.bytes
  pub ready : ℕ
  pub ready_by : ready ≤ x.slot
  pub from : Q x.chunk x.layer ready

pub slot_sent :
    (Q : ℕ → ℕ → ℕ → Type 0) (t c : ℕ) (q : List QueuedPiece) → All (Still Q) q →
    All (Sent Q) (take_slot t c q).rows × All (Still Q) (take_slot t c q).rest
slot_sent Q t =
    by_slot
    t
    (λ c q o. All (Still Q) q → All (Sent Q) o.rows × All (Still Q) o.rest)
    (λ c a. (tt, tt))
    (λ c p ps h a. (tt, a))
    (λ c p ps o h l f a. let r = f a.1 in ((record { some = a.0.0; ready = p.ready; ready_by = h; from = a.0.1 }, r.0), r.1))
    (λ c p ps h m l a. ((record { some = m; ready = p.ready; ready_by = h; from = a.0.1 }, tt), ((omega arith, a.0.1), a.1)))

pub fill_sent : (Q : ℕ → ℕ → ℕ → Type 0) (B : ℕ → ℕ) (n t : ℕ) (q : List QueuedPiece) → All (Still Q) q → All (Sent Q) (fill B n t q)
fill_sent Q B zero t q a = tt
fill_sent Q B (suc n) t q a =
    let o = take_slot (suc t) (B (suc t)) q in
    let r = slot_sent Q (suc t) (B (suc t)) q a in
    all_append (Sent Q) o.rows (fill B n (suc t) o.rest) r.0 (fill_sent Q B n (suc t) o.rest r.1)

-- ---- the queue's need; d is the due slot of a chunk, A t what is forecast after slot t

abbrev pub needs : (d A : ℕ → ℕ) → List QueuedPiece → ℕ
needs d A [] = 0
needs d A (p ∷ ps) = p.left + max (A (d p.chunk)) (needs d A ps)

-- Each piece has bytes, and with what follows it fits behind its release.
abbrev pub Ready : (d A : ℕ → ℕ) → List QueuedPiece → Type 0
Ready d A [] = Unit {0}
Ready d A (p ∷ ps) = (needs d A (p ∷ ps) ≤ A (p.ready - 1)) × (1 ≤ p.left) × Ready d A ps

module _ (d A : ℕ → ℕ) (A-anti : (x y : ℕ) → x ≤ y → A y ≤ A x) where
  -- The invariant: the slot used up, the need fell by its bytes; blocked at a piece not released,
  -- that piece's own bound holds.
  pub slot_keeps_need :
      (t c : ℕ) (q : List QueuedPiece) → Ready d A q → needs d A q ≤ c + A t →
      (needs d A (take_slot t c q).rest ≤ A t) × Ready d A (take_slot t c q).rest
  slot_keeps_need t =
      by_slot
      t
      (λ c q o. Ready d A q → needs d A q ≤ c + A t → (needs d A o.rest ≤ A t) × Ready d A o.rest)
      (λ c r h. (omega arith, tt))
      (λ c p ps s r h. (⊎_elim (λ u. omega (arith, A-anti t (p.ready - 1) (omega arith))) (λ u. omega arith) s, r))
      (λ c p ps o u l f r h. f r.2 (omega arith))
      (λ c p ps u m l r h. (omega arith, (omega arith, omega arith, r.2)))

  -- No piece that is left is due yet.
  left_due_later : (t : ℕ) (q : List QueuedPiece) → Ready d A q → needs d A q ≤ A t → All (Still (λ k n r. t < d k)) q
  left_due_later t [] r h = tt
  left_due_later t (p ∷ ps) r h = (
    (
      r.1,
      ⊎_elim
          (λ u. ltb→lt t (d p.chunk) u)
          (λ u. absurd (omega (arith, r.1, A-anti (d p.chunk) t (nltb→le t (d p.chunk) u))))
          (test (ltb t (d p.chunk))),
    ),
    left_due_later t ps r.2 (omega arith),
  )

  no_need_no_pieces : (q : List QueuedPiece) → Ready d A q → needs d A q ≤ 0 → q ≡ []
  no_need_no_pieces [] r h = refl
  no_need_no_pieces (p ∷ ps) r h = absurd (omega arith)

  module _ (B : ℕ → ℕ) (D : ℕ) (step : (t : ℕ) → t < D → A t ≤ B (suc t) + A (suc t)) where
    fill_keeps_need :
        (n t : ℕ) (q : List QueuedPiece) → n + t ≤ D → Ready d A q → needs d A q ≤ A t →
        (needs d A (rest_after B n t q) ≤ A (n + t)) × Ready d A (rest_after B n t q)
    fill_keeps_need zero t q h r m = let e : 0 + t ≡ t = omega arith in rw e (m, r)
    fill_keeps_need (suc n) t q h r m =
        let s = slot_keeps_need (suc t) (B (suc t)) q r (omega (arith, step t (omega arith))) in
        let e : suc n + t ≡ n + suc t = omega arith in
        rw e (fill_keeps_need n (suc t) (take_slot (suc t) (B (suc t)) q).rest (omega arith) s.1 s.0)

    pub fill_on_time :
        (n t : ℕ) (q : List QueuedPiece) → n + t ≤ D → Ready d A q → needs d A q ≤ A t → All (λ x. x.slot ≤ d x.chunk) (fill B n t q)
    fill_on_time zero t q h r m = tt
    fill_on_time (suc n) t q h r m =
        let o = take_slot (suc t) (B (suc t)) q in
        let s = slot_keeps_need (suc t) (B (suc t)) q r (omega (arith, step t (omega arith))) in
        let now = (slot_sent (λ k n r. t < d k) (suc t) (B (suc t)) q (left_due_later t q r m)).0 in
        all_append
        (λ x. x.slot ≤ d x.chunk)
        o.rows
        (fill B n (suc t) o.rest)
        (each_row (λ x. x.slot ≤ d x.chunk) o.rows (λ x i. omega (arith, at_row (λ x. x.slot ≡ suc t) i (slot_in_slot (suc t) (B (suc t)) q), (at_row (Sent (λ k n r. t < d k)) i now).from)))
        (fill_on_time n (suc t) o.rest (omega arith) s.1 s.0)

    -- At the last slot nothing is left.
    pub fill_done : (q : List QueuedPiece) → A D ≡ 0 → Ready d A q → needs d A q ≤ A 0 → rest_after B D 0 q ≡ []
    fill_done q z r m =
        let e : D + 0 ≡ D = omega arith in
        let k = rw e at (fill_keeps_need D 0 q (omega arith) r m) in
        no_need_no_pieces (rest_after B D 0 q) k.1 (omega arith)
