-- Lemmas. What a slot takes, by an invariant: what holds before, and is kept by each row taken,
-- holds where the slot ends; and why it ends.
use Rattle.std.specs.Prelude.{ℕ, zero, suc, ◌+◌, ◌-◌, ◌≤◌, ◌<◌, max, ◌≡◌, refl, Bool, true, false, not, cond, ◌&&◌, List, [], ◌∷◌, ◌++◌, ◌⊎◌, T, leb, ltb}
use Rattle.std.proofs.Common.{inl, inr, ⊎_elim, arith, leb→le, ltb→lt, nltb→le}
use Rattle.std.proofs.Math.Dec.{nleb→lt}
use Rattle.theory_basics.specs.Tests.{All}
use Rattle.theory_basics.specs.lemmas.Tests.{and_T, by_cond, not_and}
use Rattle.job.specs.Job.{Job}
use Rattle.fetch.specs.Rows.{Row}
use Rattle.theory_plan.specs.Own.{allowed, Fetched, Piece, row_of, slot_takes, without}
use Rattle.theory_replan.specs.lemmas.Parts.{left_if, needs_of, Rising}

-- Of part p, before ps, b bytes are taken of the c that the slot has: all of it, or a part. c' and
-- the last list are what is left then.
pub data Taken (c : ℕ) (p : Piece) (ps : List Piece) : ℕ → ℕ → List Piece → Type 0 where
  all_of : {c' : ℕ} → p.bytes + c' ≡ c → Taken c p ps p.bytes c' ps
  part_of : 1 ≤ c → c < p.bytes → Taken c p ps c 0 (without p c ∷ ps)

-- The slot has ended: its forecast is spent, nothing is left, or rule 6 does not allow the next
-- byte.
abbrev pub Stop : Job → ℕ → ℕ → List Row → List Piece → Type 0
Stop j t c rows [] = Unit {0}
Stop j t c rows (p ∷ ps) = (c ≡ 0) ⊎ T (not (allowed j rows t p))

module _
    (j : Job) (t : ℕ) (P : ℕ → List Row → List Piece → Type 0)
    (step :
    (c : ℕ) (rows : List Row) (p : Piece) (ps : List Piece) (b c' : ℕ) (left : List Piece) → Taken c p ps b c' left →
    T (allowed j rows t p) → P c rows (p ∷ ps) → P c' (rows ++ (row_of t p b ∷ [])) left) where
  pub record Ends (f : Fetched) : Type 0 where
    pub over : ℕ
    pub holds : P over f.rows f.left
    pub why : Stop j t over f.rows f.left

  pub slot_ends : (c : ℕ) (rows : List Row) (left : List Piece) → P c rows left → Ends (slot_takes j t c rows left)
  slot_ends c rows [] h = record { over = c; holds = h; why = tt }
  slot_ends c rows (p ∷ ps) h =
      by_cond
      Ends
      (allowed j rows t p && ltb 0 c)
      (λ u.
      let v = and_T (allowed j rows t p) (ltb 0 c) u in
      by_cond
      Ends
      (leb p.bytes c)
      (λ w.
      let l = leb→le p.bytes c w in
      let k : Taken c p ps p.bytes (c - p.bytes) ps = all_of (omega arith) in
      slot_ends (c - p.bytes) (rows ++ (row_of t p p.bytes ∷ [])) ps (step c rows p ps p.bytes (c - p.bytes) ps k v.0 h))
      (λ w.
      let k : Taken c p ps c 0 (without p c ∷ ps) = part_of (ltb→lt 0 c v.1) (nleb→lt p.bytes c w) in
      record { over = 0; holds = step c rows p ps c 0 (without p c ∷ ps) k v.0 h; why = inl refl }))
      (λ u.
      record {
        over = c;
        holds = h;
        why = ⊎_elim (λ v. inr v) (λ v. inl (omega (arith, nltb→le 0 c v))) (not_and (allowed j rows t p) (ltb 0 c) u);
      })

-- ---- what a row taken leaves

module _ {c : ℕ} {p : Piece} {ps : List Piece} where
  pub taken_paid : {b c' : ℕ} {left : List Piece} → Taken c p ps b c' left → b + c' ≡ c
  taken_paid (all_of e) = e
  taken_paid (part_of m l) = omega arith

  pub taken_some : {b c' : ℕ} {left : List Piece} → Taken c p ps b c' left → 1 ≤ p.bytes → 1 ≤ b
  taken_some (all_of e) h = h
  taken_some (part_of m l) h = m

  pub taken_left :
      (P : ℕ → ℕ → Bool) {b c' : ℕ} {left : List Piece} → Taken c p ps b c' left →
      cond (P p.chunk p.layer) b 0 + left_if P left ≡ left_if P (p ∷ ps)
  taken_left P (all_of e) = refl
  taken_left P (part_of m l) = by (P p.chunk p.layer)
    where
      by : (t : Bool) → cond t c 0 + (cond t (p.bytes - c) 0 + left_if P ps) ≡ cond t p.bytes 0 + left_if P ps
      by true = omega arith
      by false = omega arith

  pub taken_needs : (d A : ℕ → ℕ) {b c' : ℕ} {left : List Piece} → Taken c p ps b c' left → b + needs_of d A left ≤ needs_of d A (p ∷ ps)
  taken_needs d A (all_of e) = omega arith
  taken_needs d A (part_of m l) = omega arith

  pub taken_rising : {b c' : ℕ} {left : List Piece} → Taken c p ps b c' left → Rising (p ∷ ps) → Rising left
  taken_rising (all_of e) r = r.1
  taken_rising (part_of m l) r = r

  -- What holds of all parts by their chunks and layers, and that they have bytes, holds of those
  -- left.
  pub taken_all :
      (Q : ℕ → ℕ → Type 0) {b c' : ℕ} {left : List Piece} → Taken c p ps b c' left →
      All (λ q. Q q.chunk q.layer × (1 ≤ q.bytes)) (p ∷ ps) → All (λ q. Q q.chunk q.layer × (1 ≤ q.bytes)) left
  taken_all Q (all_of e) a = a.1
  taken_all Q (part_of m l) a = ((a.0.0, omega arith), a.1)

  pub taken_keys :
      (Q : ℕ → ℕ → Type 0) {b c' : ℕ} {left : List Piece} → Taken c p ps b c' left →
      All (λ q. Q q.chunk q.layer) (p ∷ ps) → All (λ q. Q q.chunk q.layer) left
  taken_keys Q (all_of e) a = a.1
  taken_keys Q (part_of m l) a = (a.0, a.1)
