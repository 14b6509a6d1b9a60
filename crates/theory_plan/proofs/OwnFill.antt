-- Lemmas. The own list, which asks rule 6 itself, is the fill by releases (`own_list_is`). First
-- in, first out, so when a piece comes up the chunks begun are those of the pieces before it.
-- Section 3 of the argument.
use Rattle.std.specs.Prelude.{ℕ, zero, suc, ◌+◌, ◌-◌, ◌≤◌, ◌≡◌, refl, Bool, true, false, not, cond, ◌&&◌, ◌||◌, List, [], ◌∷◌, ◌++◌, length, T, leb, ltb, eqb}
use Rattle.std.proofs.Common.{sym, ap, ◌∙◌, subst, append_assoc, append-nil, arith, le-leb, leb→le}
use Rattle.std.proofs.Math.Path.{fun_ext}
use Rattle.std.proofs.Math.Bool.{and-true}
use Rattle.std.proofs.Math.Dec.{nleb→lt}
use Rattle.theory_plan.specs.lemmas.Words.{carries}
use Rattle.theory_basics.specs.Sums.{count}
use Rattle.theory_basics.specs.Tests.{All, any}
use Rattle.theory_basics.specs.lemmas.Tests.{all_append, all_map, by_cond, by_cond_both}
use Rattle.theory_basics.specs.Lists.{up_to}
use Rattle.fetch.specs.Rows.{Row, begun}
use Rattle.job.specs.Job.{Job, chunks, due, forecast, held_most, last_slot, size}
use Rattle.theory_plan.specs.Plan.{kept, picked}
use Rattle.theory_plan.specs.lemmas.Choice.{kept_asc}
use Rattle.theory_plan.specs.lemmas.Fill.{Out, QueuedPiece, fill, rest_after, slot_in_slot, take_slot}
use Rattle.theory_plan.specs.lemmas.Kept.{picked_each}
use Rattle.theory_plan.specs.Own.{Fetched, Piece, allowed, carried_to, fetched_by, own_list, row_of, slot_takes, whole_layer}
use Rattle.theory_plan.specs.lemmas.Release.{Fair, ReleasedAt, fair_queue, with, with_twice}
use Rattle.theory_plan.specs.lemmas.Queue.{pieces, queue, releases, releases_enough}
use Rattle.theory_plan.specs.lemmas.Sufficiency.{fetch}

-- ---- which chunks have begun

begun_by_slot : (t : ℕ) (rows : List Row) → All (λ x. x.slot ≤ t) rows → begun rows t ≡ carries rows
begun_by_slot t rows a = fun_ext (λ i. at i rows a)
  where
    at : (i : ℕ) (rows : List Row) → All (λ x. x.slot ≤ t) rows → begun rows t i ≡ carries rows i
    at i [] a = refl
    at i (x ∷ xs) a = rw (le-leb x.slot t a.0, at i xs a.1, and-true (eqb x.chunk i))

carries_last : (rows : List Row) (x : Row) → carries (rows ++ (x ∷ [])) ≡ with x.chunk (carries rows)
carries_last rows x = fun_ext (λ i. at i rows)
  where
    at : (i : ℕ) (rows : List Row) → carries (rows ++ (x ∷ [])) i ≡ with x.chunk (carries rows) i
    at i [] = refl
    at i (y ∷ ys) = rw (at i ys) (swap (eqb y.chunk i) (eqb x.chunk i) (carries ys i))
      where
        swap : (a b c : Bool) → (a || (b || c)) ≡ (b || (a || c))
        swap true true c = refl
        swap true false c = refl
        swap false b c = refl

-- ---- a slot takes what the fill takes

-- A piece without its release.
abbrev piece_of : QueuedPiece → Piece
piece_of p = record { chunk = p.chunk; layer = p.layer; bytes = p.left }

abbrev parts : List QueuedPiece → List Piece
parts [] = []
parts (p ∷ ps) = piece_of p ∷ parts ps

allowed_from_release :
    (j : Job) (rows : List Row) (t : ℕ) (p : QueuedPiece) → 1 ≤ t → All (λ x. x.slot ≤ t) rows →
    ReleasedAt j (with p.chunk (carries rows)) p.ready → allowed j rows t (piece_of p) ≡ leb p.ready t
allowed_from_release j rows t p u a r =
    let x = row_of t (piece_of p) 1 in
    let e = begun_by_slot t (rows ++ (x ∷ [])) (all_append (λ y. y.slot ≤ t) rows (x ∷ []) a (omega arith, tt)) ∙ carries_last rows x in
    ap (λ (b : ℕ → Bool). leb (count (λ i. b i && ltb t (due j i)) (chunks j)) (held_most j)) e ∙ r t u

-- What is fetched with the rows made before, against what the fill takes.
record Matches (j : Job) (rows : List Row) (f : Fetched) (o : Out) : Type 0 where
  rows_are : f.rows ≡ rows ++ o.rows
  left_is : f.left ≡ parts o.rest
  fair : Fair j (carries (rows ++ o.rows)) o.rest

slot_matches :
    (j : Job) (t c : ℕ) (rows : List Row) (q : List QueuedPiece) → 1 ≤ t → All (λ x. x.slot ≤ t) rows → Fair j (carries rows) q →
    Matches j rows (slot_takes j t c rows (parts q)) (take_slot t c q)
slot_matches j t c rows [] u a f = record { rows_are = sym (append-nil rows); left_is = refl; fair = tt }
slot_matches j t c rows (p ∷ ps) u a f =
    let x : ℕ → Row = λ b. row_of t (piece_of p) b in
    let begin : (b : ℕ) → with p.chunk (carries rows) ≡ carries (rows ++ (x b ∷ [])) = λ b. sym (carries_last rows (x b)) in
    let fair : (b : ℕ) → Fair j (carries (rows ++ (x b ∷ []))) ps = λ b. subst (λ (s : ℕ → Bool). Fair j s ps) (begin b) f.1 in
    let more = slot_matches j t (c - p.left) (rows ++ (x p.left ∷ [])) ps u (all_append (λ y. y.slot ≤ t) rows (x p.left ∷ []) a (omega arith, tt)) (fair p.left) in
    rw
    (allowed_from_release j rows t p u a f.0)
    (by_cond_both
    (Matches j rows)
    (leb p.ready t && ltb 0 c)
    (λ v.
    by_cond_both
    (Matches j rows)
    (leb p.left c)
    (λ w. record { rows_are = more.rows_are ∙ append_assoc rows (x p.left ∷ []) (take_slot t (c - p.left) ps).rows; left_is = more.left_is; fair = rw append_assoc at more.fair })
    (λ w. record { rows_are = refl; left_is = refl; fair = subst (λ (s : ℕ → Bool). ReleasedAt j s p.ready × Fair j s ps) (sym (with_twice p.chunk (carries rows)) ∙ ap (with p.chunk) (begin c)) (f.0, f.1) }))
    (λ v. record { rows_are = sym (append-nil rows); left_is = refl; fair = subst (λ (l : List Row). Fair j (carries l) (p ∷ ps)) (sym (append-nil rows)) f }))

-- ---- all slots take what the fill takes

-- The fill's last slot.
fill_last :
    (B : ℕ → ℕ) (n t s : ℕ) (q : List QueuedPiece) → s ≡ n + t →
    (fill B (suc n) t q ≡ fill B n t q ++ (take_slot (suc s) (B (suc s)) (rest_after B n t q)).rows) × (rest_after B (suc n) t q ≡ (take_slot (suc s) (B (suc s)) (rest_after B n t q)).rest)
fill_last B zero t s q h = let e : s ≡ t = omega arith in rw e (append-nil (take_slot (suc t) (B (suc t)) q).rows, refl)
fill_last B (suc n) t s q h =
    let o = take_slot (suc t) (B (suc t)) q in
    let r = fill_last B n (suc t) s o.rest (omega arith) in (
      ap (λ (l : List Row). o.rows ++ l) r.0 ∙ sym (append_assoc o.rows (fill B n (suc t) o.rest) (take_slot (suc s) (B (suc s)) (rest_after B n (suc t) o.rest)).rows),
      r.1,
    )

-- What n slots fetch.
abbrev filled : Job → List QueuedPiece → ℕ → Out
filled j q n = record { rows = fill (forecast j) n 0 q; rest = rest_after (forecast j) n 0 q }

slots_match :
    (j : Job) (lv : ℕ → ℕ) (q : List QueuedPiece) → carried_to j lv (chunks j) ≡ parts q → Fair j (λ i. false) q → (n : ℕ) →
    All (λ x. x.slot ≤ n) (filled j q n).rows × Matches j [] (fetched_by j lv n) (filled j q n)
slots_match j lv q e f zero = (tt, record { rows_are = refl; left_is = e; fair = f })
slots_match j lv q e f (suc n) =
    let r = slots_match j lv q e f n in
    let o = filled j q n in
    let x = take_slot (suc n) (forecast j (suc n)) o.rest in
    let by = all_map (λ x. x.slot ≤ n) (λ x. x.slot ≤ suc n) o.rows (λ x h. omega arith) r.0 in
    let s = slot_matches j (suc n) (forecast j (suc n)) o.rows o.rest (omega arith) by r.1.fair in
    let l = fill_last (forecast j) n 0 n q (omega arith) in (
      rw l.0 (all_append (λ x. x.slot ≤ suc n) o.rows x.rows by (all_map (λ x. x.slot ≡ suc n) (λ x. x.slot ≤ suc n) x.rows (λ y e. omega arith) (slot_in_slot (suc n) (forecast j (suc n)) o.rest))),
      record {
        rows_are = rw (r.1.rows_are, r.1.left_is, l.0) s.rows_are;
        left_is = rw (r.1.rows_are, r.1.left_is, l.1) s.left_is;
        fair = rw (l.0, l.1) s.fair;
      },
    )

-- ---- the carried bytes are the queue

parts_append : (a b : List QueuedPiece) → parts (a ++ b) ≡ parts a ++ parts b
parts_append [] b = refl
parts_append (p ∷ ps) b = ap (λ (l : List Piece). piece_of p ∷ l) (parts_append ps b)

parts_pieces : (j : Job) (k r m n : ℕ) → up_to (whole_layer j k) m ++ parts (pieces (size j) k r m n) ≡ up_to (whole_layer j k) (n + m)
parts_pieces j k r m zero = let e : 0 + m ≡ m = omega arith in rw e (append-nil (up_to (whole_layer j k) m))
parts_pieces j k r m (suc n) =
    let e : suc n + m ≡ n + suc m = omega arith in
    rw e (sym (append_assoc (up_to (whole_layer j k) m) (whole_layer j k m ∷ []) (parts (pieces (size j) k r (suc m) n))) ∙ parts_pieces j k r (suc m) n)

-- The kept chunks among lo + 1 .. lo + n.
abbrev kept_from : (ℕ → ℕ) → ℕ → ℕ → List ℕ
kept_from lv lo n = picked (λ i. leb 1 (lv i)) lo n

-- The carried bytes of n more chunks are the queue of those that are kept, whatever their releases.
abbrev MoreCarried : Job → (ℕ → ℕ) → ℕ → ℕ → List ℕ → List ℕ → Type 0
MoreCarried j lv lo n ks rs = length ks ≤ length rs → carried_to j lv (n + lo) ≡ carried_to j lv lo ++ parts (queue (size j) lv ks rs)

carried_more : (j : Job) (lv : ℕ → ℕ) (lo n : ℕ) (rs : List ℕ) → MoreCarried j lv lo n (kept_from lv lo n) rs
carried_more j lv lo zero rs = λ h. let e : 0 + lo ≡ lo = omega arith in rw e (sym (append-nil (carried_to j lv lo)))
carried_more j lv lo (suc n) rs =
    let e : suc n + lo ≡ n + suc lo = omega arith in
    rw e
    (by_cond
    (λ (ks : List ℕ). length ks ≤ length rs → carried_to j lv (n + suc lo) ≡ carried_to j lv lo ++ parts (queue (size j) lv ks rs))
    (leb 1 (lv (suc lo)))
    {x = suc lo ∷ kept_from lv (suc lo) n}
    {y = kept_from lv (suc lo) n}
    (λ t. one_kept rs (carried_more j lv (suc lo) n))
    (λ t l.
    let z : lv (suc lo) ≡ 0 = omega (arith, nleb→lt 1 (lv (suc lo)) t) in
    carried_more j lv (suc lo) n rs l ∙ rw (z, append-nil (carried_to j lv lo))))
  where
    one_kept :
        (rs : List ℕ) → ((rs : List ℕ) → MoreCarried j lv (suc lo) n (kept_from lv (suc lo) n) rs) →
        length (suc lo ∷ kept_from lv (suc lo) n) ≤ length rs →
        carried_to j lv (n + suc lo) ≡ carried_to j lv lo ++ parts (queue (size j) lv (suc lo ∷ kept_from lv (suc lo) n) rs)
    one_kept [] f h = absurd (omega arith)
    one_kept (r ∷ rs) f h =
        let q = queue (size j) lv (kept_from lv (suc lo) n) rs in
        let e : lv (suc lo) + 0 ≡ lv (suc lo) = omega arith in
        let p = rw e at (parts_pieces j (suc lo) r 0 (lv (suc lo))) in
        f rs (omega arith)
        ∙ append_assoc (carried_to j lv lo) (up_to (whole_layer j (suc lo)) (lv (suc lo))) (parts q)
        ∙ rw (parts_append (pieces (size j) (suc lo) r 0 (lv (suc lo))) q, p)

carried_queue :
    (j : Job) (lv : ℕ → ℕ) →
    carried_to j lv (chunks j) ≡ parts (queue (size j) lv (kept j lv) (releases (due j) (held_most j) (kept j lv)))
carried_queue j lv =
    let e : chunks j + 0 ≡ chunks j = omega arith in
    rw e at (carried_more j lv 0 (chunks j) (releases (due j) (held_most j) (kept j lv)) (releases_enough (due j) (held_most j) (kept j lv)))

-- ---- the theorem

-- The list that asks rule 6 at each byte is the fill by releases, for every job and every choice,
-- whether it fits or not.
pub own_list_is : (j : Job) (lv : ℕ → ℕ) → own_list j lv ≡ fetch j lv (kept j lv)
unfolding own_list fetch
own_list_is j lv =
    let q = queue (size j) lv (kept j lv) (releases (due j) (held_most j) (kept j lv)) in
    let f = fair_queue j lv (kept j lv) (kept_asc j lv) (picked_each (λ i. leb 1 (lv i)) (λ k. 1 ≤ lv k) 0 (chunks j) (λ i u v t. leb→le 1 (lv i) t)) in
    (slots_match j lv q (carried_queue j lv) f (last_slot j)).1.rows_are
