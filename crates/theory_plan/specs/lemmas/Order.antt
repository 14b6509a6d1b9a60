-- Lemmas. First in, first out: the fill of chunks that fit is in playing order. Section 3 of the
-- argument.
use Rattle.std.specs.Prelude.{ℕ, zero, suc, ◌+◌, ◌≤◌, ◌<◌, ◌≡◌, ◌&&◌, List, [], ◌∷◌, ◌++◌, ◌⊎◌, leb, eqb}
use Rattle.std.proofs.Common.{inl, inr, ⊎_elim, arith}
use Rattle.theory_basics.specs.Tests.{All, In, here, there}
use Rattle.theory_basics.specs.lemmas.Tests.{all_append, all_map, and_T, any_row_lem, at_row, in_append, tests}
use Rattle.fetch.specs.lemmas.Order.{begun_order}
use Rattle.job.specs.Job.{Job, chunks, due, forecast, held_most, last_slot, layers, size}
use Rattle.fetch.specs.Rows.{Row}
use Rattle.fetch.specs.Rules.{RowInRange, PlayingOrder}
use Rattle.theory_plan.specs.lemmas.Count.{some_row, sum_any}
use Rattle.theory_plan.specs.lemmas.Fill.{Out, QueuedPiece, by_slot, fill, fill_in_slots, slot_in_slot, take_slot}
use Rattle.theory_plan.specs.lemmas.Need.{Feas}
use Rattle.theory_plan.specs.lemmas.Queue.{pieces, queue, releases, weight}
use Rattle.theory_plan.specs.lemmas.Sufficiency.{fetch, sufficient}
use Rattle.theory_plan.specs.lemmas.Words.{Sized}
use Rattle.theory_plan.specs.Plan.{after}
use Rattle.theory_plan.specs.Bases.{Asc}

-- The pieces' chunks never fall, from chunk lo on.
abbrev Sorted : ℕ → List QueuedPiece → Type 0
Sorted lo [] = Unit {0}
Sorted lo (p ∷ ps) = (lo ≤ p.chunk) × Sorted p.chunk ps

sorted_lower : (lo hi : ℕ) (q : List QueuedPiece) → lo ≤ hi → Sorted hi q → Sorted lo q
sorted_lower lo hi [] h s = tt
sorted_lower lo hi (p ∷ ps) h s = (omega arith, s.1)

-- ---- what a slot takes stands before what it leaves

record Cut (lo : ℕ) (o : Out) : Type 0 where
  mid : ℕ
  low : lo ≤ mid
  taken : All (λ x. (lo ≤ x.chunk) × (x.chunk ≤ mid)) o.rows
  kept : Sorted mid o.rest

slot_cut : (t c : ℕ) (q : List QueuedPiece) (lo : ℕ) → Sorted lo q → Cut lo (take_slot t c q)
slot_cut t =
    by_slot
    t
    (λ c q o. (lo : ℕ) → Sorted lo q → Cut lo o)
    (λ c lo s. record { mid = lo; low = omega arith; taken = tt; kept = tt })
    (λ c p ps h lo s. record { mid = lo; low = omega arith; taken = tt; kept = s })
    (λ c p ps o h l f lo s.
    let r = f p.chunk s.1 in
    record {
      mid = r.mid;
      low = omega (arith, r.low);
      taken = ((s.0, r.low), all_map (λ x. (p.chunk ≤ x.chunk) × (x.chunk ≤ r.mid)) (λ x. (lo ≤ x.chunk) × (x.chunk ≤ r.mid)) o.rows (λ x u. omega arith) r.taken);
      kept = r.kept;
    })
    (λ c p ps h m l lo s. record { mid = p.chunk; low = s.0; taken = ((s.0, omega arith), tt); kept = (omega arith, s.1) })

-- ---- no row of a chunk comes in a later slot than a row of a chunk behind it

fill_from : (B : ℕ → ℕ) (n t lo : ℕ) (q : List QueuedPiece) → Sorted lo q → All (λ x. lo ≤ x.chunk) (fill B n t q)
fill_from B zero t lo q s = tt
fill_from B (suc n) t lo q s =
    let o = take_slot (suc t) (B (suc t)) q in
    let c = slot_cut (suc t) (B (suc t)) q lo s in
    all_append
    (λ x. lo ≤ x.chunk)
    o.rows
    (fill B n (suc t) o.rest)
    (all_map (λ x. (lo ≤ x.chunk) × (x.chunk ≤ c.mid)) (λ x. lo ≤ x.chunk) o.rows (λ x u. u.0) c.taken)
    (fill_from B n (suc t) lo o.rest (sorted_lower lo c.mid o.rest c.low c.kept))

fill_order :
    (B : ℕ → ℕ) (n t lo : ℕ) (q : List QueuedPiece) → Sorted lo q → (x y : Row) → In x (fill B n t q) → In y (fill B n t q) →
    y.chunk < x.chunk → y.slot ≤ x.slot
fill_order B zero t lo q s x y i j l = absurd (at_row (λ x. ⊥) i tt)
fill_order B (suc n) t lo q s x y i j l =
    let o = take_slot (suc t) (B (suc t)) q in
    let more = fill B n (suc t) o.rest in
    let c = slot_cut (suc t) (B (suc t)) q lo s in
    let now : (z : Row) → In z o.rows → z.slot ≡ suc t = λ z k. at_row (λ x. x.slot ≡ suc t) k (slot_in_slot (suc t) (B (suc t)) q) in
    let then : (z : Row) → In z more → suc t < z.slot = λ z k. (at_row (λ x. (suc t < x.slot) × (x.slot ≤ n + suc t)) k (fill_in_slots B n (suc t) o.rest)).0 in
    ⊎_elim
    (λ xi.
    ⊎_elim
    (λ yj. omega (arith, now x xi, now y yj))
    (λ yj. absurd (omega (arith, at_row (λ x. (lo ≤ x.chunk) × (x.chunk ≤ c.mid)) xi c.taken, at_row (λ x. c.mid ≤ x.chunk) yj (fill_from B n (suc t) c.mid o.rest c.kept))))
    (in_append o.rows more j))
    (λ xi.
    ⊎_elim
    (λ yj. omega (arith, now y yj, then x xi))
    (λ yj. fill_order B n (suc t) c.mid o.rest c.kept x y xi yj l)
    (in_append o.rows more j))
    (in_append o.rows more i)

-- ---- the queue of ascending chunks

sorted_pieces : (size : ℕ → ℕ → ℕ) (k r m n lo : ℕ) (q : List QueuedPiece) → lo ≤ k → Sorted k q → Sorted lo (pieces size k r m n ++ q)
sorted_pieces size k r m zero lo q h s = sorted_lower lo k q h s
sorted_pieces size k r m (suc n) lo q h s = (h, sorted_pieces size k r (suc m) n k q (omega arith) s)

sorted_queue : (size : ℕ → ℕ → ℕ) (lv : ℕ → ℕ) (ks rs : List ℕ) (lo c : ℕ) → Asc lo c ks → Sorted lo (queue size lv ks rs)
sorted_queue size lv [] rs lo c a = tt
sorted_queue size lv (k ∷ ks) [] lo c a = tt
sorted_queue size lv (k ∷ ks) (r ∷ rs) lo c a =
    let q = queue size lv ks rs in
    sorted_pieces size k r 0 (lv k) lo q a.0 (sorted_lower k (suc k) q (omega arith) (sorted_queue size lv ks rs (suc k) c a.2))

pub fetch_order :
    (j : Job) (sized : Sized j) (lv : ℕ → ℕ) (lim : (k : ℕ) → 1 ≤ k → k ≤ chunks j → lv k ≤ layers j) (ks : List ℕ) (asc : Asc 1 (chunks j) ks) (ok : Feas (λ k. weight (size j) k 0 (lv k)) (due j) (after j) (held_most j) ks) →
    PlayingOrder j (fetch j lv ks)
unfolding fetch
fetch_order j sized lv lim ks asc ok =
    begun_order j (fetch j lv ks) (λ x i e g h t.
    let rs = releases (due j) (held_most j) ks in
    let range = at_row (RowInRange j) i (sufficient j sized lv lim ks asc ok).in_range_lem in
    let some : 1 ≤ size j e 0 = sized e 0 (record { chunk_low = g; chunk_high = omega (arith, range.chunk_high); layer_in = omega (arith, range.layer_in) }) in
    let y = some_row (λ z. eqb z.chunk e) (fetch j lv ks) (sum_any (λ z. eqb z.chunk e && eqb z.layer 0) (λ z. eqb z.chunk e) (λ z u. (and_T (eqb z.chunk e) (eqb z.layer 0) u).0) (fetch j lv ks) (omega arith)) in
    let c : y.0.chunk ≡ e = simp tests at y.2 in
    let o = fill_order (forecast j) (last_slot j) 0 1 (queue (size j) lv ks rs) (sorted_queue (size j) lv ks rs 1 (chunks j) asc) x y.0 i y.1 (omega arith) in
    any_row_lem (λ z. eqb z.chunk e && leb z.slot x.slot) y.1 (simp tests (c, o)))
