-- The rule over tables is the rule of theory_live, Statement, for every job and rows with these
-- tables. Assumes nothing.
use Prim.Native.Nat.{ℕ, zero, suc, ◌+◌, ◌/◌, ◌≤◌, ◌<◌}
use mathlib.Core.Path.{◌≡◌, refl, sym, ◌∙◌, ap, ap₂, subst}
use mathlib.Core.Bool.{Bool, false, not, ◌&&◌, ◌||◌}
use mathlib.Core.List.{List, ◌++◌}
use mathlib.Core.Logic.{⊎_elim}
use native.Mathlib.Omega.{arith}
use lib.Dec.{T, T_not, eqb, leb, ltb, eqb→eq, leb→le, nleb→lt, ltb→lt, nltb→le, lt→ltb}
use lib.ListN.{length}
use Rattle.theory_basics.specs.Sums.{count}
use Rattle.theory_basics.specs.lemmas.Ranges.{count_cong}
use Rattle.theory_basics.specs.lemmas.Tests.{and_T, any_row_lem, at_row, same_test, test, true_T}
use Rattle.job.specs.Job.{Job, due_slot, job_of, Override}
use Rattle.job.specs.declared.Programme.{Programme}
use Rattle.fetch.specs.Rows.{begun, has_row, held, held_count, Row}
use Rattle.fetch.specs.lemmas.Rows.{any_some}
use Rattle.theory_plan.specs.Own.{Piece}
use Rattle.theory_replan.specs.Statement.{Acceptable}
use Rattle.theory_replan.specs.lemmas.Held.{begun_by, begun_row, carries_row}
use Rattle.theory_live.specs.Statement.{asked, asks, asks_below, begun_after, brings, could_come, first_lacking, first_that, fresh, has_room, in_line, in_time, is_open, lacks, layer_asks, missing, next_in_time, passed_over, passes_for, remaining}
use Rattle.theory_live.specs.lemmas.Firsts.{found}
use Rattle.core_replan_decide.specs.lemmas.Decision.{Tabled}
use Rattle.core_replan_decide.specs.lemmas.Tables.{LastBegunPost}
use Rattle.core_live.specs.lemmas.ByTables.{asked_at, AskedFlags, begun_at, brings_at, could_come_at, fresh_at, held_at, in_time_at, lacks_at, layer_at, line_at, open_at, passed_at, passes_for_at, pieces_at, room_at, PiecesStand, PassedUntilPost}
use Rattle.core_live.proofs.Passing.{six_T}

-- Tests that agree on 1 .. n have the same first.
first_cong : (f g : ℕ → Bool) (n : ℕ) → ((i : ℕ) → 1 ≤ i → i ≤ n → f i ≡ g i) → first_that f n ≡ first_that g n
first_cong f g n h =
    ap (λ (k : ℕ). 1 + k)
    (count_cong (λ i. eqb (count f i) 0) (λ i. eqb (count g i) 0) n
    (λ i u v. ap (λ (k : ℕ). eqb k 0) (count_cong f g i (λ k a b. h k a (omega arith)))))

module _
    (p : Programme) (sizes : List ℕ) (os : List Override) (forecast : List ℕ) (start rate : ℕ) (rows : List Row) (left : ℕ → ℕ → ℕ) (begunFlags whole : List ℕ)
    (last : ℕ) (some : 0 < length sizes) (ok : Acceptable (job_of p sizes os forecast) start rows)
    (tabled : Tabled (job_of p sizes os forecast) rows left begunFlags whole) (lasts : LastBegunPost p begunFlags last) where
  abbrev j : Job
  j = job_of p sizes os forecast

  abbrev InFilm : (ℕ → Type 0) → Type 0
  InFilm P = (i : ℕ) → 1 ≤ i → i ≤ p.chunks → P i

  -- ---- open, missing, in time

  after_is : InFilm (λ i. ltb i last ≡ begun_after rows i)
  after_is i u v =
      same_test (ltb i last) (begun_after rows i)
      (λ t.
      let l = ltb→lt i last t in
      ⊎_elim
      (λ z. absurd (omega arith))
      (λ e.
      let h : T (has_row rows last) = true_T _ (sym (tabled.begun_is last (omega arith) lasts.within) ∙ e) in
      let s = any_some (λ x. eqb x.chunk last) rows h in
      any_row_lem (λ x. ltb i x.chunk) s.listed (lt→ltb i s.row.chunk (omega (arith, eqb→eq s.row.chunk last s.passes))))
      lasts.top)
      (λ t.
      let s = any_some (λ x. ltb i x.chunk) rows t in
      let l = ltb→lt i s.row.chunk s.passes in
      let r = at_row _ s.listed ok.in_range_lem in
      let b = tabled.begun_is s.row.chunk r.chunk_low r.chunk_high in
      ⊎_elim
      (λ w.
      let f = lasts.behind s.row.chunk (ltb→lt last s.row.chunk w) r.chunk_high in
      let y : T false = subst T (sym b ∙ f) (carries_row rows s.row.chunk s.row s.listed refl) in
      absurd y)
      (λ w. lt→ltb i last (omega (arith, nltb→le last s.row.chunk w)))
      (test (ltb last s.row.chunk)))

  open_is : InFilm (λ i. open_at p start begunFlags last i ≡ is_open j start rows i)
  open_is i u v = rw (tabled.begun_is i u v, after_is i u v)

  left_is : (n : ℕ) → n < length sizes → InFilm (λ i. left i n ≡ remaining j rows i n)
  left_is n h i u v = tabled.left_is i n (record { chunk_low = u; chunk_high = v; layer_in = h })

  lacks_is : InFilm (λ i. lacks_at p start left begunFlags last i ≡ lacks j start rows i)
  lacks_is i u v = rw (open_is i u v, left_is 0 some i u v)

  time_is : InFilm (λ i. in_time_at p start rate left i ≡ in_time j start rows rate i)
  time_is i u v = rw (left_is 0 some i u v)

  -- ---- passed over

  abbrev first : ℕ
  first = first_that (lacks_at p start left begunFlags last) p.chunks

  first_is : first ≡ first_lacking j start rows
  first_is = first_cong (lacks_at p start left begunFlags last) (lacks j start rows) p.chunks lacks_is

  could_is : (k : ℕ) → k ≤ p.chunks → InFilm (λ i. could_come_at p start rate left begunFlags last k i ≡ could_come j start rows rate k i)
  could_is k h i u v =
      let here = count_cong (open_at p start begunFlags last) (is_open j start rows) i (λ n a b. open_is n a (omega arith)) in
      let there = count_cong (open_at p start begunFlags last) (is_open j start rows) k (λ n a b. open_is n a (omega arith)) in
      rw (here, there, lacks_is i u v, time_is i u v)

  next_is : (k : ℕ) → k ≤ p.chunks → first_that (could_come_at p start rate left begunFlags last k) p.chunks ≡ next_in_time j start rows rate k
  next_is k h = first_cong (could_come_at p start rate left begunFlags last k) (could_come j start rows rate k) p.chunks (could_is k h)

  passes_is : (k m : ℕ) → 1 ≤ k → k ≤ p.chunks → 1 ≤ m → InFilm (λ i. passes_for_at p start rate left begunFlags last k m i ≡ passes_for j start rows rate k m i)
  passes_is k m a b l i u v =
      ⊎_elim
      (λ t. let h = leb→le m p.chunks t in rw (lacks_is i u v, time_is k a b, left_is 0 some k a b, left_is 0 some m l h))
      (λ t.
      same_test (passes_for_at p start rate left begunFlags last k m i) (passes_for j start rows rate k m i)
      (λ w. absurd (T_not (leb m p.chunks) t (six_T (leb k i) (ltb i m) (leb m p.chunks) (lacks_at p start left begunFlags last i) (not (in_time_at p start rate left k)) (ltb (brings_at p start rate m) (left k 0 + left m 0)) w).2))
      (λ w. absurd (T_not (leb m p.chunks) t (six_T (leb k i) (ltb i m) (leb m p.chunks) (lacks j start rows i) (not (in_time j start rows rate k)) (ltb (brings j start rate m) (missing j rows k + missing j rows m)) w).2)))
      (test (leb m p.chunks))

  module _ (until : ℕ) (upto : PassedUntilPost p start rate left begunFlags last first until) where
    passed_is : InFilm (λ i. passed_at p start left begunFlags last first until i ≡ passes_for j start rows rate first (next_in_time j start rows rate first) i)
    passed_is i u v =
        ⊎_elim
        (λ t.
        let h = leb→le first p.chunks t in
        let low = (found (could_come_at p start rate left begunFlags last first) p.chunks).low in
        sym (upto i u v)
        ∙ passes_is first (first_that (could_come_at p start rate left begunFlags last first) p.chunks) (found (lacks_at p start left begunFlags last) p.chunks).low h low i u v
        ∙ ap (λ (m : ℕ). passes_for j start rows rate first m i) (next_is first h))
        (λ t.
        let h = nleb→lt first p.chunks t in
        let m = next_in_time j start rows rate first in
        same_test (passed_at p start left begunFlags last first until i) (passes_for j start rows rate first m i)
        (λ w. absurd (omega (arith, leb→le first i (and_T (leb first i) (ltb i until) (and_T (leb first i && ltb i until) (lacks_at p start left begunFlags last i) w).0).0)))
        (λ w. absurd (omega (arith, leb→le first i (six_T (leb first i) (ltb i m) (leb m p.chunks) (lacks j start rows i) (not (in_time j start rows rate first)) (ltb (brings j start rate m) (missing j rows first + missing j rows m)) w).0))))
        (test (leb first p.chunks))

    over_is : InFilm (λ i. passed_at p start left begunFlags last first until i ≡ passed_over j start rows rate i)
    unfolding passed_over
    over_is i u v = passed_is i u v ∙ ap (λ (k : ℕ). passes_for j start rows rate k (next_in_time j start rows rate k) i) first_is

    -- ---- asked

    line_is : InFilm (λ i. line_at p start left begunFlags last first until i ≡ in_line j start rows (passed_over j start rows rate) i)
    line_is i u v = ap₂ ◌&&◌ (open_is i u v) (ap not (over_is i u v))

    fresh_is : InFilm (λ i. fresh_at p start left begunFlags last first until i ≡ fresh j start rows (passed_over j start rows rate) i)
    fresh_is i u v = ap (λ (b : Bool). b && ltb start (due_slot p i)) (ap₂ ◌&&◌ (line_is i u v) (ap not (tabled.begun_is i u v)))

    -- Every row is before slot start.
    begun_is : (i : ℕ) → begun rows start i ≡ has_row rows i
    begun_is i =
        same_test (begun rows start i) (has_row rows i)
        (λ t. let b = begun_by rows start i t in carries_row rows i b.row b.listed b.chunk_is)
        (λ t.
        let s = any_some (λ x. eqb x.chunk i) rows t in
        let h = at_row (λ x. x.slot < start) s.listed ok.before in
        begun_row rows start i s.row s.listed (eqb→eq s.row.chunk i s.passes) (omega arith))

    held_is : held_at p start begunFlags ≡ held_count j rows start
    held_is =
        count_cong (λ i. begun_at begunFlags i && ltb start (due_slot p i)) (held j rows start) p.chunks
        (λ i u v. ap (λ (b : Bool). b && ltb start (due_slot p i)) (tabled.begun_is i u v ∙ sym (begun_is i)))

    room_is : InFilm (λ i. room_at p start left begunFlags last first until i ≡ has_room j start rows (passed_over j start rows rate) i)
    room_is i u v =
        let many = count_cong (fresh_at p start left begunFlags last first until) (fresh j start rows (passed_over j start rows rate)) i (λ n a b. fresh_is n a (omega arith)) in
        ap₂ (λ (a b : ℕ). leb (a + b) (p.limit / p.span)) held_is many

    asked_is : InFilm (λ i. asked_at p start left begunFlags last first until i ≡ asked j start rows rate i)
    asked_is i u v = ap₂ ◌&&◌ (line_is i u v) (ap₂ ◌||◌ (ap not (fresh_is i u v)) (room_is i u v))

    -- ---- the pieces

    module _ (flags : List ℕ) (flagged : AskedFlags p start left begunFlags last first until p.chunks flags) where
      layer_is : (n : ℕ) → n < length sizes → (c : ℕ) → c ≤ p.chunks → layer_at left flags n c ≡ layer_asks j rows (asked j start rows rate) n c
      layer_is n h zero l = refl
      layer_is n h (suc c) l =
          ap₂ (λ (a b : List Piece). a ++ b) (layer_is n h c (omega arith))
          (rw (flagged.flag_is (suc c) (omega arith) l ∙ asked_is (suc c) (omega arith) l, left_is n h (suc c) (omega arith) l))

      pub pieces_are : (m : ℕ) → m ≤ length sizes → pieces_at left flags p.chunks m ≡ asks_below j rows (asked j start rows rate) m
      pieces_are zero h = refl
      pieces_are (suc m) h =
          ap₂ (λ (a b : List Piece). a ++ b) (pieces_are m (omega arith)) (layer_is m (omega arith) p.chunks (omega arith))

  -- The pieces that the functions put are the asks.
  pub asks_stand :
      {from until depth : ℕ} {flags : List ℕ} → from ≡ first → PassedUntilPost p start rate left begunFlags last from until →
      AskedFlags p start left begunFlags last from until p.chunks flags → depth ≡ length sizes → {r : ℕ} {cs ls bs : List ℕ} →
      PiecesStand (pieces_at left flags p.chunks depth) r cs ls bs → PiecesStand (asks j start rows rate) r cs ls bs
  asks_stand {from} {until} {depth} {flags} e upto flagged d {r} {cs} {ls} {bs} s =
      let upto' : PassedUntilPost p start rate left begunFlags last first until = subst (λ (k : ℕ). PassedUntilPost p start rate left begunFlags last k until) e upto in
      let flagged' : AskedFlags p start left begunFlags last first until p.chunks flags =
      subst (λ (k : ℕ). AskedFlags p start left begunFlags last k until p.chunks flags) e flagged in
      let are = pieces_are until upto' flags flagged' (length sizes) (omega arith) in
      subst (λ (l : List Piece). PiecesStand l r cs ls bs) are (subst (λ (n : ℕ). PiecesStand (pieces_at left flags p.chunks n) r cs ls bs) d s)
