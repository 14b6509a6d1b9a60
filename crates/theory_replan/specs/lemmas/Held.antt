-- Lemmas. Which chunks are begun and held when rows are added, and that rule 6 is kept by each row
-- that it allows.
use Rattle.std.specs.Prelude.{ℕ, suc, ◌+◌, ◌≤◌, ◌<◌, ◌≡◌, refl, Bool, not, ◌&&◌, ◌||◌, List, [], ◌∷◌, ◌++◌, ◌⊎◌, T, leb, ltb, eqb}
use Rattle.std.proofs.Common.{inl, inr, ⊎_elim, arith, T_not, leb→le, ltb→lt, nltb→le, le→leb, lt→ltb, eqb→eq}
use Rattle.std.proofs.Math.Dec.{nleb→lt, eqb_refl}
use Rattle.theory_basics.specs.Sums.{count}
use Rattle.theory_basics.specs.Tests.{All, here, In, there}
use Rattle.theory_basics.specs.lemmas.Ranges.{count_mono}
use Rattle.theory_basics.specs.lemmas.Tests.{and_T, any_row_lem, at_row, eqb_iff, in_append, in_left, in_right, T_and, test, tests}
use Rattle.job.specs.Job.{chunks, due, held_most, Job, last_slot}
use Rattle.fetch.specs.Rows.{begun, held, held_count, Row}
use Rattle.fetch.specs.Rules.{FewHeld}
use Rattle.theory_plan.specs.Own.{allowed, Piece, row_of}
use Rattle.theory_plan.specs.lemmas.Count.{some_row}
use Rattle.theory_plan.specs.lemmas.Words.{carries}

-- A row of chunk i in a slot up to t begins it by t.
pub begun_row : (rows : List Row) (t i : ℕ) (x : Row) → In x rows → x.chunk ≡ i → x.slot ≤ t → T (begun rows t i)
begun_row rows t i x m e l = any_row_lem (λ y. eqb y.chunk i && leb y.slot t) m (simp tests (e, l))

pub carries_row : (rows : List Row) (i : ℕ) (x : Row) → In x rows → x.chunk ≡ i → T (carries rows i)
carries_row rows i x m e = any_row_lem (λ y. eqb y.chunk i) m ((eqb_iff x.chunk i).1 e)

pub record BegunBy (rows : List Row) (t i : ℕ) : Type 0 where
  pub row : Row
  pub listed : In row rows
  pub chunk_is : row.chunk ≡ i
  pub slot_by : row.slot ≤ t

pub begun_by : (rows : List Row) (t i : ℕ) → T (begun rows t i) → BegunBy rows t i
begun_by rows t i b =
    let s = some_row (λ y. eqb y.chunk i && leb y.slot t) rows b in
    let u = simp tests at s.2 in
    record { row = s.0; listed = s.1; chunk_is = u.0; slot_by = u.1 }

pub begun_more : (rows more : List Row) (t i : ℕ) → T (begun rows t i) → T (begun (rows ++ more) t i)
begun_more rows more t i b = let s = begun_by rows t i b in begun_row (rows ++ more) t i s.row (in_left rows more s.listed) s.chunk_is s.slot_by

pub carries_more : (rows more : List Row) (i : ℕ) → T (carries rows i) → T (carries (rows ++ more) i)
carries_more rows more i b =
    let s = some_row (λ y. eqb y.chunk i) rows b in carries_row (rows ++ more) i s.0 (in_left rows more s.1) (eqb→eq _ _ s.2)

pub in_last : (x : Row) (y : Row) → In y (x ∷ []) → y ≡ x
in_last x y here = refl
in_last x y (there m) = absurd (at_row (λ x. ⊥) m tt)

module _ (j : Job) (rows : List Row) (t : ℕ) (slots : All (λ x. x.slot ≤ t) rows) where
  -- A chunk held with one row of p more, in slot t, at the end of some slot: held before, or held
  -- at the end of t as `allowed` asks.
  held_early : (p : Piece) (b s i : ℕ) → s < t → T (held j (rows ++ (row_of t p b ∷ [])) s i) → T (held j rows s i)
  held_early p b s i h u =
      let v = and_T (begun (rows ++ (row_of t p b ∷ [])) s i) (ltb s (due j i)) u in
      let y = begun_by (rows ++ (row_of t p b ∷ [])) s i v.0 in
      ⊎_elim
      (λ m. T_and (begun rows s i) (ltb s (due j i)) (begun_row rows s i y.row m y.chunk_is y.slot_by) v.1)
      (λ m. let e = in_last (row_of t p b) y.row m in let l : t ≤ s = rw e at y.slot_by in absurd (omega arith))
      (in_append rows (row_of t p b ∷ []) y.listed)

  pub held_late : (p : Piece) (b s i : ℕ) → t ≤ s → T (held j (rows ++ (row_of t p b ∷ [])) s i) → T (held j (rows ++ (row_of t p 1 ∷ [])) t i)
  held_late p b s i h u =
      let one = row_of t p 1 in
      let v = and_T (begun (rows ++ (row_of t p b ∷ [])) s i) (ltb s (due j i)) u in
      let y = begun_by (rows ++ (row_of t p b ∷ [])) s i v.0 in
      T_and (begun (rows ++ (one ∷ [])) t i) (ltb t (due j i))
      (⊎_elim
      (λ m. begun_row (rows ++ (one ∷ [])) t i y.row (in_left rows (one ∷ []) m) y.chunk_is (at_row (λ x. x.slot ≤ t) m slots))
      (λ m.
      let e = in_last (row_of t p b) y.row m in
      let c : p.chunk ≡ i = rw e at y.chunk_is in
      begun_row (rows ++ (one ∷ [])) t i one (in_right rows (one ∷ []) here) c (omega arith))
      (in_append rows (row_of t p b ∷ []) y.listed))
      (lt→ltb t (due j i) (omega (arith, ltb→lt s (due j i) v.1)))

  pub few_step : (p : Piece) (b : ℕ) → FewHeld j rows → T (allowed j rows t p) → FewHeld j (rows ++ (row_of t p b ∷ []))
  few_step p b few ok s u v =
      ⊎_elim
      (λ h.
      omega (
        arith,
        few s u v,
        count_mono (held j (rows ++ (row_of t p b ∷ [])) s) (held j rows s) (chunks j) (λ i x y. held_early p b s i (ltb→lt s t h)),
      ))
      (λ h.
      omega (
        arith,
        leb→le (held_count j (rows ++ (row_of t p 1 ∷ [])) t) (held_most j) ok,
        count_mono (held j (rows ++ (row_of t p b ∷ [])) s) (held j (rows ++ (row_of t p 1 ∷ [])) t) (chunks j) (λ i x y. held_late p b s i (nltb→le s t h)),
      ))
      (test (ltb s t))

  -- A row of a chunk that has begun changes nothing.
  pub held_same : (p : Piece) (i : ℕ) → T (carries rows p.chunk) → T (held j (rows ++ (row_of t p 1 ∷ [])) t i) → T (held j rows t i)
  held_same p i c u =
      let one = row_of t p 1 in
      let v = and_T (begun (rows ++ (one ∷ [])) t i) (ltb t (due j i)) u in
      let y = begun_by (rows ++ (one ∷ [])) t i v.0 in
      T_and (begun rows t i) (ltb t (due j i))
      (⊎_elim
      (λ m. begun_row rows t i y.row m y.chunk_is y.slot_by)
      (λ m.
      let e = in_last one y.row m in
      let k : p.chunk ≡ i = rw e at y.chunk_is in
      let z = some_row (λ y. eqb y.chunk p.chunk) rows c in
      let q : z.0.chunk ≡ p.chunk = eqb→eq _ _ z.2 in
      begun_row rows t i z.0 z.1 (omega arith) (at_row (λ x. x.slot ≤ t) z.1 slots))
      (in_append rows (one ∷ []) y.listed))
      v.1
