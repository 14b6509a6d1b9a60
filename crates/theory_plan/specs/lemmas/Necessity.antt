-- Lemmas. A list makes its choice fit: the carried chunks of a passing list in playing order fit.
-- Section 2 of the argument. Said more generally, of the rows `more` of a list l: chunks that are
-- begun by the slot of each row of `more` of their own and of later chunks fit, each with its bytes
-- in `more`. Rule 2 is not asked, and A is any measure of what is forecast after a slot
-- (`Between`).
use Rattle.std.specs.Prelude.{ℕ, suc, ◌+◌, ◌-◌, ◌≤◌, ◌<◌, ◌≡◌, Bool, not, ◌&&◌, List, [], ◌∷◌, length, get_or, drop, T, leb, ltb, eqb}
use Rattle.std.proofs.Common.{⊎_elim, arith, drop_of_length-le, ltb→lt, nltb→le, lt→ltb}
use Rattle.theory_basics.specs.lemmas.Ranges.{pre_mono, pre_step}
use Rattle.theory_basics.specs.Tests.{All, In}
use Rattle.theory_basics.specs.lemmas.Tests.{T_and, any_row_lem, at_row, each_row, test, tests}
use Rattle.fetch.specs.Rows.{Carried, Row, begun, bytes_if, bytes_in_slot, held}
use Rattle.fetch.specs.Rules.{FewHeld, RowInRange, OnTime, Passes, PlayingOrder}
use Rattle.fetch.specs.lemmas.Order.{order_begun}
use Rattle.job.specs.Job.{Job, chunks, due, forecast, held_most, last_slot}
use Rattle.theory_plan.specs.lemmas.Ascending.{asc_drop, asc_lower, asc_nth, count_to_nth}
use Rattle.theory_plan.specs.lemmas.Count.{bytes_between, bytes_disjoint}
use Rattle.theory_plan.specs.lemmas.Need.{Feas, Tails}
use Rattle.theory_plan.specs.lemmas.Feasible.{need_of}
pub use Rattle.theory_plan.specs.Plan.{after}
use Rattle.theory_plan.specs.lemmas.Words.{Sized, bytes_of_chunk, due_mono}
use Rattle.theory_plan.specs.Bases.{Asc}

-- A row of the chunks a .. lo - 1.
abbrev in_run : ℕ → ℕ → Row → Bool
in_run a lo x = leb a x.chunk && ltb x.chunk lo

run_grows : (a lo k : ℕ) → a ≤ lo → lo ≤ k → (l : List Row) → bytes_if (in_run a lo) l + bytes_of_chunk l k ≤ bytes_if (in_run a (suc k)) l
run_grows a lo k p q l =
    bytes_disjoint
    (in_run a lo)
    (λ x. eqb x.chunk k)
    (in_run a (suc k))
    (λ x t. let u = simp tests at t in simp tests (omega arith))
    (λ x t. let u = simp tests at t in simp tests (omega arith))
    (λ x t v. let u = simp tests at t in let u' = simp tests at v in omega arith)
    l

-- Rows of `more` that lie in the slots q + 1 .. d sum to at most what A says of those slots.
abbrev pub Between : Job → (ℕ → ℕ) → List Row → Type 0
Between j A more =
    (P : Row → Bool) (q d : ℕ) → q ≤ d → d ≤ last_slot j → ((x : Row) → In x more → T (P x) → (q < x.slot) × (x.slot ≤ d)) →
    bytes_if P more + A d ≤ A q

module _
    (j : Job) (A : ℕ → ℕ) (l more : List Row) (between : Between j A more) (range : All (RowInRange j) more)
    (on_time_lem : All (OnTime j) more) (few : FewHeld j l) (P : ℕ → Type 0)
    (starts : (x : Row) → In x more → (e : ℕ) → 1 ≤ e → e ≤ x.chunk → P e → T (begun l x.slot e)) where
  -- If the rows of the chunks from a on stand after slot q, those chunks need no more than the
  -- forecast after q.
  need_behind :
      (a q : ℕ) → q ≤ due j a → ((x : Row) → In x more → a ≤ x.chunk → q < x.slot) → (ks : List ℕ) (lo c : ℕ) → a ≤ lo →
      Asc lo (chunks j) ks → c ≤ bytes_if (in_run a lo) more → c ≤ A q → c + need_of (bytes_of_chunk more) (due j) A ks ≤ A q
  need_behind a q h f [] lo c g s m n = omega arith
  need_behind a q h f (k ∷ ks) lo c g s m n =
      let r = run_grows a lo k g s.0 more in
      let b =
      between
      (in_run a (suc k))
      q
      (due j k)
      (omega (arith, due_mono j a k (omega arith)))
      (due_mono j k (chunks j) s.1)
      (λ x i t.
      let u = simp tests at t in
      (f x i u.0, omega (arith, at_row (OnTime j) i on_time_lem, due_mono j x.chunk k (omega arith)))) in
      omega (arith, r, b, need_behind a q h f ks (suc k) (c + bytes_of_chunk more k) (omega arith) s.2 (omega (arith, r)) (omega (arith, r, b)))

  -- The windows: the rows of the chunk that stands H places behind k, and of later ones, come no
  -- earlier than k is due.
  row_after_due :
      (k : ℕ) (ks : List ℕ) → Asc 1 (chunks j) (k ∷ ks) → All P (k ∷ ks) →
      held_most j < length (k ∷ ks) → (x : Row) → In x more → get_or (k ∷ ks) (held_most j) 0 ≤ x.chunk → due j k ≤ x.slot
  row_after_due k ks s m h x i g =
      let z = at_row (RowInRange j) i range in
      ⊎_elim
      (λ u.
      let u' : x.slot < due j k = ltb→lt x.slot (due j k) u in
      absurd
      (omega (
        arith,
        few x.slot z.slot_low z.slot_high,
        count_to_nth
            (held j l x.slot)
            P
            (k - 1)
            (chunks j)
            (k ∷ ks)
            (held_most j)
            h
            (omega arith, s.1, s.2)
            m
            (λ e v w t.
            let due_later = lt→ltb x.slot (due j e) (omega (arith, due_mono j k e (omega arith))) in
            T_and (begun l x.slot e) (ltb x.slot (due j e)) (starts x i e (omega arith) (omega arith) t) due_later),
      )))
      (λ u. nltb→le x.slot (due j k) u)
      (test (ltb x.slot (due j k)))

  begun_tails :
      (ks : List ℕ) (lo : ℕ) → 1 ≤ lo → Asc lo (chunks j) ks → All P ks →
      Tails (bytes_of_chunk more) (due j) A (held_most j) ks
  begun_tails [] lo h s m = tt
  begun_tails (k ∷ ks) lo h s m = (
    ⊎_elim
        (λ t.
        let b : held_most j < length (k ∷ ks) = ltb→lt (held_most j) (length (k ∷ ks)) t in
        let a = get_or (k ∷ ks) (held_most j) 0 in
        let r = asc_nth k (chunks j) (k ∷ ks) (held_most j) b (omega arith, s.1, s.2) in
        omega (
          arith,
          need_behind
              a
              (due j k - 1)
              (omega (arith, due_mono j k a r.0))
              (λ x i g. omega (arith, row_after_due k ks (omega arith, s.1, s.2) m b x i g, (at_row (RowInRange j) i range).slot_low))
              (drop (held_most j) (k ∷ ks))
              a
              0
              (omega arith)
              (asc_drop lo (chunks j) (k ∷ ks) (held_most j) s)
              (omega arith)
              (omega arith),
        ))
        (λ t. rw (drop_of_length-le (k ∷ ks) (nltb→le (held_most j) (length (k ∷ ks)) t)) (omega arith))
        (test (ltb (held_most j) (length (k ∷ ks)))),
    begun_tails ks (suc k) (omega arith) s.2 m.1,
  )

  pub begun_fit : (ks : List ℕ) → Asc 1 (chunks j) ks → All P ks → Feas (bytes_of_chunk more) (due j) A (held_most j) ks
  begun_fit ks s m =
      let from_one : (x : Row) → In x more → 0 ≤ x.chunk → 0 < x.slot = λ x i h. (at_row (RowInRange j) i range).slot_low in
      let a = asc_lower 0 1 (chunks j) ks (omega arith) s in
      record {
        whole = omega (arith, need_behind 0 0 (omega arith) from_one ks 0 0 (omega arith) a (omega arith) (omega arith));
        tails = begun_tails ks 1 (omega arith) s m;
      }

module _ (j : Job) (l : List Row) (ok : Passes j l) where
  -- Rows that lie in the slots q + 1 .. d sum to at most the forecast of those slots.
  pub within_between : Between j (after j) l
  within_between P q d h g f =
      omega (
        arith,
        bytes_between P q d l h (each_row (λ x. T (P x) → (q < x.slot) × (x.slot ≤ d)) l f),
        pre_step (bytes_in_slot l) (forecast j) q d (λ t u v. ok.within t u (omega arith)) h,
        pre_mono (forecast j) d (last_slot j) g,
      )

  -- In playing order a carried chunk is begun by the slot of each row of its own and of later
  -- chunks.
  begun_by : Sized j → PlayingOrder j l → (x : Row) → In x l → (e : ℕ) → 1 ≤ e → e ≤ x.chunk → Carried j l e 0 → T (begun l x.slot e)
  begun_by sized o x i e g h t =
      ⊎_elim
      (λ u. order_begun j sized l ok.in_range_lem o x i e g (ltb→lt e x.chunk u) t)
      (λ (u : T (not (ltb e x.chunk))).
      let q : x.chunk ≡ e = omega (arith, nltb→le e x.chunk u) in
      any_row_lem (λ y. eqb y.chunk e && leb y.slot x.slot) i (simp tests (omega arith)))
      (test (ltb e x.chunk))

  -- Carried chunks of a passing list in playing order fit, each with its bytes in the list.
  pub carried_fit :
      Sized j → PlayingOrder j l → (ks : List ℕ) → Asc 1 (chunks j) ks → All (λ e. Carried j l e 0) ks →
      Feas (bytes_of_chunk l) (due j) (after j) (held_most j) ks
  carried_fit sized o ks s m = begun_fit j (after j) l l within_between ok.in_range_lem ok.on_time_lem ok.few_held (λ e. Carried j l e 0) (begun_by sized o) ks s m
