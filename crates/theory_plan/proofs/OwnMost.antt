-- Theorems. Document 01: "Each slot takes as many next bytes as B(slot) and rule 6 allow", of the
-- own list of any choice (Own): what the slots up to t take keeps rules 4 and 6, and one byte more
-- of the next piece in slot t breaks one of them.
use Rattle.std.specs.Prelude.{ℕ, zero, suc, ◌+◌, ◌≤◌, ◌<◌, ◌≡◌, not, List, [], ◌∷◌, ◌++◌, ◌⊎◌, T, eqb, leb}
use Rattle.std.proofs.Common.{subst, sym, ap, ◌∙◌, inl, inr, ⊎_elim, arith, leb→le}
use Rattle.std.proofs.Math.Dec.{nleb→lt}
use Rattle.theory_basics.specs.Tests.{All}
use Rattle.theory_basics.specs.lemmas.Tests.{all_append, test}
use Rattle.theory_basics.specs.lemmas.Ranges.{count_none}
use Rattle.job.specs.Job.{Job, chunks, forecast, held_most}
use Rattle.fetch.specs.Rows.{Row, bytes_in_slot, held, held_count}
use Rattle.fetch.specs.lemmas.Rows.{bytes_append}
use Rattle.theory_plan.specs.Own.{Fetched, Piece, allowed, fetched_by, row_of}
use Rattle.theory_plan.specs.lemmas.OwnMost.{SlotTook, UpTo, held_before, held_later, in_slot_up, later_none, one_row, other_none, slot_took, up_later}

-- Rule 6 is asked at the end of the slot being filled alone. Later slots follow: of rows that all
-- stand in slots up to t, no more chunks are held at the end of a later slot than at that of t.
pub later_slots_follow : (j : Job) (t u : ℕ) (rows : List Row) → All (λ (x : Row). x.slot ≤ t) rows → t ≤ u → held_count j rows u ≤ held_count j rows t
later_slots_follow = held_later

-- The slots 1 to t have taken what they are allowed, and slot t as much as it is allowed.
pub record TakesMost (j : Job) (t : ℕ) (f : Fetched) : Type 0 where
  pub up_to : All (λ (x : Row). x.slot ≤ t) f.rows
  -- Rule 4 of these slots, and rule 6 at the end of every slot.
  pub within : (u : ℕ) → 1 ≤ u → u ≤ t → bytes_in_slot f.rows u ≤ forecast j u
  pub few_held : (u : ℕ) → held_count j f.rows u ≤ held_most j
  -- If something is left, one byte of it more in slot t is above B(t), or more than H chunks are
  -- held at the end of t.
  pub no_more_lem :
      1 ≤ t → (p : Piece) (ps : List Piece) → f.left ≡ p ∷ ps →
      (forecast j t < bytes_in_slot (f.rows ++ (row_of t p 1 ∷ [])) t) ⊎ (held_most j < held_count j (f.rows ++ (row_of t p 1 ∷ [])) t)

module _ (j : Job) where
  next : (t : ℕ) (f r : Fetched) → TakesMost j t f → SlotTook j (suc t) (forecast j (suc t)) f.rows r → TakesMost j (suc t) r
  next t f r i s = record { up_to = up; within = within; few_held = few; no_more_lem = λ h p ps e. no_more_lem p ps (s.stops p ps e) } where
    up : UpTo (suc t) r.rows
    up =
        subst (UpTo (suc t)) (sym s.rows_are)
        (all_append (λ (x : Row). x.slot ≤ suc t) f.rows s.more (up_later t (suc t) f.rows (omega arith) i.up_to) (in_slot_up (suc t) s.more s.in_slot_lem))

    sum : (u : ℕ) → bytes_in_slot r.rows u ≡ bytes_in_slot f.rows u + bytes_in_slot s.more u
    sum u = ap (λ (l : List Row). bytes_in_slot l u) s.rows_are ∙ bytes_append (λ y. eqb y.slot u) f.rows s.more

    spent : bytes_in_slot r.rows (suc t) ≡ bytes_in_slot s.more (suc t)
    spent = omega (arith, sum (suc t), later_none t (suc t) f.rows i.up_to (omega arith))

    within : (u : ℕ) → 1 ≤ u → u ≤ suc t → bytes_in_slot r.rows u ≤ forecast j u
    within u g h =
        ⊎_elim
        (λ k. omega (arith, sum u, other_none (suc t) u s.more s.in_slot_lem (omega (arith, leb→le u t k)), i.within u g (leb→le u t k)))
        (λ k.
        let e : suc t ≡ u = omega (arith, nleb→lt u t k) in
        subst (λ (v : ℕ). bytes_in_slot r.rows v ≤ forecast j v) e (omega (arith, spent, s.within)))
        (test (leb u t))

    few : (u : ℕ) → held_count j r.rows u ≤ held_most j
    few u =
        ⊎_elim
        (λ k. omega (arith, held_later j (suc t) u r.rows up (leb→le (suc t) u k), s.few (i.few_held (suc t))))
        (λ k.
        let same : held_count j r.rows u ≡ held_count j f.rows u =
        ap (λ (l : List Row). held_count j l u) s.rows_are ∙ held_before j (suc t) u f.rows s.more s.in_slot_lem (nleb→lt (suc t) u k) in
        omega (arith, same, i.few_held u))
        (test (leb (suc t) u))

    no_more_lem :
        (p : Piece) (ps : List Piece) → (bytes_in_slot s.more (suc t) ≡ forecast j (suc t)) ⊎ T (not (allowed j r.rows (suc t) p)) →
        (forecast j (suc t) < bytes_in_slot (r.rows ++ (row_of (suc t) p 1 ∷ [])) (suc t))
        ⊎ (held_most j < held_count j (r.rows ++ (row_of (suc t) p 1 ∷ [])) (suc t))
    no_more_lem p ps why =
        ⊎_elim
        (λ e. inl (omega (arith, bytes_append (λ y. eqb y.slot (suc t)) r.rows (row_of (suc t) p 1 ∷ []), one_row j (suc t) p 1, spent, e)))
        (λ n. inr (nleb→lt (held_count j (r.rows ++ (row_of (suc t) p 1 ∷ [])) (suc t)) (held_most j) n))
        why

-- "Each slot takes as many next bytes as B(slot) and rule 6 allow", for every choice and slot.
pub takes_most : (j : Job) (choice : ℕ → ℕ) (t : ℕ) → TakesMost j t (fetched_by j choice t)
takes_most j choice zero = record {
  up_to = tt;
  within = λ u g h. absurd (omega arith);
  few_held = λ u. omega (arith, count_none (held j [] u) (chunks j) (λ i lo hi. tt));
  no_more_lem = λ h. absurd (omega arith);
}
takes_most j choice (suc t) =
    let f = fetched_by j choice t in
    next j t f (fetched_by j choice (suc t)) (takes_most j choice t) (slot_took j (suc t) (forecast j (suc t)) f.rows f.left)
