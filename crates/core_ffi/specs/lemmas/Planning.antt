-- Lemmas. The calls that hand over a plan: with room for the counts they hand over what the
-- library's call does, without it they answer 11 after all that comes before 11. Assumes nothing.
use Rattle.std.specs.Prelude.{ℕ, ◌≤◌, ◌<◌, ◌≡◌, refl, Bool, cond, List, map, leb, length, Result, Err}
use Rattle.std.proofs.Common.{sym, ap, ◌∙◌, le-leb, ne_eqb}
use Rattle.std.proofs.lemmas.Bool.{lt-leb}
use Rattle.theory_basics.specs.Lent.{lent_after}
use Rattle.theory_basics.specs.Refusals.{◌or_else◌, unless}
use Rattle.refusals.specs.Numbers as by
use Rattle.refusals.specs.Numbers.{by_number}
use Rattle.refusals.specs.declared.Refusal.{Refusal}
use Rattle.job.specs.Input.{JobInput, job_in, job_refusal}
use Rattle.fetch.specs.Rows.{Row, row_bytes, row_chunk, row_layer, row_slot}
use Rattle.fetch.specs.declared.handed.LentList.{LentList}
use Rattle.theory_plan.specs.Plan.{plan}
use Rattle.theory_plan.specs.Statement.{counts_of, marks_of}
use Rattle.planner.specs.Answer.{PlanOutput, holds, plan_numbers, plan_refusal, plan_rows}
use Rattle.planner.specs.declared.Planned.{Planned}
use Rattle.replan.specs.Answer.{ReplanInput, ReplanOutput, holds_on, input_refusal, job_on, numbers_on, plan_afresh, refusal_on, rows_on}
use Rattle.core_ffi.specs.Convention.{answered}
use Rattle.core_ffi.specs.Plans.{Returned, PlanReturned, ReplanReturned, PlanSlices, plan_slices, room_of, slices_after, with_counts}
use Rattle.core_ffi.specs.lemmas.Numbers.{answer_number, number_by, numbered, refused_number, stored, stored_of}
use Rattle.core_ffi.specs.lemmas.Slices.{eleven_once, eleven_some, no_more_lem, refused_keeps}

-- The slices lent for a plan and its counts.
abbrev pub plan_room : LentList → (counts : List ℕ) → PlanSlices
plan_room l counts = plan_slices l.marks.now l.slots.now l.chunks.now l.layers.now l.bytes.now counts

same_slices : {m m' s s' c c' l l' b b' k k' : List ℕ} → m ≡ m' → s ≡ s' → c ≡ c' → l ≡ l' → b ≡ b' → k ≡ k' → ◌≡◌ {A = PlanSlices} (plan_slices m s c l b k) (plan_slices m' s' c' l' b' k')
same_slices e f g h i j = cc

-- ---- with room for what is lent beside the library's own

-- W is what the call for C refuses: the library's own refusal, and 11 for what is lent beside it. Of
-- x, what the library answers, are told how many rows there are, and the counts.
pub whole_returned : {A : Type 0} (rows_by : A → ℕ) (counts_by : A → List ℕ) (W refused : ℕ) (marks : List ℕ) (rows : List Row) (x : A) (lent lent' : PlanSlices) (a : Result A ℕ) (r : ℕ)
    → W ≡ refused
    → rows_by x ≡ length rows
    → a ≡ by.answered refused x
    → lent'.marks ≡ lent_after refused marks lent.marks
    → lent'.slots ≡ lent_after refused (map row_slot rows) lent.slots
    → lent'.chunks ≡ lent_after refused (map row_chunk rows) lent.chunks
    → lent'.layers ≡ lent_after refused (map row_layer rows) lent.layers
    → lent'.bytes ≡ lent_after refused (map row_bytes rows) lent.bytes
    → lent'.counts ≡ stored_of counts_by a lent.counts
    → r ≡ number_by rows_by a
    → Returned W marks rows (counts_by x) lent r lent'
whole_returned rows_by counts_by W refused marks rows x lent lent' a r w many is em es ec el eb ek er =
    record {
      number = er ∙ numbered rows_by refused x a is ∙ ap (λ (n : ℕ). answered refused n) many ∙ ap (λ (n : ℕ). answered n (length rows)) (sym w);
      slices_are =
          same_slices em es ec el eb (ek ∙ stored counts_by refused x a lent.counts is)
          ∙ ap (λ (n : ℕ). slices_after n marks rows (counts_by x) lent) (sym w);
    }

room_for_counts : (refused : ℕ) (counts : List ℕ) → 4 ≤ length counts → with_counts refused counts ≡ refused
unfolding with_counts
room_for_counts refused counts h = ap (λ (t : Bool). refused or_else unless 11 t) (le-leb 4 (length counts) h) ∙ no_more_lem refused

abbrev pub rows_made : Result Planned ℕ → ℕ
rows_made a = number_by (λ (p : Planned). p.rows) a

abbrev pub counts_made : Result Planned ℕ → List ℕ → List ℕ
counts_made a old = stored_of (λ (p : Planned). p.counts) a old

module _ (lent lent' : PlanSlices) (a : Result Planned Refusal) (r : ℕ) (room : 4 ≤ length lent.counts) where
  pub plan_whole : (h : JobInput) → PlanOutput h (room_of lent) a (room_of lent') → lent'.counts ≡ counts_made (by_number a) lent.counts → r ≡ rows_made (by_number a) → PlanReturned h lent r lent'
  plan_whole h made ek er =
      let refused : ℕ = plan_refusal h (room_of lent) in
      whole_returned (λ (p : Planned). p.rows) (λ (p : Planned). p.counts) (with_counts refused lent.counts) refused (marks_of (job_in h) (plan (job_in h))) (plan_rows (job_in h)) (plan_numbers (job_in h))
      lent lent' (by_number a) r (room_for_counts refused lent.counts room) refl
      made.answer made.marks_are made.slots_are made.chunks_are made.layers_are made.bytes_are ek er

  pub replan_whole : (h : JobInput) (o : ReplanInput) → ReplanOutput h o (room_of lent) a (room_of lent') → lent'.counts ≡ counts_made (by_number a) lent.counts → r ≡ rows_made (by_number a) → ReplanReturned h o lent r lent'
  replan_whole h o made ek er =
      let refused : ℕ = refusal_on h o (room_of lent) in
      whole_returned (λ (p : Planned). p.rows) (λ (p : Planned). p.counts) (with_counts refused lent.counts) refused (marks_of (job_on h o) (plan_afresh h o)) (rows_on h o) (numbers_on h o)
      lent lent' (by_number a) r (room_for_counts refused lent.counts room) refl
      made.answer made.marks_are made.slots_are made.chunks_are made.layers_are made.bytes_are ek er

-- ---- without it

pub short_returned : (W before : ℕ) (marks : List ℕ) (rows : List Row) (counts : List ℕ) (lent : PlanSlices) (r : ℕ)
    → W ≡ before or_else 11
    → r ≡ refused_number (before or_else 11)
    → Returned W marks rows counts lent r lent
unfolding answered
short_returned W before marks rows counts lent r is er =
    let some : W ≡ 0 → ⊥ = λ z. eleven_some before (sym is ∙ z) in
    let keeps : (result old : List ℕ) → old ≡ lent_after W result old = λ result old. sym (refused_keeps W result old some) in
    record {
      number = er ∙ sym (ap refused_number is) ∙ sym (ap (λ (t : Bool). cond t (length rows) (refused_number W)) (ne_eqb W 0 some));
      slices_are =
          same_slices (keeps marks lent.marks) (keeps (map row_slot rows) lent.slots) (keeps (map row_chunk rows) lent.chunks) (keeps (map row_layer rows) lent.layers) (keeps (map row_bytes rows) lent.bytes)
          (keeps counts lent.counts);
    }

no_room_for_counts : (before : ℕ) (room : Bool) (counts : List ℕ) → length counts < 4 → with_counts (before or_else unless 11 room) counts ≡ before or_else 11
unfolding with_counts
no_room_for_counts before room counts short =
    ap (λ (t : Bool). (before or_else unless 11 room) or_else unless 11 t) (lt-leb 4 (length counts) short) ∙ eleven_once before room

module _ (lent : PlanSlices) (a : Result ℕ ℕ) (short : length lent.counts < 4) where
  pub plan_short : (h : JobInput) → a ≡ Err (job_refusal h or_else 11) → PlanReturned h lent (answer_number a) lent
  plan_short h e =
      short_returned (with_counts (plan_refusal h (room_of lent)) lent.counts) (job_refusal h) (marks_of (job_in h) (plan (job_in h))) (plan_rows (job_in h)) (counts_of (job_in h) (plan (job_in h)))
      lent (answer_number a) (no_room_for_counts (job_refusal h) (holds (job_in h) (room_of lent)) lent.counts short) (ap answer_number e)

  pub replan_short : (h : JobInput) (o : ReplanInput) → a ≡ Err (input_refusal h o or_else 11) → ReplanReturned h o lent (answer_number a) lent
  replan_short h o e =
      short_returned (with_counts (refusal_on h o (room_of lent)) lent.counts) (input_refusal h o) (marks_of (job_on h o) (plan_afresh h o)) (rows_on h o) (counts_of (job_on h o) (plan_afresh h o))
      lent (answer_number a) (no_room_for_counts (input_refusal h o) (holds_on h o (room_of lent)) lent.counts short) (ap answer_number e)
