-- Lemmas. The search within a budget: with room for the counts and the three numbers of the walk it
-- hands over what the library's call does, without it 11 after all that comes before 11. Assumes
-- nothing.
use Rattle.std.specs.Prelude.{ℕ, ◌≤◌, ◌<◌, ◌≡◌, refl, Bool, true, false, cond, ◌&&◌, ◌⊎◌, List, [], ◌∷◌, leb, length, Result, Err}
use Rattle.std.proofs.Common.{sym, ap, ◌∙◌, ⊎_elim, le-leb}
use Rattle.std.proofs.lemmas.Bool.{lt-leb}
use Rattle.theory_basics.specs.Lent.{lent_after}
use Rattle.theory_basics.specs.Refusals.{◌or_else◌, unless}
use Rattle.refusals.specs.Numbers.{by_number}
use Rattle.refusals.specs.declared.Refusal.{Refusal}
use Rattle.job.specs.Input.{JobInput, job_in, job_refusal}
use Rattle.theory_plan.specs.Statement.{counts_of, marks_of}
use Rattle.theory_search.specs.Search.{found}
use Rattle.search.specs.Answer.{SearchOutput, holds_found, plan_found, rows_found, search_numbers, search_refusal}
use Rattle.search.specs.declared.Searched.{Searched}
use Rattle.core_ffi.specs.Plans.{PlanSlices, SearchReturned, room_of, walk_of, with_walk}
use Rattle.core_ffi.specs.lemmas.Numbers.{answer_number, number_by, stored, stored_of}
use Rattle.core_ffi.specs.lemmas.Planning.{short_returned, whole_returned}
use Rattle.core_ffi.specs.lemmas.Slices.{eleven_once, eleven_some, no_more_lem, refused_keeps}

-- ---- room for the counts and three numbers

pub room_for_walk : (refused : ℕ) (counts walk : List ℕ) → 4 ≤ length counts → 3 ≤ length walk → with_walk refused counts walk ≡ refused
unfolding with_walk
room_for_walk refused counts walk k w = rw (le-leb 4 (length counts) k, le-leb 3 (length walk) w) (no_more_lem refused)

-- One of the two is too short.
abbrev pub NoRoom : (counts walk : List ℕ) → Type 0
NoRoom counts walk = (length counts < 4) ⊎ (length walk < 3)

both_or_none : (b : Bool) → b && false ≡ false
both_or_none true = refl
both_or_none false = refl

no_room : (counts walk : List ℕ) → NoRoom counts walk → leb 4 (length counts) && leb 3 (length walk) ≡ false
no_room counts walk =
    ⊎_elim
    (λ k. ap (λ (b : Bool). b && leb 3 (length walk)) (lt-leb 4 (length counts) k))
    (λ w. ap (λ (b : Bool). leb 4 (length counts) && b) (lt-leb 3 (length walk) w) ∙ both_or_none (leb 4 (length counts)))

pub no_room_for_walk : (before : ℕ) (room : Bool) (counts walk : List ℕ) → NoRoom counts walk → with_walk (before or_else unless 11 room) counts walk ≡ before or_else 11
unfolding with_walk
no_room_for_walk before room counts walk short =
    ap (λ (t : Bool). (before or_else unless 11 room) or_else unless 11 t) (no_room counts walk short) ∙ eleven_once before room

-- ---- the search

abbrev pub walk_by : Searched → List ℕ
walk_by s = s.steps ∷ cond s.ended 1 0 ∷ s.shortfall ∷ []

pub search_whole : (h : JobInput) (budget : ℕ) (lent lent' : PlanSlices) (walk walk' : List ℕ) (a : Result Searched Refusal) (r : ℕ)
    → 4 ≤ length lent.counts
    → 3 ≤ length walk
    → SearchOutput h budget (room_of lent) a (room_of lent')
    → lent'.counts ≡ stored_of (λ (s : Searched). s.counts) (by_number a) lent.counts
    → walk' ≡ stored_of walk_by (by_number a) walk
    → r ≡ number_by (λ (s : Searched). s.rows) (by_number a)
    → SearchReturned h budget lent walk r lent' walk'
search_whole h budget lent lent' walk walk' a r room three made ek ew er =
    let j = job_in h in
    let refused : ℕ = search_refusal h budget (room_of lent) in
    let same = room_for_walk refused lent.counts walk room three in
    record {
      plan =
          whole_returned (λ (s : Searched). s.rows) (λ (s : Searched). s.counts) (with_walk refused lent.counts walk) refused (marks_of j (plan_found j budget)) (rows_found j budget) (search_numbers j budget)
          lent lent' (by_number a) r same refl
          made.answer made.marks_are made.slots_are made.chunks_are made.layers_are made.bytes_are ek er;
      walk_is =
          ew ∙ stored walk_by refused (search_numbers j budget) (by_number a) walk made.answer ∙ ap (λ (n : ℕ). lent_after n (walk_of (found j budget)) walk) (sym same);
    }

pub search_short : (h : JobInput) (budget : ℕ) (lent : PlanSlices) (walk : List ℕ) (a : Result ℕ ℕ)
    → NoRoom lent.counts walk
    → a ≡ Err (job_refusal h or_else 11)
    → SearchReturned h budget lent walk (answer_number a) lent walk
search_short h budget lent walk a short e =
    let j = job_in h in
    let W : ℕ = with_walk (search_refusal h budget (room_of lent)) lent.counts walk in
    let is : W ≡ job_refusal h or_else 11 = no_room_for_walk (job_refusal h) (holds_found j budget (room_of lent)) lent.counts walk short in
    let some : W ≡ 0 → ⊥ = λ z. eleven_some (job_refusal h) (sym is ∙ z) in
    record {
      plan =
          short_returned W (job_refusal h) (marks_of j (plan_found j budget)) (rows_found j budget) (counts_of j (plan_found j budget)) lent (answer_number a) is (ap answer_number e);
      walk_is = sym (refused_keeps W (walk_of (found j budget)) walk some);
    }
