-- Lemmas. Most pictures: with room for the counts and the three numbers of the bounds it returns
-- what the library's call does, without it 11 after all that comes before 11. Assumes nothing.
use Rattle.std.specs.Prelude.{ℕ, ◌≤◌, ◌≡◌, refl, cond, List, [], ◌∷◌, length, Result, Err}
use Rattle.std.proofs.Common.{sym, ap, ◌∙◌, ne_eqb}
use Rattle.theory_basics.specs.Lent.{lent_after}
use Rattle.theory_basics.specs.Refusals.{◌or_else◌}
use Rattle.refusals.specs.Numbers.{by_number}
use Rattle.refusals.specs.declared.Refusal.{Refusal}
use Rattle.job.specs.Input.{JobInput, job_in, job_refusal}
use Rattle.job.specs.Theorems.{input_accepted}
use Rattle.theory_plan.specs.Plan.{kept, plan}
use Rattle.theory_plan.specs.Statement.{counts_of, marks_of}
use Rattle.theory_search.specs.Search.{plan_over}
use Rattle.theory_most.specs.Statement.{bound}
use Rattle.most.specs.Promise.{MostPromise, lent_room, most_numbers, most_refusal, rows_over}
use Rattle.most.specs.declared.MostPlan.{MostPlan}
use Rattle.most.specs.lemmas.Finds.{plan_finds}
use Rattle.core_ffi.specs.Plans.{MostReturned, PlanSlices, bounds_of, room_of, with_walk}
use Rattle.core_ffi.specs.lemmas.Numbers.{answer_number, number_by, stored, stored_of}
use Rattle.core_ffi.specs.lemmas.Planning.{short_returned, whole_returned}
use Rattle.core_ffi.specs.lemmas.Searching.{NoRoom, no_room_for_walk, room_for_walk}
use Rattle.core_ffi.specs.lemmas.Slices.{eleven_some, refused_keeps}

abbrev pub bounds_by : MostPlan → List ℕ
bounds_by m = m.bound ∷ m.bound_any ∷ cond m.exact 1 0 ∷ []

pub most_whole : (h : JobInput) (lent lent' : PlanSlices) (bounds bounds' work work' : List ℕ) (a : Result MostPlan Refusal) (r : ℕ)
    → 4 ≤ length lent.counts
    → 3 ≤ length bounds
    → MostPromise h (room_of lent) work a (room_of lent') work'
    → lent'.counts ≡ stored_of (λ (m : MostPlan). m.counts) (by_number a) lent.counts
    → bounds' ≡ stored_of bounds_by (by_number a) bounds
    → r ≡ number_by (λ (m : MostPlan). m.rows) (by_number a)
    → MostReturned h lent bounds work r lent' bounds' work'
most_whole h lent lent' bounds bounds' work work' a r room three promise ek ew er =
    let j = job_in h in
    let set = promise.set in
    let made = promise.output in
    let refused : ℕ = most_refusal h (room_of lent) work in
    let same = room_for_walk refused lent.counts bounds room three in
    record {
      set = set;
      bound = promise.bound;
      finds = promise.finds;
      plan =
          whole_returned (λ (m : MostPlan). m.rows) (λ (m : MostPlan). m.counts) (with_walk refused lent.counts bounds) refused (marks_of j (plan_over j set)) (rows_over j set) (most_numbers j set promise.bound)
          lent lent' (by_number a) r same refl
          made.answer made.marks_are made.slots_are made.chunks_are made.layers_are made.bytes_are ek er;
      bounds_are =
          ew ∙ stored bounds_by refused (most_numbers j set promise.bound) (by_number a) bounds made.answer ∙ ap (λ (n : ℕ). lent_after n (bounds_of h set promise.bound) bounds) (sym same);
      work_long = made.work_long;
      work_kept = λ some. made.work_kept (ne_eqb refused 0 (λ z. some (same ∙ z)));
    }

-- The library's call is not made: the plan's own bases and the computed bound are such a set.
pub most_short : (h : JobInput) (lent : PlanSlices) (bounds work : List ℕ) (a : Result ℕ ℕ)
    → NoRoom lent.counts bounds
    → a ≡ Err (job_refusal h or_else 11)
    → MostReturned h lent bounds work (answer_number a) lent bounds work
most_short h lent bounds work a short e =
    let j = job_in h in
    let set = kept j (plan j) in
    let W : ℕ = with_walk (most_refusal h (room_of lent) work) lent.counts bounds in
    let is : W ≡ job_refusal h or_else 11 = no_room_for_walk (job_refusal h) (lent_room j (room_of lent) work) lent.counts bounds short in
    let some : W ≡ 0 → ⊥ = λ z. eleven_some (job_refusal h) (sym is ∙ z) in
    record {
      set = set;
      bound = bound j;
      finds = λ z. plan_finds j (input_accepted h z);
      plan = short_returned W (job_refusal h) (marks_of j (plan_over j set)) (rows_over j set) (counts_of j (plan_over j set)) lent (answer_number a) is (ap answer_number e);
      bounds_are = sym (refused_keeps W (bounds_of h set (bound j)) bounds some);
      work_long = refl;
      work_kept = λ z. refl;
    }
