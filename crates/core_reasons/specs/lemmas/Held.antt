-- Lemmas. For tables that hold the kept chunks of a choice that can't be carried, a chunk is late,
-- and the two passes over the tables give the stretch that is named.
use Rattle.std.specs.Prelude.{ℕ, ◌-◌, ◌≤◌, ◌<◌, ◌≡◌, List, length, get_or}
use Rattle.std.proofs.Common.{sym, ap, ◌∙◌, arith, length-drop, get_or-drop, get_or-take}
use Rattle.std.proofs.lemmas.List.{length-map}
use Rattle.theory_basics.specs.lemmas.Ranges.{pre_mono}
use Rattle.theory_basics.specs.lemmas.Lists.{get_d_map}
use Rattle.job.specs.Job.{Accepted, Job, due, forecast, held_most, last_slot}
use Rattle.theory_plan.specs.Plan.{bytes as carried_bytes, kept}
use Rattle.theory_plan.specs.lemmas.Choice.{fits_can_carry}
use Rattle.theory_plan.specs.Statement.{CanCarry, Choice}
use Rattle.theory_plan.specs.lemmas.Words.{accepted_sized}
use Rattle.theory_plan.specs.lemmas.Queue.{releases, release_at}
use Rattle.theory_reasons.proofs.Bridge.{due_in, kept_bytes, kept_due, rising, up_to_slot}
use Rattle.theory_reasons.specs.Lines.{stretch_of}
use Rattle.theory_reasons.proofs.Named.{passed, passed_late, stretch_passed}
use Rattle.theory_reasons.specs.lemmas.Search as Search
use Rattle.theory_reasons.specs.lemmas.Search.{Agrees, forward, forward_agrees, forward_is, search_agrees}
use Rattle.theory_reasons.proofs.Kept.{can_begin, kept_count}
use Rattle.core_reasons.specs.lemmas.Passes.{Holds, late_in, place, search_in, up_to_in}

module _ (j : Job) (a : Accepted j) (choice : ℕ → ℕ) (after dues ready bytes : List ℕ) (first : ℕ) (h : Holds j choice after dues ready bytes first) (long : length dues ≡ 500) where
  abbrev c : ℕ
  c = kept_count j choice

  count_is : 500 - first ≡ c
  count_is = omega (arith, length-drop first dues, ap length h.due_slots, length-map (kept j choice) (due j))

  bytes_at_lem : (q : ℕ) → q < c → place first bytes q ≡ kept_bytes j choice q
  bytes_at_lem q l = sym (get_or-drop first bytes q 0) ∙ ap (λ (t : List ℕ). get_or t q 0) h.carried ∙ get_d_map (carried_bytes j choice) (kept j choice) q l

  due_at_lem : (q : ℕ) → q < c → place first dues q ≡ kept_due j choice q
  due_at_lem q l = sym (get_or-drop first dues q 0) ∙ ap (λ (t : List ℕ). get_or t q 0) h.due_slots ∙ get_d_map (due j) (kept j choice) q l

  begin_at : (q : ℕ) → q < c → place first ready q ≡ can_begin j choice q
  begin_at q l =
      let ks = kept j choice in
      let H = held_most j in
      sym (get_or-drop first ready q 0)
      ∙ ap (λ (t : List ℕ). get_or t q 0) h.release_slots
      ∙ get_or-take (500 - first) (releases (due j) H ks) q 0 (omega (arith, count_is))
      ∙ release_at (due j) H ks q l

  up_to : (t : ℕ) → t ≤ last_slot j → up_to_in after t ≡ up_to_slot j t
  up_to t l = rw (h.sums 0, h.sums t) (omega (arith, pre_mono (forecast j) t (last_slot j) l))

  tables_agree : Agrees (kept_bytes j choice) (kept_due j choice) (can_begin j choice) (up_to_slot j) (place first bytes) (place first dues) (place first ready) (up_to_in after) c
  tables_agree =
      record {
        bytes = λ q l. sym (bytes_at_lem q l);
        due = λ q l. sym (due_at_lem q l);
        begin = λ q l. sym (begin_at q l);
        up_to_due = λ q l. rw (due_at_lem q l) (sym (up_to (kept_due j choice q) (due_in j a choice q l)));
        up_to_begin = λ q l.
            rw (begin_at q l)
            (sym (up_to (can_begin j choice q - 1) (omega (arith, (rising j a choice).begin_due q l, due_in j a choice q l))));
      }

  module _ (ok : Choice j choice) (never : CanCarry j choice → ⊥) where
    late : forward (kept_bytes j choice) (kept_due j choice) (can_begin j choice) (up_to_slot j) 0 0 c < c
    late = rw (forward_is (kept_bytes j choice) (kept_due j choice) (can_begin j choice) (up_to_slot j) 0 c) (passed_late j a choice (λ f. never (fits_can_carry j (accepted_sized j a) choice ok f)))

    pub tables_late : late_in after dues ready bytes first < 500 - first
    tables_late =
        let e = forward_agrees (kept_bytes j choice) (kept_due j choice) (can_begin j choice) (up_to_slot j) (place first bytes) (place first dues) (place first ready) (up_to_in after) c tables_agree 0 0 c (omega arith) in
        rw count_is (rw e at late)

    tables_passed : search_in after dues ready bytes first ≡ passed j choice
    unfolding passed
    tables_passed =
        ap (Search.search (place first bytes) (place first dues) (place first ready) (up_to_in after)) count_is
        ∙ sym (search_agrees (kept_bytes j choice) (kept_due j choice) (can_begin j choice) (up_to_slot j) (place first bytes) (place first dues) (place first ready) (up_to_in after) c tables_agree late)

    pub tables_stretch : search_in after dues ready bytes first ≡ stretch_of j choice
    tables_stretch = tables_passed ∙ sym (stretch_passed j a choice (λ f. never (fits_can_carry j (accepted_sized j a) choice ok f)))
