-- Laws on what the reader answers: tests and forecast by the counts are those of the meaning.
-- Assumes nothing.
use Prim.Native.Nat.{ℕ, ◌+◌, ◌*◌, ◌≤◌, ◌<◌, min}
use mathlib.Core.Path.{◌≡◌, refl, sym, ap, ◌∙◌}
use mathlib.Core.Bool.{Bool, true, false, and-false}
use mathlib.Core.List.{List}
use mathlib.Core.Logic.{⊎_elim}
use native.Mathlib.Omega.{arith}
use lib.ListN.{length, get_or, take, replicate}
use lib.Dec.{T, leb, leb→le, nleb→lt}
use borrow.Author.Tests.{ne_eqb, le-leb, lt-leb}
use Rattle.theory_basics.specs.Lent.{over}
use Rattle.theory_basics.specs.Lists.{up_to}
use Rattle.theory_basics.specs.lemmas.Lists.{get_d_up_to, up_to_cong}
use Rattle.theory_basics.specs.Refusals.{unless, ◌or_else◌}
use Rattle.theory_basics.specs.lemmas.Refusals.{unless_iff, or_else_iff, or_else_none, or_else_some}
use Rattle.theory_basics.specs.Tests.{all}
use Rattle.theory_basics.specs.lemmas.Tests.{T_true, test}
use Rattle.job.specs.Refusal.{within}
use Rattle.std.specs.Prelude.{Ok, Err}
use Rattle.refusals.specs.declared.Refusal.{Refusal}
use Rattle.refusals.specs.declared.Refusal.TheVariants.{Forecast, ShortBuffer}
use Rattle.refusals.specs.Numbers.{number_of}
use Rattle.refusals.specs.Laws.{number_above_0}
use Rattle.trace.specs.Answer.{TraceReadPromise, trace_read_refusal}
use Rattle.trace.specs.Trace.{forecast_of, how_many, in_slot, times, trace_refusal}
use Rattle.trace.specs.lemmas.Lists.{all_up_to, map_up_to, take_up_to}
use Rattle.trace.specs.lemmas.Passes.{Counted, few_lines, lines_forecast}
use Rattle.trace.specs.lemmas.Scan.{scan_fine, scan_times}
use Rattle.trace.specs.lemmas.Tally.{tally, tally_counts}
use Rattle.trace.proofs.Counts.{few_at}

-- A count that stops is above 11,184 exactly if its bytes are above 16,777,216.
few_same : (h : ℕ) → leb (min 11185 h) 11184 ≡ within 0 16777216 (1500 * h)
few_same h =
    ⊎_elim
    (λ t. let l = leb→le h 11184 t in rw (le-leb (min 11185 h) 11184 (omega arith), le-leb 0 (1500 * h) (omega arith), le-leb (1500 * h) 16777216 (omega arith)))
    (λ t. let l = nleb→lt h 11184 t in rw (lt-leb (min 11185 h) 11184 (omega arith), le-leb 0 (1500 * h) (omega arith), lt-leb (1500 * h) 16777216 (omega arith)))
    (test (leb h 11184))

-- ---- what is handed

module _ (trace : List ℕ) (slots : ℕ) (old : List ℕ) where
  refused : (e : Refusal) → trace_read_refusal trace slots (length old) ≡ number_of e → TraceReadPromise trace slots old (Err e) old
  refused e h = let o : number_of e ≡ 0 → ⊥ = λ z. omega (arith, number_above_0 e) in record { answer = rw (h, ne_eqb (number_of e) 0 o); buffer = rw (h, ne_eqb (number_of e) 0 o) }

  by_input : (e : Refusal) → trace_refusal slots trace ≡ number_of e → TraceReadPromise trace slots old (Err e) old
  by_input e h = refused e (or_else_some (trace_refusal slots trace) (unless 11 (leb slots (length old))) (λ z. omega (arith, number_above_0 e, h, z)) ∙ h)

  by_slots : within 1 3600 slots ≡ false → TraceReadPromise trace slots old (Err Forecast) old
  unfolding trace_refusal
  by_slots e = by_input Forecast (rw e)

  pub read_none : slots < 1 → TraceReadPromise trace slots old (Err Forecast) old
  read_none h = by_slots (rw (lt-leb 1 slots h))

  pub read_many : 3600 < slots → TraceReadPromise trace slots old (Err Forecast) old
  read_many h = by_slots (rw (lt-leb slots 3600 h) (and-false (leb 1 slots)))

  module _ (low : 1 ≤ slots) (high : slots ≤ 3600) (counts : List ℕ) (long : length counts ≡ 3600) (r : Bool) (c : Counted trace (replicate 3600 0) counts r) where
    abbrev count : ℕ → ℕ
    count k = min 11185 (how_many (in_slot (k + 1)) (times trace))

    table : T r → counts ≡ up_to count 3600
    unfolding times
    table u = c.counts u ∙ ap (tally 11185 (replicate 3600 0)) (scan_times trace) ∙ tally_counts 11185 3600 (times trace)

    first : T r → take slots counts ≡ up_to count slots
    first u = ap (take slots) (table u) ∙ take_up_to count slots 3600 high

    few_is : T r → few_lines (take slots counts) ≡ all (within 0 16777216) (forecast_of slots trace)
    unfolding forecast_of
    few_is u =
        ap few_lines (first u)
        ∙ all_up_to (λ n. leb n 11184) (within 0 16777216) count (λ k. 1500 * how_many (in_slot (k + 1)) (times trace)) slots
        (λ k. few_same (how_many (in_slot (k + 1)) (times trace)))

    -- 14 and 15 by what the passes say. What the counts are worth where 14 is found does not
    -- matter.
    input : trace_refusal slots trace ≡ unless 14 r or_else unless 15 (few_lines (take slots counts))
    unfolding trace_refusal
    input = rw (le-leb 1 slots low, le-leb slots 3600 high) (rw (sym (scan_fine trace), sym c.fine) (past r few_is))
      where
        past : (r : Bool) {a b : Bool} → (T r → a ≡ b) → unless 14 r or_else unless 15 b ≡ unless 14 r or_else unless 15 a
        past true e = rw (e tt)
        past false e = refl

    pub read_refused : (e : Refusal) → number_of e ≡ unless 14 r or_else unless 15 (few_lines (take slots counts)) → TraceReadPromise trace slots old (Err e) old
    read_refused e h = by_input e (input ∙ sym h)

    module _ (none : unless 14 r or_else unless 15 (few_lines (take slots counts)) ≡ 0) where
      both : T r × T (few_lines (take slots counts))
      both =
          let u = (or_else_iff (unless 14 r) (unless 15 (few_lines (take slots counts)))).0 none in
          ((unless_iff 14 r (omega arith)).0 u.0, (unless_iff 15 (few_lines (take slots counts)) (omega arith)).0 u.1)

      pub read_few : few_lines (take slots counts) ≡ true
      read_few = T_true (few_lines (take slots counts)) both.1

      room_only : trace_read_refusal trace slots (length old) ≡ unless 11 (leb slots (length old))
      room_only = or_else_none (trace_refusal slots trace) (unless 11 (leb slots (length old))) (input ∙ none)

      pub read_short : length old < slots → TraceReadPromise trace slots old (Err ShortBuffer) old
      read_short h = refused ShortBuffer (room_only ∙ rw (lt-leb slots (length old) h))

      forecast_is : lines_forecast (take slots counts) ≡ forecast_of slots trace
      unfolding forecast_of
      forecast_is =
          ap lines_forecast (first both.0)
          ∙ map_up_to (λ n. n * 1500) count slots
          ∙ up_to_cong (λ k. count k * 1500) (λ k. 1500 * how_many (in_slot (k + 1)) (times trace)) slots
          (λ k h.
          let t : get_or counts k 0 ≡ count k = rw (table both.0) (get_d_up_to count 3600 k 0 (omega arith)) in
          omega (arith, t, few_at counts slots k long high read_few h))

      pub read_done : (new : List ℕ) → slots ≤ length old → new ≡ over (lines_forecast (take slots counts)) old → TraceReadPromise trace slots old (Ok slots) new
      read_done new h x =
          let z : trace_read_refusal trace slots (length old) ≡ 0 = room_only ∙ rw (le-leb slots (length old) h) in
          record { answer = rw z; buffer = rw z (x ∙ ap (λ (l : List ℕ). over l old) forecast_is) }
