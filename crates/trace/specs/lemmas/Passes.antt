-- Lemmas. What each pass of the code over trace or table hands on.
use Rattle.std.specs.Prelude.{ℕ, ◌*◌, ◌-◌, ◌^◌, ◌≤◌, ◌<◌, ◌≡◌, Bool, List, map, T, leb, drop, get_or}
use Rattle.theory_basics.specs.Tests.{all}
use Rattle.trace.specs.lemmas.Scan.{scan}
use Rattle.trace.specs.lemmas.Tally.{tally}
use Rattle.job.specs.Refusal.{within}

-- The digits from a place on: what they say, and the first place that is none of them or is the
-- end.
pub record DigitsRead (trace : List ℕ) (from end value next : ℕ) : Type 0 where
  pub low : from ≤ next
  pub high : next ≤ end
  pub small : value < 10 ^ (next - from)
  pub says : (t : ℕ) → scan 0 0 Bool.true t (drop from trace) ≡ scan (next - from) value Bool.true t (drop next trace)
  pub stops : next < end → within 48 57 (get_or trace next 0) ≡ Bool.false

-- Whether refusal 14 leaves the trace alone; and then the counts of its times.
pub record Counted (trace old new : List ℕ) (r : Bool) : Type 0 where
  pub fine : r ≡ (scan 0 0 Bool.true 0 trace).fine
  pub counts : T r → new ≡ tally 11185 old (scan 0 0 Bool.true 0 trace).times

-- Each count is of at most 16,777,216 bytes.
abbrev pub few_lines : List ℕ → Bool
few_lines counts = all (λ n. leb n 11184) counts

-- 1,500 bytes for each line.
abbrev pub lines_forecast : List ℕ → List ℕ
lines_forecast counts = map (λ n. n * 1500) counts
