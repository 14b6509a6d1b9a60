-- Lemmas. What the functions of lib.rt hand each other: the lines of a plan, one under each missing
-- layer.
use Rattle.std.specs.Prelude.{ℕ, ◌+◌, ◌-◌, ◌/◌, ◌≤◌, ◌<◌, ◌≡◌, Bool, cond, ◌&&◌, List, map, length, get_or, eqb}
use Rattle.job.specs.declared.Programme.{Programme}
use Rattle.job.specs.Job as Job
use Rattle.job.specs.Job.{Accepted, Job, last_due}
use Rattle.theory_plan.specs.Statement.{Choice}
use Rattle.theory_reasons.specs.Lines.{line_at, lines_of}
use Rattle.theory_reasons.specs.Statement.{Place, missing_of, reasons_text, sentence}
use Rattle.theory_reasons.proofs.Refused.{Refuses}
use Rattle.core_reasons.specs.lemmas.Tables.{Given, trial}
use Rattle.core_text.specs.lemmas.Places.{Put}

-- ---- the choice that a line is against

-- The chunks before the missing one have its lower layers, or their bases where request 9 settled
-- them.
abbrev pub cap_of : Bool → ℕ → ℕ
cap_of most n = cond (most && eqb n 0) 1 n

abbrev pub against_by : Bool → (ℕ → ℕ) → ℕ → ℕ → ℕ → ℕ
against_by most plan i n = trial plan i n (cap_of most n)

-- ---- the job and the plan behind the tables

pub record Facts (j : Job) (plan : ℕ → ℕ) (p : Programme) (most : Bool) (sums after levels : List ℕ) : Type 0 where
  pub accepted : Accepted j
  pub given : Given j plan p sums after levels
  pub choice : Choice j plan
  pub refuses : Refuses j plan (against_by most plan)

-- ---- the texts

abbrev pub sentence_at : Job → (ℕ → ℕ) → Bool → Place → List ℕ
sentence_at j plan most x = sentence (line_at j plan (against_by most plan) x.chunk x.layer)

abbrev pub text_at : Job → (ℕ → ℕ) → Bool → List Place → List ℕ
text_at j plan most xs = reasons_text (map (λ x. line_at j plan (against_by most plan) x.chunk x.layer) xs)

-- ---- what is handed

pub record TablesPre (p : Programme) (held : ℕ) (sums after levels : List ℕ) : Type 0 where
  pub few : p.chunks ≤ 500
  pub late : 1 ≤ p.delay
  pub ends : last_due p ≤ 3600
  pub held_is : held ≡ p.limit / p.span
  pub forecasts : (t : ℕ) → get_or after t 0 ≤ 60397977600
  pub long : (length sums ≡ 2000) × (length after ≡ 3601) × (length levels ≡ 500)

-- A job and a plan of which these are the tables are part of what is asked: the room asked for is
-- that of their lines.
pub record PutLinePre (p : Programme) (held : ℕ) (most : Bool) (sums after levels : List ℕ) (i n have : ℕ) (out : List ℕ) (at : ℕ) : Type 0 where
  pub tables : TablesPre p held sums after levels
  pub chunk_low : 1 ≤ i
  pub chunk_high : i ≤ p.chunks
  pub layer : n ≤ 3
  pub have_is : have ≡ get_or levels (i - 1) 0
  pub missing : have ≤ n
  pub job : Job
  pub plan : ℕ → ℕ
  pub facts : Facts job plan p most sums after levels
  pub in_job : n < Job.layers job
  pub room : at + length (sentence_at job plan most (record { chunk = i; layer = n })) ≤ length out

-- The line of every job and plan of which these are the tables.
pub record PutLinePost (p : Programme) (most : Bool) (sums after levels : List ℕ) (i n : ℕ) (old : List ℕ) (at : ℕ) (out : List ℕ) (next : ℕ) : Type 0 where
  pub put : (j : Job) (plan : ℕ → ℕ) → Facts j plan p most sums after levels → n < Job.layers j → Put old at (sentence_at j plan most (record { chunk = i; layer = n })) out next

pub record PutChunkPre (p : Programme) (held layers : ℕ) (most : Bool) (sums after levels : List ℕ) (i : ℕ) (out : List ℕ) (at : ℕ) : Type 0 where
  pub tables : TablesPre p held sums after levels
  pub chunk_low : 1 ≤ i
  pub chunk_high : i ≤ p.chunks
  pub job : Job
  pub plan : ℕ → ℕ
  pub facts : Facts job plan p most sums after levels
  pub layers_is : layers ≡ Job.layers job
  pub room : at + length (text_at job plan most (missing_of plan i layers)) ≤ length out

pub record PutChunkPost (p : Programme) (layers : ℕ) (most : Bool) (sums after levels : List ℕ) (i : ℕ) (old : List ℕ) (at : ℕ) (out : List ℕ) (next : ℕ) : Type 0 where
  pub put : (j : Job) (plan : ℕ → ℕ) → Facts j plan p most sums after levels → layers ≡ Job.layers j → Put old at (text_at j plan most (missing_of plan i layers)) out next

pub record PutReasonsPre (p : Programme) (held layers : ℕ) (most : Bool) (sums after levels out : List ℕ) : Type 0 where
  pub tables : TablesPre p held sums after levels
  pub job : Job
  pub plan : ℕ → ℕ
  pub facts : Facts job plan p most sums after levels
  pub layers_is : layers ≡ Job.layers job
  pub room : length (reasons_text (lines_of job plan (against_by most plan))) ≤ length out

-- The lines of every job and plan of which these are the tables.
pub record PutReasonsPost (p : Programme) (layers : ℕ) (most : Bool) (sums after levels old out : List ℕ) (next : ℕ) : Type 0 where
  pub put : (j : Job) (plan : ℕ → ℕ) → Facts j plan p most sums after levels → layers ≡ Job.layers j → Put old 0 (reasons_text (lines_of j plan (against_by most plan))) out next
