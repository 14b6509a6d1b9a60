-- Meaning. What is promised of the plan made afresh and of its own rows, in request 12's sentences.
-- That they hold is proved in Theorems and Desk.
use Rattle.std.specs.Prelude.{ℕ, ◌≤◌, ◌<◌, ◌≡◌, List, ◌++◌, length, T}
use Rattle.theory_basics.specs.Tests.{All}
use Rattle.job.specs.Job.{due, Job, Layer, layers}
use Rattle.fetch.specs.Rows.{bytes_of_layer, Carried, held, layer_count, Row}
use Rattle.fetch.specs.Rules.{PlayingOrder}
use Rattle.fetch.specs.RulesFrom.{KeepsFrom}
use Rattle.theory_plan.specs.Own.{Ascending, own_list}
use Rattle.theory_plan.specs.Statement.{CarriesExactly, Same, count_of, marks_of}
use Rattle.theory_replan.specs.Own.{own_rest}
use Rattle.theory_replan.specs.Refusal.{replan_refusal}
use Rattle.theory_replan.specs.Statement.{IsReplan, joined, rows_from}

-- Of the rows fetched and the own rows from p on, together:
pub record CarriesAfresh (j : Job) (p : ℕ) (fetched : List Row) (plan : ℕ → ℕ) (rest : List Row) : Type 0 where
  -- "only the rows from p on"
  pub later : All (λ x. p ≤ x.slot) rest
  -- "together with the handed rows they pass that call", the checker's from slot p on, with the
  -- plan's marks ..
  pub keeps : KeepsFrom j p (marks_of j plan) (fetched ++ rest)
  -- .. in playing order, and carry the plan's layers and no others, as its counts say.
  pub in_order : PlayingOrder j (fetched ++ rest)
  pub exactly : CarriesExactly j (fetched ++ rest) plan
  pub counted : (n : ℕ) → n < layers j → layer_count j (fetched ++ rest) n ≡ count_of j plan n

-- "A begun layer that is given up stays spent, isn't carried, and its chunk is held to its due
-- slot."
pub record GivenUp (j : Job) (p : ℕ) (fetched rest : List Row) (i n : ℕ) : Type 0 where
  pub spent : bytes_of_layer (fetched ++ rest) i n ≡ bytes_of_layer fetched i n
  pub not_carried : Carried j (fetched ++ rest) i n → ⊥
  pub held_on : (t : ℕ) → p ≤ t → t < due j i → T (held j (fetched ++ rest) t i)

-- What a call that is not refused hands over:
pub record Replans (j : Job) (p : ℕ) (fetched : List Row) (plan : ℕ → ℕ) : Type 0 where
  -- a plan made afresh, and the only one,
  pub settled : IsReplan j p fetched plan
  pub only : (other : ℕ → ℕ) → IsReplan j p fetched other → Same j other plan
  -- with its own rows, by slot, chunk and layer, of which there are at most 5,599;
  pub carries : CarriesAfresh j p fetched plan (own_rest j p fetched plan)
  pub ascending : Ascending (own_rest j p fetched plan)
  pub few_rows : length (own_rest j p fetched plan) ≤ 5599
  -- and what is said above of each begun layer that it gives up.
  pub given_up : (i n : ℕ) → Layer j i n → plan i ≤ n → 1 ≤ bytes_of_layer fetched i n → GivenUp j p fetched (own_rest j p fetched plan) i n

-- "If the standing plan was settled for the whole job in document 01's way, bases too, the rows are
-- all its own before p and the forecast hasn't changed, the new rows are exactly the rest of that
-- plan."
pub record Continues (j : Job) (q : ℕ → ℕ) (p : ℕ) (fetched : List Row) (onward : List ℕ) : Type 0 where
  pub accepted : replan_refusal j p fetched onward ≡ 0
  pub same : (plan : ℕ → ℕ) → IsReplan (joined j p onward) p fetched plan → Same j plan q
  pub rest : (plan : ℕ → ℕ) → IsReplan (joined j p onward) p fetched plan → own_rest (joined j p onward) p fetched plan ≡ rows_from p (own_list j q)
