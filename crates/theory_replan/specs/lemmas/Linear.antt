-- Theorems. What the linear passes make of a plan made afresh: the new chunks, the begun chunks,
-- and each layer above the base. The code may compute the right-hand sides' left; nothing else is
-- asked of it.
use Rattle.std.specs.Prelude.{ℕ, zero, suc, ◌+◌, ◌-◌, ◌≤◌, ◌<◌, max, min, ◌≡◌, Bool, ◌&&◌, List, map, ◌⊎◌, T, leb, ltb}
use Rattle.std.proofs.Common.{ap, ◌∙◌, arith}
use Rattle.theory_basics.specs.Tests.{All}
use Rattle.job.specs.Job.{Accepted, chunks, due, held_most, Job, layers, size}
use Rattle.fetch.specs.Rows.{bytes_of_layer, Row}
use Rattle.theory_plan.specs.Plan.{picked}
use Rattle.theory_plan.specs.lemmas.Feasible.{need_of}
use Rattle.theory_plan.specs.lemmas.Level.{level}
use Rattle.theory_plan.specs.lemmas.Linear.{needs_of_lem}
use Rattle.theory_plan.specs.lemmas.Queue.{releases}
use Rattle.theory_plan.specs.lemmas.Trials.{back, Kept, level_mark, rooms, Stack, Tried}
use Rattle.theory_plan.specs.lemmas.Words.{accepted_sized, carries, layer_of}
use Rattle.theory_replan.specs.Plan.{after_from, bytes_left}
use Rattle.theory_replan.specs.Statement.{Acceptable, IsReplan}
use Rattle.theory_replan.specs.lemmas.Criterion.{busy_from}
use Rattle.theory_replan.specs.lemmas.Passes.{bases_begun_are, bases_new_are, bases_begun, bases_new, Begun, new_need}
use Rattle.theory_replan.specs.lemmas.Plan.{is_replan_accepts, is_replan_fits}
use Rattle.theory_replan.specs.lemmas.Upper.{layer_from_is}

module _ (j : Job) (a : Accepted j) (p : ℕ) (fetched : List Row) (ok : Acceptable j p fetched) (plan : ℕ → ℕ) (d : IsReplan j p fetched plan) where
  abbrev A : ℕ → ℕ
  A = after_from j p

  abbrev one : ℕ → ℕ
  one k = size j k 0

  -- What the fetched rows leave of a layer.
  abbrev rest : ℕ → ℕ → ℕ
  rest k n = size j k n - bytes_of_layer fetched k n

  abbrev is_begun : ℕ → Bool
  is_begun i = carries fetched i && leb p (due j i)

  abbrev is_kept : ℕ → Bool
  is_kept i = leb 1 (plan i)

  -- last: the last begun chunk, or 0.
  module _ (last : ℕ) (behind : All (λ x. x.chunk ≤ last) fetched) (top : (last ≡ 0) ⊎ T (carries fetched last)) (in_job : last ≤ chunks j) where
    pub new_bases :
        bases_new one (due j) A p (held_most j) (picked is_begun 0 (chunks j)) last (chunks j - last) ≡
        record { needs = needs_of_lem one (due j) A (picked is_kept last (chunks j - last)); chunks = picked is_kept last (chunks j - last) }
    new_bases =
        let sized = accepted_sized j a in
        let some = a.layers_in.low in
        bases_new_are j sized p fetched ok some plan (is_replan_fits j p fetched ok sized plan d) (λ i u v. is_replan_accepts j p fetched ok sized plan d i 0 (layer_of j i 0 u v some)) last behind last (chunks j - last) (omega arith) (omega arith)

    -- From the need of the new chunks on; 1 layer for each base kept, and the layers whole before
    -- p.
    pub begun_bases :
        bases_begun (λ b. rest b 0) (due j) A (λ b. leb 1 (level j fetched b)) (A 0) (need_of one (due j) A (picked is_kept last (chunks j - last))) (picked is_begun 0 last) ≡
        record { need = need_of (bytes_left j fetched (λ e. max (level j fetched e) (min (plan e) 1))) (due j) A (busy_from j p fetched plan); kept = picked (λ i. is_begun i && is_kept i) 0 last }
    begun_bases =
        let sized = accepted_sized j a in
        let some = a.layers_in.low in
        let f = is_replan_fits j p fetched ok sized plan d in
        let x : (i : ℕ) → 1 ≤ i → i ≤ chunks j → _ = λ i u v. is_replan_accepts j p fetched ok sized plan d i 0 (layer_of j i 0 u v some) in
        let e : chunks j - 0 ≡ chunks j = omega arith in
        let n = new_need j sized p fetched ok some plan f x last behind in_job top (chunks j - last) (omega arith) in
        let b = bases_begun_are j sized p fetched ok some plan f x last behind in_job top last 0 (omega arith) in
        rw e at (rw n at b)

  -- A layer above the base.
  abbrev kept_rest : (ℕ → ℕ) → ℕ → Kept
  kept_rest lv k = record { chunk = k; due = due j k; bytes = bytes_left j fetched lv k; mark = level_mark (lv k) }

  -- What is carried of the layers below n, with those whole before p.
  abbrev below : ℕ → ℕ → ℕ
  below n k = max (level j fetched k) (min (plan k) n)

  pub layer_pass :
      (n : ℕ) → 1 ≤ n → n < layers j →
      let cs = busy_from j p fetched plan in
      back rest A n (rooms A (A 0) (map (bytes_left j fetched (below n)) cs) (releases (due j) (held_most j) cs)) (map (kept_rest (below n)) cs) ≡
      record { need = need_of (bytes_left j fetched (below (suc n))) (due j) A cs; kept = map (kept_rest (below (suc n))) cs }
  layer_pass n up h =
      let sized = accepted_sized j a in
      layer_from_is j p fetched ok n up (omega (arith, a.layers_in.high)) h plan d.choice (is_replan_fits j p fetched ok sized plan d) (λ i u v. is_replan_accepts j p fetched ok sized plan d i n (layer_of j i n u v h))
