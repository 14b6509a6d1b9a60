-- Laws on the stretch of a trial: what the tables hold. Assumes nothing.
use mathlib.Core.Path.{◌≡◌, sym, ◌∙◌, ap}
use mathlib.Core.Bool.{cond}
use mathlib.Core.List.{List, ◌++◌, map}
use Prim.Native.Nat.{ℕ, suc, ◌-◌, ◌/◌, ◌≤◌, min}
use native.Mathlib.Omega.{arith}
use lib.ListN.{length, take, drop}
use lib.Dec.{eqb, leb, ltb, leb→le}
use Rattle.theory_basics.specs.Sums.{sum}
use Rattle.theory_basics.specs.Tests.{All}
use Rattle.job.specs.declared.Programme.{Programme}
use Rattle.job.specs.Job.{Job, Within, chunks, due, due_slot, held_most, size}
use Rattle.theory_plan.specs.Plan.{kept}
use Rattle.theory_plan.specs.lemmas.Kept.{picked_cong, picked_each}
use Rattle.theory_plan.specs.lemmas.Queue.{ones, release_slots}
use Rattle.theory_plan.specs.Statement.{Choice}
use Rattle.core_reasons.specs.declared.passes.Stretch.{Stretch}
use Rattle.core_reasons.specs.lemmas.Tables.{Given, SetTablesPost, FindShortPost, FindShortPre, bytes_in, chunks_in, level_in, trial}
use Rattle.core_reasons.specs.lemmas.Passes.{Holds, FindStretchPost, FindStretchPre}
use Rattle.theory_basics.specs.lemmas.Tables.{all_from}
use Rattle.theory_basics.specs.lemmas.Lists.{map_cong, all_of_map}
use Rattle.theory_plan.specs.lemmas.Words.{due_by}

module _ (p : Programme) (held : ℕ) (sums after levels : List ℕ) (i n cap first : ℕ) (dues ready bytes : List ℕ) (l : SetTablesPost p sums levels i n cap first dues bytes) (r : drop first ready ≡ take (500 - first) (ones held ++ drop first dues)) where
  -- ---- slots

  slots : 1 ≤ p.delay → p.chunks ≤ 500 → due_slot p p.chunks ≤ 3600 → All (Within 1 3600) (drop first dues)
  slots late few ends =
      rw l.due_slots
      (all_of_map (Within 1 3600) (due_slot p) (chunks_in p levels i n cap)
      (picked_each (λ k. leb 1 (level_in levels i n cap k)) (λ k. Within 1 3600 (due_slot p k)) 0 p.chunks (λ k u v t. record { low = omega arith; high = omega (arith, due_by p k (omega arith)) })))

  pub pass_from : FindShortPre p held after n cap → length dues ≡ 500 → length ready ≡ 500 → FindStretchPre after dues ready first
  pass_from o d e =
      let s = slots o.late o.few o.ends in
      let b : All (Within 1 3600) (drop first ready) = rw r (release_slots held (500 - first) (drop first dues) s) in
      record {
        within = l.within;
        sums = o.forecasts;
        due_slots = λ k u v. all_from (Within 1 3600) dues first k s u (omega (arith, d));
        begins = λ k u v. all_from (Within 1 3600) ready first k b u (omega (arith, e));
      }

  -- ---- the kept chunks

  module _ (j : Job) (plan : ℕ → ℕ) (g : Given j plan p sums after levels) (ok : Choice j (trial plan i n cap)) where
    same_chunks : p.chunks ≡ chunks j
    same_chunks = ap (λ (q : Programme). q.chunks) (sym g.same)

    same_level : (k : ℕ) → 1 ≤ k → k ≤ chunks j → level_in levels i n cap k ≡ trial plan i n cap k
    same_level k u v = ap (λ (m : ℕ). cond (eqb k i) (suc n) (min m (cond (ltb i k) (suc n) cap))) (g.carried k u v)

    same_kept : chunks_in p levels i n cap ≡ kept j (trial plan i n cap)
    same_kept =
        rw same_chunks
        (picked_cong (λ k. leb 1 (level_in levels i n cap k)) (λ k. leb 1 (trial plan i n cap k)) 0 (chunks j) (λ k u v. ap (leb 1) (same_level k u (omega arith))))

    same_dues : drop first dues ≡ map (due j) (kept j (trial plan i n cap))
    same_dues = l.due_slots ∙ rw same_kept (ap (λ (q : Programme). map (due_slot q) (kept j (trial plan i n cap))) (sym g.same))

    same_bytes : drop first bytes ≡ map (λ k. sum (size j k) (trial plan i n cap k)) (kept j (trial plan i n cap))
    same_bytes =
        l.carried
        ∙ rw same_kept
        (map_cong (λ k. bytes_in sums k (level_in levels i n cap k)) (λ k. sum (size j k) (trial plan i n cap k)) (kept j (trial plan i n cap))
        (picked_each (λ k. leb 1 (trial plan i n cap k)) (λ k. bytes_in sums k (level_in levels i n cap k) ≡ sum (size j k) (trial plan i n cap k)) 0 (chunks j) (λ k u v t.
        ap (bytes_in sums k) (same_level k u (omega arith)) ∙ g.sizes k (trial plan i n cap k) u (omega arith) (leb→le 1 (trial plan i n cap k) t) (ok k u (omega arith)))))

    holds : held ≡ held_most j → Holds j (trial plan i n cap) after dues ready bytes first
    holds e =
        record {
          sums = g.forecasts;
          due_slots = same_dues;
          release_slots = r ∙ rw (e, same_dues);
          carried = same_bytes;
        }

  pub short_found : (s : Stretch) → held ≡ p.limit / p.span → FindStretchPost after dues ready bytes first s → FindShortPost p sums after levels i n cap s
  short_found s e m =
      record {
        found = λ j a plan g ok never.
            m.found j a (trial plan i n cap) ok never (holds j plan g ok (e ∙ ap (λ (q : Programme). q.limit / q.span) (sym g.same)));
      }
