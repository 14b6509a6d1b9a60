-- Laws on the search: one s after the other; and by the tables it is the answer's definition.
-- Assumes nothing.
use Prim.Native.Nat.{ℕ, zero, suc, ◌+◌, ◌*◌, ◌-◌, ◌/◌, ◌≤◌, ◌<◌, min}
use mathlib.Core.Path.{◌≡◌, refl, sym, ap, ◌∙◌}
use mathlib.Core.Bool.{Bool, true, false, cond, ◌&&◌}
use mathlib.Core.List.{List, ◌∷◌}
use mathlib.Core.Logic.{⊎_elim}
use native.Mathlib.Omega.{arith}
use native.Mathlib.Numerals.{add-one}
use lib.ListN.{length, get_or, replicate, get_or-replicate, get_or-eq_default}
use lib.Dec.{leb, ltb, ltb→lt, nltb→le}
use Rattle.theory_basics.specs.lemmas.Ranges.{pre_mono, pre_most}
use Rattle.theory_basics.specs.lemmas.Tests.{same_test, test}
use Rattle.job.specs.Job.{Override, size_in}
use Rattle.core_sizes.specs.Table.{sizes_table}
use Rattle.core_sizes.specs.lemmas.Table.{table_says}
use Rattle.job.specs.lemmas.Within.{all_most}
use Rattle.theory_plan.specs.Plan.{plan}
use Rattle.theory_plan.proofs.Theorems.{plan_exists}
use Rattle.theory_plan.specs.lemmas.Parts.{Small}
use Rattle.theory_plan.specs.lemmas.Trials.{candidate}
use Rattle.theory_plan.specs.lemmas.Words.{accepted_sized}
use Rattle.wait.specs.Answer.{first_from, shortest, skips_none, tries}
use Rattle.wait.specs.Theorems.{job_accepted, skips_none_iff, works_iff_plan}
use Rattle.wait.specs.Wait.{Film, FilmInRange, Tried, film_of, job_at}
use Rattle.wait.specs.lemmas.First.{first_below, first_same}
use Rattle.wait.specs.lemmas.Scan.{keeps_all, kept_with_iff, kept_with, left, needs_from}
use Rattle.wait.proofs.Passes.{due_in}
use Rattle.wait.specs.lemmas.Table.{BaseTable, Free, KeepsAllPost, FindDelayPre, SumTable, due_at, kept_by, left_at, never, size_at}
use Rattle.theory_plan.proofs.AllBases.{no_skip_iff}

-- ---- one s after the other

pub record Searching (chunks span held n : ℕ) (bases sums begins : List ℕ) (s : ℕ) : Type 0 where
  pub low : 1 ≤ s
  pub inside : s ≤ n + 1
  pub says : first_from (kept_by chunks span held bases sums) 1 n ≡ first_from (kept_by chunks span held bases sums) s (n + 1 - s)
  pub free : Free chunks begins

module _ (chunks span held n : ℕ) (bases sums : List ℕ) where
  pub searching_start : (begins : List ℕ) → FindDelayPre chunks span held n bases sums begins → Searching chunks span held n bases sums begins 1
  searching_start begins o =
      let e : n + 1 - 1 ≡ n = omega arith in
      record { low = omega arith; inside = omega arith; says = rw e; free = o.free }

  module _ (begins : List ℕ) (s : ℕ) (w : Searching chunks span held n bases sums begins s) where
    pub searching_end : n < s → 0 ≡ first_from (kept_by chunks span held bases sums) 1 n
    searching_end h = let e : n + 1 - s ≡ 0 = omega (arith, w.inside) in sym (w.says ∙ rw e)

    module _ (here : s ≤ n) (begins' : List ℕ) (r : Bool) (d : KeepsAllPost chunks span held s bases sums begins' r) where
      next :
          first_from (kept_by chunks span held bases sums) 1 n
          ≡ cond r s (first_from (kept_by chunks span held bases sums) (s + 1) (n + 1 - (s + 1)))
      next =
          let e : n + 1 - s ≡ suc (n + 1 - (s + 1)) = omega arith in
          w.says ∙ ap (first_from (kept_by chunks span held bases sums) s) e ∙ rw (d.answer, add-one s)

      pub searching_found : r ≡ true → s ≡ first_from (kept_by chunks span held bases sums) 1 n
      searching_found e = sym (next ∙ rw e)

      pub searching_more : r ≡ false → Searching chunks span held n bases sums begins' (s + 1)
      searching_more e = record { low = omega arith; inside = omega arith; says = next ∙ rw e; free = d.free }

-- ---- the pass sees no more than the tables have

module _
    (S S' D A A' : ℕ → ℕ) (C : ℕ) (sizes : (k : ℕ) → 1 ≤ k → k ≤ C → S k ≡ S' k)
    (lefts : (k : ℕ) → 1 ≤ k → k ≤ C → A (D k) ≡ A' (D k)) (befores : (k : ℕ) → 1 ≤ k → k ≤ C → A (D k - 1) ≡ A' (D k - 1))
    (all : A 0 ≡ A' 0) where
  needs_same : (lo m : ℕ) → lo + m ≤ C → needs_from S D A lo m ≡ needs_from S' D A' lo m
  needs_same lo zero h = refl
  needs_same lo (suc m) h = rw (needs_same (suc lo) m (omega arith), sizes (suc lo) (omega arith) (omega arith), lefts (suc lo) (omega arith) (omega arith))

  needs_long : (lo m : ℕ) → length (needs_from S' D A' lo m) ≡ m
  needs_long lo zero = refl
  needs_long lo (suc m) = ap suc (needs_long (suc lo) m)

  -- A need so far behind that there is none.
  held_same : (h : ℕ) (ns : List ℕ) → length ns ≤ 500 → get_or ns h 0 ≡ get_or ns (min h 500) 0
  held_same h ns l =
      ⊎_elim
      (λ t. let e : min h 500 ≡ h = omega (arith, ltb→lt h 500 t) in rw e)
      (λ t. let e : min h 500 ≡ 500 = omega (arith, nltb→le h 500 t) in get_or-eq_default ns 0 {n = h} (omega (arith, nltb→le h 500 t)) ∙ rw e (sym (get_or-eq_default ns 0 {n = 500} l)))
      (test (ltb h 500))

  keeps_same : (h : ℕ) → C ≤ 500 → (lo m : ℕ) → lo + m ≤ C → keeps_all S D A h lo m ≡ keeps_all S' D A' (min h 500) lo m
  keeps_same h few lo zero l = refl
  keeps_same h few lo (suc m) l =
      let ns : List ℕ = needs_from S' D A' (suc lo) m in
      let c : ℕ = candidate S' D A' ns (suc lo) in
      rw (keeps_same h few (suc lo) m (omega arith), needs_same (suc lo) m (omega arith), sizes (suc lo) (omega arith) (omega arith), lefts (suc lo) (omega arith) (omega arith), befores (suc lo) (omega arith) (omega arith), all)
      (ap (λ (n : ℕ). keeps_all S' D A' (min h 500) (suc lo) m && (leb c (A' 0) && leb n (A' (D (suc lo) - 1)))) (held_same h (c ∷ ns) (omega (arith, needs_long (suc lo) m))))

-- ---- of a film in range

module _ (chunks span limit : ℕ) (sizes : List ℕ) (os : List Override) (f : List ℕ) (r : FilmInRange (film_of chunks span limit sizes os f)) where
  abbrev film : Film
  film = film_of chunks span limit sizes os f

  pub bytes_small : Small f
  bytes_small = all_most 0 16777216 f r.forecast_in

  -- The plan skips no base exactly if the pass keeps every base.
  pass_is : (s : ℕ) → Tried film s → skips_none (job_at film s) ≡ kept_with film s
  pass_is s t =
      let j = job_at film s in
      let ok = job_accepted film s r t in
      let d = plan_exists j ok in
      let a = skips_none_iff film s r t in
      let b = works_iff_plan film s r t (plan j) d in
      let c = no_skip_iff j r.layers_in.low (accepted_sized j ok) (plan j) d in
      let k = kept_with_iff film s in
      same_test (skips_none j) (kept_with film s) (λ x. k.1 (c.0 (b.0 (a.0 x)))) (λ x. a.1 (b.1 (c.1 (k.0 x))))

  module _ (bases sums : List ℕ) (table : SumTable f sums) where
    pub search_from : (held : ℕ) → held ≤ 500 → FindDelayPre chunks span held (tries film) bases sums (replicate 1000 never)
    search_from held in_held =
        record {
          each = λ s l h begins free.
              let last : ℕ = (chunks - 1) * span + s in
              let in_f : last ≤ length f = omega arith in
              record {
                some = r.chunks_in.low;
                few = r.chunks_in.high;
                wait = l;
                reach = omega (arith, r.slots_in.high);
                held_in = in_held;
                zero_first = table.is 0 (omega arith);
                rise = λ a b u v. omega (arith, table.is a (omega arith), table.is b (omega arith), pre_mono (λ t. get_or f (t - 1) 0) a b u);
                most = omega (arith, table.is last in_f, pre_most (λ t. get_or f (t - 1) 0) 16777216 last (λ t. bytes_small (t - 1)), r.slots_in.high);
                free = free;
              };
          few = omega (arith, r.slots_in.high);
          free = λ k l h. get_or-replicate 1000 k never 0 h;
        }

    module _ (table-of-bases : BaseTable chunks (sizes_table sizes os) bases) where
      kept_same : (s : ℕ) → 1 ≤ s → s ≤ tries film → kept_with film s ≡ kept_by chunks span (min (limit / span) 500) bases sums s
      unfolding kept_with kept_by
      kept_same s l h =
          let last : ℕ = (chunks - 1) * span + s in
          let in_f : last ≤ length f = omega arith in
          let ok = job_accepted film s r (record { low = l; reaches = in_f }) in
          let same : (t : ℕ) → t ≤ last → left film s t ≡ left_at sums last t = λ t u. omega (arith, table.is last in_f, table.is t (omega arith)) in
          keeps_same (λ k. size_in sizes os k 0) (size_at bases) (due_at span s) (left film s) (left_at sums last) chunks
          (λ k u v. sym (table-of-bases k u v ∙ table_says (job_at film s) ok k 0))
          (λ k u v. same ((k - 1) * span + s) (due_in chunks span s v))
          (λ k u v. same ((k - 1) * span + s - 1) (omega (arith, due_in chunks span s v)))
          (same 0 (omega arith))
          (limit / span) r.chunks_in.high 0 chunks (omega arith)

      pub shortest_is :
          (n : ℕ) → n ≡ first_from (kept_by chunks span (min (limit / span) 500) bases sums) 1 (tries film) →
          (n ≡ shortest film) × (n ≤ 3600)
      unfolding shortest
      shortest_is n e =
          let by : ℕ → Bool = kept_by chunks span (min (limit / span) 500) bases sums in (
            e
                ∙ sym (first_same (λ s. skips_none (job_at film s)) by 1 (tries film) (λ s u v.
                pass_is s (record { low = u; reaches = omega arith }) ∙ kept_same s u (omega arith))),
            omega (arith, e, first_below by 1 (tries film) (omega arith), r.slots_in.high),
          )
