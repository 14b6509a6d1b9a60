-- Laws on the levels of chunks: the tables that set_levels has filled for the chunks behind k.
-- Assumes nothing.
use Prim.Native.Nat.{ℕ, ◌-◌, ◌≤◌, ◌<◌, min}
use mathlib.Core.Path.{◌≡◌, sym, ap, subst, ◌∙◌}
use mathlib.Core.List.{List}
use mathlib.Core.Logic.{⊎_elim}
use native.Mathlib.Omega.{arith}
use lib.ListN.{length, get_or, set}
use lib.Dec.{leb, leb→le, nleb→lt}
use Rattle.theory_basics.specs.lemmas.Tests.{test}
use Rattle.theory_basics.specs.lemmas.Tables.{at_set}
use Rattle.job.specs.declared.Programme.{Programme}
use Rattle.job.specs.Job.{Job, chunks, due_slot, job_of, last_due}
use Rattle.theory_plan.specs.Bases.{base_size}
use Rattle.theory_plan.specs.Plan.{after}
use Rattle.theory_plan.specs.lemmas.Words.{due_by}
use Rattle.theory_most.specs.Statement.{LeastAfter, end_of, open_of}
use Rattle.theory_most.specs.lemmas.Forward.{level_end, level_open}
use Rattle.theory_most.specs.lemmas.InTables.{EachJob, Says}

-- A table holds for each chunk behind k what P says.
abbrev Behind : Job → (ℕ → ℕ → Type 0) → ℕ → List ℕ → Type 0
Behind j P k table = (i : ℕ) → k < i → i ≤ chunks j → P i (get_or table i 0)

behind_more :
    (j : Job) (P : ℕ → ℕ → Type 0) (k : ℕ) (table : List ℕ) (v : ℕ) → 0 < k → k < length table → Behind j P k table → P k v →
    Behind j P (k - 1) (set table k v)
behind_more j P k table v some room b p i l h =
    at_set (P i) table k v i room (λ e. subst (λ (n : ℕ). P n v) (sym e) p) (λ n. b i (other n) h)
  where
    other : (i ≡ k → ⊥) → k < i
    other n = omega arith

lower :
    (j : Job) (k least base least' : ℕ) → base ≡ base_size j k → least' ≡ min least base → LeastAfter j k least → LeastAfter j (k - 1) least'
lower j k least base least' z e l i m h =
    ⊎_elim
    (λ t. let s : i ≡ k = omega (arith, m, leb→le i k t) in omega (arith, e, z, ap (base_size j) s))
    (λ t. omega (arith, e, l i (nleb→lt i k t) h))
    (test (leb i k))

pub record LevelsFrom (j : Job) (k : ℕ) (ends opens bases smallest : List ℕ) (least : ℕ) : Type 0 where
  pub ends_are : Behind j (λ i x. x ≡ end_of j i) k ends
  pub opens_are : Behind j (λ i x. x ≡ open_of j i) k opens
  pub bases_are : Behind j (λ i x. x ≡ base_size j i) k bases
  pub least_are : Behind j (λ i x. LeastAfter j i x × (x ≤ 16777216)) k smallest
  pub least_is : LeastAfter j k least

pub record Levelling (p : Programme) (sizes : ℕ → ℕ → ℕ) (left ends opens bases smallest : List ℕ) (least k : ℕ) : Type 0 where
  pub within : k ≤ p.chunks
  pub few : p.chunks ≤ 500
  pub last_in : last_due p ≤ 3600
  pub left_long : length left ≡ 3601
  pub small : least ≤ 16777216
  pub each : EachJob p (λ j. Says j sizes left → LevelsFrom j k ends opens bases smallest least)

-- The due slot of chunk k is one of the table's.
pub due_in :
    {p : Programme} {sizes : ℕ → ℕ → ℕ} {left ends opens bases smallest : List ℕ} {least k : ℕ} →
    Levelling p sizes left ends opens bases smallest least k → due_slot p k < length left
due_in {p} {k = k} o = omega (arith, due_by p k o.within, o.last_in, o.left_long)

module _ (p : Programme) (sizes : ℕ → ℕ → ℕ) (left : List ℕ) where
  -- Chunk k is written.
  pub levelling_more :
      (ends opens bases smallest : List ℕ) → (length ends ≡ 501) × (length opens ≡ 501) × (length bases ≡ 501) × (length smallest ≡ 501) →
      (least k : ℕ) → Levelling p sizes left ends opens bases smallest least k → 0 < k → (d base end begin least' : ℕ) → d ≡ due_slot p k → base ≡ sizes k 0 → end ≡ get_or left 0 0 - get_or left d 0 →
      begin ≡ get_or left 0 0 - get_or left (d - 1) 0 → least' ≡ min least base →
      Levelling p sizes left (set ends k end) (set opens k begin) (set bases k base) (set smallest k least) least' (k - 1)
  levelling_more ends opens bases smallest l least k o some d base end begin least' ed eb ee eo el =
      record {
        within = omega (arith, o.within);
        few = o.few;
        last_in = o.last_in;
        left_long = o.left_long;
        small = omega (arith, o.small);
        each = λ a b c says.
            let j = job_of p a b c in
            let f = o.each a b c says in
            let room : k < 501 = omega (arith, o.within, o.few) in
            let is : (t : ℕ) → get_or left t 0 ≡ after j t = λ t. ap (λ (g : ℕ → ℕ). g t) says.left_is in
            let z : base ≡ base_size j k = eb ∙ ap (λ (g : ℕ → ℕ → ℕ). g k 0) says.sizes_are in
            record {
              ends_are = behind_more j (λ i x. x ≡ end_of j i) k ends end some (omega (arith, l.0)) f.ends_are
                  (ee ∙ rw ed (omega (arith, is 0, is (due_slot p k), level_end j k o.within)));
              opens_are = behind_more j (λ i x. x ≡ open_of j i) k opens begin some (omega (arith, l.1)) f.opens_are
                  (eo ∙ rw ed (omega (arith, is 0, is (due_slot p k - 1), level_open j k o.within)));
              bases_are = behind_more j (λ i x. x ≡ base_size j i) k bases base some (omega (arith, l.2)) f.bases_are z;
              least_are = behind_more j (λ i x. LeastAfter j i x × (x ≤ 16777216)) k smallest least some (omega (arith, l.3)) f.least_are
                  (f.least_is, o.small);
              least_is = λ i m h. lower j k least base least' z el f.least_is i m h;
            };
      }
