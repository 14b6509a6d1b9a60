-- Laws on the whole decision: what the tables hold at its end is the plan. Assumes nothing.
use mathlib.Core.Path.{◌≡◌, refl, sym, ◌∙◌, ap, subst, fun_ext}
use mathlib.Core.Bool.{cond}
use mathlib.Core.List.{List, [], ◌∷◌, ◌++◌, map, map-map}
use Prim.Native.Nat.{ℕ, zero, suc, ◌+◌, ◌-◌, ◌/◌, ◌≤◌, ◌<◌}
use native.Mathlib.Omega.{arith}
use lib.ListN.{length, get_or, take, drop, replicate, length-drop, length-map, length-replicate}
use Rattle.theory_basics.specs.Sums.{pre}
use Rattle.theory_basics.specs.Tests.{All}
use Rattle.job.specs.declared.Programme.{Programme}
use Rattle.job.specs.Job.{Job, Override, job_of, size_in, size, due, due_slot, held_most}
use Rattle.theory_plan.specs.lemmas.Ascending.{asc_within}
use Rattle.theory_plan.specs.Plan.{by_moore_hodgson, kept, plan, after}
use Rattle.theory_plan.specs.lemmas.MooreHodgson.{kept_by_after}
use Rattle.core_moore_hodgson.specs.lemmas.Tables.{KeptIn}
use Rattle.theory_plan.specs.lemmas.Trials.{mark_of, kept_at, on_layers, based, decided_on, kept_bases, stacked}
use Rattle.theory_plan.specs.lemmas.Parts.{at, padded, padded_long, part_small}
use Rattle.core_decide.specs.lemmas.Decision.{kept_of, Sums, Slot, SumTable, bases_in, SettleLayersPre, SettleLayersPost, SettleKeptPre, Decides, SettleKeptPost, job_from, DecidePre, DecidePost}
use Rattle.theory_plan.specs.lemmas.Words.{due_slots}
use Rattle.theory_plan.specs.lemmas.Queue.{ones, releases, release_slots}
use Rattle.theory_basics.specs.lemmas.Lists.{each_of_map}
use Rattle.core_decide.proofs.Settle.{same_long, marks_of_lem}
use Rattle.theory_plan.specs.lemmas.Layers.{on_layers_take}
use Rattle.theory_plan.specs.lemmas.Decided.{bases_kept, decided_is}

-- ---- the start of the layers

drop_replicate : (n q a : ℕ) → drop q (replicate n a) ≡ replicate (n - q) a
drop_replicate zero zero a = refl
drop_replicate zero (suc q) a = let e : 0 - suc q ≡ 0 = omega arith in rw e
drop_replicate (suc n) zero a = let e : suc n - 0 ≡ suc n = omega arith in rw e
drop_replicate (suc n) (suc q) a = let e : suc n - suc q ≡ n - q = omega arith in rw e (drop_replicate n q a)

base_kept : (j : Job) (ks : List ℕ) → kept_of ks (map (due j) ks) (map (λ k. size j k 0) ks) (replicate (length ks) 1) ≡ based j ks
base_kept j [] = refl
base_kept j (k ∷ ks) =
    let z : size j k 0 ≡ 0 + size j k 0 = omega arith in
    rw (base_kept j ks) (ap (λ (b : ℕ). record { chunk = k; due = due j k; bytes = b; mark = 1 } ∷ based j ks) z)

-- ---- kept chunks, however they were found

module _
    (p : Programme) (layers : ℕ) (size : ℕ → ℕ → ℕ) (left : List ℕ) (first : ℕ) (ids dues bytes room ready₀ mark : List ℕ)
    (o : SettleKeptPre p layers size left first ids dues bytes room ready₀ mark)
    (ready : List ℕ) (lr : length ready ≡ 500) (r : drop first ready ≡ take (500 - first) (ones (p.limit / p.span) ++ drop first dues)) where
  abbrev ks : List ℕ
  ks = drop first ids

  many : length ks ≡ 500 - first
  many = length-drop first ids ∙ ap (λ (n : ℕ). n - first) o.kept.long.0

  pub layers_from_lem : SettleLayersPre layers size left ids dues ready first bytes room mark
  layers_from_lem =
      let b = o.kept in
      let due_in : All Slot (drop first dues) = subst (All Slot) (sym b.due_slots) (due_slots p o.late o.ends 1 ks b.ascending) in
      record {
        some = o.some;
        few = o.few_layers;
        chunks_in = asc_within 1 p.chunks 1 500 ks (omega arith) o.few b.ascending;
        small = o.small;
        sums = o.sums;
        due_slots = due_in;
        release_slots = subst (All Slot) (sym r) (release_slots (p.limit / p.span) (500 - first) (drop first dues) due_in);
        within = b.within;
        carried = subst (All (λ x. x ≤ 16777216)) (sym b.base_bytes) (each_of_map (λ x. x ≤ 16777216) (λ k. size k 0) (λ k. o.small k 0) ks);
        long = (o.long.0, b.long.0, b.long.1, lr, b.long.2, o.long.1, rw o.marks (length-replicate {A = ℕ} 500 1));
      }

  -- A job that the handed numbers say.
  module _ (sizes : List ℕ) (overrides : List Override) (forecast : List ℕ) (count : layers ≡ length sizes) (says : size ≡ size_in sizes overrides) where
    abbrev j : Job
    j = job_of p sizes overrides forecast

    released : drop first ready ≡ take (length ks) (releases (due j) (held_most j) ks)
    released = r ∙ ap (λ (l : List ℕ). take (500 - first) (ones (p.limit / p.span) ++ l)) o.kept.due_slots ∙ ap (λ (n : ℕ). take n (releases (due j) (held_most j) ks)) (sym many)

    -- The tables start with the base alone.
    begins : kept_of ks (drop first dues) (drop first bytes) (drop first mark) ≡ based j ks
    begins =
        ap (λ (l : List ℕ). kept_of ks (drop first dues) (drop first bytes) l) (ap (drop first) o.marks ∙ drop_replicate 500 first 1 ∙ ap (λ (n : ℕ). replicate n 1) (sym many))
        ∙ ap (λ (l : List ℕ). kept_of ks l (drop first bytes) (replicate (length ks) 1)) o.kept.due_slots
        ∙ ap (λ (l : List ℕ). kept_of ks (map (due_slot p) ks) l (replicate (length ks) 1)) (o.kept.base_bytes ∙ ap (λ (z : ℕ → ℕ → ℕ). map (λ k. z k 0) ks) says)
        ∙ base_kept j ks

    decides_choice :
        at left ≡ after j → (x : ℕ → ℕ) → ks ≡ kept j x → decided_on j ks ≡ map (kept_at j x) (kept j x) → (all : ℕ) → all ≡ get_or left 0 0 →
        (bytes' mark' : List ℕ) → SettleLayersPost layers size all left ids dues ready first bytes mark bytes' mark' → Decides j x first ids ready mark'
    decides_choice sums_are x kept_are decided all a bytes' mark' y =
        let own : ℕ → ℕ → ℕ = size_in sizes overrides in
        let whole : kept_of ks (drop first dues) (drop first bytes') (drop first mark') ≡ map (kept_at j x) (kept j x) =
        y.kept
        ∙ ap (λ (z : ℕ → ℕ → ℕ). on_layers z (at left) all (drop first ready) (layers - 1) (kept_of ks (drop first dues) (drop first bytes) (drop first mark))) says
        ∙ ap (on_layers own (at left) all (drop first ready) (layers - 1)) begins
        ∙ ap (λ (rs : List ℕ). on_layers own (at left) all rs (layers - 1) (based j ks)) (released ∙ ap (λ (n : ℕ). take n (releases (due j) (held_most j) ks)) (sym (length-map ks (kept_at j (λ k. 1)))))
        ∙ on_layers_take own (at left) all (releases (due j) (held_most j) ks) (layers - 1) (based j ks)
        ∙ ap (λ (n : ℕ). on_layers own (at left) n (releases (due j) (held_most j) ks) (layers - 1) (based j ks)) a
        ∙ ap (λ (n : ℕ). on_layers own (at left) (at left 0) (releases (due j) (held_most j) ks) (n - 1) (based j ks)) count
        ∙ ap (λ (A : ℕ → ℕ). on_layers own A (A 0) (releases (due j) (held_most j) ks) (length sizes - 1) (based j ks)) sums_are
        ∙ decided in
        record {
          within = o.kept.within;
          chunks = kept_are;
          releases_are = released ∙ ap (λ (n : ℕ). take n (releases (due j) (held_most j) ks)) many ∙ ap (λ (l : List ℕ). take (500 - first) (releases (due j) (held_most j) l)) kept_are;
          marks =
              sym (marks_of_lem ks (drop first dues) (drop first bytes') (drop first mark') (same_long ids dues first o.kept.long.0 o.kept.long.1) (same_long ids bytes' first o.kept.long.0 y.long.0) (same_long ids mark' first o.kept.long.0 y.long.1))
              ∙ ap (map mark_of) whole ∙ map-map mark_of (kept_at j x) (kept j x);
          long = (o.kept.long.0, lr, y.long.1);
        }

  pub decides_kept : (all : ℕ) → all ≡ get_or left 0 0 → (bytes' mark' : List ℕ) → SettleLayersPost layers size all left ids dues ready first bytes mark bytes' mark' → SettleKeptPost p layers size left first ids ready mark'
  decides_kept all a bytes' mark' y sizes overrides forecast count says sums_are x kept_are decided =
      decides_choice sizes overrides forecast count says sums_are x kept_are decided all a bytes' mark' y

-- ---- the whole

module _ (p : Programme) (layers : ℕ) (size : ℕ → ℕ → ℕ) (start : ℕ) (part ids₀ ready₀ mark₀ : List ℕ) (o : DecidePre p layers size start part ids₀ ready₀ mark₀) where
  pub sums_small : (left : List ℕ) → SumTable start part left → Sums left
  sums_small left s k = rw (s.is k) (part_small start part o.part_in k)

  -- The table of sums is what is forecast after each slot, of any job that the handed numbers say.
  pub sums_are : (left : List ℕ) → SumTable start part left → (sizes : List ℕ) (overrides : List Override) → at left ≡ after (job_from p sizes overrides start part)
  sums_are left s sizes overrides =
      fun_ext (λ t.
      s.is t ∙ ap (λ (n : ℕ). pre (λ u. at (padded start part) (u - 1)) n - pre (λ u. at (padded start part) (u - 1)) t) (padded_long start part ∙ o.slots))

  pub kept_from :
      {left : List ℕ} → SumTable start part left → {ks : List ℕ} {first : ℕ} {ids dues bytes : List ℕ} → KeptIn p size ks first ids dues bytes →
      (room : List ℕ) → length room ≡ 500 → SettleKeptPre p layers size left first ids dues bytes room ready₀ mark₀
  kept_from {left} s b room lr =
      record {
        few = o.few;
        late = o.late;
        ends = o.ends;
        some = o.some;
        few_layers = o.few_layers;
        small = o.small;
        sums = sums_small left s;
        kept = record { within = b.within; kept = refl; due_slots = b.due_slots; base_bytes = b.base_bytes; ascending = b.ascending; long = b.long };
        long = (s.long, lr, o.long.1);
        marks = o.marks;
      }

  module _ (left : List ℕ) (s : SumTable start part left) (first : ℕ) (ids dues bytes : List ℕ) (b : KeptIn p size (bases_in p size (at left)) first ids dues bytes) where
    -- A job that the handed numbers say.
    module _ (sizes : List ℕ) (overrides : List Override) (count : layers ≡ length sizes) (says : size ≡ size_in sizes overrides) where
      abbrev job : Job
      job = job_from p sizes overrides start part

      kept_are : drop first ids ≡ kept_bases job
      kept_are =
          b.kept
          ∙ ap (λ (z : ℕ → ℕ → ℕ). bases_in p z (at left)) says
          ∙ ap (bases_in p (size_in sizes overrides)) (sums_are left s sizes overrides)
          ∙ ap (λ (l : List ℕ). cond (by_moore_hodgson job) l (stacked job)) (kept_by_after job)

      decides_plan : (ready mark' : List ℕ) → SettleKeptPost p layers size left first ids ready mark' → Decides job (plan job) first ids ready mark'
      decides_plan ready mark' y =
          let some : 0 < length sizes = omega (arith, o.some) in
          y sizes overrides (padded start part) count says (sums_are left s sizes overrides) (plan job) (kept_are ∙ bases_kept job some)
          (ap (decided_on job) kept_are ∙ decided_is job some (omega (arith, o.few_layers)))

    pub decides : (ready mark' : List ℕ) → SettleKeptPost p layers size left first ids ready mark' → DecidePost p layers size start part first ids ready mark'
    decides ready mark' y sizes overrides count says = decides_plan sizes overrides count says ready mark' y
