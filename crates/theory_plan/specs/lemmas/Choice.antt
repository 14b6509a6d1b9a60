-- Lemmas. The decision: some passing list in playing order carries exactly a choice if and only if
-- the choice fits, and then its own list is one. Sizes may differ by chunk and layer, and there may
-- be any number of layers. Sections 2 and 3 of the argument.
use Rattle.std.specs.Prelude.{ℕ, zero, suc, ◌+◌, ◌≤◌, ◌<◌, ◌≡◌, Bool, ◌&&◌, List, ◌↔◌}
use Rattle.std.proofs.Math.Path.{refl}
use Rattle.std.proofs.Common.{sym, ◌∙◌, subst, arith, lt-ltb, le-ltb, leb→le, nltb→le, le→leb}
use Rattle.std.proofs.Math.Bool.{true, false, cond}
use Rattle.std.proofs.Math.Logic.{⊎_elim}
use Rattle.std.proofs.Math.Dec.{T, leb, ltb, ltb→lt}
use Rattle.theory_basics.specs.Sums.{sum}
use Rattle.theory_basics.specs.lemmas.Tests.{all_map, test}
use Rattle.fetch.specs.Rows.{Carried, Row, bytes_of_layer}
use Rattle.fetch.specs.Rules.{RowInRange, Passes, PlayingOrder, WholeLayers}
use Rattle.job.specs.Job.{Job, Layer, chunks, due, held_most, layers, size}
use Rattle.theory_plan.specs.lemmas.Count.{chunk_by_layers}
use Rattle.theory_plan.specs.lemmas.Kept.{feas_picked, has_picked, picked_asc, picked_each}
use Rattle.theory_plan.specs.Plan.{after, bytes, kept}
use Rattle.theory_basics.specs.lemmas.Ranges.{sum_below, sum_cong}
use Rattle.theory_plan.specs.lemmas.Necessity.{carried_fit}
use Rattle.theory_plan.specs.lemmas.Need.{Feas}
use Rattle.theory_plan.specs.lemmas.Order.{fetch_order}
pub use Rattle.theory_plan.specs.Statement.{Choice}
use Rattle.theory_plan.specs.Statement.{CanCarry, CarriesExactly}
use Rattle.theory_plan.specs.lemmas.Sufficiency.{fetch, layer_is, sufficient}
use Rattle.theory_basics.specs.Lists.{has}
use Rattle.theory_plan.specs.lemmas.Words.{Sized, bytes_of_chunk, layer_of}
use Rattle.theory_plan.specs.Bases.{Asc}
use Rattle.theory_plan.specs.lemmas.Queue.{weight}

-- The kept chunks fit, each with the bytes of its layers in the choice.
abbrev pub Fits : Job → (ℕ → ℕ) → Type 0
Fits j lv = Feas (bytes j lv) (due j) (after j) (held_most j) (kept j lv)

-- The choice's own list: the fill of its kept chunks.
unfoldable pub own : Job → (ℕ → ℕ) → List Row
own j lv = fetch j lv (kept j lv)

pub kept_asc : (j : Job) (lv : ℕ → ℕ) → Asc 1 (chunks j) (kept j lv)
kept_asc j lv = picked_asc (λ i. leb 1 (lv i)) 0 (chunks j) (chunks j) (omega arith)

-- ---- the bytes of a list that carries a choice

-- Each layer of the choice has its size, the others have no bytes.
abbrev pub SizesCarried : Job → List Row → (ℕ → ℕ) → Type 0
SizesCarried j l lv = (i n : ℕ) → Layer j i n → bytes_of_layer l i n ≡ cond (ltb n (lv i)) (size j i n) 0

pub exactly_sizes : (j : Job) (l : List Row) (lv : ℕ → ℕ) → WholeLayers j l → CarriesExactly j l lv → SizesCarried j l lv
exactly_sizes j l lv whole c i n r =
    ⊎_elim
    (λ t. rw (lt-ltb n (lv i) (ltb→lt n (lv i) t)) ((c i n r).1 (ltb→lt n (lv i) t)))
    (λ t.
    let o = nltb→le n (lv i) t in
    rw (le-ltb n (lv i) o) (⊎_elim (λ z. z) (λ e. absurd (omega (arith, (c i n r).0 e))) (whole i n r)))
    (test (ltb n (lv i)))

pub sizes_exactly : (j : Job) (l : List Row) (lv : ℕ → ℕ) → Sized j → SizesCarried j l lv → CarriesExactly j l lv
sizes_exactly j l lv sized c i n r = (
  λ e.
      ⊎_elim
      (λ t. ltb→lt n (lv i) t)
      (λ t. absurd (omega (arith, rw (le-ltb n (lv i) (nltb→le n (lv i) t)) at (c i n r), e, sized i n r)))
      (test (ltb n (lv i))),
  λ h. rw (lt-ltb n (lv i) h) at (c i n r),
)

pub chunk_bytes :
    (j : Job) (l : List Row) (lv : ℕ → ℕ) → Passes j l → Choice j lv → CarriesExactly j l lv → (i : ℕ) → 1 ≤ i → i ≤ chunks j →
    bytes_of_chunk l i ≡ bytes j lv i
chunk_bytes j l lv ok c a i g h =
    chunk_by_layers i (layers j) l (all_map (RowInRange j) (λ x. x.layer < layers j) l (λ x r. r.layer_in) ok.in_range_lem)
    ∙ sum_cong (bytes_of_layer l i) (λ n. cond (ltb n (lv i)) (size j i n) 0) (layers j) (λ n u. exactly_sizes j l lv ok.whole a i n (layer_of j i n g h u))
    ∙ sum_below (size j i) (lv i) (layers j) (c i g h)

-- ---- a choice that can be carried fits

pub can_carry_fits : (j : Job) → Sized j → (lv : ℕ → ℕ) → Choice j lv → CanCarry j lv → Fits j lv
can_carry_fits j sized lv c s =
    let l = s.rows in
    let keeps : ℕ → Bool = λ i. leb 1 (lv i) in
    feas_picked
    (bytes j lv)
    (bytes_of_chunk l)
    (due j)
    (after j)
    (held_most j)
    keeps
    0
    (chunks j)
    (λ i u v t. omega (arith, chunk_bytes j l lv s.passes c s.exactly i u (omega arith)))
    (carried_fit j l s.passes sized s.in_order (kept j lv) (kept_asc j lv)
    (picked_each keeps (λ e. Carried j l e 0) 0 (chunks j) (λ i u v t.
    let b = leb→le 1 (lv i) t in
    (s.exactly i 0 (layer_of j i 0 u (omega arith) (omega (arith, c i u (omega arith))))).1 b)))

-- ---- a choice that fits is carried by its own list

weight_is_sum : (size : ℕ → ℕ → ℕ) (k m n : ℕ) → weight size k m n + sum (size k) m ≡ sum (size k) (n + m)
weight_is_sum size k m zero = let e : 0 + m ≡ m = omega arith in rw e (omega arith)
weight_is_sum size k m (suc n) = let e : suc n + m ≡ n + suc m = omega arith in rw e (omega (arith, weight_is_sum size k (suc m) n))

-- The bytes of a chunk as the fill adds them up.
pub fits_weight : (j : Job) (lv : ℕ → ℕ) → Fits j lv → Feas (λ k. weight (size j) k 0 (lv k)) (due j) (after j) (held_most j) (kept j lv)
fits_weight j lv f =
    let w : ℕ → ℕ = λ k. weight (size j) k 0 (lv k) in
    feas_picked w (bytes j lv) (due j) (after j) (held_most j) (λ i. leb 1 (lv i)) 0 (chunks j)
    (λ i u v t. let e : lv i + 0 ≡ lv i = omega arith in omega (arith, rw e at (weight_is_sum (size j) i 0 (lv i))))
    f

module _ (j : Job) (sized : Sized j) (lv : ℕ → ℕ) (choice : Choice j lv) (f : Fits j lv) where
  pub own_passes : Passes j (own j lv)
  unfolding own
  own_passes = sufficient j sized lv choice (kept j lv) (kept_asc j lv) (fits_weight j lv f)

  pub own_in_order : PlayingOrder j (own j lv)
  unfolding own
  own_in_order = fetch_order j sized lv choice (kept j lv) (kept_asc j lv) (fits_weight j lv f)

  own_sizes_lem : SizesCarried j (own j lv) lv
  unfolding own
  own_sizes_lem i n r =
      layer_is j sized lv choice (kept j lv) (kept_asc j lv) (fits_weight j lv f) i n
      ∙ same (lv i) n (has (kept j lv) i) (size j i n) (has_picked (λ i. leb 1 (lv i)) 0 (chunks j) i r.chunk_low (omega (arith, r.chunk_high)))
    where
      same : (m n : ℕ) (b : Bool) (s : ℕ) → b ≡ leb 1 m → cond (b && ltb n m) s 0 ≡ cond (ltb n m) s 0
      same m n true s e = refl
      same m n false s e = ⊎_elim (λ t. absurd (subst T (sym e) (le→leb 1 m (omega (arith, ltb→lt n m t))))) (λ t. rw (le-ltb n m (nltb→le n m t))) (test (ltb n m))

  pub own_exactly : CarriesExactly j (own j lv) lv
  own_exactly = sizes_exactly j (own j lv) lv sized own_sizes_lem

  pub fits_can_carry : CanCarry j lv
  fits_can_carry = record { rows = own j lv; passes = own_passes; in_order = own_in_order; exactly = own_exactly }

pub can_carry_iff_fits : (j : Job) → Sized j → (lv : ℕ → ℕ) → Choice j lv → CanCarry j lv ↔ Fits j lv
can_carry_iff_fits j sized lv choice = (can_carry_fits j sized lv choice, fits_can_carry j sized lv choice)
