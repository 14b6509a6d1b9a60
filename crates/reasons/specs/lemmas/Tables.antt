-- Lemmas. What the tables hold that the lines are told from: the layers that a plan carries of each
-- chunk, from the marks of its kept chunks, and the bytes of the first layers of each chunk, from
-- the table of its sizes.
use Rattle.std.specs.Prelude.{ℕ, zero, suc, ◌+◌, ◌*◌, ◌-◌, ◌/◌, ◌%◌, ◌≤◌, ◌<◌, ◌≡◌, refl, cond, List, [], ◌∷◌, map, eqb, leb, ltb, length, get_or, set, replicate}
use Rattle.std.proofs.Common.{sym, ap, ◌∙◌, ⊎_elim, arith, eq-eqb, ne_eqb, le-leb, lt-ltb, eqb→eq, length-set, get_or-set_other, get_or-set_same}
use Rattle.theory_basics.specs.Lists.{has}
use Rattle.theory_basics.specs.Sums.{sum}
use Rattle.theory_basics.specs.lemmas.Ranges.{sum_cong}
use Rattle.theory_basics.specs.lemmas.Tests.{test, neqb_ne}
use Rattle.job.specs.Job.{Accepted, Job, chunks, layers, size}
use Rattle.core_sizes.specs.Table.{sizes_table, spot, table_at}
use Rattle.job.specs.lemmas.Within.{size_most}
use Rattle.theory_plan.specs.Plan.{kept, plan}
use Rattle.theory_plan.specs.lemmas.Choice.{kept_asc}
use Rattle.theory_plan.specs.lemmas.Kept.{has_picked}
use Rattle.theory_plan.specs.lemmas.Plan.{plan_choice}
use Rattle.theory_plan.specs.lemmas.Queue.{has_low}
use Rattle.theory_plan.specs.lemmas.Trials.{level_mark}
use Rattle.core_decide.specs.lemmas.Accepted.{filled}
use Rattle.core_reasons.specs.lemmas.Tables.{bytes_in}
use Rattle.theory_plan.specs.Bases.{Asc}

-- ---- layers by marks

-- How many layers a mark has, of layers from the base up.
abbrev pub layers_in : ℕ → ℕ
layers_in mark = cond (ltb mark 2) mark (cond (ltb mark 4) 2 (cond (ltb mark 8) 3 4))

layers_of_lem : (m : ℕ) → m ≤ 4 → layers_in (level_mark m) ≡ m
layers_of_lem zero h = refl
layers_of_lem (suc zero) h = refl
layers_of_lem (suc (suc zero)) h = refl
layers_of_lem (suc (suc (suc zero))) h = refl
layers_of_lem (suc (suc (suc (suc zero)))) h = refl
layers_of_lem (suc (suc (suc (suc (suc m))))) h = absurd (omega arith)

-- The layers of chunks with their marks, written over a table; chunk k at k - 1.
abbrev pub spread : List ℕ → List ℕ → List ℕ → List ℕ
spread [] ms t = t
spread (k ∷ ks) [] t = t
spread (k ∷ ks) (m ∷ ms) t = spread ks ms (set t (k - 1) (layers_in m))

spread_at :
    (f : ℕ → ℕ) (lo hi : ℕ) (ks t : List ℕ) (i : ℕ) → 1 ≤ lo → Asc lo hi ks → hi ≤ length t → 1 ≤ i → i ≤ length t →
    get_or (spread ks (map f ks) t) (i - 1) 0 ≡ cond (has ks i) (layers_in (f i)) (get_or t (i - 1) 0)
spread_at f lo hi [] t i l a h u v = refl
spread_at f lo hi (k ∷ ks) t i l a h u v =
    let rest = spread_at f (suc k) hi ks (set t (k - 1) (layers_in (f k))) i (omega arith) a.2 (omega (arith, length-set t (k - 1) (layers_in (f k)))) u (omega (arith, length-set t (k - 1) (layers_in (f k)))) in
    ⊎_elim
    (λ e.
    let q = eqb→eq k i e in
    let none = has_low (suc k) hi ks i a.2 (omega arith) in
    rest ∙ rw (none, q, eq-eqb i i refl) (get_or-set_same t (i - 1) (layers_in (f i)) 0 (omega (arith, a.1))))
    (λ e.
    let o : k ≡ i → ⊥ = neqb_ne k i e in
    rest ∙ rw (ne_eqb k i o, get_or-set_other t (k - 1) (i - 1) (layers_in (f k)) 0 (λ q. o (omega (arith, a.0)))))
    (test (eqb k i))

pub zeros_at : (n k : ℕ) → get_or (replicate {A = ℕ} n 0) k 0 ≡ 0
zeros_at zero k = refl
zeros_at (suc n) zero = refl
zeros_at (suc n) (suc k) = zeros_at n k

-- Over zeros, those of the plan's kept chunks are the layers that it carries of every chunk.
pub plan_levels :
    (j : Job) → Accepted j → (zeros : List ℕ) → length zeros ≡ 500 → ((k : ℕ) → get_or zeros k 0 ≡ 0) → (i : ℕ) → 1 ≤ i → i ≤ chunks j →
    get_or (spread (kept j (plan j)) (map (λ k. level_mark (plan j k)) (kept j (plan j))) zeros) (i - 1) 0 ≡ plan j i
plan_levels j a zeros long none i u v =
    let has-is : has (kept j (plan j)) i ≡ leb 1 (plan j i) = has_picked (λ k. leb 1 (plan j k)) 0 (chunks j) i u (omega arith) in
    spread_at (λ k. level_mark (plan j k)) 1 (chunks j) (kept j (plan j)) zeros i (omega arith) (kept_asc j (plan j)) (omega (arith, a.chunks_in.high)) u (omega (arith, a.chunks_in.high))
    ∙ rw (has-is, layers_of_lem (plan j i) (omega (arith, plan_choice j i u v, a.layers_in.high)), none (i - 1)) (either (plan j i))
  where
    either : (m : ℕ) → cond (leb 1 m) m 0 ≡ m
    either zero = refl
    either (suc m) = rw (le-leb 1 (suc m) (omega arith))

-- ---- the bytes of the first layers

-- The sizes of layers 0 to n of a chunk, where x is the place of layer n.
abbrev pub up_to_layer : List ℕ → ℕ → ℕ
up_to_layer table x = sum (λ n. get_or table (x / 4 * 4 + n) 0) (x % 4 + 1)

-- Sizes as an accepted job has them.
abbrev pub SizesIn : List ℕ → Type 0
SizesIn table = (k : ℕ) → k < 2000 → get_or table k 0 ≤ 16777216

-- Up to place i the sums are there.
pub record Summed (table : List ℕ) (i : ℕ) (sums : List ℕ) : Type 0 where
  pub long : length sums ≡ 2000
  pub at : (x : ℕ) → x < i → get_or sums x 0 ≡ up_to_layer table x

pub first_layer : (table : List ℕ) (x : ℕ) → x % 4 ≡ 0 → up_to_layer table x ≡ get_or table x 0
first_layer table x e =
    let n : x % 4 + 1 ≡ 1 = omega arith in
    let q : x / 4 * 4 + 0 ≡ x = omega arith in
    rw (n, q) (omega arith)

pub next_layer : (table : List ℕ) (x : ℕ) → (x % 4 ≡ 0 → ⊥) → up_to_layer table x ≡ up_to_layer table (x - 1) + get_or table x 0
next_layer table x o =
    let some : 0 < x % 4 = pos (x % 4) o in
    let e : (x - 1) / 4 ≡ x / 4 = omega arith in
    let f : (x - 1) % 4 + 1 ≡ x % 4 = omega arith in
    let g : x % 4 + 1 ≡ suc (x % 4) = omega arith in
    let q : x / 4 * 4 + x % 4 ≡ x = omega arith in
    rw (e, f, g, q)
  where
    pos : (n : ℕ) → (n ≡ 0 → ⊥) → 0 < n
    pos zero o = absurd (o refl)
    pos (suc n) o = omega arith

table_at_lem : (table : List ℕ) (k n : ℕ) → 1 ≤ k → k ≤ 500 → n < 4 → get_or table ((k - 1) * 4 + n) 0 ≡ table_at table k n
table_at_lem table k n u v l = rw (lt-ltb n 4 l, lt-ltb (spot k n) 2000 (omega arith))

pub sizes_in_lem : (j : Job) → Accepted j → (table : List ℕ) → table ≡ sizes_table j.sizes j.overrides → SizesIn table
sizes_in_lem j a table Filled-is k h =
    let says = filled j a table Filled-is in
    let e : (k / 4 + 1 - 1) * 4 + k % 4 ≡ k = omega arith in
    let own : get_or table k 0 ≡ size j (k / 4 + 1) (k % 4) =
    ap (λ (x : ℕ). get_or table x 0) (sym e)
    ∙ table_at_lem table (k / 4 + 1) (k % 4) (omega arith) (omega arith) (omega arith)
    ∙ ap (λ (z : ℕ → ℕ → ℕ). z (k / 4 + 1) (k % 4)) says in
    omega (arith, own, size_most j a (k / 4 + 1) (k % 4))

-- So they are the bytes of a chunk's first layers.
pub sums_are :
    (j : Job) → Accepted j → (table sums : List ℕ) → table_at table ≡ size j → Summed table 2000 sums → (k m : ℕ) → 1 ≤ k → k ≤ chunks j → 1 ≤ m →
    m ≤ layers j → bytes_in sums k m ≡ sum (size j k) m
sums_are j a table sums says s k m u v w h =
    let x : ℕ = (k - 1) * 4 + (m - 1) in
    let low : m ≤ 4 = omega (arith, a.layers_in.high) in
    let few : k ≤ 500 = omega (arith, a.chunks_in.high) in
    let e : x / 4 ≡ k - 1 = omega arith in
    let f : x % 4 + 1 ≡ m = omega arith in
    s.at x (omega arith) ∙ rw (e, f) (sum_cong (λ n. get_or table ((k - 1) * 4 + n) 0) (size j k) m (λ n l. table_at_lem table k n u few (omega arith) ∙ ap (λ (z : ℕ → ℕ → ℕ). z k n) says))
