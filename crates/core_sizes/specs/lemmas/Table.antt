-- Lemmas. The table of all sizes at each place, what an accepted job's table says, and the table
-- filled place by place. Assumes nothing.
use Rattle.std.specs.Prelude.{ℕ, ◌+◌, ◌*◌, ◌-◌, ◌/◌, ◌%◌, ◌≤◌, ◌<◌, ◌≡◌, refl, Bool, ◌&&◌, List, [], ◌∷◌, ◌⊎◌, length, get_or, set, eqb, ltb}
use Rattle.std.proofs.Common.{sym, ap, ◌∙◌, inl, inr, ⊎_elim, arith, length-set, get_or-set_same, get_or-set_other, ext_get_or, eqb→eq, ltb→lt, nltb→le, T_not}
use Rattle.std.proofs.Math.ListN.{get_or-eq_default}
use Rattle.theory_basics.specs.Tests.{All}
use Rattle.theory_basics.specs.lemmas.Tests.{all_map, by_cond, and_T, T_and, eqb_iff, test}
use Rattle.theory_basics.specs.lemmas.Lists.{length_up_to, get_d_up_to}
use Rattle.theory_basics.specs.lemmas.Tables.{at_set, below_next}
use Rattle.job.specs.Job.{Job, Override, Accepted, chunks, size, size_in}
use Rattle.job.specs.lemmas.Spots.{Spot, spots, Other, own_where}
use Rattle.core_sizes.specs.Table.{spot, own_table, overridden_by, own_sizes, sizes_table, table_at}

-- ---- the table at each place

pub length_overridden : (os : List Override) (t : List ℕ) → length (overridden_by os t) ≡ length t
length_overridden [] t = refl
length_overridden (o ∷ os) t = length-set (overridden_by os t) (spot o.chunk o.layer) o.bytes ∙ length_overridden os t

spot_here : (o : Override) (k : ℕ) → 2 ≤ o.chunk → o.layer < 4 → spot o.chunk o.layer ≡ k → (o.chunk ≡ k / 4 + 1) × (o.layer ≡ k % 4)
spot_here o k h l e = (omega arith, omega arith)

here_spot : (o : Override) (k : ℕ) → o.chunk ≡ k / 4 + 1 → o.layer ≡ k % 4 → spot o.chunk o.layer ≡ k
here_spot o k c l = omega arith

overridden_at :
    (c b : ℕ) (sizes : List ℕ) (os : List Override) (k : ℕ) → All (Spot b) os → k < c * 4 →
    get_or (overridden_by os (own_table sizes c)) k 0 ≡ size_in sizes os (k / 4 + 1) (k % 4)
unfolding size_in
overridden_at c b sizes [] k a h = get_d_up_to (λ k. get_or sizes (k % 4) 0) (c * 4) k 0 h
overridden_at c b sizes (o ∷ os) k a h =
    let t = overridden_by os (own_table sizes c) in
    let at = spot o.chunk o.layer in
    let long : length t ≡ c * 4 = length_overridden os (own_table sizes c) ∙ length_up_to (λ k. get_or sizes (k % 4) 0) (c * 4) in
    let same : Bool = eqb o.chunk (k / 4 + 1) in
    let layer : Bool = eqb o.layer (k % 4) in
    by_cond (λ (x : ℕ). get_or (set t at o.bytes) k 0 ≡ x) (same && layer)
    (λ b.
    let u = and_T same layer b in
    let e : at ≡ k = here_spot o k (eqb→eq o.chunk (k / 4 + 1) u.0) (eqb→eq o.layer (k % 4) u.1) in
    rw e (get_or-set_same t k o.bytes 0 (omega arith)))
    (λ b.
    let apart : k ≡ at → ⊥ =
    λ e.
    let u = spot_here o k a.0.low a.0.layer (sym e) in
    T_not (same && layer) b (T_and same layer ((eqb_iff o.chunk (k / 4 + 1)).1 u.0) ((eqb_iff o.layer (k % 4)).1 u.1)) in
    get_or-set_other t at k o.bytes 0 apart ∙ overridden_at c _ sizes os k a.1 h)

long_own : (c : ℕ) (sizes : List ℕ) → length (own_table sizes c) ≡ c * 4
long_own c sizes = length_up_to (λ k. get_or sizes (k % 4) 0) (c * 4)

pub length_own : (sizes : List ℕ) → length (own_sizes sizes) ≡ 2000
unfolding own_sizes
length_own sizes = long_own 500 sizes

pub length_table : (sizes : List ℕ) (os : List Override) → length (sizes_table sizes os) ≡ 2000
length_table sizes os = length_overridden os (own_sizes sizes) ∙ length_own sizes

in_table : (j : Job) → Accepted j → (k : ℕ) → k < 2000 → get_or (sizes_table j.sizes j.overrides) k 0 ≡ size j (k / 4 + 1) (k % 4)
unfolding own_sizes
in_table j a k h = overridden_at 500 (chunks j) j.sizes j.overrides k (spots j a) (omega arith)

-- ---- what an accepted job's table says

other_chunk : (j : Job) (i n : ℕ) → Accepted j → (i < 2) ⊎ (500 < i) → size j i n ≡ get_or j.sizes n 0
other_chunk j i n a far =
    own_where j.sizes j.overrides i n
    (all_map (Spot (chunks j)) (Other i n) j.overrides
    (λ o s. inl (λ e. ⊎_elim (λ l. omega (arith, s.low)) (λ l. omega (arith, s.high, a.chunks_in.high)) far)) (spots j a))

no_layer : (j : Job) (i n : ℕ) → Accepted j → 4 ≤ n → size j i n ≡ 0
no_layer j i n a h =
    own_where j.sizes j.overrides i n
    (all_map (Spot (chunks j)) (Other i n) j.overrides (λ o s. inr (λ e. omega (arith, s.layer))) (spots j a))
    ∙ get_or-eq_default j.sizes 0 (omega (arith, a.layers_in.high))

first_place : (j : Job) → Accepted j → (n : ℕ) → n < 4 → get_or (sizes_table j.sizes j.overrides) n 0 ≡ get_or j.sizes n 0
first_place j a n h =
    let chunk : n / 4 + 1 ≡ 1 = omega arith in
    let layer : n % 4 ≡ n = omega arith in
    in_table j a n (omega arith) ∙ rw (chunk, layer) (other_chunk j 1 n a (inl (omega arith)))

its_place : (j : Job) → Accepted j → (i n : ℕ) → n < 4 → spot i n < 2000 → 1 ≤ i → get_or (sizes_table j.sizes j.overrides) (spot i n) 0 ≡ size j i n
its_place j a i n h l g =
    let chunk : spot i n / 4 + 1 ≡ i = omega arith in
    let layer : spot i n % 4 ≡ n = omega arith in
    in_table j a (spot i n) l ∙ rw (chunk, layer)

-- Every size of an accepted job stands in its table.
pub table_says : (j : Job) → Accepted j → (i n : ℕ) → table_at (sizes_table j.sizes j.overrides) i n ≡ size j i n
table_says j a i n =
    by_cond (λ (x : ℕ). x ≡ size j i n) (ltb n 4)
    (λ few.
    let m = ltb→lt n 4 few in
    by_cond (λ (x : ℕ). x ≡ size j i n) (ltb (spot i n) 2000)
    (λ inside.
    let h = ltb→lt (spot i n) 2000 inside in
    ⊎_elim
    (λ none.
    let l = ltb→lt i 1 none in
    let e : spot i n ≡ n = omega arith in
    rw e (first_place j a n m ∙ sym (other_chunk j i n a (inl (omega arith)))))
    (λ some. its_place j a i n m h (nltb→le i 1 some))
    (test (ltb i 1)))
    (λ past.
    let h = nltb→le (spot i n) 2000 past in
    first_place j a n m ∙ sym (other_chunk j i n a (inr (omega arith)))))
    (λ many. sym (no_layer j i n a (nltb→le n 4 many)))

-- ---- own sizes, copied chunk after chunk

-- The first n places are written.
abbrev pub Filling : List ℕ → List ℕ → ℕ → Type 0
Filling sizes table n = (k : ℕ) → k < n → get_or table k 0 ≡ get_or sizes (k % 4) 0

pub filling_next :
    (sizes table : List ℕ) (n v : ℕ) → n < length table → v ≡ get_or sizes (n % 4) 0 → Filling sizes table n →
    Filling sizes (set table n v) (n + 1)
filling_next sizes table n v h e s =
    λ k b. at_set (λ x. x ≡ get_or sizes (k % 4) 0) table n v k h (λ i. rw i e) (λ o. s k (below_next k n b o))

pub filling_more :
    (sizes table : List ℕ) (n : ℕ) → n < length table → 4 ≤ n → Filling sizes table n →
    Filling sizes (set table n (get_or table (n - 4) 0)) (n + 1)
filling_more sizes table n h u s =
    let m : (n - 4) % 4 ≡ n % 4 = omega arith in
    filling_next sizes table n (get_or table (n - 4) 0) h (s (n - 4) (omega arith) ∙ ap (λ (i : ℕ). get_or sizes i 0) m) s

-- For any number of chunks: at 500 itself the table would be written out.
all_filled : (c : ℕ) (sizes table : List ℕ) → length table ≡ c * 4 → ((k : ℕ) → k < c * 4 → get_or table k 0 ≡ get_or sizes (k % 4) 0) → table ≡ own_table sizes c
all_filled c sizes table l f =
    ext_get_or 0 table (own_table sizes c) (l ∙ sym (long_own c sizes)) (λ k h. let u : k < c * 4 = omega (arith, l) in f k u ∙ sym (get_d_up_to (λ i. get_or sizes (i % 4) 0) (c * 4) k 0 u))

pub filling_end : (sizes table : List ℕ) (n : ℕ) → length table ≡ 2000 → 2000 ≤ n → Filling sizes table n → table ≡ own_sizes sizes
unfolding own_sizes
filling_end sizes table n l h s = all_filled 500 sizes table l (λ k b. s k (omega (arith, h, b)))
