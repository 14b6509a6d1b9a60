-- Lemmas. The SZs of an accepted job: of chunks after the first, rising, and few; the size where
-- none names it. Assumes nothing.
use Rattle.std.specs.Prelude.{ℕ, ◌+◌, ◌*◌, ◌≤◌, ◌<◌, ◌≡◌, refl, List, [], ◌∷◌, ◌⊎◌, length, get_or, eqb}
use Rattle.std.proofs.Math.Bool.{and-false}
use Rattle.std.proofs.Common.{⊎_elim, arith, eq-eqb, ne_eqb}
use Rattle.theory_basics.specs.Tests.{All}
use Rattle.theory_basics.specs.lemmas.Tests.{all_map}
use Rattle.job.specs.Job.{Job, Override, Named, Rising, Accepted, chunks, size_in}

-- Of a chunk of 2 to C and a layer below 4.
pub record Spot (c : ℕ) (o : Override) : Type 0 where
  pub low : 2 ≤ o.chunk
  pub high : o.chunk ≤ c
  pub layer : o.layer < 4

pub spots : (j : Job) → Accepted j → All (Spot (chunks j)) j.overrides
spots j a =
    all_map (Named j.programme j.sizes) (Spot (chunks j)) j.overrides
    (λ o n. record { low = n.chunk_in.low; high = n.chunk_in.high; layer = omega (arith, n.layer_in, a.layers_in.high) }) a.overrides_named

rising_few : (c : ℕ) (o : Override) (os : List Override) → Rising (o ∷ os) → All (Spot c) (o ∷ os) → o.chunk * 4 + o.layer + length (o ∷ os) ≤ c * 4 + 4
rising_few c o [] r a = omega (arith, a.0.high, a.0.layer)
rising_few c o (q ∷ os) r a =
    let more = rising_few c q os r.1 a.1 in
    ⊎_elim (λ l. omega (arith, a.0.layer)) (λ s. omega (arith, s.0, s.1)) r.0

-- At most 4 × (C - 1) of them rise.
pub few : (c : ℕ) (os : List Override) → 1 ≤ c → Rising os → All (Spot c) os → length os + 4 ≤ c * 4
few c [] h r a = omega arith
few c (o ∷ os) h r a = omega (arith, rising_few c o os r a, a.0.low)

-- ---- a size where no SZ names it, and where the first does

pub own_size : (sizes : List ℕ) (i n : ℕ) → size_in sizes [] i n ≡ get_or sizes n 0
unfolding size_in
own_size sizes i n = refl

-- A layer of a chunk that no SZ names has the layer's own size.
abbrev pub Other : ℕ → ℕ → Override → Type 0
Other i n o = (o.chunk ≡ i → ⊥) ⊎ (o.layer ≡ n → ⊥)

pub own_where : (sizes : List ℕ) (os : List Override) (i n : ℕ) → All (Other i n) os → size_in sizes os i n ≡ get_or sizes n 0
unfolding size_in
own_where sizes [] i n a = refl
own_where sizes (o ∷ os) i n a =
    let rest = own_where sizes os i n a.1 in
    ⊎_elim (λ c. rw (ne_eqb o.chunk i c) rest) (λ l. rw (ne_eqb o.layer n l, and-false (eqb o.chunk i)) rest) a.0

pub head_size : (sizes : List ℕ) (o : Override) (os : List Override) → size_in sizes (o ∷ os) o.chunk o.layer ≡ o.bytes
unfolding size_in
head_size sizes o os = rw (eq-eqb o.chunk o.chunk refl, eq-eqb o.layer o.layer refl)
