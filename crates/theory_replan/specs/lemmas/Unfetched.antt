-- Lemmas. What the fetched rows leave of the carried bytes: its layers rise, each is of the choice
-- and has bytes, and how many.
use Rattle.std.specs.Prelude.{ℕ, zero, suc, ◌+◌, ◌-◌, ◌≤◌, ◌<◌, ◌≡◌, refl, Bool, true, false, not, cond, ◌&&◌, List, [], ◌∷◌, ◌++◌, ◌⊎◌, T, ltb, eqb}
use Rattle.std.proofs.Common.{sym, ap, ◌∙◌, inl, inr, ⊎_elim, arith, eq-eqb, ne_eqb, lt-ltb, le-ltb, ltb→lt, nltb→le, eqb→eq}
use Rattle.theory_basics.specs.Lists.{up_to}
use Rattle.theory_basics.specs.Sums.{pre, sum}
use Rattle.theory_basics.specs.Tests.{All}
use Rattle.theory_basics.specs.lemmas.Ranges.{point, point_in, point_total, pre_cong, pre_le, sum_cong, sum_zero}
use Rattle.theory_basics.specs.lemmas.Tests.{all_append, all_map, by_cond, by_cond_both, test, neqb_ne, not_T_false}
use Rattle.theory_basics.specs.lemmas.Tables.{ne_lt}
use Rattle.job.specs.Job.{chunks, Job, size}
use Rattle.fetch.specs.Rows.{bytes_of_layer, Row}
use Rattle.theory_plan.specs.Own.{carried_to, Piece, whole_layer, without}
use Rattle.theory_plan.specs.lemmas.Queue.{at_layer}
use Rattle.theory_replan.specs.Plan.{bytes_left}
use Rattle.theory_replan.specs.Own.{unfetched}
use Rattle.theory_replan.specs.lemmas.Parts.{left_if, of_chunk, PartBefore, Rising}

-- ---- what holds of the layers of all parts holds of those left

module _ (fetched : List Row) where
  pub unfetched_all :
      (Q : ℕ → ℕ → Type 0) (ps : List Piece) → All (λ q. Q q.chunk q.layer) ps →
      All (λ q. Q q.chunk q.layer × (1 ≤ q.bytes)) (unfetched fetched ps)
  unfetched_all Q [] a = tt
  unfetched_all Q (p ∷ ps) a =
      let more = unfetched_all Q ps a.1 in
      let got = bytes_of_layer fetched p.chunk p.layer in
      by_cond
      (All (λ q. Q q.chunk q.layer × (1 ≤ q.bytes)))
      (ltb got p.bytes)
      (λ t. ((a.0, omega (arith, ltb→lt got p.bytes t)), more))
      (λ t. more)

  unfetched_behind : (x : Piece) (ps : List Piece) → All (PartBefore x) ps → All (PartBefore x) (unfetched fetched ps)
  unfetched_behind x [] a = tt
  unfetched_behind x (p ∷ ps) a =
      let more = unfetched_behind x ps a.1 in
      by_cond (All (PartBefore x)) (ltb (bytes_of_layer fetched p.chunk p.layer) p.bytes) (λ t. (a.0, more)) (λ t. more)

  pub unfetched_rising : (ps : List Piece) → Rising ps → Rising (unfetched fetched ps)
  unfetched_rising [] r = tt
  unfetched_rising (p ∷ ps) r =
      let more = unfetched_rising ps r.1 in
      by_cond Rising (ltb (bytes_of_layer fetched p.chunk p.layer) p.bytes) (λ t. (unfetched_behind p ps r.0, more)) (λ t. more)

  -- ---- how many bytes are left

  left_append :
      (P : ℕ → ℕ → Bool) (a b : List Piece) →
      left_if P (unfetched fetched (a ++ b)) ≡ left_if P (unfetched fetched a) + left_if P (unfetched fetched b)
  left_append P [] b = omega arith
  left_append P (p ∷ ps) b =
      by_cond_both
      (λ (x y : List Piece). left_if P x ≡ left_if P y + left_if P (unfetched fetched b))
      (ltb (bytes_of_layer fetched p.chunk p.layer) p.bytes)
      (λ t. omega (arith, left_append P ps b))
      (λ t. left_append P ps b)

  left_one :
      (P : ℕ → ℕ → Bool) (p : Piece) →
      left_if P (unfetched fetched (p ∷ [])) ≡ cond (P p.chunk p.layer) (p.bytes - bytes_of_layer fetched p.chunk p.layer) 0
  left_one P p =
      let got = bytes_of_layer fetched p.chunk p.layer in
      let b = P p.chunk p.layer in
      by_cond
      (λ (x : List Piece). left_if P x ≡ cond b (p.bytes - got) 0)
      (ltb got p.bytes)
      (λ t. omega arith)
      (λ t. sym (by_cond (λ (x : ℕ). x ≡ 0) b (λ u. omega (arith, nltb→le got p.bytes t)) (λ u. refl)))

  module _ (j : Job) (lv : ℕ → ℕ) where
    -- What is left of a layer of the choice.
    abbrev rest : ℕ → ℕ → ℕ
    rest i n = size j i n - bytes_of_layer fetched i n

    left_layers : (P : ℕ → ℕ → Bool) (i m : ℕ) → left_if P (unfetched fetched (up_to (whole_layer j i) m)) ≡ sum (λ n. cond (P i n) (rest i n) 0) m
    left_layers P i zero = refl
    left_layers P i (suc m) =
        omega (arith, left_append P (up_to (whole_layer j i) m) (whole_layer j i m ∷ []), left_layers P i m, left_one P (whole_layer j i m))

    left_chunks :
        (P : ℕ → ℕ → Bool) (c : ℕ) →
        left_if P (unfetched fetched (carried_to j lv c)) ≡ pre (λ i. sum (λ n. cond (P i n) (rest i n) 0) (lv i)) c
    left_chunks P zero = refl
    left_chunks P (suc c) =
        omega (arith, left_append P (carried_to j lv c) (up_to (whole_layer j (suc c)) (lv (suc c))), left_chunks P c, left_layers P (suc c) (lv (suc c)))

    -- Of chunk k no more than the bytes left of it.
    pub left_of_chunk : (k : ℕ) → left_if (of_chunk k) (unfetched fetched (carried_to j lv (chunks j))) ≤ bytes_left j fetched lv k
    left_of_chunk k =
        omega (
          arith,
          left_chunks (of_chunk k) (chunks j),
          pre_le (λ i. sum (λ n. cond (eqb k i) (rest i n) 0) (lv i)) (point k (bytes_left j fetched lv k)) (chunks j) at_chunk,
          point_total k (bytes_left j fetched lv k) (chunks j),
        )
      where
        at_chunk : (i : ℕ) → sum (λ n. cond (eqb k i) (rest i n) 0) (lv i) ≤ point k (bytes_left j fetched lv k) i
        at_chunk i =
            ⊎_elim
            (λ t. let e : k ≡ i = eqb→eq k i t in rw (eq-eqb k i e, e) (omega arith))
            (λ t. rw (not_T_false (eqb k i) t) (omega (arith, sum_zero (lv i))))
            (test (eqb k i))

    -- Of a layer of the choice what is not fetched, of another nothing.
    pub left_of_layer :
        (i n : ℕ) → 1 ≤ i → i ≤ chunks j →
        left_if (at_layer i n) (unfetched fetched (carried_to j lv (chunks j))) ≡ cond (ltb n (lv i)) (rest i n) 0
    left_of_layer i n g h =
        let x : ℕ = cond (ltb n (lv i)) (rest i n) 0 in
        left_chunks (at_layer i n) (chunks j)
        ∙ pre_cong (λ k. sum (λ m. cond (at_layer i n k m) (rest k m) 0) (lv k)) (point i x) (chunks j) (λ k u v. at_layer_of k)
        ∙ point_in i x (chunks j) g h
      where
        one : (f : ℕ → ℕ) (c : ℕ) → sum (λ m. cond (eqb m n) (f m) 0) c ≡ cond (ltb n c) (f n) 0
        one f zero = rw (le-ltb n 0 (omega arith))
        one f (suc c) =
            ⊎_elim
            (λ t. let e : c ≡ n = eqb→eq c n t in rw (eq-eqb c n e) (rw (lt-ltb n (suc c) (omega arith)) (omega (arith, ap f e, rw (le-ltb n c (omega arith)) at (one f c)))))
            (λ t.
            let o : c ≡ n → ⊥ = neqb_ne c n t in
            rw (ne_eqb c n o)
            (⊎_elim
            (λ u. let l = ltb→lt n c u in rw (lt-ltb n (suc c) (omega arith)) (omega (arith, rw (lt-ltb n c l) at (one f c))))
            (λ u. let l = nltb→le n c u in rw (le-ltb n (suc c) (ne_lt c n l o)) (omega (arith, rw (le-ltb n c l) at (one f c))))
            (test (ltb n c))))
            (test (eqb c n))

        at_layer_of : (k : ℕ) → sum (λ m. cond (at_layer i n k m) (rest k m) 0) (lv k) ≡ point i (cond (ltb n (lv i)) (rest i n) 0) k
        at_layer_of k =
            ⊎_elim
            (λ t. let e : k ≡ i = eqb→eq k i t in rw (e, eq-eqb i i refl) (one (rest i) (lv i)))
            (λ t.
            let o : k ≡ i → ⊥ = neqb_ne k i t in
            rw (ne_eqb k i o, ne_eqb i k (λ e. o (sym e))) (sum_zero (lv k)))
            (test (eqb k i))

-- ---- the carried bytes rise by chunk, then layer

rising_append : (a b : List Piece) → Rising a → Rising b → All (λ x. All (PartBefore x) b) a → Rising (a ++ b)
rising_append [] b r s f = s
rising_append (p ∷ ps) b r s f = (all_append (PartBefore p) ps b r.0 f.0, rising_append ps b r.1 s f.1)

module _ (j : Job) (lv : ℕ → ℕ) where
  layers_all : (i m : ℕ) → All (λ q. (q.chunk ≡ i) × (q.layer < m)) (up_to (whole_layer j i) m)
  layers_all i zero = tt
  layers_all i (suc m) =
      all_append (λ q. (q.chunk ≡ i) × (q.layer < suc m)) (up_to (whole_layer j i) m) (whole_layer j i m ∷ [])
      (all_map (λ q. (q.chunk ≡ i) × (q.layer < m)) (λ q. (q.chunk ≡ i) × (q.layer < suc m)) (up_to (whole_layer j i) m) (λ q h. (h.0, omega arith)) (layers_all i m))
      ((refl, omega arith), tt)

  layers_rise : (i m : ℕ) → Rising (up_to (whole_layer j i) m)
  layers_rise i zero = tt
  layers_rise i (suc m) =
      rising_append (up_to (whole_layer j i) m) (whole_layer j i m ∷ []) (layers_rise i m) (tt, tt)
      (all_map (λ q. (q.chunk ≡ i) × (q.layer < m)) (λ q. All (PartBefore q) (whole_layer j i m ∷ [])) (up_to (whole_layer j i) m) (λ q h. (inr (h.0, h.1), tt)) (layers_all i m))

  -- A layer of the choice, of one of the chunks 1 to c.
  pub record Chosen (c i n : ℕ) : Type 0 where
    pub chunk_low : 1 ≤ i
    pub chunk_high : i ≤ c
    pub layer_in : n < lv i

  pub carried_all : (c : ℕ) → All (λ q. Chosen c q.chunk q.layer) (carried_to j lv c)
  carried_all zero = tt
  carried_all (suc c) =
      all_append (λ q. Chosen (suc c) q.chunk q.layer) (carried_to j lv c) (up_to (whole_layer j (suc c)) (lv (suc c)))
      (all_map (λ q. Chosen c q.chunk q.layer) (λ q. Chosen (suc c) q.chunk q.layer) (carried_to j lv c) (λ q h. record { chunk_low = h.chunk_low; chunk_high = omega (arith, h.chunk_high); layer_in = h.layer_in }) (carried_all c))
      (all_map (λ q. (q.chunk ≡ suc c) × (q.layer < lv (suc c))) (λ q. Chosen (suc c) q.chunk q.layer) (up_to (whole_layer j (suc c)) (lv (suc c))) (λ q h. record { chunk_low = omega (arith, h.0); chunk_high = omega (arith, h.0); layer_in = rw h.0 h.1 }) (layers_all (suc c) (lv (suc c))))

  pub carried_rises : (c : ℕ) → Rising (carried_to j lv c)
  carried_rises zero = tt
  carried_rises (suc c) =
      let b = up_to (whole_layer j (suc c)) (lv (suc c)) in
      rising_append (carried_to j lv c) b (carried_rises c) (layers_rise (suc c) (lv (suc c)))
      (all_map (λ q. Chosen c q.chunk q.layer) (λ q. All (PartBefore q) b) (carried_to j lv c) (λ q h.
      all_map (λ r. (r.chunk ≡ suc c) × (r.layer < lv (suc c))) (PartBefore q) b (λ r k. inl (omega (arith, h.chunk_high, k.0))) (layers_all (suc c) (lv (suc c)))) (carried_all c))
