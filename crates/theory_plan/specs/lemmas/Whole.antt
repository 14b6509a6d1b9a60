-- Lemmas. Where the limit holds the whole programme, in any order: at the first layer where the
-- counts differ the plan has more, if each layer has one size. Section 5 (d) of the argument.
use Rattle.std.specs.Prelude.{ℕ, zero, suc, ◌+◌, ◌*◌, ◌-◌, ◌≤◌, ◌<◌, min, ◌≡◌, refl, cond, List, leb, ltb, eqb}
use Rattle.std.proofs.Common.{sym, ◌∙◌, ⊎_elim, arith, mul-le-mul_right, eq-eqb, ne_eqb, lt-ltb, le-ltb, leb→le, ltb→lt, nltb→le, lt→ltb, eqb→eq}
use Rattle.std.proofs.Math.Dec.{not_T, nleb→lt}
use Rattle.theory_basics.specs.Sums.{count, pre, sum}
use Rattle.theory_basics.specs.lemmas.Ranges.{pre_add, pre_step, sum_mono, bit, count_mono, count_none, last_that_fails, point, point_in, point_out, point_total, pre_cong, pre_of_tests, rising_has_fewest_early, sum_below, sum_cong, sum_le, sum_swap}
use Rattle.theory_basics.specs.lemmas.Tests.{by_cond, test, neqb_ne}
use Rattle.fetch.specs.Rows.{Row}
use Rattle.fetch.specs.Rules.{Passes}
use Rattle.job.specs.Job.{HoldsAll, Job, Layer, chunks, layers, size}
use Rattle.theory_plan.specs.lemmas.Choice.{fits_can_carry}
use Rattle.theory_plan.specs.Plan.{bytes, tried}
use Rattle.theory_plan.specs.lemmas.Plan.{tried_choice}
use Rattle.theory_plan.specs.lemmas.Prefixes.{Prefixes, list_prefixes, prefixes_fit}
use Rattle.theory_plan.specs.lemmas.Tried.{settles_tried_iff}
use Rattle.theory_plan.specs.Statement.{CarriesExactly, Choice, SettledByTrials, count_of}
use Rattle.theory_plan.specs.lemmas.Words.{Sized, layer_of}

-- ---- the bytes of a choice, by layers of one size each

module _ (j : Job) (sized : Sized j) (z : ℕ → ℕ) (equal : (i n : ℕ) → Layer j i n → size j i n ≡ z n) where
  -- The bytes of the chunks up to b, layer by layer.
  pre_bytes :
      (lv : ℕ → ℕ) → Choice j lv → (b : ℕ) → b ≤ chunks j →
      pre (bytes j lv) b ≡ sum (λ m. count (λ k. ltb m (lv k)) b * z m) (layers j)
  pre_bytes lv c b h =
      pre_cong (bytes j lv) (λ k. sum (λ m. cond (ltb m (lv k)) (z m) 0) (layers j)) b (λ k u v.
      sum_cong (size j k) z (lv k) (λ m w. equal k m (layer_of j k m u (omega arith) (omega (arith, c k u (omega arith)))))
      ∙ sym (sum_below z (lv k) (layers j) (c k u (omega arith))))
      ∙ sum_swap (λ k m. cond (ltb m (lv k)) (z m) 0) b (layers j)
      ∙ sum_cong (λ m. pre (λ k. cond (ltb m (lv k)) (z m) 0) b) (λ m. count (λ k. ltb m (lv k)) b * z m) (layers j) (λ m u. pre_of_tests (λ k. ltb m (lv k)) (z m) b)

  -- Of two choices, the one that carries each layer for fewer of the chunks up to b has fewer bytes
  -- there.
  prefix_le :
      (y x : ℕ → ℕ) → Choice j y → Choice j x → (b : ℕ) → b ≤ chunks j →
      ((m : ℕ) → m < layers j → count (λ k. ltb m (y k)) b ≤ count (λ k. ltb m (x k)) b) → pre (bytes j y) b ≤ pre (bytes j x) b
  prefix_le y x cy cx b h f =
      omega (
        arith,
        pre_bytes y cy b h,
        pre_bytes x cx b h,
        sum_le (λ m. count (λ k. ltb m (y k)) b * z m) (λ m. count (λ k. ltb m (x k)) b * z m) (layers j) (λ m u. mul-le-mul_right (z m) (f m u)),
      )

  module _ (p : ℕ → ℕ) (dec : SettledByTrials j p) (wide : HoldsAll j) where
    -- ---- each layer of the plan is carried from some chunk on

    -- Otherwise the plan carries layer n of chunk y, and of a later chunk x only the layers below.
    module _ (n y x : ℕ) (ry : 1 ≤ y) (yx : y < x) (rx : x ≤ chunks j) (ln : n < layers j) (has-y : n < p y) (at_x : p x ≡ n) where
      -- The trial of x has the layer's bytes at x where the trial of y has them at y, and no others
      -- more.
      trial_exchanged :
          (k : ℕ) → 1 ≤ k → k ≤ chunks j → bytes j (tried p n x) k + point y (z n) k ≤ bytes j (tried p n y) k + point x (z n) k
      trial_exchanged k g h =
          ⊎_elim
          (λ t.
          let e = eqb→eq k x t in
          let a : min (p x) (suc n) ≡ n = omega arith in
          rw (e, eq-eqb x x refl, ne_eqb y x (omega arith), ne_eqb x y (omega arith), lt-ltb y x yx, a) (omega (arith, equal x n (layer_of j x n (omega arith) rx ln))))
          (λ t.
          let o : k ≡ x → ⊥ = neqb_ne k x t in
          ⊎_elim
          (λ v.
          let e = eqb→eq k y v in
          let a : min (p y) n ≡ n = omega arith in
          rw (e, ne_eqb y x (omega arith), ne_eqb x y (omega arith), eq-eqb y y refl, le-ltb x y (omega arith), a) (omega (arith, equal y n (layer_of j y n ry (omega arith) ln))))
          (λ v.
          let o' : k ≡ y → ⊥ = neqb_ne k y v in
          rw (ne_eqb k x o, ne_eqb k y o', ne_eqb y k (λ e. o' (sym e)), ne_eqb x k (λ e. o (sym e)))
          (omega (arith, sum_mono (size j k) (min (p k) (cond (ltb x k) (suc n) n)) (min (p k) (cond (ltb y k) (suc n) n)) (less k))))
          (test (eqb k y)))
          (test (eqb k x))
        where
          less : (k : ℕ) → min (p k) (cond (ltb x k) (suc n) n) ≤ min (p k) (cond (ltb y k) (suc n) n)
          less k =
              ⊎_elim
              (λ t. rw (lt-ltb x k (ltb→lt x k t), lt-ltb y k (omega (arith, ltb→lt x k t))) (omega arith))
              (λ t. rw (le-ltb x k (nltb→le x k t)) (by_cond (λ a. min (p k) n ≤ min (p k) a) (ltb y k) (λ u. omega arith) (λ u. omega arith)))
              (test (ltb x k))

      later_point_less : (b : ℕ) → pre (point x (z n)) b ≤ pre (point y (z n)) b
      later_point_less b =
          ⊎_elim
          (λ t. omega (arith, point_in y (z n) b ry (omega (arith, leb→le x b t)), point_total x (z n) b))
          (λ t. omega (arith, point_out x (z n) b (nleb→lt x b t)))
          (test (leb x b))

      -- So no prefix of it is heavier.
      later_trial_fits : Prefixes j (tried p n y) → Prefixes j (tried p n x)
      later_trial_fits f b g h =
          omega (
            arith,
            f b g h,
            later_point_less b,
            pre_step (λ k. bytes j (tried p n x) k + point y (z n) k) (λ k. bytes j (tried p n y) k + point x (z n) k) 0 b (λ k u v. trial_exchanged k u (omega arith)) (omega arith),
            pre_add (bytes j (tried p n x)) (point y (z n)) b,
            pre_add (bytes j (tried p n y)) (point x (z n)) b,
          )

      no_gap_behind : ⊥
      no_gap_behind =
          let s = (((settles_tried_iff j p n).0 (dec.decided n) y (layer_of j y n ry (omega arith) ln)).0 has-y).1 in
          let c = tried_choice j p x n dec.choice ln in
          let f = prefixes_fit j (tried p n x) wide (later_trial_fits (list_prefixes j s.rows (tried p n y) s.passes (tried_choice j p y n dec.choice ln) s.exactly)) in
          omega (arith, ((settles_tried_iff j p n).0 (dec.decided n) x (layer_of j x n (omega arith) rx ln)).1 (omega arith, fits_can_carry j sized (tried p n x) c f))

    -- A later chunk carries no fewer layers.
    layers_rise : (n y x : ℕ) → 1 ≤ y → y ≤ x → x ≤ chunks j → n ≤ p y → n ≤ p x
    layers_rise zero y x g l h a = omega arith
    layers_rise (suc n) y x g l h a =
        let r = layers_rise n y x g l h (omega arith) in
        ⊎_elim
        (λ t. ltb→lt n (p x) t)
        (λ t.
        let e : p x ≡ n = omega (arith, nltb→le n (p x) t) in
        ⊎_elim
        (λ u. absurd (no_gap_behind n y x g (ltb→lt y x u) h (omega (arith, dec.choice y g (omega arith))) a e))
        (λ u. let d : y ≡ x = omega (arith, nltb→le y x u) in rw d at a)
        (test (ltb y x)))
        (test (ltb n (p x)))

    -- ---- a passing list of the choice x, with the plan's counts below n

    module _
        (n : ℕ) (ln : n < layers j) (l : List Row) (ok : Passes j l) (x : ℕ → ℕ) (cx : Choice j x) (ax : CarriesExactly j l x)
        (same : (m : ℕ) → m < n → count_of j x m ≡ count_of j p m) where
      -- If it had more of layer n: look at the trial of the last chunk i that the plan leaves
      -- without layer n.
      module _
          (i : ℕ) (ri : 1 ≤ i) (hi : i ≤ chunks j) (lacks : p i ≤ n) (rest : (k : ℕ) → i < k → k ≤ chunks j → n < p k)
          (more : count_of j p n < count_of j x n) where
        -- Chunk i has the layers below n.
        below_carried : (m : ℕ) → m ≤ n → m ≤ p i
        below_carried zero h = omega arith
        below_carried (suc m) h =
            ⊎_elim
            (λ t. ltb→lt m (p i) t)
            (λ t.
            let o = nltb→le m (p i) t in
            absurd
            (omega (
              arith,
              same m h,
              count_mono (λ k. ltb m (p k)) (λ k. ltb n (p k)) (chunks j) (λ k u v w.
                  let b = ltb→lt m (p k) w in
                  lt→ltb n (p k)
                  (⊎_elim
                  (λ a. rest k (ltb→lt i k a) v)
                  (λ a. absurd (omega (arith, b, layers_rise (suc m) k i u (nltb→le i k a) hi b)))
                  (test (ltb i k)))),
              count_mono (λ k. ltb n (x k)) (λ k. ltb m (x k)) (chunks j) (λ k u v w. lt→ltb m (x k) (omega (arith, ltb→lt n (x k) w))),
            )))
            (test (ltb m (p i)))

        -- The trial has layers 0 to n from i on, and what the plan has below n before it; so it
        -- rises.
        tried_late : (k : ℕ) → i ≤ k → k ≤ chunks j → tried p n i k ≡ suc n
        tried_late k g h =
            ⊎_elim
            (λ t. rw (ne_eqb k i (omega (arith, ltb→lt i k t)), lt-ltb i k (ltb→lt i k t)) (omega (arith, rest k (ltb→lt i k t) h)))
            (λ t. let e : k ≡ i = omega (arith, nltb→le i k t) in rw (e, eq-eqb i i refl))
            (test (ltb i k))

        tried_early : (k : ℕ) → k < i → tried p n i k ≡ min (p k) n
        tried_early k g = rw (ne_eqb k i (omega arith), le-ltb i k (omega arith))

        tried_rises : (a b : ℕ) → 1 ≤ a → a ≤ b → b ≤ chunks j → tried p n i a ≤ tried p n i b
        tried_rises a b g h l =
            ⊎_elim
            (λ t.
            ⊎_elim
            (λ u. omega (arith, tried_late b (leb→le i b t) l, tried_late a (leb→le i a u) (omega arith)))
            (λ u. omega (arith, tried_late b (leb→le i b t) l, tried_early a (nleb→lt i a u)))
            (test (leb i a)))
            (λ t. omega (arith, tried_early b (nleb→lt i b t), tried_early a (omega (arith, nleb→lt i b t)), layers_rise (p a) a b g h l (omega arith)))
            (test (leb i b))

        -- It carries no layer for more chunks than the list.
        tried_counts : (m : ℕ) → m < layers j → count (λ k. ltb m (tried p n i k)) (chunks j) ≤ count_of j x m
        tried_counts m h =
            ⊎_elim
            (λ t.
            let l = ltb→lt m n t in
            omega (
              arith,
              same m l,
              count_mono (λ k. ltb m (tried p n i k)) (λ k. ltb m (p k)) (chunks j) (λ k u v w.
                  lt→ltb m (p k)
                  (⊎_elim
                  (λ a.
                  ⊎_elim
                  (λ b. omega (arith, rest k (ltb→lt i k b) v))
                  (λ b. let e : k ≡ i = omega (arith, leb→le i k a, nltb→le i k b) in rw e (omega (arith, below_carried n (omega arith))))
                  (test (ltb i k)))
                  (λ a. omega (arith, ltb→lt m (tried p n i k) w, tried_early k (nleb→lt i k a)))
                  (test (leb i k)))),
            ))
            (λ t.
            ⊎_elim
            (λ u.
            let e : m ≡ n = omega (arith, nltb→le m n t, leb→le m n u) in
            rw e
            (omega (
              arith,
              more,
              pre_step (λ k. bit (ltb n (tried p n i k))) (λ k. bit (ltb n (p k)) + point i 1 k) 0 (chunks j) (λ k v w. tried_one_more k w) (omega arith),
              pre_add (λ k. bit (ltb n (p k))) (point i 1) (chunks j),
              point_total i 1 (chunks j),
            )))
            (λ u.
            let l = nleb→lt m n u in
            omega (
              arith,
              count_none (λ k. ltb m (tried p n i k)) (chunks j) (λ k v w. not_T (ltb m (tried p n i k)) (λ a. omega (arith, ltb→lt m (tried p n i k) a, tried_small k))),
            ))
            (test (leb m n)))
            (test (ltb m n))
          where
            tried_small : (k : ℕ) → tried p n i k ≤ suc n
            tried_small k = by_cond (λ a. a ≤ suc n) (eqb k i) (λ t. omega arith) (λ t. by_cond (λ a. min (p k) a ≤ suc n) (ltb i k) (λ u. omega arith) (λ u. omega arith))

            tried_one_more : (k : ℕ) → k ≤ chunks j → bit (ltb n (tried p n i k)) ≤ bit (ltb n (p k)) + point i 1 k
            tried_one_more k h =
                ⊎_elim
                (λ t. rw (lt-ltb n (p k) (rest k (ltb→lt i k t) h)) (by_cond (λ (a : ℕ). a ≤ 1 + point i 1 k) (ltb n (tried p n i k)) (λ u. omega arith) (λ u. omega arith)))
                (λ t.
                ⊎_elim
                (λ u. let e = eqb→eq i k u in rw (eq-eqb i k e) (by_cond (λ (a : ℕ). a ≤ bit (ltb n (p k)) + 1) (ltb n (tried p n i k)) (λ v. omega arith) (λ v. omega arith)))
                (λ u.
                let o : k ≡ i → ⊥ = λ e. neqb_ne i k u (sym e) in
                rw (ne_eqb k i o, le-ltb i k (nltb→le i k t), le-ltb n (min (p k) n) (omega arith)) (omega arith))
                (test (eqb i k)))
                (test (ltb i k))

        -- So, as it rises, no prefix of it is heavier than the list's.
        tried_fits_by_prefixes : Prefixes j (tried p n i)
        tried_fits_by_prefixes b g h =
            let e : chunks j - b + b ≡ chunks j = omega arith in
            omega (
              arith,
              list_prefixes j l x ok cx ax b g h,
              prefix_le (tried p n i) x (tried_choice j p i n dec.choice ln) cx b h (λ m u.
                  rising_has_fewest_early (λ k. ltb m (tried p n i k)) (λ k. ltb m (x k)) (chunks j - b) b
                  (λ a c v w y t. lt→ltb m (tried p n i c) (omega (arith, ltb→lt m (tried p n i a) t, tried_rises a c v w (omega arith))))
                  (rw e (tried_counts m u))),
            )

        would_be_carried : ⊥
        would_be_carried =
            let f = prefixes_fit j (tried p n i) wide tried_fits_by_prefixes in
            let s = fits_can_carry j sized (tried p n i) (tried_choice j p i n dec.choice ln) f in
            omega (arith, ((settles_tried_iff j p n).0 (dec.decided n) i (layer_of j i n ri hi ln)).1 (below_carried n (omega arith), s))

      -- The list has no more of layer n than the plan.
      pub whole_most : count_of j x n ≤ count_of j p n
      whole_most =
          ⊎_elim
          (λ t. leb→le (count_of j x n) (count_of j p n) t)
          (λ t.
          let more = nleb→lt (count_of j x n) (count_of j p n) t in
          absurd
          (⊎_elim
          (λ f. omega (arith, count_mono (λ k. ltb n (x k)) (λ k. ltb n (p k)) (chunks j) (λ k u v w. f k u v)))
          (λ s. would_be_carried s.0 s.1 s.2 (nltb→le n (p s.0) s.3) (λ k u v. ltb→lt n (p k) (s.4 k u v)) more)
          (last_that_fails (λ k. ltb n (p k)) (chunks j))))
          (test (leb (count_of j x n) (count_of j p n)))
