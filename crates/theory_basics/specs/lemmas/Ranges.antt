-- Lemmas. Sums and counts over ranges of numbers. Assumes nothing.
use Rattle.std.specs.Prelude.{ℕ, zero, suc, ◌+◌, ◌*◌, ◌≤◌, ◌<◌, ◌≡◌, refl, Bool, true, false, not, cond, ◌&&◌, ◌⊎◌, ◌↔◌, T, ltb, eqb}
use Rattle.std.proofs.Common.{sym, subst, inl, inr, ⊎_elim, arith, eq-eqb, ne_eqb, lt-ltb, le-ltb, T_not, ltb→lt, nltb→le, eqb→eq, add-one}
use Rattle.std.proofs.Math.Dec.{not_T}
use Rattle.theory_basics.specs.Sums.{count, pre, sum}
use Rattle.theory_basics.specs.lemmas.Tests.{last, not_T_false, test}

-- ---- sums of 1 .. n

pub pre_le : (f g : ℕ → ℕ) (n : ℕ) → ((t : ℕ) → f t ≤ g t) → pre f n ≤ pre g n
pre_le f g zero h = omega arith
pre_le f g (suc n) h = omega (arith, pre_le f g n h, h (suc n))

pub pre_add : (f g : ℕ → ℕ) (n : ℕ) → pre (λ t. f t + g t) n ≡ pre f n + pre g n
pre_add f g zero = omega arith
pre_add f g (suc n) = omega (arith, pre_add f g n)

pub pre_mono : (f : ℕ → ℕ) (q d : ℕ) → q ≤ d → pre f q ≤ pre f d
pre_mono f q zero l = let e : q ≡ 0 = omega arith in rw e (omega arith)
pre_mono f q (suc d) l = ⊎_elim (λ l'. omega (arith, pre_mono f q d l')) (λ e. rw e (omega arith)) (last q d l)

-- What f and g sum to between two places.
pub pre_step : (f g : ℕ → ℕ) (q d : ℕ) → ((t : ℕ) → 1 ≤ t → t ≤ d → f t ≤ g t) → q ≤ d → pre f d + pre g q ≤ pre g d + pre f q
pre_step f g q zero h l = let e : q ≡ 0 = omega arith in rw e (omega arith)
pre_step f g q (suc d) h l =
    ⊎_elim
    (λ l'. omega (arith, pre_step f g q d (λ t u v. h t u (omega arith)) l', h (suc d) (omega arith) (omega arith)))
    (λ e. rw e (omega arith))
    (last q d l)

pub sum_mono : (f : ℕ → ℕ) (a b : ℕ) → a ≤ b → sum f a ≤ sum f b
sum_mono f a zero h = let e : a ≡ 0 = omega arith in rw e (omega arith)
sum_mono f a (suc b) h = ⊎_elim (λ l. omega (arith, sum_mono f a b l)) (λ e. rw e (omega arith)) (last a b h)

-- ---- at most so much each

pub sum_most : (f : ℕ → ℕ) (most n : ℕ) → ((k : ℕ) → f k ≤ most) → sum f n ≤ n * most
sum_most f most zero h = omega arith
sum_most f most (suc n) h = omega (arith, sum_most f most n h, h n)

pub pre_most : (f : ℕ → ℕ) (most n : ℕ) → ((k : ℕ) → f k ≤ most) → pre f n ≤ n * most
pre_most f most zero h = omega arith
pre_most f most (suc n) h = omega (arith, pre_most f most n h, h (suc n))

pub cond_most : (b : Bool) (x most : ℕ) → x ≤ most → cond b x 0 ≤ most
cond_most true x most h = h
cond_most false x most h = omega arith

-- ---- a test as 0 or 1

-- 1 if the test holds, else 0.
abbrev pub bit : Bool → ℕ
bit b = cond b 1 0

pub bit_le : (b : Bool) → bit b ≤ 1
bit_le true = omega arith
bit_le false = omega arith

pub bit_yes : (b : Bool) → T b → bit b ≡ 1
bit_yes true t = refl
bit_yes false t = absurd t

pub bit_no : (b : Bool) → T (not b) → bit b ≡ 0
bit_no true t = absurd t
bit_no false t = refl

pub bit_mono : (a b : Bool) → (T a → T b) → bit a ≤ bit b
bit_mono true true f = omega arith
bit_mono true false f = absurd (f tt)
bit_mono false b f = omega arith

-- ---- counts over 1 .. n

pub count_none : (p : ℕ → Bool) (n : ℕ) → ((i : ℕ) → 1 ≤ i → i ≤ n → T (not (p i))) → count p n ≡ 0
count_none p zero f = refl
count_none p (suc n) f = omega (arith, count_none p n (λ i u v. f i u (omega arith)), bit_no (p (suc n)) (f (suc n) (omega arith) (omega arith)))

pub count_mono : (p q : ℕ → Bool) (n : ℕ) → ((i : ℕ) → 1 ≤ i → i ≤ n → T (p i) → T (q i)) → count p n ≤ count q n
count_mono p q zero f = omega arith
count_mono p q (suc n) f =
    omega (arith, count_mono p q n (λ i u v t. f i u (omega arith) t), bit_mono (p (suc n)) (q (suc n)) (f (suc n) (omega arith) (omega arith)))

pub count_cong : (p q : ℕ → Bool) (n : ℕ) → ((i : ℕ) → 1 ≤ i → i ≤ n → p i ≡ q i) → count p n ≡ count q n
count_cong p q zero f = refl
count_cong p q (suc n) f = rw (f (suc n) (omega arith) (omega arith)) (omega (arith, count_cong p q n (λ i u v. f i u (omega arith))))

pub count_more : (n : ℕ) (p : ℕ → Bool) → count p (n + 1) ≡ count p n + cond (p (n + 1)) 1 0
count_more n p = rw add-one

pub count_small : (n : ℕ) (p : ℕ → Bool) → count p n ≤ n
count_small zero p = omega arith
count_small (suc n) p = omega (arith, count_small n p, bit_le (p (suc n)))

-- Two pairs of counts that agree at every place agree.
pub counts_add : (n : ℕ) (p q r s : ℕ → Bool) → ((k : ℕ) → cond (p k) 1 0 + cond (q k) 1 0 ≡ cond (r k) 1 0 + cond (s k) 1 0)
    → count p n + count q n ≡ count r n + count s n
counts_add zero p q r s h = refl
counts_add (suc n) p q r s h = omega (arith, h (suc n), counts_add n p q r s h)

-- A number above lo that passes is one more than the count to lo.
pub count_step : (p : ℕ → Bool) (lo k : ℕ) → lo < k → T (p k) → suc (count p lo) ≤ count p k
count_step p lo zero h t = absurd (omega arith)
count_step p lo (suc k) h t = omega (arith, pre_mono (λ i. bit (p i)) lo k (omega arith), bit_yes (p (suc k)) t)

-- If all that pass p pass q, and no more pass q, then those that pass q pass p.
pub count_tight :
    (p q : ℕ → Bool) (n : ℕ) → ((i : ℕ) → 1 ≤ i → i ≤ n → T (p i) → T (q i)) → count q n ≤ count p n → (i : ℕ) → 1 ≤ i → i ≤ n →
    T (q i) → T (p i)
count_tight p q zero f h i g l t = absurd (omega arith)
count_tight p q (suc n) f h i g l t =
    let f' : (i : ℕ) → 1 ≤ i → i ≤ n → T (p i) → T (q i) = λ i u v t. f i u (omega arith) t in
    let m = count_mono p q n f' in
    ⊎_elim
    (λ a.
    let y = bit_yes (q (suc n)) (f (suc n) (omega arith) (omega arith) a) in
    ⊎_elim (λ u. count_tight p q n f' (omega (arith, bit_yes (p (suc n)) a, y)) i g u t) (λ e. rw e a) (last i n l))
    (λ a.
    let z = bit_no (p (suc n)) a in
    ⊎_elim (λ u. count_tight p q n f' (omega arith) i g u t) (λ e. absurd (omega (arith, bit_yes (q (suc n)) (rw e at t)))) (last i n l))
    (test (p (suc n)))

-- A test that passes from some number on has, of all with no smaller count, the fewest early ones.
pub rising_has_fewest_early :
    (q r : ℕ → Bool) (e b : ℕ) → ((x y : ℕ) → 1 ≤ x → x ≤ y → y ≤ e + b → T (q x) → T (q y)) → count q (e + b) ≤ count r (e + b) →
    count q b ≤ count r b
rising_has_fewest_early q r zero b f h = let e : 0 + b ≡ b = omega arith in rw e at h
rising_has_fewest_early q r (suc e) b f h =
    let s : suc e + b ≡ suc (e + b) = omega arith in
    let h' : count q (suc (e + b)) ≤ count r (suc (e + b)) = rw s at h in
    ⊎_elim
    (λ t. rising_has_fewest_early q r e b (λ x y u v w. f x y u v (omega arith)) (omega (arith, h', bit_yes (q (suc (e + b))) t, bit_le (r (suc (e + b))))))
    (λ t.
    omega (
      arith,
      count_none q b (λ i u v. not_T (q i) (λ w. T_not (q (suc (e + b))) t (f i (suc (e + b)) u (omega arith) (omega arith) w))),
    ))
    (test (q (suc (e + b))))

-- Either all of 1 .. c pass, or there is a last one that does not.
pub last_that_fails :
    (q : ℕ → Bool) (c : ℕ) →
    ((k : ℕ) → 1 ≤ k → k ≤ c → T (q k)) ⊎ ((i : ℕ) × (1 ≤ i) × (i ≤ c) × T (not (q i)) × ((k : ℕ) → i < k → k ≤ c → T (q k)))
last_that_fails q zero = inl (λ k u v. absurd (omega arith))
last_that_fails q (suc c) =
    ⊎_elim
    (λ t.
    ⊎_elim
    (λ f. inl (λ k u v. ⊎_elim (λ w. f k u w) (λ e. rw e t) (last k c v)))
    (λ s. inr (s.0, s.1, omega (arith, s.2), s.3, λ k u v. ⊎_elim (λ w. s.4 k u w) (λ e. rw e t) (last k c v)))
    (last_that_fails q c))
    (λ t. inr (suc c, omega arith, omega arith, t, λ k u v. absurd (omega arith)))
    (test (q (suc c)))

-- ---- sums over 1 .. n

-- b at the place s, and 0 elsewhere.
abbrev pub point : ℕ → ℕ → ℕ → ℕ
point s b t = cond (eqb s t) b 0

pub point_out : (s b n : ℕ) → n < s → pre (point s b) n ≡ 0
point_out s b zero h = refl
point_out s b (suc n) h = rw (ne_eqb s (suc n) (omega arith)) (omega (arith, point_out s b n (omega arith)))

pub point_in : (s b n : ℕ) → 1 ≤ s → s ≤ n → pre (point s b) n ≡ b
point_in s b zero g h = absurd (omega arith)
point_in s b (suc n) g h =
    ⊎_elim
    (λ l. rw (ne_eqb s (suc n) (omega arith)) (omega (arith, point_in s b n g l)))
    (λ e. rw (eq-eqb s (suc n) e) (omega (arith, point_out s b n (omega arith))))
    (last s n h)

pub point_total : (s b n : ℕ) → pre (point s b) n ≤ b
point_total s b zero = omega arith
point_total s b (suc n) =
    ⊎_elim
    (λ t. rw (eq-eqb s (suc n) (eqb→eq s (suc n) t)) (omega (arith, point_out s b n (omega (arith, eqb→eq s (suc n) t)))))
    (λ t. rw (not_T_false (eqb s (suc n)) t) (omega (arith, point_total s b n)))
    (test (eqb s (suc n)))

pub pre_cong : (f g : ℕ → ℕ) (n : ℕ) → ((k : ℕ) → 1 ≤ k → k ≤ n → f k ≡ g k) → pre f n ≡ pre g n
pre_cong f g zero h = refl
pre_cong f g (suc n) h = omega (arith, pre_cong f g n (λ k u v. h k u (omega arith)), h (suc n) (omega arith) (omega arith))

pub pre_zero : (n : ℕ) → pre (λ k. 0) n ≡ 0
pre_zero zero = refl
pre_zero (suc n) = omega (arith, pre_zero n)

-- z for each number that passes.
pub pre_of_tests : (q : ℕ → Bool) (z n : ℕ) → pre (λ k. cond (q k) z 0) n ≡ count q n * z
pre_of_tests q z zero = omega arith
pre_of_tests q z (suc n) = by (q (suc n)) (pre_of_tests q z n)
  where
    by : (b : Bool) → pre (λ k. cond (q k) z 0) n ≡ count q n * z → pre (λ k. cond (q k) z 0) n + cond b z 0 ≡ (count q n + bit b) * z
    by true e = omega arith
    by false e = omega arith

-- ---- sums over 0 .. n - 1

pub sum_add : (f g : ℕ → ℕ) (n : ℕ) → sum (λ t. f t + g t) n ≡ sum f n + sum g n
sum_add f g zero = omega arith
sum_add f g (suc n) = omega (arith, sum_add f g n)

pub sum_zero : (n : ℕ) → sum (λ t. 0) n ≡ 0
sum_zero zero = refl
sum_zero (suc n) = omega (arith, sum_zero n)

pub sum_cong : (f g : ℕ → ℕ) (n : ℕ) → ((t : ℕ) → t < n → f t ≡ g t) → sum f n ≡ sum g n
sum_cong f g zero h = refl
sum_cong f g (suc n) h = omega (arith, sum_cong f g n (λ t u. h t (omega arith)), h n (omega arith))

pub sum_le : (f g : ℕ → ℕ) (n : ℕ) → ((t : ℕ) → t < n → f t ≤ g t) → sum f n ≤ sum g n
sum_le f g zero h = omega arith
sum_le f g (suc n) h = omega (arith, sum_le f g n (λ t u. h t (omega arith)), h n (omega arith))

-- What is 0 from m on sums to m's sum.
pub sum_below : (f : ℕ → ℕ) (m n : ℕ) → m ≤ n → sum (λ t. cond (ltb t m) (f t) 0) n ≡ sum f m
sum_below f m zero h = let e : m ≡ 0 = omega arith in rw e
sum_below f m (suc n) h =
    ⊎_elim
    (λ l. rw (le-ltb n m l) (omega (arith, sum_below f m n l)))
    (λ e. subst (λ (k : ℕ). sum (λ t. cond (ltb t k) (f t) 0) (suc n) ≡ sum f k) (sym e) (sum_cong (λ t. cond (ltb t (suc n)) (f t) 0) f (suc n) (λ t u. rw (lt-ltb t (suc n) u))))
    (last m n h)

sum_point_out : (s b n : ℕ) → n ≤ s → sum (point s b) n ≡ 0
sum_point_out s b zero h = refl
sum_point_out s b (suc n) h = rw (ne_eqb s n (omega arith)) (omega (arith, sum_point_out s b n (omega arith)))

sum_point_in : (s b n : ℕ) → s < n → sum (point s b) n ≡ b
sum_point_in s b zero h = absurd (omega arith)
sum_point_in s b (suc n) h =
    ⊎_elim
    (λ t. rw (ne_eqb s n (λ e. omega (arith, ltb→lt s n t))) (omega (arith, sum_point_in s b n (ltb→lt s n t))))
    (λ t. rw (eq-eqb s n (omega (arith, nltb→le s n t))) (omega (arith, sum_point_out s b n (nltb→le s n t))))
    (test (ltb s n))

-- b, if c holds, is what stands at the place s.
pub sum_at : (c : Bool) (s b n : ℕ) → s < n → cond c b 0 ≡ sum (λ t. cond (c && eqb s t) b 0) n
sum_at true s b n h = sym (sum_point_in s b n h)
sum_at false s b n h = sym (sum_zero n)

-- A table summed by columns or by rows.
pub sum_swap : (f : ℕ → ℕ → ℕ) (b n : ℕ) → pre (λ k. sum (f k) n) b ≡ sum (λ m. pre (λ k. f k m) b) n
sum_swap f b zero = pre_zero b
sum_swap f b (suc n) = omega (arith, sum_swap f b n, pre_add (λ k. sum (f k) n) (λ k. f k n) b)

-- ---- how many of 0 .. n - 1 pass, where all below one that passes do

pub bits_le : (p : ℕ → Bool) (n : ℕ) → sum (λ m. bit (p m)) n ≤ n
bits_le p zero = omega arith
bits_le p (suc n) = omega (arith, bits_le p n, bit_le (p n))

bits_all : (p : ℕ → Bool) (n : ℕ) → ((m : ℕ) → m < n → T (p m)) → n ≤ sum (λ m. bit (p m)) n
bits_all p zero f = omega arith
bits_all p (suc n) f = omega (arith, bits_all p n (λ m h. f m (omega arith)), bit_yes (p n) (f n (omega arith)))

passes_below : (p : ℕ → Bool) (k m : ℕ) → ((n : ℕ) → suc n ≤ k → T (p (suc n)) → T (p n)) → m ≤ k → T (p k) → T (p m)
passes_below p zero m f h t = let e : m ≡ 0 = omega arith in rw e t
passes_below p (suc k) m f h t = ⊎_elim (λ l. passes_below p k m (λ n u v. f n (omega arith) v) l (f k (omega arith) t)) (λ e. rw e t) (last m k h)

-- Those below the count are those that pass.
pub below_bits_iff :
    (p : ℕ → Bool) (k : ℕ) → ((n : ℕ) → suc n < k → T (p (suc n)) → T (p n)) → (n : ℕ) → n < k →
    (n < sum (λ m. bit (p m)) k) ↔ T (p n)
below_bits_iff p zero f n h = absurd (omega arith)
below_bits_iff p (suc k) f n h =
    ⊎_elim
    (λ t.
    let all : (m : ℕ) → m < suc k → T (p m) = λ m l. passes_below p k m (λ n u v. f n (omega arith) v) (omega arith) t in
    (λ l. all n h, λ u. omega (arith, bits_all p (suc k) all)))
    (λ t.
    let z = bit_no (p k) t in
    ⊎_elim
    (λ l. let r = below_bits_iff p k (λ n u v. f n (omega arith) v) n (ltb→lt n k l) in (λ u. r.0 (omega arith), λ u. omega (arith, r.1 u)))
    (λ l. let e : n ≡ k = omega (arith, nltb→le n k l) in (λ u. absurd (omega (arith, bits_le p k)), λ u. absurd (omega (arith, bit_yes (p k) (rw e at u)))))
    (test (ltb n k)))
    (test (p k))
