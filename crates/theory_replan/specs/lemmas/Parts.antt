-- Lemmas. Lists of parts, in general: what they hold, what they need, that their layers rise; and
-- what a need is bounded by if rule 6 holds a chunk back. d k is the due slot of chunk k, A t what
-- is forecast after slot t, w k the bytes left of chunk k.
use Rattle.std.specs.Prelude.{ℕ, zero, suc, ◌+◌, ◌-◌, ◌≤◌, ◌<◌, max, ◌≡◌, refl, Bool, true, false, not, cond, ◌&&◌, ◌||◌, List, [], ◌∷◌, ◌++◌, ◌⊎◌, drop, T, leb, ltb, eqb}
use Rattle.std.proofs.Common.{sym, ap, ◌∙◌, inl, inr, ⊎_elim, arith, eq-eqb, ne_eqb, lt-ltb, le-ltb, le-leb, leb→le, ltb→lt, nltb→le, eqb→eq}
use Rattle.std.proofs.lemmas.Bool.{lt-leb}
use Rattle.std.proofs.Math.Dec.{nleb→lt}
use Rattle.theory_basics.specs.Lists.{has}
use Rattle.theory_basics.specs.Sums.{count, pre}
use Rattle.theory_basics.specs.Tests.{All}
use Rattle.theory_basics.specs.lemmas.Ranges.{bit, bit_le, bit_mono}
use Rattle.theory_basics.specs.lemmas.Tests.{all_map, and_T, by_cond, T_or_iff, test, neqb_ne}
use Rattle.theory_basics.specs.lemmas.Tables.{ne_lt}
use Rattle.theory_plan.specs.Own.{Piece}
use Rattle.theory_plan.specs.Plan.{picked}
use Rattle.theory_plan.specs.lemmas.Feasible.{need_of}
use Rattle.theory_plan.specs.lemmas.Need.{Tails}
use Rattle.theory_plan.specs.Bases.{Asc}

-- ---- lists of parts

-- The bytes left of the layers that pass.
abbrev pub left_if : (ℕ → ℕ → Bool) → List Piece → ℕ
left_if P [] = 0
left_if P (p ∷ ps) = cond (P p.chunk p.layer) p.bytes 0 + left_if P ps

-- Of chunk k.
abbrev pub of_chunk : ℕ → ℕ → ℕ → Bool
of_chunk k i n = eqb k i

-- How much of the forecast, counted from its end, the parts use up.
abbrev pub needs_of : (d A : ℕ → ℕ) → List Piece → ℕ
needs_of d A [] = 0
needs_of d A (p ∷ ps) = p.bytes + max (A (d p.chunk)) (needs_of d A ps)

-- Part x stands before part y by chunk, then layer.
abbrev pub PartBefore : Piece → Piece → Type 0
PartBefore x y = (x.chunk < y.chunk) ⊎ ((x.chunk ≡ y.chunk) × (x.layer < y.layer))

abbrev pub Rising : List Piece → Type 0
Rising [] = Unit {0}
Rising (p ∷ ps) = All (PartBefore p) ps × Rising ps

pub chunk_rises : (x y : Piece) → PartBefore x y → x.chunk ≤ y.chunk
chunk_rises x y (inl h) = omega arith
chunk_rises x y (inr h) = omega arith

-- The chunks never fall.
pub rising_chunks : (p : Piece) (ps : List Piece) → Rising (p ∷ ps) → All (λ q. p.chunk ≤ q.chunk) (p ∷ ps)
rising_chunks p ps r = (omega arith, all_map (PartBefore p) (λ q. p.chunk ≤ q.chunk) ps (λ q h. chunk_rises p q h) r.0)

pub left_none : (P : ℕ → ℕ → Bool) (ps : List Piece) → All (λ q. T (P q.chunk q.layer) → ⊥) ps → left_if P ps ≡ 0
left_none P [] a = refl
left_none P (p ∷ ps) a =
    omega (arith, left_none P ps a.1, by_cond (λ n. n ≤ 0) (P p.chunk p.layer) {x = p.bytes} {y = 0} (λ t. absurd (a.0 t)) (λ t. omega arith))

-- ---- parts of the chunks ks need no more than the chunks do

module _ (w d A : ℕ → ℕ) where
  needs_first :
      (k : ℕ) (ks : List ℕ) →
      ((L : List Piece) → Rising L → All (λ q. T (has ks q.chunk)) L → ((g : ℕ) → left_if (of_chunk g) L ≤ w g) → needs_of d A L ≤ need_of w d A ks) →
      (L : List Piece) → Rising L → All (λ q. (k ≤ q.chunk) × T (has (k ∷ ks) q.chunk)) L → ((g : ℕ) → left_if (of_chunk g) L ≤ w g) →
      needs_of d A L ≤ left_if (of_chunk k) L + max (A (d k)) (need_of w d A ks)
  needs_first k ks f [] r a b = omega arith
  needs_first k ks f (q ∷ L) r a b =
      ⊎_elim
      (λ t.
      let e : k ≡ q.chunk = eqb→eq k q.chunk t in
      let more = needs_first k ks f L r.1 a.1 (λ g. omega (arith, b g)) in
      rw (eq-eqb k q.chunk e) (omega (arith, more, ap (λ (x : ℕ). A (d x)) e)))
      (λ t.
      let o : k < q.chunk = ne_lt k q.chunk a.0.0 (neqb_ne k q.chunk t) in
      omega (
        arith,
        f (q ∷ L) r (all_both (q ∷ L) o (rising_chunks q L r) a) b,
      ))
      (test (eqb k q.chunk))
    where
      all_both :
          (L' : List Piece) → k < q.chunk → All (λ p. q.chunk ≤ p.chunk) L' → All (λ q. (k ≤ q.chunk) × T (has (k ∷ ks) q.chunk)) L' →
          All (λ q. T (has ks q.chunk)) L'
      all_both [] h u v = tt
      all_both (p ∷ ps) h u v =
          (⊎_elim (λ t. absurd (omega (arith, eqb→eq k p.chunk t, u.0))) (λ t. t) ((T_or_iff (eqb k p.chunk) (has ks p.chunk)).0 v.0.1), all_both ps h u.1 v.1)

  has_from : (lo hi : ℕ) (ks : List ℕ) (i : ℕ) → Asc lo hi ks → T (has ks i) → lo ≤ i
  has_from lo hi [] i a t = absurd t
  has_from lo hi (k ∷ ks) i a t =
      ⊎_elim (λ u. omega (arith, eqb→eq k i u)) (λ u. omega (arith, has_from (suc k) hi ks i a.2 u)) ((T_or_iff (eqb k i) (has ks i)).0 t)

  pub needs_le :
      (ks : List ℕ) (lo hi : ℕ) → Asc lo hi ks → (L : List Piece) → Rising L → All (λ q. T (has ks q.chunk)) L →
      ((g : ℕ) → left_if (of_chunk g) L ≤ w g) → needs_of d A L ≤ need_of w d A ks
  needs_le [] lo hi s [] r a b = omega arith
  needs_le [] lo hi s (q ∷ L) r a b = absurd a.0
  needs_le (k ∷ ks) lo hi s L r a b =
      omega (
        arith,
        needs_first k ks (needs_le ks (suc k) hi s.2) L r (all_map (λ q. T (has (k ∷ ks) q.chunk)) (λ q. (k ≤ q.chunk) × T (has (k ∷ ks) q.chunk)) L (λ q t. (has_from k hi (k ∷ ks) q.chunk (omega arith, s.1, s.2) t, t)) a) b,
        b k,
      )

-- ---- the chunks from c on

abbrev pub since : ℕ → List ℕ → List ℕ
since c [] = []
since c (k ∷ ks) = cond (ltb k c) (since c ks) (k ∷ ks)

pub since_asc : (c lo hi : ℕ) (ks : List ℕ) → Asc lo hi ks → Asc c hi (since c ks)
since_asc c lo hi [] s = tt
since_asc c lo hi (k ∷ ks) s =
    by_cond (Asc c hi) (ltb k c) (λ t. since_asc c (suc k) hi ks s.2) (λ t. (nltb→le k c t, s.1, s.2))

pub has_since : (c i : ℕ) (ks : List ℕ) → c ≤ i → T (has ks i) → T (has (since c ks) i)
has_since c i [] h t = absurd t
has_since c i (k ∷ ks) h t =
    by_cond (λ (l : List ℕ). T (has l i)) (ltb k c)
    (λ u. has_since c i ks h (⊎_elim (λ e. absurd (omega (arith, eqb→eq k i e, ltb→lt k c u))) (λ v. v) ((T_or_iff (eqb k i) (has ks i)).0 t)))
    (λ u. t)

-- How many of the chunks up to c pass p.
abbrev pub up_to_count : (ℕ → Bool) → ℕ → List ℕ → ℕ
up_to_count p c [] = 0
up_to_count p c (k ∷ ks) = bit (leb k c && p k) + up_to_count p c ks

none_up_to : (p : ℕ → Bool) (c lo hi : ℕ) (ks : List ℕ) → Asc lo hi ks → c < lo → up_to_count p c ks ≡ 0
none_up_to p c lo hi [] s h = refl
none_up_to p c lo hi (k ∷ ks) s h = rw (lt-leb k c (omega arith)) (omega (arith, none_up_to p c (suc k) hi ks s.2 (omega arith)))

module _ (w d A : ℕ → ℕ) where
  need_since : (c : ℕ) (ks : List ℕ) → need_of w d A (since c ks) ≤ need_of w d A ks
  need_since c [] = omega arith
  need_since c (k ∷ ks) =
      by_cond (λ (l : List ℕ). need_of w d A l ≤ need_of w d A (k ∷ ks)) (ltb k c) (λ t. omega (arith, need_since c ks)) (λ t. omega arith)

  -- Where more than m of the chunks are up to c, those from c on are among those behind the first
  -- m.
  need_behind_first :
      (p : ℕ → Bool) (c m lo hi : ℕ) (ks : List ℕ) → Asc lo hi ks → suc m ≤ up_to_count p c ks →
      need_of w d A (since c ks) ≤ need_of w d A (drop m ks)
  need_behind_first p c zero lo hi ks s h = need_since c ks
  need_behind_first p c (suc m) lo hi [] s h = absurd (omega arith)
  need_behind_first p c (suc m) lo hi (k ∷ ks) s h =
      by_cond (λ (l : List ℕ). need_of w d A l ≤ need_of w d A (drop m ks)) (ltb k c)
      (λ t. need_behind_first p c m (suc k) hi ks s.2 (omega (arith, bit_le (leb k c && p k))))
      (λ t. absurd (omega (arith, nltb→le k c t, none_up_to p c (suc k) hi ks s.2 (omega (arith, nltb→le k c t)), bit_le (leb k c && p k))))

  module _ (A-anti : (x y : ℕ) → x ≤ y → A y ≤ A x) (h t : ℕ) where
    -- Where more than h of the chunks up to c are due after t, the chunks from c on fit behind t.
    pub blocked_need :
        (c lo hi : ℕ) (ks : List ℕ) → Asc lo hi ks → Tails w d A h ks → suc h ≤ up_to_count (λ k. ltb t (d k)) c ks →
        need_of w d A (since c ks) ≤ A t
    blocked_need c lo hi [] s f l = absurd (omega arith)
    blocked_need c lo hi (k ∷ ks) s f l =
        ⊎_elim
        (λ u.
        let v = ltb→lt t (d k) u in
        omega (arith, need_behind_first (λ k. ltb t (d k)) c h lo hi (k ∷ ks) s l, f.0, A-anti t (d k - 1) (omega arith)))
        (λ u.
        let z : up_to_count (λ k. ltb t (d k)) c (k ∷ ks) ≡ up_to_count (λ k. ltb t (d k)) c ks = rw (le-ltb t (d k) (nltb→le t (d k) u)) (omega (arith, and_false (leb k c))) in
        by_cond (λ (l : List ℕ). need_of w d A l ≤ A t) (ltb k c)
        (λ v. blocked_need c (suc k) hi ks s.2 f.1 (omega (arith, z)))
        (λ v. absurd (omega (arith, z, none_up_to (λ k. ltb t (d k)) c (suc k) hi ks s.2 (omega (arith, nltb→le k c v))))))
        (test (ltb t (d k)))
      where
        and_false : (b : Bool) → bit (b && false) ≡ 0
        and_false true = refl
        and_false false = refl

-- Those of 1 .. n that are picked and pass are counted in the list.
pub count_picked :
    (q p : ℕ → Bool) (c lo n : ℕ) →
    count (λ i. q i && (leb i c && p i)) (n + lo) ≤ up_to_count p c (picked q lo n) + count (λ i. q i && (leb i c && p i)) lo
count_picked q p c lo zero = let e : 0 + lo ≡ lo = omega arith in rw e (omega arith)
count_picked q p c lo (suc n) =
    let e : suc n + lo ≡ n + suc lo = omega arith in
    rw e (omega (arith, count_picked q p c (suc lo) n, one_more (q (suc lo))))
  where
    one_more :
        (b : Bool) → up_to_count p c (picked q (suc lo) n) + bit (b && (leb (suc lo) c && p (suc lo))) ≤ up_to_count p c (cond b (suc lo ∷ picked q (suc lo) n) (picked q (suc lo) n))
    one_more true = omega arith
    one_more false = omega arith
