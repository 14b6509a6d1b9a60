-- Lemmas. The stretch with the smallest last slot, then the greatest first slot, among those that
-- need more than is forecast: it ends where a place is due and begins where a place can begin.
-- Places, w, d, r and F as in Runs.
use Rattle.std.specs.Prelude.{ℕ, zero, suc, ◌+◌, ◌-◌, ◌≤◌, ◌<◌, max, min, ◌≡◌, refl, Bool, true, not, cond, ◌&&◌, ◌⊎◌, T, leb, ltb}
use Rattle.std.proofs.Common.{sym, ap, subst, ◌∙◌, ⊎_elim, arith, T_not, leb→le, ltb→lt, nltb→le, le→leb, lt→ltb}
use Rattle.std.proofs.Math.Dec.{nleb→lt}
use Rattle.theory_basics.specs.Sums.{sum}
use Rattle.theory_basics.specs.lemmas.Ranges.{sum_mono}
use Rattle.theory_basics.specs.lemmas.Tests.{T_and, and_T, last, test}
use Rattle.theory_reasons.specs.Lines.{smallest}
use Rattle.theory_reasons.specs.lemmas.Runs.{smallest_is, sum_inside, sum_outside}

-- What F and the slots of the c places are asked to keep.
pub record Rising (d r F : ℕ → ℕ) (c : ℕ) : Type 0 where
  pub due_rises : (p q : ℕ) → p < q → q < c → d p < d q
  pub begin_rises : (p q : ℕ) → p ≤ q → q < c → r p ≤ r q
  pub begin_due : (q : ℕ) → q < c → r q ≤ d q
  pub forecast_rises : (x y : ℕ) → x ≤ y → F x ≤ F y

module _ (w d r F : ℕ → ℕ) where
  -- The bytes of the places that can't begin before a and are due by b.
  abbrev pub need_in : ℕ → ℕ → ℕ → ℕ
  need_in c a b = sum (λ q. cond (leb a (r q) && leb (d q) b) (w q) 0) c

  -- What is spent of the forecast, counted from slot 1, when the first places have their bytes as
  -- early as can be.
  abbrev pub used : ℕ → ℕ
  used zero = 0
  used (suc m) = max (used m) (F (r m - 1)) + w m

  -- Place m then has its last byte after its due slot.
  abbrev pub late : ℕ → Bool
  late m = ltb (F (d m)) (used (suc m))

  -- Place k can begin later than the place before it.
  abbrev pub opens : ℕ → Bool
  opens zero = true
  opens (suc k) = ltb (r k) (r (suc k))

  -- The places k to m have more bytes than is forecast from where k can begin to where m is due.
  abbrev pub breaks : ℕ → ℕ → Bool
  breaks m k = opens k && ltb (F (d m) + sum w k) (F (r k - 1) + sum w (suc m))

  breaks_of : (m k : ℕ) → T (opens k) → F (d m) + sum w k < F (r k - 1) + sum w (suc m) → T (breaks m k)
  breaks_of m k o h = T_and (opens k) _ o (lt→ltb (F (d m) + sum w k) (F (r k - 1) + sum w (suc m)) h)

  pub breaks_says : (m k : ℕ) → T (breaks m k) → T (opens k) × (F (d m) + sum w k < F (r k - 1) + sum w (suc m))
  breaks_says m k t =
      let u = and_T (opens k) (ltb (F (d m) + sum w k) (F (r k - 1) + sum w (suc m))) t in
      (u.0, ltb→lt (F (d m) + sum w k) (F (r k - 1) + sum w (suc m)) u.1)

  -- ---- what is spent is what some run of places spends, and no run spends more

  pub used_covers : (m k : ℕ) → k ≤ m → F (r k - 1) + sum w (suc m) ≤ used (suc m) + sum w k
  used_covers zero k h = let e : k ≡ 0 = omega arith in rw e (omega arith)
  used_covers (suc m) k h = ⊎_elim (λ l. omega (arith, used_covers m k l)) (λ e. rw e (omega arith)) (last k m h)

  abbrev Reached : ℕ → Type 0
  Reached m = (k : ℕ) × (k ≤ m) × (F (r k - 1) + sum w (suc m) ≡ used (suc m) + sum w k)

  used_reached : (m : ℕ) → Reached m
  used_reached zero = (0, omega arith, omega arith)
  used_reached (suc m) =
      ⊎_elim
      (λ t. let s = used_reached m in (s.0, omega (arith, s.1), omega (arith, s.2, leb→le (F (r (suc m) - 1)) (used (suc m)) t)))
      (λ t. (suc m, omega arith, omega (arith, nleb→lt (F (r (suc m) - 1)) (used (suc m)) t)))
      (test (leb (F (r (suc m) - 1)) (used (suc m))))

  -- The first of those that can begin with k.
  abbrev Opening : ℕ → ℕ → Type 0
  Opening c k = (o : ℕ) × (o ≤ k) × T (opens o) × (r o ≡ r k)

  opening : (c k : ℕ) → Rising d r F c → k < c → Opening c k
  opening c zero ok h = (0, omega arith, tt, refl)
  opening c (suc k) ok h =
      ⊎_elim
      (λ t. (suc k, omega arith, t, refl))
      (λ t. let s = opening c k ok (omega arith) in (s.0, omega (arith, s.1), s.2, s.3 ∙ omega (arith, nltb→le (r k) (r (suc k)) t, ok.begin_rises k (suc k) (omega arith) h)))
      (test (ltb (r k) (r (suc k))))

  pub late_breaks : (c m : ℕ) → Rising d r F c → m < c → T (late m) → (k : ℕ) × (k ≤ m) × T (breaks m k)
  late_breaks c m ok h t =
      let s = used_reached m in
      let o = opening c s.0 ok (omega (arith, s.1)) in
      let e : F (r o.0 - 1) ≡ F (r s.0 - 1) = ap (λ (x : ℕ). F (x - 1)) o.3 in (
        o.0,
        omega (arith, o.1, s.1),
        breaks_of m o.0 o.2 (omega (arith, s.2, e, sum_mono w o.0 s.0 o.1, ltb→lt (F (d m)) (used (suc m)) t)),
      )

  pub breaks_late : (m k : ℕ) → k ≤ m → T (breaks m k) → T (late m)
  breaks_late m k h t = lt→ltb (F (d m)) (used (suc m)) (omega (arith, used_covers m k h, (breaks_says m k t).1))

  -- ---- the places of a stretch

  -- The stretch a .. b needs more than is forecast.
  abbrev pub Exceeds : ℕ → ℕ → ℕ → Type 0
  Exceeds c a b = F b < F (a - 1) + need_in c a b

  pub record Places (c a b : ℕ) : Type 0 where
    pub from : ℕ
    pub to : ℕ
    pub run : from ≤ to
    pub inside : to < c
    pub begins : a ≤ r from
    pub ends : d to ≤ b
    pub opening_place : T (opens from)
    pub bytes : need_in c a b + sum w from ≤ sum w (suc to)

  pub places : (c a b : ℕ) → Rising d r F c → 0 < need_in c a b → Places c a b
  places c a b ok pos =
      let begun : ℕ → Bool = λ q. leb a (r q) in
      let over : ℕ → Bool = λ q. ltb b (d q) in
      let k = smallest begun 0 c in
      let e = smallest over 0 c in
      let ks = smallest_is begun 0 c in
      let es = smallest_is over 0 c in
      let counted : (q : ℕ) → q < c → T (leb a (r q) && leb (d q) b) → (k ≤ q) × (q < e) =
      λ q u t.
      let v = and_T (leb a (r q)) (leb (d q) b) t in (
        ⊎_elim (λ l. leb→le k q l) (λ l. absurd (T_not (begun q) (ks.none_before q (omega arith) (nleb→lt k q l)) v.0)) (test (leb k q)),
        ⊎_elim
            (λ l. ltb→lt q e l)
            (λ l.
            let g = nltb→le q e l in
            let p = ltb→lt b (d e) (es.passes (omega arith)) in
            let x = leb→le (d q) b v.1 in
            absurd (⊎_elim (λ s. omega (arith, ok.due_rises e q (ltb→lt e q s) u)) (λ s. let y : e ≡ q = omega (arith, nltb→le e q s) in omega (arith, ap d y)) (test (ltb e q))))
            (test (ltb q e)),
      ) in
      let in-run = sum_inside w (λ q. leb a (r q) && leb (d q) b) (min k e) e c (omega arith) (omega (arith, es.high)) (λ q u t. let v = counted q u t in (omega (arith, v.0), v.1)) in
      let nonempty : k < e =
      ⊎_elim (λ l. ltb→lt k e l) (λ l. let y : min k e ≡ e = omega (arith, nltb→le k e l) in absurd (omega (arith, rw y at in-run))) (test (ltb k e)) in
      let top : suc (e - 1) ≡ e = omega arith in
      let bottom : min k e ≡ k = omega arith in
      let at-k : a ≤ r k = leb→le a (r k) (ks.passes (omega (arith, es.high))) in
      record {
        from = k;
        to = e - 1;
        run = omega arith;
        inside = omega (arith, es.high);
        begins = at-k;
        ends = nltb→le b (d (e - 1)) (es.none_before (e - 1) (omega arith) (omega arith));
        opening_place = opens_at k a at-k (λ q h. nleb→lt a (r q) (ks.none_before q (omega arith) h));
        bytes = subst (λ (x : ℕ). need_in c a b + sum w k ≤ sum w x) (sym top) (rw bottom at in-run);
      }
    where
      opens_at : (k a : ℕ) → a ≤ r k → ((q : ℕ) → q < k → r q < a) → T (opens k)
      opens_at zero a h f = tt
      opens_at (suc k) a h f = lt→ltb (r k) (r (suc k)) (omega (arith, f k (omega arith)))

  -- Where a stretch exceeds, its places break the forecast.
  pub exceeds_breaks :
      (c a b : ℕ) → Rising d r F c → a ≤ b → Exceeds c a b →
      (k : ℕ) × (m : ℕ) × (k ≤ m) × (m < c) × (a ≤ r k) × (d m ≤ b) × T (breaks m k)
  exceeds_breaks c a b ok h x =
      let p = places c a b ok (omega (arith, ok.forecast_rises (a - 1) b (omega arith))) in (
        p.from,
        p.to,
        p.run,
        p.inside,
        p.begins,
        p.ends,
        breaks_of p.to p.from p.opening_place
            (omega (arith, p.bytes, ok.forecast_rises (a - 1) (r p.from - 1) (omega (arith, p.begins)), ok.forecast_rises (d p.to) b p.ends)),
      )

  -- ---- the first place that is late, and the last from which a run to it breaks the forecast

  pub record Found (c m k : ℕ) : Type 0 where
    pub inside : m < c
    pub run : k ≤ m
    pub breaking : T (breaks m k)
    pub first : (q : ℕ) → q < m → T (not (late q))
    pub greatest : (q : ℕ) → k < q → q ≤ m → T (not (breaks m q))

  module _ (c m k : ℕ) (ok : Rising d r F c) (f : Found c m k) where
    -- The places k to m, and no others, can't begin before place k can and are due when place m is.
    found_inside : (q : ℕ) → q < c → T (leb (r k) (r q) && leb (d q) (d m)) → (k ≤ q) × (q < suc m)
    found_inside q u t =
        let v = and_T (leb (r k) (r q)) (leb (d q) (d m)) t in (
          ⊎_elim (λ l. leb→le k q l) (λ l. absurd (early k q (breaks_says m k f.breaking).0 (nleb→lt k q l) (omega (arith, f.run, f.inside)) (leb→le (r k) (r q) v.0))) (test (leb k q)),
          ⊎_elim (λ l. ltb→lt q (suc m) l) (λ l. absurd (omega (arith, leb→le (d q) (d m) v.1, ok.due_rises m q (nltb→le q (suc m) l) u))) (test (ltb q (suc m))),
        )
      where
        early : (k q : ℕ) → T (opens k) → q < k → k < c → r k ≤ r q → ⊥
        early zero q o h u l = omega arith
        early (suc k) q o h u l = omega (arith, ltb→lt (r k) (r (suc k)) o, ok.begin_rises q k (omega arith) (omega arith))

    found_outside : (q : ℕ) → k ≤ q → q < suc m → T (leb (r k) (r q) && leb (d q) (d m))
    found_outside q u v =
        T_and (leb (r k) (r q)) (leb (d q) (d m)) (le→leb (r k) (r q) (ok.begin_rises k q u (omega (arith, f.inside))))
        (le→leb (d q) (d m) (⊎_elim (λ l. omega (arith, ok.due_rises q m (ltb→lt q m l) f.inside)) (λ l. let e : q ≡ m = omega (arith, nltb→le q m l) in omega (arith, ap d e)) (test (ltb q m))))

    pub found_need : need_in c (r k) (d m) + sum w k ≡ sum w (suc m)
    found_need =
        omega (
          arith,
          sum_inside w (λ q. leb (r k) (r q) && leb (d q) (d m)) k (suc m) c (omega (arith, f.run)) f.inside found_inside,
          sum_outside w (λ q. leb (r k) (r q) && leb (d q) (d m)) k (suc m) c (omega (arith, f.run)) f.inside found_outside,
        )

    pub found_exceeds : Exceeds c (r k) (d m)
    found_exceeds = omega (arith, found_need, (breaks_says m k f.breaking).1)

    first_late : (q : ℕ) → T (late q) → m ≤ q
    first_late q t = ⊎_elim (λ l. leb→le m q l) (λ l. absurd (T_not (late q) (f.first q (nleb→lt m q l)) t)) (test (leb m q))

    due_le : (q : ℕ) → m ≤ q → q < c → d m ≤ d q
    due_le q h u =
        ⊎_elim (λ l. omega (arith, ok.due_rises m q (ltb→lt m q l) u)) (λ l. let e : m ≡ q = omega (arith, nltb→le m q l) in omega (arith, ap d e)) (test (ltb m q))

    -- Of all stretches that exceed, it has the smallest last slot,
    pub found_last : (a b : ℕ) → a ≤ b → Exceeds c a b → d m ≤ b
    found_last a b h x =
        let p = exceeds_breaks c a b ok h x in
        let l = first_late p.1 (breaks_late p.1 p.0 p.2 p.6) in
        omega (arith, due_le p.1 l p.3, p.5)

    -- and of those with this last slot, the greatest first slot.
    pub found_first : (a : ℕ) → a ≤ d m → Exceeds c a (d m) → a ≤ r k
    found_first a h x =
        let p = exceeds_breaks c a (d m) ok h x in
        let l = first_late p.1 (breaks_late p.1 p.0 p.2 p.6) in
        let e : p.1 ≡ m =
        ⊎_elim (λ s. absurd (omega (arith, ok.due_rises m p.1 (ltb→lt m p.1 s) p.3, p.5))) (λ s. omega (arith, nltb→le m p.1 s)) (test (ltb m p.1)) in
        let t : T (breaks m p.0) = rw e at p.6 in
        ⊎_elim
        (λ s. absurd (T_not (breaks m p.0) (f.greatest p.0 (ltb→lt k p.0 s) (omega (arith, p.2, e))) t))
        (λ s. omega (arith, p.4, ok.begin_rises p.0 k (nltb→le k p.0 s) (omega (arith, f.run, f.inside))))
        (test (ltb k p.0))
