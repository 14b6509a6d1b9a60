-- Lemmas. The search in two passes over the places: forward to the first that is late, then back to
-- where the stretch begins. Linear in the places. Places, w, d, r and F as in Runs.
use Rattle.std.specs.Prelude.{ℕ, zero, suc, ◌+◌, ◌-◌, ◌≤◌, ◌<◌, max, ◌≡◌, refl, Bool, not, cond, ◌&&◌, T, ltb}
use Rattle.std.proofs.Common.{sym, ap, subst, ◌∙◌, ⊎_elim, arith, T_not, ltb→lt, nltb→le, lt→ltb, ap₂}
use Rattle.theory_basics.specs.Sums.{sum}
use Rattle.theory_basics.specs.lemmas.Tests.{T_true, not_T_false, same_test, test}
use Rattle.theory_reasons.specs.lemmas.First.{Found, Rising, breaks, late, late_breaks, opens, used}
use Rattle.theory_reasons.specs.Lines.{Stretch, smallest}
use Rattle.theory_reasons.specs.lemmas.Runs.{smallest_is}

-- Where a stretch begins, what it carries and what it needs.
pub record Begin : Type 0 where
  pub first : ℕ
  pub carry : ℕ
  pub need : ℕ

module _ (w d r F : ℕ → ℕ) where
  -- Forward: u is spent before place `at`, and n places are left. What comes is the first place
  -- that is late, or the end.
  abbrev pub forward : ℕ → ℕ → ℕ → ℕ
  forward u at zero = at
  forward u at (suc n) = let v = max u (F (r at - 1)) + w at in cond (ltb (F (d at)) v) at (forward v (suc at) n)

  -- Back from the late place: s are the bytes of the places from k on, and `most` is what is
  -- forecast up to its due slot.
  abbrev pub back : ℕ → ℕ → ℕ → Begin
  back most s zero = record { first = 0; carry = 0; need = s }
  back most s (suc k) =
      let t = s + w k in
      cond (opens w d r F k && ltb most (F (r k - 1) + t)) (record { first = r k; carry = most - F (r k - 1); need = t }) (back most t k)

  -- The stretch that ends where place m is due.
  abbrev pub stretch_to : ℕ → Stretch
  stretch_to m =
      let o = back (F (d m)) 0 (suc m) in
      record { first = o.first; last = d m; carry = o.carry; need = o.need }

  -- Both passes over c places.
  abbrev pub search : ℕ → Stretch
  search c = stretch_to (forward 0 0 c)

  -- ---- forward

  pub forward_is : (at n : ℕ) → forward (used w d r F at) at n ≡ smallest (late w d r F) at n
  forward_is at zero = refl
  forward_is at (suc n) = ap (λ (m : ℕ). cond (late w d r F at) at m) (forward_is (suc at) n)

  -- ---- back

  -- What the pass back gives at the place k from which the run to m breaks the forecast.
  pub record Back (m j : ℕ) (o : Begin) : Type 0 where
    pub place : ℕ
    pub low : place < j
    pub breaking : T (breaks w d r F m place)
    pub greatest : (q : ℕ) → place < q → q < j → T (not (breaks w d r F m q))
    pub first_is : o.first ≡ r place
    pub carry_is : o.carry ≡ F (d m) - F (r place - 1)
    pub need_is : o.need + sum w place ≡ sum w (suc m)

  same_breaks :
      (m s k : ℕ) → s + sum w (suc k) ≡ sum w (suc m) →
      (opens w d r F k && ltb (F (d m)) (F (r k - 1) + (s + w k))) ≡ breaks w d r F m k
  same_breaks m s k e =
      ap (λ (b : Bool). opens w d r F k && b)
      (same_test _ _
      (λ t. lt→ltb (F (d m) + sum w k) (F (r k - 1) + sum w (suc m)) (omega (arith, ltb→lt (F (d m)) (F (r k - 1) + (s + w k)) t)))
      (λ t. lt→ltb (F (d m)) (F (r k - 1) + (s + w k)) (omega (arith, ltb→lt (F (d m) + sum w k) (F (r k - 1) + sum w (suc m)) t))))

  -- At place j the pass stops or goes on.
  back_step :
      (m s j : ℕ) → s + sum w (suc j) ≡ sum w (suc m) → (k : ℕ) → k < suc j → T (breaks w d r F m k) →
      (k < j → Back m j (back (F (d m)) (s + w j) j)) → Back m (suc j) (back (F (d m)) s (suc j))
  back_step m s j e k h t next =
      rw (same_breaks m s j e)
      (⊎_elim
      (λ u.
      rw (T_true (breaks w d r F m j) u)
      (record {
        place = j;
        low = omega arith;
        breaking = u;
        greatest = λ q x y. absurd (omega arith);
        first_is = refl;
        carry_is = refl;
        need_is = omega arith;
      }))
      (λ u.
      let b = next (⊎_elim (λ v. ltb→lt k j v) (λ v. let x : k ≡ j = omega (arith, nltb→le k j v) in absurd (T_not (breaks w d r F m j) u (rw x at t))) (test (ltb k j))) in
      rw (not_T_false (breaks w d r F m j) u)
      (record {
        place = b.place;
        low = omega (arith, b.low);
        breaking = b.breaking;
        greatest = λ q x y. ⊎_elim (λ v. b.greatest q x (ltb→lt q j v)) (λ v. let z : q ≡ j = omega (arith, nltb→le q j v) in rw z u) (test (ltb q j));
        first_is = b.first_is;
        carry_is = b.carry_is;
        need_is = b.need_is;
      }))
      (test (breaks w d r F m j)))

  pub back_is :
      (m s j : ℕ) → s + sum w j ≡ sum w (suc m) → (k : ℕ) → k < j → T (breaks w d r F m k) → Back m j (back (F (d m)) s j)
  back_is m s zero e k h t = absurd (omega arith)
  back_is m s (suc j) e k h t = back_step m s j e k h t (λ l. back_is m (s + w j) j (omega arith) k l t)

  -- ---- both

  -- Where a place is late, the search gives the stretch of the first that is, and of the last from
  -- which the run to it breaks.
  pub record Searched (c : ℕ) (s : Stretch) : Type 0 where
    pub to : ℕ
    pub from : ℕ
    pub found : Found w d r F c to from
    pub first_is : s.first ≡ r from
    pub last_is : s.last ≡ d to
    pub carry_is : s.carry ≡ F (d to) - F (r from - 1)
    pub need_is : s.need + sum w from ≡ sum w (suc to)

  pub searched : (c : ℕ) → Rising d r F c → smallest (late w d r F) 0 c < c → Searched c (search c)
  searched c ok h =
      let m = smallest (late w d r F) 0 c in
      let s = smallest_is (late w d r F) 0 c in
      let g = late_breaks w d r F c m ok h (s.passes (omega arith)) in
      let b = back_is m 0 (suc m) (omega arith) g.0 (omega (arith, g.1)) g.2 in
      subst (λ (x : ℕ). Searched c (stretch_to x)) (sym (forward_is 0 c))
      (record {
        to = m;
        from = b.place;
        found = record {
          inside = h;
          run = omega (arith, b.low);
          breaking = b.breaking;
          first = λ q u. s.none_before q (omega arith) u;
          greatest = λ q u v. b.greatest q u (omega arith);
        };
        first_is = b.first_is;
        last_is = refl;
        carry_is = b.carry_is;
        need_is = b.need_is;
      })

-- ---- the same from tables

-- Two sets of numbers say the same of the c places.
pub record Agrees (w d r F w' d' r' F' : ℕ → ℕ) (c : ℕ) : Type 0 where
  pub bytes : (q : ℕ) → q < c → w q ≡ w' q
  pub due : (q : ℕ) → q < c → d q ≡ d' q
  pub begin : (q : ℕ) → q < c → r q ≡ r' q
  pub up_to_due : (q : ℕ) → q < c → F (d q) ≡ F' (d' q)
  pub up_to_begin : (q : ℕ) → q < c → F (r q - 1) ≡ F' (r' q - 1)

module _ (w d r F w' d' r' F' : ℕ → ℕ) (c : ℕ) (same : Agrees w d r F w' d' r' F' c) where
  pub forward_agrees : (u at n : ℕ) → at + n ≤ c → forward w d r F u at n ≡ forward w' d' r' F' u at n
  forward_agrees u at zero h = refl
  forward_agrees u at (suc n) h =
      let l : at < c = omega arith in
      rw (same.bytes at l, same.up_to_due at l, same.up_to_begin at l, forward_agrees (max u (F' (r' at - 1)) + w' at) (suc at) n (omega arith))

  opens_agrees : (k : ℕ) → k < c → opens w d r F k ≡ opens w' d' r' F' k
  opens_agrees zero h = refl
  opens_agrees (suc k) h = rw (same.begin k (omega arith), same.begin (suc k) h)

  back_agrees : (most s k : ℕ) → k ≤ c → back w d r F most s k ≡ back w' d' r' F' most s k
  back_agrees most s zero h = refl
  back_agrees most s (suc k) h =
      rw (opens_agrees k h, same.up_to_begin k h, same.begin k h, same.bytes k h, back_agrees most (s + w' k) k (omega arith))

  -- Where a place is late, both searches give the same stretch.
  pub search_agrees : forward w d r F 0 0 c < c → search w d r F c ≡ search w' d' r' F' c
  search_agrees h =
      let e = forward_agrees 0 0 c (omega arith) in
      let m = forward w d r F 0 0 c in
      let b = back_agrees (F (d m)) 0 (suc m) h in
      let begun : back w d r F (F (d m)) 0 (suc m) ≡ back w' d' r' F' (F' (d' m)) 0 (suc m) =
      b ∙ ap (λ (most : ℕ). back w' d' r' F' most 0 (suc m)) (same.up_to_due m h) in
      let ending = λ (last : ℕ) (o : Begin). let st : Stretch = record { first = o.first; last = last; carry = o.carry; need = o.need } in st in
      let to : stretch_to w d r F m ≡ stretch_to w' d' r' F' m = ap₂ ending (same.due m h) begun in
      to ∙ ap (stretch_to w' d' r' F') e
