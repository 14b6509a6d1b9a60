-- Lemmas. The stretch named: the two passes of Search give it for a choice that does not fit, and
-- so does the search over all stretches; and one line under each missing layer.
use Prim.Native.Nat.{ℕ, zero, suc, ◌+◌, ◌-◌, ◌≤◌, ◌<◌}
use Rattle.std.specs.Prelude.{◌≡◌, refl, cond, List, [], ◌∷◌, map, T, ltb}
use Rattle.std.proofs.Common.{sym, ap, ◌∙◌, arith, T_not, ltb→lt, lt→ltb, nltb→le, le→leb}
use Rattle.std.proofs.Math.Bool.{Bool}
use Rattle.std.proofs.Math.Logic.{⊎_elim}
use Rattle.std.proofs.Math.Dec.{leb, leb→le, nleb→lt}
use Rattle.theory_basics.specs.Tests.{All}
use Rattle.theory_basics.specs.lemmas.Tests.{all_append, by_cond, test}
use Rattle.job.specs.Job.{Accepted, Job, Layer, chunks, last_slot, layers}
use Rattle.theory_plan.specs.lemmas.Choice.{Fits}
use Rattle.theory_plan.specs.lemmas.Words.{layer_of}
use Rattle.theory_reasons.specs.Lines.{Stretch, exceeds, first_named, greatest, last_named, line_at, lines_of, smallest, stretch_of}
use Rattle.theory_reasons.proofs.Kept.{need_sum, can_begin, kept_count}
use Rattle.theory_reasons.specs.Statement.{Line, Named, Place, Reason, Reasons, Short, Under, carry, lower, missing, missing_of, missing_to, need, short}
use Rattle.theory_reasons.proofs.Bridge.{carry_from, found_named, kept_bytes, kept_due, none_late_fits, rising, up_to_slot}
use Rattle.theory_reasons.specs.lemmas.First.{found_need, late}
use Rattle.theory_reasons.specs.lemmas.Runs.{greatest_is, greatest_some, smallest_is}
use Rattle.theory_reasons.specs.lemmas.Search.{Searched, search, searched}

-- ---- the two passes

-- A stretch with its numbers is the one named.
pub record IsNamed (j : Job) (choice : ℕ → ℕ) (s : Stretch) : Type 0 where
  pub named : Named j choice s.first s.last
  pub carry_is : s.carry ≡ carry j s.first s.last
  pub need_is : s.need ≡ need j choice s.first s.last

-- What they give.
unfoldable pub passed : Job → (ℕ → ℕ) → Stretch
passed j choice = search (kept_bytes j choice) (kept_due j choice) (can_begin j choice) (up_to_slot j) (kept_count j choice)

module _ (j : Job) (a : Accepted j) (choice : ℕ → ℕ) where
  abbrev late_chunk : ℕ → Bool
  late_chunk = late (kept_bytes j choice) (kept_due j choice) (can_begin j choice) (up_to_slot j)

  searched_named : (s : Stretch) → Searched (kept_bytes j choice) (kept_due j choice) (can_begin j choice) (up_to_slot j) (kept_count j choice) s → IsNamed j choice s
  searched_named s x =
      let n = found_named j a choice x.to x.from x.found in
      let here : Named j choice s.first s.last = rw (x.first_is, x.last_is) n in
      let e = found_need (kept_bytes j choice) (kept_due j choice) (can_begin j choice) (up_to_slot j) (kept_count j choice) x.to x.from (rising j a choice) x.found in
      record {
        named = here;
        carry_is = rw (x.first_is, x.last_is) (omega (arith, x.carry_is, carry_from j (can_begin j choice x.from) (kept_due j choice x.to) n.short.first_slot n.short.in_order));
        need_is = rw (x.first_is, x.last_is) (omega (arith, e, x.need_is, need_sum j choice (can_begin j choice x.from) (kept_due j choice x.to)));
      }

  -- Where the choice does not fit, a kept chunk is late, and the two passes give the stretch named.
  pub passed_late : (Fits j choice → ⊥) → smallest late_chunk 0 (kept_count j choice) < kept_count j choice
  passed_late never =
      ⊎_elim
      (λ t. ltb→lt (smallest late_chunk 0 (kept_count j choice)) (kept_count j choice) t)
      (λ t.
      let s = smallest_is late_chunk 0 (kept_count j choice) in
      let h = nltb→le (smallest late_chunk 0 (kept_count j choice)) (kept_count j choice) t in
      absurd (never (none_late_fits j a choice (λ m l. s.none_before m (omega arith) (omega arith)))))
      (test (ltb (smallest late_chunk 0 (kept_count j choice)) (kept_count j choice)))

  pub passed_searched :
      (Fits j choice → ⊥) → Searched (kept_bytes j choice) (kept_due j choice) (can_begin j choice) (up_to_slot j) (kept_count j choice) (passed j choice)
  unfolding passed
  passed_searched never =
      searched (kept_bytes j choice) (kept_due j choice) (can_begin j choice) (up_to_slot j) (kept_count j choice) (rising j a choice) (passed_late never)

  pub passed_named : (Fits j choice → ⊥) → IsNamed j choice (passed j choice)
  passed_named never = searched_named (passed j choice) (passed_searched never)

-- ---- one stretch and no other

pub named_unique : (j : Job) (choice : ℕ → ℕ) (a b a' b' : ℕ) → Named j choice a b → Named j choice a' b' → (a ≡ a') × (b ≡ b')
named_unique j choice a b a' b' x y =
    let e : b ≡ b' = omega (arith, x.smallest_last a' b' y.short, y.smallest_last a b x.short) in
    let y' : Named j choice a' b = rw e y in
    (omega (arith, x.greatest_first a' y'.short, y'.greatest_first a x.short), e)

pub is_named_unique : (j : Job) (choice : ℕ → ℕ) (s t : Stretch) → IsNamed j choice s → IsNamed j choice t → s ≡ t
is_named_unique j choice s t x y =
    let e = named_unique j choice s.first s.last t.first t.last x.named y.named in
    let f = e.0 in
    let l = e.1 in
    let c : s.carry ≡ t.carry = x.carry_is ∙ rw (f, l) (sym y.carry_is) in
    let n : s.need ≡ t.need = x.need_is ∙ rw (f, l) (sym y.need_is) in
    let e : stretch s.first s.last s.carry s.need ≡ stretch t.first t.last t.carry t.need = rw (f, l, c, n) in
    e
  where
    stretch : ℕ → ℕ → ℕ → ℕ → Stretch
    stretch a b carried needed = record { first = a; last = b; carry = carried; need = needed }

-- ---- the search over all stretches

module _ (j : Job) (choice : ℕ → ℕ) where
  exceeds_short : (a b : ℕ) → 1 ≤ a → a ≤ b → b ≤ last_slot j → T (exceeds j choice b a) → Short j choice a b
  exceeds_short a b u v w t = record { first_slot = u; in_order = v; last_slot_lem = w; exceeds = ltb→lt (carry j a b) (need j choice a b) t }

  short_greatest : (a b : ℕ) → Short j choice a b → a ≤ greatest (exceeds j choice b) b
  short_greatest a b s =
      greatest_some (exceeds j choice b) b a s.first_slot s.in_order (lt→ltb (carry j a b) (need j choice a b) s.exceeds)

  -- Where some stretch needs more than it carries, the search gives the one named.
  pub stretch_of_named : (a b : ℕ) → Short j choice a b → IsNamed j choice (stretch_of j choice)
  unfolding stretch_of
  stretch_of_named a b s =
      let passes : ℕ → Bool = λ y. leb 1 (greatest (exceeds j choice y) y) in
      let y = last_named j choice in
      let x = first_named j choice in
      let r = smallest_is passes 1 (last_slot j) in
      let below : (c d : ℕ) → Short j choice c d → y ≤ d =
      λ c d o.
      ⊎_elim
      (λ t. leb→le y d t)
      (λ t.
      absurd
      (T_not (passes d) (r.none_before d (omega (arith, o.first_slot, o.in_order)) (nleb→lt y d t))
      (le→leb 1 (greatest (exceeds j choice d) d) (omega (arith, short_greatest c d o, o.first_slot)))))
      (test (leb y d)) in
      let low : y ≤ b = below a b s in
      let some : 1 ≤ x = leb→le 1 x (r.passes (omega (arith, s.last_slot_lem))) in
      let g = greatest_is (exceeds j choice y) y in
      record {
        named = record {
          short = exceeds_short x y some g.high (omega (arith, s.last_slot_lem)) (g.passes some);
          smallest_last = below;
          greatest_first = λ c o. short_greatest c y o;
        };
        carry_is = refl;
        need_is = refl;
      }

-- For a choice that does not fit, both are one.
pub stretch_named : (j : Job) → Accepted j → (choice : ℕ → ℕ) → (Fits j choice → ⊥) → IsNamed j choice (stretch_of j choice)
stretch_named j acc choice never =
    let p = passed_named j acc choice never in
    stretch_of_named j choice (passed j choice).first (passed j choice).last p.named.short

pub stretch_passed : (j : Job) → Accepted j → (choice : ℕ → ℕ) → (Fits j choice → ⊥) → stretch_of j choice ≡ passed j choice
stretch_passed j acc choice never =
    is_named_unique j choice (stretch_of j choice) (passed j choice) (stretch_named j acc choice never) (passed_named j acc choice never)

-- ---- each missing layer

pub missing_of_each : (plan : ℕ → ℕ) (P : Place → Type 0) (i n : ℕ) → ((m : ℕ) → m < n → plan i ≤ m → P (record { chunk = i; layer = m })) → All P (missing_of plan i n)
missing_of_each plan P i zero f = tt
missing_of_each plan P i (suc n) f =
    all_append P (missing_of plan i n) _ (missing_of_each plan P i n (λ m u v. f m (omega arith) v))
    (by_cond (All P) (ltb n (plan i)) (λ t. tt) (λ t. (f n (omega arith) (nltb→le n (plan i) t), tt)))

pub missing_to_each : (plan : ℕ → ℕ) (P : Place → Type 0) (n i : ℕ) → ((k m : ℕ) → 1 ≤ k → k ≤ i → m < n → plan k ≤ m → P (record { chunk = k; layer = m })) → All P (missing_to plan n i)
missing_to_each plan P n zero f = tt
missing_to_each plan P n (suc i) f =
    all_append P (missing_to plan n i) _ (missing_to_each plan P n i (λ k m u v. f k m u (omega arith))) (missing_of_each plan P (suc i) n (λ m u v. f (suc i) m (omega arith) (omega arith) u v))

pub under_map : (R : ℕ → ℕ → Line → Type 0) (f : Place → Line) (xs : List Place) → All (λ x. R x.chunk x.layer (f x)) xs → Under R xs (map f xs)
under_map R f [] a = tt
under_map R f (x ∷ xs) a = (a.0, under_map R f xs a.1)

module _ (j : Job) (plan : ℕ → ℕ) (held : ℕ → ℕ → ℕ → ℕ) (named : (i n : ℕ) → Layer j i n → plan i ≡ n → IsNamed j (held i n) (stretch_of j (held i n))) where
  line_is : (i n : ℕ) → Layer j i n → plan i ≤ n → Reason j plan held i n (line_at j plan held i n)
  line_is i n l h =
      by_cond
      (Reason j plan held i n)
      (leb n (plan i))
      (λ t.
      let u = leb→le n (plan i) t in
      let x = named i n l (omega arith) in
      (refl, refl, record { lower_carried = u; stretch = x.named; carry_is = x.carry_is; need_is = x.need_is }))
      (λ t. let u = nleb→lt n (plan i) t in (refl, refl, record { next_lower = omega arith; missing = omega arith }))

  pub lines_are : Reasons j plan held (lines_of j plan held)
  lines_are =
      under_map (Reason j plan held) (λ x. line_at j plan held x.chunk x.layer) (missing j plan)
      (missing_to_each plan (λ x. Reason j plan held x.chunk x.layer (line_at j plan held x.chunk x.layer)) (layers j) (chunks j)
      (λ k m u v w h. line_is k m (layer_of j k m u v w) h))

-- ---- one line for each

pub reason_unique : (j : Job) (plan : ℕ → ℕ) (held : ℕ → ℕ → ℕ → ℕ) (i n : ℕ) (x y : Line) → Reason j plan held i n x → Reason j plan held i n y → x ≡ y
reason_unique j plan held i n (short i₁ n₁ a b c m) (short i₂ n₂ a' b' c' m') p q =
    let e = named_unique j (held i n) a b a' b' p.2.stretch q.2.stretch in
    let ca : c ≡ c' = p.2.carry_is ∙ sym (rw (e.0, e.1) q.2.carry_is) in
    let ne : m ≡ m' = p.2.need_is ∙ sym (rw (e.0, e.1) q.2.need_is) in
    let ei : i₁ ≡ i₂ = p.0 ∙ sym q.0 in
    let en : n₁ ≡ n₂ = p.1 ∙ sym q.1 in
    let ea = e.0 in
    let eb = e.1 in
    cc
reason_unique j plan held i n (short i₁ n₁ a b c m) (lower i₂ n₂ k) p q = absurd (omega (arith, p.2.lower_carried, q.2.next_lower, q.2.missing))
reason_unique j plan held i n (lower i₁ n₁ k) (short i₂ n₂ a' b' c' m') p q = absurd (omega (arith, q.2.lower_carried, p.2.next_lower, p.2.missing))
reason_unique j plan held i n (lower i₁ n₁ k) (lower i₂ n₂ k') p q =
    let ei : i₁ ≡ i₂ = p.0 ∙ sym q.0 in
    let en : n₁ ≡ n₂ = p.1 ∙ sym q.1 in
    let ek : k ≡ k' = omega (arith, p.2.next_lower, q.2.next_lower) in
    cc

pub under_unique :
    (R : ℕ → ℕ → Line → Type 0) → ((i n : ℕ) (x y : Line) → R i n x → R i n y → x ≡ y) → (xs : List Place) (ls ms : List Line) → Under R xs ls →
    Under R xs ms → ls ≡ ms
under_unique R f [] [] [] a b = refl
under_unique R f [] [] (m ∷ ms) a b = absurd b
under_unique R f [] (l ∷ ls) ms a b = absurd a
under_unique R f (x ∷ xs) [] ms a b = absurd a
under_unique R f (x ∷ xs) (l ∷ ls) [] a b = absurd b
under_unique R f (x ∷ xs) (l ∷ ls) (m ∷ ms) a b = rw (f x.chunk x.layer l m a.0 b.0, under_unique R f xs ls ms a.1 b.1)
