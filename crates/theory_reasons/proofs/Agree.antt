-- Lemmas. Lines depend on the plan at the chunks of the job alone: two plans have the same lines.
use Rattle.std.specs.Prelude.{ℕ, zero, suc, ◌-◌, ◌≤◌, ◌<◌, ◌≡◌, refl, Bool, true, false, cond, ◌&&◌, List, [], ◌∷◌, leb, ltb, length, get_or}
use Rattle.std.proofs.Common.{sym, ap, subst, ◌∙◌, arith}
use Rattle.theory_basics.specs.Sums.{sum}
use Rattle.theory_basics.specs.Tests.{All}
use Rattle.job.specs.Job.{Job, chunks, due, held_most, layers, size}
use Rattle.theory_plan.specs.lemmas.Ascending.{asc_nth}
use Rattle.theory_plan.specs.Plan.{by_moore_hodgson, bytes, kept}
use Rattle.theory_plan.specs.Statement.{Same}
use Rattle.theory_plan.specs.lemmas.Choice.{kept_asc}
use Rattle.theory_plan.specs.lemmas.Kept.{picked_cong}
use Rattle.theory_basics.specs.lemmas.Ranges.{sum_cong}
use Rattle.theory_reasons.proofs.Named.{missing_to_each}
use Rattle.theory_reasons.proofs.Kept.{need_sum}
use Rattle.theory_reasons.specs.Statement.{Line, Named, Place, Reason, Reasons, Short, Under, against, all_bases_kept, lower, missing, missing_of, missing_to, need, settled_before, short}

pub same_sym : (j : Job) (p q : ℕ → ℕ) → Same j p q → Same j q p
same_sym j p q e k u v = sym (e k u v)

-- ---- need

kept_agree : (j : Job) (p q : ℕ → ℕ) → Same j p q → kept j p ≡ kept j q
kept_agree j p q e = picked_cong (λ i. leb 1 (p i)) (λ i. leb 1 (q i)) 0 (chunks j) (λ i u v. ap (leb 1) (e i u (omega arith)))

-- Need, over any list of kept chunks.
abbrev need_over : Job → ℕ → ℕ → (ℕ → ℕ) → List ℕ → ℕ
need_over j a b choice ks =
    sum
    (λ m.
    cond
    (leb a (cond (ltb m (held_most j)) 1 (due j (get_or ks (m - held_most j) 0))) && leb (due j (get_or ks m 0)) b)
    (bytes j choice (get_or ks m 0))
    0)
    (length ks)

pub need_agree : (j : Job) (p q : ℕ → ℕ) → Same j p q → (a b : ℕ) → need j p a b ≡ need j q a b
need_agree j p q e a b =
    need_sum j p a b
    ∙ ap (need_over j a b p) (kept_agree j p q e)
    ∙ sum_cong _ _ (length (kept j q)) (λ m h.
    let r = asc_nth 1 (chunks j) (kept j q) m h (kept_asc j q) in
    ap
    (λ (x : ℕ). cond (leb a (cond (ltb m (held_most j)) 1 (due j (get_or (kept j q) (m - held_most j) 0))) && leb (due j (get_or (kept j q) m 0)) b) x 0)
    (ap (sum (size j (get_or (kept j q) m 0))) (e (get_or (kept j q) m 0) r.0 r.1)))
    ∙ sym (need_sum j q a b)

-- ---- the stretch

pub short_agree : (j : Job) (p q : ℕ → ℕ) → Same j p q → (a b : ℕ) → Short j p a b → Short j q a b
short_agree j p q e a b s =
    record { first_slot = s.first_slot; in_order = s.in_order; last_slot_lem = s.last_slot_lem; exceeds = omega (arith, need_agree j p q e a b, s.exceeds) }

pub named_agree : (j : Job) (p q : ℕ → ℕ) → Same j p q → (a b : ℕ) → Named j p a b → Named j q a b
named_agree j p q e a b n =
    let back = short_agree j q p (same_sym j p q e) in
    record {
      short = short_agree j p q e a b n.short;
      smallest_last = λ a' b' s. n.smallest_last a' b' (back a' b' s);
      greatest_first = λ a' s. n.greatest_first a' (back a' b s);
    }

-- ---- the lines

missing_of_agree : (p q : ℕ → ℕ) (i n : ℕ) → p i ≡ q i → missing_of p i n ≡ missing_of q i n
missing_of_agree p q i zero e = refl
missing_of_agree p q i (suc n) e = rw (missing_of_agree p q i n e, e)

missing_to_agree : (p q : ℕ → ℕ) (n i : ℕ) → ((k : ℕ) → 1 ≤ k → k ≤ i → p k ≡ q k) → missing_to p n i ≡ missing_to q n i
missing_to_agree p q n zero e = refl
missing_to_agree p q n (suc i) e = rw (missing_to_agree p q n i (λ k u v. e k u (omega arith)), missing_of_agree p q (suc i) n (e (suc i) (omega arith) (omega arith)))

reason_agree :
    (j : Job) (p q : ℕ → ℕ) (f g : ℕ → ℕ → ℕ → ℕ) (i n : ℕ) → p i ≡ q i → Same j (f i n) (g i n) → (l : Line) → Reason j p f i n l → Reason j q g i n l
reason_agree j p q f g i n e s (short i' n' a b c m) r =
    let t = r.2 in (
      r.0,
      r.1,
      record {
        lower_carried = omega (arith, t.lower_carried);
        stretch = named_agree j (f i n) (g i n) s a b t.stretch;
        carry_is = t.carry_is;
        need_is = t.need_is ∙ need_agree j (f i n) (g i n) s a b;
      },
    )
reason_agree j p q f g i n e s (lower i' n' k) r =
    let t = r.2 in
    (r.0, r.1, record { next_lower = t.next_lower; missing = omega (arith, t.missing) })

under_agree :
    (R S : ℕ → ℕ → Line → Type 0) (xs : List Place) (ls : List Line) → All (λ x. (l : Line) → R x.chunk x.layer l → S x.chunk x.layer l) xs →
    Under R xs ls → Under S xs ls
under_agree R S [] [] a u = tt
under_agree R S [] (l ∷ ls) a u = u
under_agree R S (x ∷ xs) [] a u = u
under_agree R S (x ∷ xs) (l ∷ ls) a u = (a.0 l u.0, under_agree R S xs ls a.1 u.1)

-- Plans that agree at the chunks, against choices that agree there under each missing layer.
pub reasons_agree :
    (j : Job) (p q : ℕ → ℕ) (f g : ℕ → ℕ → ℕ → ℕ) → Same j p q →
    ((i n : ℕ) → 1 ≤ i → i ≤ chunks j → n < layers j → q i ≤ n → Same j (f i n) (g i n)) → (ls : List Line) → Reasons j p f ls → Reasons j q g ls
reasons_agree j p q f g e s ls r =
    under_agree (Reason j p f) (Reason j q g) (missing j q) ls
    (missing_to_each q (λ x. (l : Line) → Reason j p f x.chunk x.layer l → Reason j q g x.chunk x.layer l) (layers j) (chunks j)
    (λ k m u v w h. reason_agree j p q f g k m (e k u v) (s k m u v w h)))
    (subst (λ (xs : List Place). Under (Reason j p f) xs ls) (missing_to_agree p q (layers j) (chunks j) e) r)

pub settled_agree : (j : Job) (p q : ℕ → ℕ) → Same j p q → (i n : ℕ) → Same j (settled_before p i n) (settled_before q i n)
settled_agree j p q e i n k u v = rw (e k u v)

pub kept_bases_agree : (j : Job) (p q : ℕ → ℕ) → Same j p q → (i n : ℕ) → Same j (all_bases_kept p i n) (all_bases_kept q i n)
kept_bases_agree j p q e i zero k u v = rw (e k u v)
kept_bases_agree j p q e i (suc n) k u v = rw (e k u v)

pub against_agree : (j : Job) (p q : ℕ → ℕ) → Same j p q → (i n : ℕ) → Same j (against j p i n) (against j q i n)
against_agree j p q e i n = by (by_moore_hodgson j) where
  by : (b : Bool) → Same j (cond b (all_bases_kept p) (settled_before p) i n) (cond b (all_bases_kept q) (settled_before q) i n)
  by true = kept_bases_agree j p q e i n
  by false = settled_agree j p q e i n
