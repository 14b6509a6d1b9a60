-- Lemmas. The criterion in the form that the code may decide: only the chunks due from p on are
-- asked, the others must have nothing left; the begun ones among them stand in front, are at most
-- H, and have nothing to be fetched until they are tried; and one layer tried for a fixed list of
-- chunks in one pass forward and one back. See README.md for how the passes go together.
use Rattle.std.specs.Prelude.{ℕ, zero, suc, ◌+◌, ◌-◌, ◌≤◌, ◌<◌, max, min, ◌≡◌, refl, Bool, true, false, not, cond, ◌&&◌, ◌||◌, List, [], ◌∷◌, ◌++◌, ◌⊎◌, ◌↔◌, drop, get_or, length, T, leb, ltb, eqb}
use Rattle.std.proofs.Common.{sym, ap, ◌∙◌, subst, inl, inr, ⊎_elim, arith, le-leb, T_not, leb→le, le→leb, lt→ltb, eqb→eq}
use Rattle.std.proofs.lemmas.Bool.{lt-leb}
use Rattle.std.proofs.Math.Dec.{nleb→lt}
use Rattle.theory_basics.specs.Sums.{count}
use Rattle.theory_basics.specs.Lists.{has}
use Rattle.theory_basics.specs.Tests.{All}
use Rattle.theory_basics.specs.lemmas.Ranges.{count_none}
use Rattle.theory_basics.specs.lemmas.Tests.{and_T, at_row, by_cond, not_T_false, T_and, T_or_iff, T_true, test}
use Rattle.theory_basics.specs.lemmas.Lists.{drop_past}
use Rattle.job.specs.Job.{chunks, due, held_most, Job, last_slot}
use Rattle.fetch.specs.Rows.{begun, held, Row}
use Rattle.fetch.specs.Rules.{RowInRange}
use Rattle.theory_plan.specs.Plan.{after, picked}
use Rattle.theory_plan.specs.lemmas.Feasible.{need_of}
use Rattle.theory_plan.specs.lemmas.Ascending.{count_all}
use Rattle.theory_plan.specs.lemmas.Count.{some_row}
use Rattle.theory_plan.specs.lemmas.Kept.{picked_asc, picked_cong, picked_each, has_picked}
use Rattle.theory_plan.specs.lemmas.Linear.{needs_at, needs_of_lem}
use Rattle.theory_plan.specs.lemmas.Need.{Feas, need_drop, Tails}
use Rattle.theory_plan.specs.lemmas.Words.{carries, due_mono}
use Rattle.theory_replan.specs.Plan.{after_from, busy, busy_chunks, bytes_left}
use Rattle.theory_replan.specs.Statement.{Acceptable}
use Rattle.theory_replan.specs.lemmas.Held.{begun_row}
use Rattle.theory_replan.specs.lemmas.Rest.{from_anti}
use Rattle.theory_plan.specs.Bases.{Asc}

-- What holds of every number of a list holds of one that stands in it.
pub all_has : (P : ℕ → Type 0) (ks : List ℕ) (i : ℕ) → All P ks → T (has ks i) → P i
all_has P [] i a t = absurd t
all_has P (k ∷ ks) i a t = ⊎_elim (λ u. subst P (eqb→eq k i u) a.0) (λ u. all_has P ks i a.1 u) ((T_or_iff (eqb k i) (has ks i)).0 t)

-- ---- only chunks due from p on

-- A is what is forecast after a slot, and the same for all slots before p.
module _ (w d A : ℕ → ℕ) (h p : ℕ) (d-mono : (x y : ℕ) → x ≤ y → d x ≤ d y) (flat : (t : ℕ) → t < p → A t ≡ A 0) where
  -- Those of the chunks that pass b which are due from p on.
  abbrev due_from : (ℕ → Bool) → ℕ → Bool
  due_from b i = b i && leb p (d i)

  -- A chunk due before p has nothing left.
  abbrev Over : ℕ → Type 0
  Over k = d k < p → w k ≡ 0

  pub feas_due :
      (b : ℕ → Bool) (lo n : ℕ) →
      Feas w d A h (picked b lo n) ↔ (All Over (picked b lo n) × Feas w d A h (picked (due_from b) lo n))
  feas_due b lo zero = (λ f. (tt, f), λ u. u.1)
  feas_due b lo (suc n) = by (b (suc lo)) (feas_due b (suc lo) n) (λ l. picked_cong (due_from b) b (suc lo) n (λ i u v. always (b i) (leb p (d i)) (le→leb p (d i) (omega (arith, d-mono (suc lo) i (omega arith))))))
    where
      always : (x y : Bool) → T y → (x && y) ≡ x
      always true true t = refl
      always true false t = absurd t
      always false y t = refl

      by :
          (x : Bool) → Feas w d A h (picked b (suc lo) n) ↔ (All Over (picked b (suc lo) n) × Feas w d A h (picked (due_from b) (suc lo) n)) →
          (p ≤ d (suc lo) → picked (due_from b) (suc lo) n ≡ picked b (suc lo) n) →
          Feas w d A h (cond x (suc lo ∷ picked b (suc lo) n) (picked b (suc lo) n)) ↔ (All Over (cond x (suc lo ∷ picked b (suc lo) n) (picked b (suc lo) n)) × Feas w d A h (cond (x && leb p (d (suc lo))) (suc lo ∷ picked (due_from b) (suc lo) n) (picked (due_from b) (suc lo) n)))
      by false r same = r
      by true r same =
          ⊎_elim
          (λ t.
          let l = leb→le p (d (suc lo)) t in
          let later : All Over (picked b (suc lo) n) = picked_each b Over (suc lo) n (λ i u v x y. absurd (omega (arith, d-mono (suc lo) i (omega arith)))) in
          rw (le-leb p (d (suc lo)) l, same l) (λ f. ((λ x. absurd (omega arith), later), f), λ u. u.1))
          (λ t.
          let l = nleb→lt p (d (suc lo)) t in
          let z : A (d (suc lo)) ≡ A 0 = flat (d (suc lo)) l in
          let z' : A (d (suc lo) - 1) ≡ A 0 = flat (d (suc lo) - 1) (omega arith) in
          rw (lt-leb p (d (suc lo)) l) (
            λ f.
                let g = r.0 (record { whole = omega (arith, f.whole); tails = f.tails.1 }) in
                ((λ x. omega (arith, f.whole, z), g.0), g.1),
            λ u.
                let g = r.1 (u.0.1, u.1) in
                let e : w (suc lo) ≡ 0 = u.0.0 l in
                let all : need_of w d A (suc lo ∷ picked b (suc lo) n) ≤ A 0 = omega (arith, e, z, g.whole) in
                record { whole = all; tails = (omega (arith, all, z', need_drop w d A (suc lo ∷ picked b (suc lo) n) h), g.tails) },
          ))
          (test (leb p (d (suc lo))))

-- The busy chunks that are due from p on.
abbrev pub busy_from : Job → ℕ → List Row → (ℕ → ℕ) → List ℕ
busy_from j p fetched lv = picked (λ i. busy fetched lv i && leb p (due j i)) 0 (chunks j)

pub feas_from_due :
    (j : Job) (p : ℕ) (fetched : List Row) (lv : ℕ → ℕ) →
    Feas (bytes_left j fetched lv) (due j) (after_from j p) (held_most j) (busy_chunks j fetched lv) ↔
    (All (λ k. due j k < p → bytes_left j fetched lv k ≡ 0) (busy_chunks j fetched lv) × Feas (bytes_left j fetched lv) (due j) (after_from j p) (held_most j) (busy_from j p fetched lv))
feas_from_due j p fetched lv =
    feas_due (bytes_left j fetched lv) (due j) (after_from j p) (held_most j) p (due_mono j)
    (λ t l. let e : max t (p - 1) ≡ max 0 (p - 1) = omega arith in ap (after j) e)
    (busy fetched lv) 0 (chunks j)

-- A chunk due before p has nothing left.
pub nothing_left :
    (j : Job) (p : ℕ) (fetched : List Row) (lv : ℕ → ℕ) → Feas (bytes_left j fetched lv) (due j) (after_from j p) (held_most j) (busy_chunks j fetched lv) →
    (k : ℕ) → 1 ≤ k → k ≤ chunks j → due j k < p → bytes_left j fetched lv k ≡ 0
nothing_left j p fetched lv f k u v h =
    ⊎_elim
    (λ t.
    all_has (λ k. due j k < p → bytes_left j fetched lv k ≡ 0) (busy_chunks j fetched lv) k ((feas_from_due j p fetched lv).0 f).0
    (subst T (sym (has_picked (busy fetched lv) 0 (chunks j) k u (omega arith))) ((T_or_iff (carries fetched k) (leb 1 (lv k))).1 (inr t))) h)
    (λ t. let e : lv k ≡ 0 = omega (arith, nleb→lt 1 (lv k) t) in rw e)
    (test (leb 1 (lv k)))

-- ---- the begun chunks that are due from p on are at most H

pub begun_few :
    (j : Job) (p : ℕ) (fetched : List Row) → Acceptable j p fetched →
    length (picked (λ i. carries fetched i && leb p (due j i)) 0 (chunks j)) ≤ held_most j
begun_few j p fetched ok =
    let ks = picked (λ i. carries fetched i && leb p (due j i)) 0 (chunks j) in
    ⊎_elim
    (λ u.
    let l = leb→le 2 p u in
    let all =
    picked_each (λ i. carries fetched i && leb p (due j i)) (λ i. T (held j fetched (p - 1) i)) 0 (chunks j) (λ i a b t.
    let v = and_T (carries fetched i) (leb p (due j i)) t in
    let x = some_row (λ y. eqb y.chunk i) fetched v.0 in
    let early = at_row (λ y. y.slot < p) x.1 ok.before in
    T_and (begun fetched (p - 1) i) (ltb (p - 1) (due j i)) (begun_row fetched (p - 1) i x.0 x.1 (eqb→eq _ _ x.2) (omega arith)) (lt→ltb (p - 1) (due j i) (omega (arith, leb→le p (due j i) v.1)))) in
    omega (
      arith,
      ok.few_held (p - 1) (omega arith) (omega (arith, ok.p_high)),
      count_all (held j fetched (p - 1)) 0 (chunks j) ks (omega arith) (picked_asc (λ i. carries fetched i && leb p (due j i)) 0 (chunks j) (chunks j) (omega arith)) all,
    ))
    (λ u.
    let l = nleb→lt 2 p u in
    let none =
    picked_each (λ i. carries fetched i && leb p (due j i)) (λ i. T false) 0 (chunks j) (λ i a b t.
    let v = and_T (carries fetched i) (leb p (due j i)) t in
    let x = some_row (λ y. eqb y.chunk i) fetched v.0 in
    absurd (omega (arith, at_row (λ y. y.slot < p) x.1 ok.before, (at_row (RowInRange j) x.1 ok.in_range_lem).slot_low))) in
    omega (arith, count_all (λ i. false) 0 (chunks j) ks (omega arith) (picked_asc (λ i. carries fetched i && leb p (due j i)) 0 (chunks j) (chunks j) (omega arith)) none, count_none (λ i. false) (chunks j) (λ i a b. tt)))
    (test (leb 2 p))

-- ---- begun chunks in front

-- What the begun chunks bs ask of those behind them, whose needs are ns: the one that stands h
-- places behind fits from the due slot on.
abbrev pub FrontOk : (d A : ℕ → ℕ) (h : ℕ) → List ℕ → List ℕ → Type 0
FrontOk d A h [] ns = Unit {0}
FrontOk d A h (b ∷ bs) ns = (get_or ns (h - length (b ∷ bs)) 0 ≤ A (d b - 1)) × FrontOk d A h bs ns

module _ (w d A : ℕ → ℕ) (h : ℕ) where
  pub front_tails : (bs ks : List ℕ) → length bs ≤ h → Tails w d A h (bs ++ ks) ↔ (FrontOk d A h bs (needs_of_lem w d A ks) × Tails w d A h ks)
  front_tails [] ks l = (λ t. (tt, t), λ u. u.1)
  front_tails (b ∷ bs) ks l =
      let r = front_tails bs ks (omega arith) in
      let e : need_of w d A (drop h (b ∷ (bs ++ ks))) ≡ get_or (needs_of_lem w d A ks) (h - length (b ∷ bs)) 0 =
      ap (need_of w d A) (drop_past (b ∷ bs) ks h l) ∙ sym (needs_at w d A ks (h - length (b ∷ bs))) in (
        λ t. let u = r.0 t.1 in ((omega (arith, t.0, e), u.0), u.1),
        λ u. (omega (arith, u.0.0, e), r.1 (u.0.1, u.1)),
      )

  -- Chunks with nothing to be fetched need what stands behind them.
  pub front_need : (bs ks : List ℕ) (x : ℕ) → ((t : ℕ) → A t ≤ x) → All (λ b. w b ≡ 0) bs → (need_of w d A (bs ++ ks) ≤ x) ↔ (need_of w d A ks ≤ x)
  front_need [] ks x f a = (λ u. u, λ u. u)
  front_need (b ∷ bs) ks x f a =
      let r = front_need bs ks x f a.1 in
      (λ u. r.0 (omega arith), λ u. omega (arith, a.0, f (d b), r.1 u))

  -- A new chunk i in front of the kept ones, behind the begun ones with nothing to be fetched yet.
  pub front_feas :
      (bs ks : List ℕ) (i : ℕ) → ((t : ℕ) → A t ≤ A 0) → length bs ≤ h → All (λ b. w b ≡ 0) bs → Tails w d A h ks →
      Feas w d A h (bs ++ (i ∷ ks)) ↔ ((need_of w d A (i ∷ ks) ≤ A 0) × (need_of w d A (drop h (i ∷ ks)) ≤ A (d i - 1)) × FrontOk d A h bs (needs_of_lem w d A (i ∷ ks)))
  front_feas bs ks i f l a t =
      let n = front_need bs (i ∷ ks) (A 0) f a in
      let r = front_tails bs (i ∷ ks) l in (
        λ u. let v = r.0 u.tails in (n.0 u.whole, v.1.0, v.0),
        λ u. record { whole = n.1 u.0; tails = r.1 (u.2, (u.1, t)) },
      )
