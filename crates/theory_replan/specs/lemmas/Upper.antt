-- Lemmas. A layer above the base in linear time: the passes `rooms` and `back` of theory_plan's
-- Trials, which the code has, take from slot p on what the plan made afresh takes. The list is that
-- of the chunks begun or kept and due from p on, each with the bytes still to be fetched; the sizes
-- are what the fetched rows leave of each layer, so a layer whole before p costs nothing and stays.
use Rattle.std.specs.Prelude.{ℕ, suc, ◌-◌, ◌≤◌, ◌<◌, max, min, ◌≡◌, refl, Bool, cond, ◌&&◌, ◌||◌, List, ◌++◌, map, ◌⊎◌, ◌↔◌, T, leb, ltb, eqb}
use Rattle.std.proofs.Common.{sym, ap, subst, inl, inr, ⊎_elim, arith, eq-eqb, ne_eqb, le-leb, leb→le, le→leb, eqb→eq}
use Rattle.std.proofs.lemmas.Bool.{lt-leb}
use Rattle.theory_basics.specs.Lists.{has}
use Rattle.theory_basics.specs.Tests.{All}
use Rattle.theory_basics.specs.lemmas.Ranges.{sum_mono}
use Rattle.theory_basics.specs.lemmas.Tests.{and_T, by_cond, not_T_false, same_test, test, neqb_ne}
use Rattle.job.specs.Job.{chunks, due, held_most, Job, Layer, layers, size}
use Rattle.fetch.specs.Rows.{bytes_of_layer, Row}
use Rattle.fetch.specs.lemmas.Marks.{mark_bit, mark_high}
use Rattle.theory_plan.specs.lemmas.Feasible.{need_of}
use Rattle.theory_plan.specs.Statement.{Choice}
use Rattle.theory_plan.specs.lemmas.Kept.{feas_picked, picked_cong, picked_each}
use Rattle.theory_plan.specs.lemmas.Level.{level, level_iff}
use Rattle.theory_plan.specs.lemmas.Linear.{feas_roomy, Roomy}
use Rattle.theory_plan.specs.lemmas.Need.{Feas}
use Rattle.theory_plan.specs.lemmas.Queue.{releases, RelOk}
use Rattle.theory_plan.specs.lemmas.Trials.{back, Kept, level_mark, rooms, Tried}
use Rattle.theory_plan.specs.lemmas.Words.{carries, layer_of}
use Rattle.theory_plan.specs.lemmas.LayerPass.{scan}
use Rattle.theory_replan.specs.Plan.{after_from, busy, busy_chunks, bytes_left, tried_from}
use Rattle.theory_replan.specs.Statement.{Acceptable}
use Rattle.theory_replan.specs.lemmas.Criterion.{busy_from, feas_from_due, nothing_left}
use Rattle.theory_replan.specs.lemmas.Fits.{FitsFrom}

-- ---- a layer above the base

module _
    (j : Job) (p : ℕ) (fetched : List Row) (ok : Acceptable j p fetched) (n : ℕ) (up : 1 ≤ n) (few : layers j ≤ 8) (in_job : n < layers j)
    (q : ℕ → ℕ) (choice : Choice j q) (fq : FitsFrom j p fetched q)
    (accepts :
    (i : ℕ) → 1 ≤ i → i ≤ chunks j →
    (n < q i) ↔ ((n < level j fetched i) ⊎ ((p ≤ due j i) × (n ≤ q i) × FitsFrom j p fetched (tried_from j fetched q n i)))) where
  -- What is whole before p; what is left of a layer; what is left of a chunk in a choice.
  abbrev base : ℕ → ℕ
  base k = level j fetched k

  abbrev rest : ℕ → ℕ → ℕ
  rest k m = size j k m - bytes_of_layer fetched k m

  abbrev left : (ℕ → ℕ) → ℕ → ℕ
  left lv k = bytes_left j fetched lv k

  abbrev A : ℕ → ℕ
  A = after_from j p

  -- The chunks of the list.
  abbrev member : ℕ → Bool
  member i = busy fetched q i && leb p (due j i)

  -- What is carried of the layers below n, and of the layers up to n.
  abbrev lower : ℕ → ℕ
  lower k = max (base k) (min (q k) n)

  abbrev upper : ℕ → ℕ
  upper k = max (base k) (min (q k) (suc n))

  abbrev upto : ℕ → ℕ
  upto k = left upper k

  abbrev trial : ℕ → ℕ → ℕ
  trial i = left (tried_from j fetched q n i)

  -- A chunk of the list: its due slot, the bytes still to be fetched, its mark.
  abbrev kept_rest : (ℕ → ℕ) → ℕ → Kept
  kept_rest lv k = record { chunk = k; due = due j k; bytes = left lv k; mark = level_mark (lv k) }

  abbrev result : List ℕ → Tried
  result ks = record { need = need_of upto (due j) A ks; kept = map (kept_rest upper) ks }

  abbrev run : ℕ → List ℕ → List ℕ → Tried
  run room ks rs = back rest A n (rooms A room (map (left lower) ks) rs) (map (kept_rest lower) ks)

  -- ---- what is tried fits exactly if it has room

  tried_le : (i k : ℕ) → n ≤ q i → 1 ≤ k → k ≤ chunks j → (k ≡ i → ⊥) → tried_from j fetched q n i k ≤ q k
  tried_le i k h u v o = rw (ne_eqb k i o) (omega (arith, fq.whole k u v))

  same_busy : (i k : ℕ) → n ≤ q i → 1 ≤ k → k ≤ chunks j → busy fetched (tried_from j fetched q n i) k ≡ busy fetched q k
  same_busy i k h u v =
      ap (λ (b : Bool). carries fetched k || b)
      (⊎_elim
      (λ t. let e = eqb→eq k i t in rw (e, eq-eqb i i refl, le-leb 1 (suc n) (omega arith)) (sym (le-leb 1 (q i) (omega arith))))
      (λ t.
      let o : k ≡ i → ⊥ = neqb_ne k i t in
      rw (ne_eqb k i o)
      (by_cond (λ (c : ℕ). leb 1 (max (base k) (min (q k) c)) ≡ leb 1 (q k)) (ltb i k) {x = suc n} {y = n}
      (λ x. kept_or_not (suc n) (omega arith)) (λ x. kept_or_not n up)))
      (test (eqb k i)))
    where
      kept_or_not : (c : ℕ) → 1 ≤ c → leb 1 (max (base k) (min (q k) c)) ≡ leb 1 (q k)
      kept_or_not c l =
          same_test (leb 1 (max (base k) (min (q k) c))) (leb 1 (q k))
          (λ t. le→leb 1 (q k) (omega (arith, leb→le 1 (max (base k) (min (q k) c)) t, fq.whole k u v)))
          (λ t. le→leb 1 (max (base k) (min (q k) c)) (omega (arith, leb→le 1 (q k) t)))

  tried_fits :
      (i : ℕ) → 1 ≤ i → i ≤ chunks j → T (member i) → n ≤ q i → base i ≤ n →
      FitsFrom j p fetched (tried_from j fetched q n i) ↔ Feas (trial i) (due j) A (held_most j) (busy_from j p fetched q)
  tried_fits i u v mem reached lacks =
      let z = tried_from j fetched q n i in
      let d = feas_from_due j p fetched z in
      let e : busy_from j p fetched z ≡ busy_from j p fetched q = picked_cong (λ k. busy fetched z k && leb p (due j k)) member 0 (chunks j) (λ k x y. ap (λ (b : Bool). b && leb p (due j k)) (same_busy i k reached x (omega arith))) in
      let due-then = leb→le p (due j i) (and_T (busy fetched q i) (leb p (due j i)) mem).1 in
      let over : All (λ k. due j k < p → bytes_left j fetched z k ≡ 0) (busy_chunks j fetched z) =
      picked_each (busy fetched z) (λ k. due j k < p → bytes_left j fetched z k ≡ 0) 0 (chunks j) (λ k x y t l.
      ⊎_elim
      (λ w. absurd (omega (arith, ap (due j) (eqb→eq k i w))))
      (λ w. let o : k ≡ i → ⊥ = neqb_ne k i w in omega (arith, sum_mono (rest k) (z k) (q k) (tried_le i k reached x (omega arith) o), nothing_left j p fetched q fq.feas k x (omega arith) l))
      (test (eqb k i))) in (
        λ f. subst (Feas (trial i) (due j) A (held_most j)) e (d.0 f.feas).1,
        λ f.
            record {
              whole = λ k x y. ⊎_elim (λ w. let o = eqb→eq k i w in rw (o, eq-eqb i i refl) (omega arith)) (λ w. rw (not_T_false (eqb k i) w) (omega arith)) (test (eqb k i));
              in_front_lem = λ k x y l.
                  fq.in_front_lem k x y
                  (⊎_elim (λ w. omega (arith, ap q (eqb→eq k i w))) (λ w. omega (arith, l, tried_le i k reached x y (neqb_ne k i w))) (test (eqb k i)));
              feas = d.1 (over, subst (Feas (trial i) (due j) A (held_most j)) (sym e) f);
            },
      )

  -- The pass takes the layer where the plan made afresh does.
  pub layer_from_is : run (A 0) (busy_from j p fetched q) (releases (due j) (held_most j) (busy_from j p fetched q)) ≡ result (busy_from j p fetched q)
  layer_from_is =
      let cs = busy_from j p fetched q in
      let rs = releases (due j) (held_most j) cs in
      let t : (w : ℕ → ℕ) → Feas w (due j) A (held_most j) cs ↔ Roomy w (due j) A (A 0) cs rs = λ w. feas_roomy w (due j) A (held_most j) cs in
      scan (chunks j) (due j) A rest base q n up (omega arith) member fq.whole
      (λ i u v h. (omega (arith, (level_iff j fetched ok.lower i n (layer_of j i n u v in_job)).1 h), omega (arith, fq.whole i u v, choice i u v)))
      (λ i. FitsFrom j p fetched (tried_from j fetched q n i))
      (λ i u v mem lacks.
      let a = accepts i u v in
      let due-then = leb→le p (due j i) (and_T (busy fetched q i) (leb p (due j i)) mem).1 in
      (λ l. ⊎_elim (λ x. absurd (omega arith)) (λ x. (x.1, x.2)) (a.0 l), λ x. a.1 (inr (due-then, x.0, x.1))))
      (chunks j) 0 (A 0) rs (omega arith)
      (record {
        trials = λ i u v mem reached lacks.
            let x = tried_fits i u v mem reached lacks in
            let y = t (trial i) in
            (λ f. y.0 (x.0 f), λ f. x.1 (y.1 f));
        plan_in_lem =
            (t upto).0
            (feas_picked upto (left q) (due j) A (held_most j) member 0 (chunks j) (λ k u v h. sum_mono (rest k) (upper k) (q k) (omega (arith, fq.whole k u (omega arith))))
            ((feas_from_due j p fetched q).0 fq.feas).1);
      })
