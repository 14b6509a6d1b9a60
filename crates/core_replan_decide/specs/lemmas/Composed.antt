-- Lemmas. `passes_are_plan`: the passes of theory_replan, Linear, one after the other, make the
-- plan made afresh. New bases, begun bases, then layer by layer, over the chunks begun or kept that
-- are due from p on.
use Rattle.std.specs.Prelude.{ℕ, zero, suc, ◌+◌, ◌-◌, ◌≤◌, ◌<◌, max, min, ◌≡◌, refl, Bool, true, false, not, cond, ◌&&◌, List, [], ◌∷◌, map, ◌⊎◌, ◌↔◌, T, eqb, leb, ltb}
use Rattle.std.proofs.Common.{sym, ap, ◌∙◌, inr, ⊎_elim, arith, T_not, eqb→eq, leb→le, ltb→lt, nltb→le, le→leb}
use Rattle.std.proofs.lemmas.Simd.{map-map}
use Rattle.std.proofs.Math.Dec.{nleb→lt}
use Rattle.theory_basics.specs.Sums.{sum}
use Rattle.theory_basics.specs.Tests.{All}
use Rattle.theory_basics.specs.lemmas.Tests.{and_T, at_row, not_T_false, same_test, T_and, T_or_iff, T_true, test}
use Rattle.job.specs.Job.{Accepted, chunks, due, held_most, Job, layers, size}
use Rattle.fetch.specs.Marks.{bit}
use Rattle.fetch.specs.Rows.{bytes_of_layer, Row}
use Rattle.fetch.specs.lemmas.Marks.{mark_bit}
use Rattle.fetch.specs.lemmas.Rows.{bytes_none}
use Rattle.theory_plan.specs.Plan.{picked}
use Rattle.theory_plan.specs.lemmas.Feasible.{need_of}
use Rattle.theory_plan.specs.lemmas.Count.{some_row}
use Rattle.theory_plan.specs.lemmas.Kept.{picked_cong, picked_each}
use Rattle.theory_plan.specs.lemmas.Level.{level}
use Rattle.theory_plan.specs.lemmas.Queue.{releases}
use Rattle.theory_plan.specs.lemmas.Trials.{back, bytes_kept, Kept, level_mark, on_layer, on_layers, rooms, Tried}
use Rattle.theory_plan.specs.lemmas.Words.{accepted_sized, carries, layer_of, Sized}
use Rattle.theory_replan.specs.Plan.{after_from, busy, bytes_left, tried_from}
use Rattle.theory_replan.specs.Statement.{Acceptable, IsReplan}
use Rattle.theory_replan.specs.lemmas.Base.{base_begun, whole_begun, whole_left}
use Rattle.theory_replan.specs.lemmas.Criterion.{busy_from}
use Rattle.theory_replan.specs.lemmas.Fits.{FitsFrom}
use Rattle.theory_replan.specs.lemmas.Linear.{layer_pass}
use Rattle.theory_replan.specs.lemmas.Passes.{busy_begun, new_need}
use Rattle.theory_replan.specs.lemmas.Plan.{is_replan_accepts, is_replan_fits}
use Rattle.core_decide.specs.lemmas.Decision.{kept_of}
use Rattle.core_replan_decide.specs.declared.Chosen.{Chosen}
use Rattle.core_replan_decide.specs.lemmas.Begun.{choose, front_one, scan_front}

-- A chunk with the layers lv: what is left of them, and their mark.
abbrev pub kept_rest : Job → List Row → (ℕ → ℕ) → ℕ → Kept
kept_rest j fetched lv k = record { chunk = k; due = due j k; bytes = bytes_left j fetched lv k; mark = level_mark (lv k) }

-- What is carried of the layers below n, with those whole before p.
abbrev pub below : Job → List Row → (ℕ → ℕ) → ℕ → ℕ → ℕ
below j fetched plan n k = max (level j fetched k) (min (plan k) n)

-- What the fetched rows leave of a layer.
abbrev pub rest : Job → List Row → ℕ → ℕ → ℕ
rest j fetched k n = size j k n - bytes_of_layer fetched k n

-- The mark of a chunk of at least one layer has its base.
base_bit : (m : ℕ) → 1 ≤ m → bit (level_mark m) 0 ≡ true
base_bit m h = mark_bit (λ n. true) m 0 h

module _
    (j : Job) (a : Accepted j) (p : ℕ) (fetched : List Row) (ok : Acceptable j p fetched) (plan : ℕ → ℕ) (d : IsReplan j p fetched plan)
    (last : ℕ) (behind : All (λ x. x.chunk ≤ last) fetched) (top : (last ≡ 0) ⊎ T (carries fetched last)) (in_job : last ≤ chunks j) where
  abbrev A : ℕ → ℕ
  A = after_from j p

  abbrev one : ℕ → ℕ
  one k = size j k 0

  abbrev is_kept : ℕ → Bool
  is_kept i = leb 1 (plan i)

  abbrev is_begun_here : ℕ → Bool
  is_begun_here i = carries fetched i && leb p (due j i)

  abbrev member : ℕ → Bool
  member k = busy fetched plan k && leb p (due j k)

  abbrev b1 : ℕ → ℕ
  b1 = below j fetched plan 1

  abbrev settled : ℕ → ℕ
  settled = bytes_left j fetched b1

  sized : Sized j
  sized = accepted_sized j a

  some : 0 < layers j
  some = a.layers_in.low

  fits : FitsFrom j p fetched plan
  fits = is_replan_fits j p fetched ok sized plan d

  accepts :
      (i : ℕ) → 1 ≤ i → i ≤ chunks j →
      (0 < plan i) ↔ ((0 < level j fetched i) ⊎ ((p ≤ due j i) × (0 ≤ plan i) × FitsFrom j p fetched (tried_from j fetched plan 0 i)))
  accepts i u v = is_replan_accepts j p fetched ok sized plan d i 0 (layer_of j i 0 u v some)

  -- Behind the last begun chunk nothing is begun.
  not_begun : (k : ℕ) → last < k → T (carries fetched k) → ⊥
  not_begun k h t =
      let x = some_row (λ y. eqb y.chunk k) fetched t in
      omega (arith, at_row (λ x. x.chunk ≤ last) x.1 behind, eqb→eq x.0.chunk k x.2)

  not_whole : (k : ℕ) → last < k → k ≤ chunks j → level j fetched k ≡ 0
  not_whole k h edge =
      ⊎_elim
      (λ t. absurd (not_begun k h (whole_begun j sized p fetched ok some plan fits accepts k (omega arith) edge (leb→le 1 (level j fetched k) t))))
      (λ t. omega (arith, nleb→lt 1 (level j fetched k) t))
      (test (leb 1 (level j fetched k)))

  pub nothing_fetched : (k n : ℕ) → last < k → bytes_of_layer fetched k n ≡ 0
  nothing_fetched k n h =
      bytes_none (λ x. eqb x.chunk k && eqb x.layer n) fetched (λ x i t.
      omega (arith, at_row (λ x. x.chunk ≤ last) i behind, eqb→eq x.chunk k (and_T (eqb x.chunk k) (eqb x.layer n) t).0))

  -- Behind it only kept ones are.
  busy_new : (k : ℕ) → last < k → k ≤ chunks j → member k ≡ is_kept k
  busy_new k u v =
      same_test (member k) (is_kept k)
      (λ t. ⊎_elim (λ x. absurd (not_begun k u x)) (λ x. x) ((T_or_iff (carries fetched k) (leb 1 (plan k))).0 (and_T (busy fetched plan k) (leb p (due j k)) t).0))
      (λ t.
      ⊎_elim
      (λ x. absurd (omega (arith, x, not_whole k u v)))
      (λ x. T_and (busy fetched plan k) (leb p (due j k)) ((T_or_iff (carries fetched k) (leb 1 (plan k))).1 (inr t)) (le→leb p (due j k) x.0))
      ((accepts k (omega arith) v).0 (leb→le 1 (plan k) t)))

  -- The new chunks that are kept.
  abbrev pub news : List ℕ
  news = picked is_kept last (chunks j - last)

  new_members : picked member last (chunks j - last) ≡ news
  new_members = picked_cong member is_kept last (chunks j - last) (λ k u v. busy_new k u (omega arith))

  bytes_one : (k : ℕ) → level j fetched k ≡ 0 → 1 ≤ plan k → settled k ≡ rest j fetched k 0
  bytes_one k e h =
      let x : b1 k ≡ 1 = omega arith in
      let z : sum (rest j fetched k) 1 ≡ rest j fetched k 0 = omega arith in
      ap (sum (rest j fetched k)) x ∙ z

  bytes_zero : (k : ℕ) → level j fetched k ≡ 0 → plan k < 1 → settled k ≡ 0
  bytes_zero k e h = let x : b1 k ≡ 0 = omega arith in ap (sum (rest j fetched k)) x

  -- A new chunk that is kept has its base to fetch, all of it.
  new_kept_at : (k : ℕ) → last < k → k ≤ chunks j → 1 ≤ plan k → kept_rest j fetched b1 k ≡ record { chunk = k; due = due j k; bytes = one k; mark = 1 }
  new_kept_at k u v h =
      let z = not_whole k u v in
      let x : b1 k ≡ 1 = omega arith in
      let y : settled k ≡ one k = bytes_one k z h ∙ omega (arith, nothing_fetched k 0 u) in
      ap (λ (b : ℕ). record { chunk = k; due = due j k; bytes = b; mark = level_mark (b1 k) }) y
      ∙ ap (λ (m : ℕ). record { chunk = k; due = due j k; bytes = one k; mark = level_mark m }) x

  pub new_kept : kept_of news (map (due j) news) (map one news) (map (λ k. 1) news) ≡ map (kept_rest j fetched b1) news
  new_kept = each news (picked_each is_kept (λ k. kept_rest j fetched b1 k ≡ record { chunk = k; due = due j k; bytes = one k; mark = 1 }) last (chunks j - last) (λ k u v t. new_kept_at k u (omega arith) (leb→le 1 (plan k) t)))
    where
      each : (l : List ℕ) → All (λ k. kept_rest j fetched b1 k ≡ record { chunk = k; due = due j k; bytes = one k; mark = 1 }) l → kept_of l (map (due j) l) (map one l) (map (λ k. 1) l) ≡ map (kept_rest j fetched b1) l
      each [] e = refl
      each (k ∷ l) e = rw (each l e.1) (ap (λ (x : Kept). x ∷ map (kept_rest j fetched b1) l) (sym e.0))

  -- ---- the begun chunks

  abbrev whole_mark : ℕ → ℕ
  whole_mark b = level_mark (level j fetched b)

  abbrev done : ℕ → Tried
  done lo = record { need = need_of settled (due j) A (picked member lo (chunks j - lo)); kept = map (kept_rest j fetched b1) (picked member lo (chunks j - lo)) }

  abbrev scan : List ℕ → Tried
  scan l = scan_front (λ b. rest j fetched b 0) (due j) A whole_mark (A 0) (need_of one (due j) A news) (map (kept_rest j fetched b1) news) l

  -- What one begun chunk keeps, in front of those behind it.
  chosen_is :
      (i : ℕ) → 1 ≤ i → i ≤ chunks j → T (is_begun_here i) →
      let want : ℕ = max (A (due j i)) (need_of settled (due j) A (picked member i (chunks j - i))) in
      choose (whole_mark i) (rest j fetched i 0) want (A 0) ≡ record { need = settled i + want; bytes = settled i; mark = level_mark (b1 i) }
  chosen_is i u v t =
      let want : ℕ = max (A (due j i)) (need_of settled (due j) A (picked member i (chunks j - i))) in
      let x = and_T (carries fetched i) (leb p (due j i)) t in
      let low = fits.whole i u v in
      ⊎_elim
      (λ w.
      let l = leb→le 1 (level j fetched i) w in
      let e : b1 i ≡ level j fetched i = omega arith in
      let z : settled i ≡ 0 = ap (sum (rest j fetched i)) e ∙ whole_left j sized p fetched ok some plan fits accepts i u v in
      let o : want ≡ settled i + want = omega (arith, z) in
      rw (base_bit (level j fetched i) l)
      (ap (λ (n : ℕ). record { need = n; bytes = 0; mark = level_mark (level j fetched i) }) o
      ∙ ap (λ (n : ℕ). record { need = settled i + want; bytes = n; mark = level_mark (level j fetched i) }) (sym z)
      ∙ ap (λ (n : ℕ). record { need = settled i + want; bytes = settled i; mark = level_mark n }) (sym e)))
      (λ w.
      let lacks : level j fetched i ≡ 0 = omega (arith, nleb→lt 1 (level j fetched i) w) in
      let r = base_begun j sized p fetched ok some plan fits accepts i (chunks j - i) (omega arith) u (leb→le p (due j i) x.1) lacks x.0 in
      let same : leb (rest j fetched i 0 + want) (A 0) ≡ is_kept i = same_test (leb (rest j fetched i 0 + want) (A 0)) (is_kept i) (λ y. r.1 (leb→le (rest j fetched i 0 + want) (A 0) y)) (λ y. le→leb (rest j fetched i 0 + want) (A 0) (r.0 y)) in
      ap (λ (n : ℕ). choose (level_mark n) (rest j fetched i 0) want (A 0)) lacks
      ∙ ap (λ (y : Bool). cond y (record { need = rest j fetched i 0 + want; bytes = rest j fetched i 0; mark = 1 }) (record { need = want; bytes = 0; mark = 0 })) same
      ∙ by_kept (is_kept i) want lacks (λ y. leb→le 1 (plan i) y) (λ y. nleb→lt 1 (plan i) y))
      (test (leb 1 (level j fetched i)))
    where
      by_kept :
          (y : Bool) (want : ℕ) → level j fetched i ≡ 0 → (T y → 1 ≤ plan i) → (T (not y) → plan i < 1) →
          ◌≡◌ {A = Chosen} (cond y (record { need = rest j fetched i 0 + want; bytes = rest j fetched i 0; mark = 1 }) (record { need = want; bytes = 0; mark = 0 })) (record { need = settled i + want; bytes = settled i; mark = level_mark (b1 i) })
      by_kept true want lacks f edge =
          let h = f tt in
          let e : b1 i ≡ 1 = omega arith in
          rw (bytes_one i lacks h) (ap (λ (n : ℕ). record { need = rest j fetched i 0 + want; bytes = rest j fetched i 0; mark = level_mark n }) (sym e))
      by_kept false want lacks f edge =
          let h = edge tt in
          let e : b1 i ≡ 0 = omega arith in
          let z : want ≡ 0 + want = omega arith in
          rw (bytes_zero i lacks h) (ap (λ (n : ℕ). record { need = n; bytes = 0; mark = 0 }) z ∙ ap (λ (n : ℕ). record { need = 0 + want; bytes = 0; mark = level_mark n }) (sym e))

  scan_are : (n lo : ℕ) → lo + n ≡ last → scan (picked is_begun_here lo n) ≡ done lo
  scan_are zero lo e =
      let q : lo ≡ last = omega arith in
      let nn = new_need j sized p fetched ok some plan fits accepts last behind in_job top (chunks j - last) (omega arith) in
      rw q (ap (λ (n : ℕ). record { need = n; kept = map (kept_rest j fetched b1) news }) (sym nn)
      ∙ ap (λ (l : List ℕ). record { need = need_of settled (due j) A (picked member last (chunks j - last)); kept = map (kept_rest j fetched b1) l }) (sym new_members))
  scan_are (suc n) lo e =
      let i = suc lo in
      let next = scan_are n i (omega arith) in
      let c : chunks j - lo ≡ suc (chunks j - i) = omega arith in
      let m = busy_begun j p fetched plan fits last top in_job i (omega arith) (omega arith) in
      ⊎_elim
      (λ t.
      rw (c, m, T_true (is_begun_here i) t)
      (ap (front_one (λ b. rest j fetched b 0) (due j) A whole_mark (A 0) i) next
      ∙ ap (λ (x : Chosen). record { need = x.need; kept = record { chunk = i; due = due j i; bytes = x.bytes; mark = x.mark } ∷ map (kept_rest j fetched b1) (picked member i (chunks j - i)) }) (chosen_is i (omega arith) (omega arith) t)))
      (λ t. rw (c, m, not_T_false (is_begun_here i) t) next)
      (test (is_begun_here i))

  -- The chunks begun or kept, each with its base if it is kept and with its whole layers.
  pub front_kept : (scan (picked is_begun_here 0 last)).kept ≡ map (kept_rest j fetched b1) (busy_from j p fetched plan)
  front_kept = let z : chunks j - 0 ≡ chunks j = omega arith in ap (λ (o : Tried). o.kept) (scan_are last 0 (omega arith)) ∙ rw z

  -- ---- the layers above the base

  abbrev cs : List ℕ
  cs = busy_from j p fetched plan

  pub layers_kept :
      (n : ℕ) → n < layers j →
      on_layers (rest j fetched) A (A 0) (releases (due j) (held_most j) cs) n (map (kept_rest j fetched b1) cs) ≡ map (kept_rest j fetched (below j fetched plan (suc n))) cs
  layers_kept zero h = refl
  layers_kept (suc n) h =
      let lv = below j fetched plan (suc n) in
      ap (on_layer (rest j fetched) A (A 0) (releases (due j) (held_most j) cs) (suc n)) (layers_kept n (omega arith))
      ∙ ap (λ (ws : List ℕ). (back (rest j fetched) A (suc n) (rooms A (A 0) ws (releases (due j) (held_most j) cs)) (map (kept_rest j fetched lv) cs)).kept) (map-map bytes_kept (kept_rest j fetched lv) cs)
      ∙ ap (λ (o : Tried). o.kept) (layer_pass j a p fetched ok plan d (suc n) (omega arith) h)

  -- All layers: the plan.
  plan_at : (k : ℕ) → 1 ≤ k → k ≤ chunks j → below j fetched plan (layers j) k ≡ plan k
  plan_at k u v = omega (arith, fits.whole k u v, d.choice k u v)

  pub passes_are_plan : map (kept_rest j fetched (below j fetched plan (layers j))) cs ≡ map (kept_rest j fetched plan) cs
  passes_are_plan = each cs (picked_each member (λ k. below j fetched plan (layers j) k ≡ plan k) 0 (chunks j) (λ k u v t. plan_at k u (omega arith)))
    where
      each : (l : List ℕ) → All (λ k. below j fetched plan (layers j) k ≡ plan k) l → map (kept_rest j fetched (below j fetched plan (layers j))) l ≡ map (kept_rest j fetched plan) l
      each [] e = refl
      each (k ∷ l) e = rw (each l e.1) (ap (λ (m : ℕ). record { chunk = k; due = due j k; bytes = sum (rest j fetched k) m; mark = level_mark m } ∷ map (kept_rest j fetched plan) l) e.0)

-- Every other chunk has what is whole before p.
pub other_at :
    (j : Job) (a : Accepted j) (p : ℕ) (fetched : List Row) (ok : Acceptable j p fetched) (plan : ℕ → ℕ) → IsReplan j p fetched plan →
    (k : ℕ) → 1 ≤ k → k ≤ chunks j → T (not (busy fetched plan k && leb p (due j k))) → plan k ≡ level j fetched k
other_at j a p fetched ok plan d k u v t =
    let sized = accepted_sized j a in
    let low = (is_replan_fits j p fetched ok sized plan d).whole k u v in
    ⊎_elim
    (λ x. ⊎_elim (λ y. absurd (T_not (busy fetched plan k && leb p (due j k)) t (T_and (busy fetched plan k) (leb p (due j k)) ((T_or_iff (carries fetched k) (leb 1 (plan k))).1 (inr y)) x))) (λ y. omega (arith, nleb→lt 1 (plan k) y)) (test (leb 1 (plan k))))
    (λ x.
    let early = nleb→lt p (due j k) x in
    ⊎_elim
    (λ y.
    let l : level j fetched k < plan k = ltb→lt (level j fetched k) (plan k) y in
    let r = layer_of j k (level j fetched k) u v (omega (arith, d.choice k u v)) in
    absurd (⊎_elim (λ z. omega arith) (λ z. omega (arith, z.0)) ((is_replan_accepts j p fetched ok sized plan d k (level j fetched k) r).0 l)))
    (λ y. omega (arith, nltb→le (level j fetched k) (plan k) y))
    (test (ltb (level j fetched k) (plan k))))
    (test (leb p (due j k)))
