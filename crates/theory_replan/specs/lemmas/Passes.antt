-- Lemmas. The base passes as the code makes them: the stack of needs over the chunks that play
-- after all begun ones, and then the begun ones from the last to the first; and that they keep the
-- chunks of the plan made afresh and hand on its need.
use Rattle.std.specs.Prelude.{ℕ, zero, suc, ◌+◌, ◌-◌, ◌≤◌, ◌<◌, max, min, ◌≡◌, refl, Bool, true, false, not, cond, ◌&&◌, List, [], ◌∷◌, ◌++◌, ◌⊎◌, ◌↔◌, drop, get_or, length, T, leb, eqb}
use Rattle.std.proofs.Common.{sym, ap, ◌∙◌, subst, append-nil, inl, inr, ⊎_elim, arith, le-leb, leb→le, le→leb, eqb→eq}
use Rattle.std.proofs.Math.Dec.{nleb→lt}
use Rattle.theory_basics.specs.Sums.{sum}
use Rattle.theory_basics.specs.Tests.{All}
use Rattle.theory_basics.specs.lemmas.Tests.{all_map, and_T, at_row, by_cond, not_T_false, same_test, T_and, T_or_iff, T_true, test}
use Rattle.job.specs.Job.{chunks, due, held_most, Job, layers, size}
use Rattle.fetch.specs.Rows.{bytes_of_layer, Row}
use Rattle.theory_plan.specs.Plan.{picked}
use Rattle.theory_plan.specs.lemmas.Feasible.{need_of}
use Rattle.theory_plan.specs.lemmas.Count.{some_row}
use Rattle.theory_plan.specs.lemmas.Kept.{picked_cong, picked_each}
use Rattle.theory_plan.specs.lemmas.Level.{level}
use Rattle.theory_plan.specs.lemmas.Linear.{needs_at, needs_of_lem}
use Rattle.theory_plan.specs.lemmas.Trials.{candidate, keeps, Stack}
use Rattle.theory_plan.specs.lemmas.Words.{carries, Sized}
use Rattle.theory_replan.specs.Plan.{after_from, busy, tried_from}
use Rattle.theory_replan.specs.Statement.{Acceptable}
use Rattle.theory_replan.specs.lemmas.Base.{after_bases, base_begun, base_new, need_cong, no_base, no_bytes, picked_split, whole_left}
use Rattle.theory_replan.specs.lemmas.Criterion.{FrontOk}
use Rattle.theory_replan.specs.lemmas.Fits.{FitsFrom}

-- Up to the last begun chunk only begun ones are busy.
pub busy_begun :
    (j : Job) (p : ℕ) (fetched : List Row) (plan : ℕ → ℕ) → FitsFrom j p fetched plan → (last : ℕ) → (last ≡ 0) ⊎ T (carries fetched last) →
    last ≤ chunks j → (i : ℕ) → 1 ≤ i → i ≤ last → busy fetched plan i && leb p (due j i) ≡ carries fetched i && leb p (due j i)
busy_begun j p fetched plan fits last top in_job i u v =
    ap (λ (b : Bool). b && leb p (due j i))
    (same_test (busy fetched plan i) (carries fetched i)
    (λ t.
    ⊎_elim
    (λ x. x)
    (λ x.
    ⊎_elim
    (λ w. w)
    (λ w.
    absurd
    (⊎_elim
    (λ z. omega arith)
    (λ z. let y = some_row (λ y. eqb y.chunk last) fetched z in omega (arith, at_row (λ x. x.chunk < i) y.1 w, eqb→eq y.0.chunk last y.2))
    top))
    (fits.in_front_lem i u (omega arith) (leb→le 1 (plan i) x)))
    ((T_or_iff (carries fetched i) (leb 1 (plan i))).0 t))
    (λ t. (T_or_iff (carries fetched i) (leb 1 (plan i))).1 (inl t)))

-- ---- the passes

-- What the begun chunks bs ask of the needs ns of those behind them.
abbrev pub front_ok : (d A : ℕ → ℕ) (h : ℕ) → List ℕ → List ℕ → Bool
front_ok d A h [] ns = true
front_ok d A h (b ∷ bs) ns = leb (get_or ns (h - length (b ∷ bs)) 0) (A (d b - 1)) && front_ok d A h bs ns

-- A chunk that is not begun, in front of the kept ones. s: the base's bytes; d: due slot; A: what
-- is forecast after a slot.
module _ (s d A : ℕ → ℕ) (p h : ℕ) (bs : List ℕ) where
  abbrev pub keeps_new : List ℕ → ℕ → Bool
  keeps_new ns i = leb p (d i) && (keeps s d A h ns i && front_ok d A h bs (candidate s d A ns i ∷ ns))

  abbrev pub push_new : Stack → ℕ → Stack
  push_new o i = cond (keeps_new o.needs i) (record { needs = candidate s d A o.needs i ∷ o.needs; chunks = i ∷ o.chunks }) o

  -- The chunks lo + m down to lo + 1.
  abbrev pub bases_new : ℕ → ℕ → Stack
  bases_new lo zero = record { needs = []; chunks = [] }
  bases_new lo (suc m) = push_new (bases_new (suc lo) m) (suc lo)

-- The begun chunks: what those settled so far use up, and which of them keep their base.
pub record Begun : Type 0 where
  pub need : ℕ
  pub kept : List ℕ

-- whole: the base is whole before p; s: what is left of it; cap: what is forecast from p on.
module _ (s d A : ℕ → ℕ) (whole : ℕ → Bool) (cap : ℕ) where
  abbrev pub try_begun : ℕ → Begun → Begun
  try_begun b o =
      let want : ℕ = max (A (d b)) o.need in
      cond (whole b) (record { need = want; kept = b ∷ o.kept })
      (cond (leb (s b + want) cap) (record { need = s b + want; kept = b ∷ o.kept }) (record { need = want; kept = o.kept }))

  -- From the last to the first, behind them a need of n.
  abbrev pub bases_begun : ℕ → List ℕ → Begun
  bases_begun n [] = record { need = n; kept = [] }
  bases_begun n (b ∷ bs) = try_begun b (bases_begun n bs)

-- ---- what they keep

front_iff : (d A : ℕ → ℕ) (h : ℕ) (bs ns : List ℕ) → T (front_ok d A h bs ns) ↔ FrontOk d A h bs ns
front_iff d A h [] ns = (λ t. tt, λ t. tt)
front_iff d A h (b ∷ bs) ns =
    let r = front_iff d A h bs ns in
    let x = get_or ns (h - length (b ∷ bs)) 0 in (
      λ t. let u = and_T (leb x (A (d b - 1))) (front_ok d A h bs ns) t in (leb→le x (A (d b - 1)) u.0, r.0 u.1),
      λ u. T_and (leb x (A (d b - 1))) (front_ok d A h bs ns) (le→leb x (A (d b - 1)) u.0) (r.1 u.1),
    )

picked_none : (f : ℕ → Bool) (lo n : ℕ) → ((k : ℕ) → lo < k → k ≤ n + lo → T (f k) → ⊥) → picked f lo n ≡ []
picked_none f lo zero g = refl
picked_none f lo (suc n) g =
    by_cond (λ (l : List ℕ). l ≡ []) (f (suc lo)) {x = suc lo ∷ picked f (suc lo) n} {y = picked f (suc lo) n}
    (λ t. absurd (g (suc lo) (omega arith) (omega arith) t))
    (λ t. picked_none f (suc lo) n (λ k u v. g k (omega arith) (omega arith)))

module _
    (j : Job) (sized : Sized j) (p : ℕ) (fetched : List Row) (ok : Acceptable j p fetched) (some : 0 < layers j) (q : ℕ → ℕ)
    (fq : FitsFrom j p fetched q)
    (accepts :
    (i : ℕ) → 1 ≤ i → i ≤ chunks j →
    (0 < q i) ↔ ((0 < level j fetched i) ⊎ ((p ≤ due j i) × (0 ≤ q i) × FitsFrom j p fetched (tried_from j fetched q 0 i))))
    (last : ℕ) (behind : All (λ x. x.chunk ≤ last) fetched) where
  abbrev A : ℕ → ℕ
  A = after_from j p

  abbrev H : ℕ
  H = held_most j

  abbrev one : ℕ → ℕ
  one k = size j k 0

  abbrev kept_chunk : ℕ → Bool
  kept_chunk i = leb 1 (q i)

  abbrev is_begun : ℕ → Bool
  is_begun i = carries fetched i && leb p (due j i)

  -- The begun chunks due from p on.
  abbrev bs : List ℕ
  bs = picked is_begun 0 (chunks j)

  new_from : (i : ℕ) → last < i → All (λ x. x.chunk < i) fetched
  new_from i h = all_map (λ x. x.chunk ≤ last) (λ x. x.chunk < i) fetched (λ x u. omega arith) behind

  none_begun : (k : ℕ) → last < k → T (is_begun k) → ⊥
  none_begun k h t =
      let x = some_row (λ y. eqb y.chunk k) fetched (and_T (carries fetched k) (leb p (due j k)) t).0 in
      omega (arith, at_row (λ x. x.chunk ≤ last) x.1 behind, eqb→eq x.0.chunk k x.2)

  front_all : (i m : ℕ) → last < i → i + m ≡ chunks j → picked is_begun 0 (i - 1) ≡ bs
  front_all i m h all =
      let e : chunks j ≡ (i - 1) + suc m = omega arith in
      let o : (i - 1) + 0 ≡ i - 1 = omega arith in
      sym
      (ap (picked is_begun 0) e ∙ picked_split is_begun 0 (i - 1) (suc m)
      ∙ ap (λ (x : ℕ). picked is_begun 0 (i - 1) ++ picked is_begun x (suc m)) o
      ∙ ap (λ (l : List ℕ). picked is_begun 0 (i - 1) ++ l) (picked_none is_begun (i - 1) (suc m) (λ k u v. none_begun k (omega arith)))
      ∙ append-nil (picked is_begun 0 (i - 1)))

  abbrev needed : List ℕ → List ℕ
  needed = needs_of_lem one (due j) A

  keeps_new_iff :
      (i m : ℕ) → last < i → i + m ≡ chunks j → 1 ≤ i →
      T (keeps_new one (due j) A p H bs (needed (picked kept_chunk i m)) i) ↔ T (kept_chunk i)
  keeps_new_iff i m h all lo =
      let ks = picked kept_chunk i m in
      let ns = needed ks in
      let c : candidate one (due j) A ns i ≡ need_of one (due j) A (i ∷ ks) = omega (arith, needs_at one (due j) A ks 0) in
      let d : get_or (candidate one (due j) A ns i ∷ ns) H 0 ≡ need_of one (due j) A (drop H (i ∷ ks)) = rw c (needs_at one (due j) A (i ∷ ks) H) in
      let new = new_from i h in
      let f = front_iff (due j) A H bs (candidate one (due j) A ns i ∷ ns) in
      let k1 = leb (candidate one (due j) A ns i) (A 0) in
      let k2 = leb (get_or (candidate one (due j) A ns i ∷ ns) H 0) (A (due j i - 1)) in
      let fo = front_ok (due j) A H bs (candidate one (due j) A ns i ∷ ns) in
      let ns-are : candidate one (due j) A ns i ∷ ns ≡ needed (i ∷ ks) = ap (λ (x : ℕ). x ∷ ns) c in
      let bs-are = front_all i m h all in
      let front_same : FrontOk (due j) A H bs (candidate one (due j) A ns i ∷ ns) ≡ FrontOk (due j) A H (picked is_begun 0 (i - 1)) (needed (i ∷ ks)) =
      ap (FrontOk (due j) A H bs) ns-are ∙ ap (λ (l : List ℕ). FrontOk (due j) A H l (needed (i ∷ ks))) (sym bs-are) in (
        λ t.
            let u = and_T (leb p (due j i)) ((k1 && k2) && fo) t in
            let v = and_T (k1 && k2) fo u.1 in
            let w = and_T k1 k2 v.0 in
            (base_new j sized p fetched ok some q fq accepts i lo new m all (leb→le p (due j i) u.0)).1 (
              omega (arith, leb→le (candidate one (due j) A ns i) (A 0) w.0, c),
              omega (arith, leb→le (get_or (candidate one (due j) A ns i ∷ ns) H 0) (A (due j i - 1)) w.1, d),
              subst (λ (X : Type 0). X) front_same (f.0 v.1),
            ),
        λ t.
            let pos = leb→le 1 (q i) t in
            ⊎_elim
            (λ u. absurd (omega (arith, u, no_base j sized p fetched ok some q fq accepts i lo new i (omega arith) (omega arith))))
            (λ u.
            let x = (base_new j sized p fetched ok some q fq accepts i lo new m all u.0).0 t in
            T_and (leb p (due j i)) ((k1 && k2) && fo) (le→leb p (due j i) u.0)
            (T_and (k1 && k2) fo
            (T_and k1 k2 (le→leb (candidate one (due j) A ns i) (A 0) (omega (arith, x.0, c))) (le→leb (get_or (candidate one (due j) A ns i ∷ ns) H 0) (A (due j i - 1)) (omega (arith, x.1, d))))
            (f.1 (subst (λ (X : Type 0). X) (sym front_same) x.2))))
            ((accepts i lo (omega arith)).0 pos),
      )

  abbrev exact : List ℕ → Stack
  exact ks = record { needs = needed ks; chunks = ks }

  pushed : (i : ℕ) (ks : List ℕ) (b : Bool) → cond b (record { needs = candidate one (due j) A (needed ks) i ∷ needed ks; chunks = i ∷ ks }) (exact ks) ≡ exact (cond b (i ∷ ks) ks)
  pushed i ks true =
      let c : candidate one (due j) A (needed ks) i ≡ need_of one (due j) A (i ∷ ks) = omega (arith, needs_at one (due j) A ks 0) in
      ap (λ (n : ℕ). record { needs = n ∷ needed ks; chunks = i ∷ ks }) c
  pushed i ks false = refl

  -- The scan keeps the plan's chunks that play after all begun ones.
  pub bases_new_are : (lo m : ℕ) → last ≤ lo → lo + m ≡ chunks j → bases_new one (due j) A p H bs lo m ≡ exact (picked kept_chunk lo m)
  bases_new_are lo zero h all = refl
  bases_new_are lo (suc m) h all =
      let i = suc lo in
      let ks = picked kept_chunk i m in
      let iff = keeps_new_iff i m (omega arith) (omega arith) (omega arith) in
      let k = same_test (keeps_new one (due j) A p H bs (needed ks) i) (kept_chunk i) iff.0 iff.1 in
      ap (λ (s : Stack). push_new one (due j) A p H bs s i) (bases_new_are i m (omega arith) (omega arith)) ∙ rw k (pushed i ks (kept_chunk i))

  -- ---- the begun chunks

  module _ (in_job : last ≤ chunks j) (top : (last ≡ 0) ⊎ T (carries fetched last)) where
    abbrev rest : ℕ → ℕ
    rest b = size j b 0 - bytes_of_layer fetched b 0

    abbrev base : ℕ → ℕ
    base k = level j fetched k

    abbrev member : ℕ → Bool
    member k = busy fetched q k && leb p (due j k)

    abbrev settled_bytes : ℕ → ℕ
    settled_bytes k = after_bases j sized p fetched ok some q fq accepts k

    -- What is to be had of the chunks from lo + 1 on.
    abbrev done : ℕ → ℕ → Begun
    done lo n = record { need = need_of settled_bytes (due j) A (picked member lo (chunks j - lo)); kept = picked (λ i. is_begun i && kept_chunk i) lo n }

    abbrev scan_begun : List ℕ → Begun
    scan_begun l = bases_begun rest (due j) A (λ b. leb 1 (base b)) (A 0) (need_of settled_bytes (due j) A (picked member last (chunks j - last))) l

    bytes_kept_lem : (i : ℕ) → base i ≡ 0 → 1 ≤ q i → settled_bytes i ≡ rest i
    bytes_kept_lem i lacks h =
        let e : max (base i) (min (q i) 1) ≡ 1 = omega arith in
        let z : sum (λ n. size j i n - bytes_of_layer fetched i n) 1 ≡ rest i = omega arith in
        ap (sum (λ n. size j i n - bytes_of_layer fetched i n)) e ∙ z

    bytes_skipped : (i : ℕ) → base i ≡ 0 → q i < 1 → settled_bytes i ≡ 0
    bytes_skipped i lacks h = let e : max (base i) (min (q i) 1) ≡ 0 = omega arith in ap (sum (λ n. size j i n - bytes_of_layer fetched i n)) e

    by_kept :
        (b : Bool) (r w s i : ℕ) (l : List ℕ) → (T b → s ≡ r) → (T (not b) → s ≡ 0) →
        ◌≡◌ {A = Begun} (cond b (record { need = r + w; kept = i ∷ l }) (record { need = w; kept = l })) (record { need = s + w; kept = cond b (i ∷ l) l })
    by_kept true r w s i l f g = let e : r + w ≡ s + w = omega (arith, f tt) in ap (λ (c : ℕ). record { need = c; kept = i ∷ l }) e
    by_kept false r w s i l f g = let e : w ≡ s + w = omega (arith, g tt) in ap (λ (c : ℕ). record { need = c; kept = l }) e

    one_begun :
        (i n : ℕ) → 1 ≤ i → i ≤ last → T (is_begun i) →
        try_begun rest (due j) A (λ b. leb 1 (base b)) (A 0) i (done i n) ≡
        record { need = need_of settled_bytes (due j) A (i ∷ picked member i (chunks j - i)); kept = cond (kept_chunk i) (i ∷ picked (λ i. is_begun i && kept_chunk i) i n) (picked (λ i. is_begun i && kept_chunk i) i n) }
    one_begun i n u v b =
        let hi : i ≤ chunks j = omega arith in
        let x = and_T (carries fetched i) (leb p (due j i)) b in
        let low = fq.whole i u hi in
        ⊎_elim
        (λ t.
        let l = leb→le 1 (base i) t in
        let e : max (base i) (min (q i) 1) ≡ base i = omega arith in
        let z : settled_bytes i ≡ 0 = ap (sum (λ n. size j i n - bytes_of_layer fetched i n)) e ∙ whole_left j sized p fetched ok some q fq accepts i u hi in
        let o : (c : ℕ) → c ≡ settled_bytes i + c = λ c. omega (arith, z) in
        rw (T_true (leb 1 (base i)) t, le-leb 1 (q i) (omega arith)) (ap (λ (c : ℕ). record { need = c; kept = i ∷ picked (λ i. is_begun i && kept_chunk i) i n }) (o (max (A (due j i)) (need_of settled_bytes (due j) A (picked member i (chunks j - i)))))))
        (λ t.
        let lacks : base i ≡ 0 = omega (arith, nleb→lt 1 (base i) t) in
        let r = base_begun j sized p fetched ok some q fq accepts i (chunks j - i) (omega arith) u (leb→le p (due j i) x.1) lacks x.0 in
        let want : ℕ = max (A (due j i)) (need_of settled_bytes (due j) A (picked member i (chunks j - i))) in
        let same : leb (rest i + want) (A 0) ≡ kept_chunk i = same_test (leb (rest i + want) (A 0)) (kept_chunk i) (λ y. r.1 (leb→le (rest i + want) (A 0) y)) (λ y. le→leb (rest i + want) (A 0) (r.0 y)) in
        rw (not_T_false (leb 1 (base i)) t, same) (by_kept (kept_chunk i) (rest i) want (settled_bytes i) i (picked (λ i. is_begun i && kept_chunk i) i n) (λ y. bytes_kept_lem i lacks (leb→le 1 (q i) y)) (λ y. bytes_skipped i lacks (nleb→lt 1 (q i) y))))
        (test (leb 1 (base i)))

    -- The scan keeps the plan's begun chunks and hands on what all busy chunks use up.
    pub bases_begun_are : (n lo : ℕ) → lo + n ≡ last → scan_begun (picked is_begun lo n) ≡ done lo n
    bases_begun_are zero lo e = let d : last ≡ lo = omega arith in ap (λ (x : ℕ). record { need = need_of settled_bytes (due j) A (picked member x (chunks j - x)); kept = [] }) d
    bases_begun_are (suc n) lo e =
        let i = suc lo in
        let next = bases_begun_are n i (omega arith) in
        let c : chunks j - lo ≡ suc (chunks j - i) = omega arith in
        let m = busy_begun j p fetched q fq last top in_job i (omega arith) (omega arith) in
        ⊎_elim
        (λ t.
        rw (c, m, T_true (is_begun i) t) (ap (try_begun rest (due j) A (λ b. leb 1 (base b)) (A 0) i) next ∙ one_begun i n (omega arith) (omega arith) t))
        (λ t. rw (c, m, not_T_false (is_begun i) t) next)
        (test (is_begun i))

    -- What the new chunks use up is the top of the stack.
    pub new_need : (m : ℕ) → last + m ≡ chunks j → need_of settled_bytes (due j) A (picked member last m) ≡ need_of one (due j) A (picked kept_chunk last m)
    new_need m all =
        let list : picked member last m ≡ picked kept_chunk last m =
        picked_cong member kept_chunk last m (λ k u v.
        same_test (member k) (kept_chunk k)
        (λ t. ⊎_elim (λ x. absurd (none_begun k u (T_and (carries fetched k) (leb p (due j k)) x (and_T (busy fetched q k) (leb p (due j k)) t).1))) (λ x. x) ((T_or_iff (carries fetched k) (leb 1 (q k))).0 (and_T (busy fetched q k) (leb p (due j k)) t).0))
        (λ t.
        ⊎_elim
        (λ x. absurd (omega (arith, x, no_base j sized p fetched ok some q fq accepts k (omega arith) (new_from k u) k (omega arith) (omega arith))))
        (λ x. T_and (busy fetched q k) (leb p (due j k)) ((T_or_iff (carries fetched k) (leb 1 (q k))).1 (inr t)) (le→leb p (due j k) x.0))
        ((accepts k (omega arith) (omega arith)).0 (leb→le 1 (q k) t)))) in
        ap (need_of settled_bytes (due j) A) list
        ∙ need_cong settled_bytes one (due j) A (picked kept_chunk last m) (picked_each kept_chunk (λ k. settled_bytes k ≡ one k) last m (λ k u v t.
        bytes_kept_lem k (no_base j sized p fetched ok some q fq accepts k (omega arith) (new_from k u) k (omega arith) (omega arith)) (leb→le 1 (q k) t)
        ∙ no_bytes j sized p fetched ok some q fq accepts k (omega arith) (new_from k u) k (omega arith)))
