-- Lemmas. The longest runs of a forecast, from the front, a run at a time. Assumes nothing.
use Rattle.std.specs.Prelude.{ℕ, suc, ◌+◌, ◌-◌, ◌≤◌, ◌<◌, ◌≡◌, refl, Bool, true, false, cond, List, [], ◌∷◌, map, length, get_or, drop, eqb}
use Rattle.std.proofs.Common.{sym, ap, ◌∙◌, arith, add-one, length-drop, drop_of_length-le, drop-cons, drop-drop, T_not, eq-eqb, ne_eqb, eqb-true}
use Rattle.theory_basics.specs.lemmas.Tests.{by_cond, eqb_iff}
use Rattle.jobrecords.specs.Says.{forecast_in}
use Rattle.jobfile.specs.Writer.{Run, in_front, runs, Differ, Longest, run_record}

-- How many slots in front have the bytes x.
abbrev pub lead : ℕ → List ℕ → ℕ
lead x [] = 0
lead x (y ∷ ys) = cond (eqb x y) (suc (lead x ys)) 0

lead_fits : (x : ℕ) (l : List ℕ) → lead x l ≤ length l
lead_fits x [] = omega arith
lead_fits x (y ∷ ys) = by_test (lead_fits x ys) (eqb x y) refl where
  by_test : lead x ys ≤ length ys → (b : Bool) → eqb x y ≡ b → lead x (y ∷ ys) ≤ suc (length ys)
  by_test more true e = rw e (omega arith)
  by_test more false e = rw e (omega arith)

-- The first run has the first slot and those after it with the same bytes.
abbrev pub first_run : ℕ → List ℕ → List Run
first_run x xs = record { count = suc (lead x xs); bytes = x } ∷ runs (drop (lead x xs) xs)

first_run_lem : (x : ℕ) (xs : List ℕ) → runs (x ∷ xs) ≡ first_run x xs
first_run_lem x [] = refl
first_run_lem x (y ∷ ys) = by_test (first_run_lem y ys) (eqb x y) refl where
  by_test : runs (y ∷ ys) ≡ first_run y ys → (b : Bool) → eqb x y ≡ b → runs (x ∷ y ∷ ys) ≡ first_run x (y ∷ ys)
  by_test more true e = let same : y ≡ x = sym (eqb-true x y e) in rw (more, e) (rw same refl)
  by_test more false e = rw (e, more, e) refl

-- The place after the run that starts at a place.
abbrev pub run_end : List ℕ → ℕ → ℕ
run_end f i = i + 1 + lead (get_or f i 0) (drop (i + 1) f)

module _ (f : List ℕ) (i : ℕ) (h : i < length f) where
  pub run_inside : run_end f i ≤ length f
  run_inside = omega (arith, lead_fits (get_or f i 0) (drop (i + 1) f), length-drop (i + 1) f)

  pub run_at : runs (drop i f) ≡ record { count = run_end f i - i; bytes = get_or f i 0 } ∷ runs (drop (run_end f i) f)
  run_at =
      let x = get_or f i 0 in
      let rest : drop (lead x (drop (suc i) f)) (drop (suc i) f) ≡ drop (run_end f i) f = drop-drop (lead x (drop (suc i) f)) (suc i) f ∙ rw (add-one i) in
      let many : suc (lead x (drop (suc i) f)) ≡ run_end f i - i = rw (add-one i) (omega arith) in
      rw (drop-cons f i 0 h) (first_run_lem x (drop (suc i) f) ∙ rw (rest, many))

-- ---- a loop that counts the runs by the slots where the bytes change

same_front : (x y : ℕ) (ys : List ℕ) → eqb x y ≡ true → length (runs (x ∷ y ∷ ys)) ≡ length (runs (y ∷ ys))
same_front x y ys e = rw (first_run_lem y ys, e)

other_front : (x y : ℕ) (ys : List ℕ) → eqb x y ≡ false → length (runs (x ∷ y ∷ ys)) ≡ suc (length (runs (y ∷ ys)))
other_front x y ys e = rw (first_run_lem y ys, e)

module _ (f : List ℕ) (i : ℕ) where
  pub count_last : i + 1 ≡ length f → length (runs (drop i f)) ≡ 1
  count_last h = rw (drop-cons f i 0 (omega arith), drop_of_length-le f {i = suc i} (omega arith))

  module _ (h : i + 1 < length f) where
    two : drop i f ≡ get_or f i 0 ∷ get_or f (i + 1) 0 ∷ drop (suc (i + 1)) f
    two = drop-cons f i 0 (omega arith) ∙ ap (λ (l : List ℕ). get_or f i 0 ∷ l) (rw (← add-one i) (drop-cons f (i + 1) 0 h))

    next : drop (i + 1) f ≡ get_or f (i + 1) 0 ∷ drop (suc (i + 1)) f
    next = drop-cons f (i + 1) 0 h

    pub count_same : get_or f (i + 1) 0 ≡ get_or f i 0 → length (runs (drop i f)) ≡ length (runs (drop (i + 1) f))
    count_same e = rw (two, next) (same_front (get_or f i 0) (get_or f (i + 1) 0) (drop (suc (i + 1)) f) (eq-eqb (get_or f i 0) (get_or f (i + 1) 0) (sym e)))

    pub count_other : (get_or f (i + 1) 0 ≡ get_or f i 0 → ⊥) → length (runs (drop i f)) ≡ suc (length (runs (drop (i + 1) f)))
    count_other n = rw (two, next) (other_front (get_or f i 0) (get_or f (i + 1) 0) (drop (suc (i + 1)) f) (ne_eqb (get_or f i 0) (get_or f (i + 1) 0) (λ e. n (sym e))))

-- ---- a loop that looks for the end of a run

module _ (x : ℕ) (f : List ℕ) (e : ℕ) where
  pub lead_end : length f ≤ e → lead x (drop e f) ≡ 0
  lead_end h = rw (drop_of_length-le f {i = e} h)

  module _ (h : e < length f) where
    pub lead_stop : (get_or f e 0 ≡ x → ⊥) → lead x (drop e f) ≡ 0
    lead_stop n = rw (drop-cons f e 0 h, ne_eqb x (get_or f e 0) (λ y. n (sym y)))

    pub lead_more : get_or f e 0 ≡ x → e + lead x (drop e f) ≡ e + 1 + lead x (drop (e + 1) f)
    lead_more y = rw (drop-cons f e 0 h, eq-eqb x (get_or f e 0) (sym y), add-one) (omega arith)

-- ---- the runs spread out again

spread_front : (x : ℕ) (rs : List Run) → forecast_in (map run_record (in_front x rs)) ≡ x ∷ forecast_in (map run_record rs)
spread_front x [] = refl
spread_front x (r ∷ rs) = by_test (eqb x r.bytes) refl where
  by_test : (b : Bool) → eqb x r.bytes ≡ b → forecast_in (map run_record (in_front x (r ∷ rs))) ≡ x ∷ forecast_in (map run_record (r ∷ rs))
  by_test true e = let same : x ≡ r.bytes = eqb-true x r.bytes e in rw e (rw same refl)
  by_test false e = rw e

pub runs_spread : (l : List ℕ) → forecast_in (map run_record (runs l)) ≡ l
runs_spread [] = refl
runs_spread (x ∷ xs) = spread_front x (runs xs) ∙ ap (λ (l : List ℕ). x ∷ l) (runs_spread xs)

-- ---- no run is empty, and neighbours differ

same_bytes : (r q : Run) (rs : List Run) → r.bytes ≡ q.bytes → Differ (r ∷ rs) → Differ (q ∷ rs)
same_bytes r q [] e d = tt
same_bytes r q (s ∷ rs) e d = ((λ i. d.0 (e ∙ i)), d.1)

front_longest : (x : ℕ) (rs : List Run) → Longest rs → Longest (in_front x rs)
front_longest x [] l = record { some = (omega arith, tt); differ = tt }
front_longest x (r ∷ rs) l =
    by_cond Longest (eqb x r.bytes)
    (λ t. record { some = (omega arith, l.some.1); differ = same_bytes r (record { count = suc r.count; bytes = x }) rs (sym ((eqb_iff x r.bytes).0 t)) l.differ })
    (λ t. record { some = (omega arith, l.some); differ = ((λ e. T_not (eqb x r.bytes) t ((eqb_iff x r.bytes).1 e)), l.differ) })

pub longest_runs : (l : List ℕ) → Longest (runs l)
longest_runs [] = record { some = tt; differ = tt }
longest_runs (x ∷ l) = front_longest x (runs l) (longest_runs l)
