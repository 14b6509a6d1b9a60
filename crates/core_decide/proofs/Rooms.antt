-- Laws on the releases and the rooms of the kept chunks, from the first to the last. Assumes
-- nothing.
use mathlib.Core.Path.{◌≡◌, refl, sym, ◌∙◌, ap}
use mathlib.Core.List.{List, [], ◌∷◌, ◌++◌}
use Prim.Native.Nat.{ℕ, suc, ◌+◌, ◌-◌, ◌≤◌, ◌<◌, min}
use native.Mathlib.Omega.{arith}
use lib.ListN.{length, get_or, set, take, drop, length-set, length-append, length-take, length-drop, length-replicate}
use lib.Seq.{ext_get_or, drop-drop, get_or-drop, get_or-take}
use Rattle.theory_plan.specs.lemmas.Trials.{rooms}
use Rattle.theory_basics.specs.lemmas.Tables.{drop_next, at_set, below_next}
use Rattle.theory_plan.specs.lemmas.Queue.{ones, ones_at, behind_ones}

-- ---- releases

pub record Releasing (held first : ℕ) (dues ready : List ℕ) (q : ℕ) : Type 0 where
  pub from : first ≤ q
  pub to : q ≤ 500
  pub long : length ready ≡ 500
  pub done : (k : ℕ) → first ≤ k → k < q → get_or ready k 0 ≡ get_or (ones held ++ drop first dues) (k - first) 0

module _ (held first : ℕ) (dues : List ℕ) where
  pub releasing_start : (ready : List ℕ) → first ≤ 500 → length ready ≡ 500 → Releasing held first dues ready first
  releasing_start ready h e = record { from = omega arith; to = h; long = e; done = λ k u v. absurd (omega arith) }

  module _ (ready : List ℕ) (q : ℕ) (s : Releasing held first dues ready q) (h : q < 500) where
    more : (v : ℕ) → v ≡ get_or (ones held ++ drop first dues) (q - first) 0 → Releasing held first dues (set ready q v) (q + 1)
    more v e =
        record {
          from = omega (arith, s.from);
          to = omega arith;
          long = simp length-set s.long;
          done = λ k u w.
              at_set (λ x. x ≡ get_or (ones held ++ drop first dues) (k - first) 0) ready q v k (omega (arith, s.long))
              (λ g. rw g e)
              (λ o. s.done k u (below_next k q w o));
        }

    pub releasing_one : q - first < held → Releasing held first dues (set ready q 1) (q + 1)
    releasing_one u = more 1 (sym (ones_at held (drop first dues) (q - first) u))

    pub releasing_due : held ≤ q - first → Releasing held first dues (set ready q (get_or dues (q - held) 0)) (q + 1)
    releasing_due u =
        let e : first + (q - first - held) ≡ q - held = omega (arith, s.from) in
        more (get_or dues (q - held) 0) (sym (behind_ones held (drop first dues) (q - first) u ∙ get_or-drop first dues (q - first - held) 0 ∙ rw e))

  pub releasing_end : (ready : List ℕ) (q : ℕ) → Releasing held first dues ready q → 500 ≤ q → first ≤ 500 → length dues ≡ 500 → drop first ready ≡ take (500 - first) (ones held ++ drop first dues)
  releasing_end ready q s h k e =
      let n : length (take (500 - first) (ones held ++ drop first dues)) ≡ 500 - first = simp (length-take, length-append, length-drop) (omega (arith, length-replicate {A = ℕ} held 1)) in
      ext_get_or 0 _ _ (omega (arith, length-drop first ready, s.long, n)) (λ i w.
      let g : first + i - first ≡ i = omega arith in
      get_or-drop first ready i 0 ∙ s.done (first + i) (omega arith) (omega (arith, length-drop first ready, s.long)) ∙ rw g (sym (get_or-take (500 - first) (ones held ++ drop first dues) i 0 (omega (arith, length-drop first ready, s.long)))))

-- ---- rooms

rooms_long : (A : ℕ → ℕ) (room : ℕ) (ws rs : List ℕ) → length ws ≡ length rs → length (rooms A room ws rs) ≡ length ws
rooms_long A room [] rs e = refl
rooms_long A room (w ∷ ws) [] e = absurd (omega arith)
rooms_long A room (w ∷ ws) (r ∷ rs) e = ap suc (rooms_long A (min room (A (r - 1)) - w) ws rs (omega arith))

pub record Rooming (A : ℕ → ℕ) (all first : ℕ) (bytes ready room : List ℕ) (left q : ℕ) : Type 0 where
  pub from : first ≤ q
  pub to : q ≤ 500
  pub long : length room ≡ 500
  pub rest : drop (q - first) (rooms A all (drop first bytes) (drop first ready)) ≡ rooms A left (drop q bytes) (drop q ready)
  pub done : (k : ℕ) → first ≤ k → k < q → get_or room k 0 ≡ get_or (rooms A all (drop first bytes) (drop first ready)) (k - first) 0

module _ (A : ℕ → ℕ) (all first : ℕ) (bytes ready : List ℕ) (lb : length bytes ≡ 500) (lr : length ready ≡ 500) where
  abbrev whole : List ℕ
  whole = rooms A all (drop first bytes) (drop first ready)

  pub rooming_start : (room : List ℕ) → first ≤ 500 → length room ≡ 500 → Rooming A all first bytes ready room all first
  rooming_start room h e =
      let z : first - first ≡ 0 = omega arith in
      record { from = omega arith; to = h; long = e; rest = rw z; done = λ k u v. absurd (omega arith) }

  module _ (room : List ℕ) (left q : ℕ) (s : Rooming A all first bytes ready room left q) (h : q < 500) where
    abbrev here : ℕ
    here = min left (A (get_or ready q 0 - 1))

    opened : drop (q - first) whole ≡ here ∷ rooms A (here - get_or bytes q 0) (drop (q + 1) bytes) (drop (q + 1) ready)
    opened = s.rest ∙ rw (drop_next bytes q (omega arith), drop_next ready q (omega arith))

    pub rooming_more : Rooming A all first bytes ready (set room q here) (here - get_or bytes q 0) (q + 1)
    rooming_more =
        let e : q + 1 - first ≡ q - first + 1 = omega (arith, s.from) in
        record {
          from = omega (arith, s.from);
          to = omega arith;
          long = simp length-set s.long;
          rest = rw e (sym (drop-drop 1 (q - first) whole) ∙ ap (drop 1) opened);
          done = λ k u v.
              at_set (λ x. x ≡ get_or whole (k - first) 0) room q here k (omega (arith, s.long))
              (λ g. let o : q - first + 0 ≡ q - first = omega arith in rw g (sym (ap (λ (l : List ℕ). get_or l 0 0) opened) ∙ get_or-drop (q - first) whole 0 0 ∙ rw o))
              (λ o. s.done k u (below_next k q v o));
        }

  pub rooming_end : (room : List ℕ) (left q : ℕ) → Rooming A all first bytes ready room left q → 500 ≤ q → first ≤ 500 → drop first room ≡ whole
  rooming_end room left q s h k =
      let same : length (drop first bytes) ≡ length (drop first ready) = omega (arith, length-drop first bytes, length-drop first ready) in
      ext_get_or 0 _ _ (omega (arith, length-drop first room, rooms_long A all (drop first bytes) (drop first ready) same, length-drop first bytes, s.long)) (λ i w.
      let e : first + i - first ≡ i = omega arith in
      get_or-drop first room i 0 ∙ s.done (first + i) (omega arith) (omega (arith, length-drop first room, s.long)) ∙ rw e)
