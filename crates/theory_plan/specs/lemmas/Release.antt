-- Lemmas. Rule 6 allows a chunk in slot t exactly if its release is at most t: with it begun, those
-- of the kept chunks up to it that are due after t are at most H. The chunks begun stand in a list,
-- the last begun first. Sections 2 and 3 of the argument.
use Prim.Native.Nat.compare
use Rattle.std.specs.Prelude.{ℕ, zero, suc, ◌+◌, ◌-◌, ◌≤◌, ◌<◌, ◌≡◌, refl, Bool, false, cond, ◌&&◌, ◌||◌, List, [], ◌∷◌, ◌++◌, map, get_or, leb, ltb, eqb}
use Rattle.std.proofs.Common.{sym, ap, ◌∙◌, subst, ⊎_elim, arith, eq-eqb, ne_eqb, le-leb, lt-ltb, le-ltb, ltb→lt, nltb→le, eqb→eq}
use Rattle.std.proofs.Math.Path.{fun_ext}
use Rattle.std.proofs.Math.Bool.{or_self_left}
use Rattle.std.proofs.lemmas.Bool.{lt-leb}
use Rattle.theory_basics.specs.Sums.{count, pre}
use Rattle.theory_basics.specs.lemmas.Ranges.{pre_add, count_none, point, point_in}
use Rattle.theory_basics.specs.Tests.{All}
use Rattle.theory_basics.specs.lemmas.Tests.{test, not_T_false}
use Rattle.job.specs.Job.{Job, chunks, due, held_most, size}
use Rattle.theory_plan.specs.lemmas.Fill.{QueuedPiece}
use Rattle.theory_plan.specs.lemmas.Queue.{ones, pieces, queue, releases}
use Rattle.theory_basics.specs.Lists.{has}
use Rattle.theory_plan.specs.lemmas.Words.{due_mono}
use Rattle.theory_plan.specs.Bases.{Asc}

-- Descending, below hi.
abbrev Desc : ℕ → List ℕ → Type 0
Desc hi [] = Unit {0}
Desc hi (k ∷ ks) = (1 ≤ k) × (k < hi) × Desc k ks

desc_raise : (lo hi : ℕ) (ks : List ℕ) → lo ≤ hi → Desc lo ks → Desc hi ks
desc_raise lo hi [] h a = tt
desc_raise lo hi (k ∷ ks) h a = (a.0, omega arith, a.2)

desc_lacks : (hi i : ℕ) (ks : List ℕ) → hi ≤ i → Desc hi ks → has ks i ≡ false
desc_lacks hi i [] h a = refl
desc_lacks hi i (k ∷ ks) h a = rw (ne_eqb k i (omega arith), desc_lacks k i ks (omega arith) a.2)

-- ---- how many of a list pass

abbrev passing : (ℕ → Bool) → List ℕ → ℕ
passing p [] = 0
passing p (k ∷ ks) = cond (p k) 1 0 + passing p ks

-- Of the numbers 1 to c, those of a descending list that pass.
count_has : (p : ℕ → Bool) (hi c : ℕ) (ks : List ℕ) → hi ≤ suc c → Desc hi ks → count (λ i. has ks i && p i) c ≡ passing p ks
count_has p hi c [] h a = count_none (λ i. false) c (λ i u v. tt)
count_has p hi c (k ∷ ks) h a =
    let x : ℕ = cond (p k) 1 0 in
    ap (λ (f : ℕ → ℕ). pre f c) (fun_ext (λ i. at i))
    ∙ pre_add (point k x) (λ i. cond (has ks i && p i) 1 0) c
    ∙ omega (arith, point_in k x c a.0 (omega arith), count_has p k c ks (omega arith) a.2)
  where
    at : (i : ℕ) → cond (has (k ∷ ks) i && p i) 1 0 ≡ point k (cond (p k) 1 0) i + cond (has ks i && p i) 1 0
    at i =
        ⊎_elim
        (λ t. let e = eqb→eq k i t in rw (eq-eqb k i e, e, desc_lacks k i ks (omega arith) a.2) (omega arith))
        (λ t. rw (not_T_false (eqb k i) t) (omega arith))
        (test (eqb k i))

-- ---- the release of the chunk begun last

-- Where h chunks may be held: the due slot of the chunk begun h before it, or 1.
abbrev release_of : (ℕ → ℕ) → ℕ → List ℕ → ℕ
release_of d h ks = get_or (map d ks) h 1

module _ (d : ℕ → ℕ) (d-mono : (x y : ℕ) → x ≤ y → d x ≤ d y) (t : ℕ) where
  abbrev late : ℕ → Bool
  late i = ltb t (d i)

  none_late : (hi : ℕ) (ks : List ℕ) → Desc hi ks → d hi ≤ t → passing late ks ≡ 0
  none_late hi [] a h = refl
  none_late hi (k ∷ ks) a h =
      let e = d-mono k hi (omega arith) in rw (le-ltb t (d k) (omega arith)) (omega (arith, none_late k ks a.2 (omega arith)))

  release_early : (hi h : ℕ) (ks : List ℕ) → 1 ≤ t → Desc hi ks → d hi ≤ t → release_of d h ks ≤ t
  release_early hi h [] u a m = omega arith
  release_early hi zero (k ∷ ks) u a m = omega (arith, d-mono k hi (omega arith))
  release_early hi (suc h) (k ∷ ks) u a m = release_early k h ks u a.2 (omega (arith, d-mono k hi (omega arith)))

  -- At most h of them are due after t exactly if the release of the last is at most t.
  few_late : (hi h : ℕ) (ks : List ℕ) → 1 ≤ t → Desc hi ks → leb (passing late ks) h ≡ leb (release_of d h ks) t
  few_late hi h [] u a = rw (le-leb 0 h (omega arith), le-leb 1 t u)
  few_late hi zero (k ∷ ks) u a =
      ⊎_elim
      (λ v. let l = ltb→lt t (d k) v in rw (lt-ltb t (d k) l, lt-leb (1 + passing late ks) 0 (omega arith), lt-leb (d k) t l))
      (λ v. let m = nltb→le t (d k) v in rw (le-ltb t (d k) m, none_late k ks a.2 m, le-leb (d k) t m))
      (test (ltb t (d k)))
  few_late hi (suc h) (k ∷ ks) u a =
      ⊎_elim
      (λ v.
      let e : 1 + passing late ks ≡ suc (passing late ks) = omega arith in
      rw (lt-ltb t (d k) (ltb→lt t (d k) v), e, compare.suc-suc) (few_late k h ks u a.2))
      (λ v.
      let m = nltb→le t (d k) v in
      rw (le-ltb t (d k) m, none_late k ks a.2 m, le-leb 0 (suc h) (omega arith), le-leb (release_of d h ks) t (release_early k h ks u a.2 m)))
      (test (ltb t (d k)))

-- ---- the releases still to come

-- The releases of the chunks after those begun: of the last h begun their due slots, 1 where fewer
-- have begun, then rs.
abbrev window : (ℕ → ℕ) → ℕ → List ℕ → List ℕ → List ℕ
window d zero ks rs = rs
window d (suc h) [] rs = window d h [] (1 ∷ rs)
window d (suc h) (k ∷ ks) rs = window d h ks (d k ∷ rs)

window_none : (d : ℕ → ℕ) (h : ℕ) (rs : List ℕ) → window d h [] rs ≡ ones h ++ rs
window_none d zero rs = refl
window_none d (suc h) rs = window_none d h (1 ∷ rs) ∙ ones_last h rs
  where
    ones_last : (h : ℕ) (rs : List ℕ) → ones h ++ (1 ∷ rs) ≡ ones (suc h) ++ rs
    ones_last zero rs = refl
    ones_last (suc h) rs = ap (λ (l : List ℕ). 1 ∷ l) (ones_last h rs)

-- The first of them is the release of the chunk begun last.
window_first : (d : ℕ → ℕ) (h : ℕ) (ks rs : List ℕ) → window d (suc h) ks rs ≡ release_of d h ks ∷ window d h ks rs
window_first d zero [] rs = refl
window_first d zero (k ∷ ks) rs = refl
window_first d (suc h) [] rs = window_first d h [] (1 ∷ rs)
window_first d (suc h) (k ∷ ks) rs = window_first d h ks (d k ∷ rs)

-- ---- the queue: each piece's release says when rule 6 allows it

-- With the chunks b begun, at most H are held at the end of slot t exactly if t is r or later.
abbrev pub ReleasedAt : Job → (ℕ → Bool) → ℕ → Type 0
ReleasedAt j b r = (t : ℕ) → 1 ≤ t → leb (count (λ i. b i && ltb t (due j i)) (chunks j)) (held_most j) ≡ leb r t

-- The chunks b and chunk k.
abbrev pub with : ℕ → (ℕ → Bool) → ℕ → Bool
with k b i = eqb k i || b i

pub with_twice : (k : ℕ) (b : ℕ → Bool) → with k (with k b) ≡ with k b
with_twice k b = fun_ext (λ i. or_self_left (eqb k i) (b i))

-- Where the chunks b have begun: each piece of the queue has the release of its chunk, those before
-- it begun.
abbrev pub Fair : Job → (ℕ → Bool) → List QueuedPiece → Type 0
Fair j b [] = Unit {0}
Fair j b (p ∷ ps) = ReleasedAt j (with p.chunk b) p.ready × Fair j (with p.chunk b) ps

fair_pieces :
    (j : Job) (size : ℕ → ℕ → ℕ) (k r m n : ℕ) (b : ℕ → Bool) (q : List QueuedPiece) → ReleasedAt j (with k b) r → Fair j (with k b) q →
    Fair j b (pieces size k r m (suc n) ++ q)
fair_pieces j size k r m zero b q u v = (u, v)
fair_pieces j size k r m (suc n) b q u v = (
  u,
  fair_pieces j size k r (suc m) n (with k b) q (subst (λ (s : ℕ → Bool). ReleasedAt j s r) (sym (with_twice k b)) u) (subst (λ (s : ℕ → Bool). Fair j s q) (sym (with_twice k b)) v),
)

released :
    (j : Job) (k : ℕ) (ks : List ℕ) → Desc (suc k) (k ∷ ks) → k ≤ chunks j →
    ReleasedAt j (has (k ∷ ks)) (release_of (due j) (held_most j) (k ∷ ks))
released j k ks a h t u =
    ap (λ (n : ℕ). leb n (held_most j)) (count_has (λ i. ltb t (due j i)) (suc k) (chunks j) (k ∷ ks) (omega arith) a)
    ∙ few_late (due j) (due_mono j) t (suc k) (held_most j) (k ∷ ks) u a

-- bs have begun, ks are still to come.
fair_rest :
    (j : Job) (lv : ℕ → ℕ) (size : ℕ → ℕ → ℕ) (lo : ℕ) (bs ks : List ℕ) → 1 ≤ lo → Desc lo bs → Asc lo (chunks j) ks →
    All (λ k. 1 ≤ lv k) ks → Fair j (has bs) (queue size lv ks (window (due j) (held_most j) bs (map (due j) ks)))
fair_rest j lv size lo bs [] h a s e = tt
fair_rest j lv size lo bs (k ∷ ks) h a s e =
    let below : Desc (suc k) (k ∷ bs) = (omega arith, omega arith, desc_raise lo k bs s.0 a) in
    let r = release_of (due j) (held_most j) (k ∷ bs) in
    let q = queue size lv ks (window (due j) (held_most j) (k ∷ bs) (map (due j) ks)) in
    let f = fair_rest j lv size (suc k) (k ∷ bs) ks (omega arith) below s.2 e.1 in
    let n : suc (lv k - 1) ≡ lv k = omega (arith, e.0) in
    subst
    (λ (rs : List ℕ). Fair j (has bs) (queue size lv (k ∷ ks) rs))
    (sym (window_first (due j) (held_most j) (k ∷ bs) (map (due j) ks)))
    (subst (λ (m : ℕ). Fair j (has bs) (pieces size k r 0 m ++ q)) n (fair_pieces j size k r 0 (lv k - 1) (has bs) q (released j k bs below s.1) f))

pub fair_queue :
    (j : Job) (lv : ℕ → ℕ) (ks : List ℕ) → Asc 1 (chunks j) ks → All (λ k. 1 ≤ lv k) ks →
    Fair j (λ i. false) (queue (size j) lv ks (releases (due j) (held_most j) ks))
fair_queue j lv ks s e =
    subst
    (λ (rs : List ℕ). Fair j (λ i. false) (queue (size j) lv ks rs))
    (window_none (due j) (held_most j) (map (due j) ks))
    (fair_rest j lv (size j) 1 [] ks (omega arith) tt s e)
