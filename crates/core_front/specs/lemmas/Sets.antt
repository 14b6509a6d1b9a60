-- Lemmas. The sets of a front, 500 places each: how long they are, when two are the same, and how
-- one is copied.
use Rattle.std.specs.Prelude.{ℕ, ◌+◌, ◌*◌, ◌<◌, ◌≤◌, ◌≡◌, List, ◌++◌, ◌⊎◌, ◌-◌, length, get_or, set, take, drop, ltb}
use Rattle.std.proofs.Common.{sym, ap, subst, ◌∙◌, append_assoc, ⊎_elim, inl, inr, arith, length-append, length-drop, length-set, length-take, ltb→lt, nltb→le, ext_get_or, get_or-drop, get_or-set_other, get_or-set_same, get_or-take}
use Rattle.std.proofs.Math.ListN.{get_or-append}
use lib.Seq.{paste, take_all}
use Rattle.std.proofs.lemmas.List.{get_or-append_right}
use Rattle.theory_basics.specs.lemmas.Tests.{test}
use Rattle.core_front.specs.declared.Sets.{Sets}
use Rattle.core_front.specs.lemmas.Tables.{CopySetPost, CopySetPre, Long, MoveSetPost, MoveSetPre, set_at}

pub before_or_at : (p q : ℕ) → p < q + 1 → (p < q) ⊎ (p ≡ q)
before_or_at p q u = ⊎_elim (λ t. inl (ltb→lt p q t)) (λ t. inr (omega (arith, nltb→le p q t))) (test (ltb p q))

-- ---- one set

pub set_long : (sets : Sets) (a : ℕ) → length sets.chunks ≡ 32500 → a < 65 → get_or sets.counts a 0 ≤ 500 → length (set_at sets a) ≡ get_or sets.counts a 0
set_long sets a l h f = omega (arith, length-take (get_or sets.counts a 0) (drop (a * 500) sets.chunks), length-drop (a * 500) sets.chunks)

-- Two that have as many chunks, and the same ones.
pub set_same :
    (sets : Sets) (a : ℕ) (sets' : Sets) (b : ℕ) → length sets.chunks ≡ 32500 → length sets'.chunks ≡ 32500 → a < 65 → b < 65 →
    get_or sets.counts a 0 ≤ 500 → get_or sets'.counts b 0 ≡ get_or sets.counts a 0 →
    ((p : ℕ) → p < get_or sets.counts a 0 → get_or sets'.chunks (b * 500 + p) 0 ≡ get_or sets.chunks (a * 500 + p) 0) → set_at sets' b ≡ set_at sets a
set_same sets a sets' b l l' h h' f e g =
    let n = set_long sets a l h f in
    let n' = set_long sets' b l' h' (omega arith) in
    ext_get_or 0 (set_at sets' b) (set_at sets a) (omega arith)
    (λ p u.
    get_or-take (get_or sets'.counts b 0) (drop (b * 500) sets'.chunks) p 0 (omega arith) ∙ get_or-drop (b * 500) sets'.chunks p 0 ∙ g p (omega arith)
    ∙ sym (get_or-drop (a * 500) sets.chunks p 0) ∙ sym (get_or-take (get_or sets.counts a 0) (drop (a * 500) sets.chunks) p 0 (omega arith)))

-- ---- copying

-- q numbers are copied from place `from` of one table to place `to` of another; all else stands as
-- it stood.
pub record Copying (src dst : List ℕ) (from to q : ℕ) (dst' : List ℕ) : Type 0 where
  pub long : length dst' ≡ length dst
  pub copied : (p : ℕ) → p < q → get_or dst' (to + p) 0 ≡ get_or src (from + p) 0
  pub kept : (p : ℕ) → (p < to) ⊎ (to + q ≤ p) → get_or dst' p 0 ≡ get_or dst p 0

-- A part of one slice is written over a part of another.
pub copying_part :
    (src dst part dst' : List ℕ) (from to q : ℕ) → from + q ≤ length src → to + q ≤ length dst → part ≡ take q (drop from src) →
    dst' ≡ paste dst to part q → Copying src dst from to q dst'
copying_part src dst part dst' from to q h h' f e =
    let n : length part ≡ q = rw f (omega (arith, length-take q (drop from src), length-drop from src)) in
    let head : length (take to dst) ≡ to = omega (arith, length-take to dst) in
    let tail = drop (to + q) dst in
    let is : dst' ≡ take to dst ++ (part ++ tail) =
    e ∙ append_assoc (take to dst) (take q part) tail ∙ ap (λ (x : List ℕ). take to dst ++ (x ++ tail)) (take_all q part (omega (arith, n))) in
    subst (λ (x : List ℕ). Copying src dst from to q x) (sym is)
    (record {
      long = simp (length-append, length-drop) (omega (arith, n, head));
      copied = λ p u.
          get_or-append_right (take to dst) (part ++ tail) to (to + p) 0 head (omega arith)
          ∙ get_or-append part tail 0 (to + p - to) (omega (arith, n))
          ∙ rw f (get_or-take q (drop from src) (to + p - to) 0 (omega arith) ∙ get_or-drop from src (to + p - to) 0 ∙ ap (λ (x : ℕ). get_or src x 0) (omega arith));
      kept = λ p u.
          ⊎_elim
          (λ l. get_or-append (take to dst) (part ++ tail) 0 p (omega (arith, head)) ∙ get_or-take to dst p 0 l)
          (λ l.
          get_or-append_right (take to dst) (part ++ tail) to p 0 head (omega arith)
          ∙ get_or-append_right part tail q (p - to) 0 n (omega arith)
          ∙ get_or-drop (to + q) dst (p - to - q) 0
          ∙ ap (λ (x : ℕ). get_or dst x 0) (omega arith))
          u;
    })

-- ---- one number written

pub other_at : (l : List ℕ) (b c v : ℕ) → (c < b) ⊎ (b < c) → get_or (set l b v) c 0 ≡ get_or l c 0
other_at l b c v u = get_or-set_other l b c v 0 (λ z. ⊎_elim (λ x. omega arith) (λ x. omega arith) u)

-- ---- a set that is copied

-- Set a of `sets` stands in place b of `to`, whose chunks are then these.
abbrev pub with_set : Sets → ℕ → Sets → ℕ → List ℕ → Sets
with_set sets a to b chunks = record {
  chunks = chunks;
  counts = set to.counts b (get_or sets.counts a 0);
  useds = set to.useds b (get_or sets.useds a 0);
}

module _
    (sets : Sets) (a : ℕ) (to : Sets) (b : ℕ) (chunks : List ℕ) (l : Long sets) (t : Long to) (h : a < 65) (h' : b < 65)
    (few : get_or sets.counts a 0 ≤ 500) (z : Copying sets.chunks to.chunks (a * 500) (b * 500) (get_or sets.counts a 0) chunks) where
  abbrev to' : Sets
  to' = with_set sets a to b chunks

  with_long : Long to'
  with_long = record { sets_long = z.long ∙ t.sets_long; counts_long = simp length-set t.counts_long; useds_long = simp length-set t.useds_long }

  with_count : get_or to'.counts b 0 ≡ get_or sets.counts a 0
  with_count = get_or-set_same to.counts b (get_or sets.counts a 0) 0 (omega (arith, t.counts_long))

  with_used : get_or to'.useds b 0 ≡ get_or sets.useds a 0
  with_used = get_or-set_same to.useds b (get_or sets.useds a 0) 0 (omega (arith, t.useds_long))

  -- Place b holds it,
  with_same : set_at to' b ≡ set_at sets a
  with_same = set_same sets a to' b l.sets_long (omega (arith, z.long, t.sets_long)) h h' few with_count z.copied

  -- and the other places hold what they held.
  with_other : (c : ℕ) → (c < b) ⊎ (b < c) → c < 65 → get_or to.counts c 0 ≤ 500 → set_at to' c ≡ set_at to c
  with_other c u k f =
      set_same to c to' c t.sets_long (omega (arith, z.long, t.sets_long)) k k f
      (other_at to.counts b c (get_or sets.counts a 0) u)
      (λ p w. z.kept (c * 500 + p) (⊎_elim (λ x. inl (omega arith)) (λ x. inr (omega arith)) u))

pub copy_end :
    {sets : Sets} {a : ℕ} {to : Sets} {b : ℕ} → CopySetPre sets a to b → (chunks : List ℕ) →
    Copying sets.chunks to.chunks (a * 500) (b * 500) (get_or sets.counts a 0) chunks → CopySetPost sets a to b (with_set sets a to b chunks)
copy_end {sets} {a} {to} {b} g chunks z =
    let l = g.from_long in
    let t = g.to_long in
    record {
      long = with_long sets a to b chunks l t g.from_in g.to_in g.few z;
      copied = with_same sets a to b chunks l t g.from_in g.to_in g.few z;
      count_is = with_count sets a to b chunks l t g.from_in g.to_in g.few z;
      used_is = with_used sets a to b chunks l t g.from_in g.to_in g.few z;
      others = λ c h. with_other sets a to b chunks l t g.from_in g.to_in g.few z c (inl h) (omega (arith, g.to_in)) (g.others_few c h);
      other_counts = λ c h. other_at to.counts b c (get_or sets.counts a 0) (inl h);
      other_useds = λ c h. other_at to.useds b c (get_or sets.useds a 0) (inl h);
    }

pub move_end :
    {sets : Sets} {a b : ℕ} → MoveSetPre sets a b → (chunks : List ℕ) →
    Copying sets.chunks sets.chunks (a * 500) (b * 500) (get_or sets.counts a 0) chunks → MoveSetPost sets a b (with_set sets a sets b chunks)
move_end {sets} {a} {b} g chunks z =
    let l = g.long in
    let h' : b < 65 = omega (arith, g.up, g.from_in) in
    record {
      long = with_long sets a sets b chunks l l g.from_in h' g.few z;
      moved = record {
        set_is = with_same sets a sets b chunks l l g.from_in h' g.few z;
        count_is = with_count sets a sets b chunks l l g.from_in h' g.few z;
        used_is = with_used sets a sets b chunks l l g.from_in h' g.few z;
      };
      others = λ c h k f. record {
        set_is = with_other sets a sets b chunks l l g.from_in h' g.few z c h k f;
        count_is = other_at sets.counts b c (get_or sets.counts a 0) h;
        used_is = other_at sets.useds b c (get_or sets.useds a 0) h;
      };
    }
