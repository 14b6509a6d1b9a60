-- Lemmas. One pass over the trace from its first byte, as the code makes it, finds what Trace
-- finds. Assumes nothing.
use Rattle.std.specs.Prelude.{ℕ, ◌+◌, ◌*◌, ◌-◌, ◌≤◌, ◌≡◌, refl, Bool, true, false, cond, ◌&&◌, List, [], ◌∷◌, ◌++◌, map, length, leb, eqb}
use Rattle.std.proofs.Common.{sym, ap, ◌∙◌, append_assoc, append-nil, ⊎_elim, arith, ne_eqb, length-append, eqb→eq}
use Rattle.std.proofs.Math.Bool.{and-false}
use Rattle.std.proofs.lemmas.Bool.{lt-leb}
use Rattle.theory_basics.specs.Tests.{All, all}
use Rattle.theory_basics.specs.Text.{read_on}
use Rattle.theory_basics.specs.lemmas.Digits.{read_snoc}
use Rattle.theory_basics.specs.lemmas.Tests.{by_cond, not_T_false, test, all_append, all_snoc, neqb_ne}
use Rattle.job.specs.Refusal.{within}
use Rattle.trace.specs.Trace.{Found, found, front, line, not_below, time}
use Rattle.trace.specs.lemmas.Lines.{found_line}

-- ---- one pass

-- Whether refusal 14 leaves the rest alone, and the times of its lines.
pub record Scanned : Type 0 where
  pub fine : Bool
  pub times : List ℕ

-- n bytes of the line are read: v is the number that they say, d whether they are digits. t: the
-- time before.
abbrev pub scan : ℕ → ℕ → Bool → ℕ → List ℕ → Scanned
scan n v d t [] = record { fine = eqb n 0; times = [] }
scan n v d t (b ∷ bs) =
    let next = scan 0 0 true v bs in
    let same = scan (n + 1) (v * 10 + (b - 48)) (d && within 48 57 b) t bs in
    cond (eqb b 10) (record { fine = (within 1 7 n && d) && (leb t v && next.fine); times = v ∷ next.times }) same

-- The test of refusal 14, from a time before.
abbrev pub fine_from : ℕ → Found → Bool
fine_from t f = eqb (length f.rest) 0 && (all line f.lines && not_below t (map time f.lines))

-- ---- it is what is found

found_cut : (l : List ℕ) → All (λ b. b ≡ 10 → ⊥) l → found l ≡ record { lines = []; rest = l }
found_cut [] a = refl
found_cut (b ∷ l) a = step (eqb b 10) (ne_eqb b 10 a.0) (found l) (found_cut l a.1)
  where
    step : (c : Bool) → c ≡ false → (f : Found) → f ≡ record { lines = []; rest = l }
        → cond c (record { lines = [] ∷ f.lines; rest = f.rest }) (front b f.lines f.rest) ≡ record { lines = []; rest = b ∷ l }
    step c e f r = rw (e, r)

shuffle : (x p r y q : Bool) → x && (p && (r && (y && q))) ≡ r && ((x && y) && (p && q))
shuffle x p false y q = rw (and-false p, and-false x)
shuffle false p true y q = refl
shuffle true true true y q = refl
shuffle true false true true q = refl
shuffle true false true false q = refl

-- What the scan says of the bytes bs after the bytes l of a line.
abbrev Agrees : List ℕ → ℕ → List ℕ → Type 0
Agrees l t bs =
    let s = scan (length l) (read_on 0 l) (all (within 48 57) l) t bs in
    (s.fine ≡ fine_from t (found (l ++ bs))) × (s.times ≡ map time (found (l ++ bs)).lines)

and_yes : (c : Bool) → c ≡ c && (true && true)
and_yes true = refl
and_yes false = refl

pub scan_agrees : (bs l : List ℕ) (t : ℕ) → All (λ b. b ≡ 10 → ⊥) l → Agrees l t bs
scan_agrees [] l t a =
    let e : found (l ++ []) ≡ record { lines = []; rest = l } = ap found (append-nil l) ∙ found_cut l a in (
      and_yes (eqb (length l) 0) ∙ sym (ap (fine_from t) e),
      sym (ap (λ (f : Found). map time f.lines) e),
    )
scan_agrees (b ∷ bs) l t a =
    ⊎_elim
    (λ u.
    let e : b ≡ 10 = eqb→eq b 10 u in
    let v : ℕ = read_on 0 l in
    let r = scan_agrees bs [] v tt in
    let f : found (l ++ (10 ∷ bs)) ≡ record { lines = l ∷ (found bs).lines; rest = (found bs).rest } = found_line l bs a in
    rw e (
      ap (λ (c : Bool). (within 1 7 (length l) && all (within 48 57) l) && (leb t v && c)) r.0
          ∙ shuffle (line l) (leb t v) (eqb (length (found bs).rest) 0) (all line (found bs).lines) (not_below v (map time (found bs).lines))
          ∙ sym (ap (fine_from t) f),
      ap (λ (ts : List ℕ). v ∷ ts) r.1 ∙ sym (ap (λ (g : Found). map time g.lines) f),
    ))
    (λ u.
    let k : List ℕ = l ++ (b ∷ []) in
    let ne : b ≡ 10 → ⊥ = neqb_ne b 10 u in
    let r = scan_agrees bs k t (all_append (λ b. b ≡ 10 → ⊥) l (b ∷ []) a (ne, tt)) in
    let g : k ++ bs ≡ l ++ (b ∷ bs) = append_assoc l (b ∷ []) bs in
    let n : length k ≡ length l + 1 = length-append l (b ∷ []) in
    let s : scan (length k) (read_on 0 k) (all (within 48 57) k) t bs ≡ scan (length l + 1) (read_on 0 l * 10 + (b - 48)) (all (within 48 57) l && within 48 57 b) t bs =
    rw (n, read_snoc 0 l b, all_snoc (within 48 57) l b) in
    rw (not_T_false (eqb b 10) u) (
      sym (ap (λ (x : Scanned). x.fine) s) ∙ r.0 ∙ ap (λ (x : List ℕ). fine_from t (found x)) g,
      sym (ap (λ (x : Scanned). x.times) s) ∙ r.1 ∙ ap (λ (x : List ℕ). map time (found x).lines) g,
    ))
    (test (eqb b 10))

-- The whole trace.
pub scan_fine : (trace : List ℕ) → (scan 0 0 true 0 trace).fine ≡ fine_from 0 (found trace)
scan_fine trace = (scan_agrees trace [] 0 tt).0

pub scan_times : (trace : List ℕ) → (scan 0 0 true 0 trace).times ≡ map time (found trace).lines
scan_times trace = (scan_agrees trace [] 0 tt).1

-- ---- the pass may end early

-- After a byte that is no digit, whatever follows: 14.
pub scan_bad : (n v t : ℕ) (bs : List ℕ) → 1 ≤ n → (scan n v false t bs).fine ≡ false
scan_bad n v t [] h = ne_eqb n 0 (λ e. omega arith)
scan_bad n v t (b ∷ bs) h =
    by_cond (λ (s : Scanned). s.fine ≡ false) (eqb b 10)
    (λ u. rw (and-false (within 1 7 n)))
    (λ u. scan_bad (n + 1) (v * 10 + (b - 48)) t bs (omega arith))

-- After an eighth byte of a line too.
pub scan_long : (n v : ℕ) (d : Bool) (t : ℕ) (bs : List ℕ) → 8 ≤ n → (scan n v d t bs).fine ≡ false
scan_long n v d t [] h = ne_eqb n 0 (λ e. omega arith)
scan_long n v d t (b ∷ bs) h =
    by_cond (λ (s : Scanned). s.fine ≡ false) (eqb b 10)
    (λ u. rw (lt-leb n 7 (omega arith), and-false (leb 1 n)))
    (λ u. scan_long (n + 1) (v * 10 + (b - 48)) (d && within 48 57 b) t bs (omega arith))
