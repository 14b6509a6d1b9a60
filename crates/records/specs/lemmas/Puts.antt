-- Lemmas. Bytes written over the bytes of a lent buffer, once and again. Assumes nothing.
use Rattle.std.specs.Prelude.{ℕ, ◌+◌, ◌≤◌, ◌≡◌, refl, List, [], ◌++◌, length, take, drop, leb}
use Rattle.std.proofs.Common.{sym, ap, ◌∙◌, append_assoc, append-nil, arith, length-append, length-drop, take-append-drop, length-take-le, take_at, drop_at, drop-drop, leb→le, le-leb}
use Rattle.theory_basics.specs.lemmas.Tests.{by_cond}
use Rattle.records.specs.Fields.{written}

-- Where bytes fit, they stand between what stays.
pub written_fits : (l : List ℕ) (at : ℕ) (t : List ℕ) → at + length t ≤ length l → written l at t ≡ take at l ++ t ++ drop (at + length t) l
written_fits l at t h = rw (le-leb (at + length t) (length l) h)

pub written_none : (l : List ℕ) (at : ℕ) → l ≡ written l at []
written_none l at =
    let e : at + 0 ≡ at = omega arith in
    by_cond (λ (x : List ℕ). l ≡ x) (leb (at + 0) (length l)) (λ b. rw (e, append-nil) (sym (take-append-drop at l))) (λ b. refl)

front_long : (l : List ℕ) (at : ℕ) (t : List ℕ) → at ≤ length l → length (take at l ++ t) ≡ at + length t
front_long l at t h = length-append (take at l) t ∙ ap (λ (n : ℕ). n + length t) (length-take-le at l h)

pub length_written : (l : List ℕ) (at : ℕ) (t : List ℕ) → length (written l at t) ≡ length l
length_written l at t =
    by_cond
    (λ (x : List ℕ). length x ≡ length l)
    (leb (at + length t) (length l))
    (λ b.
    let h = leb→le (at + length t) (length l) b in
    omega (arith, length-append (take at l ++ t) (drop (at + length t) l), front_long l at t (omega arith), length-drop (at + length t) l))
    (λ b. refl)

-- Bytes after bytes are one run of bytes.
pub written_append :
    (l : List ℕ) (at : ℕ) (t u : List ℕ) → at + length t + length u ≤ length l →
    written (written l at t) (at + length t) u ≡ written l at (t ++ u)
written_append l at t u h =
    let n = at + length t in
    let w = take at l ++ t ++ drop n l in
    let first : written l at t ≡ w = written_fits l at t (omega arith) in
    let long : length w ≡ length l = sym (ap length first) ∙ length_written l at t in
    let front : take n w ≡ take at l ++ t = take_at (take at l ++ t) (drop n l) n (front_long l at t (omega arith)) in
    let rest : drop n w ≡ drop n l = drop_at (take at l ++ t) (drop n l) n (front_long l at t (omega arith)) in
    let end : n + length u ≡ at + length (t ++ u) = omega (arith, length-append t u) in
    let back : drop (n + length u) w ≡ drop (at + length (t ++ u)) l =
    sym (drop-drop (length u) n w) ∙ ap (drop (length u)) rest ∙ drop-drop (length u) n l ∙ ap (λ (k : ℕ). drop k l) end in
    let middle : take n w ++ u ++ drop (n + length u) w ≡ take at l ++ (t ++ u) ++ drop (at + length (t ++ u)) l =
    rw (front, back, append_assoc (take at l) t u) in
    rw first (written_fits w n u (omega (arith, long)) ∙ middle ∙ sym (written_fits l at (t ++ u) (omega (arith, end))))

-- From the start: the whole result, then the old contents.
pub written_whole : (l t : List ℕ) → length t ≤ length l → written l 0 t ≡ t ++ drop (length t) l
written_whole l t h =
    let e : 0 + length t ≡ length t = omega arith in
    written_fits l 0 t (omega arith) ∙ rw e
