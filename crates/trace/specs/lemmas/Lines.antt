-- Lemmas. The lines of a trace: what is found is what was put together, and the tests say what the
-- words say. Assumes nothing.
use Rattle.std.specs.Prelude.{ℕ, ◌≡◌, refl, Bool, false, cond, ◌&&◌, List, [], ◌∷◌, ◌++◌, map, ◌↔◌, length, T, leb, eqb}
use Rattle.std.proofs.Common.{sym, ap, ◌∙◌, append-nil, arith, ne_eqb, eqb→eq}
use Rattle.theory_basics.specs.lemmas.Refusals.{unless_as, and_as}
use Rattle.theory_basics.specs.Tests.{All, all}
use Rattle.theory_basics.specs.lemmas.Tests.{all_iff, all_map, by_cond, leb_iff}
use Rattle.job.specs.Job.{Within}
use Rattle.job.specs.Refusal.{within}
use Rattle.job.specs.Theorems.{within_iff}
use Rattle.trace.specs.Trace.{Found, Line, Means, NotBelow, lines_refusal, found, front, line, not_below, lines_bytes, time}

-- ---- what is found

-- A line without line feeds is found before its line feed.
pub found_line : (l bs : List ℕ) → All (λ b. b ≡ 10 → ⊥) l → found (l ++ (10 ∷ bs)) ≡ record { lines = l ∷ (found bs).lines; rest = (found bs).rest }
found_line [] bs a = refl
found_line (b ∷ l) bs a =
    let r = found_line l bs a.1 in
    let e : eqb b 10 ≡ false = ne_eqb b 10 a.0 in
    step (eqb b 10) e (found (l ++ (10 ∷ bs))) r
  where
    step :
        (c : Bool) → c ≡ false → (f : Found) → f ≡ record { lines = l ∷ (found bs).lines; rest = (found bs).rest } →
        cond c (record { lines = [] ∷ f.lines; rest = f.rest }) (front b f.lines f.rest) ≡ record { lines = (b ∷ l) ∷ (found bs).lines; rest = (found bs).rest }
    step c e f r = rw (e, r)

line_no_feed : (l : List ℕ) → Line l → All (λ b. b ≡ 10 → ⊥) l
line_no_feed l a = all_map (Within 48 57) (λ b. b ≡ 10 → ⊥) l (λ b w e. omega (arith, w.low)) a.digits

-- The lines of some bytes are found again.
pub found_bytes : (ls : List (List ℕ)) → All Line ls → found (lines_bytes ls) ≡ record { lines = ls; rest = [] }
found_bytes [] a = refl
found_bytes (l ∷ ls) a =
    found_line l (lines_bytes ls) (line_no_feed l a.0)
    ∙ ap (λ (f : Found). record { lines = l ∷ f.lines; rest = f.rest }) (found_bytes ls a.1)

-- What is found, put together, is the trace.
pub bytes_found : (bs : List ℕ) → lines_bytes (found bs).lines ++ (found bs).rest ≡ bs
bytes_found [] = refl
bytes_found (b ∷ bs) =
    by_cond (λ (f : Found). lines_bytes f.lines ++ f.rest ≡ b ∷ bs) (eqb b 10)
    (λ t. rw (eqb→eq b 10 t) (ap (λ (l : List ℕ). 10 ∷ l) (bytes_found bs)))
    (λ t. in_front_same (found bs).lines (found bs).rest (bytes_found bs))
  where
    in_front_same : (ls : List (List ℕ)) (rest : List ℕ) → lines_bytes ls ++ rest ≡ bs → lines_bytes (front b ls rest).lines ++ (front b ls rest).rest ≡ b ∷ bs
    in_front_same [] rest e = ap (λ (l : List ℕ). b ∷ l) e
    in_front_same (l ∷ ls) rest e = ap (λ (l : List ℕ). b ∷ l) e

-- ---- tests

pub line_iff : (l : List ℕ) → T (line l) ↔ Line l
line_iff l =
    let r = and_as (within 1 7 (length l)) (all (within 48 57) l) (within_iff 1 7 (length l)) (all_iff (within 48 57) (Within 48 57) (within_iff 48 57) l) in
    (λ t. let u = r.0 t in record { few = u.0; digits = u.1 }, λ a. r.1 (a.few, a.digits))

pub not_below_iff : (t : ℕ) (ts : List ℕ) → T (not_below t ts) ↔ NotBelow t ts
not_below_iff t [] = (λ x. tt, λ x. tt)
not_below_iff t (x ∷ ts) = and_as (leb t x) (not_below x ts) (leb_iff t x) (not_below_iff x ts)

nil_iff : (l : List ℕ) → T (eqb (length l) 0) ↔ (l ≡ [])
nil_iff [] = (λ t. refl, λ e. tt)
nil_iff (x ∷ l) = (λ t. absurd (omega (arith, eqb→eq (length (x ∷ l)) 0 t)), λ e. let z : ◌≡◌ {A = ℕ} 0 1 = cc in absurd (omega arith))

-- ---- refusal 14

-- No refusal 14 exactly if the trace is the lines found.
pub lines_found : (trace : List ℕ) → (lines_refusal trace ≡ 0) ↔ Means trace (found trace).lines
lines_found trace =
    let f = found trace in
    let none = eqb (length f.rest) 0 in
    let each = all line f.lines in
    let ordered = not_below 0 (map time f.lines) in
    let r =
    unless_as 14 (none && (each && ordered)) (omega arith)
    (and_as none (each && ordered) (nil_iff f.rest) (and_as each ordered (all_iff line Line line_iff f.lines) (not_below_iff 0 (map time f.lines)))) in (
      λ e.
          let u = r.0 e in
          record {
            bytes = sym (bytes_found trace) ∙ ap (λ (l : List ℕ). lines_bytes f.lines ++ l) u.0 ∙ append-nil (lines_bytes f.lines);
            each = u.1.0;
            rises = u.1.1;
          },
      λ m. r.1 (ap (λ (g : Found). g.rest) (ap found m.bytes ∙ found_bytes f.lines m.each), (m.each, m.rises)),
    )

-- A trace is one list of lines at most.
pub means_found : (trace : List ℕ) (ls : List (List ℕ)) → Means trace ls → (found trace).lines ≡ ls
means_found trace ls m = ap (λ (g : Found). g.lines) (ap found m.bytes ∙ found_bytes ls m.each)
