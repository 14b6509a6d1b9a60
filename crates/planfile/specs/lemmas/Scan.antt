-- Lemmas. Going through a plan file: the KPs in turn, the FTs after them, and what stands where they
-- end; and where each record stands in an accepted file. Assumes nothing.
use Rattle.std.specs.Prelude.{ℕ, suc, ◌+◌, ◌*◌, ◌-◌, ◌≤◌, ◌<◌, ◌≡◌, Bool, false, ◌&&◌, get_or, set, drop, T, leb, Result, Ok, Err}
use Rattle.std.proofs.Math.Path.{refl, ap}
use Rattle.std.proofs.Common.{sym, subst, ◌∙◌, arith, add-one, length-append, length-set, drop-cons, leb→le, eq-eqb, ne_eqb, le-leb}
use mathlib.Core.List.{List, [], ◌∷◌, ◌++◌, append-nil, append_assoc}
use Rattle.std.proofs.Math.ListN.{length, length-drop}
use Rattle.std.proofs.lemmas.List.{set_at}
use Rattle.std.proofs.Math.Dec.{not_T, eqb, eqb→eq}
use Rattle.theory_basics.specs.lemmas.Tests.{by_cond, and_T, T_and, T_true, not_T_false, same_test, eqb_iff, leb_iff, tests}
use Rattle.theory_basics.specs.Lists.{up_to}
use Rattle.theory_basics.specs.lemmas.Lists.{length_up_to}
use Rattle.theory_basics.specs.Refusals.{unless, ◌or_else◌}
use Rattle.theory_basics.specs.lemmas.Refusals.{unless_iff, or_else_iff, or_else_none, or_else_some}
use Rattle.records.specs.Fields.{h_at, w_at, marked}
use Rattle.records.specs.File.{Front, got, none, records_refusal, file_refusal}
use Rattle.records.specs.lemmas.Places.{byte_on, h_on, w_on}
use Rattle.records.specs.lemmas.Reading.{Reads, reads_start, reads_none, reads_fault, reads_more, reads_end}
use Rattle.fetch.specs.Rows.{Row}
use Rattle.planfile.specs.Records.{kp, ft, en, front, read_of, read_at}
use Rattle.planfile.specs.PlanFile.{marks_in, rows_in, fault, format, plan_in}
use Rattle.planfile.specs.declared.Record.{Record}
use Rattle.planfile.specs.declared.Record.TheVariants.{Kp, Ft, En}
use Rattle.refusals.specs.declared.Refusal.{Refusal}
use Rattle.refusals.specs.Numbers.{number_of, answered}
use Rattle.refusals.specs.Laws.{number_above_0}

-- ---- what stands in front

-- What is known of a record in front: it is as long as its kind, its mark and its bytes are there,
-- and its fields are theirs.
abbrev Stands : List ℕ → Front Record → Type 0
Stands s (none n) = 0 < n
Stands s (got (Kp chunk marks) n) = (n ≡ 5) × (n ≤ length s) × T (marked kp s) × (chunk ≡ h_at s 2) × (marks ≡ get_or s 4 0)
Stands s (got (Ft slot chunk layer bytes) n) = (n ≡ 11) × (n ≤ length s) × T (marked ft s)
Stands s (got En n) = (n ≡ 2) × (n ≤ length s)

stands : (s : List ℕ) → Stands s (front s)
unfolding front
stands s =
    let one : 0 < 1 = omega arith in
    by_cond (Stands s) (leb 2 (length s))
    (λ t. by_cond (Stands s) (marked kp s)
    (λ m. by_cond (Stands s) (leb 5 (length s)) (λ u. (refl, leb→le 5 (length s) u, m, refl, refl)) (λ _. one))
    (λ _. by_cond (Stands s) (marked ft s)
    (λ m. by_cond (Stands s) (leb 11 (length s)) (λ u. (refl, leb→le 11 (length s) u, m)) (λ _. one))
    (λ _. by_cond (Stands s) (marked en s)
    (λ _. by_cond (Stands s) (leb 2 (length s)) (λ u. (refl, leb→le 2 (length s) u)) (λ _. one))
    (λ _. omega arith))))
    (λ _. one)

-- A KP of a chunk, or an FT, stands whole at a place.
abbrev pub kp_stands : List ℕ → ℕ → ℕ → Bool
kp_stands file at chunk = leb 5 (length (drop at file)) && (marked kp (drop at file) && eqb (h_at (drop at file) 2) chunk)

abbrev pub ft_stands : List ℕ → ℕ → Bool
ft_stands file at = leb 11 (length (drop at file)) && marked ft (drop at file)

-- Where they stand, the file goes on to their end.
pub kp_inside : (file : List ℕ) (at chunk : ℕ) → at ≤ length file → T (kp_stands file at chunk) → at + 5 ≤ length file
kp_inside file at chunk l t =
    let s = drop at file in
    omega (arith, leb→le 5 (length s) (and_T (leb 5 (length s)) (marked kp s && eqb (h_at s 2) chunk) t).0, length-drop at file)

pub ft_inside : (file : List ℕ) (at : ℕ) → at ≤ length file → T (ft_stands file at) → at + 11 ≤ length file
ft_inside file at l t =
    let s = drop at file in
    omega (arith, leb→le 11 (length s) (and_T (leb 11 (length s)) (marked ft s) t).0, length-drop at file)

-- No mark FT is a mark KP.
not_kp : (s : List ℕ) → T (marked ft s) → marked kp s ≡ false
not_kp s t =
    let e = eqb→eq (get_or s 0 0) 70 (and_T (eqb (get_or s 0 0) 70) (eqb (get_or s 1 0) 84) t).0 in
    rw (ne_eqb (get_or s 0 0) 75 (λ z. omega arith))

kp_front : (s : List ℕ) → 5 ≤ length s → T (marked kp s) → front s ≡ got (Kp (h_at s 2) (get_or s 4 0)) 5
unfolding front
kp_front s l m = rw (le-leb 2 (length s) (omega arith), T_true (marked kp s) m, le-leb 5 (length s) l)

ft_front : (s : List ℕ) → 11 ≤ length s → T (marked ft s) → front s ≡ got (Ft (h_at s 2) (h_at s 4) (get_or s 6 0) (w_at s 7)) 11
unfolding front
ft_front s l m = rw (le-leb 2 (length s) (omega arith), not_kp s m, T_true (marked ft s) m, le-leb 11 (length s) l)

-- ---- answers

-- The refusal where the KPs in turn and the FTs end, by the record that is read there and the place
-- after it, in a file of so many bytes; 0 for EN.
abbrev pub end_at : ℕ → ℕ → ℕ → Record → ℕ → ℕ
end_at count kept size (Kp chunk marks) next = 8
end_at count kept size (Ft slot chunk layer bytes) next = 1
end_at count kept size En next = unless 3 (eqb size next) or_else unless 8 (eqb kept count)

abbrev pub end_of : ℕ → ℕ → ℕ → Result (Record × ℕ) ℕ → ℕ
end_of count kept size (Err n) = n
end_of count kept size (Ok r) = end_at count kept size r.0 r.1

-- ---- where the records of an accepted file stand

-- The mark byte of the k-th KP, from 0, and the row of the i-th FT after so many KPs.
abbrev pub mark_on : List ℕ → ℕ → ℕ
mark_on file k = get_or file (5 * k + 4) 0

abbrev pub row_from : List ℕ → ℕ → Row
row_from file at = record { slot = h_at file (at + 2); chunk = h_at file (at + 4); layer = get_or file (at + 6) 0; bytes = w_at file (at + 7) }

abbrev pub row_on : List ℕ → ℕ → ℕ → Row
row_on file kept i = row_from file (5 * kept + 11 * i)

pub record Laid (count : ℕ) (file : List ℕ) : Type 0 where
  pub marks_are : (plan_in count file).marks ≡ up_to (mark_on file) count
  pub rows_are : (plan_in count file).rows ≡ up_to (row_on file count) (length (plan_in count file).rows)
  pub inside : 5 * count + 11 * length (plan_in count file).rows ≤ length file

-- A file of that refusal gets that answer, and is laid out so if it is accepted.
pub record FileRowsPost (count : ℕ) (file : List ℕ) (refused : ℕ) (a : Result ℕ ℕ) : Type 0 where
  pub answer : a ≡ answered refused (length (plan_in count file).rows)
  pub laid : refused ≡ 0 → Laid count file

-- The file is read up to a place, so many KPs and FTs taken.
pub record Scanned (count : ℕ) (file : List ℕ) (at kept rows : ℕ) : Type 0 where
  pub before : List Record
  pub reads : Reads (format count) file at before
  pub kept_is : kept ≡ length (marks_in before)
  pub rows_is : rows ≡ length (rows_in before)
  pub place : at ≡ 5 * kept + 11 * rows
  pub marks_are : marks_in before ≡ up_to (mark_on file) kept
  pub rows_are : rows_in before ≡ up_to (row_on file kept) rows

-- ---- one more record

pub marks_append : (a b : List Record) → marks_in (a ++ b) ≡ marks_in a ++ marks_in b
marks_append [] b = refl
marks_append (Kp chunk marks ∷ a) b = ap (λ (l : List ℕ). marks ∷ l) (marks_append a b)
marks_append (Ft slot chunk layer bytes ∷ a) b = marks_append a b
marks_append (En ∷ a) b = marks_append a b

pub rows_append : (a b : List Record) → rows_in (a ++ b) ≡ rows_in a ++ rows_in b
rows_append [] b = refl
rows_append (Kp chunk marks ∷ a) b = rows_append a b
rows_append (Ft slot chunk layer bytes ∷ a) b = ap (λ (l : List Row). record { slot = slot; chunk = chunk; layer = layer; bytes = bytes } ∷ l) (rows_append a b)
rows_append (En ∷ a) b = rows_append a b

pub scanned_start : (count : ℕ) (file : List ℕ) → Scanned count file 0 0 0
scanned_start count file =
    record { before = []; reads = reads_start (format count) file; kept_is = refl; rows_is = refl; place = refl; marks_are = refl; rows_are = refl }

-- ---- a record more

module _ (count : ℕ) (file : List ℕ) (at kept : ℕ) (i : Scanned count file at kept 0) (l : kept < count) (t : T (kp_stands file at (kept + 1))) where
  pub kp_next : Scanned count file (at + 5) (kept + 1) 0
  kp_next =
      let s = drop at file in
      let u = and_T (leb 5 (length s)) (marked kp s && eqb (h_at s 2) (kept + 1)) t in
      let v = and_T (marked kp s) (eqb (h_at s 2) (kept + 1)) u.1 in
      let long : 5 ≤ length s = leb→le 5 (length s) u.0 in
      let chunk : h_at s 2 ≡ kept + 1 = eqb→eq (h_at s 2) (kept + 1) v.1 in
      let r = Kp (h_at s 2) (get_or s 4 0) in
      let no_fault : fault count i.before r ≡ 0 = rw (chunk, ← i.kept_is, ← i.rows_is, eq-eqb (kept + 1) (kept + 1) refl, le-leb (kept + 1) count (omega arith)) in
      let m : get_or s 4 0 ≡ mark_on file kept = sym (byte_on file at 4 (5 * kept + 4) (omega (arith, i.place))) in
      record {
        before = i.before ++ (r ∷ []);
        reads = reads_more (format count) file at i.before i.reads r 5 (kp_front s long v.0) refl (omega arith) long no_fault;
        kept_is = omega (arith, i.kept_is, ap length (marks_append i.before (r ∷ [])), length-append (marks_in i.before) (get_or s 4 0 ∷ []));
        rows_is = i.rows_is ∙ sym (ap length (rows_append i.before (r ∷ []) ∙ append-nil (rows_in i.before)));
        place = omega (arith, i.place);
        marks_are = marks_append i.before (r ∷ []) ∙ rw (i.marks_are, m, add-one kept);
        rows_are = rows_append i.before (r ∷ []) ∙ append-nil (rows_in i.before) ∙ i.rows_are;
      }

module _ (count : ℕ) (file : List ℕ) (at kept rows : ℕ) (i : Scanned count file at kept rows) (t : T (ft_stands file at)) where
  ft_next : Scanned count file (at + 11) kept (rows + 1)
  ft_next =
      let s = drop at file in
      let u = and_T (leb 11 (length s)) (marked ft s) t in
      let long : 11 ≤ length s = leb→le 11 (length s) u.0 in
      let r = Ft (h_at s 2) (h_at s 4) (get_or s 6 0) (w_at s 7) in
      let x : Row = record { slot = h_at s 2; chunk = h_at s 4; layer = get_or s 6 0; bytes = w_at s 7 } in
      let row : x ≡ row_on file kept rows = rw (
        sym (h_on file at 2 (5 * kept + 11 * rows + 2) (omega (arith, i.place))),
        sym (h_on file at 4 (5 * kept + 11 * rows + 4) (omega (arith, i.place))),
        sym (byte_on file at 6 (5 * kept + 11 * rows + 6) (omega (arith, i.place))),
        sym (w_on file at 7 (5 * kept + 11 * rows + 7) (omega (arith, i.place))),
      ) in
      record {
        before = i.before ++ (r ∷ []);
        reads = reads_more (format count) file at i.before i.reads r 11 (ft_front s long u.1) refl (omega arith) long refl;
        kept_is = i.kept_is ∙ sym (ap length (marks_append i.before (r ∷ []) ∙ append-nil (marks_in i.before)));
        rows_is = omega (arith, i.rows_is, ap length (rows_append i.before (r ∷ [])), length-append (rows_in i.before) (x ∷ []));
        place = omega (arith, i.place);
        marks_are = marks_append i.before (r ∷ []) ∙ append-nil (marks_in i.before) ∙ i.marks_are;
        rows_are = rows_append i.before (r ∷ []) ∙ rw (i.rows_are, row, add-one rows);
      }

-- ---- the KPs in turn, and the FTs after them

-- So many KPs in turn stand in front, and no further one.
pub record KpsTaken (count : ℕ) (file : List ℕ) (kept : ℕ) : Type 0 where
  pub scanned : Scanned count file (5 * kept) kept 0
  pub last : kept < count → kp_stands file (5 * kept) (kept + 1) ≡ false

pub kps_end : (count : ℕ) (file : List ℕ) (at kept : ℕ) → Scanned count file at kept 0 → (kept < count → kp_stands file at (kept + 1) ≡ false) → KpsTaken count file kept
kps_end count file at kept i n =
    let e : at ≡ 5 * kept = omega (arith, i.place) in
    record { scanned = subst (λ (x : ℕ). Scanned count file x kept 0) e i; last = subst (λ (x : ℕ). kept < count → kp_stands file x (kept + 1) ≡ false) e n }

-- So many FTs are read from a place on to another, whatever was read before.
pub record FtsRead (file : List ℕ) (from rows at : ℕ) : Type 0 where
  pub place : at ≡ from + 11 * rows
  pub inside : at ≤ length file
  pub scanned : (count kept : ℕ) → Scanned count file from kept 0 → Scanned count file at kept rows

pub fts_start : (file : List ℕ) (from : ℕ) → from ≤ length file → FtsRead file from 0 from
fts_start file from l = record { place = omega arith; inside = l; scanned = λ count kept i. i }

pub fts_more : (file : List ℕ) (from rows at : ℕ) → FtsRead file from rows at → T (ft_stands file at) → FtsRead file from (rows + 1) (at + 11)
fts_more file from rows at i t =
    record {
      place = omega (arith, i.place);
      inside = ft_inside file at i.inside t;
      scanned = λ count kept s. ft_next count file at kept rows (i.scanned count kept s) t;
    }

-- So many FTs stand from a place on, and no further one.
pub record FtsTaken (file : List ℕ) (from rows : ℕ) : Type 0 where
  pub read : FtsRead file from rows (from + 11 * rows)
  pub last : ft_stands file (from + 11 * rows) ≡ false

pub fts_end : (file : List ℕ) (from rows at : ℕ) → FtsRead file from rows at → ft_stands file at ≡ false → FtsTaken file from rows
fts_end file from rows at i n =
    record { read = subst (λ (x : ℕ). FtsRead file from rows x) i.place i; last = subst (λ (x : ℕ). ft_stands file x ≡ false) i.place n }

-- ---- where they end, the file's refusal is known

-- A file that is refused.
refused : (count : ℕ) (file : List ℕ) (r n rows : ℕ) → 0 < n → r ≡ n → FileRowsPost count file r (answered n rows)
refused count file r n rows p e = record { answer = rw (e, ne_eqb n 0 (λ z. omega arith)); laid = λ z. absurd (omega arith) }

module _ (count : ℕ) (file : List ℕ) (kept : ℕ) (k : KpsTaken count file kept) (rows : ℕ) (f : FtsTaken file (5 * kept) rows) where
  abbrev end : ℕ
  end = 5 * kept + 11 * rows

  abbrev s : List ℕ
  s = drop end file

  i : Scanned count file end kept rows
  i = f.read.scanned count kept k.scanned

  abbrev Ends : Front Record → Type 0
  Ends x = FileRowsPost count file (records_refusal (format count) file) (answered (end_of count kept (length file) (read_of end x)) rows)

  -- A KP here is for another chunk, or for one above C, or it is after an FT.
  late : (chunk : ℕ) → 5 ≤ length s → T (marked kp s) → chunk ≡ h_at s 2 → T (eqb chunk (kept + 1) && (leb chunk count && eqb rows 0)) → ⊥
  late chunk l m e t =
      let u = simp tests at t in
      let here : end ≡ 5 * kept = omega (arith, u.1.1) in
      let next = T_and (marked kp s) (eqb (h_at s 2) (kept + 1)) m ((eqb_iff (h_at s 2) (kept + 1)).1 (sym e ∙ u.0)) in
      let there : T (kp_stands file end (kept + 1)) = T_and (leb 5 (length s)) (marked kp s && eqb (h_at s 2) (kept + 1)) ((leb_iff 5 (length s)).1 l) next in
      subst T (ap (λ (x : ℕ). kp_stands file x (kept + 1)) here ∙ k.last (omega (arith, u.0, u.1.0))) there

  -- EN: bytes after it, then a KP that is lacking.
  en_end : (n : ℕ) → front s ≡ got En n → n ≤ length s → Ends (got En n)
  unfolding plan_in
  en_end n e l =
      let d = reads_end (format count) file end i.before i.reads En n e refl in
      let left : eqb (length s - n) 0 ≡ eqb (length file) (end + n) = same_test (eqb (length s - n) 0) (eqb (length file) (end + n)) (λ t. (eqb_iff (length file) (end + n)).1 (omega (arith, eqb→eq (length s - n) 0 t, length-drop end file, i.reads.inside))) (λ t. (eqb_iff (length s - n) 0).1 (omega (arith, eqb→eq (length file) (end + n) t, length-drop end file))) in
      let whole : records_refusal (format count) file ≡ unless 3 (eqb (length file) (end + n)) or_else unless 8 (eqb kept count) = d.refusal_is ∙ rw (left, ← i.kept_is) in
      record {
        answer = rw (whole, d.records_are, ← i.rows_is);
        laid = λ z.
            let c : kept ≡ count = eqb→eq kept count ((unless_iff 8 (eqb kept count) (omega arith)).0 ((or_else_iff (unless 3 (eqb (length file) (end + n))) (unless 8 (eqb kept count))).0 (sym whole ∙ z)).1) in
            record {
              marks_are = ap marks_in d.records_are ∙ i.marks_are ∙ rw c;
              rows_are = ap rows_in d.records_are ∙ i.rows_are ∙ rw (c, d.records_are, ← i.rows_is);
              inside = omega (arith, c, i.rows_is, i.reads.inside, ap (λ (l : List Record). length (rows_in l)) d.records_are);
            };
      }

  by_front : (x : Front Record) → front s ≡ x → Stands s x → Ends x
  by_front (none n) e t = refused count file (records_refusal (format count) file) n rows t (reads_none (format count) file end i.before i.reads n e)
  by_front (got (Kp chunk marks) n) e t =
      let test = eqb chunk (kept + 1) && (leb chunk count && eqb rows 0) in
      let no = not_T_false test (not_T test (late chunk (omega (arith, t.0, t.1)) t.2 t.3)) in
      let fault_is : fault count i.before (Kp chunk marks) ≡ 8 = rw (← i.kept_is, ← i.rows_is, no) in
      refused count file (records_refusal (format count) file) 8 rows (omega arith) (reads_fault (format count) file end i.before i.reads (Kp chunk marks) n e refl (λ z. omega (arith, fault_is, z)) ∙ fault_is)
  by_front (got (Ft slot chunk layer bytes) n) e t =
      absurd (subst T f.last (T_and (leb 11 (length s)) (marked ft s) ((leb_iff 11 (length s)).1 (omega (arith, t.0, t.1))) t.2))
  by_front (got En n) e t = en_end n e t.1

  pub file_end : FileRowsPost count file (records_refusal (format count) file) (answered (end_of count kept (length file) (read_at file end)) rows)
  file_end = by_front (front s) refl (stands s)

-- ---- 9 first

module _ (count : ℕ) (file : List ℕ) where
  abbrev Answers : Result ℕ ℕ → Type 0
  Answers a = FileRowsPost count file (file_refusal (format count) file) a

  pub too_long : (e : Refusal) → number_of e ≡ unless 9 (leb (length file) 65536) → Answers (Err (number_of e))
  unfolding file_refusal
  too_long e is =
      let n = number_of e in
      let some : unless 9 (leb (length file) 65536) ≡ 0 → ⊥ = λ y. omega (arith, number_above_0 e) in
      let long = or_else_some (unless 9 (leb (length file) 65536)) (records_refusal (format count) file) some ∙ sym is in
      subst Answers (rw (ne_eqb n 0 (λ y. omega (arith, number_above_0 e)))) (refused count file (file_refusal (format count) file) n 0 (number_above_0 e) long)

  module _ (short : 0 ≡ unless 9 (leb (length file) 65536)) (kept : ℕ) (k : KpsTaken count file kept) (rows : ℕ) (f : FtsTaken file (5 * kept) rows) where
    abbrev stop : ℕ
    stop = end_of count kept (length file) (read_at file (5 * kept + 11 * rows))

    by_end : Answers (answered stop rows)
    unfolding file_refusal
    by_end = rw (or_else_none (unless 9 (leb (length file) 65536)) (records_refusal (format count) file) (sym short)) (file_end count file kept k rows f)

    pub file_refused : (e : Refusal) → number_of e ≡ stop → Answers (Err (number_of e))
    file_refused e is = subst Answers (rw (← is, ne_eqb (number_of e) 0 (λ y. omega (arith, number_above_0 e)))) by_end

    pub file_taken : 0 ≡ stop → Answers (Ok rows)
    file_taken z = subst Answers (rw (← z)) by_end

-- ---- filling a lent slice

-- f 0, .., f (n - 1), then the old contents.
abbrev pub filled : (ℕ → ℕ) → ℕ → List ℕ → List ℕ
filled f n old = up_to f n ++ drop n old

-- A slice that is filled so far.
pub record Filled (f : ℕ → ℕ) (n : ℕ) (old now : List ℕ) : Type 0 where
  pub long : length now ≡ length old
  pub is : now ≡ filled f n old

pub filled_start : (f : ℕ → ℕ) (old : List ℕ) → Filled f 0 old old
filled_start f old = record { long = refl; is = refl }

pub filled_more : (f : ℕ → ℕ) (n : ℕ) (old now : List ℕ) → Filled f n old now → n < length old → (v : ℕ) → v ≡ f n → Filled f (n + 1) old (set now n v)
filled_more f n old now i l v e =
    record {
      long = length-set now n v ∙ i.long;
      is = rw (i.is, e, drop-cons old n 0 l, add-one n) (set_at (up_to f n) (get_or old n 0) (drop (suc n) old) (f n) n (length_up_to f n) ∙ sym (append_assoc (up_to f n) (f n ∷ []) (drop (suc n) old)));
    }

pub filled_end : (f : ℕ → ℕ) (n m : ℕ) (old now : List ℕ) → Filled f n old now → n ≡ m → now ≡ filled f m old
filled_end f n m old now i e = rw e at i.is
