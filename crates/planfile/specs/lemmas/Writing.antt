-- Lemmas. Records written one after the other: how long they are, and what a lent buffer holds
-- after each. Assumes nothing.
use Rattle.std.specs.Prelude.{ℕ, zero, suc, ◌+◌, ◌*◌, ◌≤◌, ◌<◌, ◌≡◌, refl, length, get_or}
use Rattle.std.proofs.Common.{sym, ap, ◌∙◌, arith, add-one, length-append}
use mathlib.Core.List.{List, [], ◌∷◌, ◌++◌, map, map-append, flat_map, append_assoc, append-nil}
use Rattle.std.proofs.lemmas.List.{length-map}
use Rattle.theory_basics.specs.Tests.{All}
use Rattle.theory_basics.specs.lemmas.Tests.{all_append}
use Rattle.theory_basics.specs.Lists.{up_to}
use Rattle.theory_basics.specs.lemmas.Lists.{length_up_to}
use Rattle.records.specs.Fields.{written}
use Rattle.records.specs.File.{encode_all}
use Rattle.records.specs.lemmas.Puts.{length_written, written_append, written_none}
use Rattle.fetch.specs.Rows.{Row, row_at, rows_of}
use Rattle.planfile.specs.Records.{encode}
use Rattle.planfile.specs.PlanFile.{Plan, kps, ft_of, file_of}
use Rattle.planfile.specs.declared.Record.{Record}
use Rattle.planfile.specs.declared.Record.TheVariants.{Kp, En}

-- ---- lists by index

module _ {A : Type 0} where
  pub all_up_to : (P : A → Type 0) (f : ℕ → A) (n : ℕ) → ((k : ℕ) → k < n → P (f k)) → All P (up_to f n)
  all_up_to P f zero h = tt
  all_up_to P f (suc n) h = all_append P (up_to f n) (f n ∷ []) (all_up_to P f n (λ k l. h k (omega arith))) (h n (omega arith), tt)

  pub map_up_to : {B : Type 0} (f : A → B) (g : ℕ → A) (n : ℕ) → map f (up_to g n) ≡ up_to (λ i. f (g i)) n
  map_up_to f g zero = refl
  map_up_to f g (suc n) = map-append f (up_to g n) (g n ∷ []) ∙ ap (λ l. l ++ (f (g n) ∷ [])) (map_up_to f g n)

  pub all_of_map : {B : Type 0} (P : A → Type 0) (f : B → A) (l : List B) → ((x : B) → P (f x)) → All P (map f l)
  all_of_map P f [] h = tt
  all_of_map P f (x ∷ l) h = (h x, all_of_map P f l h)

-- ---- the bytes of some records

abbrev pub plan_records_bytes : List Record → List ℕ
plan_records_bytes rs = flat_map encode rs

pub bytes_append : (a b : List Record) → plan_records_bytes (a ++ b) ≡ plan_records_bytes a ++ plan_records_bytes b
unfolding flat_map
bytes_append [] b = refl
bytes_append (r ∷ a) b = ap (λ (l : List ℕ). encode r ++ l) (bytes_append a b) ∙ sym (append_assoc (encode r) (plan_records_bytes a) (plan_records_bytes b))

pub bytes_more : (f : ℕ → Record) (n : ℕ) → plan_records_bytes (up_to f (n + 1)) ≡ plan_records_bytes (up_to f n) ++ encode (f n)
unfolding flat_map
bytes_more f n = rw (add-one n) (bytes_append (up_to f n) (f n ∷ []) ∙ ap (λ (l : List ℕ). plan_records_bytes (up_to f n) ++ l) (append-nil (encode (f n))))

pub bytes_all : (count : ℕ) (rs : List Record) → plan_records_bytes rs ≡ encode_all encode rs
unfolding flat_map
bytes_all count [] = refl
bytes_all count (r ∷ rs) = ap (λ (l : List ℕ). encode r ++ l) (bytes_all count rs)

pub length_bytes : (size : ℕ) (rs : List Record) → All (λ r. length (encode r) ≡ size) rs → length (plan_records_bytes rs) ≡ size * length rs
unfolding flat_map
length_bytes size [] a = omega arith
length_bytes size (r ∷ rs) a = omega (arith, length-append (encode r) (plan_records_bytes rs), length_bytes size rs a.1, a.0)

length_up_to_bytes : (size : ℕ) (f : ℕ → Record) → ((k : ℕ) → length (encode (f k)) ≡ size) → (n : ℕ) → length (plan_records_bytes (up_to f n)) ≡ size * n
length_up_to_bytes size f h n =
    length_bytes size (up_to f n) (all_up_to (λ r. length (encode r) ≡ size) f n (λ k l. h k)) ∙ ap (λ (x : ℕ). size * x) (length_up_to f n)

pub length_kps : (marks : List ℕ) → length (plan_records_bytes (kps marks)) ≡ 5 * length marks
length_kps marks = length_up_to_bytes 5 (λ k. Kp (k + 1) (get_or marks k 0)) (λ k. refl) (length marks)

pub length_fts : (rows : List Row) → length (plan_records_bytes (map ft_of rows)) ≡ 11 * length rows
length_fts rows = length_bytes 11 (map ft_of rows) (all_of_map (λ r. length (encode r) ≡ 11) ft_of rows (λ x. refl)) ∙ ap (λ (x : ℕ). 11 * x) (length-map rows ft_of)

-- The file's three parts.
pub file_parts : (plan : Plan) → file_of plan ≡ (plan_records_bytes (kps plan.marks) ++ plan_records_bytes (map ft_of plan.rows)) ++ encode En
unfolding file_of
file_parts plan = ap (λ (l : List ℕ). l ++ encode En) (bytes_append (kps plan.marks) (map ft_of plan.rows))

pub length_file : (plan : Plan) → length (file_of plan) ≡ 5 * length plan.marks + 11 * length plan.rows + 2
length_file plan =
    let k = plan_records_bytes (kps plan.marks) in
    let f = plan_records_bytes (map ft_of plan.rows) in
    omega (arith, ap length (file_parts plan), length-append (k ++ f) (encode En), length-append k f, length_kps plan.marks, length_fts plan.rows)

-- ---- bytes over a lent buffer

-- Two pieces written one after the other.
pub two_puts : (l : List ℕ) (at : ℕ) {m o : List ℕ} (t u : List ℕ) → m ≡ written l at t → o ≡ written m (at + length t) u → at + length t + length u ≤ length l → o ≡ written l at (t ++ u)
two_puts l at t u p q h = q ∙ ap (λ (x : List ℕ). written x (at + length t) u) p ∙ written_append l at t u h

-- ---- records written one after the other, each of the same length

-- So many records of f stand from a place on.
pub record Put (old : List ℕ) (from : ℕ) (f : ℕ → Record) (n : ℕ) (now : List ℕ) : Type 0 where
  pub long : length now ≡ length old
  pub is : now ≡ written old from (plan_records_bytes (up_to f n))

pub put_start : (old : List ℕ) (from : ℕ) (f : ℕ → Record) → from ≤ length old → Put old from f 0 old
unfolding flat_map
put_start old from f h = record { long = refl; is = written_none old from }

module _ (size : ℕ) (old : List ℕ) (from : ℕ) (f : ℕ → Record) (each : (k : ℕ) → length (encode (f k)) ≡ size) (n : ℕ) (now : List ℕ) (i : Put old from f n now) where
  pub put_more : from + size * n + size ≤ length old → (at : ℕ) → at ≡ from + size * n → (next : List ℕ) → next ≡ written now at (encode (f n)) → Put old from f (n + 1) next
  put_more h at e next w =
      let done = plan_records_bytes (up_to f n) in
      let place : at ≡ from + length done = rw (length_up_to_bytes size f each n) e in
      record {
        long = ap length w ∙ length_written now at (encode (f n)) ∙ i.long;
        is = rw (bytes_more f n) (two_puts old from done (encode (f n)) i.is (w ∙ ap (λ (x : ℕ). written now x (encode (f n))) place) (rw (length_up_to_bytes size f each n, each n) h));
      }

-- All rows written.
pub put_rows : (old : List ℕ) (from : ℕ) (slots chunks layers bytes : List ℕ) (n : ℕ) (now : List ℕ) → Put old from (λ k. ft_of (row_at slots chunks layers bytes k)) n now → n ≡ length slots → now ≡ written old from (plan_records_bytes (map ft_of (rows_of slots chunks layers bytes)))
put_rows old from slots chunks layers bytes n now i e =
    rw (map_up_to ft_of (row_at slots chunks layers bytes) (length slots), ← e) i.is
