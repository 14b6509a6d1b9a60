-- Laws on lines in a buffer: lines of one time that double. Assumes nothing.
use Prim.Native.Nat.{ℕ, zero, suc, ◌+◌, ◌*◌, ◌-◌, ◌≤◌, ◌<◌, min}
use mathlib.Core.Path.{◌≡◌, refl, sym, ap, ◌∙◌}
use mathlib.Core.List.{List, [], ◌∷◌, ◌++◌, append_assoc}
use native.Mathlib.Omega.{arith}
use native.Mathlib.Nat.{mul-le-mul_right}
use lib.ListN.{length, take, drop, replicate, length-append, replicate-append-replicate}
use lib.Seq.{length-take-le, take_at, drop_at, drop-append-add, drop-drop}
use Rattle.trace.specs.Trace.{lines_bytes}
use Rattle.records.specs.lemmas.Puts.{written_fits}
use Rattle.core_text.specs.lemmas.Places.{Put, put_between, put_length, put_none, put_then}

-- ---- lines of one time

pub bytes_append : (a b : List (List ℕ)) → lines_bytes (a ++ b) ≡ lines_bytes a ++ lines_bytes b
bytes_append [] b = refl
bytes_append (l ∷ a) b = ap (λ (t : List ℕ). l ++ (10 ∷ t)) (bytes_append a b) ∙ sym (append_assoc l (10 ∷ lines_bytes a) (lines_bytes b))

pub bytes_many : (m n : ℕ) (l : List ℕ) → lines_bytes (replicate (m + n) l) ≡ lines_bytes (replicate m l) ++ lines_bytes (replicate n l)
bytes_many m n l = ap lines_bytes (sym (replicate-append-replicate m n l)) ∙ bytes_append (replicate m l) (replicate n l)

pub bytes_long : (n : ℕ) (l : List ℕ) → length (lines_bytes (replicate n l)) ≡ n * (length l + 1)
bytes_long zero l = omega arith
bytes_long (suc n) l = omega (arith, length-append l (10 ∷ lines_bytes (replicate n l)), bytes_long n l)

-- What stands before and after a linesBytes is the old.
module _ {old mid s : List ℕ} {at k : ℕ} (r : at + length s ≤ length old) (p : Put old at s mid k) where
  before : length (take at old) ≡ at
  before = length-take-le at old (omega arith)

  front_same : take at mid ≡ take at old
  front_same = rw (put_between r p) (take_at (take at old) (s ++ drop (at + length s) old) at before)

  back_same : (m : ℕ) → at + length s ≤ m → drop m mid ≡ drop m old
  back_same m h =
      let x : List ℕ = take at old ++ s in
      let y : List ℕ = drop (at + length s) old in
      let e : length x ≡ at + length s = length-append (take at old) s ∙ ap (λ (n : ℕ). n + length s) before in
      let a : mid ≡ x ++ y = put_between r p ∙ sym (append_assoc (take at old) s y) in
      let d : m ≡ length x + (m - (at + length s)) = omega arith in
      let f : at + length s + (m - (at + length s)) ≡ m = omega arith in
      ap (drop m) a ∙ ap (λ (n : ℕ). drop n (x ++ y)) d ∙ drop-append-add x y (m - (at + length s)) ∙ drop-drop (m - (at + length s)) (at + length s) old ∙ ap (λ (n : ℕ). drop n old) f

  -- The linesBytes over itself.
  put_self : Put mid at s mid k
  put_self =
      let long : length mid ≡ length old = put_length p in
      record {
        buffer = put_between r p ∙ sym (append_assoc (take at old) s (drop (at + length s) old)) ∙ sym (written_fits mid at s (omega arith) ∙ rw (front_same, back_same (at + length s) (omega arith)));
        place = p.place;
      }

  -- A longer linesBytes over it.
  put_again : {t out : List ℕ} {next : ℕ} → length s ≤ length t → at + length t ≤ length old → Put mid at t out next → Put old at t out next
  put_again {t} h fits q =
      let long : length mid ≡ length old = put_length p in
      record {
        buffer = q.buffer ∙ written_fits mid at t (omega arith) ∙ rw (front_same, back_same (at + length t) (omega arith)) (sym (written_fits old at t fits));
        place = q.place;
      }

-- No line.
pub none_put : (old : List ℕ) (at : ℕ) (l : List ℕ) (count : ℕ) → count < 1 → Put old at (lines_bytes (replicate count l)) old at
none_put old at l count h = let e : count ≡ 0 = omega arith in rw e (put_none old at)

pub record Doubling (old : List ℕ) (at : ℕ) (l : List ℕ) (count : ℕ) (out : List ℕ) (next made : ℕ) : Type 0 where
  pub some : 1 ≤ made
  pub inside : made ≤ count
  pub put : Put old at (lines_bytes (replicate made l)) out next

module _ (old : List ℕ) (at : ℕ) (l : List ℕ) (count : ℕ) (room : at + length (lines_bytes (replicate count l)) ≤ length old) where
  fits : (m : ℕ) → m ≤ count → at + length (lines_bytes (replicate m l)) ≤ length old
  fits m h = omega (arith, bytes_long m l, bytes_long count l, mul-le-mul_right (length l + 1) h)

  pub first_fits : 1 ≤ count → at + length (l ++ (10 ∷ [])) ≤ length old
  first_fits h = fits 1 h

  module _ (mid : List ℕ) (first : ℕ) (some : 1 ≤ count) (p : Put old at (l ++ (10 ∷ [])) mid first) where
    mid_long : length mid ≡ length old
    mid_long = put_length p

    pub width_is : first - at ≡ length l + 1
    width_is = omega (arith, p.place, length-append l (10 ∷ []))

    pub doubling_start : Doubling mid at l count mid first 1
    doubling_start = record { some = omega arith; inside = some; put = put_self (first_fits some) p }

    module _ (out : List ℕ) (next made : ℕ) (d : Doubling mid at l count out next made) where
      made_fits : at + length (lines_bytes (replicate made l)) ≤ length mid
      made_fits = omega (arith, fits made d.inside, mid_long)

      pub out_long : length out ≡ length old
      out_long = put_length d.put ∙ mid_long

      module _ (here : made < count) where
        abbrev more : ℕ
        more = min made (count - made)

        pub apart : at + more * (first - at) ≤ next
        apart = rw width_is (omega (arith, d.put.place, bytes_long made l, mul-le-mul_right (length l + 1) (least made (count - made))))
          where
            least : (a b : ℕ) → min a b ≤ a
            least a b = omega arith

        sum_fits : at + length (lines_bytes (replicate (made + more) l)) ≤ length mid
        sum_fits = omega (arith, fits (made + more) (omega (arith, d.inside)), mid_long)

        pub copy_fits : next + more * (first - at) ≤ length out
        copy_fits = rw width_is (omega (arith, d.put.place, bytes_long made l, bytes_long more l, sum_fits, out_long, mid_long, ap length (bytes_many made more l), length-append (lines_bytes (replicate made l)) (lines_bytes (replicate more l))))

        -- What is copied is lines.
        lines_are : take (more * (first - at)) (drop at out) ≡ lines_bytes (replicate more l)
        lines_are =
            let t : List ℕ = lines_bytes (replicate made l) in
            let rest : List ℕ = drop (at + length t) mid in
            let k : length (take at mid) ≡ at = length-take-le at mid (omega (arith, made_fits)) in
            let e : drop at out ≡ t ++ rest = rw (put_between made_fits d.put) (drop_at (take at mid) (t ++ rest) at k) in
            let s : more + (made - more) ≡ made = omega arith in
            let f : t ≡ lines_bytes (replicate more l) ++ lines_bytes (replicate (made - more) l) = rw s at (bytes_many more (made - more) l) in
            let g : drop at out ≡ lines_bytes (replicate more l) ++ (lines_bytes (replicate (made - more) l) ++ rest) =
            e ∙ ap (λ (x : List ℕ). x ++ rest) f ∙ append_assoc (lines_bytes (replicate more l)) (lines_bytes (replicate (made - more) l)) rest in
            ap (take (more * (first - at))) g
            ∙ take_at (lines_bytes (replicate more l)) (lines_bytes (replicate (made - more) l) ++ rest) (more * (first - at)) (bytes_long more l ∙ rw width_is)

        pub doubling_more : (out' : List ℕ) (next' : ℕ) → Put out next (take (more * (first - at)) (drop at out)) out' next' → Doubling mid at l count out' next' (made + more)
        doubling_more out' next' q =
            let e = bytes_many made more l in
            record {
              some = omega (arith, d.some);
              inside = omega (arith, d.inside);
              put = rw e (put_then (lines_bytes (replicate made l)) (lines_bytes (replicate more l)) (rw e at sum_fits) d.put (rw lines_are at q));
            }

      pub doubling_end : count ≤ made → Put old at (lines_bytes (replicate count l)) out next
      doubling_end h =
          let e : made ≡ count = omega (arith, d.inside) in
          put_again (first_fits some) p (omega (arith, bytes_long count l, length-append l (10 ∷ []), mul-le-mul_right (length l + 1) some)) room (rw e at d.put)
