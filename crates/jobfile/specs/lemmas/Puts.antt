-- Lemmas. Records written one after the other into a lent buffer, which the contracts of the
-- writer's private functions cite. Assumes nothing.
use Rattle.std.specs.Prelude.{ℕ, ◌+◌, ◌≤◌, ◌≡◌, refl, List, [], ◌∷◌, ◌++◌, length}
use Rattle.std.proofs.Common.{sym, ap, ◌∙◌, append_assoc, append-nil, arith, length-append}
use Rattle.records.specs.Fields.{written}
use Rattle.records.specs.File.{encode_all}
use Rattle.records.specs.lemmas.Puts.{length_written, written_append, written_none}
use Rattle.jobrecords.specs.declared.Record.{Record}
use Rattle.jobrecords.specs.Records.{encode}

-- The bytes are written at a place, and the next place follows them.
pub record Puts (out : List ℕ) (at : ℕ) (bytes : List ℕ) (out' : List ℕ) (next : ℕ) : Type 0 where
  pub out_is : out' ≡ written out at bytes
  pub next_is : next ≡ at + length bytes

-- ---- bytes after bytes

pub puts_none : (out : List ℕ) (at : ℕ) → Puts out at [] out at
puts_none out at = record { out_is = written_none out at; next_is = omega arith }

module _ (out : List ℕ) (at : ℕ) (a out' : List ℕ) (m : ℕ) (p : Puts out at a out' m) where
  pub length_puts : length out' ≡ length out
  length_puts = ap length p.out_is ∙ length_written out at a

  pub puts_then : (b out'' : List ℕ) (n : ℕ) → Puts out' m b out'' n → at + length a + length b ≤ length out → Puts out at (a ++ b) out'' n
  puts_then b out'' n q h =
      record {
        out_is = q.out_is ∙ rw (p.out_is, p.next_is) (written_append out at a b h);
        next_is = omega (arith, p.next_is, q.next_is, length-append a b);
      }

-- ---- records after records

abbrev pub records_bytes : List Record → List ℕ
records_bytes rs = encode_all encode rs

pub bytes_append : (a b : List Record) → records_bytes (a ++ b) ≡ records_bytes a ++ records_bytes b
bytes_append [] b = refl
bytes_append (r ∷ a) b = ap (λ (l : List ℕ). encode r ++ l) (bytes_append a b) ∙ sym (append_assoc (encode r) (records_bytes a) (records_bytes b))

-- Some records are being written into a buffer from a place on: the rest is still to come.
pub record Underway (out : List ℕ) (at : ℕ) (all rest : List Record) (out' : List ℕ) (here : ℕ) : Type 0 where
  pub done : List Record
  pub all_are : all ≡ done ++ rest
  pub puts : Puts out at (records_bytes done) out' here

pub underway_start : (out : List ℕ) (at : ℕ) (all : List Record) → Underway out at all all out at
underway_start out at all = record { done = []; all_are = refl; puts = puts_none out at }

module _ (out : List ℕ) (at : ℕ) (all : List Record) where
  pub underway_end : (out' : List ℕ) (here : ℕ) → Underway out at all [] out' here → Puts out at (records_bytes all) out' here
  underway_end out' here u = rw (u.all_are, append-nil u.done) u.puts

  module _ (fits : at + length (records_bytes all) ≤ length out) (r : Record) (rest : List Record) (out' : List ℕ) (here : ℕ) (u : Underway out at all (r ∷ rest) out' here) where
    whole_length : length (records_bytes all) ≡ length (records_bytes u.done) + (length (encode r) + length (records_bytes rest))
    whole_length =
        ap (λ (l : List Record). length (records_bytes l)) u.all_are
        ∙ ap length (bytes_append u.done (r ∷ rest))
        ∙ simp length-append

    -- The next record fits.
    pub underway_fits : here + length (encode r) ≤ length out'
    underway_fits = omega (arith, whole_length, u.puts.next_is, length_puts out at (records_bytes u.done) out' here u.puts)

    pub underway_more : (out'' : List ℕ) (next : ℕ) → Puts out' here (encode r) out'' next → Underway out at all rest out'' next
    underway_more out'' next p =
        let one : records_bytes (u.done ++ (r ∷ [])) ≡ records_bytes u.done ++ encode r = bytes_append u.done (r ∷ []) ∙ ap (λ (l : List ℕ). records_bytes u.done ++ l) (append-nil (encode r)) in
        record {
          done = u.done ++ (r ∷ []);
          all_are = u.all_are ∙ sym (append_assoc u.done (r ∷ []) rest);
          puts = rw one (puts_then out at (records_bytes u.done) out' here u.puts (encode r) out'' next p (omega (arith, whole_length)));
        }
