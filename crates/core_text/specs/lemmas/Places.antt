-- Lemmas. Text put at a place of a lent buffer, and another behind it. Assumes nothing.
use Rattle.std.specs.Prelude.{ℕ, ◌+◌, ◌≤◌, ◌<◌, ◌≡◌, refl, List, [], ◌∷◌, ◌++◌, length, take, drop, set}
use Rattle.std.proofs.Common.{sym, ap, ◌∙◌, append_assoc, arith, add-one, length-append, take_at}
use Rattle.std.proofs.lemmas.List.{set_split}
use Rattle.records.specs.Fields.{written}
use Rattle.records.specs.lemmas.Puts.{length_written, written_append, written_fits, written_none, written_whole}

-- A text was put at a place of a buffer; the place after it.
pub record Put (old : List ℕ) (at : ℕ) (t : List ℕ) (out : List ℕ) (next : ℕ) : Type 0 where
  pub buffer : out ≡ written old at t
  pub place : next ≡ at + length t

pub put_length : {old out t : List ℕ} {at next : ℕ} → Put old at t out next → length out ≡ length old
put_length {old} {out} {t} {at} p = ap length p.buffer ∙ length_written old at t

-- What stands before and after the text is the old.
pub put_between : {old out t : List ℕ} {at next : ℕ} → at + length t ≤ length old → Put old at t out next → out ≡ take at old ++ (t ++ drop (at + length t) old)
put_between {old} {out} {t} {at} h p = p.buffer ∙ written_fits old at t h ∙ append_assoc (take at old) t (drop (at + length t) old)

-- A text at the front of a buffer.
pub put_whole : {old out t : List ℕ} {next : ℕ} → length t ≤ length old → Put old 0 t out next → out ≡ t ++ drop (length t) old
put_whole {old} {out} {t} h p = p.buffer ∙ written_whole old t h

-- It is what stands before the place after it.
pub put_front : {old out t : List ℕ} {next : ℕ} → length t ≤ length old → Put old 0 t out next → (next ≤ length out) × (take next out ≡ t)
put_front {old} {out} {t} {next} h p =
    (omega (arith, put_length p, p.place), rw (put_whole h p) (take_at t (drop (length t) old) next (omega (arith, p.place))))

-- ---- nothing, a byte, one text after another

pub put_none : (old : List ℕ) (at : ℕ) → Put old at [] old at
put_none old at = record { buffer = written_none old at; place = omega arith }

pub put_byte : (old : List ℕ) (at v : ℕ) → at < length old → Put old at (v ∷ []) (set old at v) (at + 1)
put_byte old at v h = record {
  buffer = set_split old at v h ∙ rw (sym (add-one at)) (sym (append_assoc (take at old) (v ∷ []) (drop (at + 1) old)) ∙ sym (written_fits old at (v ∷ []) (omega arith)));
  place = refl;
}

-- Where two texts fit, the first does.
pub room_first : {n : ℕ} (at : ℕ) (s t : List ℕ) → at + length (s ++ t) ≤ n → at + length s ≤ n
room_first at s t h = omega (arith, length-append s t)

-- What is left of the room after the first of two texts.
pub put_room : {old mid : List ℕ} {at k : ℕ} (s t : List ℕ) → at + length (s ++ t) ≤ length old → Put old at s mid k → k + length t ≤ length mid
put_room s t h p = omega (arith, length-append s t, put_length p, p.place)

pub put_then : {old mid out : List ℕ} {at k next : ℕ} (s t : List ℕ) → at + length (s ++ t) ≤ length old → Put old at s mid k → Put mid k t out next → Put old at (s ++ t) out next
put_then {old} {mid} {out} {at} {k} {next} s t h p q = record {
  buffer = q.buffer ∙ rw (p.buffer, p.place) (written_append old at s t (omega (arith, length-append s t)));
  place = q.place ∙ (omega (arith, p.place, length-append s t));
}
