-- Lemmas. A record lies within the bytes that it stands in front of, and where records break off
-- the refusal is not 0. Assumes nothing.
use Prim.Native.Nat.{ℕ, zero, suc, ◌+◌, ◌≤◌, ◌<◌}
use Rattle.std.specs.Prelude.{◌≡◌, Bool, ◌&&◌, List, length, drop, leb}
use native.Mathlib.Omega.{arith}
use Rattle.std.proofs.Common.{leb→le}
use Rattle.theory_basics.specs.lemmas.Tests.{by_cond}
use Rattle.records.specs.Fields.{marked}
use Rattle.records.specs.File.{Front, got, none, Stop, ended, broken, Split, split_by, split_up_to, split}
use Rattle.jobrecords.specs.declared.Record.{Record}
use Rattle.jobrecords.specs.declared.Record.TheVariants.{En}
use Rattle.jobrecords.specs.Records.{PG, LY, SZ, BW, EN, programme_at, layer_at, override_at, run_at, whole, front, is_end}
use Rattle.jobrecords.specs.Refusal.{format}

-- A record lies within the bytes, and where there is none the refusal is not 0.
abbrev pub Sound : List ℕ → Front Record → Type 0
Sound s (got r n) = (0 < n) × (n ≤ length s)
Sound s (none n) = n ≡ 0 → ⊥

whole_sound : (s : List ℕ) (n : ℕ) (r : Record) → 0 < n → Sound s (whole s n r)
whole_sound s n r h = by_cond (Sound s) (leb n (length s)) (λ t. (h, leb→le n (length s) t)) (λ t e. omega arith)

pub front_sound : (sequenced : Bool) (s : List ℕ) → Sound s (front sequenced s)
unfolding front
front_sound sequenced s =
    by_cond (Sound s) (leb 2 (length s))
    (λ t. by_cond (Sound s) (marked PG s) (λ u. whole_sound s 10 (programme_at s) (omega arith))
    (λ u. by_cond (Sound s) (marked LY s) (λ v. whole_sound s 6 (layer_at s) (omega arith))
    (λ v. by_cond (Sound s) (marked BW s) (λ w. whole_sound s 8 (run_at s) (omega arith))
    (λ w. by_cond (Sound s) (marked EN s) (λ x. whole_sound s 2 En (omega arith))
    (λ x. by_cond (Sound s) (sequenced && marked SZ s) (λ y. whole_sound s 9 (override_at s) (omega arith)) (λ y e. omega arith))))))
    (λ t e. omega arith)

-- Where the records stop, a refusal is not 0.
abbrev SoundStop : Stop → Type 0
SoundStop (ended k) = Unit {0}
SoundStop (broken n) = n ≡ 0 → ⊥

module _ (q : Bool) where
  by_front : (rest : List ℕ → Split Record) → ((t : List ℕ) → SoundStop (rest t).stop) → (s : List ℕ) (x : Front Record) → Sound s x → SoundStop (split_by (format q) rest s x).stop
  by_front rest more s (got r n) h = by_cond (λ (f : Split Record). SoundStop f.stop) (is_end r) (λ t. tt) (λ t. more (drop n s))
  by_front rest more s (none n) h = h

  stop_sound : (k : ℕ) (s : List ℕ) → SoundStop (split_up_to (format q) k s).stop
  unfolding split_up_to
  stop_sound zero s = λ e. omega arith
  stop_sound (suc k) s = by_front (split_up_to (format q) k) (stop_sound k) s (front q s) (front_sound q s)

  pub broken_some : (s : List ℕ) (n : ℕ) → (split (format q) s).stop ≡ broken n → n ≡ 0 → ⊥
  broken_some s n e = rw e at (stop_sound (length s + 1) s)
