-- Theorems. 17 by pairs: which record may stand after which, a line a pair, and that the test of
-- Refusal (`follows`) says this. EN before a record is none before it: EN never stands before
-- another.
use Rattle.std.specs.Prelude.{ℕ, ◌≡◌, ◌↔◌, T, eqb}
use Rattle.std.proofs.Common.{T_not, eqb→eq}
use Rattle.std.proofs.Math.Dec.{not_T}
use Rattle.theory_basics.specs.lemmas.Tests.{eqb_iff}
use Rattle.job.specs.declared.Programme.{Programme}
use Rattle.jobrecords.specs.declared.Record.{Record}
use Rattle.jobrecords.specs.declared.Record.TheVariants.{Pg, Ly, Sz, Bw, En}
use Rattle.jobrecords.specs.Refusal.{follows}

-- "`PG`, all `LY`, all `BW`, `EN`" with the SZs "between the `LY` and the `BW` ones"; a run is not
-- followed by one of the same bytes. What is lacking at EN has its own number.
pub data Follows : Record → Record → Type 0 where
  pg_first : {p : Programme} → Follows En (Pg p)
  pg_ly : {p : Programme} {z : ℕ} → Follows (Pg p) (Ly z)
  ly_ly : {y z : ℕ} → Follows (Ly y) (Ly z)
  pg_sz : {p : Programme} {c l b : ℕ} → Follows (Pg p) (Sz c l b)
  ly_sz : {z c l b : ℕ} → Follows (Ly z) (Sz c l b)
  sz_sz : {c l b d m e : ℕ} → Follows (Sz c l b) (Sz d m e)
  pg_bw : {p : Programme} {k b : ℕ} → Follows (Pg p) (Bw k b)
  ly_bw : {z k b : ℕ} → Follows (Ly z) (Bw k b)
  sz_bw : {c l y k b : ℕ} → Follows (Sz c l y) (Bw k b)
  bw_bw : {k a m b : ℕ} → (a ≡ b → ⊥) → Follows (Bw k a) (Bw m b)
  any_en : {q : Record} → Follows q En

tested : (q r : Record) → Follows q r → T (follows q r)
tested q r pg_first = tt
tested q r pg_ly = tt
tested q r ly_ly = tt
tested q r pg_sz = tt
tested q r ly_sz = tt
tested q r sz_sz = tt
tested q r pg_bw = tt
tested q r ly_bw = tt
tested q r sz_bw = tt
tested q r (bw_bw {a = a} {b = b} n) = not_T (eqb a b) (λ t. n (eqb→eq a b t))
tested q r any_en = tt

found : (q r : Record) → T (follows q r) → Follows q r
found (Pg p) (Pg o) t = absurd t
found (Ly y) (Pg p) t = absurd t
found (Sz c l b) (Pg p) t = absurd t
found (Bw k b) (Pg p) t = absurd t
found En (Pg p) t = pg_first
found (Pg p) (Ly z) t = pg_ly
found (Ly y) (Ly z) t = ly_ly
found (Sz c l b) (Ly z) t = absurd t
found (Bw k b) (Ly z) t = absurd t
found En (Ly z) t = absurd t
found (Pg p) (Sz c l b) t = pg_sz
found (Ly z) (Sz c l b) t = ly_sz
found (Sz d m e) (Sz c l b) t = sz_sz
found (Bw k y) (Sz c l b) t = absurd t
found En (Sz c l b) t = absurd t
found (Pg p) (Bw k b) t = pg_bw
found (Ly z) (Bw k b) t = ly_bw
found (Sz c l y) (Bw k b) t = sz_bw
found (Bw m a) (Bw k b) t = bw_bw (λ e. T_not (eqb a b) t ((eqb_iff a b).1 e))
found En (Bw k b) t = absurd t
found (Pg p) En t = any_en
found (Ly z) En t = any_en
found (Sz c l b) En t = any_en
found (Bw k b) En t = any_en
found En En t = any_en

pub follows_iff : (q r : Record) → T (follows q r) ↔ Follows q r
follows_iff q r = (found q r, tested q r)
