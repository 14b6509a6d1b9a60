-- Lemmas. A record of a job file that stands in front of a string of bytes has just its own bytes
-- there. Assumes nothing.
use Rattle.std.specs.Prelude.{ℕ, ◌%◌, ◌≤◌, ◌≡◌, refl, Bool, true, ◌&&◌, List, [], ◌∷◌, ◌++◌, length, get_or, drop, T, leb}
use Rattle.std.proofs.Common.{ap, ◌∙◌, arith, drop-cons, leb→le}
use Rattle.theory_basics.specs.lemmas.Tests.{by_cond, and_T}
use Rattle.records.specs.Fields.{Bytes, h, w, h_at, marked}
use Rattle.records.specs.File.{Front, got, none, encode_all}
use Rattle.records.specs.lemmas.Exact.{h_bytes, w_bytes, bytes_append, h_exact, w_exact, mark_exact, Exact, byte_at}
use Rattle.jobrecords.specs.declared.Record.{Record}
use Rattle.jobrecords.specs.declared.Record.TheVariants.{Pg, Ly, Sz, Bw, En}
use Rattle.jobrecords.specs.Records.{PG, LY, SZ, BW, EN, b, encode, whole, programme_at, layer_at, override_at, run_at, front, is_end}
use Rattle.jobrecords.specs.Refusal.{format}

-- ---- what records are written as is a string of bytes

encode_bytes : (r : Record) → Bytes (encode r)
encode_bytes (Pg p) = (
  omega arith,
  (
    omega arith,
    bytes_append (h p.chunks) (h p.span ++ h p.delay ++ h p.limit) (h_bytes p.chunks)
        (bytes_append (h p.span) (h p.delay ++ h p.limit) (h_bytes p.span) (bytes_append (h p.delay) (h p.limit) (h_bytes p.delay) (h_bytes p.limit))),
  ),
)
encode_bytes (Ly size) = (omega arith, (omega arith, w_bytes size))
encode_bytes (Sz chunk layer bytes) = (
  omega arith,
  (omega arith, bytes_append (h chunk) (b layer ++ w bytes) (h_bytes chunk) (bytes_append (b layer) (w bytes) (omega arith, tt) (w_bytes bytes))),
)
encode_bytes (Bw count bytes) = (omega arith, (omega arith, bytes_append (h count) (w bytes) (h_bytes count) (w_bytes bytes)))
encode_bytes En = (omega arith, (omega arith, tt))

pub file_bytes : (rs : List Record) → Bytes (encode_all encode rs ++ encode En)
file_bytes rs = bytes_append (encode_all encode rs) (encode En) (all_bytes rs) (encode_bytes En) where
  all_bytes : (l : List Record) → Bytes (encode_all encode l)
  all_bytes [] = tt
  all_bytes (r ∷ l) = bytes_append (encode r) (encode_all encode l) (encode_bytes r) (all_bytes l)

-- ---- a record

module _ (s : List ℕ) (k : Bytes s) where
  programme_exact : 10 ≤ length s → T (marked PG s) → s ≡ encode (programme_at s) ++ drop 10 s
  programme_exact l t =
      mark_exact s k 80 71 (omega arith) t
      ∙ ap (λ (l : List ℕ). PG ++ l) (h_exact s k 2 (omega arith)
      ∙ ap (λ (l : List ℕ). h (h_at s 2) ++ l) (h_exact s k 4 (omega arith)
      ∙ ap (λ (l : List ℕ). h (h_at s 4) ++ l) (h_exact s k 6 (omega arith)
      ∙ ap (λ (l : List ℕ). h (h_at s 6) ++ l) (h_exact s k 8 (omega arith)))))

  layer_exact : 6 ≤ length s → T (marked LY s) → s ≡ encode (layer_at s) ++ drop 6 s
  layer_exact l t = mark_exact s k 76 89 (omega arith) t ∙ ap (λ (l : List ℕ). LY ++ l) (w_exact s k 2 (omega arith))

  override_exact : 9 ≤ length s → T (marked SZ s) → s ≡ encode (override_at s) ++ drop 9 s
  override_exact l t =
      let one : get_or s 4 0 % 256 ≡ get_or s 4 0 = omega (arith, byte_at s 4 k) in
      let layer : drop 4 s ≡ b (get_or s 4 0) ++ drop 5 s = rw one (drop-cons s 4 0 (omega arith)) in
      mark_exact s k 83 90 (omega arith) t
      ∙ ap (λ (l : List ℕ). SZ ++ l) (h_exact s k 2 (omega arith)
      ∙ ap (λ (l : List ℕ). h (h_at s 2) ++ l) (layer ∙ ap (λ (l : List ℕ). b (get_or s 4 0) ++ l) (w_exact s k 5 (omega arith))))

  run_exact : 8 ≤ length s → T (marked BW s) → s ≡ encode (run_at s) ++ drop 8 s
  run_exact l t =
      mark_exact s k 66 87 (omega arith) t
      ∙ ap (λ (l : List ℕ). BW ++ l) (h_exact s k 2 (omega arith) ∙ ap (λ (l : List ℕ). h (h_at s 2) ++ l) (w_exact s k 4 (omega arith)))

  -- ---- whatever stands in front

  -- The record has its own bytes in front.
  abbrev Own : Front Record → Type 0
  Own (got r n) = s ≡ encode r ++ drop n s
  Own (none n) = Unit {0}

  whole_own : (n : ℕ) (r : Record) → (n ≤ length s → s ≡ encode r ++ drop n s) → Own (whole s n r)
  whole_own n r f = by_cond Own (leb n (length s)) (λ t. f (leb→le n (length s) t)) (λ t. tt)

  front_own : (sequenced : Bool) → Own (front sequenced s)
  unfolding front
  front_own sequenced =
      by_cond Own (leb 2 (length s))
      (λ z. by_cond Own (marked PG s) (λ t. whole_own 10 (programme_at s) (λ l. programme_exact l t))
      (λ z. by_cond Own (marked LY s) (λ t. whole_own 6 (layer_at s) (λ l. layer_exact l t))
      (λ z. by_cond Own (marked BW s) (λ t. whole_own 8 (run_at s) (λ l. run_exact l t))
      (λ z. by_cond Own (marked EN s) (λ t. whole_own 2 En (λ l. mark_exact s k 69 78 l t))
      (λ z. by_cond Own (sequenced && marked SZ s) (λ t. whole_own 9 (override_at s) (λ l. override_exact l (and_T sequenced (marked SZ s) t).1)) (λ z. tt))))))
      (λ z. tt)

only_end : (r : Record) → is_end r ≡ true → r ≡ En
only_end (Pg p) e = absurd (let z : ◌≡◌ {A = ℕ} 0 1 = cc in omega arith)
only_end (Ly size) e = absurd (let z : ◌≡◌ {A = ℕ} 0 1 = cc in omega arith)
only_end (Sz chunk layer bytes) e = absurd (let z : ◌≡◌ {A = ℕ} 0 1 = cc in omega arith)
only_end (Bw count bytes) e = absurd (let z : ◌≡◌ {A = ℕ} 0 1 = cc in omega arith)
only_end En e = refl

pub exact : (sequenced : Bool) → Exact (format sequenced) encode En
exact sequenced = record { front_exact = λ s k r n e. rw e at (front_own s k sequenced); only_end = only_end }
