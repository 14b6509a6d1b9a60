-- Lemmas. A file that splits into records, nothing after EN, is the bytes of those records: the
-- other way round from `Written`. Assumes nothing.
use Prim.Native.Nat.{ℕ, zero, suc, ◌+◌, ◌*◌, ◌-◌, ◌/◌, ◌%◌, ◌≤◌, ◌<◌}
use Rattle.std.specs.Prelude.{◌≡◌, true, false, List, [], ◌∷◌, ◌++◌, length, get_or, drop, T, eqb}
use Rattle.std.proofs.Math.Path.{refl}
use Rattle.std.proofs.Common.{sym, ap, ◌∙◌, append_assoc, append-nil, arith, add-one, drop_of_length-le, drop-cons, eqb→eq}
use Rattle.theory_basics.specs.Tests.{All}
use Rattle.theory_basics.specs.lemmas.Tests.{by_cond, and_T, T_true, not_T_false, all_append}
use Rattle.records.specs.Fields.{Bytes, h, w, h_at, w_at, marked}
use Rattle.records.specs.File.{Front, got, none, Format, ended, broken, Split, split_by, split_up_to, split, encode_all}

-- ---- bytes

pub byte_at : (s : List ℕ) (i : ℕ) → Bytes s → get_or s i 0 < 256
byte_at [] zero b = omega arith
byte_at [] (suc i) b = omega arith
byte_at (x ∷ s) zero b = b.0
byte_at (x ∷ s) (suc i) b = byte_at s i b.1

bytes_drop : (n : ℕ) (s : List ℕ) → Bytes s → Bytes (drop n s)
bytes_drop zero s b = b
bytes_drop (suc n) [] b = tt
bytes_drop (suc n) (x ∷ s) b = bytes_drop n s b.1

byte : (x : ℕ) → x % 256 < 256
byte x = omega arith

pub h_bytes : (x : ℕ) → Bytes (h x)
h_bytes x = (byte x, (byte (x / 256), tt))

pub w_bytes : (x : ℕ) → Bytes (w x)
w_bytes x = (byte x, (byte (x / 256), (byte (x / 65536), (byte (x / 16777216), tt))))

pub bytes_append : (a b : List ℕ) → Bytes a → Bytes b → Bytes (a ++ b)
bytes_append a b u v = all_append (λ (x : ℕ). x < 256) a b u v

-- ---- a field has the bytes that it was read from

h_low : (a b : ℕ) → a < 256 → b < 256 → (a + b * 256) % 256 ≡ a
h_low a b i j = omega arith

h_high : (a b : ℕ) → a < 256 → b < 256 → (a + b * 256) / 256 % 256 ≡ b
h_high a b i j = omega arith

w_0 : (x y : ℕ) → x < 65536 → y < 65536 → (x + y * 65536) % 256 ≡ x % 256
w_0 x y i j = omega arith

w_1 : (x y : ℕ) → x < 65536 → y < 65536 → (x + y * 65536) / 256 % 256 ≡ x / 256 % 256
w_1 x y i j = omega arith

w_2 : (x y : ℕ) → x < 65536 → y < 65536 → (x + y * 65536) / 65536 % 256 ≡ y % 256
w_2 x y i j = omega arith

w_3 : (x y : ℕ) → x < 65536 → y < 65536 → (x + y * 65536) / 16777216 % 256 ≡ y / 256 % 256
w_3 x y i j = omega arith

module _ (s : List ℕ) (b : Bytes s) where
  byte_exact : (at : ℕ) → at < length s → drop at s ≡ get_or s at 0 ∷ drop (at + 1) s
  byte_exact at l = rw (add-one at) (drop-cons s at 0 l)

  pub h_exact : (at : ℕ) → at + 1 < length s → drop at s ≡ h (h_at s at) ++ drop (at + 2) s
  h_exact at l =
      let e : at + 1 + 1 ≡ at + 2 = omega arith in
      let low = h_low (get_or s at 0) (get_or s (at + 1) 0) (byte_at s at b) (byte_at s (at + 1) b) in
      let high = h_high (get_or s at 0) (get_or s (at + 1) 0) (byte_at s at b) (byte_at s (at + 1) b) in
      byte_exact at (omega arith) ∙ rw (low, high, ← e) (ap (λ (l : List ℕ). get_or s at 0 ∷ l) (byte_exact (at + 1) (omega arith)))

  h_small : (at : ℕ) → h_at s at < 65536
  h_small at = omega (arith, byte_at s at b, byte_at s (at + 1) b)

  pub w_exact : (at : ℕ) → at + 3 < length s → drop at s ≡ w (w_at s at) ++ drop (at + 4) s
  w_exact at l =
      let e : at + 2 + 2 ≡ at + 4 = omega arith in
      let i = h_small at in
      let j = h_small (at + 2) in
      let lo = h_at s at in
      let hi = h_at s (at + 2) in
      let four : w (w_at s at) ++ drop (at + 4) s ≡ h lo ++ (h hi ++ drop (at + 2 + 2) s) = rw (w_0 lo hi i j, w_1 lo hi i j, w_2 lo hi i j, w_3 lo hi i j, e) in
      h_exact at (omega arith) ∙ ap (λ (l : List ℕ). h lo ++ l) (h_exact (at + 2) (omega arith)) ∙ sym four

  pub mark_exact : (x y : ℕ) → 2 ≤ length s → T (marked (x ∷ y ∷ []) s) → s ≡ x ∷ y ∷ drop 2 s
  mark_exact x y l t =
      let u = and_T (eqb (get_or s 0 0) x) (eqb (get_or s 1 0) y) t in
      let first = eqb→eq (get_or s 0 0) x u.0 in
      let second = eqb→eq (get_or s 1 0) y u.1 in
      byte_exact 0 (omega arith) ∙ ap (λ (l : List ℕ). get_or s 0 0 ∷ l) (byte_exact 1 (omega arith)) ∙ rw (first, second)

-- ---- a file has the bytes of its records

ended_same : (m n : ℕ) → ended m ≡ ended n → m ≡ n
ended_same m n e = cc

broken_ended : (m n : ℕ) → broken m ≡ ended n → ⊥
broken_ended m n e = let z : ◌≡◌ {A = ℕ} 0 1 = cc in omega arith

module _ {R : Type 0} (F : Format R) (encode : R → List ℕ) (en : R) where
  -- A record that stands in front of some bytes has just these bytes there.
  pub record Exact : Type 0 where
    pub front_exact : (s : List ℕ) → Bytes s → (r : R) (n : ℕ) → F.front s ≡ got r n → s ≡ encode r ++ drop n s
    pub only_end : (r : R) → F.is_end r ≡ true → r ≡ en

  module _ (x : Exact) where
    -- A split whose records, with EN, are the bytes s, if it stops at EN with nothing after it.
    abbrev Says : List ℕ → Split R → Type 0
    Says s f = f.stop ≡ ended 0 → s ≡ encode_all encode f.records ++ encode en

    exact_by : (rest : List ℕ → Split R) → ((t : List ℕ) → Bytes t → Says t (rest t)) → (s : List ℕ) → Bytes s → (y : Front R) → F.front s ≡ y → Says s (split_by F rest s y)
    exact_by rest more s b (none n) i = λ e. absurd (broken_ended n 0 e)
    exact_by rest more s b (got r n) i =
        by_cond (Says s) (F.is_end r)
        (λ t e.
        let over : length s ≤ n = omega (arith, ended_same (length s - n) 0 e) in
        let same : r ≡ en = x.only_end r (T_true (F.is_end r) t) in
        x.front_exact s b r n i ∙ rw (drop_of_length-le s {i = n} over, append-nil (encode r), same))
        (λ t e.
        rw (append_assoc (encode r) (encode_all encode (rest (drop n s)).records) (encode en))
        (x.front_exact s b r n i ∙ ap (λ (l : List ℕ). encode r ++ l) (more (drop n s) (bytes_drop n s b) e)))

    exact_step : (k : ℕ) (s : List ℕ) → Bytes s → (split_up_to F k s).stop ≡ ended 0 → s ≡ encode_all encode (split_up_to F k s).records ++ encode en
    unfolding split_up_to
    exact_step zero s b e = absurd (broken_ended 1 0 e)
    exact_step (suc k) s b e = exact_by (split_up_to F k) (exact_step k) s b (F.front s) refl e

    -- The file is its records' bytes and EN.
    pub split_exact : (s : List ℕ) → Bytes s → (split F s).stop ≡ ended 0 → s ≡ encode_all encode (split F s).records ++ encode en
    split_exact s b e = exact_step (length s + 1) s b e

-- ---- no record before EN is EN

module _ {R : Type 0} (F : Format R) where
  abbrev pub NoEnd : List R → Type 0
  NoEnd rs = All (λ (r : R). F.is_end r ≡ false) rs

  none_end_by : (rest : List ℕ → Split R) → ((t : List ℕ) → NoEnd (rest t).records) → (s : List ℕ) (y : Front R) → NoEnd (split_by F rest s y).records
  none_end_by rest more s (none n) = tt
  none_end_by rest more s (got r n) = by_cond (λ (f : Split R). NoEnd f.records) (F.is_end r) (λ t. tt) (λ t. (not_T_false (F.is_end r) t, more (drop n s)))

  none_end_step : (k : ℕ) (s : List ℕ) → NoEnd (split_up_to F k s).records
  unfolding split_up_to
  none_end_step zero s = tt
  none_end_step (suc k) s = none_end_by (split_up_to F k) (none_end_step k) s (F.front s)

  pub none_end : (s : List ℕ) → NoEnd (split F s).records
  none_end s = none_end_step (length s + 1) s
