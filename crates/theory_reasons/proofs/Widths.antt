-- Lemmas. How large the numbers of a line are, and how many bytes the output has at most.
use Rattle.std.specs.Prelude.{ℕ, zero, suc, ◌+◌, ◌*◌, ◌-◌, ◌≤◌, ◌<◌, ◌≡◌, refl, cond, List, [], ◌∷◌, ◌++◌, map, leb, ltb, length}
use Rattle.std.proofs.Common.{◌∙◌, ⊎_elim, arith, le-leb, lt-ltb, le-ltb, ltb→lt, nltb→le, length-append}
use Rattle.std.proofs.lemmas.Bool.{lt-leb}
use Rattle.theory_basics.specs.Sums.{sum}
use Rattle.theory_basics.specs.lemmas.Ranges.{sum_le, sum_most}
use Rattle.theory_basics.specs.lemmas.Tests.{by_cond, test}
use Rattle.job.specs.Job.{Accepted, Job, Layer, chunks, layers, size}
use Rattle.job.specs.lemmas.Within.{size_most}
use Rattle.theory_plan.specs.lemmas.Ascending.{asc_nth}
use Rattle.theory_plan.specs.Plan.{bytes, kept}
use Rattle.theory_plan.specs.lemmas.Choice.{kept_asc}
use Rattle.theory_plan.specs.lemmas.Kept.{length_picked_le}
use Rattle.theory_plan.specs.Statement.{Choice}
use Rattle.theory_plan.specs.lemmas.Words.{layer_of}
use Rattle.theory_reasons.specs.Lines.{line_at, lines_of, stretch_of}
use Rattle.theory_basics.specs.lemmas.Digits.{digits_few}
use Rattle.theory_reasons.proofs.Kept.{need_sum, between, kept_chunk, kept_count}
use Rattle.theory_reasons.specs.Statement.{Line, Place, Reasons, lower, missing_of, missing_to, need, reasons_text, sentence, short, words}
use Rattle.theory_basics.specs.Text.{ascii, digits}
use Rattle.theory_basics.specs.lemmas.Widths.{line_width, width}
use Rattle.theory_reasons.proofs.Refused.{Refuses, lines_hold, lines_unique, refused_stretch}

-- ---- need

sum_under : (f : ℕ → ℕ) (most n : ℕ) → ((k : ℕ) → k < n → f k ≤ most) → sum f n ≤ n * most
sum_under f most n h = omega (arith, sum_le f (λ k. most) n h, sum_most (λ k. most) most n (λ k. omega arith))

bytes_most : (j : Job) → Accepted j → (choice : ℕ → ℕ) → Choice j choice → (k : ℕ) → 1 ≤ k → k ≤ chunks j → bytes j choice k ≤ 67108864
bytes_most j a choice c k u v =
    omega (
      arith,
      sum_most (size j k) 16777216 (choice k) (λ n. size_most j a k n),
      c k u v,
      a.layers_in.high,
    )

-- 500 chunks of 4 layers of 16,777,216 bytes.
pub need_most : (j : Job) → Accepted j → (choice : ℕ → ℕ) → Choice j choice → (x y : ℕ) → need j choice x y ≤ 33554432000
need_most j a choice c x y =
    let f : ℕ → ℕ = λ m. cond (between j choice x y m) (bytes j choice (kept_chunk j choice m)) 0 in
    omega (
      arith,
      need_sum j choice x y,
      sum_under f 67108864 (kept_count j choice) (λ m h.
          let r = asc_nth 1 (chunks j) (kept j choice) m h (kept_asc j choice) in
          by_cond (λ (z : ℕ). z ≤ 67108864) (between j choice x y m) (λ t. bytes_most j a choice c (kept_chunk j choice m) r.0 r.1) (λ t. omega arith)),
      length_picked_le (λ i. leb 1 (choice i)) 0 (chunks j),
      a.chunks_in.high,
    )

-- ---- one line

sentence_width : (l : Line) → length (sentence l) ≡ 5 + width (words l)
unfolding sentence
sentence_width l = line_width (ascii "chunk") (words l)

pub lower_width : (i n k : ℕ) → i < 1000 → n < 10 → k < 10 → length (sentence (lower i n k)) ≤ 38
lower_width i n k u v w =
    omega (arith, sentence_width (lower i n k), digits_few 2 i u, digits_few 0 n v, length-append (digits n) (ascii ":"), digits_few 0 k w)

pub short_width :
    (i n a b c m : ℕ) → i < 1000 → n < 10 → a < 10000 → b < 10000 → c < 100000000000 → m < 100000000000 → length (sentence (short i n a b c m)) ≤ 74
short_width i n a b c m u v x y z t =
    omega (
      arith,
      sentence_width (short i n a b c m),
      digits_few 2 i u,
      digits_few 0 n v,
      length-append (digits n) (ascii ":"),
      digits_few 3 a x,
      digits_few 3 b y,
      digits_few 10 c z,
      length-append (digits c) (ascii ","),
      digits_few 10 m t,
    )

-- ---- all lines

text_append : (f : Place → Line) (xs ys : List Place) → length (reasons_text (map f (xs ++ ys))) ≡ length (reasons_text (map f xs)) + length (reasons_text (map f ys))
text_append f [] ys = omega arith
text_append f (x ∷ xs) ys =
    omega (
      arith,
      length-append (sentence (f x)) (reasons_text (map f (xs ++ ys))),
      length-append (sentence (f x)) (reasons_text (map f xs)),
      text_append f xs ys,
    )

module _ (j : Job) (acc : Accepted j) (plan : ℕ → ℕ) (held : ℕ → ℕ → ℕ → ℕ) (refuses : Refuses j plan held) where
  abbrev line_of_place : Place → Line
  line_of_place x = line_at j plan held x.chunk x.layer

  abbrev text_length : List Place → ℕ
  text_length xs = length (reasons_text (map line_of_place xs))

  one : (x : Place) → text_length (x ∷ []) ≡ length (sentence (line_of_place x))
  one x = omega (arith, length-append (sentence (line_of_place x)) [])

  first_missing : (i n : ℕ) → Layer j i n → plan i ≡ n → length (sentence (line_at j plan held i n)) ≤ 74
  first_missing i n l e =
      let r = refuses i n l e in
      let x = refused_stretch j acc (held i n) r.0 r.1 in
      let s = stretch_of j (held i n) in
      let b = x.named.short in
      let most = need_most j acc (held i n) r.0 s.first s.last in
      rw (le-leb n (plan i) (omega arith))
      (short_width i n s.first s.last s.carry s.need
      (omega (arith, l.chunk_high, acc.chunks_in.high))
      (omega (arith, l.layer_in, acc.layers_in.high))
      (omega (arith, b.in_order, b.last_slot_lem, acc.last_in))
      (omega (arith, b.last_slot_lem, acc.last_in))
      (omega (arith, x.carry_is, b.exceeds, most))
      (omega (arith, x.need_is, most)))

  later_missing : (i n : ℕ) → Layer j i n → plan i < n → length (sentence (line_at j plan held i n)) ≤ 38
  later_missing i n l h =
      rw (lt-leb n (plan i) h)
      (lower_width i n (n - 1) (omega (arith, l.chunk_high, acc.chunks_in.high)) (omega (arith, l.layer_in, acc.layers_in.high)) (omega (arith, l.layer_in, acc.layers_in.high)))

  -- The lines of one chunk: one of the first kind at most.
  abbrev OfChunk : ℕ → ℕ → Type 0
  OfChunk i n = (n ≤ plan i → text_length (missing_of plan i n) ≡ 0) × (plan i < n → text_length (missing_of plan i n) ≤ (n - plan i) * 38 + 36)

  of_chunk_lem : (i n : ℕ) → 1 ≤ i → i ≤ chunks j → n ≤ layers j → OfChunk i n
  of_chunk_lem i zero u v h = (λ l. refl, λ l. absurd (omega arith))
  of_chunk_lem i (suc n) u v h =
      let r = of_chunk_lem i n u v (omega arith) in
      let x : Place = record { chunk = i; layer = n } in
      let l = layer_of j i n u v h in
      ⊎_elim
      (λ t.
      let o = ltb→lt n (plan i) t in
      rw (lt-ltb n (plan i) o)
      (λ k. text_append line_of_place (missing_of plan i n) [] ∙ omega (arith, r.0 (omega arith)), λ k. absurd (omega arith)))
      (λ t.
      let o = nltb→le n (plan i) t in
      rw (le-ltb n (plan i) o) (
        λ k. absurd (omega arith),
        λ k.
            ⊎_elim
            (λ s.
            let q = ltb→lt (plan i) n s in
            omega (arith, text_append line_of_place (missing_of plan i n) (x ∷ []), one x, later_missing i n l q, r.1 q))
            (λ s.
            let q : plan i ≡ n = omega (arith, nltb→le (plan i) n s) in
            omega (arith, text_append line_of_place (missing_of plan i n) (x ∷ []), one x, first_missing i n l q, r.0 (omega arith)))
            (test (ltb (plan i) n)),
      ))
      (test (ltb n (plan i)))

  to_chunk : (i : ℕ) → i ≤ chunks j → text_length (missing_to plan (layers j) i) ≤ i * 188
  to_chunk zero h = omega arith
  to_chunk (suc i) h =
      let r = of_chunk_lem (suc i) (layers j) (omega arith) h (omega arith) in
      let here : text_length (missing_of plan (suc i) (layers j)) ≤ 188 =
      ⊎_elim
      (λ t. omega (arith, r.1 (ltb→lt (plan (suc i)) (layers j) t), acc.layers_in.high))
      (λ t. omega (arith, r.0 (nltb→le (plan (suc i)) (layers j) t)))
      (test (ltb (plan (suc i)) (layers j))) in
      omega (arith, text_append line_of_place (missing_to plan (layers j) i) (missing_of plan (suc i) (layers j)), to_chunk i (omega arith), here)

  -- The output of an accepted job has at most 94,000 bytes: for each of 500 chunks 74 in the line
  -- of its first missing layer, and 38 in each of 3 more.
  pub lines_fit : (ls : List Line) → Reasons j plan held ls → length (reasons_text ls) ≤ 94000
  lines_fit ls r =
      let e = lines_unique j plan held ls (lines_of j plan held) r (lines_hold j acc plan held refuses) in
      rw e (omega (arith, to_chunk (chunks j) (omega arith), acc.chunks_in.high))
