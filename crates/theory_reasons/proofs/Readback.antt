-- Lemmas. The reader gives back the lines of a text.
use Rattle.std.specs.Prelude.{ℕ, ◌+◌, ◌*◌, ◌-◌, ◌≤◌, ◌≡◌, refl, false, not, List, [], ◌∷◌, ◌++◌, map, T, eqb, leb, length}
use Rattle.std.proofs.Common.{ap, ◌∙◌, append_assoc, arith, eqb→eq, le→leb}
use Rattle.std.proofs.Math.Dec.{not_T}
use Rattle.theory_basics.specs.Tests.{All, all}
use Rattle.theory_basics.specs.Text.{ascii, digits, ended, line, read_on}
use Rattle.theory_basics.specs.lemmas.Digits.{digits_are, digits_read, digits_some}
use Rattle.theory_basics.specs.lemmas.Tests.{T_and, T_true, all_All, all_append, all_map, not_T_false}
use Rattle.theory_reasons.specs.Reading.{front, inside, is_digit, line_of, lines_in, numbers_from, numbers_in, outside, read_line, read_reasons}
use Rattle.theory_reasons.specs.Statement.{Line, lower, reasons_text, sentence, short, words}

digits_all : (n : ℕ) → All (λ x. T (is_digit x)) (digits n)
digits_all n =
    all_map (λ x. (48 ≤ x) × (x ≤ 57)) (λ x. T (is_digit x)) (digits n)
    (λ x h. T_and (leb 48 x) (leb x 57) (le→leb 48 x h.0) (le→leb x 57 h.1)) (digits_are n)

-- ---- numbers

-- A run of digits up to a byte that is none.
digit_run :
    (ds : List ℕ) (v x : ℕ) (rest : List ℕ) → All (λ d. T (is_digit d)) ds → is_digit x ≡ false →
    numbers_from (inside v) (ds ++ (x ∷ rest)) ≡ read_on v ds ∷ numbers_from outside rest
digit_run [] v x rest a e = rw e
digit_run (d ∷ ds) v x rest a e = rw (T_true (is_digit d) a.0) (digit_run ds (v * 10 + (d - 48)) x rest a.1 e)

run_of_digits :
    (ds : List ℕ) (x : ℕ) (rest : List ℕ) → 1 ≤ length ds → All (λ d. T (is_digit d)) ds → is_digit x ≡ false →
    numbers_from outside (ds ++ (x ∷ rest)) ≡ read_on 0 ds ∷ numbers_from outside rest
run_of_digits [] x rest h a e = absurd (omega arith)
run_of_digits (d ∷ ds) x rest h a e =
    let z : 0 * 10 + (d - 48) ≡ d - 48 = omega arith in
    rw (T_true (is_digit d) a.0, z) (digit_run ds (d - 48) x rest a.1 e)

number : (n x : ℕ) (rest : List ℕ) → is_digit x ≡ false → numbers_from outside (digits n ++ (x ∷ rest)) ≡ n ∷ numbers_from outside rest
number n x rest e = run_of_digits (digits n) x rest (digits_some n) (digits_all n) e ∙ ap (λ (m : ℕ). m ∷ numbers_from outside rest) (digits_read n)

marked : (n x : ℕ) (rest : List ℕ) → is_digit x ≡ false → numbers_from outside ((digits n ++ (x ∷ [])) ++ rest) ≡ n ∷ numbers_from outside rest
marked n x rest e = ap (numbers_from outside) (append_assoc (digits n) (x ∷ []) rest) ∙ number n x rest e

-- The numbers of a line, as its sentence has them.
abbrev pub numbers_of : Line → List ℕ
numbers_of (short i n a b c m) = i ∷ n ∷ a ∷ b ∷ c ∷ m ∷ []
numbers_of (lower i n k) = i ∷ n ∷ k ∷ []

pub sentence_numbers : (l : Line) → numbers_in (sentence l) ≡ numbers_of l
unfolding sentence
sentence_numbers (short i n a b c m) =
    number i 32 _ refl
    ∙ ap (λ (xs : List ℕ). i ∷ xs)
    (marked n 58 _ refl
    ∙ ap (λ (xs : List ℕ). n ∷ xs)
    (number a 32 _ refl ∙ ap (λ (xs : List ℕ). a ∷ xs) (number b 32 _ refl ∙ ap (λ (xs : List ℕ). b ∷ xs) (marked c 44 _ refl ∙ ap (λ (xs : List ℕ). c ∷ xs) (number m 10 [] refl)))))
sentence_numbers (lower i n k) =
    number i 32 _ refl ∙ ap (λ (xs : List ℕ). i ∷ xs) (marked n 58 _ refl ∙ ap (λ (xs : List ℕ). n ∷ xs) (number k 32 _ refl))

-- One sentence gives its line back.
pub sentence_read : (l : Line) → read_line (sentence l) ≡ l
sentence_read l = ap line_of (sentence_numbers l) ∙ whole l
  where
    whole : (l : Line) → line_of (numbers_of l) ≡ l
    whole (short i n a b c m) = refl
    whole (lower i n k) = refl

-- ---- lines

-- No line feed in it.
abbrev Free : List ℕ → Type 0
Free = All (λ x. T (not (eqb x 10)))

plain : (a : List ℕ) → T (all (λ x. not (eqb x 10)) a) → Free a
plain a t = all_All (λ x. not (eqb x 10)) (λ x. T (not (eqb x 10))) (λ x u. u) a t

digits_free : (n : ℕ) → Free (digits n)
digits_free n =
    all_map (λ x. (48 ≤ x) × (x ≤ 57)) (λ x. T (not (eqb x 10))) (digits n)
    (λ x h. not_T (eqb x 10) (λ u. omega (arith, eqb→eq x 10 u, h.0))) (digits_are n)

mark_free : (n : ℕ) (b : List ℕ) → T (all (λ x. not (eqb x 10)) b) → Free (digits n ++ b)
mark_free n b t = all_append (λ x. T (not (eqb x 10))) (digits n) b (digits_free n) (plain b t)

word_cut : (a t l : List ℕ) (ls : List (List ℕ)) → Free a → lines_in t ≡ l ∷ ls → lines_in (a ++ t) ≡ (a ++ l) ∷ ls
word_cut [] t l ls f e = e
word_cut (x ∷ a) t l ls f e = rw (not_T_false (eqb x 10) f.0, word_cut a t l ls f.1 e)

ended_cut : (ws : List (List ℕ)) (rest : List ℕ) → All Free ws → lines_in (ended ws ++ rest) ≡ ended ws ∷ lines_in rest
ended_cut [] rest f = refl
ended_cut (x ∷ xs) rest f =
    ap (front 32) (ap lines_in (append_assoc x (ended xs) rest) ∙ word_cut x (ended xs ++ rest) (ended xs) (lines_in rest) f.0 (ended_cut xs rest f.1))

line_cut : (w : List ℕ) (ws : List (List ℕ)) (rest : List ℕ) → Free w → All Free ws → lines_in (line w ws ++ rest) ≡ line w ws ∷ lines_in rest
line_cut w ws rest f g =
    ap lines_in (append_assoc w (ended ws) rest) ∙ word_cut w (ended ws ++ rest) (ended ws) (lines_in rest) f (ended_cut ws rest g)

words_free : (l : Line) → All Free (words l)
words_free (short i n a b c m) = (
  digits_free i,
  (
    plain (ascii "layer") tt,
    (
      mark_free n (ascii ":") tt,
      (
        plain (ascii "slots") tt,
        (
          digits_free a,
          (plain (ascii "to") tt, (digits_free b, (plain (ascii "carry") tt, (mark_free c (ascii ",") tt, (plain (ascii "need") tt, (digits_free m, tt)))))),
        ),
      ),
    ),
  ),
)
words_free (lower i n k) =
    (digits_free i, (plain (ascii "layer") tt, (mark_free n (ascii ":") tt, (plain (ascii "layer") tt, (digits_free k, (plain (ascii "is") tt, (plain (ascii "missing") tt, tt)))))))

-- A text is cut after its first sentence.
sentence_cut : (l : Line) (rest : List ℕ) → lines_in (sentence l ++ rest) ≡ sentence l ∷ lines_in rest
unfolding sentence
sentence_cut l rest = line_cut (ascii "chunk") (words l) rest (plain (ascii "chunk") tt) (words_free l)

-- The whole output gives its lines back.
pub text_read : (ls : List Line) → read_reasons (reasons_text ls) ≡ ls
text_read [] = refl
text_read (l ∷ ls) =
    ap (map read_line) (sentence_cut l (reasons_text ls))
    ∙ ap (λ (x : Line). x ∷ read_reasons (reasons_text ls)) (sentence_read l)
    ∙ ap (λ (xs : List Line). l ∷ xs) (text_read ls)
