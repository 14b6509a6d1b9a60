-- Lemmas. Texts one after the other: the words of a line, and what a loop puts into a lent buffer.
-- Assumes nothing.
use Rattle.std.specs.Prelude.{ℕ, zero, suc, ◌+◌, ◌*◌, ◌≤◌, ◌<◌, ◌≡◌, refl, List, [], ◌∷◌, ◌++◌, length}
use Rattle.std.proofs.Common.{sym, ap, ◌∙◌, append_assoc, append-nil, ⊎_elim, arith, add-one, length-append}
use Rattle.theory_basics.specs.lemmas.Tests.{last}
use Rattle.theory_basics.specs.Lists.{up_to}
use Rattle.theory_basics.specs.Text.{text, ended}
use Rattle.core_text.specs.lemmas.Places.{Put, put_none, put_room, put_then}

pub text_snoc : (xs : List (List ℕ)) (x : List ℕ) → text (xs ++ (x ∷ [])) ≡ text xs ++ x
text_snoc [] x = append-nil x
text_snoc (y ∷ xs) x = ap (λ (l : List ℕ). y ++ l) (text_snoc xs x) ∙ sym (append_assoc y (text xs) x)

-- Words after spaces are texts one after the other, and the line feed after them.
abbrev spaced : List (List ℕ) → List ℕ
spaced [] = []
spaced (x ∷ xs) = 32 ∷ (x ++ spaced xs)

spaced_snoc : (xs : List (List ℕ)) (x : List ℕ) → spaced (xs ++ (x ∷ [])) ≡ spaced xs ++ (32 ∷ x)
spaced_snoc [] x = ap (λ (l : List ℕ). 32 ∷ l) (append-nil x)
spaced_snoc (y ∷ xs) x =
    ap (λ (l : List ℕ). 32 ∷ (y ++ l)) (spaced_snoc xs x) ∙ ap (λ (l : List ℕ). 32 ∷ l) (sym (append_assoc y (spaced xs) (32 ∷ x)))

spaced_text : (f : ℕ → List ℕ) (n : ℕ) → spaced (up_to f n) ≡ text (up_to (λ k. 32 ∷ f k) n)
spaced_text f zero = refl
spaced_text f (suc n) =
    spaced_snoc (up_to f n) (f n)
    ∙ ap (λ (l : List ℕ). l ++ (32 ∷ f n)) (spaced_text f n)
    ∙ sym (text_snoc (up_to (λ k. 32 ∷ f k) n) (32 ∷ f n))

ended_spaced : (xs : List (List ℕ)) → ended xs ≡ spaced xs ++ (10 ∷ [])
ended_spaced [] = refl
ended_spaced (x ∷ xs) =
    ap (λ (l : List ℕ). 32 ∷ (x ++ l)) (ended_spaced xs) ∙ ap (λ (l : List ℕ). 32 ∷ l) (sym (append_assoc x (spaced xs) (10 ∷ [])))

pub ended_text : (f : ℕ → List ℕ) (n : ℕ) → ended (up_to f n) ≡ text (up_to (λ k. 32 ∷ f k) n) ++ (10 ∷ [])
ended_text f n = ended_spaced (up_to f n) ∙ ap (λ (l : List ℕ). l ++ (10 ∷ [])) (spaced_text f n)

-- ---- how long they are

module _ (f : ℕ → List ℕ) where
  one_more : (n : ℕ) → length (text (up_to f (suc n))) ≡ length (text (up_to f n)) + length (f n)
  one_more n = ap length (text_snoc (up_to f n) (f n)) ∙ length-append (text (up_to f n)) (f n)

  pub text_mono : (i n : ℕ) → i ≤ n → length (text (up_to f i)) ≤ length (text (up_to f n))
  text_mono i zero h = let e : i ≡ 0 = omega arith in rw e (omega arith)
  text_mono i (suc n) h = ⊎_elim (λ l. omega (arith, text_mono i n l, one_more n)) (λ e. rw e (omega arith)) (last i n h)

  -- Texts of at most so many bytes each.
  pub text_most : (most n : ℕ) → ((k : ℕ) → k < n → length (f k) ≤ most) → length (text (up_to f n)) ≤ n * most
  text_most most zero h = omega arith
  text_most most (suc n) h = omega (arith, one_more n, text_most most n (λ k u. h k (omega arith)), h n (omega arith))

-- ---- as a loop puts them

-- The first i of so many texts were put at a place.
pub record Putting (f : ℕ → List ℕ) (count : ℕ) (old : List ℕ) (at i : ℕ) (out : List ℕ) (next : ℕ) : Type 0 where
  pub within : i ≤ count
  pub put : Put old at (text (up_to f i)) out next

module _ (f : ℕ → List ℕ) (count : ℕ) (old : List ℕ) (at : ℕ) where
  pub putting_start : Putting f count old at 0 old at
  putting_start = record { within = omega arith; put = put_none old at }

  pub putting_room : {i : ℕ} {out : List ℕ} {next : ℕ} → at + length (text (up_to f count)) ≤ length old → i < count → Putting f count old at i out next → next + length (f i) ≤ length out
  putting_room {i} h l p =
      let e : text (up_to f (suc i)) ≡ text (up_to f i) ++ f i = text_snoc (up_to f i) (f i) in
      let r : at + length (text (up_to f i) ++ f i) ≤ length old = omega (arith, text_mono f (suc i) count (omega arith), ap length e) in
      put_room (text (up_to f i)) (f i) r p.put

  pub putting_more : {i : ℕ} {mid out : List ℕ} {k next : ℕ} → at + length (text (up_to f count)) ≤ length old → i < count → Putting f count old at i mid k → Put mid k (f i) out next → Putting f count old at (i + 1) out next
  putting_more {i} h l p q =
      let e : text (up_to f (suc i)) ≡ text (up_to f i) ++ f i = text_snoc (up_to f i) (f i) in
      let r : at + length (text (up_to f i) ++ f i) ≤ length old = omega (arith, text_mono f (suc i) count (omega arith), ap length e) in
      rw add-one (record { within = omega arith; put = rw e (put_then (text (up_to f i)) (f i) r p.put q) })

  pub putting_end : {i : ℕ} {out : List ℕ} {next : ℕ} → count ≤ i → Putting f count old at i out next → Put old at (text (up_to f count)) out next
  putting_end {i} l p = let e : i ≡ count = omega (arith, p.within) in rw e at p.put
