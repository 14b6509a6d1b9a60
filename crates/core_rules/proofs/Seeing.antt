-- Lemmas. The pass over the layers of a chunk, and over the chunks: one more of either. Assumes
-- nothing.
use Prim.Native.Nat.{ℕ, suc, ◌+◌, ◌*◌, ◌-◌, ◌<◌}
use mathlib.Core.Path.{◌≡◌, refl, sym, ap, ◌∙◌}
use mathlib.Core.Bool.{Bool, true, false, not, cond, ◌&&◌, ◌||◌, and-true, and-false, or-true, or-false}
use mathlib.Core.List.{List}
use native.Mathlib.Omega.{arith}
use native.Mathlib.Numerals.{add-one}
use lib.ListN.{get_or}
use lib.Dec.{eqb}
use Rattle.theory_basics.specs.Tests.{all_below}
use Rattle.fetch.specs.Rows.{mark_byte}
use Rattle.fetch.specs.Marks.{with_layer}
use Rattle.fetch.specs.lemmas.Marks.{with_next}
use Rattle.core_rules.specs.declared.Seen.{Seen}
use Rattle.core_rules.specs.declared.Layers.{Layers}
use Rattle.core_rules.specs.lemmas.Tables.{carried_by, whole_by, under, lower_by, SeeChunkPost, SeeAllPost}
use Rattle.theory_basics.specs.lemmas.Tests.{all_to_more}

and_comm : (a b : Bool) → a && b ≡ b && a
and_comm true b = sym (and-true b)
and_comm false b = sym (and-false b)

-- The mark byte with one layer more.
mark_more : (c : ℕ → Bool) (n : ℕ) → n < 8 → (b : Bool) → c n ≡ b → cond b (with_layer (mark_byte c n) n) (mark_byte c n) ≡ mark_byte c (suc n)
mark_more c n h true e = with_next c n h e
mark_more c n h false e = rw e (omega arith)

-- One layer more of chunk i, carried or not.
module _ (size : ℕ → ℕ → ℕ) (sums : List ℕ) (i n mark : ℕ) (whole lower below : Bool) (s : SeeChunkPost size sums n i (record { mark = mark; whole = whole; lower = lower })) (u : below ≡ under (carried_by size sums i) n) (few : n < 4) where
  abbrev c : ℕ → Bool
  c = carried_by size sums i

  abbrev sum : ℕ
  sum = get_or sums (4 * (i - 1) + n) 0

  seen_layer : SeeChunkPost size sums (n + 1) i (record { mark = cond (c n) (with_layer mark n) mark; whole = whole_by size sums i n && whole; lower = (not (c n) || below) && lower })
  seen_layer = rw add-one (record {
    mark = rw s.mark (mark_more c n (omega arith) (c n) refl);
    whole = ap (λ (b : Bool). whole_by size sums i n && b) s.whole;
    lower = rw (u, s.lower);
  })

  pub seen_carried : c n ≡ true → SeeChunkPost size sums (n + 1) i (record { mark = with_layer mark n; whole = whole; lower = lower && below })
  seen_carried e = rw (and_comm lower below) (rw (e, or-true (eqb sum 0)) at seen_layer)

  pub seen_missing : c n ≡ false → SeeChunkPost size sums (n + 1) i (record { mark = mark; whole = whole && eqb sum 0; lower = lower })
  seen_missing e = rw (and_comm whole (eqb sum 0)) (rw (e, or-false (eqb sum 0)) at seen_layer)

module _ (size : ℕ → ℕ → ℕ) (sums marks : List ℕ) (depth : ℕ) where
  pub seen_more : (n : ℕ) (r : Layers) (m : Seen) → SeeAllPost size sums marks depth n r → SeeChunkPost size sums depth (n + 1) m
      → SeeAllPost size sums marks depth (n + 1) (record { whole = r.whole && m.whole; lower = r.lower && m.lower; said = r.said && eqb (get_or marks n 0) m.mark })
  seen_more n r m a s =
      let back : n + 1 - 1 ≡ n = omega arith in
      record {
        whole = and_comm r.whole m.whole ∙ rw (s.whole, a.whole) (sym (all_to_more n (λ i. all_below depth (whole_by size sums i))));
        lower = and_comm r.lower m.lower ∙ rw (s.lower, a.lower) (sym (all_to_more n (λ i. all_below depth (lower_by (carried_by size sums i)))));
        said = and_comm r.said _ ∙ rw (s.mark, a.said) (sym (all_to_more n (λ i. eqb (get_or marks (i - 1) 0) (mark_byte (carried_by size sums i) depth)) ∙ rw back));
      }
