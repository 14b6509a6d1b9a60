-- Laws on the verdict: what the tables say is what the rules of the second call say. Assumes
-- nothing.
use Prim.Native.Nat.{ℕ, ◌-◌, ◌/◌, ◌≤◌, ◌<◌}
use mathlib.Core.Path.{◌≡◌, refl, sym, ap₂, ◌∙◌}
use mathlib.Core.Bool.{Bool, true, false, ◌||◌}
use mathlib.Core.List.{List, [], ◌∷◌}
use mathlib.Core.Logic.{inl, inr, ⊎_elim}
use native.Mathlib.Omega.{arith}
use lib.ListN.{length, get_or}
use lib.Dec.{leb}
use Rattle.theory_basics.specs.Tests.{all_below, all_to}
use Rattle.theory_basics.specs.lemmas.Tests.{T_or_iff, all_below_cong, all_to_cong, same_test}
use Rattle.job.specs.Job.{Accepted, Job, chunks, last_due, layers, size}
use Rattle.core_sizes.specs.Table.{table_at}
use Rattle.job.specs.lemmas.Within.{size_most}
use Rattle.fetch.specs.Rows.{Row, bytes_of_layer}
use Rattle.fetch.specs.Verdict.{lowest, rule2}
use Rattle.fetch.proofs.Theorems.{rule2_iff, rule2_from_iff}
use Rattle.fetch.specs.VerdictFrom.{layer_before, rule2_from, verdict_from}
use Rattle.core_rules.proofs.Exact.{eqb_cap, ltb_cap, rule1_is, rule2_is, rule3_is, rule4_is, rule6_is, rule7_is}
use Rattle.core_rules.specs.declared.Layers.{Layers}
use Rattle.core_rules.specs.declared.Pass.{Pass}
use Rattle.core_rules.specs.lemmas.Tables.{TallyPost, SeeAllPost, Shown, Tallied, held_by}
use Rattle.checker.specs.lemmas.Judged.{allowed_by}

-- ---- rule 2 of the second call

module _ (j : Job) (rows : List Row) (S L F : List ℕ) (ok : Accepted j) (t : Tallied rows S L F) (from : ℕ) where
  rule2_from_is : all_to (chunks j) (λ i. all_below (layers j) (allowed_by (size j) L (layer_before from rows) i)) ≡ rule2_from j from rows
  rule2_from_is =
      all_to_cong (chunks j) _ _ (λ i u v.
      all_below_cong (layers j) _ _ (λ n w.
      let few : i ≤ 500 = omega (arith, ok.chunks_in.high) in
      let deep : n < 4 = omega (arith, ok.layers_in.high) in
      let small = size_most j ok i n in
      rw (t.by_layer i n u few deep, eqb_cap (bytes_of_layer rows i n) 0 (omega arith), eqb_cap (bytes_of_layer rows i n) (size j i n) (omega arith), ltb_cap (bytes_of_layer rows i n) (size j i n) (omega arith))))

  -- What keeps rule 2 of the first call keeps that of the second.
  pub either_is : rule2 j rows || rule2_from j from rows ≡ rule2_from j from rows
  either_is =
      same_test (rule2 j rows || rule2_from j from rows) (rule2_from j from rows)
      (λ x. ⊎_elim (λ a. (rule2_from_iff j from rows).1 (λ i n r. ⊎_elim (λ z. inl z) (λ z. inr (inl z)) ((rule2_iff j rows).0 a i n r))) (λ b. b) ((T_or_iff (rule2 j rows) (rule2_from j from rows)).0 x))
      (λ b. (T_or_iff (rule2 j rows) (rule2_from j from rows)).1 (inr b))

-- ---- the verdict

module _ (j : Job) (from : ℕ) (marks : List ℕ) (rows : List Row) (ok : Accepted j) (table : List ℕ) (w : Shown table (layers j) j) (last : ℕ) (d : last ≡ last_due j.programme) (r : Pass) (S L F : List ℕ) (a : TallyPost j.programme last (layers j) rows r S L F) where
  -- A row out of range: rule 1.
  pub judged_one : r.ranged ≡ false → 1 ≡ verdict_from j from marks rows
  unfolding verdict_from
  judged_one e = rw (sym (rule1_is j a d refl) ∙ e)

  -- Every row in range: the lowest broken rule of 2 to 7, by the tables.
  pub judged : r.ranged ≡ true → length marks ≡ chunks j → (m : Layers) (whole room few : Bool)
      → SeeAllPost (table_at table) L marks (layers j) (chunks j) m
      → whole ≡ m.whole || all_to (chunks j) (λ i. all_below (layers j) (allowed_by (table_at table) L (layer_before from rows) i))
      → room ≡ all_to (length j.forecast) (λ u. leb (get_or S u 0) (get_or j.forecast (u - 1) 0))
      → few ≡ all_to last (λ u. leb (held_by j.programme F u) (j.programme.limit / j.programme.span))
      → lowest 2 (whole ∷ m.lower ∷ room ∷ r.timely ∷ few ∷ m.said ∷ []) ≡ verdict_from j from marks rows
  unfolding verdict_from
  judged g e m whole room few s b q f =
      let t = a.tables g in
      let s' = rw w.sizes_are at s in
      let b' = rw w.sizes_are at b in
      let two : whole ≡ rule2_from j from rows = b' ∙ ap₂ ◌||◌ (s'.whole ∙ rule2_is j rows S L F ok t) (rule2_from_is j rows S L F ok t from) ∙ either_is j rows S L F ok t from in
      rw (
        sym (rule1_is j a d refl) ∙ g,
        two,
        s'.lower ∙ rule3_is j rows S L F ok t,
        q ∙ rule4_is j rows S L F ok t,
        a.timely g,
        (rw d at f) ∙ rule6_is j rows S L F ok t,
        s'.said ∙ rule7_is j rows S L F ok t marks e,
      )
