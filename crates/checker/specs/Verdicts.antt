-- Theorems. Document 01: "Verdict 0 means all hold; else the lowest broken rule is the verdict.
-- Rules 2 to 7 apply only if 1 holds." Verdict n exactly if the rules below n hold and rule n does
-- not, the rules as fetch, Rules, says them.
use Rattle.std.specs.Prelude.{ℕ, suc, ◌+◌, ◌≤◌, ◌<◌, ◌≡◌, refl, Bool, true, false, List, [], ◌∷◌, ◌⊎◌, ◌↔◌, length, T}
use Rattle.std.proofs.Common.{inl, inr, ⊎_elim, arith}
use Rattle.theory_basics.specs.Tests.{All}
use Rattle.job.specs.Job.{Job}
use Rattle.fetch.specs.Rows.{Row}
use Rattle.fetch.specs.Rules.{FewHeld, Keeps, LowerCarried, MarksSay, OnTime, RowInRange, WholeLayers, WithinForecast}
use Rattle.fetch.specs.Verdict.{lowest, rule1, rule2, rule3, rule4, rule5, rule6, rule7, verdict}
use Rattle.fetch.proofs.Theorems.{rule1_iff, rule2_iff, rule3_iff, rule4_iff, rule5_iff, rule6_iff, rule7_iff, verdict_iff}

-- ---- the first test that fails

lowest_above : (m : ℕ) (bs : List Bool) → (lowest m bs ≡ 0) ⊎ (m ≤ lowest m bs)
lowest_above m [] = inl refl
lowest_above m (true ∷ bs) = ⊎_elim (λ e. inl e) (λ h. inr (omega arith)) (lowest_above (suc m) bs)
lowest_above m (false ∷ bs) = inr (omega arith)

-- It is test n,
here_as : {P : Type 0} (n : ℕ) (b : Bool) (bs : List Bool) → 0 < n → (T b ↔ P) → (lowest n (b ∷ bs) ≡ n) ↔ (P → ⊥)
here_as n true bs h p = (
  λ e. absurd (⊎_elim (λ z. omega arith) (λ l. omega arith) (lowest_above (suc n) bs)),
  λ f. absurd (f (p.0 tt)),
)
here_as n false bs h p = (λ e x. p.1 x, λ f. refl)

-- or a later one.
then_as : {P Q : Type 0} (n k : ℕ) (b : Bool) (bs : List Bool) → n < k → (T b ↔ P) → ((lowest (suc n) bs ≡ k) ↔ Q) → (lowest n (b ∷ bs) ≡ k) ↔ (P × Q)
then_as n k true bs h p q = (λ e. (p.0 tt, q.0 e), λ x. q.1 x.1)
then_as n k false bs h p q = (λ e. absurd (omega arith), λ x. absurd (p.1 x.0))

-- ---- the verdict

-- What each verdict says of a list with its marks. The rules are numbered as in document 01.
pub record Verdicts (j : Job) (marks : List ℕ) (rows : List Row) : Type 0 where
  pub zero : (verdict j marks rows ≡ 0) ↔ Keeps j marks rows
  pub one : (verdict j marks rows ≡ 1) ↔ (All (RowInRange j) rows → ⊥)
  pub two : (verdict j marks rows ≡ 2) ↔ (All (RowInRange j) rows × (WholeLayers j rows → ⊥))
  pub three : (verdict j marks rows ≡ 3) ↔ (All (RowInRange j) rows × (WholeLayers j rows × (LowerCarried j rows → ⊥)))
  pub four :
      (verdict j marks rows ≡ 4)
      ↔ (All (RowInRange j) rows × (WholeLayers j rows × (LowerCarried j rows × (WithinForecast j rows → ⊥))))
  pub five :
      (verdict j marks rows ≡ 5)
      ↔ (All (RowInRange j) rows × (WholeLayers j rows × (LowerCarried j rows × (WithinForecast j rows × (All (OnTime j) rows → ⊥)))))
  pub six :
      (verdict j marks rows ≡ 6)
      ↔ (All (RowInRange j) rows × (WholeLayers j rows × (LowerCarried j rows × (WithinForecast j rows × (All (OnTime j) rows × (FewHeld j rows → ⊥))))))
  pub seven :
      (verdict j marks rows ≡ 7)
      ↔ (All (RowInRange j) rows × (WholeLayers j rows × (LowerCarried j rows × (WithinForecast j rows × (All (OnTime j) rows × (FewHeld j rows × (MarksSay j marks rows → ⊥)))))))
  -- There is no other.
  pub most : verdict j marks rows ≤ 7

lowest_most : (n : ℕ) (bs : List Bool) (k : ℕ) → n + length bs ≤ suc k → lowest n bs ≤ k
lowest_most n [] k h = omega arith
lowest_most n (true ∷ bs) k h = lowest_most (suc n) bs k (omega arith)
lowest_most n (false ∷ bs) k h = omega arith

pub verdicts : (j : Job) (marks : List ℕ) (rows : List Row) → Verdicts j marks rows
unfolding verdict
verdicts j marks rows =
    let b1 = rule1 j rows in
    let b2 = rule2 j rows in
    let b3 = rule3 j rows in
    let b4 = rule4 j rows in
    let b5 = rule5 j rows in
    let b6 = rule6 j rows in
    let b7 = rule7 j marks rows in
    let t6 : List Bool = b7 ∷ [] in
    let t5 : List Bool = b6 ∷ t6 in
    let t4 : List Bool = b5 ∷ t5 in
    let t3 : List Bool = b4 ∷ t4 in
    let t2 : List Bool = b3 ∷ t3 in
    let t1 : List Bool = b2 ∷ t2 in
    let r1 = rule1_iff j rows in
    let r2 = rule2_iff j rows in
    let r3 = rule3_iff j rows in
    let r4 = rule4_iff j rows in
    let r5 = rule5_iff j rows in
    let r6 = rule6_iff j rows in
    let r7 = rule7_iff j marks rows in
    record {
      zero = verdict_iff j marks rows;
      one = here_as 1 b1 t1 (omega arith) r1;
      two = then_as 1 2 b1 t1 (omega arith) r1 (here_as 2 b2 t2 (omega arith) r2);
      three = then_as 1 3 b1 t1 (omega arith) r1 (then_as 2 3 b2 t2 (omega arith) r2 (here_as 3 b3 t3 (omega arith) r3));
      four =
          then_as 1 4 b1 t1 (omega arith) r1
          (then_as 2 4 b2 t2 (omega arith) r2 (then_as 3 4 b3 t3 (omega arith) r3 (here_as 4 b4 t4 (omega arith) r4)));
      five =
          then_as 1 5 b1 t1 (omega arith) r1
          (then_as 2 5 b2 t2 (omega arith) r2
          (then_as 3 5 b3 t3 (omega arith) r3 (then_as 4 5 b4 t4 (omega arith) r4 (here_as 5 b5 t5 (omega arith) r5))));
      six =
          then_as 1 6 b1 t1 (omega arith) r1
          (then_as 2 6 b2 t2 (omega arith) r2
          (then_as 3 6 b3 t3 (omega arith) r3
          (then_as 4 6 b4 t4 (omega arith) r4 (then_as 5 6 b5 t5 (omega arith) r5 (here_as 6 b6 t6 (omega arith) r6)))));
      seven =
          then_as 1 7 b1 t1 (omega arith) r1
          (then_as 2 7 b2 t2 (omega arith) r2
          (then_as 3 7 b3 t3 (omega arith) r3
          (then_as 4 7 b4 t4 (omega arith) r4
          (then_as 5 7 b5 t5 (omega arith) r5 (then_as 6 7 b6 t6 (omega arith) r6 (here_as 7 b7 [] (omega arith) r7))))));
      most = lowest_most 1 (b1 ∷ t1) 7 (omega arith);
    }
