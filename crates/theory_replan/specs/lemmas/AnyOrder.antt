-- Lemmas. The fetched rows may come in any order: the refusal, what is settled and the own rows
-- from p on are the same. So a standing plan goes on from its own rows before p in whatever order
-- they are fetched.
use Rattle.std.specs.Prelude.{ℕ, zero, suc, ◌+◌, ◌-◌, ◌≤◌, ◌<◌, max, min, ◌≡◌, refl, Bool, true, false, cond, ◌&&◌, ◌||◌, List, [], ◌∷◌, ◌++◌, ◌⊎◌, ◌↔◌, drop, length, T, eqb, leb, ltb}
use Rattle.std.proofs.Math.Path.{sym, ap, fun_ext}
use Rattle.std.proofs.Common.{◌∙◌, subst, append_assoc, append-nil, inl, inr, ⊎_elim, arith}
use Rattle.std.proofs.Math.Seq.{drop-append_seam}
use Rattle.theory_basics.specs.Sums.{count}
use Rattle.theory_basics.specs.Tests.{All, all, any, here, In, there}
use Rattle.theory_basics.specs.lemmas.Ranges.{bit, sum_cong}
use Rattle.theory_basics.specs.lemmas.Tests.{at_row, each_row}
use Rattle.job.specs.Job.{Accepted, chunks, due, forecast, held_most, Job, last_slot, Layer, layers, size}
use Rattle.fetch.specs.Rows.{begun, bytes_if, bytes_of_layer, Carried, carried, held_count, keep, marks_given, next, none, Permuted, Row, swap}
use Rattle.fetch.specs.Rules.{BegunIn, RowInRange, OnTime, PlayingOrder}
use Rattle.fetch.specs.RulesFrom.{KeepsFrom, PassesFrom}
use Rattle.fetch.specs.VerdictFrom.{verdict_from}
use Rattle.fetch.proofs.Theorems.{order_free_from, verdict_from_iff}
use Rattle.fetch.specs.Verdict.{lower_carried}
use Rattle.fetch.specs.lemmas.Rows.{all_permuted, any_permuted, bytes_permuted, lower_permuted}
use Rattle.theory_plan.specs.Own.{allowed, carried_to, Fetched, own_list, Piece, row_of, slot_takes, without}
use Rattle.theory_plan.specs.Statement.{SettledByTrials, Same}
use Rattle.theory_plan.specs.lemmas.Level.{level}
use Rattle.theory_replan.specs.Own.{fetched_from, own_rest, unfetched}
use Rattle.theory_replan.specs.Refusal.{replan_refusal}
use Rattle.theory_replan.specs.Statement.{Acceptable, CanCarryOnlyFrom, IsReplan, joined, rows_before, rows_from, TrialFrom}
use Rattle.theory_replan.specs.lemmas.Tried.{can_carry_from_same}
use Rattle.theory_replan.specs.lemmas.Standing.{standing_plan}

pub permuted_same : (l : List Row) → Permuted l l
permuted_same [] = none
permuted_same (x ∷ l) = keep (permuted_same l)

pub permuted_back : {a b : List Row} → Permuted a b → Permuted b a
permuted_back none = none
permuted_back (keep h) = keep (permuted_back h)
permuted_back swap = swap
permuted_back (next h k) = next (permuted_back k) (permuted_back h)

permuted_append : {a b : List Row} (l : List Row) → Permuted a b → Permuted (a ++ l) (b ++ l)
permuted_append l none = permuted_same l
permuted_append l (keep h) = keep (permuted_append l h)
permuted_append l swap = swap
permuted_append l (next h k) = next (permuted_append l h) (permuted_append l k)

in_permuted : {a b : List Row} {x : Row} → Permuted a b → In x a → In x b
in_permuted none i = i
in_permuted (keep h) here = here
in_permuted (keep h) (there i) = there (in_permuted h i)
in_permuted swap here = there here
in_permuted swap (there here) = here
in_permuted swap (there (there i)) = there (there i)
in_permuted (next h k) i = in_permuted k (in_permuted h i)

-- ---- the refusal

pub refusal_order_free : (j : Job) (p : ℕ) (onward : List ℕ) {a b : List Row} → Permuted a b → replan_refusal j p a onward ≡ replan_refusal j p b onward
unfolding replan_refusal
refusal_order_free j p onward {a = a} {b = b} h =
    let sums : (q : Row → Bool) → bytes_if q a ≡ bytes_if q b = λ q. bytes_permuted q h in
    let every : (q : Row → Bool) → all q a ≡ all q b = λ q. all_permuted q h in
    let some : (q : Row → Bool) → any q a ≡ any q b = λ q. any_permuted q h in
    let lower : (i n : ℕ) → lower_carried (joined j p onward) a i n ≡ lower_carried (joined j p onward) b i n = lower_permuted (joined j p onward) h in
    simp (sums, every, some, lower)

-- ---- what is settled

module _ (j : Job) {a b : List Row} (h : Permuted a b) where
  each_permuted : (P : Row → Type 0) → All P a → All P b
  each_permuted P u = each_row P b (λ x i. at_row P (in_permuted (permuted_back h) i) u)

  layer_permuted : (i n : ℕ) → bytes_of_layer a i n ≡ bytes_of_layer b i n
  layer_permuted i n = bytes_permuted (λ x. eqb x.chunk i && eqb x.layer n) h

  begun_permuted : (t i : ℕ) → begun a t i ≡ begun b t i
  begun_permuted t i = any_permuted (λ x. eqb x.chunk i && leb x.slot t) h

  held_permuted : (t : ℕ) → held_count j a t ≡ held_count j b t
  held_permuted t = ap (λ (s : ℕ → Bool). count (λ i. s i && ltb t (due j i)) (chunks j)) (fun_ext (λ i. begun_permuted t i))

  level_permuted : (k : ℕ) → level j a k ≡ level j b k
  level_permuted k = sum_cong (λ n. bit (carried j a k n)) (λ n. bit (carried j b k n)) (layers j) (λ n u. ap (λ (s : ℕ). bit (eqb s (size j k n))) (layer_permuted k n))

  order_permuted : PlayingOrder j a → PlayingOrder j b
  unfolding PlayingOrder
  order_permuted o i k s t g l c x y = o i k s t g l (layer_permuted i 0 ∙ c) (begun_in x) (begun_in y) where
    begun_in : {i t : ℕ} → BegunIn b i t → BegunIn a i t
    begun_in x =
        record {
          row = x.row;
          listed = in_permuted (permuted_back h) x.listed;
          chunk_is = x.chunk_is;
          slot_is = x.slot_is;
          first = λ y m. x.first y (in_permuted h m);
        }

  marks_permuted : marks_given j a ≡ marks_given j b
  marks_permuted = let sums : (q : Row → Bool) → bytes_if q a ≡ bytes_if q b = λ q. bytes_permuted q h in simp sums

  passes_permuted : (p : ℕ) → PassesFrom j p a → PassesFrom j p b
  passes_permuted p k =
      (verdict_from_iff j p (marks_given j b) b).0
      (sym (order_free_from j p (marks_given j b) a b h) ∙ (verdict_from_iff j p (marks_given j b) a).1 (subst (λ (m : List ℕ). KeepsFrom j p m a) marks_permuted k))

  pub acceptable_permuted : (p : ℕ) → Acceptable j p a → Acceptable j p b
  acceptable_permuted p ok =
      record {
        p_low = ok.p_low;
        p_high = ok.p_high;
        before = each_permuted (λ x. x.slot < p) ok.before;
        in_range_lem = each_permuted (RowInRange j) ok.in_range_lem;
        no_more_lem = λ i n r. omega (arith, ok.no_more_lem i n r, layer_permuted i n);
        lower = λ i n r c. sym (layer_permuted i n) ∙ ok.lower i n r (layer_permuted i (suc n) ∙ c);
        within = λ t u v. omega (arith, ok.within t u v, bytes_permuted (λ x. eqb x.slot t) h);
        on_time_lem = each_permuted (OnTime j) ok.on_time_lem;
        few_held = λ t u v. omega (arith, ok.few_held t u v, held_permuted t);
        in_turn_lem = λ x y i k l. subst T (begun_permuted x.slot y.chunk) (ok.in_turn_lem x y (in_permuted (permuted_back h) i) (in_permuted (permuted_back h) k) l);
      }

carry_permuted :
    (j : Job) {a b : List Row} (p : ℕ) (these : ℕ → ℕ → Type 0) → Permuted a b → CanCarryOnlyFrom j p a these → CanCarryOnlyFrom j p b these
carry_permuted j p these h s =
    let k = permuted_append s.more h in
    record {
      more = s.more;
      later = s.later;
      passes = passes_permuted j k p s.passes;
      in_order = order_permuted j k s.in_order;
      exactly = λ i n r. (λ c. (s.exactly i n r).0 (layer_permuted j k i n ∙ c), λ u. sym (layer_permuted j k i n) ∙ (s.exactly i n r).1 u);
    }

-- What a trial asks about.
trial_permuted :
    (j : Job) {a b : List Row} → Permuted a b → (p : ℕ) (plan : ℕ → ℕ) (n i : ℕ) →
    CanCarryOnlyFrom j p a (TrialFrom j a plan n i) → CanCarryOnlyFrom j p b (TrialFrom j b plan n i)
trial_permuted j {a = a} {b = b} h p plan n i s =
    can_carry_from_same j p b (TrialFrom j a plan n i) (TrialFrom j b plan n i) (λ k m r. (
      ⊎_elim (λ c. inl (sym (layer_permuted j h k m) ∙ c)) (λ u. inr u),
      ⊎_elim (λ c. inl (layer_permuted j h k m ∙ c)) (λ u. inr u),
    )) (carry_permuted j p (TrialFrom j a plan n i) h s)

pub replan_order_free :
    (j : Job) (p : ℕ) {a b : List Row} → Permuted a b → (plan : ℕ → ℕ) → IsReplan j p a plan → IsReplan j p b plan
replan_order_free j p {a = a} {b = b} h plan d =
    record {
      choice = d.choice;
      decided = λ i n r.
          let e = d.decided i n r in (
            λ l.
                ⊎_elim
                (λ c. inl (sym (layer_permuted j h i n) ∙ c))
                (λ u. inr (u.0, u.1, trial_permuted j h p plan n i u.2))
                (e.0 l),
            λ s.
                e.1
                (⊎_elim
                (λ c. inl (layer_permuted j h i n ∙ c))
                (λ u. inr (u.0, u.1, trial_permuted j (permuted_back h) p plan n i u.2))
                s),
          );
    }

-- ---- the own rows

-- The same rows r added to a and to b, and the same left.
record Alike (a b : List Row) (f g : Fetched) : Type 0 where
  added : List Row
  first : f.rows ≡ a ++ added
  second : g.rows ≡ b ++ added
  left : f.left ≡ g.left

module _ (j : Job) {a b : List Row} (h : Permuted a b) where
  allowed_permuted : (r : List Row) (t : ℕ) (q : Piece) → allowed j (a ++ r) t q ≡ allowed j (b ++ r) t q
  allowed_permuted r t q =
      ap (λ (n : ℕ). leb n (held_most j)) (held_permuted j (permuted_append (row_of t q 1 ∷ []) (permuted_append r h)) t)

  slot_alike : (t c : ℕ) (r : List Row) (ps : List Piece) → Alike a b (slot_takes j t c (a ++ r) ps) (slot_takes j t c (b ++ r) ps)
  slot_alike t c r [] = record { added = r; first = refl; second = refl; left = refl }
  slot_alike t c r (q ∷ ps) = rw (allowed_permuted r t q) (by (slot_alike t (c - q.bytes) (r ++ (row_of t q q.bytes ∷ [])) ps) (allowed j (b ++ r) t q && ltb 0 c))
    where
      Further : Type 0
      Further = Alike a b (slot_takes j t (c - q.bytes) (a ++ (r ++ (row_of t q q.bytes ∷ []))) ps) (slot_takes j t (c - q.bytes) (b ++ (r ++ (row_of t q q.bytes ∷ []))) ps)

      more : Further → Alike a b (slot_takes j t (c - q.bytes) ((a ++ r) ++ (row_of t q q.bytes ∷ [])) ps) (slot_takes j t (c - q.bytes) ((b ++ r) ++ (row_of t q q.bytes ∷ [])) ps)
      more further =
          subst (λ (x : List Row). Alike a b (slot_takes j t (c - q.bytes) x ps) (slot_takes j t (c - q.bytes) ((b ++ r) ++ (row_of t q q.bytes ∷ [])) ps)) (sym (append_assoc a r (row_of t q q.bytes ∷ [])))
          (subst (λ (x : List Row). Alike a b (slot_takes j t (c - q.bytes) (a ++ (r ++ (row_of t q q.bytes ∷ []))) ps) (slot_takes j t (c - q.bytes) x ps)) (sym (append_assoc b r (row_of t q q.bytes ∷ [])))
          further)

      whole :
          Further → (d : Bool) →
          Alike a b
          (cond d (slot_takes j t (c - q.bytes) ((a ++ r) ++ (row_of t q q.bytes ∷ [])) ps) (record { rows = (a ++ r) ++ (row_of t q c ∷ []); left = without q c ∷ ps }))
          (cond d (slot_takes j t (c - q.bytes) ((b ++ r) ++ (row_of t q q.bytes ∷ [])) ps) (record { rows = (b ++ r) ++ (row_of t q c ∷ []); left = without q c ∷ ps }))
      whole further true = more further
      whole further false = record { added = r ++ (row_of t q c ∷ []); first = append_assoc a r (row_of t q c ∷ []); second = append_assoc b r (row_of t q c ∷ []); left = refl }

      by :
          Further → (d : Bool) →
          Alike a b
          (cond d (cond (leb q.bytes c) (slot_takes j t (c - q.bytes) ((a ++ r) ++ (row_of t q q.bytes ∷ [])) ps) (record { rows = (a ++ r) ++ (row_of t q c ∷ []); left = without q c ∷ ps })) (record { rows = a ++ r; left = q ∷ ps }))
          (cond d (cond (leb q.bytes c) (slot_takes j t (c - q.bytes) ((b ++ r) ++ (row_of t q q.bytes ∷ [])) ps) (record { rows = (b ++ r) ++ (row_of t q c ∷ []); left = without q c ∷ ps })) (record { rows = b ++ r; left = q ∷ ps }))
      by further true = whole further (leb q.bytes c)
      by further false = record { added = r; first = refl; second = refl; left = refl }

  unfetched_permuted : (ps : List Piece) → unfetched a ps ≡ unfetched b ps
  unfetched_permuted [] = refl
  unfetched_permuted (q ∷ ps) = rw (layer_permuted j h q.chunk q.layer, unfetched_permuted ps)

  alike : (p : ℕ) (lv : ℕ → ℕ) (m : ℕ) → Alike a b (fetched_from j p a lv m) (fetched_from j p b lv m)
  alike p lv zero = record { added = []; first = sym (append-nil a); second = sym (append-nil b); left = unfetched_permuted (carried_to j lv (chunks j)) }
  alike p lv (suc m) =
      let s = alike p lv m in
      let f = fetched_from j p a lv m in
      let g = fetched_from j p b lv m in
      let t : ℕ = m + p in
      let c = forecast j t in
      subst (λ (x : List Row). Alike a b (slot_takes j t c x f.left) (slot_takes j t c g.rows g.left)) (sym s.first)
      (subst (λ (x : List Row). Alike a b (slot_takes j t c (a ++ s.added) f.left) (slot_takes j t c x g.left)) (sym s.second)
      (subst (λ (x : List Piece). Alike a b (slot_takes j t c (a ++ s.added) x) (slot_takes j t c (b ++ s.added) g.left)) (sym s.left)
      (slot_alike t c s.added g.left)))

  pub rest_order_free : (p : ℕ) (lv : ℕ → ℕ) → own_rest j p a lv ≡ own_rest j p b lv
  unfolding own_rest
  rest_order_free p lv =
      let s = alike p lv (suc (last_slot j) - p) in
      ap (drop (length a)) s.first ∙ drop-append_seam a s.added ∙ sym (ap (drop (length b)) s.second ∙ drop-append_seam b s.added)

-- A standing plan whose own rows before p are fetched in any order: it goes on.
pub standing_any_order :
    (j : Job) → Accepted j → (q : ℕ → ℕ) → SettledByTrials j q → (p : ℕ) → 1 ≤ p → p ≤ last_slot j → (fetched : List Row) →
    Permuted fetched (rows_before p (own_list j q)) → (plan : ℕ → ℕ) → IsReplan j p fetched plan →
    Acceptable j p fetched × Same j plan q × (own_rest j p fetched plan ≡ rows_from p (own_list j q))
standing_any_order j a q is p lo hi fetched h plan d =
    let g = standing_plan j a q is p lo hi in
    let d' = replan_order_free j p h plan d in
    (acceptable_permuted j (permuted_back h) p g.acceptable, g.only plan d', rest_order_free j h p plan ∙ g.rest plan d')
