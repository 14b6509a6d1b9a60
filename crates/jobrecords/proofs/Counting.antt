-- Lemmas. The SZs that the loop counts, a record more: they stand in the file one after the other.
-- Assumes nothing.
use Prim.Native.Nat.{ℕ, ◌+◌, ◌*◌, ◌-◌, ◌≤◌}
use mathlib.Core.Path.{◌≡◌, refl, sym, ap, ◌∙◌}
use mathlib.Core.Bool.{Bool, true, false, ◌&&◌}
use mathlib.Core.List.{List, [], ◌∷◌, ◌++◌, append-nil}
use mathlib.Core.Logic.{◌⊎◌, inl, inr, ⊎_elim}
use native.Mathlib.Omega.{arith}
use native.Mathlib.Numerals.{add-one}
use lib.ListN.{length, get_or, drop}
use lib.Dec.{T, leb, eqb→eq}
use Rattle.theory_basics.specs.lemmas.Lists.{length_up_to}
use Rattle.theory_basics.specs.lemmas.Tests.{by_cond, last}
use Rattle.theory_basics.specs.lemmas.Refusals.{unless_iff}
use Rattle.records.specs.Fields.{h_at, w_at, marked}
use Rattle.records.specs.File.{Front, got, none}
use Rattle.records.specs.lemmas.Reading.{Reads}
use Rattle.job.specs.Job.{Override}
use Rattle.job.specs.Theorems.{within_iff}
use Rattle.jobrecords.specs.declared.Record.{Record}
use Rattle.jobrecords.specs.declared.Record.TheVariants.{Pg, Ly, Sz, Bw, En}
use Rattle.jobrecords.specs.declared.Progress.{Progress}
use Rattle.jobrecords.specs.Records.{PG, LY, SZ, BW, EN, override_at, front, is_end}
use Rattle.jobrecords.specs.Says.{overrides_in}
use Rattle.jobrecords.specs.Refusal.{mixed, previous, place, follows, sequence_refusal, fault, format}
use Rattle.jobrecords.specs.lemmas.Joined.{overrides_append}
use Rattle.jobrecords.specs.lemmas.Sequence.{previous_snoc, parts}
use Rattle.jobrecords.specs.lemmas.Mixed.{none_mixed}
use Rattle.records.specs.lemmas.Places.{byte_on, h_on, w_on}
use Rattle.jobrecords.specs.lemmas.Reading.{no_records, override_on, overrides_on, Counts, more_overrides, ends_after}

-- ---- an SZ in front has 9 bytes, which say it

abbrev SaysIt : List ℕ → Front Record → Type 0
SaysIt s (got (Pg p) n) = Unit {0}
SaysIt s (got (Ly size) n) = Unit {0}
SaysIt s (got (Sz chunk layer bytes) n) = (n ≡ 9) × (Sz chunk layer bytes ≡ override_at s)
SaysIt s (got (Bw count bytes) n) = Unit {0}
SaysIt s (got En n) = Unit {0}
SaysIt s (none n) = Unit {0}

front_says : (q : Bool) (s : List ℕ) → SaysIt s (front q s)
unfolding front
front_says q s =
    by_cond (SaysIt s) (leb 2 (length s))
    (λ t. by_cond (SaysIt s) (marked PG s) (λ u. by_cond (SaysIt s) (leb 10 (length s)) (λ v. tt) (λ v. tt))
    (λ u. by_cond (SaysIt s) (marked LY s) (λ v. by_cond (SaysIt s) (leb 6 (length s)) (λ w. tt) (λ w. tt))
    (λ v. by_cond (SaysIt s) (marked BW s) (λ w. by_cond (SaysIt s) (leb 8 (length s)) (λ x. tt) (λ x. tt))
    (λ w. by_cond (SaysIt s) (marked EN s) (λ x. by_cond (SaysIt s) (leb 2 (length s)) (λ y. tt) (λ y. tt))
    (λ x. by_cond (SaysIt s) (q && marked SZ s) (λ y. by_cond (SaysIt s) (leb 9 (length s)) (λ z. (refl, refl)) (λ z. tt)) (λ y. tt))))))
    (λ t. tt)

override_on_is : (s : List ℕ) (at : ℕ) → override_on s at ≡ record { chunk = h_at (drop at s) 2; layer = get_or (drop at s) 4 0; bytes = w_at (drop at s) 5 }
override_on_is s at = rw (h_on s at 2 (at + 2) refl, byte_on s at 4 (at + 4) refl, w_on s at 5 (at + 5) refl)

-- ---- none so far

nothing_before : (a b : List Override) → a ++ b ≡ [] → a ≡ []
nothing_before [] b e = refl
nothing_before (o ∷ a) b e = absurd (let z : ◌≡◌ {A = ℕ} 0 1 = cc in omega arith)

-- A mixed file has none.
pub mixed_free : (s : List ℕ) (at : ℕ) (before : List Record) → Reads (format mixed) s at before → overrides_in before ≡ []
mixed_free s at before r =
    nothing_before (overrides_in before) _
    (sym (overrides_append before _) ∙ ap overrides_in (sym r.records_are) ∙ none_mixed s)

pub counts_start : (s : List ℕ) → Counts s 0 no_records []
counts_start s = record { are = refl; room = omega arith; inside = omega arith; none_yet = λ h. refl; behind = λ h. absurd (omega arith) }

-- ---- a record more

module _ (s : List ℕ) (at : ℕ) (j : Progress) (rs : List Record) (i : Counts s at j rs) where
  -- How many there are.
  many : j.overrides ≡ length (overrides_in rs)
  many = sym (ap length i.are ∙ length_up_to (λ k. override_on s (j.ends - 9 * j.overrides + 9 * k)) j.overrides)

  none_left : overrides_in rs ≡ [] → j.overrides ≡ 0
  none_left e = many ∙ ap length e

  -- A record other than an SZ.
  kept : (r : Record) (n : ℕ) (j' : Progress) → overrides_in (r ∷ []) ≡ [] → j'.overrides ≡ j.overrides → j'.ends ≡ j.ends → (place r ≤ 2 → j.overrides ≡ 0) → (place r ≡ 3 → ⊥) → Counts s (at + n) j' (rs ++ (r ∷ []))
  kept r n j' e eo ee early never =
      let place_is = ap place (previous_snoc rs r) in
      record {
        are = overrides_append rs (r ∷ []) ∙ rw (e, append-nil (overrides_in rs), eo, ee) i.are;
        room = rw (eo, ee) i.room;
        inside = omega (arith, i.inside);
        none_yet = λ h. eo ∙ early (rw place_is at h);
        behind = λ h. absurd (never (sym place_is ∙ h));
      }

  -- An SZ, the first or straight after another.
  one_more : (o : Override) (j' : Progress) (rs' : List Record) → overrides_in rs' ≡ overrides_in rs ++ (o ∷ []) → o ≡ override_on s at → j'.overrides ≡ j.overrides + 1 → j'.ends ≡ at + 9 → place (previous rs') ≡ 3 → (j.overrides ≡ 0) ⊎ (j.ends ≡ at) → Counts s (at + 9) j' rs'
  one_more o j' rs' e eo es en p here =
      let k = j.overrides in
      let fits : 9 * k ≤ at = omega (arith, i.room, i.inside) in
      let from : at + 9 - 9 * (k + 1) ≡ at - 9 * k = omega arith in
      let next : at - 9 * k + 9 * k ≡ at = omega arith in
      let so_far : overrides_in rs ≡ overrides_on s (at - 9 * k) k = i.are ∙ ⊎_elim (λ z. rw z) (λ z. rw z) here in
      record {
        are = e ∙ rw (es, en, from, add-one k, next, so_far, eo);
        room = omega arith;
        inside = omega arith;
        none_yet = λ h. absurd (omega arith);
        behind = λ h. en;
      }

  module _ (q : Bool) (free : q ≡ false → overrides_in rs ≡ []) where
    -- Where a record may only stand before the SZs there are none yet.
    early : (b : Bool) (r : Record) → q ≡ b → sequence_refusal b (previous rs) r ≡ 0 → (T (follows (previous rs) r) → place (previous rs) ≤ 2) → j.overrides ≡ 0
    early true r e turn low = i.none_yet (low ((unless_iff 17 (follows (previous rs) r) (omega arith)).0 turn))
    early false r e turn low = none_left (free e)

    here : (b : Bool) (chunk layer bytes : ℕ) → q ≡ b → sequence_refusal b (previous rs) (Sz chunk layer bytes) ≡ 0 → (j.overrides ≡ 0) ⊎ (j.ends ≡ at)
    here true chunk layer bytes e turn =
        let w = (within_iff 1 3 (place (previous rs))).0 ((unless_iff 17 (follows (previous rs) (Sz chunk layer bytes)) (omega arith)).0 turn) in
        ⊎_elim (λ h. inl (i.none_yet h)) (λ h. inr (i.behind h)) (last (place (previous rs)) 2 w.high)
    here false chunk layer bytes e turn = inl (none_left (free e))

    pub counts_more : (r : Record) (n : ℕ) (j' : Progress) → front q (drop at s) ≡ got r n → is_end r ≡ false → fault q rs r ≡ 0 → j'.overrides ≡ more_overrides j.overrides r → j'.ends ≡ ends_after j.ends (at + n) r → Counts s (at + n) j' (rs ++ (r ∷ []))
    counts_more (Pg p) n j' f b clean eo ee =
        kept (Pg p) n j' refl eo ee (λ h. early q (Pg p) refl (parts q rs (Pg p) clean).turn (λ t. omega (arith, eqb→eq (place (previous rs)) 0 t))) (λ h. omega arith)
    counts_more (Ly size) n j' f b clean eo ee =
        kept (Ly size) n j' refl eo ee (λ h. early q (Ly size) refl (parts q rs (Ly size) clean).turn (λ t. ((within_iff 1 2 (place (previous rs))).0 t).high)) (λ h. omega arith)
    counts_more (Sz chunk layer bytes) n j' f b clean eo ee =
        let says = rw f at (front_says q (drop at s)) in
        let r = Sz chunk layer bytes in
        let size : n ≡ 9 = says.0 in
        let o : Override = record { chunk = chunk; layer = layer; bytes = bytes } in
        let is : o ≡ override_on s at = ap (λ (l : List Override). get_or l 0 o) (ap (λ (x : Record). overrides_in (x ∷ [])) says.1) ∙ sym (override_on_is s at) in
        rw size (one_more o j' (rs ++ (r ∷ [])) (overrides_append rs (r ∷ [])) is eo (ee ∙ rw size) (ap place (previous_snoc rs r)) (here q chunk layer bytes refl (parts q rs r clean).turn))
    counts_more (Bw count bytes) n j' f b clean eo ee = kept (Bw count bytes) n j' refl eo ee (λ h. absurd (omega arith)) (λ h. omega arith)
    counts_more En n j' f b clean eo ee = absurd (let z : ◌≡◌ {A = ℕ} 0 1 = cc in omega arith)
