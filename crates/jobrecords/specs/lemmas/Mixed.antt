-- Lemmas. A file in one sequence, read as a mixed one: the same records up to the first SZ, whose
-- mark a mixed file does not know. Assumes nothing.
use Rattle.std.specs.Prelude.{ℕ, zero, suc, ◌+◌, refl, Bool, true, false, not, cond, length, drop, T, leb}
use Rattle.std.proofs.Math.Path.{◌≡◌, ap}
use Rattle.std.proofs.Common.{◌∙◌, arith}
use mathlib.Core.List.{List, [], ◌∷◌, ◌++◌}
use Rattle.theory_basics.specs.lemmas.Tests.{by_cond}
use Rattle.theory_basics.specs.lemmas.Refusals.{or_else_iff}
use Rattle.records.specs.Fields.{marked}
use Rattle.records.specs.File.{Front, got, none, Stop, ended, broken, Split, split_by, split_up_to, split, first_fault}
use Rattle.jobrecords.specs.declared.Record.{Record}
use Rattle.jobrecords.specs.declared.Record.TheVariants.{Pg, Ly, Sz, Bw, En}
use Rattle.jobrecords.specs.Records.{PG, LY, SZ, BW, EN, whole, programme_at, layer_at, run_at, front, is_end}
use Rattle.jobrecords.specs.Says.{has_programme, sizes_in, overrides_in, forecast_in}
use Rattle.jobrecords.specs.Refusal.{one_sequence, mixed, previous, fault, format}
use Rattle.jobrecords.specs.lemmas.Clean.{no_fault}
use Rattle.jobrecords.specs.lemmas.Sequence.{parts}

-- Whether a mixed file knows a record.
abbrev knows : Record → Bool
knows (Pg p) = true
knows (Ly size) = true
knows (Sz chunk layer bytes) = false
knows (Bw count bytes) = true
knows En = true

-- ---- what stands in front

by_both : {A : Type 0} (P : A → A → Type 0) (b : Bool) {w x y z : A} → (T b → P w y) → (T (not b) → P x z) → P (cond b w x) (cond b y z)
by_both P true f g = f tt
by_both P false f g = g tt

-- Where a file in one sequence has a record, a mixed one has the same, or refusal 2.
abbrev Alike : Front Record → Front Record → Type 0
Alike (got r n) y = y ≡ cond (knows r) (got r n) (none 2)
Alike (none n) y = Unit {0}

module _ (s : List ℕ) where
  whole_alike : (n : ℕ) (r : Record) → knows r ≡ true → Alike (whole s n r) (whole s n r)
  whole_alike n r e = by_both Alike (leb n (length s)) (λ t. rw e) (λ t. tt)

  front_alike : Alike (front one_sequence s) (front mixed s)
  unfolding front
  front_alike =
      by_both Alike (leb 2 (length s))
      (λ z. by_both Alike (marked PG s) (λ t. whole_alike 10 (programme_at s) refl)
      (λ z. by_both Alike (marked LY s) (λ t. whole_alike 6 (layer_at s) refl)
      (λ z. by_both Alike (marked BW s) (λ t. whole_alike 8 (run_at s) refl)
      (λ z. by_both Alike (marked EN s) (λ t. whole_alike 2 En refl)
      (λ z. by_cond (λ (x : Front Record). Alike x (none 2)) (marked SZ s)
      (λ t. by_cond (λ (x : Front Record). Alike x (none 2)) (leb 9 (length s)) (λ t. refl) (λ t. tt))
      (λ t. tt))))))
      (λ z. tt)

-- ---- the records, and where they stop

cut_records : List Record → List Record
cut_records [] = []
cut_records (r ∷ rs) = cond (knows r) (r ∷ cut_records rs) []

cut_stop : List Record → Stop → Stop
cut_stop [] x = x
cut_stop (r ∷ rs) x = cond (knows r) (cut_stop rs x) (broken 2)

cut : Split Record → Split Record
cut f = record { records = cut_records f.records; stop = cut_stop f.records f.stop }

module _ (k : ℕ) (more : (t : List ℕ) (m : ℕ) → (split_up_to (format one_sequence) k t).stop ≡ ended m → split_up_to (format mixed) k t ≡ cut (split_up_to (format one_sequence) k t)) (s : List ℕ) (m : ℕ) where
  abbrev here : Front Record → Split Record
  here x = split_by (format one_sequence) (split_up_to (format one_sequence) k) s x

  cut_by : (x y : Front Record) → Alike x y → (here x).stop ≡ ended m → split_by (format mixed) (split_up_to (format mixed) k) s y ≡ cut (here x)
  unfolding cut cut_records cut_stop
  cut_by (got (Pg p) n) y a e = rw (a, more (drop n s) m e)
  cut_by (got (Ly size) n) y a e = rw (a, more (drop n s) m e)
  cut_by (got (Sz chunk layer bytes) n) y a e = rw a
  cut_by (got (Bw count bytes) n) y a e = rw (a, more (drop n s) m e)
  cut_by (got En n) y a e = rw a
  cut_by (none n) y a e = absurd (let z : ◌≡◌ {A = ℕ} 0 1 = cc in omega arith)

split_cut : (k : ℕ) (s : List ℕ) (m : ℕ) → (split_up_to (format one_sequence) k s).stop ≡ ended m → split_up_to (format mixed) k s ≡ cut (split_up_to (format one_sequence) k s)
unfolding split_up_to
split_cut zero s m e = absurd (let z : ◌≡◌ {A = ℕ} 0 1 = cc in omega arith)
split_cut (suc k) s m e = cut_by k (split_cut k) s m (front one_sequence s) (front mixed s) (front_alike s) e

-- Without an SZ nothing is cut off.
whole_cut : (rs : List Record) (x : Stop) → overrides_in rs ≡ [] → cut (record { records = rs; stop = x }) ≡ record { records = rs; stop = x }
unfolding cut cut_records cut_stop
whole_cut [] x e = refl
whole_cut (Pg p ∷ rs) x e = ap (λ (f : Split Record). record { records = Pg p ∷ f.records; stop = f.stop }) (whole_cut rs x e)
whole_cut (Ly size ∷ rs) x e = ap (λ (f : Split Record). record { records = Ly size ∷ f.records; stop = f.stop }) (whole_cut rs x e)
whole_cut (Sz chunk layer bytes ∷ rs) x e = absurd (let z : ◌≡◌ {A = ℕ} 0 1 = cc in omega arith)
whole_cut (Bw count bytes ∷ rs) x e = ap (λ (f : Split Record). record { records = Bw count bytes ∷ f.records; stop = f.stop }) (whole_cut rs x e)
whole_cut (En ∷ rs) x e = ap (λ (f : Split Record). record { records = En ∷ f.records; stop = f.stop }) (whole_cut rs x e)

-- With one, its mark is the end.
cut_off : (rs : List Record) (x : Stop) → (overrides_in rs ≡ [] → ⊥) → cut_stop rs x ≡ broken 2
unfolding cut_stop
cut_off [] x some = absurd (some refl)
cut_off (Pg p ∷ rs) x some = cut_off rs x some
cut_off (Ly size ∷ rs) x some = cut_off rs x some
cut_off (Sz chunk layer bytes ∷ rs) x some = refl
cut_off (Bw count bytes ∷ rs) x some = cut_off rs x some
cut_off (En ∷ rs) x some = cut_off rs x some

-- ---- their faults

pub mixed_faults : (before rs : List Record) → first_fault (format one_sequence) before rs ≡ 0 → first_fault (format mixed) before rs ≡ 0
mixed_faults before [] e = refl
mixed_faults before (r ∷ rs) e =
    let u = (or_else_iff (fault one_sequence before r) (first_fault (format one_sequence) (before ++ (r ∷ [])) rs)).0 e in
    let f = parts one_sequence before r u.0 in
    let none : fault mixed before r ≡ 0 = no_fault mixed (has_programme before) (previous before) (length (sizes_in before)) (length (forecast_in before)) r (record { first = f.first; turn = refl; ranges = f.ranges }) in
    (or_else_iff (fault mixed before r) (first_fault (format mixed) (before ++ (r ∷ [])) rs)).1 (none, mixed_faults (before ++ (r ∷ [])) rs u.1)

cut_faults : (before rs : List Record) → first_fault (format mixed) before rs ≡ 0 → first_fault (format mixed) before (cut_records rs) ≡ 0
unfolding cut_records
cut_faults before [] e = refl
cut_faults before (r ∷ rs) e =
    let u = (or_else_iff (fault mixed before r) (first_fault (format mixed) (before ++ (r ∷ [])) rs)).0 e in
    let more = cut_faults (before ++ (r ∷ [])) rs u.1 in
    by_cond (λ (l : List Record). first_fault (format mixed) before l ≡ 0) (knows r)
    (λ t. (or_else_iff (fault mixed before r) (first_fault (format mixed) (before ++ (r ∷ [])) (cut_records rs))).1 (u.0, more))
    (λ t. refl)

module _ (s : List ℕ) (m : ℕ) (e : (split (format one_sequence) s).stop ≡ ended m) where
  abbrev rs : List Record
  rs = (split (format one_sequence) s).records

  pub same_split : overrides_in rs ≡ [] → split (format mixed) s ≡ split (format one_sequence) s
  same_split free = split_cut (length s + 1) s m e ∙ whole_cut rs (split (format one_sequence) s).stop free

  -- With an SZ it breaks off by 2, after records without a fault.
  pub record BreaksOff : Type 0 where
    pub stop_is : (split (format mixed) s).stop ≡ broken 2
    pub no_faults : first_fault (format mixed) [] (split (format mixed) s).records ≡ 0

  pub breaks_off : first_fault (format one_sequence) [] rs ≡ 0 → (overrides_in rs ≡ [] → ⊥) → BreaksOff
  unfolding cut
  breaks_off clean some =
      let is = split_cut (length s + 1) s m e in
      record {
        stop_is = ap (λ (f : Split Record). f.stop) is ∙ cut_off rs (split (format one_sequence) s).stop some;
        no_faults = rw is (cut_faults [] rs (mixed_faults [] rs clean));
      }

-- ---- a mixed file has no SZ

abbrev Known : Front Record → Type 0
Known (got r n) = knows r ≡ true
Known (none n) = Unit {0}

front_known : (s : List ℕ) → Known (front mixed s)
unfolding front
front_known s =
    by_cond Known (leb 2 (length s))
    (λ z. by_cond Known (marked PG s) (λ t. whole_known 10 (programme_at s) refl)
    (λ z. by_cond Known (marked LY s) (λ t. whole_known 6 (layer_at s) refl)
    (λ z. by_cond Known (marked BW s) (λ t. whole_known 8 (run_at s) refl)
    (λ z. by_cond Known (marked EN s) (λ t. whole_known 2 En refl) (λ z. tt)))))
    (λ z. tt)
  where
    whole_known : (n : ℕ) (r : Record) → knows r ≡ true → Known (whole s n r)
    whole_known n r e = by_cond Known (leb n (length s)) (λ t. e) (λ t. tt)

known_none : (r : Record) (rs : List Record) → knows r ≡ true → overrides_in rs ≡ [] → overrides_in (r ∷ rs) ≡ []
known_none (Pg p) rs k e = e
known_none (Ly size) rs k e = e
known_none (Sz chunk layer bytes) rs k e = absurd (let z : ◌≡◌ {A = ℕ} 0 1 = cc in omega arith)
known_none (Bw count bytes) rs k e = e
known_none En rs k e = e

none_by : (rest : List ℕ → Split Record) → ((t : List ℕ) → overrides_in (rest t).records ≡ []) → (s : List ℕ) (x : Front Record) → Known x → overrides_in (split_by (format mixed) rest s x).records ≡ []
none_by rest more s (got r n) k = by_cond (λ (f : Split Record). overrides_in f.records ≡ []) (is_end r) (λ t. refl) (λ t. known_none r (rest (drop n s)).records k (more (drop n s)))
none_by rest more s (none n) k = refl

none_step : (k : ℕ) (s : List ℕ) → overrides_in (split_up_to (format mixed) k s).records ≡ []
unfolding split_up_to
none_step zero s = refl
none_step (suc k) s = none_by (split_up_to (format mixed) k) (none_step k) s (front mixed s) (front_known s)

pub none_mixed : (s : List ℕ) → overrides_in (split (format mixed) s).records ≡ []
none_mixed s = none_step (length s + 1) s
