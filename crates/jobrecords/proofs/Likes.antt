-- Lemmas. Runs and SZs that follow one of their kind: each is a turn of the loop that reads a job
-- file. Assumes nothing.
use Prim.Native.Nat.{ℕ, ◌+◌, ◌*◌, ◌≤◌}
use mathlib.Core.Path.{◌≡◌, refl, sym, ap, subst, ◌∙◌}
use mathlib.Core.Bool.{Bool, true, false, ◌&&◌}
use mathlib.Core.List.{List}
use native.Mathlib.Omega.{arith}
use lib.ListN.{length, get_or, drop, replicate, length-replicate}
use lib.Seq.{paste, length-paste}
use lib.Dec.{T, leb}
use Rattle.theory_basics.specs.lemmas.Tests.{and_T, leb_iff, T_true}
use Rattle.records.specs.Fields.{h_at, w_at, marked}
use Rattle.jobrecords.specs.declared.Record.{Record}
use Rattle.jobrecords.specs.declared.Record.TheVariants.{Pg, Ly, Sz, Bw, En}
use Rattle.jobrecords.specs.declared.Progress.{Progress}
use Rattle.jobrecords.specs.Records.{SZ, override_at}
use Rattle.jobrecords.specs.Refusal.{place, previous}
use Rattle.jobrecords.specs.lemmas.Clean.{run_in}
use Rattle.jobrecords.specs.lemmas.Reading.{run_bytes, fault_after, OneStepPre, with_overrides, with_runs, SoundAt, Reached, GoesOn, TakeRunsPost, TakeOverridesPost}
use Rattle.jobrecords.proofs.Fronts.{override_here}
use Rattle.jobrecords.proofs.Records.{takes_override, takes_run}
use Rattle.jobrecords.proofs.Steps.{turn_fine, turn_more}

-- ---- runs

-- The runs from a place on are taken up to another.
pub record Taking (s : List ℕ) (from : ℕ) (j : Progress) (old : List ℕ) (at slots last : ℕ) (f : List ℕ) : Type 0 where
  pub ahead : from ≤ at
  pub inside : at ≤ length s
  pub slots_in : slots ≤ 3600
  pub slots_room : length f ≡ 3600
  pub goes : (q : Bool) (z : List ℕ) → OneStepPre q s from j z old → OneStepPre q s at (with_runs j slots last) z f

pub runs_start : (s : List ℕ) (from : ℕ) (j : Progress) (f : List ℕ) → Reached s from j → length f ≡ 3600 → j.place ≡ 4 → Taking s from j f from j.slots j.bytes f
runs_start s from j f p long run =
    let e : j ≡ with_runs j j.slots j.bytes = ap (λ (n : ℕ). record { place = n; bytes = j.bytes; seen = j.seen; programme = j.programme; layers = j.layers; overrides = j.overrides; ends = j.ends; slots = j.slots }) run in
    record { ahead = omega arith; inside = p.inside; slots_in = p.slots_in; slots_room = long; goes = λ q z g. subst (λ (k : Progress). OneStepPre q s from k z f) e g }

-- It lies inside the table.
pub sound_inside : (s : List ℕ) (at slots last count bytes : ℕ) → SoundAt s at slots last count bytes → slots + count ≤ 3600
sound_inside s at slots last count bytes h = (run_in slots count bytes h.ranges).0

clean : (q : Bool) (s : List ℕ) (at slots last count bytes : ℕ) (j : Progress) → SoundAt s at slots last count bytes → fault_after q (with_runs j slots last) (Bw count bytes) ≡ 0
clean true s at slots last count bytes j h = rw (h.turn, h.ranges)
clean false s at slots last count bytes j h = rw h.ranges

pub runs_more :
    (s : List ℕ) (from : ℕ) (j : Progress) (old : List ℕ) (at slots last : ℕ) (f : List ℕ) → Taking s from j old at slots last f →
    (count bytes : ℕ) → SoundAt s at slots last count bytes → (f' : List ℕ) → f' ≡ paste f slots (replicate count bytes) count → Taking s from j old (at + 8) (slots + count) bytes f'
runs_more s from j old at slots last f i count bytes h f' w =
    let few = sound_inside s at slots last count bytes h in
    let long : count ≤ length (replicate count bytes) = rw length-replicate (omega arith) in
    record {
      ahead = omega (arith, i.ahead);
      inside = h.inside;
      slots_in = few;
      slots_room = ap length w ∙ length-paste f slots (replicate count bytes) count (omega (arith, i.slots_room)) long ∙ i.slots_room;
      goes = λ q z g.
          let before = with_runs j slots last in
          let r : Record = Bw count bytes in
          let here = h.reads q in
          let none = clean q s at slots last count bytes j h in
          let p = i.goes q z g in
          (turn_more q s at before z f p r (at + 8) here refl none (with_runs j (slots + count) bytes) z f'
          (takes_run before z f r (at + 8) (turn_fine q s at before z f p r (at + 8) here refl none) count bytes (with_runs j (slots + count) bytes) f' refl refl w)).1;
    }

pub runs_end : (s : List ℕ) (from : ℕ) (j : Progress) (old : List ℕ) (at slots last : ℕ) (f : List ℕ) → Taking s from j old at slots last f → TakeRunsPost s from j old (with_runs j slots last, at) f
runs_end s from j old at slots last f i = record { goes_on = λ q. record { ahead = i.ahead; reached = i.goes q } }

-- ---- SZs

-- n SZs that follow one are taken, up to a place.
pub record Passing (s : List ℕ) (from : ℕ) (j : Progress) (n at : ℕ) : Type 0 where
  pub so_far : at ≡ from + 9 * n
  pub inside : at ≤ length s
  pub goes : (z f : List ℕ) → OneStepPre true s from j z f → OneStepPre true s at (with_overrides j n at) z f

-- The bytes of no run are kept as 0.
no_run : (r : Record) → place r ≡ 3 → run_bytes r ≡ 0
no_run (Pg p) e = refl
no_run (Ly size) e = refl
no_run (Sz chunk layer bytes) e = refl
no_run (Bw count bytes) e = absurd (omega arith)
no_run En e = refl

pub overrides_start : (s : List ℕ) (from : ℕ) (j : Progress) → Reached s from j → j.place ≡ 3 → Passing s from j 0 from
overrides_start s from j p third = record { so_far = omega arith; inside = p.inside; goes = λ z f g. subst (λ (k : Progress). OneStepPre true s from k z f) (same z f g) g } where
  same : (z f : List ℕ) → OneStepPre true s from j z f → j ≡ with_overrides j 0 from
  same z f g =
      let last : place (previous g.before) ≡ 3 = sym g.stands.place_is ∙ third in
      let none : j.bytes ≡ 0 = g.stands.bytes_is ∙ no_run (previous g.before) last in
      let behind : j.ends ≡ from = g.counts.behind last in
      let more : j.overrides ≡ j.overrides + 0 = omega arith in
      ap (λ (n : ℕ). record { place = n; bytes = j.bytes; seen = j.seen; programme = j.programme; layers = j.layers; overrides = j.overrides; ends = j.ends; slots = j.slots }) third
      ∙ ap (λ (n : ℕ). record { place = 3; bytes = n; seen = j.seen; programme = j.programme; layers = j.layers; overrides = j.overrides; ends = j.ends; slots = j.slots }) none
      ∙ ap (λ (n : ℕ). record { place = 3; bytes = 0; seen = j.seen; programme = j.programme; layers = j.layers; overrides = n; ends = j.ends; slots = j.slots }) more
      ∙ ap (λ (n : ℕ). with_overrides j 0 n) behind

-- What `override_at` says.
pub override_inside : (s : List ℕ) (at : ℕ) (b : Bool) → b ≡ leb (at + 9) (length s) && marked SZ (drop at s) → b ≡ true → at + 9 ≤ length s
override_inside s at b e t = (leb_iff (at + 9) (length s)).0 (and_T (leb (at + 9) (length s)) (marked SZ (drop at s)) (rw (sym e ∙ t) tt)).0

pub overrides_more : (s : List ℕ) (from : ℕ) (j : Progress) (n at : ℕ) → Passing s from j n at → (b : Bool) → b ≡ leb (at + 9) (length s) && marked SZ (drop at s) → b ≡ true → Passing s from j (n + 1) (at + 9)
overrides_more s from j n at i b e t =
    let long = override_inside s at b e t in
    let mark : T (marked SZ (drop at s)) = (and_T (leb (at + 9) (length s)) (marked SZ (drop at s)) (rw (sym e ∙ t) tt)).1 in
    let here = override_here s at long (T_true (marked SZ (drop at s)) mark) in
    let rest = drop at s in
    let r : Record = override_at rest in
    let before = with_overrides j n at in
    let more : j.overrides + n + 1 ≡ j.overrides + (n + 1) = omega arith in
    record {
      so_far = omega (arith, i.so_far);
      inside = long;
      goes = λ z f g.
          let p = i.goes z f g in
          let next = (turn_more true s at before z f p r (at + 9) here refl refl (with_overrides before 1 (at + 9)) z f
          (takes_override before z f r (at + 9) (turn_fine true s at before z f p r (at + 9) here refl refl) (h_at rest 2) (get_or rest 4 0) (w_at rest 5) (with_overrides before 1 (at + 9)) refl refl)).1 in
          subst (λ (k : ℕ). OneStepPre true s (at + 9) (record { place = 3; bytes = 0; seen = j.seen; programme = j.programme; layers = j.layers; overrides = k; ends = at + 9; slots = j.slots }) z f) more next;
    }

pub overrides_end : (s : List ℕ) (from : ℕ) (j : Progress) (n at : ℕ) → Passing s from j n at → TakeOverridesPost s from j (with_overrides j n at, at)
overrides_end s from j n at i = record { goes_on = λ f. record { ahead = omega (arith, i.so_far); reached = λ z g. i.goes z f g } }

-- ---- neither

-- In a file of which one sequence is asked.
pub overrides_go : (q : Bool) → q ≡ true → (s : List ℕ) (from : ℕ) (j : Progress) (f : List ℕ) (r : Progress × ℕ) → TakeOverridesPost s from j r → GoesOn q s from j f r f
overrides_go q e s from j f r p = subst (λ (b : Bool). GoesOn b s from j f r f) (sym e) (p.goes_on f)

pub no_more : (q : Bool) (s : List ℕ) (from : ℕ) (j : Progress) (f : List ℕ) → GoesOn q s from j f (j, from) f
no_more q s from j f = record { ahead = omega arith; reached = λ z g. g }
