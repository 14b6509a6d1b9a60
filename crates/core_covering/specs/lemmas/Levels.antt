-- Lemmas. How large the numbers are: levels and sets of an accepted job, and what a set waits for
-- as it stands in tables. Assumes nothing.
use Rattle.std.specs.Prelude.{ℕ, zero, suc, ◌+◌, ◌-◌, ◌≤◌, ◌<◌, max, ◌≡◌, List, [], ◌∷◌, length, get_or}
use Rattle.std.proofs.Common.{sym, subst, ◌∙◌, arith, div-le_self, le-ltb, lt-ltb}
use Rattle.job.specs.Job.{Accepted, Job, chunks, held_most}
use Rattle.job.specs.lemmas.Within.{size_most}
use Rattle.theory_plan.specs.Bases.{Asc, base_size}
use Rattle.theory_plan.specs.Plan.{after}
use Rattle.theory_plan.specs.lemmas.Ascending.{asc_nth}
use Rattle.theory_plan.specs.lemmas.Parts.{part_small}
use Rattle.core_decide.specs.lemmas.Accepted.{left_is, part_in}
use Rattle.theory_most.specs.Statement.{Set, after_set, end_of, least, next_from, open_of}
use Rattle.theory_most.proofs.Theorems.{set_waits, set_waits_rise}
use Rattle.theory_most.specs.lemmas.Forward.{level_end, level_open}
use Rattle.theory_most.proofs.Front.{set_inside}
use Rattle.theory_most.proofs.Rising.{least_top}
use Rattle.core_covering.specs.lemmas.Tables.{SetOf}

-- ---- sizes and sums

module _ (j : Job) (ok : Accepted j) where
  pub held_small : held_most j ≤ 65535
  held_small = omega (arith, div-le_self j.programme.limit j.programme.span, ok.limit_in.high)

  pub after_small : (t : ℕ) → after j t ≤ 60397977600
  after_small t = subst (λ (f : ℕ → ℕ). f t ≤ 60397977600) (left_is j ok) (part_small 1 j.forecast (part_in j ok) t)

  pub end_small : (k : ℕ) → k ≤ chunks j → end_of j k ≤ 60397977600
  end_small k h = omega (arith, level_end j k h, after_small 0)

  pub open_small : (k : ℕ) → k ≤ chunks j → open_of j k ≤ 60397977600
  open_small k h = omega (arith, level_open j k h, after_small 0)

  pub base_small : (k : ℕ) → base_size j k ≤ 16777216
  base_small k = size_most j ok k 0

  pub least_small : (i c : ℕ) → least j i c ≤ 60397977601
  least_small i c = omega (arith, least_top j i c, after_small 0)

-- ---- a set

-- Its chunks are of 1 .. i, each once.
asc_few : (lo hi : ℕ) (ks : List ℕ) → lo ≤ suc hi → Asc lo hi ks → length ks + lo ≤ suc hi
asc_few lo hi [] h a = omega arith
asc_few lo hi (k ∷ ks) h a = omega (arith, a.0, a.1, asc_few (suc k) hi ks (omega (arith, a.1)) a.2)

pub set_few : (j : Job) (i : ℕ) (ks : List ℕ) → Set j i ks → length ks ≤ i
set_few j i ks s = omega (arith, asc_few 1 i ks (omega arith) s.ascending)

pub set_chunk : (j : Job) (i : ℕ) (ks : List ℕ) → Set j i ks → (n : ℕ) → n < length ks → (1 ≤ get_or ks n 0) × (get_or ks n 0 ≤ i)
set_chunk j i ks s n h = asc_nth 1 i ks n h s.ascending

-- What it has used and what it waits for is no more than all there is.
module _ (j : Job) (ok : Accepted j) (i : ℕ) (ks : List ℕ) (in_job : i ≤ chunks j) (s : Set j i ks) where
  pub set_used : (after_set j ks).used ≤ 60397977600
  set_used = omega (arith, (set_inside j i ks in_job s).used_in, after_small j ok 0)

  pub set_wait_small : (q : ℕ) → q < held_most j → (after_set j ks).waits q ≤ 60397977600
  set_wait_small q h = omega (arith, (set_inside j i ks in_job s).waits_in q h, after_small j ok 0)

-- What it waits for rises with the place.
pub set_waits_up : (j : Job) (i : ℕ) (ks : List ℕ) → Set j i ks → (q n : ℕ) → q + n < held_most j → (after_set j ks).waits q ≤ (after_set j ks).waits (q + n)
set_waits_up j i ks s q zero h = let e : q + 0 ≡ q = omega arith in rw e (omega arith)
set_waits_up j i ks s q (suc n) h =
    let e : q + suc n ≡ suc (q + n) = omega arith in
    rw e (omega (arith, set_waits_up j i ks s q n (omega arith), set_waits_rise j ks i (q + n) s.ascending (omega arith)))

-- ---- a set in a table

module _ (j : Job) (held : ℕ) (opens set : List ℕ) (o : SetOf j held opens set) where
  pub wait_none : (q : ℕ) → q < held → length set + q < held → (after_set j set).waits q ≡ 0
  wait_none q h l =
      let m : length set + q < held_most j = omega (arith, o.held_is) in
      set_waits j set q (omega (arith, o.held_is)) ∙ rw (lt-ltb (length set + q) (held_most j) m)

  -- The kept chunk H places before the one at place q.
  pub chunk_before : (q : ℕ) → q < held → held ≤ length set + q → (1 ≤ get_or set (length set + q - held) 0) × (get_or set (length set + q - held) 0 ≤ chunks j)
  chunk_before q h l =
      let r = set_chunk j o.chunk set o.is_set (length set + q - held) (omega arith) in
      (r.0, omega (arith, r.1, o.inside))

  pub wait_some : (q : ℕ) → q < held → held ≤ length set + q → (after_set j set).waits q ≡ get_or opens (get_or set (length set + q - held) 0) 0
  wait_some q h l =
      let m : held_most j ≤ length set + q = omega (arith, o.held_is) in
      let c = chunk_before q h l in
      set_waits j set q (omega (arith, o.held_is))
      ∙ rw (le-ltb (length set + q) (held_most j) m)
      (rw (← o.held_is) (sym (o.opens_are.is (get_or set (length set + q - held) 0) c.0 c.1)))

  pub next_is : next_from j (after_set j set) ≡ max (after_set j set).used ((after_set j set).waits 0)
  next_is = rw (lt-ltb 0 (held_most j) (omega (arith, o.held_is, o.held_some)))

  pub next_small : next_from j (after_set j set) ≤ 60397977600
  next_small =
      omega (
        arith,
        next_is,
        set_used j o.accepted o.chunk set o.inside o.is_set,
        set_wait_small j o.accepted o.chunk set o.inside o.is_set 0 (omega (arith, o.held_is, o.held_some)),
      )
