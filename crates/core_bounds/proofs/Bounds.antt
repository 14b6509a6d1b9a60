-- Laws on the two bounds: the rows in the tables are those of theory_most. Assumes nothing.
use Prim.Native.Nat.{ℕ, zero, suc, ◌+◌, ◌*◌, ◌-◌, ◌/◌, ◌≤◌, ◌<◌, min}
use mathlib.Core.Path.{◌≡◌, refl, sym, ap, subst, ◌∙◌}
use mathlib.Core.Bool.{Bool}
use mathlib.Core.List.{List, ◌++◌}
use mathlib.Core.Logic.{⊎_elim}
use native.Mathlib.Nat.{div-le_self}
use native.Mathlib.Omega.{arith}
use borrow.Author.Tests.{le-leb, lt-ltb}
use lib.ListN.{length, get_or, take, get_or-append}
use lib.Seq.{get_or-append-add, length-take-le}
use lib.Dec.{leb, leb→le, nleb→lt}
use Rattle.theory_basics.specs.lemmas.Tests.{test}
use Rattle.job.specs.declared.Programme.{Programme}
use Rattle.job.specs.Job.{Accepted, Job, chunks, due, due_slot, held_most, job_of}
use Rattle.job.specs.lemmas.Within.{size_most}
use Rattle.theory_plan.specs.Bases.{base_size}
use Rattle.theory_plan.specs.Plan.{after}
use Rattle.theory_plan.specs.lemmas.Parts.{part_small}
use Rattle.theory_plan.specs.lemmas.Words.{due_by}
use Rattle.theory_most.specs.Statement.{any_row, bound, bound_any, largest, least, most_from, no_chunks, too_much, with_or_without}
use Rattle.theory_most.proofs.Theorems.{least_at, least_at_end, least_of_none}
use Rattle.theory_most.specs.lemmas.InTables.{EachJob, RowsFrom, Says}
use Rattle.theory_most.proofs.Rising.{any_top, least_top}
use Rattle.core_decide.specs.lemmas.Accepted.{left_is, part_in}
use Rattle.core_bounds.specs.lemmas.Tables.{AnyOrderPost, BoundPre, ClearRowPost, CutAbovePost, FillRowPost, FillRowPre, InFrontPost, InOrderPost, InOrderPre, RowPre}

pub largest_cong : (p q : ℕ → Bool) (n : ℕ) → ((c : ℕ) → c ≤ n → p c ≡ q c) → largest p n ≡ largest q n
largest_cong p q zero f = refl
largest_cong p q (suc n) f = rw (f (suc n) (omega arith), largest_cong p q n (λ c h. f c (omega arith)))

-- ---- the bound in any order

-- The row of the last n chunks.
abbrev pub AnyRow : Job → ℕ → List ℕ → Type 0
AnyRow j n row = (c : ℕ) → c ≤ chunks j → get_or row c 0 ≡ any_row j n c

pub any_start : (j : Job) (none : ℕ) (row : List ℕ) → chunks j ≤ 500 → none ≡ too_much j → ClearRowPost none row → AnyRow j 0 row
any_start j none row few e r zero h = r.first
any_start j none row few e r (suc c) h = r.others c (omega arith) ∙ e

any_none : (j : Job) (n : ℕ) → any_row j n 0 ≡ 0
any_none j zero = refl
any_none j (suc n) = let k = chunks j - n in rw (le-leb 0 (most_from j k (with_or_without j k (any_row j n))) (omega arith))

module _
    (j : Job) (n k : ℕ) (is : chunks j - n ≡ k) (base left late none : ℕ) (base_is : base ≡ base_size j k) (left_is : left ≡ after j (due j k))
    (late_is : late ≡ after j (due j k - 1)) (none_is : none ≡ too_much j) (row : List ℕ) (rows : AnyRow j n row) where
  front_is : (mid : List ℕ) → InFrontPost base left (chunks j) row mid → (c : ℕ) → c ≤ chunks j → get_or mid c 0 ≡ with_or_without j k (any_row j n) c
  front_is mid f zero h = f.first ∙ rows 0 (omega arith) ∙ any_none j n
  front_is mid f (suc c) h = f.others c (omega arith) ∙ rw (rows (suc c) h, rows c (omega arith), base_is, left_is)

  pub any_more :
      (mid new : List ℕ) (most : ℕ) {cap : ℕ} → InFrontPost base left (chunks j) row mid → most ≡ largest (λ c. leb (get_or mid c 0) late) (chunks j) →
      CutAbovePost none cap (chunks j) mid new → cap ≡ held_most j + most → AnyRow j (suc n) new
  any_more mid new most {cap} f m t w c h =
      let l = largest_cong (λ c. leb (get_or mid c 0) late) (λ c. leb (with_or_without j k (any_row j n) c) (after j (due j k - 1))) (chunks j)
      (λ c h. rw (front_is mid f c h, late_is)) in
      let e : cap ≡ most_from j k (with_or_without j k (any_row j n)) = w ∙ rw (m, l) in
      t c h ∙ rw (e, front_is mid f c h, none_is, is)

pub any_end : (j : Job) (row : List ℕ) → AnyRow j (chunks j) row → largest (λ c. leb (get_or row c 0) (after j 0)) (chunks j) ≡ bound_any j
unfolding bound_any
any_end j row r = largest_cong (λ c. leb (get_or row c 0) (after j 0)) (λ c. leb (any_row j (chunks j) c) (after j 0)) (chunks j) (λ c h. rw (r c h))

-- ---- the bound in playing order

-- Behind the last chunk every row is that of none.
pub far_row : (j : Job) (a x : ℕ) → least j (min a (chunks j)) x ≡ least j a x
far_row j a x =
    ⊎_elim
    (λ t. let h = leb→le a (chunks j) t in let e : min a (chunks j) ≡ a = omega arith in rw e)
    (λ t. let h = nleb→lt a (chunks j) t in let e : min a (chunks j) ≡ chunks j = omega arith in rw e (beyond h x))
    (test (leb a (chunks j)))
  where
    beyond : chunks j < a → (x : ℕ) → least j (chunks j) x ≡ least j a x
    beyond h zero = least_of_none j (chunks j) ∙ sym (least_of_none j a)
    beyond h (suc x) = least_at_end j (chunks j) x (omega arith) ∙ sym (least_at_end j a x (omega arith))

-- The row of no chunks behind the last chunk.
pub rows_start :
    (j : Job) (none : ℕ) (front row rest : List ℕ) → length front ≡ chunks j * 501 → chunks j ≤ 500 → none ≡ too_much j → ClearRowPost none row →
    RowsFrom j (chunks j) (front ++ (row ++ rest))
rows_start j none front row rest l few e r k c u v w =
    let at : k * 501 + c ≡ length front + c = omega arith in
    rw at
    (get_or-append-add front (row ++ rest) c 0
    ∙ get_or-append row rest 0 c (omega (arith, r.long))
    ∙ any_start j none row few e r c w
    ∙ none_least c)
  where
    none_least : (c : ℕ) → no_chunks j c ≡ least j k c
    none_least zero = sym (least_of_none j k)
    none_least (suc c) = sym (least_at_end j k c u)

module _
    (j : Job) (i : ℕ) (inside : i < chunks j) (some : 1 ≤ held_most j) (held base left late none : ℕ) (held_is : held ≡ held_most j)
    (base_is : base ≡ base_size j (suc i)) (left_is : left ≡ after j (due j (suc i))) (late_is : late ≡ after j (due j (suc i) - 1))
    (none_is : none ≡ too_much j) (old new : List ℕ) (rows : RowsFrom j (suc i) old) (f : FillRowPost i (chunks j) held base left late none old new) where
  row_is : (c : ℕ) → c ≤ chunks j → get_or new (i * 501 + c) 0 ≡ least j i c
  row_is zero h = let e : i * 501 + 0 ≡ i * 501 = omega arith in rw e (f.first ∙ sym (least_of_none j i))
  row_is (suc c) h =
      let next = rows (suc i) (suc c) (omega arith) (omega arith) h in
      let near = rows (suc i) c (omega arith) (omega arith) (omega arith) in
      let far = rows (min (i + held_most j) (chunks j)) (suc c - held_most j) (omega arith) (omega arith) (omega arith) ∙ far_row j (i + held_most j) (suc c - held_most j) in
      f.others c (omega arith)
      ∙ rw (held_is, next, near, far, base_is, left_is, late_is, none_is) (sym (rw (lt-ltb 0 (held_most j) (omega arith)) at (least_at j i c inside)))

  pub rows_more : RowsFrom j i new
  rows_more k c u v w =
      ⊎_elim
      (λ t. f.behind (k * 501 + c) (omega (arith, leb→le (suc i) k t)) ∙ rows k c (leb→le (suc i) k t) v w)
      (λ t. let e : i ≡ k = omega (arith, nleb→lt (suc i) k t) in rw e at (row_is c w))
      (test (leb (suc i) k))

pub rows_end : (j : Job) (work : List ℕ) → RowsFrom j 0 work → largest (λ c. leb (get_or work c 0) (after j 0)) (chunks j) ≡ bound j
unfolding bound
rows_end j work r =
    largest_cong (λ c. leb (get_or work c 0) (after j 0)) (λ c. leb (least j 0 c) (after j 0)) (chunks j)
    (λ c h. let e : 0 * 501 + c ≡ c = omega arith in rw (rw e at (r 0 c (omega arith) (omega arith) h)))

-- ---- what can be, from one accepted job that the tables say

module _ {p : Programme} {sizes : ℕ → ℕ → ℕ} {left : List ℕ} (o : BoundPre p sizes left) where
  abbrev job : Job
  job = job_of p o.sizes o.overrides o.forecast

  ok : Accepted job
  ok = o.holds.accepted

  pub few : p.chunks ≤ 500
  few = ok.chunks_in.high

  pub sum_most : (t : ℕ) → get_or left t 0 ≤ 60397977600
  sum_most t =
      subst (λ (f : ℕ → ℕ). f t ≤ 60397977600) (sym o.holds.left_is)
      (subst (λ (f : ℕ → ℕ). f t ≤ 60397977600) (left_is job ok) (part_small 1 o.forecast (part_in job ok) t))

  pub base_most : (k : ℕ) → sizes k 0 ≤ 16777216
  base_most k = subst (λ (f : ℕ → ℕ → ℕ). f k 0 ≤ 16777216) (sym o.holds.sizes_are) (size_most job ok k 0)

  pub held_small : p.limit / p.span ≤ 65535
  held_small = omega (arith, div-le_self p.limit p.span, ok.limit_in.high)

  pub slot_most : (k : ℕ) → k ≤ p.chunks → due_slot p k ≤ 3600
  slot_most k h = omega (arith, due_by p k h, ok.last_in)

-- What the tables say of a job.
module _ {j : Job} {sizes : ℕ → ℕ → ℕ} {left : List ℕ} (s : Says j sizes left) where
  sum_is : (t : ℕ) → get_or left t 0 ≡ after j t
  sum_is t = ap (λ (f : ℕ → ℕ). f t) s.left_is

  base_is : (k : ℕ) → sizes k 0 ≡ base_size j k
  base_is k = ap (λ (f : ℕ → ℕ → ℕ). f k 0) s.sizes_are

  none_is : get_or left 0 0 + 1 ≡ too_much j
  none_is = omega (arith, sum_is 0)

-- ---- the loop of any_order

-- The row of the chunks from k + 1 on.
pub record AnyLoop (p : Programme) (sizes : ℕ → ℕ → ℕ) (left : List ℕ) (k : ℕ) (row : List ℕ) : Type 0 where
  pub each : EachJob p (λ j. Says j sizes left → AnyRow j (chunks j - k) row)
  pub within : k ≤ p.chunks

module _ {p : Programme} {sizes : ℕ → ℕ → ℕ} {left : List ℕ} (o : BoundPre p sizes left) where
  pub any_loop_start : (row : List ℕ) → ClearRowPost (get_or left 0 0 + 1) row → AnyLoop p sizes left p.chunks row
  any_loop_start row r = record {
    each = λ z v f s.
        let j = job_of p z v f in
        let e : chunks j - chunks j ≡ 0 = omega arith in
        rw e (any_start j (get_or left 0 0 + 1) row (few o) (none_is s) r);
    within = omega arith;
  }

  pub row_from : (k base d : ℕ) (row : List ℕ) → base ≡ sizes k 0 → AnyLoop p sizes left k row → RowPre base (get_or left d 0) p.chunks row
  row_from k base d row e r = record {
    small = omega (arith, e, base_most o k);
    sums = sum_most o d;
    few = few o;
    needs = λ c h.
        let j = job o in
        omega (arith, r.each o.sizes o.overrides o.forecast o.holds c (omega arith), any_top j (chunks j - k) c, sum_is o.holds 0, sum_most o 0);
  }

  pub any_loop_more :
      (k base d most : ℕ) {cap : ℕ} (row mid new : List ℕ) → AnyLoop p sizes left k row → 0 < k → base ≡ sizes k 0 → d ≡ due_slot p k →
      InFrontPost base (get_or left d 0) p.chunks row mid → most ≡ largest (λ c. leb (get_or mid c 0) (get_or left (d - 1) 0)) p.chunks →
      CutAbovePost (get_or left 0 0 + 1) cap p.chunks mid new → cap ≡ p.limit / p.span + most → AnyLoop p sizes left (k - 1) new
  any_loop_more k base d most row mid new r h b e f m t w = record {
    each = λ z v g s.
        let j = job_of p z v g in
        let n : suc (chunks j - k) ≡ chunks j - (k - 1) = omega (arith, r.within) in
        subst (λ (x : ℕ). AnyRow j x new) n
        (any_more j (chunks j - k) k (omega (arith, r.within)) base (get_or left d 0) (get_or left (d - 1) 0) (get_or left 0 0 + 1) (b ∙ base_is s k)
        (sum_is s d ∙ ap (after j) e) (sum_is s (d - 1) ∙ ap (λ (x : ℕ). after j (x - 1)) e) (none_is s) row (r.each z v g s) mid new most f m t w);
    within = omega (arith, r.within);
  }

  pub any_loop_end :
      (k most : ℕ) (row : List ℕ) → AnyLoop p sizes left k row → k ≤ 0 → most ≡ largest (λ c. leb (get_or row c 0) (get_or left 0 0)) p.chunks →
      AnyOrderPost p sizes left most
  any_loop_end k most row r h m z v g s =
      let j = job_of p z v g in
      let n : chunks j - k ≡ chunks j = omega arith in
      m ∙ rw (sum_is s 0) (any_end j row (rw n at (r.each z v g s)))

-- ---- the loop of in_order

-- The rows behind chunk k and behind every later chunk.
pub record OrderLoop (p : Programme) (sizes : ℕ → ℕ → ℕ) (left : List ℕ) (size k : ℕ) (work : List ℕ) : Type 0 where
  pub each : EachJob p (λ j. Says j sizes left → RowsFrom j k work)
  pub within : k ≤ p.chunks
  pub room : (p.chunks + 1) * 501 ≤ length work
  pub long : length work ≡ size

module _ {p : Programme} {sizes : ℕ → ℕ → ℕ} {left entry : List ℕ} (o : InOrderPre p sizes left entry) where
  pub order_start :
      (row rest : List ℕ) → ClearRowPost (get_or left 0 0 + 1) row → length (take (p.chunks * 501) entry ++ (row ++ rest)) ≡ length entry →
      OrderLoop p sizes left (length (take (p.chunks * 501) entry ++ (row ++ rest))) p.chunks (take (p.chunks * 501) entry ++ (row ++ rest))
  order_start row rest r l = record {
    each = λ z v g s.
        rows_start (job_of p z v g) (get_or left 0 0 + 1) (take (p.chunks * 501) entry) row rest (length-take-le (p.chunks * 501) entry (omega (arith, o.long)))
        (few o.job) (none_is s) r;
    within = omega arith;
    room = omega (arith, o.long);
    long = refl;
  }

  module _ (size k : ℕ) (work : List ℕ) (r : OrderLoop p sizes left size k work) (h : 0 < k) where
    back : suc (k - 1) ≡ k
    back = omega arith

    pub fill_from :
        (held base d : ℕ) → held ≡ p.limit / p.span → base ≡ sizes k 0 → FillRowPre (k - 1) p.chunks held base (get_or left d 0) work
    fill_from held base d w b = record {
      inside = omega (arith, r.within);
      few = few o.job;
      held_in = omega (arith, held_small o.job);
      held_some = omega (arith, o.held_some);
      small = omega (arith, base_most o.job k);
      sums = sum_most o.job d;
      needs = λ c u.
          let q = o.job in
          let j = job q in
          rw back
          (omega (arith, r.each q.sizes q.overrides q.forecast q.holds k c (omega arith) r.within (omega arith), least_top j k c, sum_is q.holds 0, sum_most q 0));
      long = r.room;
    }

    pub order_more :
        (held base d : ℕ) (new : List ℕ) → held ≡ p.limit / p.span → base ≡ sizes k 0 → d ≡ due_slot p k →
        FillRowPost (k - 1) p.chunks held base (get_or left d 0) (get_or left (d - 1) 0) (get_or left 0 0 + 1) work new →
        OrderLoop p sizes left size (k - 1) new
    order_more held base d new w b e f = record {
      each = λ z v g s.
          let j = job_of p z v g in
          let on : k ≡ suc (k - 1) = sym back in
          rows_more j (k - 1) (omega (arith, r.within)) o.held_some held base (get_or left d 0) (get_or left (d - 1) 0) (get_or left 0 0 + 1) w
          (b ∙ base_is s k ∙ ap (base_size j) on)
          (sum_is s d ∙ ap (after j) (e ∙ ap (due j) on))
          (sum_is s (d - 1) ∙ ap (λ (x : ℕ). after j (x - 1)) (e ∙ ap (due j) on))
          (none_is s)
          work
          new
          (subst (λ (x : ℕ). RowsFrom j x work) on (r.each z v g s))
          f;
      within = omega (arith, r.within);
      room = omega (arith, r.room, f.long);
      long = f.long ∙ r.long;
    }

  pub order_end :
      (size k most : ℕ) (work : List ℕ) → OrderLoop p sizes left size k work → size ≡ length entry → k ≤ 0 →
      most ≡ largest (λ c. leb (get_or work c 0) (get_or left 0 0)) p.chunks → InOrderPost p sizes left most entry work
  order_end size k most work r l h m = record {
    each = λ z v g s.
        let j = job_of p z v g in
        let rows : RowsFrom j 0 work = λ i c u q w. r.each z v g s i c (omega arith) q w in
        record { is_bound = m ∙ rw (sum_is s 0) (rows_end j work rows); rows = rows };
    long = r.long ∙ l;
  }
