-- Laws on the lines of a plan: one line, the lines of a chunk, the lines of all chunks. Assumes
-- nothing.
use mathlib.Core.Path.{◌≡◌, refl, sym, ◌∙◌, ap}
use mathlib.Core.Bool.{Bool, cond, ◌&&◌}
use mathlib.Core.List.{List, [], ◌∷◌, ◌++◌, append_assoc, append-nil}
use mathlib.Core.Logic.{⊎_elim}
use Prim.Native.Nat.{ℕ, zero, suc, ◌+◌, ◌-◌, ◌≤◌, ◌<◌}
use native.Mathlib.Omega.{arith}
use native.Mathlib.Numerals.{add-one}
use lib.ListN.{length, get_or, length-append}
use lib.Dec.{eqb, ltb}
use borrow.Author.Tests.{le-leb, lt-leb, lt-ltb, le-ltb}
use Rattle.theory_basics.specs.lemmas.Tests.{by_cond, last}
use Rattle.job.specs.declared.Programme.{Programme}
use Rattle.job.specs.Job as Job
use Rattle.job.specs.Job.{Job, chunks}
use Rattle.theory_plan.specs.lemmas.Words.{layer_of}
use Rattle.theory_reasons.specs.Lines.{line_at, short_line}
use Rattle.theory_reasons.specs.Statement.{Place, lower, missing_of, missing_to, sentence}
use Rattle.core_reasons.specs.declared.passes.Stretch.{Stretch}
use Rattle.core_reasons.specs.lemmas.All.{PutReasonsPost, PutReasonsPre, PutChunkPost, PutChunkPre, Facts, PutLinePost, PutLinePre, against_by, cap_of, sentence_at, text_at}
use Rattle.core_reasons.specs.lemmas.Tables.{FindShortPost}
use Rattle.core_text.specs.lemmas.Places.{Put, put_length, put_none, put_room, put_then}
use Rattle.core_reasons.specs.lemmas.Sentences.{short_of}

-- ---- one line

pub cap_most : (most : Bool) (n : ℕ) → n ≤ 3 → cap_of most n ≤ 4
cap_most most n h = by_cond (λ (m : ℕ). m ≤ 4) (most && eqb n 0) (λ t. omega arith) (λ t. omega arith)

module _ (p : Programme) (most : Bool) (sums after levels : List ℕ) (i n : ℕ) (u : 1 ≤ i) (v : i ≤ p.chunks) where
  module _ (j : Job) (plan : ℕ → ℕ) (f : Facts j plan p most sums after levels) where
    chunk_in : i ≤ chunks j
    chunk_in = omega (arith, ap (λ (q : Programme). q.chunks) f.given.same)

    line_short : n < Job.layers j → n ≡ get_or levels (i - 1) 0 → (s : Stretch) → FindShortPost p sums after levels i n (cap_of most n) s → line_at j plan (against_by most plan) i n ≡ short_of i n s
    line_short w h s x =
        let e : plan i ≡ n = sym (h ∙ f.given.carried i u chunk_in) in
        let r = f.refuses i n (layer_of j i n u chunk_in w) e in
        rw (le-leb n (plan i) (omega arith)) (ap (short_line i n) (sym (x.found j f.accepted plan f.given r.0 r.1)))

    line_lower : get_or levels (i - 1) 0 < n → line_at j plan (against_by most plan) i n ≡ lower i n (n - 1)
    line_lower h = rw (lt-leb n (plan i) (omega (arith, f.given.carried i u chunk_in)))

  pub short_room : (j : Job) (plan : ℕ → ℕ) → Facts j plan p most sums after levels → n < Job.layers j → (at : ℕ) (out : List ℕ) → at + length (sentence_at j plan most (record { chunk = i; layer = n })) ≤ length out → n ≡ get_or levels (i - 1) 0 → (s : Stretch) → FindShortPost p sums after levels i n (cap_of most n) s → at + length (sentence (short_of i n s)) ≤ length out
  short_room j plan f w at out r h s x = rw (ap sentence (line_short j plan f w h s x)) at r

  pub lower_room : (j : Job) (plan : ℕ → ℕ) → Facts j plan p most sums after levels → (at : ℕ) (out : List ℕ) → at + length (sentence_at j plan most (record { chunk = i; layer = n })) ≤ length out → get_or levels (i - 1) 0 < n → at + length (sentence (lower i n (n - 1))) ≤ length out
  lower_room j plan f at out r h = rw (ap sentence (line_lower j plan f h)) at r

  pub short_done : (old : List ℕ) (at : ℕ) (out : List ℕ) (next : ℕ) → n ≡ get_or levels (i - 1) 0 → (s : Stretch) → FindShortPost p sums after levels i n (cap_of most n) s → Put old at (sentence (short_of i n s)) out next → PutLinePost p most sums after levels i n old at out next
  short_done old at out next h s x q = record { put = λ j plan f w. rw (ap sentence (line_short j plan f w h s x)) q }

  pub lower_done : (old : List ℕ) (at : ℕ) (out : List ℕ) (next : ℕ) → get_or levels (i - 1) 0 < n → Put old at (sentence (lower i n (n - 1))) out next → PutLinePost p most sums after levels i n old at out next
  lower_done old at out next h q = record { put = λ j plan f w. rw (ap sentence (line_lower j plan f h)) q }

-- ---- texts

module _ (j : Job) (plan : ℕ → ℕ) (most : Bool) where
  lines_append : (xs ys : List Place) → text_at j plan most (xs ++ ys) ≡ text_at j plan most xs ++ text_at j plan most ys
  lines_append [] ys = refl
  lines_append (x ∷ xs) ys = ap (λ (l : List ℕ). sentence_at j plan most x ++ l) (lines_append xs ys) ∙ sym (append_assoc (sentence_at j plan most x) (text_at j plan most xs) (text_at j plan most ys))

  missing_none : (i n : ℕ) → n ≤ plan i → missing_of plan i n ≡ []
  missing_none i zero h = refl
  missing_none i (suc n) h = rw (missing_none i n (omega arith), lt-ltb n (plan i) h)

  missing_more : (i n : ℕ) → plan i ≤ n → missing_of plan i (suc n) ≡ missing_of plan i n ++ (record { chunk = i; layer = n } ∷ [])
  missing_more i n h = rw (le-ltb n (plan i) h)

  lines_more : (i n : ℕ) → plan i ≤ n → text_at j plan most (missing_of plan i (suc n)) ≡ text_at j plan most (missing_of plan i n) ++ sentence_at j plan most (record { chunk = i; layer = n })
  lines_more i n h =
      ap (text_at j plan most) (missing_more i n h)
      ∙ lines_append (missing_of plan i n) (record { chunk = i; layer = n } ∷ [])
      ∙ ap (λ (l : List ℕ). text_at j plan most (missing_of plan i n) ++ l) (append-nil (sentence_at j plan most (record { chunk = i; layer = n })))

  lines_grow : (i n : ℕ) → length (text_at j plan most (missing_of plan i n)) ≤ length (text_at j plan most (missing_of plan i (suc n)))
  lines_grow i n =
      omega (
        arith,
        ap length (lines_append (missing_of plan i n) (cond (ltb n (plan i)) [] (record { chunk = i; layer = n } ∷ []))),
        length-append (text_at j plan most (missing_of plan i n)) (text_at j plan most (cond (ltb n (plan i)) [] (record { chunk = i; layer = n } ∷ []))),
      )

  lines_mono : (i n m : ℕ) → n ≤ m → length (text_at j plan most (missing_of plan i n)) ≤ length (text_at j plan most (missing_of plan i m))
  lines_mono i n zero h = let e : n ≡ 0 = omega arith in rw e (omega arith)
  lines_mono i n (suc m) h = ⊎_elim (λ l. omega (arith, lines_mono i n m l, lines_grow i m)) (λ e. rw e (omega arith)) (last n m h)

  all_more : (n i : ℕ) → text_at j plan most (missing_to plan n (suc i)) ≡ text_at j plan most (missing_to plan n i) ++ text_at j plan most (missing_of plan (suc i) n)
  all_more n i = lines_append (missing_to plan n i) (missing_of plan (suc i) n)

  all_mono : (n i k : ℕ) → i ≤ k → length (text_at j plan most (missing_to plan n i)) ≤ length (text_at j plan most (missing_to plan n k))
  all_mono n i zero h = let e : i ≡ 0 = omega arith in rw e (omega arith)
  all_mono n i (suc k) h =
      ⊎_elim
      (λ l. omega (arith, all_mono n i k l, ap length (all_more n k), length-append (text_at j plan most (missing_to plan n k)) (text_at j plan most (missing_of plan (suc k) n))))
      (λ e. rw e (omega arith))
      (last i k h)

-- ---- the lines of a chunk

module _ (p : Programme) (layers : ℕ) (most : Bool) (sums after levels : List ℕ) (i : ℕ) (old : List ℕ) (at : ℕ) where
  pub record Lining (out : List ℕ) (next n : ℕ) : Type 0 where
    pub same : length out ≡ length old
    pub low : get_or levels (i - 1) 0 ≤ n
    pub high : n ≤ layers
    pub put : (j : Job) (plan : ℕ → ℕ) → Facts j plan p most sums after levels → layers ≡ Job.layers j → Put old at (text_at j plan most (missing_of plan i n)) out next

  module _ (held : ℕ) (o : PutChunkPre p held layers most sums after levels i old at) where
    level_is : (j : Job) (plan : ℕ → ℕ) → Facts j plan p most sums after levels → get_or levels (i - 1) 0 ≡ plan i
    level_is j plan f = f.given.carried i o.chunk_low (omega (arith, o.chunk_high, ap (λ (q : Programme). q.chunks) f.given.same))

    pub lining_start : Lining old at (get_or levels (i - 1) 0)
    lining_start =
        record {
          same = refl;
          low = omega arith;
          high = omega (arith, level_is o.job o.plan o.facts, o.facts.choice i o.chunk_low (omega (arith, o.chunk_high, ap (λ (q : Programme). q.chunks) o.facts.given.same)), o.layers_is);
          put = λ j plan f e. rw (missing_none j plan most i (get_or levels (i - 1) 0) (omega (arith, level_is j plan f))) (put_none old at);
        }

    module _ (out : List ℕ) (next n : ℕ) (l : Lining out next n) (h : n < layers) where
      pub line_from : PutLinePre p held most sums after levels i n (get_or levels (i - 1) 0) out next
      line_from =
          let j = o.job in
          let plan = o.plan in
          let s = text_at j plan most (missing_of plan i n) in
          let e = lines_more j plan most i n (omega (arith, level_is j plan o.facts, l.low)) in
          let m = lines_mono j plan most i (suc n) layers h in
          record {
            tables = o.tables;
            chunk_low = o.chunk_low;
            chunk_high = o.chunk_high;
            layer = omega (arith, o.layers_is, o.facts.accepted.layers_in.high);
            have_is = refl;
            missing = l.low;
            job = j;
            plan = plan;
            facts = o.facts;
            in_job = omega (arith, o.layers_is);
            room = put_room s (sentence_at j plan most (record { chunk = i; layer = n })) (omega (arith, o.room, ap length e)) (l.put j plan o.facts o.layers_is);
          }

      -- The lines up to this one fit, whatever job and plan they are said of: the places are the
      -- same.
      fits : (j : Job) (plan : ℕ → ℕ) → Facts j plan p most sums after levels → layers ≡ Job.layers j → (out' : List ℕ) (next' : ℕ) → PutLinePost p most sums after levels i n out next out' next' → at + length (text_at j plan most (missing_of plan i n) ++ sentence_at j plan most (record { chunk = i; layer = n })) ≤ length old
      fits j plan f e out' next' d =
          let x : Place = record { chunk = i; layer = n } in
          let w = (l.put o.job o.plan o.facts o.layers_is).place in
          let w' = (d.put o.job o.plan o.facts (omega (arith, o.layers_is))).place in
          let m = lines_mono o.job o.plan most i (suc n) layers h in
          let more = ap length (lines_more o.job o.plan most i n (omega (arith, level_is o.job o.plan o.facts, l.low))) in
          omega (
            arith,
            w,
            w',
            m,
            more,
            o.room,
            length-append (text_at o.job o.plan most (missing_of o.plan i n)) (sentence_at o.job o.plan most x),
            (l.put j plan f e).place,
            (d.put j plan f (omega (arith, e))).place,
            length-append (text_at j plan most (missing_of plan i n)) (sentence_at j plan most x),
          )

      pub lining_more : (out' : List ℕ) (next' : ℕ) → PutLinePost p most sums after levels i n out next out' next' → Lining out' next' (n + 1)
      lining_more out' next' d =
          record {
            same = put_length (d.put line_from.job line_from.plan line_from.facts line_from.in_job) ∙ l.same;
            low = omega (arith, l.low);
            high = omega arith;
            put = λ j plan f e.
                let x = lines_more j plan most i n (omega (arith, level_is j plan f, l.low)) in
                rw (add-one, x) (put_then (text_at j plan most (missing_of plan i n)) (sentence_at j plan most (record { chunk = i; layer = n })) (fits j plan f e out' next' d) (l.put j plan f e) (d.put j plan f (omega (arith, e))));
          }

  pub lining_end : (out : List ℕ) (next n : ℕ) → Lining out next n → layers ≤ n → PutChunkPost p layers most sums after levels i old at out next
  lining_end out next n l h =
      let e : n ≡ layers = omega (arith, l.high) in
      record { put = rw e at l.put }

-- ---- the lines of all chunks

module _ (p : Programme) (held layers : ℕ) (most : Bool) (sums after levels old : List ℕ) where
  pub record Telling (out : List ℕ) (next k : ℕ) : Type 0 where
    pub same : length out ≡ length old
    pub high : k ≤ p.chunks
    pub put : (j : Job) (plan : ℕ → ℕ) → Facts j plan p most sums after levels → layers ≡ Job.layers j → Put old 0 (text_at j plan most (missing_to plan layers k)) out next

  module _ (o : PutReasonsPre p held layers most sums after levels old) where
    pub telling_start : Telling old 0 0
    telling_start = record { same = refl; high = omega arith; put = λ j plan f e. put_none old 0 }

    module _ (out : List ℕ) (next k : ℕ) (l : Telling out next k) (h : k < p.chunks) where
      whole : 0 + length (text_at o.job o.plan most (missing_to o.plan layers k) ++ text_at o.job o.plan most (missing_of o.plan (suc k) layers)) ≤ length old
      whole =
          let same = ap (λ (q : Programme). q.chunks) o.facts.given.same in
          omega (
            arith,
            o.room,
            all_mono o.job o.plan most layers (suc k) (chunks o.job) (omega arith),
            ap length (all_more o.job o.plan most layers k),
            ap (λ (m : ℕ). length (text_at o.job o.plan most (missing_to o.plan m (chunks o.job)))) o.layers_is,
          )

      pub chunk_from : PutChunkPre p held layers most sums after levels (k + 1) out next
      chunk_from =
          rw add-one
          (record {
            tables = o.tables;
            chunk_low = omega arith;
            chunk_high = h;
            job = o.job;
            plan = o.plan;
            facts = o.facts;
            layers_is = o.layers_is;
            room = put_room (text_at o.job o.plan most (missing_to o.plan layers k)) (text_at o.job o.plan most (missing_of o.plan (suc k) layers)) whole (l.put o.job o.plan o.facts o.layers_is);
          })

      fits_all : (j : Job) (plan : ℕ → ℕ) → Facts j plan p most sums after levels → layers ≡ Job.layers j → (out' : List ℕ) (next' : ℕ) → PutChunkPost p layers most sums after levels (suc k) out next out' next' → 0 + length (text_at j plan most (missing_to plan layers k) ++ text_at j plan most (missing_of plan (suc k) layers)) ≤ length old
      fits_all j plan f e out' next' d =
          omega (
            arith,
            whole,
            length-append (text_at o.job o.plan most (missing_to o.plan layers k)) (text_at o.job o.plan most (missing_of o.plan (suc k) layers)),
            (l.put o.job o.plan o.facts o.layers_is).place,
            (d.put o.job o.plan o.facts o.layers_is).place,
            (l.put j plan f e).place,
            (d.put j plan f e).place,
            length-append (text_at j plan most (missing_to plan layers k)) (text_at j plan most (missing_of plan (suc k) layers)),
          )

      pub telling_more : (out' : List ℕ) (next' : ℕ) → PutChunkPost p layers most sums after levels (k + 1) out next out' next' → Telling out' next' (k + 1)
      telling_more out' next' d' =
          let d : PutChunkPost p layers most sums after levels (suc k) out next out' next' = rw add-one at d' in
          rw add-one
          (record {
            same = put_length (d'.put chunk_from.job chunk_from.plan chunk_from.facts chunk_from.layers_is) ∙ l.same;
            high = h;
            put = λ j plan f e.
                rw (all_more j plan most layers k)
                (put_then (text_at j plan most (missing_to plan layers k)) (text_at j plan most (missing_of plan (suc k) layers)) (fits_all j plan f e out' next' d) (l.put j plan f e) (d.put j plan f e));
          })

  pub telling_end : (out : List ℕ) (next k : ℕ) → Telling out next k → p.chunks ≤ k → PutReasonsPost p layers most sums after levels old out next
  telling_end out next k l h =
      record {
        put = λ j plan f e.
            let c : k ≡ chunks j = omega (arith, l.high, ap (λ (q : Programme). q.chunks) f.given.same) in
            rw (c, e) at (l.put j plan f e);
      }
