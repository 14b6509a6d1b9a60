-- Laws on the writer: slot by slot, and what it answers. Assumes nothing.
use Prim.Native.Nat.{ℕ, suc, ◌+◌, ◌*◌, ◌/◌, ◌≤◌, ◌<◌}
use mathlib.Core.Path.{◌≡◌, refl, sym, ap, ◌∙◌}
use mathlib.Core.Bool.{Bool, true, false, and-false}
use mathlib.Core.List.{List, [], ◌++◌, append_assoc, append-nil}
use native.Mathlib.Omega.{arith}
use native.Mathlib.Numerals.{add-one}
use lib.ListN.{length, get_or, drop, replicate, length-append, drop_of_length-le}
use lib.Seq.{drop-cons}
use lib.Dec.{leb}
use borrow.Author.Tests.{ne_eqb, le-leb, lt-leb}
use Rattle.theory_basics.specs.Refusals.{unless}
use Rattle.theory_basics.specs.lemmas.Refusals.{or_else_none, or_else_some}
use Rattle.theory_basics.specs.Tests.{all}
use Rattle.trace.specs.lemmas.Tally.{width_from, written_length}
use Rattle.theory_basics.specs.Text.{digits}
use Rattle.trace.specs.Trace.{lines_from, writable, lines_bytes, unwritable_refusal, trace_of}
use Rattle.job.specs.Refusal.{within}
use Rattle.std.specs.Prelude.{Ok, Err}
use Rattle.refusals.specs.declared.Refusal.{Refusal}
use Rattle.refusals.specs.declared.Refusal.TheVariants.{Forecast, ShortBuffer, TraceSlot}
use Rattle.refusals.specs.Numbers.{number_of}
use Rattle.refusals.specs.Laws.{number_above_0}
use Rattle.trace.specs.Answer.{TraceWritePromise, write_refusal}
use Rattle.core_text.specs.lemmas.Places.{Put, put_length, put_none, put_room, put_then, put_whole}
use Rattle.trace.proofs.Repeats.{bytes_append}

-- ---- slot by slot

pub record Writing (f old out : List ℕ) (next t : ℕ) : Type 0 where
  pub inside : t ≤ length f
  pub made : List ℕ
  pub put : Put old 0 made out next
  pub whole : trace_of f ≡ made ++ lines_bytes (lines_from t (drop t f))

pub writing_start : (f old : List ℕ) → Writing f old old 0 0
unfolding trace_of
writing_start f old = record { inside = omega arith; made = []; put = put_none old 0; whole = refl }

module _ (f old : List ℕ) (room : length (trace_of f) ≤ length old) (out : List ℕ) (next t : ℕ) (w : Writing f old out next t) where
  pub writing_long : length out ≡ length old
  writing_long = put_length w.put

  pub writing_end : length f ≤ t → Put old 0 (trace_of f) out next
  writing_end h =
      let e : trace_of f ≡ w.made = w.whole ∙ ap (λ (l : List ℕ). w.made ++ lines_bytes (lines_from t l)) (drop_of_length-le f {i = t} h) ∙ append-nil w.made in
      rw e w.put

  module _ (here : t < length f) where
    abbrev slot : List ℕ
    slot = lines_bytes (replicate (get_or f t 0 / 1500) (digits (t * 1000)))

    rest : lines_bytes (lines_from t (drop t f)) ≡ slot ++ lines_bytes (lines_from (t + 1) (drop (t + 1) f))
    rest =
        ap (λ (l : List ℕ). lines_bytes (lines_from t l)) (drop-cons f t 0 here)
        ∙ bytes_append (replicate (get_or f t 0 / 1500) (digits (t * 1000))) (lines_from (suc t) (drop (suc t) f))
        ∙ ap (λ (n : ℕ). slot ++ lines_bytes (lines_from n (drop n f))) (sym (add-one t))

    onward : trace_of f ≡ (w.made ++ slot) ++ lines_bytes (lines_from (t + 1) (drop (t + 1) f))
    onward = w.whole ∙ ap (λ (l : List ℕ). w.made ++ l) rest ∙ sym (append_assoc w.made slot (lines_bytes (lines_from (t + 1) (drop (t + 1) f))))

    more_fits : 0 + length (w.made ++ slot) ≤ length old
    more_fits = omega (arith, ap length onward, length-append (w.made ++ slot) (lines_bytes (lines_from (t + 1) (drop (t + 1) f))))

    pub writing_room : next + length slot ≤ length out
    writing_room = put_room w.made slot more_fits w.put

    pub writing_more : (out' : List ℕ) (next' : ℕ) → Put out next slot out' next' → Writing f old out' next' (t + 1)
    writing_more out' next' q = record { inside = omega arith; made = w.made ++ slot; put = put_then w.made slot more_fits w.put q; whole = onward }

-- ---- what is handed

module _ (f old : List ℕ) where
  refused : (e : Refusal) → write_refusal f (length old) ≡ number_of e → TraceWritePromise f old (Err e) old
  refused e h = let o : number_of e ≡ 0 → ⊥ = λ z. omega (arith, number_above_0 e) in record { answer = rw (h, ne_eqb (number_of e) 0 o); buffer = rw (h, ne_eqb (number_of e) 0 o) }

  by_forecast : (e : Refusal) → unwritable_refusal f ≡ number_of e → TraceWritePromise f old (Err e) old
  by_forecast e h = refused e (or_else_some (unwritable_refusal f) (unless 11 (leb (length (trace_of f)) (length old))) (λ z. omega (arith, number_above_0 e, h, z)) ∙ h)

  by_seven : within 1 3600 (length f) ≡ false → unwritable_refusal f ≡ 7
  unfolding unwritable_refusal
  by_seven e = rw e

  pub wrote_none : length f < 1 → TraceWritePromise f old (Err Forecast) old
  wrote_none h = by_forecast Forecast (by_seven (rw (lt-leb 1 (length f) h)))

  pub wrote_many : 3600 < length f → TraceWritePromise f old (Err Forecast) old
  wrote_many h = by_forecast Forecast (by_seven (rw (lt-leb (length f) 3600 h) (and-false (leb 1 (length f)))))

  module _ (low : 1 ≤ length f) (high : length f ≤ 3600) (r : Bool) (is : r ≡ all writable f) where
    past_seven : unwritable_refusal f ≡ unless 15 r
    unfolding unwritable_refusal
    past_seven = rw (le-leb 1 (length f) low, le-leb (length f) 3600 high, is)

    pub wrote_odd : r ≡ false → TraceWritePromise f old (Err TraceSlot) old
    wrote_odd e = by_forecast TraceSlot (past_seven ∙ rw e)

    module _ (fine : r ≡ true) (n : ℕ) (wide : n ≡ width_from 0 f) where
      pub width_all : n ≡ length (trace_of f)
      width_all = wide ∙ sym (written_length f)

      no : write_refusal f (length old) ≡ unless 11 (leb (length (trace_of f)) (length old))
      no = or_else_none (unwritable_refusal f) (unless 11 (leb (length (trace_of f)) (length old))) (past_seven ∙ rw fine)

      pub wrote_short : length old < n → TraceWritePromise f old (Err ShortBuffer) old
      wrote_short h = refused ShortBuffer (no ∙ rw (lt-leb (length (trace_of f)) (length old) (omega (arith, width_all))))

      pub wrote_done : n ≤ length old → (new : List ℕ) (end : ℕ) → Put old 0 (trace_of f) new end → TraceWritePromise f old (Ok end) new
      wrote_done h new end p =
          let z : write_refusal f (length old) ≡ 0 = no ∙ rw (le-leb (length (trace_of f)) (length old) (omega (arith, width_all))) in
          let e : 0 + length (trace_of f) ≡ length (trace_of f) = omega arith in
          record { answer = rw (z, p.place, e); buffer = rw z (put_whole (omega (arith, width_all)) p) }
