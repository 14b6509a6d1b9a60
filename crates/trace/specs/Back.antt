-- Theorems. The two calls one after the other: what write_trace wrote, read_trace reads back,
-- whatever buffers are lent.
use Rattle.std.specs.Prelude.{ℕ, ◌≤◌, ◌≡◌, Bool, true, false, cond, List, ◌++◌, length, drop, take, T, eqb, leb, Result, Ok, Err}
use Rattle.std.proofs.Common.{sym, ap, ◌∙◌, subst, arith, take_at, eqb→eq, le-leb}
use Rattle.theory_basics.specs.Lent.{over}
use Rattle.theory_basics.specs.Refusals.{unless}
use Rattle.theory_basics.specs.lemmas.Refusals.{or_else_iff, or_else_none}
use Rattle.refusals.specs.declared.Refusal.{Refusal}
use Rattle.refusals.specs.Numbers.{by_number}
use Rattle.trace.specs.Answer.{TraceReadPromise, TraceWritePromise, trace_read_refusal, write_refusal}
use Rattle.trace.specs.Theorems.{reads_back, never_refused}
use Rattle.trace.specs.Trace.{unwritable_refusal, trace_of, trace_refusal}

told : (r : Result ℕ Refusal) (k : ℕ) → by_number r ≡ Ok k → r ≡ Ok k
told (Ok m) k h = let z : m ≡ k = cc in ap Ok z
told (Err e) k h = let z : ◌≡◌ {A = ℕ} 0 1 = cc in absurd (omega arith)

module _ (f old new : List ℕ) (n : ℕ) (w : TraceWritePromise f old (Ok n) new) where
  by_test :
      (b : Bool) → Ok n ≡ cond b (Ok (length (trace_of f))) (Err (write_refusal f (length old))) →
      (b ≡ true) × (n ≡ length (trace_of f))
  by_test true e = (cc, cc)
  by_test false e = let z : ◌≡◌ {A = ℕ} 0 1 = cc in absurd (omega arith)

  -- A number of bytes is answered only where nothing is refused, and is the trace's.
  none : write_refusal f (length old) ≡ 0
  none = eqb→eq (write_refusal f (length old)) 0 (subst T (sym (by_test (eqb (write_refusal f (length old)) 0) w.answer).0) tt)

  pub written_bytes : n ≡ length (trace_of f)
  written_bytes = (by_test (eqb (write_refusal f (length old)) 0) w.answer).1

  pub written_front : take n new ≡ trace_of f
  written_front =
      let e : new ≡ trace_of f ++ drop (length (trace_of f)) old = w.buffer ∙ rw none in
      rw e (take_at (trace_of f) (drop (length (trace_of f)) old) n (sym written_bytes))

  -- "reading it restores the forecast": read for its number of slots, with room for it.
  pub round_trip :
      (lent after : List ℕ) (r : Result ℕ Refusal) → length f ≤ length lent → TraceReadPromise (take n new) (length f) lent r after →
      (r ≡ Ok (length f)) × (after ≡ over f lent)
  round_trip lent after r room q =
      let a : unwritable_refusal f ≡ 0 = ((or_else_iff (unwritable_refusal f) (unless 11 (leb (length (trace_of f)) (length old)))).0 none).0 in
      let z : trace_read_refusal (trace_of f) (length f) (length lent) ≡ 0 =
      or_else_none (trace_refusal (length f) (trace_of f)) (unless 11 (leb (length f) (length lent))) (never_refused f a) ∙ rw (le-leb (length f) (length lent) room) in
      let p : TraceReadPromise (trace_of f) (length f) lent r after = rw written_front at q in
      (told r (length f) (p.answer ∙ rw z), p.buffer ∙ rw z (ap (λ (l : List ℕ). over l lent) (reads_back f a)))
