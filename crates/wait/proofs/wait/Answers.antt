-- What the call answers once its input is judged, and that this means what its contract says.
use Rattle.std.proofs.Common.{ℕ, ◌<◌, ◌≡◌, refl, sym, ap, ◌∙◌, subst, Ok, Err, Result, arith, rules}
use borrow.Author.Tests.{le-ltb, lt-ltb}
use Rattle.theory_basics.specs.lemmas.Refusals.{or_else_none}
use Rattle.refusals.specs.declared.Refusal.{Refusal}
use Rattle.refusals.specs.Numbers.{by_number, number_of}
use Rattle.refusals.specs.Laws.{number_above_0}
use Rattle.wait.specs.Answer.{DelayMeans, WaitInput, WaitPromise, SixteenMeans, answer_of, film_in, input_refusal, shortest, sixteen_refusal, wait_refusal}
use Rattle.wait.specs.Handed.{handed_film}
use Rattle.wait.specs.Theorems.{answered_iff, input_first, input_iff, sixteen_iff}
use Rattle.wait.proofs.wait.Goals as goal

module _ (h : WaitInput) where
  means : (r : Result ℕ ℕ) → r ≡ answer_of h → WaitPromise h r
  means r is =
      record { answer = is; delay = subst (DelayMeans h) (sym is) (answered_iff h); sixteen = subst (SixteenMeans h) (sym is) (sixteen_iff h) }

  refused_input : (r : Result ℕ Refusal) (e : Refusal) → r ≡ Err e → number_of e ≡ input_refusal h → WaitPromise h (by_number r)
  refused_input r e is n =
      rw is (means (Err (number_of e)) (ap Err n ∙ sym (input_first h (omega (arith, number_above_0 e)))))

  module _ (none : 0 ≡ input_refusal h) (s : ℕ) (found : s ≡ shortest (film_in h)) where
    past : wait_refusal h ≡ sixteen_refusal (film_in h)
    unfolding wait_refusal
    past = or_else_none (input_refusal h) (sixteen_refusal (film_in h)) (sym none)

    refused_sixteen : s ≡ 0 → WaitPromise h (Err 16)
    refused_sixteen low =
        let r : wait_refusal h ≡ 16 = past ∙ rw (le-ltb 0 (shortest (film_in h)) (omega (arith, found))) in
        means (Err 16) (sym (rw r))

    delayed : 0 < s → WaitPromise h (Ok s)
    delayed some =
        let r : wait_refusal h ≡ 0 = past ∙ rw (lt-ltb 0 (shortest (film_in h)) (omega (arith, found))) in
        means (Ok s) (sym (rw (r, found)))

pub returns-in_err-accept_input : goal.returns-in_err-accept_input
returns-in_err-accept_input c =
    let is : c.from_residual.result ≡ Err c.in_err-accept_input.field-0.0 = search rules in
    refused_input (handed_film c.args.film.now) c.from_residual.result c.in_err-accept_input.field-0.0 is c.in_err-accept_input.ensures

pub shortest_delay-s-requires : goal.shortest_delay-s-requires
shortest_delay-s-requires c = (refl, ((input_iff (handed_film c.args.film.now)).0 (sym c.in_ok-accept_input.ensures)).1)

pub returns-then-s-eq0 : goal.returns-then-s-eq0
returns-then-s-eq0 c = refused_sixteen (handed_film c.args.film.now) c.in_ok-accept_input.ensures c.shortest_delay-s.result c.shortest_delay-s.ensures.0 c.if-s-eq0.true

pub returns-else-s-eq0 : goal.returns-else-s-eq0
returns-else-s-eq0 c = delayed (handed_film c.args.film.now) c.in_ok-accept_input.ensures c.shortest_delay-s.result c.shortest_delay-s.ensures.0 (omega arith)
