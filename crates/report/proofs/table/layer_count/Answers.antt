use Prim.Native.Nat.{ℕ}
use mathlib.Core.Path.{◌≡◌, refl, sym, ◌∙◌}
use mathlib.Core.Bool.{Bool, cond}
use native.Mathlib.Omega.{arith}
use Rattle.report.specs.lemmas.Tables.{carried_by}
use Rattle.report.proofs.Laws.{count_more}
use Rattle.theory_basics.specs.lemmas.Ranges.{pre_most, cond_most}
use Rattle.report.proofs.table.layer_count.Goals as goal
use Rattle.report.proofs.table.layer_count.Goals.{then-is_carried, else-is_carried}

pub loop-i-init : goal.loop-i-init
loop-i-init c = (omega arith, refl)

pub overflow_add-carry : goal.overflow_add-carry
overflow_add-carry c =
    let a = c.args in
    let l = c.loop-i in
    let b : ℕ → Bool = λ i. carried_by a.sizes.now a.table.now i a.n in
    omega (arith, l.invariant.1, pre_most (λ i. cond (b i) 1 0) 1 l.i (λ i. cond_most (b i) 1 1 (omega arith)))

pub loop-i-preserved : goal.loop-i-preserved
loop-i-preserved c =
    let l = c.loop-i in
    let more = count_more c.args.sizes.now c.args.table.now l.i c.args.n in
    elim c.if-is_carried.branch [
      | then-is_carried w ↦
          let e = sym c.is_carried.ensures ∙ w.if-is_carried.true in
          (omega arith, omega (arith, w.carry-is, l.invariant.1, rw e at more))
      | else-is_carried w ↦
          let e = sym c.is_carried.ensures ∙ w.if-is_carried.false in
          (omega arith, omega (arith, w.carry-is, l.invariant.1, rw e at more))
    ]

pub returns : goal.returns
returns c =
    let l = c.loop-i in
    let e : l.i ≡ c.args.count = omega arith in
    rw e at l.invariant.1
