use Prim.Native.Nat.{ℕ}
use mathlib.Core.Path.{◌≡◌, refl, sym, ◌∙◌}
use mathlib.Core.Bool.{Bool, cond}
use native.Mathlib.Omega.{arith}
use Rattle.report.specs.lemmas.Tables.{carried_by}
use Rattle.theory_basics.specs.lemmas.Ranges.{sum_most, cond_most}
use Rattle.report.proofs.Laws.{bytes_more, bytes_most, carried_most, layers_more}
use Rattle.report.proofs.table.chunk_of.Goals as goal
use Rattle.report.proofs.table.chunk_of.Goals.{then-is_carried, else-is_carried}

pub loop-n-init : goal.loop-n-init
loop-n-init c = (omega arith, refl, refl)

pub overflow_add-layers : goal.overflow_add-layers
overflow_add-layers c =
    let a = c.args in
    let l = c.loop-n in
    let b : ℕ → Bool = λ n. carried_by a.sizes.now a.table.now a.i n in
    omega (arith, l.invariant.1, sum_most (λ n. cond (b n) 1 0) 1 l.n (λ n. cond_most (b n) 1 1 (omega arith)))

pub overflow_add-bytes : goal.overflow_add-bytes
overflow_add-bytes c =
    let a = c.args in
    let l = c.loop-n in
    let h = c.requires.3 in
    let e = sym c.is_carried.ensures ∙ c.if-is_carried.true in
    let m = rw e at (carried_most a.sizes.now a.table.now h a.i l.n) in
    omega (arith, c.bytes_at-bytes.ensures, m, l.invariant.2, bytes_most a.sizes.now a.table.now h l.n a.i)

pub loop-n-preserved : goal.loop-n-preserved
loop-n-preserved c =
    let s = c.args.sizes.now in
    let t = c.args.table.now in
    let i = c.args.i in
    let l = c.loop-n in
    let layers = layers_more s t l.n i in
    let bytes = bytes_more s t l.n i in
    elim c.if-is_carried.branch [
      | then-is_carried w ↦
          let e = sym c.is_carried.ensures ∙ w.if-is_carried.true in (
            omega arith,
            omega (arith, w.layers-is, l.invariant.1, rw e at layers),
            omega (arith, w.bytes-is, w.bytes_at-bytes.ensures, l.invariant.2, rw e at bytes),
          )
      | else-is_carried w ↦
          let e = sym c.is_carried.ensures ∙ w.if-is_carried.false in (
            omega arith,
            omega (arith, w.layers-is, l.invariant.1, rw e at layers),
            omega (arith, w.bytes-is, l.invariant.2, rw e at bytes),
          )
    ]

pub returns : goal.returns
returns c =
    let l = c.loop-n in
    let e : l.n ≡ c.args.depth = omega arith in
    record { layers = rw e at l.invariant.1; bytes = rw e at l.invariant.2 }
