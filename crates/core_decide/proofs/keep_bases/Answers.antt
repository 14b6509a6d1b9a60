use Rattle.std.proofs.Common.{◌≡◌, ◌∙◌, ◌+◌, ◌/◌, ◌≤◌, ◌<◌, max, arith}
use Rattle.job.specs.Job.{due_slot}
use Rattle.core_sizes.specs.Table.{table_at}
use Rattle.theory_plan.specs.lemmas.Parts.{at}
use Rattle.theory_plan.specs.lemmas.Words.{due_by}
use Rattle.core_decide.proofs.Bases.{basing_start, basing_pass, basing_keep, held_is, keep_not_all, keep_not_held, keep_both}
use Rattle.core_decide.proofs.keep_bases.Goals as goal
use Rattle.core_decide.proofs.keep_bases.Goals.{then-cand-all+then-need_at-after, else-cand-all, else-cand-all-via-then-cand-all+else-need_at-after, else-cand-all-via-else-cand-all}

pub loop-i-init : goal.loop-i-init
loop-i-init c = let a = c.args in basing_start a.p (table_at a.table.now) a.after.now a.ids.now a.dues.now a.bytes.now a.needs.now c.requires

pub bounds-after-d-then-cand-all : goal.bounds-after-d-then-cand-all
bounds-after-d-then-cand-all c = omega (arith, due_by c.args.p c.loop-i.i c.loop-i.invariant.left)

pub overflow_cast-dues : goal.overflow_cast-dues
overflow_cast-dues c = omega (arith, due_by c.args.p c.loop-i.i c.loop-i.invariant.left)

pub loop-i-preserved : goal.loop-i-preserved
loop-i-preserved c =
    let l = c.loop-i in
    let a = c.args in
    let t : 0 < l.i = omega arith in
    let few = c.requires.few in
    let d = c.due_slot-d.ensures in
    let z = c.size_in-z.ensures in
    let v : c.size_in-z.result + c.max.result ≡ table_at a.table.now l.i 0 + max (at a.after.now (due_slot a.p l.i)) l.last = rw (z, c.max.ensures, d) in
    let h : c.held_most-held.result ≡ a.p.limit / a.p.span = c.held_most-held.ensures in
    elim c.if-cand-all.branch [
      | then-cand-all+then-need_at-after w ↦
          let g : table_at a.table.now l.i 0 + max (at a.after.now (due_slot a.p l.i)) l.last ≤ at a.after.now 0 = rw v at w.if-cand-all.true in
          let n = rw (v, h) at w.need_at.ensures ∙ held_is a.p (table_at a.table.now) a.after.now l.ids l.dues l.bytes l.needs l.last l.first l.i l.invariant t few in
          rw (w.ids-is, w.dues-is, w.bytes-is, w.last-is, w.first-is, v, d, z) (basing_keep a.p (table_at a.table.now) a.after.now l.ids l.dues l.bytes l.needs l.last l.first l.i l.invariant t few (keep_both a.p (table_at a.table.now) a.after.now l.ids l.dues l.bytes l.needs l.last l.first l.i l.invariant t few g (rw (n, d) at w.if-need_at-after.true)) g)
      | else-cand-all w ↦
          rw (w.ids-is, w.dues-is, w.bytes-is, w.last-is, w.first-is, v) (basing_pass a.p (table_at a.table.now) a.after.now l.ids l.dues l.bytes l.needs l.last l.first l.i l.invariant t few
          (elim w.else-cand-all.branch [
            | else-cand-all-via-then-cand-all+else-need_at-after u ↦
                let n = rw (v, h) at u.need_at.ensures ∙ held_is a.p (table_at a.table.now) a.after.now l.ids l.dues l.bytes l.needs l.last l.first l.i l.invariant t few in
                keep_not_held a.p (table_at a.table.now) a.after.now l.ids l.dues l.bytes l.needs l.last l.first l.i l.invariant t few (rw v at u.if-cand-all.true) (rw (n, d) at u.if-need_at-after.false)
            | else-cand-all-via-else-cand-all u ↦ keep_not_all a.p (table_at a.table.now) a.after.now l.ids l.dues l.bytes l.needs l.last l.first l.i l.invariant t few (rw v at u.if-cand-all.false)
          ]))
    ]
