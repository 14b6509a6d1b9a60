-- The verdict by the tables is the verdict by the rules.
use Rattle.std.proofs.Common.{ℕ, ◌≡◌, refl, sym, ◌∙◌, arith}
use Rattle.job.specs.Theorems.{input_accepted}
use Rattle.job.specs.Input.{job_in}
use Rattle.job.specs.Handed.{handed}
use Rattle.fetch.specs.Slices.{ListSlices, list_rows, slices_refusal}
use Rattle.fetch.specs.Handed.{handed_list, handed_rows}
use Rattle.fetch.specs.Input.{whole_iff, Whole}
use Rattle.core_rules.proofs.Exact.{due_most, shown}
use Rattle.checker.proofs.Late.{in_tables}
use Rattle.checker.proofs.Judged.{judged, judged_one}
use Rattle.checker.proofs.verdict_of.Goals.{then-seen, else-seen}
use Rattle.checker.proofs.verdict_of.Goals as goal

whole_list : (count : ℕ) (l : ListSlices) → slices_refusal count l ≡ 0 → Whole count l.marks l.slots l.chunks l.layers l.bytes
whole_list count l e = (whole_iff count l.marks l.slots l.chunks l.layers l.bytes).0 e

pub tally-pass-requires : goal.tally-pass-requires
tally-pass-requires c =
    let ok = input_accepted (handed c.args.job.now) c.requires.0 in
    let l = handed_list c.args.list.now in
    let w = whole_list c.args.job.now.programme.chunks l c.requires.1 in
    (omega (arith, c.last_due-last.ensures, ok.last_in), ok.chunks_in.high, ok.layers_in.high, w.chunk_each, w.layer_each, w.bytes_each, refl, refl, refl)

pub see_all-seen-requires : goal.see_all-seen-requires
see_all-seen-requires c =
    let ok = input_accepted (handed c.args.job.now) c.requires.0 in
    let l = handed_list c.args.list.now in
    let w = whole_list c.args.job.now.programme.chunks l c.requires.1 in
    (ok.layers_in.high, ok.chunks_in.high, w.byte_each)

pub within-room-requires : goal.within-room-requires
within-room-requires c = let ok = input_accepted (handed c.args.job.now) c.requires.0 in omega (arith, ok.slots_in, ok.last_in)

pub sweep-few-requires : goal.sweep-few-requires
sweep-few-requires c =
    let ok = input_accepted (handed c.args.job.now) c.requires.0 in
    (ok.chunks_in.high, omega (arith, c.last_due-last.ensures, ok.last_in), λ i h. due_most c.args.job.now.programme i 3600 ok.last_in h, (c.tally-pass.ensures.tables c.if-pass.true).some_slot)

pub invariant_of-sums : goal.invariant_of-sums
invariant_of-sums c = record { few_layers = (input_accepted (handed c.args.job.now) c.requires.0).layers_in.high }

pub allowed_from-whole-requires : goal.allowed_from-whole-requires
allowed_from-whole-requires c =
    let ok = input_accepted (handed c.args.job.now) c.requires.0 in
    let l = handed_list c.args.list.now in
    let w = whole_list c.args.job.now.programme.chunks l c.requires.1 in
    (ok.chunks_in.high, in_tables c.last_due-last.result c.args.job.now.programme.chunks _ (handed_rows c.args.list.now.rows) (sym c.tally-pass.ensures.ranged ∙ c.if-pass.true) (omega (arith, c.last_due-last.ensures, ok.last_in)) ok.chunks_in.high ok.layers_in.high w.chunk_each w.layer_each)

pub returns-after-seen : goal.returns-after-seen
returns-after-seen c =
    let h = handed c.args.job.now in
    let ok = input_accepted h c.requires.0 in
    let l = handed_list c.args.list.now in
    let w = whole_list c.args.job.now.programme.chunks l c.requires.1 in
    c.lowest_broken.ensures
    ∙ judged (job_in h) c.args.from l.marks (list_rows l) ok _ (shown h _ ok c.fill_sizes.ensures) _ c.last_due-last.ensures c.tally-pass.result _ _ _ c.tally-pass.ensures
    c.if-pass.true w.byte_each c.see_all-seen.result c.if-seen.whole c.within-room.result c.sweep-few.result
    c.see_all-seen.ensures (elim c.if-seen.branch [ then-seen w ↦ rw (w.whole-is, w.if-seen.true) | else-seen w ↦ rw (w.whole-is, w.if-seen.false) w.allowed_from-whole.ensures ]) c.within-room.ensures c.sweep-few.ensures

pub returns-else-pass : goal.returns-else-pass
returns-else-pass c =
    let h = handed c.args.job.now in
    let ok = input_accepted h c.requires.0 in
    let l = handed_list c.args.list.now in
    judged_one (job_in h) c.args.from l.marks (list_rows l) ok _ (shown h _ ok c.fill_sizes.ensures) _ c.last_due-last.ensures c.tally-pass.result _ _ _ c.tally-pass.ensures c.if-pass.false
