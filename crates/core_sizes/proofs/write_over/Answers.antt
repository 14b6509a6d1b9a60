use Rattle.std.proofs.Common.{ℕ, ◌+◌, ◌-◌, ◌≤◌, ◌<◌, min, ◌≡◌, sym, ap, List, length, get_or, arith}
use lib.Seq.{set_out}
use Rattle.job.specs.lemmas.Run.{from, from_end, from_more}
use Rattle.core_sizes.specs.Table.{spot, overridden_by}
use Rattle.core_sizes.specs.lemmas.Table.{length_overridden}
use Rattle.core_sizes.proofs.write_over.Goals as goal

-- An SZ that has no place changes nothing.
no_place :
    (cs ls bs t₀ t : List ℕ) (n at : ℕ) → 0 < n → n ≤ min (length cs) (min (length ls) (length bs)) → t ≡ overridden_by (from n cs ls bs) t₀ →
    at ≡ spot (get_or cs (n - 1) 0) (get_or ls (n - 1) 0) → length t₀ ≤ at → t ≡ overridden_by (from (n - 1) cs ls bs) t₀
no_place cs ls bs t₀ t n at some h e s out =
    let next : (n - 1) + 1 ≡ n = omega arith in
    let more = from_more (n - 1) cs ls bs (omega arith) in
    rw (more, next, ← e, ← s) (sym (set_out t at (get_or bs (n - 1) 0) (omega (arith, ap length e, length_overridden (from n cs ls bs) t₀))))

pub loop-i-init : goal.loop-i-init
loop-i-init c = let a = c.args.overrides.now in rw (from_end c.whole-i.result a.chunks.now a.layers.now a.bytes.now (omega arith))

pub loop-i-preserved : goal.loop-i-preserved
loop-i-preserved c =
    let a = c.args.overrides.now in
    no_place a.chunks.now a.layers.now a.bytes.now c.args.table.now c.loop-i.table c.loop-i.i c.spot_of-at.result (omega arith) (omega arith) c.loop-i.invariant c.spot_of-at.ensures (omega arith)
