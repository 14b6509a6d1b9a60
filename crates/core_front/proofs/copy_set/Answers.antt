-- `copy_set` meets its contract.
use Prim.Native.Nat.{◌+◌, ◌*◌, ◌-◌}
use mathlib.Core.Path.{◌≡◌, refl, sym}
use native.Mathlib.Omega.{arith}
use lib.ListN.{get_or, take, drop, length-drop, length-take}
use Rattle.std.proofs.lemmas.Slice.{put_mid-paste}
use Rattle.core_front.specs.lemmas.Sets.{copy_end, copying_part}
use Rattle.core_front.proofs.copy_set.Goals as goal

pub returns : goal.returns
returns c =
    let g = c.requires in
    let a = c.args in
    let n = get_or a.sets.now.counts a.a 0 in
    let k : a.b * 500 + c.from-n.result - a.b * 500 ≡ n = omega arith in
    let m : a.a * 500 + c.from-n.result - a.a * 500 ≡ n = omega arith in
    let part : c.copy_from_slice.new.self ≡ take n (drop (a.a * 500) a.sets.now.chunks) = rw m at c.copy_from_slice.ensures.after in
    copy_end g _
    (copying_part a.sets.now.chunks a.to.now.chunks c.copy_from_slice.new.self _ (a.a * 500) (a.b * 500) n (omega (arith, g.from_long.sets_long)) (omega (arith, g.to_long.sets_long)) part
    (put_mid-paste (a.b * 500) _ _ _ c.copy_from_slice.new.self n refl (sym k) (rw part (omega (arith, length-take n (drop (a.a * 500) a.sets.now.chunks), length-drop (a.a * 500) a.sets.now.chunks, g.from_long.sets_long)))))
