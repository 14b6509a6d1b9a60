-- `best_within` meets its contract: the search from the empty set, over all chunks.
use Prim.Native.Nat.{ℕ}
use mathlib.Core.Path.{refl, sym}
use native.Mathlib.Nat.{pos_of_ne-zero}
use native.Mathlib.Omega.{arith}
use borrow.Author.Tests.{le-ltb, lt-ltb}
use lib.ListN.{length-replicate}
use Rattle.core_sizes.specs.Table.{table_at}
use Rattle.core_search.proofs.Found.{best_asc, found_by_lem}
use Rattle.core_search.proofs.best_within.Goals as goal

pub set_bases-requires : goal.set_bases-requires
set_bases-requires c =
    let a = c.args in
    let o = c.requires in
    let s = c.search-left.ensures in
    record {
      few = o.few;
      ends = o.ends;
      within = omega arith;
      ascending = best_asc a.p (table_at a.table.now) a.after.now a.ids.now a.dues.now a.bytes.now o _ c.set_dues.ensures a.budget c.held_most-held.ensures (length-replicate {A = ℕ} 500 0) (length-replicate {A = ℕ} 500 0) o.long.0 s;
      long = (s.long.2, c.set_dues.ensures.long, o.long.2);
    }

pub returns-then-left-eq0 : goal.returns-then-left-eq0
returns-then-left-eq0 c =
    let a = c.args in
    let o = c.requires in
    let left = c.search-left.result in
    found_by_lem a.p (table_at a.table.now) a.after.now a.ids.now a.dues.now a.bytes.now o _ c.set_dues.ensures a.budget c.held_most-held.ensures (length-replicate {A = ℕ} 500 0) (length-replicate {A = ℕ} 500 0) o.long.0 c.search-left.ensures c.set_bases.ensures refl (omega (arith, c.if-left-eq0.true)) (sym (le-ltb 0 left (omega (arith, c.if-left-eq0.true))))

pub returns-else-left-eq0 : goal.returns-else-left-eq0
returns-else-left-eq0 c =
    let a = c.args in
    let o = c.requires in
    let left = c.search-left.result in
    let some = pos_of_ne-zero c.if-left-eq0.false in
    found_by_lem a.p (table_at a.table.now) a.after.now a.ids.now a.dues.now a.bytes.now o _ c.set_dues.ensures a.budget c.held_most-held.ensures (length-replicate {A = ℕ} 500 0) (length-replicate {A = ℕ} 500 0) o.long.0 c.search-left.ensures c.set_bases.ensures refl (omega (arith, c.search-left.ensures.less)) (sym (lt-ltb 0 left some))
