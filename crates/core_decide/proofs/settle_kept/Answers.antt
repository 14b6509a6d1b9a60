-- `settle_kept` meets its contract: the passes over the kept chunks decide their layers.
use Rattle.core_sizes.specs.Table.{table_at}
use mathlib.Core.Path.{refl}
use Rattle.core_decide.proofs.Decided.{decides_kept, layers_from_lem}
use Rattle.core_decide.proofs.settle_kept.Goals as goal

pub settle_layers-requires : goal.settle_layers-requires
settle_layers-requires c =
    let a = c.args in
    let r = c.set_releases.ensures in
    layers_from_lem a.p a.layers (table_at a.table.now) _ _ _ _ _ _ _ _ c.requires _ r.0 (rw c.held_most-held.ensures at r.1)

pub returns : goal.returns
returns c =
    let a = c.args in
    let r = c.set_releases.ensures in
    decides_kept a.p a.layers (table_at a.table.now) _ _ _ _ _ _ _ _ c.requires _ r.0 (rw c.held_most-held.ensures at r.1) _ refl _ _ c.settle_layers.ensures
