use Rattle.fetch.specs.Handed.{handed_rows}
use Rattle.booking.specs.Answer.{lent_job}
use Rattle.booking.proofs.Answers.{release_asks, release_undo, release_twenty, release_done}
use Rattle.booking.proofs.release.Goals as goal

pub add_back-added-requires : goal.add_back-added-requires
add_back-added-requires c =
    let a = c.args in
    let h = lent_job a.p a.sizes.now a.overrides.now a.forecast.now in
    release_asks h (handed_rows a.rows.now) c.in_ok-accept.ensures c.in_ok-accept_list.ensures

pub take_off-requires : goal.take_off-requires
take_off-requires c =
    let a = c.args in
    let h = lent_job a.p a.sizes.now a.overrides.now a.forecast.now in
    release_undo h (handed_rows a.rows.now) c.in_ok-accept.ensures c.in_ok-accept_list.ensures c.add_back-added.result c.add_back-added.new.forecast c.add_back-added.ensures

pub returns-then-added-rows : goal.returns-then-added-rows
returns-then-added-rows c =
    let a = c.args in
    let h = lent_job a.p a.sizes.now a.overrides.now a.forecast.now in
    release_twenty h (handed_rows a.rows.now) c.in_ok-accept.ensures c.in_ok-accept_list.ensures c.add_back-added.result c.add_back-added.new.forecast c.add_back-added.ensures c.if-added-rows.true c.take_off.new.forecast c.take_off.ensures

pub returns-else-added-rows : goal.returns-else-added-rows
returns-else-added-rows c =
    let a = c.args in
    let h = lent_job a.p a.sizes.now a.overrides.now a.forecast.now in
    release_done h (handed_rows a.rows.now) c.in_ok-accept.ensures c.in_ok-accept_list.ensures c.add_back-added.result c.add_back-added.new.forecast c.add_back-added.ensures c.if-added-rows.false
