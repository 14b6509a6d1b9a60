use Rattle.fetch.specs.Handed.{handed_list}
use Rattle.booking.specs.Answer.{lent_job}
use Rattle.booking.proofs.Answers.{book_none, book_asks, book_done}
use Rattle.booking.proofs.book.Goals as goal

pub take_off-requires : goal.take_off-requires
take_off-requires c =
    let a = c.args in
    let h = lent_job a.p a.sizes.now a.overrides.now a.forecast.now in
    let s = handed_list a.list.now in
    book_asks h s (book_none h s c.in_ok-verdict.verdict c.in_ok-verdict.ensures c.in_ok-refuse_unless.ensures)

pub returns : goal.returns
returns c =
    let a = c.args in
    let h = lent_job a.p a.sizes.now a.overrides.now a.forecast.now in
    let s = handed_list a.list.now in
    book_done h s (book_none h s c.in_ok-verdict.verdict c.in_ok-verdict.ensures c.in_ok-refuse_unless.ensures) c.take_off.new.forecast c.take_off.ensures
