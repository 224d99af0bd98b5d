-- What the maker answered is what opening answers, and the book holds what either leaves in it.
use Rattle.std.proofs.Common.{sym, ◌∙◌}
use Rattle.meaning.specs.Calls.{refusal_says, says}
use Rattle.meaning.proofs.laws.Handed.{handed_on, was-given, was-refused}
use Rattle.meaning.proofs.skipbook.BookMade.{after-refused, after-given}
use Rattle.meaning.proofs.stores.Opens.{open-unmade, open_made}
use Rattle.reading.proofs.opening.open_rule.Goals as goal

pub returns-in_err-still-clause-answer : goal.returns-in_err-still-clause-answer
unfolding refusal_says
returns-in_err-still-clause-answer c =
    let accepted = c.args.rule.accepted.accepted in
    handed_on _ _ c.from_residual.ensures.1
    ∙ sym (open-unmade c.args.rule.file.now c.args.book.now accepted (was-refused _ c.in_err-still.ensures.answer))

pub returns-in_err-still-clause-book_after : goal.returns-in_err-still-clause-book_after
unfolding refusal_says
returns-in_err-still-clause-book_after c =
    let file = c.args.rule.file.now in
    let book = c.args.book.now in
    let made = was-refused _ c.in_err-still.ensures.answer in
    c.make_book.ensures.book_after
    ∙ after-refused _ _ book made
    ∙ sym (after-refused _ _ book (open-unmade file book c.args.rule.accepted.accepted made))

pub returns-clause-answer : goal.returns-clause-answer
unfolding says
returns-clause-answer c =
    let file = c.args.rule.file.now in
    let made = was-given c.in_ok-still.ensures.answer in
    rw (c.fresh_reading.ensures file c.args.rule.accepted) (sym (open_made file c.args.book.now c.args.rule.accepted.accepted made))

pub returns-clause-book_after : goal.returns-clause-book_after
returns-clause-book_after c =
    let file = c.args.rule.file.now in
    let book = c.args.book.now in
    let made = was-given c.in_ok-still.ensures.answer in
    c.make_book.ensures.book_after
    ∙ after-given _ _ book made
    ∙ sym (after-given _ _ book (open_made file book c.args.rule.accepted.accepted made))
