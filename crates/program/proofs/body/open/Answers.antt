-- What opening leaves in a book of zeros, and the reading that it gives.
use Rattle.std.proofs.Common.{◌∙◌, ap}
use Rattle.meaning.specs.Calls.{open_call, opened_book}
use Rattle.reading.proofs.Starts.{first-is}
use Rattle.program.specs.Bodies.{program_book}
use Rattle.program.proofs.OwnBooks.{opens}
use Rattle.program.proofs.body.open.Goals as goal

pub returns-clause-first_reading : goal.returns-clause-first_reading
returns-clause-first_reading c =
    let file = c.args.file.now in
    let opened = c.open-opened in
    λ accepted.
    c.first_of-first.ensures
    ∙ first-is opened.result (opened.ensures.answer ∙ (ap (open_call file) c.zeros-book.ensures.zeros ∙ opens file accepted))

pub returns-clause-own_book : goal.returns-clause-own_book
unfolding program_book
returns-clause-own_book c = c.open-opened.ensures.book_after ∙ ap (opened_book c.args.file.now) c.zeros-book.ensures.zeros
