-- Each step that refuses ends the call with its refusal, and where none does, the end is the definition's.
use Rattle.std.proofs.Common.{sym, ◌∙◌}
use Rattle.std.proofs.lemmas.Result.{err_from_is_err_and}
use Rattle.reading.proofs.WholeRead.{document-refused, opened-feeds, document-stops, document-state, document-ends}
use Rattle.reading.proofs.read_document.Goals as goal

pub returns-in_err-opened : goal.returns-in_err-opened
returns-in_err-opened c =
    let p = err_from_is_err_and c.from_residual.result c.from_residual.ensures.1 in
    rw (p.1, p.2, c.in_err-opened.ensures.book_after)
    (document-refused c.args.file.now c.args.book.now c.args.levels.now c.args.events.now _ c.in_err-opened.ensures.refuses)

pub feed_loop-last-requires : goal.feed_loop-last-requires
feed_loop-last-requires c =
    let opens = c.in_ok-opened.ensures.opens in
    rw (opens.0, c.open.ensures.book_after)
    (opened-feeds c.args.file.now c.args.book.now c.args.levels.now c.args.events.now opens.1 (rw opens.0 at c.in_ok-opened.opened.rule.accepted))

pub returns-in_err-end : goal.returns-in_err-end
returns-in_err-end c =
    let opens = c.in_ok-opened.ensures.opens in
    let ruled = rw opens.0 at c.in_ok-opened.opened.rule.accepted in
    let gone = rw (opens.0, c.open.ensures.book_after) at c.feed_loop-last.ensures in
    let p = err_from_is_err_and c.from_residual-in_err-end.result c.from_residual-in_err-end.ensures.1 in
    rw (p.1, p.2, c.open.ensures.book_after)
    (document-stops c.args.file.now c.args.book.now c.args.levels.now c.args.events.now opens.1 ruled gone _ (sym c.end.ensures ∙ c.in_err-end.was))

pub end_of-requires : goal.end_of-requires
end_of-requires c =
    let opens = c.in_ok-opened.ensures.opens in
    let ruled = rw opens.0 at c.in_ok-opened.opened.rule.accepted in
    let gone = rw (opens.0, c.open.ensures.book_after) at c.feed_loop-last.ensures in
    document-state c.args.file.now c.args.book.now c.args.levels.now c.args.events.now opens.1 ruled gone (sym c.end.ensures ∙ c.in_ok-end.was)

pub returns : goal.returns
returns c =
    let opens = c.in_ok-opened.ensures.opens in
    let ruled = rw opens.0 at c.in_ok-opened.opened.rule.accepted in
    let gone = rw (opens.0, c.open.ensures.book_after) at c.feed_loop-last.ensures in
    let ends = rw (opens.0, c.top_of.ensures) at c.end_of.ensures in
    rw c.open.ensures.book_after
    (document-ends c.args.file.now c.args.book.now c.args.levels.now c.args.events.now opens.1 ruled gone (sym c.end.ensures ∙ c.in_ok-end.was) ends)
