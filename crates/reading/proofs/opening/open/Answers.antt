-- What the rule check refused, opening refuses, and the book stays; the rule that it accepts is opened.
use Rattle.std.proofs.lemmas.Result.{err_from_is_err_and}
use Rattle.meaning.proofs.laws.Handed.{was-given, was-refused}
use Rattle.reading.proofs.Checks.{unchecked-opens, unchecked-stays}
use Rattle.reading.proofs.opening.open.Goals as goal

pub returns-in_err-rule-clause-refuses : goal.returns-in_err-rule-clause-refuses
returns-in_err-rule-clause-refuses c =
    let p = err_from_is_err_and c.from_residual.result c.from_residual.ensures.1 in
    rw (p.1, p.2) (unchecked-opens c.args.file.now c.args.book.now _ c.in_err-rule.ensures.refuses)

pub returns-in_err-rule-clause-book_after : goal.returns-in_err-rule-clause-book_after
returns-in_err-rule-clause-book_after c = unchecked-stays c.args.file.now c.args.book.now _ c.in_err-rule.ensures.refuses

pub returns-in_err-gave-clause-refuses : goal.returns-in_err-gave-clause-refuses
returns-in_err-gave-clause-refuses c =
    let p = err_from_is_err_and c.from_residual-in_err-gave.result c.from_residual-in_err-gave.ensures.1 in
    rw (p.1, p.2, ← c.in_ok-rule.ensures.accepts.0) (was-refused _ c.in_err-gave.ensures.answer)

pub returns-in_err-gave-clause-book_after : goal.returns-in_err-gave-clause-book_after
returns-in_err-gave-clause-book_after c = rw (← c.in_ok-rule.ensures.accepts.0) c.open_rule.ensures.book_after

pub returns-clause-opens : goal.returns-clause-opens
returns-clause-opens c =
    let same = c.in_ok-rule.ensures.accepts.0 in
    (same, rw (← same) (was-given c.in_ok-gave.ensures.answer))

pub returns-clause-book_after : goal.returns-clause-book_after
returns-clause-book_after c = rw (← c.in_ok-rule.ensures.accepts.0) c.open_rule.ensures.book_after
