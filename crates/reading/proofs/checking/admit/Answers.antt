-- The rule, 6, 13: each by the law of the answer that it gives.
use Rattle.std.proofs.Common.{sym, ◌∙◌, arith}
use Rattle.std.proofs.lemmas.Result.{err_from_is_err_and}
use Rattle.meaning.specs.Calls.{refusal_says, number_of}
use Rattle.reading.proofs.Checks.{answer-rule, answer-short, answer-unread, answer-fine}
use Rattle.rule.proofs.Said.{states-are, few-states}
use Rattle.reading.proofs.checking.admit.Goals as goal

pub returns-in_err-checked-clause-refuses : goal.returns-in_err-checked-clause-refuses
returns-in_err-checked-clause-refuses c =
    let p = err_from_is_err_and c.from_residual.result c.from_residual.ensures.1 in
    rw (p.1, p.2) (answer-rule c.args.file.now _ _ _ _ c.in_err-checked.ensures.refuses)

pub returns-then-book-from-clause-refuses : goal.returns-then-book-from-clause-refuses
unfolding refusal_says number_of
returns-then-book-from-clause-refuses c =
    let h = rw c.in_ok-checked.ensures.accepts.0 at c.in_ok-checked.checked.accepted in
    rw c.at.ensures (answer-short _ _ _ _ h (omega (arith, c.from.ensures, c.if-book-from.true)))

pub not_reading-requires-clause-few_states : goal.not_reading-requires-clause-few_states
not_reading-requires-clause-few_states c = few-states c.in_ok-checked.checked.accepted

pub returns-then-not_reading-clause-refuses : goal.returns-then-not_reading-clause-refuses
unfolding refusal_says number_of
returns-then-not_reading-clause-refuses c =
    let h = rw c.in_ok-checked.ensures.accepts.0 at c.in_ok-checked.checked.accepted in
    rw c.at-then-not_reading.ensures
    (answer-unread _ _ _ _ h (omega (arith, c.from.ensures, c.if-book-from.false)) (sym (c.not_reading.ensures _ (states-are h)) ∙ c.if-not_reading.true))

pub returns-clause-admits : goal.returns-clause-admits
returns-clause-admits c =
    let accepts = c.in_ok-checked.ensures.accepts in
    let h = rw accepts.0 at c.in_ok-checked.checked.accepted in (
      accepts.0,
      answer-fine _ _ _ _ h (omega (arith, c.from.ensures, c.if-book-from.false)) (sym (c.not_reading.ensures _ (states-are h)) ∙ c.if-not_reading.false),
    )
