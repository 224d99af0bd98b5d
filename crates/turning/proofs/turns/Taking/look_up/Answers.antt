-- The ceiling, and then the two things that a look can find.
use Rattle.std.proofs.Common.{sym, le-leb}
use borrow.Author.Tests.{lt-leb}
use Rattle.std.proofs.lemmas.Result.{err_from_is_err_and}
use Rattle.meaning.specs.Calls.{number_of}
use Rattle.meaning.proofs.laws.Answered.{refuse-stops, refuse-passes}
use Rattle.turning.specs.Turns.{look_says, found_answer, look_answer}
use Rattle.turning.proofs.turns.Taking.look_up.Goals as goal

pub returns-then-self : goal.returns-then-self
unfolding look_says look_answer number_of
returns-then-self c = sym (refuse-stops 9 _ _ (le-leb _ _ c.if-self.true))

pub returns-in_err-found : goal.returns-in_err-found
unfolding look_says look_answer found_answer
returns-in_err-found c =
    let p = err_from_is_err_and c.from_residual.result c.from_residual.ensures.1 in
    rw (p.1, p.2, c.in_err-found.was) (sym (refuse-passes 9 _ _ (lt-leb _ _ c.if-self.false)))

pub returns : goal.returns
unfolding look_says look_answer found_answer
returns c = rw c.in_ok-found.was (sym (refuse-passes 9 _ _ (lt-leb _ _ c.if-self.false)))
