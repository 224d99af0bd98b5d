-- A byte is none or a state.
use Rattle.std.proofs.Common.{sym}
use borrow.Author.Tests.{eq-eqb, ne_eqb}
use Rattle.meaning.proofs.laws.Answered.{if-true, if-false}
use Rattle.rule.specs.Tables.{move_in}
use Rattle.rule.proofs.tables.move_in.Goals as goal

pub returns-then-byte-eq-NONE : goal.returns-then-byte-eq-NONE
unfolding move_in
returns-then-byte-eq-NONE c = sym (if-true _ _ (eq-eqb _ _ c.if-byte-eq-NONE.true))

pub returns : goal.returns
unfolding move_in
returns c = sym (if-false _ _ (ne_eqb _ _ c.if-byte-eq-NONE.false))
