-- The check in its stages: the four numbers, the tables, the room.
use Rattle.std.proofs.Common.{sym, ap, ◌∙◌, arith}
use borrow.Author.Tests.{lt-ltb, le-ltb}
use Rattle.meaning.specs.Answers.{given, refused}
use Rattle.meaning.specs.Calls.{says, number_of}
use Rattle.meaning.proofs.laws.Answered.{refuse-passes, refuse-stops}
use Rattle.meaning.proofs.laws.Handed.{refusal-at, handed_on, and_then-ok, and_then-err}
use Rattle.rule.specs.Checks.{rule_from, parts_rule, given_check}
use Rattle.rule.proofs.Stages.{after_given, write-stages}
use Rattle.rule.proofs.writer.write_check.Goals as goal

pub returns-in_err-numbers_check : goal.returns-in_err-numbers_check
unfolding rule_from
returns-in_err-numbers_check c =
    handed_on _ _ c.from_residual.ensures.1
    ∙ sym (write-stages (parts_rule c.args.parts) c.args.room ∙ and_then-err _ _ c.in_err-numbers_check.ensures)

pub returns-in_err-given_check : goal.returns-in_err-given_check
unfolding rule_from after_given given_check
returns-in_err-given_check c =
    handed_on _ _ c.from_residual-in_err-given_check.ensures.1
    ∙ sym (write-stages (parts_rule c.args.parts) c.args.room
    ∙ and_then-ok _ c.in_ok-numbers_check.ensures
    ∙ and_then-err _ _ c.in_err-given_check.ensures)

pub returns-then-room-count : goal.returns-then-room-count
unfolding rule_from after_given given_check number_of
returns-then-room-count c =
    refusal-at c.at.ensures
    ∙ ap (refused 14) c.of-count.ensures.count
    ∙ sym (write-stages (parts_rule c.args.parts) c.args.room
    ∙ and_then-ok _ c.in_ok-numbers_check.ensures
    ∙ and_then-ok _ c.in_ok-given_check.ensures
    ∙ refuse-stops 14 _ _ (lt-ltb c.args.room _ (omega arith)))

pub returns : goal.returns
unfolding says rule_from after_given given_check
returns c =
    ap given c.of-count.ensures.count
    ∙ sym (write-stages (parts_rule c.args.parts) c.args.room
    ∙ and_then-ok _ c.in_ok-numbers_check.ensures
    ∙ and_then-ok _ c.in_ok-given_check.ensures
    ∙ refuse-passes 14 _ _ (le-ltb c.args.room _ (omega arith)))
