-- The event limit, the known letters, and then the turn that the settled test chooses.
use Rattle.std.proofs.Common.{◌+◌, arith, sym, ◌∙◌, le-leb}
use borrow.Author.Tests.{lt-leb}
use Rattle.meaning.specs.Calls.{number_of}
use Rattle.meaning.specs.RuleFile.{rule_of}
use Rattle.meaning.specs.FullReading.{most_events, known_event}
use Rattle.meaning.specs.Skipping.{skip_turn, skip_event}
use Rattle.meaning.proofs.laws.Answered.{refuse-stops, refuse-passes, if-true, if-false}
use Rattle.turning.specs.Turns.{turn_says}
use Rattle.rule.proofs.Said.{letters-are}
use Rattle.turning.proofs.Turned.{known-turn, few-letters}
use Rattle.turning.proofs.Standing.skip_event.Goals as goal

pub overflow_add-known : goal.overflow_add-known
overflow_add-known c = omega (arith, few-letters c.args.self.now.rule.accepted)

pub returns-then-self-ge-MOST_EVENTS : goal.returns-then-self-ge-MOST_EVENTS
unfolding turn_says skip_event known_event number_of
returns-then-self-ge-MOST_EVENTS c =
    λ book stands. sym (refuse-stops 16 _ _ (le-leb _ _ c.if-self-ge-MOST_EVENTS.true))

pub returns-then-known-event : goal.returns-then-known-event
unfolding turn_says skip_event known_event number_of
returns-then-known-event c =
    let s = c.args.self.now in
    λ book stands. sym (refuse-passes 16 _ _ (lt-leb most_events s.reading.taken (omega arith))
    ∙ refuse-stops 10 _ _ (le-leb ((rule_of s.rule.file.now).letters + 2) c.args.event (omega (arith, letters-are s.rule.accepted, c.if-known-event.true))))

pub returns-then-is_settled : goal.returns-then-is_settled
unfolding skip_event skip_turn
returns-then-is_settled c =
    let ruled = c.args.self.now.rule.accepted in
    λ book stands. c.settled_turn.ensures _ stands
    ∙ sym (known-turn ruled _ _ _ (omega arith) (omega arith) ∙ if-true _ _ (sym stands.settled_is ∙ sym c.is_settled.ensures ∙ c.if-is_settled.true))

pub returns : goal.returns
unfolding skip_event skip_turn
returns c =
    let ruled = c.args.self.now.rule.accepted in
    λ book stands. c.full_turn.ensures
    ∙ sym (known-turn ruled _ _ _ (omega arith) (omega arith) ∙ if-false _ _ (sym stands.settled_is ∙ sym c.is_settled.ensures ∙ c.if-is_settled.false))
