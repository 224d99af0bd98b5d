-- The number of the event says which of the three it is, and each is no look, but for the close that ends the level.
use Rattle.std.proofs.Common.{arith, sym, ◌∙◌, lt-ltb, le-ltb}
use Rattle.meaning.specs.FullReading.{event_of}
use Rattle.meaning.specs.Skipping.{passed, settled_turn}
use Rattle.meaning.proofs.laws.Answered.{if-true, if-false}
use Rattle.turning.specs.Turns.{turn_says, turn_of}
use Rattle.turning.proofs.Turned.{letter-is}
use Rattle.turning.proofs.turns.Taking.settled_turn.Goals as goal

pub returns-in-0 : goal.returns-in-0
unfolding turn_says turn_of settled_turn passed event_of
returns-in-0 c = λ book stands. rw (c.in-0.is, c.taken.ensures)

pub returns-in-1 : goal.returns-in-1
unfolding turn_says turn_of settled_turn passed event_of
returns-in-1 c =
    λ book stands. rw (c.in-1.is, c.taken-in-1.ensures) (sym (if-true _ _ (lt-ltb _ _ c.if-reading-gt0.true)))

pub returns-in-1-2 : goal.returns-in-1-2
unfolding settled_turn event_of
returns-in-1-2 c =
    λ book stands. rw c.in-1.is (c.ends_level.ensures book stands ∙ sym (if-false _ _ (le-ltb _ _ c.if-reading-gt0.false)))

pub returns-in_default : goal.returns-in_default
unfolding turn_says turn_of settled_turn passed
returns-in_default c = λ book stands. rw (letter-is c.args.event (omega arith), c.taken-in_default.ensures)
