-- The number of the event says which of the three it is.
use Rattle.std.proofs.Common.{arith}
use Rattle.meaning.specs.FullReading.{event_of}
use Rattle.turning.proofs.Turned.{letter-is}
use Rattle.turning.proofs.turns.Taking.full_turn.Goals as goal

pub returns-in-0 : goal.returns-in-0
unfolding event_of
returns-in-0 c = rw c.in-0.is c.full_open.ensures

pub returns-in-1 : goal.returns-in-1
unfolding event_of
returns-in-1 c = rw c.in-1.is c.full_close.ensures

pub returns-in_default : goal.returns-in_default
returns-in_default c = rw (letter-is c.args.event (omega arith)) c.full_letter.ensures
