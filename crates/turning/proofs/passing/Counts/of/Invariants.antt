-- The counts of the events that were seen.
use Rattle.std.proofs.Common.{take}
use Rattle.turning.specs.PassingOver.{CountsOf}
use Rattle.turning.proofs.passing.Counts.of.Given as goal

abbrev pub invariant-loop-event : goal.invariant-loop-event
invariant-loop-event l = CountsOf (take l.event-index l.block) l.counts
