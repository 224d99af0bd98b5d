-- Before each turn feeding stands somewhere over some store, and what is left to come of it is what was to come.
use Rattle.std.proofs.Common.{◌-◌, length}
use Rattle.std.specs.Prelude.{Ok}
use Rattle.turning.proofs.OneTurn.{Underway}
use Rattle.reading.proofs.feeding.feed_loop.Given as goal

abbrev pub invariant-loop-at : goal.invariant-loop-at
invariant-loop-at l =
    Underway l.rule.file.now l.rule.rule l.book l.ceiling l.events (record { reading = l.fn.reading; next = 0; ended = Ok tt }) l.fn.levels
    l.at l.levels

abbrev pub decreases-loop-at : goal.decreases-loop-at
decreases-loop-at l = length l.events - l.at.next
