-- Each event adds at most one to a count, so none of them goes past the events seen.
use Rattle.std.proofs.Common.{arith}
use Rattle.turning.proofs.Counting.{counts_none, counts-more, counts-room, opens-are, closes-are}
use Rattle.turning.proofs.passing.Counts.of.Goals as goal

pub loop-event-init : goal.loop-event-init
loop-event-init c = counts_none c.default-counts.result (omega arith) (omega arith)

pub overflow_add-counts : goal.overflow_add-counts
overflow_add-counts c = omega (arith, counts-room c.args.block.now c.loop-event.event-index c.loop-event.counts (omega arith) c.loop-event.invariant)

pub overflow_add-counts-in-loop-event : goal.overflow_add-counts-in-loop-event
overflow_add-counts-in-loop-event c =
    omega (arith, counts-room c.args.block.now c.loop-event.event-index c.loop-event.counts (omega arith) c.loop-event.invariant)

pub loop-event-preserved : goal.loop-event-preserved
loop-event-preserved c =
    rw (c.from.ensures, c.from-in-loop-event.ensures, c.max.ensures, opens-are, closes-are)
    (counts-more c.args.block.now c.loop-event.event-index c.loop-event.counts (omega arith) c.loop-event.invariant)
