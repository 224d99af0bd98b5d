-- An event that is passed over is one more of them.
use Rattle.std.proofs.Common.{arith, length-take}
use Rattle.turning.proofs.Counting.{passed_none, passed-more, passing-few}
use Rattle.turning.proofs.passing.Run.pass_events.Goals as goal

pub loop-count-init : goal.loop-count-init
loop-count-init c = passed_none c.args.self.now.known c.args.self.now.skip

pub after_event-requires : goal.after_event-requires
after_event-requires c = omega (arith, passing-few c.loop-count.invariant.passing, length-take c.loop-count.count c.args.self.now.events.now)

pub loop-count-preserved : goal.loop-count-preserved
loop-count-preserved c =
    passed-more c.args.self.now.known c.args.self.now.events.now _ _ _ c.loop-count.count (omega arith) c.loop-count.invariant c.in-Some.ensures
