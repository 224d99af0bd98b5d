-- The events that were seen are passed over.
use Rattle.std.proofs.Common.{take}
use Rattle.turning.specs.PassingOver.{AllPassed}
use Rattle.turning.proofs.passing.Run.pass_events.Given as goal

abbrev pub invariant-loop-count : goal.invariant-loop-count
invariant-loop-count l = AllPassed l.self.known l.self.skip (take l.count l.self.events.now) l.skip
