-- What was passed over is all that stands before the blocks that are left.
use Rattle.std.proofs.Common.{◌≡◌, drop}
use Rattle.std.specs.Slice.Iter.{chunks_rest, chunks_size}
use Rattle.turning.specs.PassingOver.{PassedIn}
use Rattle.turning.proofs.passing.Run.pass.Given as goal

abbrev pub invariant-loop-block : goal.invariant-loop-block
invariant-loop-block l = record {
  size : chunks_size l.block-iterator ≡ 256;
  left : chunks_rest l.block-iterator ≡ drop l.passed.count l.self.events.now;
  passed : PassedIn l.self.known l.self.skip l.self.events.now l.passed;
}
