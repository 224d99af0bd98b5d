-- One open or one close, by the event's number.
use Rattle.std.proofs.Common.{refl}
use Rattle.turning.specs.PassingOver.{one_more}
use Rattle.turning.proofs.Counting.{opens-are, closes-are}
use Rattle.turning.proofs.passing.Depths.with.Goals as goal

pub returns : goal.returns
unfolding one_more
returns c = rw (c.min.ensures, c.from.ensures, c.from-2.ensures, opens-are, closes-are) refl
