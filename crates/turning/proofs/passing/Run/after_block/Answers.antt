-- A skip depth outlasts closes that are no more, and a block whose lowest depth is not below zero is passed over by its depths.
use Rattle.std.proofs.Common.{arith}
use Rattle.turning.proofs.Counting.{counts-few, passed-counts, passed-depths}
use Rattle.turning.proofs.passing.Run.after_block.Goals as goal

pub overflow_add-result : goal.overflow_add-result
overflow_add-result c = omega (arith, counts-few c.args.self.now.events.now c.of-counts.result c.of-counts.ensures, c.in-Some.ensures)

pub returns-in-Some : goal.returns-in-Some
returns-in-Some c =
    let run = c.args.self.now in
    let n = c.of-counts in
    rw c.from-in-Some.ensures
    (passed-counts run.known run.skip c.in-Some.left run.events.now n.result n.ensures c.if-self-counts.false
    (omega (arith, c.in-Some.ensures)))

pub returns : goal.returns
returns c =
    let run = c.args.self.now in
    let n = c.of-counts in
    let d = c.of-depths in
    rw c.from-3.ensures
    (passed-depths run.known run.skip c.in_ok-lowest.lowest run.events.now n.result d.result n.ensures c.if-self-counts.false d.ensures.depths
    (omega (arith, c.in_ok-lowest.ensures)))
