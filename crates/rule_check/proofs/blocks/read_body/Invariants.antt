-- The blocks so far are taken, from what the reader had, and the bytes of the record that are left grow fewer.
use Rattle.std.proofs.Common.{◌≡◌, length, take}
use Rattle.rule_check.specs.BlockRead.{TookMore, left}
use Rattle.rule_check.proofs.blocks.read_body.Given as goal

abbrev pub invariant-loop-more : goal.invariant-loop-more
invariant-loop-more g l =
    record {
      whole : length l.block ≡ length l.fn.block;
      went : TookMore l.document l.fn.body (take l.there l.fn.block) (g.R.Read.remaining l.fn.reader)
          (g.R.Read.remaining l.reader) l.body l.more;
    }

abbrev pub decreases-loop-more : goal.decreases-loop-more
decreases-loop-more g l = left l.more l.document.size l.body.taken
