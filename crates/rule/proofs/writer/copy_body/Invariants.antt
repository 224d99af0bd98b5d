-- What was copied so far stands at the front of the output, whose length stays.
use Rattle.std.proofs.Common.{◌≡◌, length}
use Rattle.std.proofs.Math.Seq.{paste}
use Rattle.rule.proofs.writer.copy_body.Given as goal

abbrev pub invariant-loop-i : goal.invariant-loop-i
invariant-loop-i l = (l.output ≡ paste l.fn.output 0 l.body l.i) × (length l.output ≡ length l.fn.output)
