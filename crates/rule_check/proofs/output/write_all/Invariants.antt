-- What was written, and then the rest, is the bytes.
use Rattle.std.proofs.Common.{◌≡◌, List, ℕ, ◌++◌, length}
use Rattle.std.specs.Io.KnownBytes.{Appends}
use Rattle.rule_check.proofs.output.write_all.Given as goal

abbrev pub invariant-loop-rest : goal.invariant-loop-rest
invariant-loop-rest g l =
    record {
      written : List ℕ;
      parted : written ++ l.rest ≡ l.bytes;
      appended : Appends (g.W.Write.contents l.initial.writer) (g.W.Write.contents l.writer) written;
    }

abbrev pub decreases-loop-rest : goal.decreases-loop-rest
decreases-loop-rest g l = length l.rest
