-- The first slots are decoded, and the rest of them are as they were.
use Rattle.std.proofs.Common.{◌≡◌, take}
use Rattle.input.specs.Decoding.{decoded}
use Rattle.input.proofs.decode.Given as goal

abbrev pub invariant-loop-i : goal.invariant-loop-i
invariant-loop-i l = l.event-items ≡ decoded l.i l.bytes (take l.count l.fn.events)
