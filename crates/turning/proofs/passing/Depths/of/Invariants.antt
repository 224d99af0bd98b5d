-- The depths of the first events of each part.
use Rattle.turning.proofs.Counting.{PartOf}
use Rattle.turning.proofs.passing.Depths.of.Given as goal

abbrev pub invariant-loop-i : goal.invariant-loop-i
invariant-loop-i l = record {
  first : PartOf l.block 64 0 l.i l.a;
  second : PartOf l.block 64 64 l.i l.b;
  third : PartOf l.block 64 128 l.i l.c;
  fourth : PartOf l.block 64 192 l.i l.d;
}
