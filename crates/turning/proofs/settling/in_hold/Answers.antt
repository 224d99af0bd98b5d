-- The top has no state above it, and any other level is held if the state's bit is in the word of the state above.
use Rattle.std.proofs.Common.{arith, sym, ◌∙◌, le-ltb, lt-ltb}
use Rattle.meaning.specs.SkipBook.{in_hold}
use Rattle.meaning.specs.Skipping.{held}
use Rattle.turning.proofs.settling.in_hold.Goals as goal

pub returns-then-reading-eq0 : goal.returns-then-reading-eq0
unfolding held
returns-then-reading-eq0 c = sym (rw (le-ltb 0 c.args.reading.depth (omega arith)))

pub returns : goal.returns
unfolding held in_hold
returns c = (rw c.from-hold.ensures at c.in_set.ensures) ∙ sym (rw (lt-ltb 0 c.args.reading.depth (omega arith)))
