-- The opening where a level is open, the events taken where none is.
use Rattle.std.proofs.Common.{sym}
use borrow.Author.Tests.{lt-ltb, le-ltb}
use Rattle.meaning.specs.Calls.{open_place}
use Rattle.meaning.proofs.laws.Answered.{if-true, if-false}
use Rattle.reading.proofs.ending.open_place.Goals as goal

pub returns-then-reading-gt0 : goal.returns-then-reading-gt0
unfolding open_place
returns-then-reading-gt0 c = sym (if-true _ _ (lt-ltb _ _ c.if-reading-gt0.true))

pub returns : goal.returns
unfolding open_place
returns c = sym (if-false _ _ (le-ltb _ _ c.if-reading-gt0.false))
