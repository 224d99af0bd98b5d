-- The initial state is the file's.
use Rattle.meaning.specs.FullReading.{fresh_reading}
use Rattle.turning.proofs.Turned.{initial-is}
use Rattle.reading.proofs.opening.fresh_reading.Goals as goal

pub returns : goal.returns
unfolding fresh_reading
returns c file h = rw (initial-is h) cc
