-- What feeding answers and what it leaves in the level store.
use Rattle.std.specs.Prelude.{◌-◌, ◌≡◌, List}
use Rattle.meaning.specs.FullReading.{Went}
use Rattle.meaning.specs.Calls.{Stored, events_taken, says}
use Rattle.meaning.specs.declared.Fed.{Fed}
use Rattle.meaning.specs.declared.Level.{Level}
use Rattle.meaning.specs.declared.Reading.{Reading}
use Rattle.turning.specs.Advancing.{ended_at}
use Rattle.turning.specs.declared.Going.{Going}

-- what feeding answers and leaves: the reading and the store after the events it took, how it ended, and how many it took
pub record FedIs (w : Went Stored) (before : Reading) (r : Fed) (store : List Level) : Type 0 where
  pub reading_is : r.reading ≡ w.last.reading
  pub ended_is : says r.ended ≡ w.ended
  pub taken_is : r.taken ≡ events_taken before w
  pub store_is : store ≡ w.last.store

-- the answer, from where feeding began and where it ended
unfoldable pub fed_of : Reading → Going → Fed
fed_of before g = record { taken = g.reading.taken - before.taken; reading = g.reading; ended = ended_at g }
