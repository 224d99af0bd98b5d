-- What feeding a reading and then finishing it over the same levels answer.
use Rattle.std.specs.Prelude.{◌≡◌, List, ℕ}
use Rattle.meaning.specs.Calls.{end_says, feed_call, finish_call}
use Rattle.meaning.specs.declared.Level.{Level}
use Rattle.meaning.specs.declared.Reading.{Reading}
use Rattle.reading.specs.Feeding.{FedIs}
use Rattle.cases.specs.declared.stores.Outcome.{Outcome}

-- the levels as feeding leaves them
abbrev pub left_by : List ℕ → List ℕ → ℕ → Reading → List Level → List ℕ → List Level
left_by file book ceiling r levels events = (feed_call file book ceiling r levels events).last.store

-- feed answers by its definition, and finish by its own, on the reading and the levels that feed left
pub record OutcomeIs (file book : List ℕ) (ceiling : ℕ) (r : Reading) (levels : List Level) (events : List ℕ) (x : Outcome) : Type 0 where
  pub fed_is : FedIs (feed_call file book ceiling r levels events) r x.fed (left_by file book ceiling r levels events)
  pub end_is : end_says x.end ≡ finish_call file book x.fed.reading (left_by file book ceiling r levels events)
