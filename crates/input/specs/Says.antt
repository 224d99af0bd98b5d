-- What the front of an input says: where its events are, or the refusal of a bad record.
use Rattle.std.specs.Prelude.{ℕ, List, Result, Ok, Err}
use Rattle.meaning.specs.Answers.{Answer, given, ◌giving◌}
use Rattle.meaning.specs.CheckProgram as program
use Rattle.meaning.specs.CheckProgram.{events_header}
use Rattle.meaning.specs.Calls.{refusal_says}
use Rattle.meaning.specs.declared.Refusal.{Refusal}
use Rattle.input.specs.declared.EventsAt.{EventsAt}

unfoldable pub front_says : Result EventsAt Refusal → Answer program.EventsAt
front_says (Ok at) = given (record { place = at.place; size = at.size })
front_says (Err r) = refusal_says r

-- what the header of the record of events at a place says
unfoldable pub header_answer : List ℕ → ℕ → Answer program.EventsAt
header_answer input place = events_header input place giving λ size. given (record { place = place; size = size })
