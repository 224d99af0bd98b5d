-- What is demanded of whole readings by the calls: full reading follows the automaton (demand 2), skipping ends as full reading
-- does, after every first part too, and a passed-over part can be exchanged (demand 3). Each is a record here; that it holds is a
-- theorem of the same subject in proofs/.
use Rattle.std.specs.Prelude.{ℕ, ◌≤◌, ◌≡◌, List, length}
use Rattle.meaning.specs.declared.Reading.{Reading}
use Rattle.meaning.specs.declared.Level.{Level}
use Rattle.meaning.specs.Answers.{given}
use Rattle.meaning.specs.RuleFile.{Rule, class_of, rule_of}
use Rattle.meaning.specs.FullReading.{fresh_run}
use Rattle.meaning.specs.Hedges.{Hedge, events_of, Goes}
use Rattle.meaning.specs.StreamingMachine.{Suffices}
use Rattle.meaning.specs.PassedOver.{not_passed_over}
use Rattle.meaning.specs.Calls.{Judged, opened_book, feed_call, ReadsTo}

-- ---- full reading

-- The events are those of a hedge, the automaton goes by it from the initial state to the end state, the class is that state's,
-- and level store, ceiling and event limit suffice.
pub record FollowsAutomaton (R : Rule) (room ceiling : ℕ) (events : List ℕ) (j : Judged) : Type 0 where
  pub hedge : Hedge
  pub its_events : events_of hedge ≡ events
  pub goes : Goes R R.initial hedge j.state
  pub class_is : j.class ≡ class_of R j.state
  pub suffices : Suffices room ceiling (fresh_run R) events

-- ---- skipping with the book that opening wrote, from the reading that it gave

-- It ends with that verdict and that state, and its looks are the events that full reading does not mark as passed over, so never
-- more than the events.
pub record EndsAsFull (file lent : List ℕ) (first : Reading) (store : List Level) (ceiling : ℕ) (events : List ℕ) (j : Judged) : Type 0 where
  pub reads : ReadsTo file (opened_book file lent) first store ceiling events j
  pub looks : (feed_call file (opened_book file lent) ceiling first store events).last.reading.looks
      ≡ not_passed_over (rule_of file) (opened_book file lent) (length store) ceiling (fresh_run (rule_of file)) events
  pub few : not_passed_over (rule_of file) (opened_book file lent) (length store) ceiling (fresh_run (rule_of file)) events ≤ length events

-- After a first part of the events it has taken these, and its looks so far are those of them that full reading does not mark as
-- passed over.
pub record SoFar (file lent : List ℕ) (first : Reading) (store : List Level) (ceiling : ℕ) (part : List ℕ) : Type 0 where
  pub takes_all : (feed_call file (opened_book file lent) ceiling first store part).ended ≡ given tt
  pub looks : (feed_call file (opened_book file lent) ceiling first store part).last.reading.looks
      ≡ not_passed_over (rule_of file) (opened_book file lent) (length store) ceiling (fresh_run (rule_of file)) part

-- ---- the exchange of a passed-over part

-- the other events are read to the same verdict and end state, by as many looks
pub record ReadsSame (file book : List ℕ) (first : Reading) (store : List Level) (ceiling : ℕ) (events events' : List ℕ) (j : Judged) : Type 0 where
  pub reads : ReadsTo file book first store ceiling events' j
  pub looks : (feed_call file book ceiling first store events).last.reading.looks
      ≡ (feed_call file book ceiling first store events').last.reading.looks
