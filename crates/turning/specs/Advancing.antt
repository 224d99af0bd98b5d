-- Feeding on its way through the events over the level store: what is left to come of it where it stands, what the loop may
-- count on there, and what one turn of the loop does. A turn is found by value: it tells what to store, and where.
use Rattle.std.specs.Prelude.{ℕ, ◌≤◌, ◌<◌, ◌≡◌, List, length, drop, set, Option, Some, None, Result, Ok, Err}
use Rattle.meaning.specs.RuleFile as format
use Rattle.meaning.specs.RuleFile.{rule_of}
use Rattle.meaning.specs.Answers.{refused}
use Rattle.meaning.specs.FullReading.{Went, feed_by}
use Rattle.meaning.specs.Calls.{Stored, number_of, says, store_step}
use Rattle.meaning.specs.declared.Level.{Level}
use Rattle.meaning.specs.declared.Reading.{Reading}
use Rattle.meaning.specs.declared.Refusal.{Refusal}
use Rattle.meaning.specs.declared.reason.Reason.{Reason}
use Rattle.rule.specs.declared.Rule.{Rule}
use Rattle.turning.specs.Turns.{Feeds, over}
use Rattle.turning.specs.declared.Standing.{Standing}
use Rattle.turning.specs.declared.Going.{Going}
use Rattle.turning.specs.declared.Entry.{Entry}
use Rattle.turning.specs.declared.Advance.{Advance}

-- how feeding ended: the place of a refused event is the count of events taken
unfoldable pub placed : Result Unit Reason → ℕ → Result Unit Refusal
placed (Ok u) taken = Ok u
placed (Err reason) taken = Err (record { number = number_of reason; place = taken })

unfoldable pub ended_at : Going → Result Unit Refusal
ended_at g = placed g.ended g.reading.taken

-- what is left to come: what feeding the other events comes to, or the refusal
unfoldable pub rest_of : Result Unit Reason → Stored → Went Stored → Went Stored
rest_of (Ok u) s w = w
rest_of (Err reason) s w = record { last = s; ended = refused (number_of reason) s.reading.taken }

unfoldable pub rest : format.Rule → List ℕ → ℕ → List Level → List ℕ → Going → Went Stored
rest R book ceiling store events g =
    rest_of g.ended (over g.reading store)
    (feed_by (store_step R book ceiling) (over g.reading store) (drop g.next events))

-- the store with the record that a turn stores, if it stores one
unfoldable pub stored : Option Entry → List Level → List Level
stored None store = store
stored (Some e) store = set store e.place e.level

-- where an event is left, none was refused, and what stands there is a reading
pub record CanGoOn (file : List ℕ) (rule : Rule) (book : List ℕ) (store : List Level) (events : List ℕ) (g : Going) : Type 0 where
  pub within : g.next ≤ length events
  pub taken : g.next < length events → g.ended ≡ Ok tt
  pub feeds : g.next < length events → Feeds file rule book g.reading store

-- one turn: it goes further, and with its record stored, what is left to come is the same
pub record Advances (file : List ℕ) (rule : Rule) (book : List ℕ) (ceiling : ℕ) (store : List Level) (r : Reading) (events : List ℕ) (next : ℕ) (a : Advance) : Type 0 where
  pub further : next < a.going.next
  pub more : r.taken ≤ a.going.reading.taken
  pub goes : CanGoOn file rule book (stored a.stores store) events a.going
  pub comes : rest (rule_of file) book ceiling (stored a.stores store) events a.going
      ≡ feed_by (store_step (rule_of file) book ceiling) (over r store) (drop next events)

-- the same, of what an event is judged by
abbrev pub FeedsBy : List ℕ → Standing → List Level → Type 0
FeedsBy book s store = Feeds s.rule.file.now s.rule.rule book s.reading store

abbrev pub AdvancesBy : List ℕ → Standing → List Level → List ℕ → ℕ → Advance → Type 0
AdvancesBy book s store events next a = Advances s.rule.file.now s.rule.rule book s.ceiling store s.reading events next a

-- all turns: feeding has come to its end
pub record Gone (w : Went Stored) (before : Reading) (room : ℕ) (g : Going) (store : List Level) : Type 0 where
  pub comes : w ≡ record { last = over g.reading store; ended = says (ended_at g) }
  pub more : before.taken ≤ g.reading.taken
  pub same_room : length store ≡ room
