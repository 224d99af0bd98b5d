-- What one event leads to, as the code has it and as the definitions have it, and what the code may count on there.
use Rattle.std.specs.Prelude.{ℕ, ◌<◌, ◌≡◌, Bool, true, false, List, length, Result, Ok, Err}
use Rattle.meaning.specs.Answers.{Answer, given, refused, refuse◌at◌when◌otherwise◌, ◌≤?◌}
use Rattle.meaning.specs.FullReading as full
use Rattle.meaning.specs.FullReading.{stays, stores, ends, no_move_number}
use Rattle.meaning.specs.RuleFile.{rule_of}
use Rattle.meaning.specs.Calls.{Stored, not_reading}
use Rattle.meaning.specs.Calls.{number_of}
use Rattle.meaning.specs.Skipping as skipping
use Rattle.meaning.specs.Skipping.{held, settled}
use Rattle.meaning.specs.declared.Reading.{Reading}
use Rattle.meaning.specs.declared.Level.{Level}
use Rattle.meaning.specs.declared.reason.Reason.{Reason}
use Rattle.rule.specs.Says.{RuleOf}
use Rattle.rule.specs.Tables.{table_says}
use Rattle.rule.specs.declared.Rule.{Rule}
use Rattle.rule.specs.declared.tables.Table.{Table}
use Rattle.turning.specs.Readings.{StatesIn, Counted}
use Rattle.turning.specs.declared.Standing.{Standing}
use Rattle.turning.specs.declared.Turn.{Turn}
use Rattle.turning.specs.declared.Turn.TheVariants as turn
use Rattle.turning.specs.declared.settling.Settled.{Settled}
use Rattle.turning.specs.declared.settling.Settled.TheVariants as level

-- which of the definition's turns a turn of the code is
unfoldable pub turn_of : Turn → full.Turn
turn_of (turn.Stays r) = stays r
turn_of (turn.Stores l r) = stores l r
turn_of (turn.Ends r) = ends r

-- the number and the values of each case, after a reading: the place of a refused event is the count of events taken
unfoldable pub turn_says : Reading → Result Turn Reason → Answer full.Turn
turn_says before (Ok t) = given (turn_of t)
turn_says before (Err reason) = refused (number_of reason) before.taken

-- what each of the definitions says of an event by what it is judged by
abbrev pub full_by : Standing → full.Event → Answer full.Turn
full_by s e = full.full_turn (rule_of s.rule.file.now) s.room s.ceiling s.reading s.top e

abbrev pub ends_by : List ℕ → Standing → Answer full.Turn
ends_by book s = skipping.ends_level (rule_of s.rule.file.now) book s.room s.ceiling s.reading s.top

abbrev pub settled_by : List ℕ → Standing → full.Event → Answer full.Turn
settled_by book s e = skipping.settled_turn (rule_of s.rule.file.now) book s.room s.ceiling s.reading s.top e

-- the state that a look came to, or the number of its refusal, which has the place of the event
unfoldable pub look_says : Reading → Result ℕ Reason → Answer ℕ
look_says before (Ok state) = given state
look_says before (Err reason) = refused (number_of reason) before.taken

-- what a look comes to where it is let: the state, or the number of the table that has no move
unfoldable pub found_answer : Reading → Result ℕ Table → Answer ℕ
found_answer r (Ok state) = given state
found_answer r (Err table) = refused (no_move_number (table_says table)) r.taken

-- what a look comes to: the ceiling first, and then what was found
unfoldable pub look_answer : ℕ → Reading → Result ℕ Table → Answer ℕ
look_answer ceiling r found = refuse 9 at r.taken when ceiling ≤? r.looks otherwise found_answer r found

-- what one event may count on: the rule, its book, and what number 13 lets through
pub record Ready (file : List ℕ) (rule : Rule) (book : List ℕ) (r : Reading) (top : Level) : Type 0 where
  pub ruled : RuleOf file rule
  pub book_long : rule.states < length book
  pub states : StatesIn rule r top
  pub counted : Counted r

-- which levels are held, and which are settled
unfoldable pub is_held : Settled → Bool
is_held level.Not = false
is_held level.Still = false
is_held level.Held = true

unfoldable pub is_settled : Settled → Bool
is_settled level.Not = false
is_settled level.Still = true
is_settled level.Held = true

-- what the book says of the level: whether it is held, and whether it is settled
pub record Stands (book : List ℕ) (r : Reading) (top : Level) (s : Settled) : Type 0 where
  pub held_is : is_held s ≡ held book r top
  pub settled_is : is_settled s ≡ settled book r top

-- what feeding may count on: the rule, its book, and a reading that number 13 lets through
pub record Feeds (file : List ℕ) (rule : Rule) (book : List ℕ) (r : Reading) (store : List Level) : Type 0 where
  pub ruled : RuleOf file rule
  pub book_long : rule.states < length book
  pub is_reading : not_reading (rule_of file) book r store ≡ false

-- a reading over a store
abbrev pub over : Reading → List Level → Stored
over r store = record { reading = r; store = store }
