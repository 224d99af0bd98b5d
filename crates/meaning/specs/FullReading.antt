-- Events and full reading (document 01, "Events and full reading"): the paper's streaming machine, a state and the open
-- levels, with document 01's numbers. Each event is one table look. What decides is said of the reading and the innermost
-- level's record alone; what becomes of the open levels is said once, below, for all ways of reading.
use Rattle.std.specs.Prelude.{ℕ, zero, suc, ◌+◌, ◌-◌, List, [], ◌∷◌}
use Rattle.meaning.specs.declared.Reading.{Reading}
use Rattle.meaning.specs.declared.Level.{Level}
use Rattle.meaning.specs.Answers.{Answer, given, refused, refuse◌at◌when◌otherwise◌, ◌giving◌, ◌≤?◌, ◌=?◌}
use Rattle.meaning.specs.RuleFile.{Rule, Move, no_move, to, letter_move, tree_move, tree_start_move}

-- ---- events

-- an event opens a tree, closes one, or is a letter
pub data Event : Type 0 where
  opens closes : Event
  letter : ℕ → Event

-- 0 opens a tree, 1 closes one, 2+a is letter a
unfoldable pub event_of : ℕ → Event
event_of zero = opens
event_of (suc zero) = closes
event_of (suc (suc a)) = letter a

-- the most events that a reading takes
abbrev pub most_events : ℕ
most_events = 4294967295

-- ---- a reading

-- the initial state and four zeros
unfoldable pub fresh_reading : Rule → Reading
fresh_reading R = record { state = R.initial; depth = 0; skip = 0; taken = 0; looks = 0 }

-- the reading after an event that was a look: its state and its stored depth, one event and one look more
unfoldable pub looked : Reading → ℕ → ℕ → Reading
looked r state depth = record { state = state; depth = depth; skip = r.skip; taken = r.taken + 1; looks = r.looks + 1 }

-- ---- a table look

-- the three tables that a look may be in
pub data Table : Type 0 where
  letter_table start_table tree_table : Table

-- The number says which move is missing: 11 where there is no letter move, 17 where there is no tree start, 18 where there is
-- no tree move. Each event: 16, 10, 7, then, if it needs a look, 8, 9, and then the number of the table that has no move.
unfoldable pub no_move_number : Table → ℕ
no_move_number letter_table = 11
no_move_number start_table = 17
no_move_number tree_table = 18

-- What one event leads to, apart from the reading after it: the open levels stay, a record is stored for one more level, or
-- the innermost level ends.
pub data Turn : Type 0 where
  stays : Reading → Turn
  stores : Level → Reading → Turn
  ends : Reading → Turn

-- one look in a table, refused at the event's place where there is no move
unfoldable pub look : Table → ℕ → Move → (ℕ → Turn) → Answer Turn
look table place no_move next = refused (no_move_number table) place
look table place (to state) next = given (next state)

-- ---- full reading of one event

-- The record that an open stores: the state above the new level and the place of the opening. A place is the count of
-- events taken before the event in question.
unfoldable pub new_level : Reading → Level
new_level r = record { above = r.state; opened = r.taken }

-- `room` is the length of the level store, and `top` the record of the innermost open level, if there is one.
-- letter a: the state becomes the letter move of state and a;
-- open: the state and the place go to a record, the depth grows by one, the state becomes the tree start;
-- close: the depth falls by one, and the state becomes the tree move of the state above and the old state.
unfoldable pub full_turn : Rule → ℕ → ℕ → Reading → Level → Event → Answer Turn
full_turn R room ceiling r top (letter a) =
    refuse 9 at r.taken when ceiling ≤? r.looks otherwise
    look letter_table r.taken (letter_move R r.state a) (λ q. stays (looked r q r.depth))
full_turn R room ceiling r top opens =
    refuse 8 at r.taken when room ≤? r.depth otherwise
    refuse 9 at r.taken when ceiling ≤? r.looks otherwise
    look start_table r.taken (tree_start_move R) (λ q. stores (new_level r) (looked r q (r.depth + 1)))
full_turn R room ceiling r top closes =
    refuse 7 at r.taken when r.depth =? 0 otherwise
    refuse 9 at r.taken when ceiling ≤? r.looks otherwise
    look tree_table r.taken (tree_move R top.above r.state) (λ q. ends (looked r q (r.depth - 1)))

-- each event: first the event limit and the known letters, and then what its turn says
unfoldable pub known_event : Rule → Reading → ℕ → Answer Turn → Answer Turn
known_event R r e turn =
    refuse 16 at r.taken when most_events ≤? r.taken otherwise
    refuse 10 at r.taken when R.letters + 2 ≤? e otherwise
    turn

unfoldable pub full_event : Rule → ℕ → ℕ → Reading → Level → ℕ → Answer Turn
full_event R room ceiling r top e = known_event R r e (full_turn R room ceiling r top (event_of e))

-- ---- a reading with its open levels, the innermost first

pub record Run : Type 0 where
  pub reading : Reading
  pub levels : List Level

-- a record that stands for nothing
unfoldable pub blank : Level
blank = record { above = 0; opened = 0 }

unfoldable pub innermost : List Level → Level
innermost [] = blank
innermost (l ∷ ls) = l

-- the levels that stay open when the innermost one ends
unfoldable pub outer : List Level → List Level
outer [] = []
outer (l ∷ ls) = ls

unfoldable pub run_after : List Level → Turn → Run
run_after ls (stays r) = record { reading = r; levels = ls }
run_after ls (stores l r) = record { reading = r; levels = l ∷ ls }
run_after ls (ends r) = record { reading = r; levels = outer ls }

unfoldable pub full_step : Rule → ℕ → ℕ → Run → ℕ → Answer Run
full_step R room ceiling m e =
    full_event R room ceiling m.reading (innermost m.levels) e giving λ turn. given (run_after m.levels turn)

-- ---- one event after the other

-- where a run of events led to, and how it ended: all taken, or one refused, which changes nothing
pub record Went (A : Type 0) : Type 0 where
  pub last : A
  pub ended : Answer Unit

unfoldable pub go_on : {A : Type 0} → A → Answer A → (A → Went A) → Went A
go_on a (given b) rest = rest b
go_on a (refused number place) rest = record { last = a; ended = refused number place }

unfoldable pub feed_by : {A : Type 0} → (A → ℕ → Answer A) → A → List ℕ → Went A
feed_by step a [] = record { last = a; ended = given tt }
feed_by step a (e ∷ es) = go_on a (step a e) (λ b. feed_by step b es)

-- ---- full reading from the first event on

-- before the first event
abbrev pub fresh_run : Rule → Run
fresh_run R = record { reading = fresh_reading R; levels = [] }

-- some events read in full, with so much room for levels and under a ceiling
abbrev pub full_run : Rule → ℕ → ℕ → List ℕ → Went Run
full_run R room ceiling es = feed_by (full_step R room ceiling) (fresh_run R) es
