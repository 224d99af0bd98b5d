-- The check program (document 01, the end of "Two small rules"): what its input is, and what its two lines say. The input is the
-- four records of a rule, then one record of kind 5 whose body is the events, two bytes each, little-endian, and nothing after.
use Rattle.std.specs.Prelude.{ℕ, zero, suc, ◌+◌, ◌*◌, ◌/◌, ◌%◌, not, List, [], ◌∷◌, ◌++◌, length, take, replicate, if◌then◌else◌}
use Rattle.meaning.specs.Answers.{Answer, given, refused, refuse◌at◌when◌otherwise◌, ◌giving◌, ◌<?◌, ◌=?◌}
use Rattle.meaning.specs.RuleFile.{Rule, header_length, number2, number4, part, rule_of, check_rule}
use Rattle.meaning.specs.FullReading.{Went, fresh_reading, blank}
use Rattle.meaning.specs.SkipBook.{book_of}
use Rattle.meaning.specs.Calls.{Judged, Stored, feed_call, finish_fed, largest_ceiling}

-- the kind of the record that holds the events
abbrev pub events_kind : ℕ
events_kind = 5

-- two bytes each, little-endian
unfoldable pub events_in : List ℕ → List ℕ
events_in [] = []
events_in (low ∷ []) = []
events_in (low ∷ high ∷ rest) = (low + 256 * high) ∷ events_in rest

-- The header of the record of events that stands at a place: fewer than six bytes left, the kind, and a length that is odd.
-- It gives the bytes of the body.
unfoldable pub events_header : List ℕ → ℕ → Answer ℕ
events_header input place =
    refuse 1 at length input when length input <? place + header_length otherwise
    refuse 2 at place + 4 when not (number2 input (place + 4) =? events_kind) otherwise
    refuse 3 at place when number4 input place % 2 =? 1 otherwise
    given (number4 input place)

-- the body from its place on: cut short, or bytes after it, or its events
unfoldable pub events_body : List ℕ → ℕ → ℕ → Answer (List ℕ)
events_body input place size =
    refuse 1 at length input when length input <? place + size otherwise
    refuse 5 at place + size when place + size <? length input otherwise
    given (events_in (part input place size))

-- The rule check is made on the whole input. Where it refuses by bytes after the fourth record, the record of events starts
-- there; where there are none, that record is missing; and any other refusal is the input's.
unfoldable pub events_place : List ℕ → Answer ℕ
events_place input = place_from (check_rule input)
  where
    place_from : Answer Rule → Answer ℕ
    place_from (given R) = refused 1 (length input)
    place_from (refused number place) = if number =? 5 then given place else refused number place

-- The front of an input, which decides where its events are: the longest rule file, 20,573 bytes, and a header after it.
abbrev pub front_length : ℕ
front_length = 20579

-- where the record of events starts, and how many bytes its body has
pub record EventsAt : Type 0 where
  pub place : ℕ
  pub size : ℕ

unfoldable pub front_check : List ℕ → Answer EventsAt
front_check input =
    events_place input giving λ place.
    events_header input place giving λ size.
    given (record { place = place; size = size })

-- the rule's file and the events of an input, or the refusal of a bad record
pub record Input : Type 0 where
  pub file : List ℕ
  pub events : List ℕ

unfoldable pub input_check : List ℕ → Answer Input
input_check input =
    front_check input giving λ found.
    events_body input (found.place + header_length) found.size giving λ events.
    given (record { file = take found.place input; events = events })

-- ---- the two readings

-- each reading has 1,024 levels
abbrev pub program_levels : ℕ
program_levels = 1024

-- a reading's line: the verdict's class, the end state, the events and the looks, or the refusal
pub record Line : Type 0 where
  pub class : ℕ
  pub state : ℕ
  pub events : ℕ
  pub looks : ℕ

unfoldable pub line_from : Went Stored → Judged → Answer Line
line_from fed j =
    given
    (record {
      class = j.class;
      state = j.state;
      events = fed.last.reading.taken;
      looks = fed.last.reading.looks;
    })

-- what feeding the events comes to, from a fresh reading over levels that hold nothing, under the largest ceiling
unfoldable pub program_fed : List ℕ → List ℕ → List ℕ → Went Stored
program_fed file book events =
    feed_call file book largest_ceiling (fresh_reading (rule_of file)) (replicate program_levels blank) events

-- reading the events of an input with a book
unfoldable pub line_with : Input → List ℕ → Answer Line
line_with input book =
    let fed : Went Stored = program_fed input.file book input.events in
    finish_fed input.file book fed giving line_from fed

-- `skip` is the reading with the rule's own book, `full` the one with a book of zeros, which is full reading
unfoldable pub skip_line : Input → Answer Line
skip_line input = line_with input (book_of (rule_of input.file))

unfoldable pub full_line : Input → Answer Line
full_line input = line_with input (replicate ((rule_of input.file).states + 1) 0)

-- ---- the bytes of the lines, in ASCII

-- the last digits of a number, so many at the most and none in front that is a zero
unfoldable pub digits_in : ℕ → ℕ → List ℕ
digits_in zero n = []
digits_in (suc most) n = (if n / 10 =? 0 then [] else digits_in most (n / 10)) ++ ((0x30 + n % 10) ∷ [])

-- a number below 2^64 in decimal digits, of which it has 20 at the most
unfoldable pub decimal : ℕ → List ℕ
decimal n = digits_in 20 n

-- a space and a number
unfoldable pub spaced : ℕ → List ℕ
spaced n = 0x20 ∷ decimal n

-- the words skip, full and rule
unfoldable pub skip_word : List ℕ
skip_word = 0x73 ∷ 0x6B ∷ 0x69 ∷ 0x70 ∷ []

unfoldable pub full_word : List ℕ
full_word = 0x66 ∷ 0x75 ∷ 0x6C ∷ 0x6C ∷ []

unfoldable pub rule_word : List ℕ
rule_word = 0x72 ∷ 0x75 ∷ 0x6C ∷ 0x65 ∷ []

-- a space and the word refused
unfoldable pub refused_word : List ℕ
refused_word = 0x20 ∷ 0x72 ∷ 0x65 ∷ 0x66 ∷ 0x75 ∷ 0x73 ∷ 0x65 ∷ 0x64 ∷ []

-- a space and the word of a class: off-schema, reject or accept
unfoldable pub class_word : ℕ → List ℕ
class_word zero = 0x20 ∷ 0x6F ∷ 0x66 ∷ 0x66 ∷ 0x2D ∷ 0x73 ∷ 0x63 ∷ 0x68 ∷ 0x65 ∷ 0x6D ∷ 0x61 ∷ []
class_word (suc zero) = 0x20 ∷ 0x72 ∷ 0x65 ∷ 0x6A ∷ 0x65 ∷ 0x63 ∷ 0x74 ∷ []
class_word (suc (suc c)) = 0x20 ∷ 0x61 ∷ 0x63 ∷ 0x63 ∷ 0x65 ∷ 0x70 ∷ 0x74 ∷ []

-- the end of a line
unfoldable pub line_end : List ℕ
line_end = 0x0A ∷ []

-- which reading, verdict, end state, events and looks; or which reading, `refused`, number and place
unfoldable pub line_bytes : List ℕ → Answer Line → List ℕ
line_bytes name (given l) =
    name ++ (class_word l.class ++ (spaced l.state ++ (spaced l.events ++ (spaced l.looks ++ line_end))))
line_bytes name (refused number place) = name ++ (refused_word ++ (spaced number ++ (spaced place ++ line_end)))

-- What the program prints for an input: a line for each reading, or the one line of a bad rule or record.
unfoldable pub printed_for : Answer Input → List ℕ
printed_for (given input) = line_bytes skip_word (skip_line input) ++ line_bytes full_word (full_line input)
printed_for (refused number place) = line_bytes rule_word (refused number place)

unfoldable pub printed : List ℕ → List ℕ
printed input = printed_for (input_check input)
