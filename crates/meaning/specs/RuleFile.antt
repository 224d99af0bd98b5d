-- The rule file (document 01, "Rule file"): four records in a fixed order, nothing after. A record is a length of four
-- bytes, a kind of two bytes, both little-endian, and then the body. A byte is a number below 256, and a file is a list of bytes.
use Rattle.std.specs.Prelude.{ℕ, suc, ◌+◌, ◌*◌, ◌/◌, ◌%◌, ◌<◌, ◌≡◌, Bool, true, not, ◌&&◌, ◌||◌, List, [], ◌∷◌, ◌++◌, length, get_or, take, drop, if◌then◌else◌}
use Rattle.meaning.specs.Answers.{Answer, given, refuse◌at◌when◌otherwise◌, ◌and_then◌, ◌≤?◌, ◌<?◌, ◌=?◌}

-- ---- the numbers of the format, named here once

-- the most states a rule has
abbrev pub most_states : ℕ
most_states = 64

-- the most letters a rule has
abbrev pub most_letters : ℕ
most_letters = 256

-- a move or a tree start that is not there
abbrev pub none : ℕ
none = 255

-- the classes are 0 off-schema, 1 reject, 2 accept
abbrev pub class_count : ℕ
class_count = 3

-- the bytes of a record before its body
abbrev pub header_length : ℕ
header_length = 6

-- the bytes of the body of kind 1
abbrev pub numbers_length : ℕ
numbers_length = 5

-- ---- numbers in little-endian bytes

unfoldable pub bytes2 : ℕ → List ℕ
bytes2 x = x % 256 ∷ x / 256 % 256 ∷ []

unfoldable pub bytes4 : ℕ → List ℕ
bytes4 x = x % 256 ∷ x / 256 % 256 ∷ x / 65536 % 256 ∷ x / 16777216 % 256 ∷ []

-- the byte at a place of a file
abbrev pub byte_at : List ℕ → ℕ → ℕ
byte_at file place = get_or file place 0

-- the number that two bytes, or four, stand for
unfoldable pub number2 : List ℕ → ℕ → ℕ
number2 file place = byte_at file place + 256 * byte_at file (place + 1)

unfoldable pub number4 : List ℕ → ℕ → ℕ
number4 file place =
    byte_at file place + 256 * byte_at file (place + 1) + 65536 * byte_at file (place + 2) + 16777216 * byte_at file (place + 3)

-- so many bytes of a file from a place on
unfoldable pub part : List ℕ → ℕ → ℕ → List ℕ
part file place size = take size (drop place file)

-- ---- a rule

-- n, the initial state, the tree start and k; the letter moves, a row for each state; the tree moves, a row for each upper
-- state and a column for each lower state; and the classes
pub record Rule : Type 0 where
  pub states : ℕ
  pub initial : ℕ
  pub tree_start : ℕ
  pub letters : ℕ
  pub letter_moves : List ℕ
  pub tree_moves : List ℕ
  pub classes : List ℕ

-- a move is to a state, or there is none
pub data Move : Type 0 where
  no_move : Move
  to : ℕ → Move

unfoldable pub as_move : ℕ → Move
as_move x = if x =? none then no_move else (to x)

unfoldable pub letter_move : Rule → ℕ → ℕ → Move
letter_move R state letter = as_move (get_or R.letter_moves (state * R.letters + letter) none)

unfoldable pub tree_move : Rule → ℕ → ℕ → Move
tree_move R upper lower = as_move (get_or R.tree_moves (upper * R.states + lower) none)

unfoldable pub tree_start_move : Rule → Move
tree_start_move R = as_move R.tree_start

unfoldable pub class_of : Rule → ℕ → ℕ
class_of R state = get_or R.classes state 0

-- ---- what is in range

-- n is 1 to 64, and k is 1 to 256
unfoldable pub is_states : ℕ → Bool
is_states n = 1 ≤? n && n ≤? most_states

unfoldable pub is_letters : ℕ → Bool
is_letters k = 1 ≤? k && k ≤? most_letters

-- a state is 0 to n-1
unfoldable pub is_state : ℕ → ℕ → Bool
is_state n x = x <? n

-- a move or the tree start is a state or none
unfoldable pub is_move : ℕ → ℕ → Bool
is_move n x = is_state n x || x =? none

-- a class is 0, 1 or 2
unfoldable pub is_class : ℕ → Bool
is_class x = x <? class_count

-- What a rule is: each number and each entry of the tables is in range, and the tables have their lengths.
pub record IsRule (R : Rule) : Type 0 where
  pub states_in : is_states R.states ≡ true
  pub initial_in : is_state R.states R.initial ≡ true
  pub tree_start_in : is_move R.states R.tree_start ≡ true
  pub letters_in : is_letters R.letters ≡ true
  pub letter_length : length R.letter_moves ≡ R.states * R.letters
  pub tree_length : length R.tree_moves ≡ R.states * R.states
  pub class_length : length R.classes ≡ R.states
  pub letter_in : (i : ℕ) → i < R.states * R.letters → is_move R.states (get_or R.letter_moves i 0) ≡ true
  pub tree_in : (i : ℕ) → i < R.states * R.states → is_move R.states (get_or R.tree_moves i 0) ≡ true
  pub class_in : (i : ℕ) → i < R.states → is_class (get_or R.classes i 0) ≡ true

-- ---- where the records stand, and how long the file is

unfoldable pub letter_record : ℕ
letter_record = header_length + numbers_length

unfoldable pub tree_record : ℕ → ℕ → ℕ
tree_record n k = letter_record + header_length + n * k

unfoldable pub class_record : ℕ → ℕ → ℕ
class_record n k = tree_record n k + header_length + n * n

unfoldable pub file_length : ℕ → ℕ → ℕ
file_length n k = class_record n k + header_length + n

-- ---- the bytes of a rule

unfoldable pub record_bytes : ℕ → List ℕ → List ℕ
record_bytes kind body = bytes4 (length body) ++ (bytes2 kind ++ body)

unfoldable pub numbers_body : Rule → List ℕ
numbers_body R = R.states ∷ R.initial ∷ R.tree_start ∷ bytes2 R.letters

unfoldable pub rule_bytes : Rule → List ℕ
rule_bytes R =
    record_bytes 1 (numbers_body R) ++ (record_bytes 2 R.letter_moves ++ (record_bytes 3 R.tree_moves ++ record_bytes 4 R.classes))

-- ---- the rule of some bytes

unfoldable pub rule_of : List ℕ → Rule
rule_of file =
    let n : ℕ = byte_at file header_length in
    let k : ℕ = number2 file (header_length + 3) in
    record {
      states = n;
      initial = byte_at file (header_length + 1);
      tree_start = byte_at file (header_length + 2);
      letters = k;
      letter_moves = part file (letter_record + header_length) (n * k);
      tree_moves = part file (tree_record n k + header_length) (n * n);
      classes = part file (class_record n k + header_length) n;
    }

-- ---- the checks that reader and writer share

-- the four numbers, in file order; each place is the number's first byte
unfoldable pub numbers_check : Rule → Answer Unit
numbers_check R =
    refuse 4 at header_length when not (is_states R.states) otherwise
    refuse 4 at header_length + 1 when not (is_state R.states R.initial) otherwise
    refuse 4 at header_length + 2 when not (is_move R.states R.tree_start) otherwise
    refuse 4 at header_length + 3 when not (is_letters R.letters) otherwise
    given tt

-- the numbers of a table that stands at a place, the first bad one first
unfoldable pub table_check : (ℕ → Bool) → ℕ → List ℕ → Answer Unit
table_check good place [] = given tt
table_check good place (x ∷ xs) =
    refuse 4 at place when not (good x) otherwise
    table_check good (suc place) xs

-- ---- the rule check

-- one record that stands at a place, of a kind and with a body of so many bytes: fewer than six bytes left, the kind, the
-- length, and a body cut short
unfoldable pub record_check : List ℕ → ℕ → ℕ → ℕ → Answer Unit
record_check file place kind size =
    refuse 1 at length file when length file <? place + header_length otherwise
    refuse 2 at place + 4 when not (number2 file (place + 4) =? kind) otherwise
    refuse 3 at place when not (number4 file place =? size) otherwise
    refuse 1 at length file when length file <? place + header_length + size otherwise
    given tt

-- the four records in order, and nothing after
unfoldable pub check_rule : List ℕ → Answer Rule
check_rule file =
    let R : Rule = rule_of file in
    let n : ℕ = R.states in
    let k : ℕ = R.letters in
    record_check file 0 1 numbers_length and_then
    numbers_check R and_then
    record_check file letter_record 2 (n * k) and_then
    table_check (is_move n) (letter_record + header_length) R.letter_moves and_then
    record_check file (tree_record n k) 3 (n * n) and_then
    table_check (is_move n) (tree_record n k + header_length) R.tree_moves and_then
    record_check file (class_record n k) 4 n and_then
    table_check is_class (class_record n k + header_length) R.classes and_then
    refuse 5 at file_length n k when file_length n k <? length file otherwise
    given R

-- ---- the writer

-- the numbers, the lengths of the tables, the bytes of the tables, and the room; every place but the last is one in the
-- file to be, and the last is the count of bytes needed
unfoldable pub write_check : Rule → ℕ → Answer ℕ
write_check R room =
    let n : ℕ = R.states in
    let k : ℕ = R.letters in
    numbers_check R and_then
    refuse 3 at letter_record when not (length R.letter_moves =? n * k) otherwise
    refuse 3 at tree_record n k when not (length R.tree_moves =? n * n) otherwise
    refuse 3 at class_record n k when not (length R.classes =? n) otherwise
    table_check (is_move n) (letter_record + header_length) R.letter_moves and_then
    table_check (is_move n) (tree_record n k + header_length) R.tree_moves and_then
    table_check is_class (class_record n k + header_length) R.classes and_then
    refuse 14 at file_length n k when room <? file_length n k otherwise
    given (file_length n k)

-- what the output holds after the writer gave that answer: the rule's bytes, and the bytes past them as they were
unfoldable pub output_after : Answer ℕ → Rule → List ℕ → List ℕ
output_after (given count) R out = rule_bytes R ++ drop count out
output_after (Answer.refused number place) R out = out
