-- Where the entries of the three tables lie in the bytes of a rule file, and the move that a byte stands for, which says in
-- which table there is none. `proofs/Looks.antt` has that they are the moves and the classes of the rule.
use Rattle.std.specs.Prelude.{ℕ, ◌+◌, ◌*◌, List, get_or, if◌then◌else◌, Result, Ok, Err}
use Rattle.meaning.specs.Answers.{◌=?◌}
use Rattle.meaning.specs.RuleFile.{none, header_length, letter_record, tree_record, class_record}
use Rattle.meaning.specs.RuleFile as format
use Rattle.meaning.specs.FullReading as full
use Rattle.meaning.specs.FullReading.{letter_table, start_table, tree_table}
use Rattle.rule.specs.declared.tables.Table.{Table}
use Rattle.rule.specs.declared.tables.Table.TheVariants as table

-- the letter move of a state and a letter: the table's row for the state
unfoldable pub letter_byte : List ℕ → ℕ → ℕ → ℕ → ℕ
letter_byte file k state letter = get_or file (letter_record + header_length + (state * k + letter)) none

-- the tree move: the table's row for the upper state, its column for the lower state
unfoldable pub tree_byte : List ℕ → ℕ → ℕ → ℕ → ℕ → ℕ
tree_byte file n k upper lower = get_or file (tree_record n k + header_length + (upper * n + lower)) none

unfoldable pub class_byte : List ℕ → ℕ → ℕ → ℕ → ℕ
class_byte file n k state = get_or file (class_record n k + header_length + state) none

-- which of the definition's tables a table of the code is
unfoldable pub table_says : Table → full.Table
table_says table.LetterMoves = letter_table
table_says table.TreeStart = start_table
table_says table.TreeMoves = tree_table

-- the move that was found, whichever the table
unfoldable pub move_says : Result ℕ Table → format.Move
move_says (Ok state) = format.to state
move_says (Err table) = format.no_move

-- the move that a byte of a table stands for: none names the table
unfoldable pub move_in : Table → ℕ → Result ℕ Table
move_in table byte = if byte =? none then Err table else Ok byte
