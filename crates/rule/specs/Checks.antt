-- What the single checks of a rule answer: one test for every number that stands in a table, and the rule of the writer's
-- arguments.
use Rattle.std.specs.Prelude.{ℕ, ◌+◌, ◌*◌, Bool, true, false, not, List, [], length}
use Rattle.meaning.specs.Answers.{refuse◌at◌when◌otherwise◌, Answer, given, ◌and_then◌, ◌<?◌, ◌=?◌}
use Rattle.meaning.specs.RuleFile as format
use Rattle.meaning.specs.RuleFile.{is_state, is_move, numbers_check, record_check, table_check, part, header_length, letter_record, tree_record, class_record, file_length, class_count}
use Rattle.rule.specs.declared.Rule.{Rule}
use Rattle.rule.specs.declared.writer.Parts.{Parts}
use Rattle.rule.specs.declared.kind.Kind.{Kind}
use Rattle.rule.specs.declared.kind.Kind.TheVariants as kind
use Rattle.rule.specs.Says.{numbers_of}

-- the number in the kind field of a record
unfoldable pub kind_code : Kind → ℕ
kind_code kind.Numbers = 1
kind_code kind.LetterMoves = 2
kind_code kind.TreeMoves = 3
kind_code kind.Classes = 4
kind_code kind.Events = 5

-- a number below a bound, or none where that is allowed
unfoldable pub in_range : ℕ → Bool → ℕ → Bool
in_range below true x = is_move below x
in_range below false x = is_state below x

-- the rule with these numbers and tables
unfoldable pub rule_from : ℕ → ℕ → ℕ → ℕ → List ℕ → List ℕ → List ℕ → format.Rule
rule_from n initial tree_start k letter_moves tree_moves classes =
    record {
      states = n;
      initial = initial;
      tree_start = tree_start;
      letters = k;
      letter_moves = letter_moves;
      tree_moves = tree_moves;
      classes = classes;
    }

-- the rule with these numbers and no tables
abbrev pub bare_rule : Rule → format.Rule
bare_rule r = rule_from r.states r.initial r.tree_start r.letters [] [] []

-- the rule that the writer is given
abbrev pub parts_rule : Parts → format.Rule
parts_rule p =
    rule_from p.rule.states p.rule.initial p.rule.tree_start p.rule.letters p.letter_moves.now p.tree_moves.now p.classes.now

-- what the check of the four numbers answers: the numbers, or the refusal
unfoldable pub numbers_answer : ℕ → ℕ → ℕ → ℕ → Answer Rule
numbers_answer n initial tree_start k =
    let R : format.Rule = rule_from n initial tree_start k [] [] [] in
    numbers_check R and_then given (numbers_of R)

-- one record that stands at a place, and then the numbers in its body
unfoldable pub body_check : List ℕ → ℕ → ℕ → ℕ → ℕ → Bool → Answer Unit
body_check file place kind size below none_too =
    record_check file place kind size and_then
    table_check (in_range below none_too) (place + header_length) (part file (place + header_length) size)

-- the second, third and fourth record of a file with n states and k letters, and nothing after
unfoldable pub tables_check : List ℕ → ℕ → ℕ → Answer Unit
tables_check file n k =
    body_check file letter_record 2 (n * k) n true and_then
    body_check file (tree_record n k) 3 (n * n) n true and_then
    body_check file (class_record n k) 4 n class_count false and_then
    refuse 5 at file_length n k when file_length n k <? length file otherwise
    given tt

-- the lengths of the tables that the writer is given, and then their bytes
unfoldable pub given_check : format.Rule → Answer Unit
given_check R =
    let n : ℕ = R.states in
    let k : ℕ = R.letters in
    refuse 3 at letter_record when not (length R.letter_moves =? n * k) otherwise
    refuse 3 at tree_record n k when not (length R.tree_moves =? n * n) otherwise
    refuse 3 at class_record n k when not (length R.classes =? n) otherwise
    table_check (in_range n true) (letter_record + header_length) R.letter_moves and_then
    table_check (in_range n true) (tree_record n k + header_length) R.tree_moves and_then
    table_check (in_range class_count false) (class_record n k + header_length) R.classes
