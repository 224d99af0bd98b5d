-- What the rule check answers for a file, and what an accepted file has.
use Rattle.std.specs.Prelude.{ℕ, ◌≡◌, List}
use Rattle.meaning.specs.Answers.{Answer, given, ◌giving◌}
use Rattle.meaning.specs.RuleFile as format
use Rattle.meaning.specs.RuleFile.{check_rule, rule_of}
use Rattle.rule.specs.declared.Rule.{Rule}

-- the four numbers of a rule
unfoldable pub numbers_of : format.Rule → Rule
numbers_of R = record { states = R.states; initial = R.initial; tree_start = R.tree_start; letters = R.letters }

-- what the rule check answers for a file: its rule's numbers, or the refusal
unfoldable pub check_answer : List ℕ → Answer Rule
check_answer file = check_rule file giving λ R. given (numbers_of R)

-- the bytes are an accepted rule file, and these are its rule's numbers
pub record RuleOf (file : List ℕ) (rule : Rule) : Type 0 where
  pub accepted : check_rule file ≡ given (rule_of file)
  pub numbers : numbers_of (rule_of file) ≡ rule
