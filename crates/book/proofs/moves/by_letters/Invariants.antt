-- The word stands for the states that the letters walked so far lead to.
use Rattle.meaning.specs.RuleFile.{letter_move, rule_of}
use Rattle.book.proofs.Walked.{Walked}
use Rattle.book.proofs.moves.by_letters.Given as goal

abbrev pub invariant-loop-letter : goal.invariant-loop-letter
invariant-loop-letter l = Walked (letter_move (rule_of l.rule.file.now) l.state) l.letter l.set
