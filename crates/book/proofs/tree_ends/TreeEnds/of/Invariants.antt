-- The word is that of so many rounds, and the table is the one for it as lower states.
use Rattle.meaning.specs.RuleFile.{rule_of}
use Rattle.book.specs.Sets.{EndsFound}
use Rattle.book.proofs.tree_ends.TreeEnds.of.Given as goal

abbrev pub invariant-loop-round : goal.invariant-loop-round
invariant-loop-round l = EndsFound (rule_of l.rule.file.now) l._round l.set l.moves
