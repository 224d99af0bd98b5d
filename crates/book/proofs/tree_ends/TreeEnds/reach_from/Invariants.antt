-- The word is that of so many rounds.
use Rattle.std.proofs.Common.{◌≡◌}
use Rattle.meaning.specs.RuleFile.{rule_of}
use Rattle.book.specs.Sets.{reached_word}
use Rattle.book.proofs.tree_ends.TreeEnds.reach_from.Given as goal

abbrev pub invariant-loop-round : goal.invariant-loop-round
invariant-loop-round l = l.set ≡ reached_word (rule_of l.self.rule.file.now) l._round l.state
