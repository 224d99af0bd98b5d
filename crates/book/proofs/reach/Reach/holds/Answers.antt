use Rattle.std.proofs.Common.{◌≡◌, get_or, arith, rules}
use Rattle.meaning.specs.RuleFile.{rule_of}
use Rattle.meaning.specs.SkipBook.{hold_marks, word_of}
use Rattle.book.specs.Sets.{Holds}
use Rattle.rule.proofs.Said.{states-are}
use Rattle.book.proofs.reach.Reach.holds.Goals as goal

pub returns-clause-holds : goal.returns-clause-holds
unfolding Holds
returns-clause-holds c u h =
    let rule = c.args.self.now.ends.rule in
    let each = c.table_of.ensures.each u (omega (arith, states-are rule.accepted)) in
    let word : get_or c.table_of.result u 0 ≡ word_of (hold_marks (rule_of rule.file.now) u) = search rules in
    word
