use Rattle.std.proofs.Common.{rules}
use Rattle.meaning.specs.RuleFile.{rule_of}
use Rattle.book.specs.Sets.{StandsFor, StatesOf}
use Rattle.book.proofs.Walked.{trees-joined, tree-goes, tree_has}
use Rattle.book.proofs.moves.by_trees.Goals as goal

pub returns : goal.returns
unfolding StatesOf StandsFor
returns c =
    trees-joined c.args.rule.accepted c.args.upper c.args.lowers c.union_of.result c.requires.lowers_are_states
    (c.union_of.ensures (tree_has (rule_of c.args.rule.file.now) c.args.upper) (λ member own m e.
    let state = c.requires.lowers_are_states member m in
    search (rules, tree-goes c.args.rule.accepted c.args.upper member own)))
