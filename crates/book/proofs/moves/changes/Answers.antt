use Rattle.std.proofs.Common.{not, rules}
use Rattle.meaning.specs.RuleFile.{tree_move, rule_of}
use Rattle.meaning.specs.SkipBook.{none_or}
use Rattle.rule.proofs.Said.{few-states}
use Rattle.book.proofs.Walked.{tree_is, changes-gathered}
use Rattle.book.proofs.moves.changes.Goals as goal

pub states_with-requires-clause-few_states : goal.states_with-requires-clause-few_states
states_with-requires-clause-few_states c = few-states c.args.rule.accepted

pub returns : goal.returns
returns c =
    let u = c.args.upper in
    changes-gathered c.args.rule.accepted u c.states_with.result
    (c.states_with.ensures (λ p. not (none_or u (tree_move (rule_of c.args.rule.file.now) u p)))
    (λ lower answer h e. search (rules, tree_is c.args.rule.accepted u lower)))
