use Rattle.std.proofs.Common.{◌≤◌, arith, rules}
use Rattle.std.proofs.iter.Serving.{serving}
use Rattle.book.specs.Sets.{StandsFor, WithTrees}
use Rattle.book.proofs.Standing.{stands-or, stands-itself}
use Rattle.rule.proofs.Said.{few-states, states-are}
use Rattle.book.proofs.moves.with_trees.Goals as goal

pub table_of-requires-clause-few_states : goal.table_of-requires-clause-few_states
table_of-requires-clause-few_states c = few-states c.args.rule.accepted

pub table_of-requires-clause-callable : goal.table_of-requires-clause-callable
table_of-requires-clause-callable c =
    let few : c.args.rule.rule.states ≤ 64 = few-states c.args.rule.accepted in grind serving

pub returns : goal.returns
unfolding WithTrees StandsFor
returns c q h =
    let each = c.table_of.ensures.each q (omega (arith, states-are c.args.rule.accepted)) in search (rules, stands-or, stands-itself)
