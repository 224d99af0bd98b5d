use Rattle.std.proofs.Common.{get_or, rules, arith}
use Rattle.meaning.specs.RuleFile.{rule_of}
use Rattle.book.specs.Sets.{StandsFor, by_letters, Moves}
use Rattle.rule.proofs.Said.{few-states, states-are}
use Rattle.book.proofs.EndSet.{letters-alone}
use Rattle.book.proofs.moves.letter_moves.Goals as goal

pub table_of-requires-clause-few_states : goal.table_of-requires-clause-few_states
table_of-requires-clause-few_states c = few-states c.args.rule.accepted

pub returns : goal.returns
unfolding Moves
returns c q h =
    let each = c.table_of.ensures.each q (omega (arith, states-are c.args.rule.accepted)) in
    let own : StandsFor (get_or c.table_of.result q 0) (by_letters (rule_of c.args.rule.file.now) q) = search rules in
    letters-alone _ _ _ own
