use Rattle.std.proofs.Common.{get_or, bit_and, arith, rules}
use Rattle.meaning.specs.Answers.{◌=?◌}
use Rattle.book.proofs.BookWords.{hold-is-word}
use Rattle.book.proofs.reach.Reach.hold.Goals as goal

pub returns : goal.returns
returns c =
    let reach = c.args.self.now in
    let change = c.changes-change in
    hold-is-word reach.ends.rule.accepted reach.sets reach.reached c.states_with.result (omega arith) c.args.upper change.result change.ensures
    (c.states_with.ensures (λ p. bit_and (get_or reach.sets p 0) change.result =? 0) (λ state answer h e. search rules))
