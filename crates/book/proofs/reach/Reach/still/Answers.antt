use Rattle.std.proofs.Common.{◌^◌, get_or, arith, rules}
use Rattle.meaning.specs.Answers.{◌=?◌}
use Rattle.book.proofs.BookWords.{still-is-word}
use Rattle.book.proofs.reach.Reach.still.Goals as goal

pub returns : goal.returns
returns c =
    let reach = c.args.self.now in
    still-is-word reach.ends.rule.accepted reach.sets reach.reached c.states_with.result (omega arith)
    (c.states_with.ensures (λ q. get_or reach.sets q 0 =? 2 ^ q) (λ state answer h e. search rules))
