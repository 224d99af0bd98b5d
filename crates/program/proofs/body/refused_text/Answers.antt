-- The line of a refusal, and where the front is refused, all that is printed.
use Rattle.std.proofs.Common.{◌∙◌, arith}
use Rattle.meaning.specs.Answers.{refused}
use Rattle.meaning.specs.Calls.{refusal_says}
use Rattle.meaning.specs.CheckProgram.{rule_word, line_bytes}
use Rattle.program.proofs.Laying.{lays-then, lays-whole}
use Rattle.program.proofs.Rooms.{line-few}
use Rattle.program.proofs.Prints.{front-refused}
use Rattle.program.proofs.body.refused_text.Goals as goal

pub returns-clause-says_line : goal.returns-clause-says_line
unfolding rule_word line_bytes
returns-clause-says_line c =
    let r = c.args.r in
    lays-whole c.empty-text.ensures (lays-then c.word.ensures c.refusal.ensures)
    (omega (arith, line-few rule_word (refused r.number r.place)))

pub returns-clause-says_printed : goal.returns-clause-says_printed
unfolding refusal_says
returns-clause-says_printed c = λ input e. returns-clause-says_line c ∙ front-refused input e
