-- The name, and then what the reading came to.
use Rattle.meaning.specs.Answers.{◌giving◌}
use Rattle.meaning.specs.Calls.{end_says, refusal_says}
use Rattle.meaning.specs.CheckProgram.{line_bytes}
use Rattle.program.specs.Texts.{line_of, judged_line, line_says}
use Rattle.program.proofs.Laying.{lays-then}
use Rattle.program.proofs.text.Text.line.Goals as goal

pub returns-in-Ok : goal.returns-in-Ok
unfolding end_says line_bytes line_of judged_line line_says ◌giving◌
returns-in-Ok c = rw c.in-Ok.is (lays-then c.word.ensures c.judgement.ensures)

pub returns-in-Err : goal.returns-in-Err
unfolding end_says refusal_says line_bytes line_of line_says ◌giving◌
returns-in-Err c = rw c.in-Err.is (lays-then c.word.ensures c.refusal.ensures)
