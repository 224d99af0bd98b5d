-- The parts of the line, one after the other.
use Rattle.meaning.specs.CheckProgram.{line_end, line_bytes}
use Rattle.program.specs.Texts.{line_of, judged_line}
use Rattle.program.proofs.Laying.{lays-then}
use Rattle.program.proofs.text.Text.judgement.Goals as goal

pub returns : goal.returns
unfolding line_end line_bytes line_of judged_line
returns c =
    lays-then c.verdict.ensures
    (lays-then (rw c.from.ensures at c.spaced.ensures)
    (lays-then (rw c.from-2.ensures at c.spaced-2.ensures) (lays-then (rw c.from-3.ensures at c.spaced-3.ensures) c.put.ensures)))
