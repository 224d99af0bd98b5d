-- The parts of the line, one after the other.
use Rattle.meaning.specs.CheckProgram.{refused_word, line_end, line_bytes}
use Rattle.program.proofs.Laying.{lays-then}
use Rattle.program.proofs.text.Text.refusal.Goals as goal

pub returns : goal.returns
unfolding refused_word line_end line_bytes
returns c = lays-then c.word.ensures (lays-then c.spaced.ensures (lays-then c.spaced-2.ensures c.put.ensures))
