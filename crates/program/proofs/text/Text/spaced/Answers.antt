use Rattle.meaning.specs.CheckProgram.{spaced}
use Rattle.program.proofs.Laying.{lays-then}
use Rattle.program.proofs.text.Text.spaced.Goals as goal

pub returns : goal.returns
unfolding spaced
returns c = lays-then c.put.ensures c.number.ensures
