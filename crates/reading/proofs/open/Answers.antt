-- What was opened is what opening answers, and what was refused it refuses.
use Rattle.std.proofs.Common.{sym, ◌∙◌}
use Rattle.meaning.specs.Calls.{says}
use Rattle.meaning.proofs.laws.Handed.{handed_on}
use Rattle.reading.proofs.open.Goals as goal

pub returns-in_err-opened-clause-answer : goal.returns-in_err-opened-clause-answer
returns-in_err-opened-clause-answer c = handed_on _ _ c.from_residual.ensures.1 ∙ sym c.in_err-opened.ensures.refuses

pub returns-clause-answer : goal.returns-clause-answer
unfolding says
returns-clause-answer c = sym c.in_ok-opened.ensures.opens.1
