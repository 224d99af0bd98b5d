-- What feeding refused, or what finish answers.
use Rattle.std.proofs.Common.{◌∙◌, refl}
use Rattle.std.proofs.lemmas.Result.{err_from_is_err_and}
use Rattle.meaning.specs.Answers.{◌giving◌}
use Rattle.meaning.specs.Calls.{end_says, refusal_says, says, finish_fed}
use Rattle.program.specs.Passes.{pass_says}
use Rattle.program.proofs.passes.Pass.end_of.Goals as goal

pub returns : goal.returns
unfolding says finish_fed pass_says ◌giving◌
returns c = c.finish.ensures ∙ rw c.in_ok-self.was

pub returns-in_err-self : goal.returns-in_err-self
unfolding end_says refusal_says says finish_fed pass_says ◌giving◌
returns-in_err-self c =
    let p = err_from_is_err_and c.from_residual.result c.from_residual.ensures.1 in
    rw (p.1, p.2, c.in_err-self.was) refl
