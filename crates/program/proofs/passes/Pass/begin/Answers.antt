-- No event, from the first reading over levels that hold nothing.
use Rattle.std.proofs.Common.{[], refl, ◌∙◌, ap}
use Rattle.meaning.specs.Calls.{feed_call, says, largest_ceiling}
use Rattle.program.specs.Passes.{pass_says}
use Rattle.program.proofs.Feeds.{on-given}
use Rattle.program.proofs.passes.Pass.begin.Goals as goal

pub returns : goal.returns
unfolding pass_says says
returns c =
    let a = c.args in
    c.go_on.ensures
    ∙ (on-given a.file.now a.book.now _ [] refl
    ∙ ap (λ l. feed_call a.file.now a.book.now largest_ceiling a.first l []) c.no_levels.ensures)
