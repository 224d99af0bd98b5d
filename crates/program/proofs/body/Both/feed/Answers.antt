-- The events decoded are those of the block, and both readings take them.
use Rattle.std.proofs.Common.{take, replicate, refl, ◌∙◌, ap}
use Rattle.program.specs.Passes.{pass_says, fed_on}
use Rattle.program.specs.Bodies.{zero_book}
use Rattle.program.proofs.Blocks.{decoded-front}
use Rattle.program.proofs.body.Both.feed.Goals as goal

pub returns-clause-skip_fed : goal.returns-clause-skip_fed
returns-clause-skip_fed c =
    let a = c.args in
    let d = c.decode-count in
    λ short.
    c.go_on.ensures
    ∙ ap (fed_on a.document.file.now a.document.book.now (pass_says a.self.now.skip))
    (ap (take d.result) d.ensures.events ∙ decoded-front a.block.now (replicate 32768 0) d.result short refl d.ensures.count)

pub returns-clause-full_fed : goal.returns-clause-full_fed
returns-clause-full_fed c =
    let a = c.args in
    let d = c.decode-count in
    λ short.
    c.go_on-2.ensures
    ∙ (ap (λ b. fed_on a.document.file.now b (pass_says a.self.now.full) (take d.result d.new.events)) c.zeros.ensures.zeros
    ∙ ap (fed_on a.document.file.now zero_book (pass_says a.self.now.full))
    (ap (take d.result) d.ensures.events ∙ decoded-front a.block.now (replicate 32768 0) d.result short refl d.ensures.count))
