use Rattle.std.proofs.Common.{◌∙◌, ◌++◌}
use Rattle.std.proofs.KnownBytes.{Consumes-trans}
use Rattle.rule_check.proofs.Glue.{went_on, after-err}
use Rattle.rule_check.proofs.blocks.read_body.Goals as goal

pub loop-more-preserved : goal.loop-more-preserved
loop-more-preserved g c =
    let so_far = c.loop-more.invariant in
    let one = rw c.loop-more-test.true at so_far.went in
    record {
      whole = c.one_block-in-loop-more.auto.block ∙ so_far.whole;
      went = went_on _ _ _ _ _ _ _ _ _ one c.in_ok-more-2.ensures.went.went;
    }

pub returns-in_err-more-2-clause-lost : goal.returns-in_err-more-2-clause-lost
returns-in_err-more-2-clause-lost g c =
    let before = c.loop-more.invariant.went in
    let more = c.in_err-more-2.ensures.lost in
    after-err c.from_residual-in_err-more-2.result (before.new ++ more.0, Consumes-trans _ _ _ _ _ before.gave more.1)
