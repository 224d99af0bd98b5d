-- At the end the whole body is copied.
use Rattle.std.proofs.Common.{◌≡◌, ap, ◌∙◌, length, arith}
use Rattle.std.proofs.Math.Seq.{paste}
use Rattle.rule.proofs.Laying.{laid-copied}
use Rattle.rule.proofs.writer.copy_body.Goals as goal

pub returns : goal.returns
returns c =
    let a = c.args in
    let all : c.loop-i.i ≡ length a.body.now = omega arith in
    c.loop-i.invariant.0 ∙ ap (paste a.output.now 0 a.body.now) all ∙ laid-copied a.body.now a.output.now
