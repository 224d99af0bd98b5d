-- A header and its body, laid through what is left of the output, are the record laid down.
use Rattle.std.proofs.Common.{arith}
use Rattle.rule.specs.Checks.{kind_code}
use Rattle.rule.proofs.Laying.{laid-record}
use Rattle.rule.proofs.writer.record.Goals as goal

pub returns : goal.returns
returns c =
    let a = c.args in
    laid-record a.place (kind_code a.kind) a.body.now a.output.now c.header.ensures c.copy_body.ensures (omega arith)
