-- The kit's digits are the number's.
use Rattle.std.proofs.Common.{◌∙◌, rules}
use Rattle.program.proofs.Laying.{lays-same}
use Rattle.program.proofs.Decimals.{decimal-digits}
use Rattle.program.proofs.text.Text.number.Goals as goal

pub returns : goal.returns
returns c =
    let d = c.decimal-count in
    lays-same (d.ensures.digits ∙ decimal-digits c.args.n d.result (search rules) d.ensures.len) c.word.ensures
