-- The five bytes of the body are the definition's.
use Rattle.std.proofs.Common.{◌∙◌}
use Rattle.meaning.specs.RuleFile.{numbers_body, bytes2}
use Rattle.rule.specs.Checks.{rule_from, kind_code}
use Rattle.rule.proofs.writer.numbers.Goals as goal

pub returns : goal.returns
unfolding numbers_body rule_from bytes2 kind_code
returns c = c.record.ensures ∙ rw c.to_le_bytes.ensures
