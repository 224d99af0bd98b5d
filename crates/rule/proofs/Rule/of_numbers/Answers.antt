-- The numbers, or the refusal of their check.
use Rattle.std.proofs.Common.{sym, ◌∙◌}
use Rattle.meaning.specs.Calls.{says}
use Rattle.meaning.proofs.laws.Handed.{handed_on, and_then-ok, and_then-err}
use Rattle.rule.specs.Says.{numbers_of}
use Rattle.rule.specs.Checks.{rule_from, numbers_answer}
use Rattle.rule.proofs.Rule.of_numbers.Goals as goal

pub returns-in_err-numbers_check : goal.returns-in_err-numbers_check
unfolding numbers_answer rule_from
returns-in_err-numbers_check c =
    handed_on _ _ c.from_residual.ensures.1 ∙ sym (and_then-err _ _ c.in_err-numbers_check.ensures)

pub returns : goal.returns
unfolding says numbers_answer numbers_of rule_from
returns c = sym (and_then-ok _ c.in_ok-numbers_check.ensures)
