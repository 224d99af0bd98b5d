-- A rule that the check gave is the accepted file's.
use Rattle.std.proofs.Common.{refl}
use Rattle.std.proofs.lemmas.Result.{err_from_is_err_and}
use Rattle.meaning.proofs.laws.Handed.{was-given, was-refused}
use Rattle.rule.proofs.Said.{ruled-by}
use Rattle.rule.proofs.checked.CheckedRule.of_file.Goals as goal

pub returns-in_err-rule-clause-refuses : goal.returns-in_err-rule-clause-refuses
returns-in_err-rule-clause-refuses c =
    let p = err_from_is_err_and c.from_residual.result c.from_residual.ensures.1 in rw (p.1, p.2) (was-refused _ c.in_err-rule.ensures)

pub invariant_of-result : goal.invariant_of-result
invariant_of-result c = record { accepted = ruled-by c.args.file.now c.in_ok-rule.rule c.in_ok-rule.ensures }

pub returns-clause-accepts : goal.returns-clause-accepts
returns-clause-accepts c = (refl, was-given c.in_ok-rule.ensures)
