-- Up to here every number was in range, so the check goes on with what is left.
use Rattle.std.proofs.Common.{◌≡◌, ◌+◌, drop}
use Rattle.meaning.specs.RuleFile.{table_check}
use Rattle.rule.specs.Checks.{in_range}
use Rattle.rule.proofs.check.table_check.Given as goal

abbrev pub invariant-loop-i : goal.invariant-loop-i
invariant-loop-i l =
    table_check (in_range l.good.below l.good.none) l.place l.body
    ≡ table_check (in_range l.good.below l.good.none) (l.place + l.i) (drop l.i l.body)
