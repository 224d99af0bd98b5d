-- Each step so far failed.
use Rattle.std.proofs.Common.{List, Err}
use Rattle.std.specs.List.{FoldsTo}
use Rattle.std.specs.declared.io.Error.{Error}
use Rattle.rule_check.proofs.again.again.Given as goal

abbrev pub invariant-loop : goal.invariant-loop
invariant-loop g l =
    record {
      callable : goal.F-IsAlwaysCallable g l.step;
      errors : List Error;
      failed : FoldsTo (λ p e q. goal.F-step g p (Err e) q) l.initial.step errors l.step;
    }
