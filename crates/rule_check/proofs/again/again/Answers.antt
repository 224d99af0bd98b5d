-- One more step failed.
use Rattle.std.proofs.Common.{of_calls, ◌++◌, ◌∷◌, []}
use Rattle.std.proofs.lemmas.Fn.{FoldsTo-push}
use Rattle.rule_check.proofs.again.again.Goals as goal

pub loop-preserved : goal.loop-preserved
loop-preserved g c =
    record {
      callable = search of_calls;
      errors = c.loop.invariant.errors ++ (c.in-Err.error ∷ []);
      failed = FoldsTo-push _ _ _ _ _ _ c.loop.invariant.failed c.in-Err.ensures;
    }
