-- The table has its set for each state so far.
use Rattle.std.proofs.Common.{◌≡◌, ℕ, ◌<◌, length, get_or}
use Rattle.book.proofs.sets.table_of.Given as goal

abbrev pub invariant-loop-state : goal.invariant-loop-state
invariant-loop-state g l =
    record {
      long : length l.table ≡ 64;
      each : (state : ℕ) → state < l.state → goal.F-post g l.set_of state (get_or l.table state 0);
    }
