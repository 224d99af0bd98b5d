-- A state below 64 is the one member, and any other byte leads to no state below 64.
use Rattle.std.proofs.Common.{◌^◌, ap, ◌∙◌, arith}
use Rattle.book.proofs.Walked.{target-some, target_none}
use Rattle.book.proofs.moves.target.Goals as goal

pub returns-then-state-lt-MOST_STATES : goal.returns-then-state-lt-MOST_STATES
returns-then-state-lt-MOST_STATES c = target-some _ c.only.result (c.only.ensures ∙ ap (2 ^◌) c.unwrap_or-state.ensures)

pub returns-else-state-lt-MOST_STATES : goal.returns-else-state-lt-MOST_STATES
returns-else-state-lt-MOST_STATES c = target_none _ (omega (arith, c.unwrap_or-state.ensures))
