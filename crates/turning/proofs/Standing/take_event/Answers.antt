-- Each turn leaves what the definition's step leaves, with its record laid where it says.
use Rattle.std.proofs.Common.{refl, sym, ◌∙◌}
use Rattle.meaning.specs.Answers.{◌giving◌}
use Rattle.meaning.specs.Calls.{stored_after}
use Rattle.turning.specs.Turns.{turn_says, turn_of}
use Rattle.turning.specs.Advancing.{stored}
use Rattle.turning.proofs.Steps.{step_of}
use Rattle.turning.proofs.OneTurn.{takes, refuses}
use Rattle.turning.proofs.Standing.take_event.Goals as goal

pub returns-in-Ok-Stores : goal.returns-in-Ok-Stores
unfolding turn_says turn_of ◌giving◌ stored_after stored
returns-in-Ok-Stores c =
    λ book store stands h top room.
    rw c.on.ensures
    (takes _ h _ c.requires _ _
    (step_of _ _ _ _ _ _ _ (sym room) (sym top) (c.skip_event.ensures book stands) ∙ rw (c.in-Ok-Stores.is, c.in-Ok-Stores.field-0-is)) refl)

pub returns-in-Ok-Stays : goal.returns-in-Ok-Stays
unfolding turn_says turn_of ◌giving◌ stored_after stored
returns-in-Ok-Stays c =
    λ book store stands h top room.
    rw c.storing_none.ensures
    (takes _ h _ c.requires _ _
    (step_of _ _ _ _ _ _ _ (sym room) (sym top) (c.skip_event.ensures book stands) ∙ rw (c.in-Ok-Stays.is, c.in-Ok-Stays.field-0-is)) refl)

pub returns-in-Ok-Ends : goal.returns-in-Ok-Ends
unfolding turn_says turn_of ◌giving◌ stored_after stored
returns-in-Ok-Ends c =
    λ book store stands h top room.
    rw c.storing_none-in-Ok-Ends.ensures
    (takes _ h _ c.requires _ _
    (step_of _ _ _ _ _ _ _ (sym room) (sym top) (c.skip_event.ensures book stands) ∙ rw (c.in-Ok-Ends.is, c.in-Ok-Ends.field-0-is)) refl)

pub returns-in-Err : goal.returns-in-Err
unfolding turn_says ◌giving◌ stored
returns-in-Err c =
    λ book store stands h top room.
    refuses _ h _ c.requires _ _
    (step_of _ _ _ _ _ _ _ (sym room) (sym top) (c.skip_event.ensures book stands) ∙ rw c.in-Err.is) refl
