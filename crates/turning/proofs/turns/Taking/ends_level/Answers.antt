-- A held level ends without a look, and any other as in full reading.
use Rattle.std.proofs.Common.{sym, ◌∙◌}
use Rattle.meaning.specs.Skipping.{passed, ends_level}
use Rattle.meaning.proofs.laws.Answered.{if-true, if-false}
use Rattle.turning.specs.Turns.{turn_says, turn_of}
use Rattle.turning.proofs.turns.Taking.ends_level.Goals as goal

pub returns-then-is_held : goal.returns-then-is_held
unfolding turn_says turn_of ends_level passed
returns-then-is_held c =
    λ book stands. rw (c.taken.ensures, c.saturating_sub-depth.ensures) (sym (if-true _ _ (sym stands.held_is ∙ sym c.is_held.ensures ∙ c.if-is_held.true)))

pub returns : goal.returns
unfolding ends_level
returns c = λ book stands. c.full_close.ensures ∙ sym (if-false _ _ (sym stands.held_is ∙ sym c.is_held.ensures ∙ c.if-is_held.false))
