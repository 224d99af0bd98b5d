-- The cases stand in the order of their numbers.
use mathlib.Core.Path.{◌≡◌, refl}
use denote.Enum.Declared.{tag_of}
use Rattle.std.specs.Prelude.{◌+◌}
use Rattle.meaning.specs.Calls.{number_of}
use Rattle.meaning.specs.contracts.reason.Reason.{the_type}
use Rattle.meaning.specs.declared.reason.Reason.{Reason}
use Rattle.meaning.specs.declared.reason.Reason.TheVariants as reason
use Rattle.meaning.proofs.reason.Reason.number.Goals as goal

in-order : (r : Reason) → tag_of the_type r + 1 ≡ number_of r
unfolding number_of
in-order reason.CutShort = refl
in-order reason.WrongKind = refl
in-order reason.WrongLength = refl
in-order reason.OutOfRange = refl
in-order reason.BytesAfter = refl
in-order reason.BookTooShort = refl
in-order reason.CloseAtTop = refl
in-order reason.StoreFull = refl
in-order reason.AtCeiling = refl
in-order reason.UnknownEvent = refl
in-order reason.NoLetterMove = refl
in-order reason.LeftOpen = refl
in-order reason.NotAReading = refl
in-order reason.OutputTooShort = refl
in-order reason.RoundsUsedUp = refl
in-order reason.EventLimit = refl
in-order reason.NoTreeStart = refl
in-order reason.NoTreeMove = refl

pub returns : goal.returns
returns c = in-order c.args.self
