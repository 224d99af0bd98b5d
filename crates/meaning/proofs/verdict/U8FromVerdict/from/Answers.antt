-- The cases stand in the order of their classes.
use mathlib.Core.Path.{◌≡◌, refl}
use denote.Enum.Declared.{tag_of}
use Rattle.meaning.specs.Calls.{verdict_says}
use Rattle.meaning.specs.contracts.verdict.Verdict.{the_type}
use Rattle.meaning.specs.declared.verdict.Verdict.{Verdict}
use Rattle.meaning.specs.declared.verdict.Verdict.TheVariants as verdict
use Rattle.meaning.proofs.verdict.U8FromVerdict.from.Goals as goal

in-order : (v : Verdict) → tag_of the_type v ≡ verdict_says v
unfolding verdict_says
in-order verdict.OffSchema = refl
in-order verdict.Reject = refl
in-order verdict.Accept = refl

pub returns : goal.returns
returns c = in-order c.args.verdict
