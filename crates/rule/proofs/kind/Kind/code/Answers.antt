-- The cases stand in the order of their numbers.
use mathlib.Core.Path.{◌≡◌, refl}
use denote.Enum.Declared.{tag_of}
use Rattle.std.specs.Prelude.{◌+◌}
use Rattle.rule.specs.Checks.{kind_code}
use Rattle.rule.specs.contracts.kind.Kind.{the_type}
use Rattle.rule.specs.declared.kind.Kind.{Kind}
use Rattle.rule.specs.declared.kind.Kind.TheVariants as kind
use Rattle.rule.proofs.kind.Kind.code.Goals as goal

in-order : (k : Kind) → tag_of the_type k + 1 ≡ kind_code k
unfolding kind_code
in-order kind.Numbers = refl
in-order kind.LetterMoves = refl
in-order kind.TreeMoves = refl
in-order kind.Classes = refl
in-order kind.Events = refl

pub returns : goal.returns
returns c = in-order c.args.self
