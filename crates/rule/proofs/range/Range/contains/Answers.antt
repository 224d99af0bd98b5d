-- Below the bound every number is in range, and from the bound on at most none is.
use Rattle.std.proofs.Common.{◌≡◌, sym, ◌∙◌, Bool, true, false, ℕ, ◌≤◌, ◌<◌}
use borrow.Author.Tests.{lt-ltb, le-ltb}
use Rattle.meaning.specs.Answers.{◌=?◌}
use Rattle.meaning.specs.RuleFile.{is_state, is_move, none}
use Rattle.rule.specs.Checks.{in_range}
use Rattle.rule.proofs.range.Range.contains.Goals as goal

below-is : (below : ℕ) (none_too : Bool) (x : ℕ) → x < below → in_range below none_too x ≡ true
unfolding in_range is_state is_move
below-is below true x h = rw (lt-ltb x below h)
below-is below false x h = lt-ltb x below h

above-move : (below x : ℕ) → below ≤ x → in_range below true x ≡ (x =? none)
unfolding in_range is_state is_move
above-move below x h = rw (le-ltb x below h)

above-state : (below x : ℕ) → below ≤ x → in_range below false x ≡ false
unfolding in_range is_state
above-state below x h = le-ltb x below h

pub returns-then-x-self : goal.returns-then-x-self
returns-then-x-self c =
    lt-ltb c.args.x c.args.self.below c.if-x-self.true ∙ sym (below-is c.args.self.below c.args.self.none c.args.x c.if-x-self.true)

pub returns-then-self : goal.returns-then-self
returns-then-self c = rw c.if-self.true (sym (above-move c.args.self.below c.args.x c.if-x-self.false))

pub returns-else-self : goal.returns-else-self
returns-else-self c = rw c.if-self.false (sym (above-state c.args.self.below c.args.x c.if-x-self.false))
