-- The word stands for those of the states so far that pass the test.
use Rattle.std.proofs.Common.{◌≡◌, Bool, ℕ, ◌<◌}
use Rattle.book.specs.Sets.{StandsFor, first_of}
use Rattle.book.proofs.sets.states_with.Given as goal

abbrev pub invariant-loop-state : goal.invariant-loop-state
invariant-loop-state g l =
    (passes : ℕ → Bool) → ((state : ℕ) (answer : Bool) → state < l.states → goal.F-post g l.test state answer → answer ≡ passes state)
    → StandsFor l.set (first_of l.state passes)
