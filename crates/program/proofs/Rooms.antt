-- A line is short: the room of a text is more than two of them take.
use mathlib.Core.List.{List}
use Prim.Native.Nat.{ℕ, zero, suc, ◌+◌, ◌≤◌}
use native.Mathlib.Omega.{arith}
use lib.ListN.{length, length-append}
use Rattle.meaning.specs.Answers.{Answer, given, refused}
use Rattle.meaning.specs.CheckProgram.{Line, spaced, refused_word, class_word, line_end, line_bytes}
use Rattle.program.proofs.Decimals.{decimal-few}

spaced-few : (n : ℕ) → length (spaced n) ≤ 21
unfolding spaced
spaced-few n = omega (arith, decimal-few n)

class-few : (class : ℕ) → length (class_word class) ≤ 11
unfolding class_word
class-few zero = omega arith
class-few (suc zero) = omega arith
class-few (suc (suc c)) = omega arith

pub line-few : (name : List ℕ) (l : Answer Line) → length (line_bytes name l) ≤ length name + 75
unfolding line_bytes refused_word line_end
line-few name (given l) =
    simp length-append (omega (arith, class-few l.class, spaced-few l.state, spaced-few l.events, spaced-few l.looks))
line-few name (refused number place) = simp length-append (omega (arith, spaced-few number, spaced-few place))
