-- Number 6: the check passes exactly if the book has n+1 words or more.
use mathlib.Core.Path.{◌≡◌}
use mathlib.Core.List.{List}
use Prim.Native.Nat.{ℕ, ◌+◌, ◌≤◌, ◌<◌}
use lib.ListN.{length}
use borrow.Author.Tests.{ltb-false, le-ltb, lt-ltb}
use Rattle.meaning.specs.Answers.{Answer, given, refused, ◌and_then◌}
use Rattle.meaning.specs.RuleFile.{Rule}
use Rattle.meaning.specs.SkipBook.{book_check}
use Rattle.meaning.proofs.laws.Answered.{refuse-given, refuse-passes, refuse-stops, and_then-passes, and_then-stops, and_then-given}

module _ {A : Type 0} (R : Rule) (book : List ℕ) (rest : Answer A) where
  pub long-passes : R.states + 1 ≤ length book → (book_check R book and_then rest) ≡ rest
  unfolding book_check
  long-passes long = and_then-passes rest (refuse-passes 6 0 _ (le-ltb (length book) (R.states + 1) long))

  pub short-stops : length book < R.states + 1 → (book_check R book and_then rest) ≡ refused 6 0
  unfolding book_check
  short-stops short = and_then-stops rest (refuse-stops 6 0 _ (lt-ltb (length book) (R.states + 1) short))

  pub long-given : {a : A} → (book_check R book and_then rest) ≡ given a → (R.states + 1 ≤ length book) × (rest ≡ given a)
  unfolding book_check
  long-given e =
      let both = and_then-given (book_check R book) rest e in
      (ltb-false (length book) (R.states + 1) (refuse-given 6 0 _ _ both.0).0, both.1)
