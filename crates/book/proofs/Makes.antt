-- What the making answers for a rule, case by case.
use mathlib.Core.Path.{◌≡◌, ◌∙◌}
use mathlib.Core.Bool.{true, false}
use mathlib.Core.List.{List}
use Prim.Native.Nat.{ℕ, ◌+◌, ◌≤◌, ◌<◌}
use lib.ListN.{length}
use lib.Count.{ones}
use Rattle.meaning.specs.Answers.{given, refused, refuse◌at◌when◌otherwise◌}
use Rattle.meaning.specs.RuleFile.{Rule}
use Rattle.meaning.specs.SkipBook.{rounds_used_up, still_marks, word_of, make_book}
use Rattle.meaning.proofs.skipbook.BookLong.{long-passes, short-stops}
use Rattle.meaning.proofs.laws.Answered.{refuse-stops, refuse-passes}

module _ (R : Rule) (book : List ℕ) where
  pub book-short : length book < R.states + 1 → make_book R book ≡ refused 6 0
  unfolding make_book
  book-short h = short-stops R book _ h

  module _ (room : R.states + 1 ≤ length book) where
    enough : make_book R book ≡ (refuse 15 at 0 when rounds_used_up R otherwise given (ones (word_of (still_marks R))))
    unfolding make_book
    enough = long-passes R book _ room

    pub rounds-used-up : rounds_used_up R ≡ true → make_book R book ≡ refused 15 0
    rounds-used-up e = enough ∙ refuse-stops 15 0 _ e

    pub book-made : rounds_used_up R ≡ false → make_book R book ≡ given (ones (word_of (still_marks R)))
    book-made e = enough ∙ refuse-passes 15 0 _ e
