-- The program's books have 65 words, of which the rule's own are the first n+1: both readings with them are those of the definitions.
use mathlib.Core.Path.{◌≡◌, ap, ◌∙◌}
use mathlib.Core.List.{List, ◌++◌}
use Prim.Native.Nat.{ℕ, ◌+◌, ◌≤◌}
use native.Mathlib.Omega.{arith}
use lib.Count.{ones}
use lib.ListN.{length, drop, replicate, length-append, length-replicate}
use Rattle.meaning.specs.Answers.{given, ◌giving◌}
use Rattle.meaning.specs.RuleFile.{Rule, rule_of, check_rule}
use Rattle.meaning.specs.SkipBook.{book_of, still_marks, word_of}
use Rattle.meaning.specs.Skipping.{SameSets}
use Rattle.meaning.specs.FullReading.{Went, fresh_reading, blank}
use Rattle.meaning.specs.Calls.{Stored, open_call, finish_fed, largest_ceiling}
use Rattle.meaning.specs.CheckProgram.{line_from, line_with, program_fed, program_levels, skip_line, full_line}
use Rattle.meaning.proofs.rulefile.Accepted.{accepted-is-rule}
use Rattle.meaning.proofs.skipbook.Rounds.{most-states}
use Rattle.meaning.proofs.skipbook.BookMade.{book-length, after-given}
use Rattle.meaning.proofs.stores.Opens.{always-opens}
use Rattle.meaning.proofs.stores.ZeroBook.{zeros}
use Rattle.meaning.proofs.stores.BookBits.{words-past, zeros-same, books-feed-alike, books-finish-alike}
use Rattle.program.specs.Bodies.{zero_book, program_book, fed_line}

module _ (file : List ℕ) (accepted : check_rule file ≡ given (rule_of file)) where
  abbrev R : Rule
  R = rule_of file

  few-states : R.states ≤ 64
  few-states = most-states (accepted-is-rule file accepted)

  -- lines with books that say the same of the rule's states
  line-alike : (book book' events : List ℕ) → R.states + 1 ≤ length book → R.states + 1 ≤ length book' → SameSets R book book'
      → fed_line file book (program_fed file book events) ≡ line_with (record { file = file; events = events }) book'
  unfolding fed_line line_with program_fed finish_fed
  line-alike book book' events long long' same =
      let r = fresh_reading R in
      let store = replicate program_levels blank in
      let w : Went Stored = program_fed file book events in
      let fed : w ≡ program_fed file book' events
      = books-feed-alike file book book' largest_ceiling r store events accepted long long' same in
      ap (λ x. (w.ended giving λ done. x) giving line_from w)
      (books-finish-alike file book book' w.last.reading w.last.store accepted long long' same)
      ∙ ap (λ v. finish_fed file book' v giving line_from v) fed

  zero-long : R.states + 1 ≤ length zero_book
  unfolding zero_book
  zero-long = omega (arith, few-states)

  -- such a file is opened
  pub opens : open_call file zero_book ≡ given (record { reading = fresh_reading R; still = ones (word_of (still_marks R)) })
  opens = always-opens file zero_book accepted zero-long

  made : program_book file ≡ book_of R ++ drop (R.states + 1) zero_book
  unfolding program_book
  made = after-given _ R zero_book opens

  own-long : R.states + 1 ≤ length (program_book file)
  own-long = rw made (simp length-append (omega (arith, book-length R)))

  -- the reading with the rule's own book
  pub skip-alike : (events : List ℕ)
      → fed_line file (program_book file) (program_fed file (program_book file) events) ≡ skip_line (record { file = file; events = events })
  unfolding skip_line
  skip-alike events =
      line-alike (program_book file) (book_of R) events own-long (omega (arith, book-length R))
      (rw made (words-past R (book_of R) (drop (R.states + 1) zero_book) (omega (arith, book-length R))))

  -- the reading with a book of zeros
  pub full-alike : (events : List ℕ)
      → fed_line file zero_book (program_fed file zero_book events) ≡ full_line (record { file = file; events = events })
  unfolding full_line zero_book
  full-alike events =
      line-alike zero_book (replicate (R.states + 1) 0) events zero-long (omega (arith, length-replicate {A = ℕ} (R.states + 1) 0))
      (zeros-same R zero_book (replicate (R.states + 1) 0) (zeros 65) (zeros (R.states + 1)))
