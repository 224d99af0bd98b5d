-- The body of the record of events as the check program has it: both readings of the bytes so far, and when these bytes are all
-- of an input's.
use Rattle.std.specs.Prelude.{ℕ, ◌+◌, ◌≤◌, ◌<◌, min, ◌≡◌, List, [], ◌++◌, length, take, drop, replicate, Some, IsSome, IsNone}
use Rattle.meaning.specs.Answers.{Answer, given, ◌giving◌}
use Rattle.meaning.specs.RuleFile.{header_length}
use Rattle.meaning.specs.FullReading.{Went}
use Rattle.meaning.specs.Calls.{Stored, opened_book, finish_fed}
use Rattle.meaning.specs.CheckProgram.{events_in, front_length, front_check, Line, line_from, program_fed, line_bytes, skip_word, full_word}
use Rattle.program.specs.Passes.{pass_says}
use Rattle.program.specs.declared.body.Body.{Body}

-- 65 words, as many as the longest book has: zeros, and what opening makes of them
abbrev pub book_words : ℕ
book_words = 65

unfoldable pub zero_book : List ℕ
zero_book = replicate book_words 0

unfoldable pub program_book : List ℕ → List ℕ
program_book file = opened_book file zero_book

-- the most bytes of a block
abbrev pub block_length : ℕ
block_length = 65536

-- so many bytes of the front carried over into a block: all of them, or as many as it takes
pub record Carried (front block : List ℕ) (count : ℕ) (after : List ℕ) : Type 0 where
  pub count_is : count ≡ min (length front) (length block)
  pub laid_is : after ≡ take count front ++ drop count block

-- ---- the bytes so far

-- both readings of the bytes of the record so far, which has so many bytes
pub record Within (file book : List ℕ) (size : ℕ) (body : Body) (bytes : List ℕ) : Type 0 where
  pub taken_is : body.taken ≡ Some (length bytes)
  pub in_record : length bytes ≤ size
  pub skip_is : pass_says body.both.skip ≡ program_fed file book (events_in bytes)
  pub full_is : pass_says body.both.full ≡ program_fed file zero_book (events_in bytes)

-- a body that took these bytes: they are of the record, or go on after it
pub record Took (file book : List ℕ) (size : ℕ) (body : Body) (bytes : List ℕ) : Type 0 where
  pub while_within : IsSome body.taken → Within file book size body bytes
  pub when_after : IsNone body.taken → size < length bytes

-- ---- the whole input

-- What was read is this input: its front says where the record of events is, the file and the book are those of its rule, and the
-- body took the bytes that follow the header, all of them unless some came after the record.
pub record HasRead (file book : List ℕ) (size : ℕ) (body : Body) (input bytes rest : List ℕ) : Type 0 where
  pub found : front_check (take front_length input) ≡ given (record { place = length file; size = size })
  pub file_is : file ≡ take (length file) input
  pub book_is : book ≡ program_book file
  pub took : Took file book size body bytes
  pub body_is : drop (length file + header_length) input ≡ bytes ++ rest
  pub all_read : IsSome body.taken → rest ≡ []

-- the line of what was fed, and the lines of both readings
unfoldable pub fed_line : List ℕ → List ℕ → Went Stored → Answer Line
fed_line file book fed = finish_fed file book fed giving line_from fed

unfoldable pub both_lines : List ℕ → List ℕ → Went Stored → Went Stored → List ℕ
both_lines file book skip full = line_bytes skip_word (fed_line file book skip) ++ line_bytes full_word (fed_line file zero_book full)
