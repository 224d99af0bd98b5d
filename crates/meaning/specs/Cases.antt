-- The cases marked P of document 01, "Two small rules", as one table: the books of rules A and B, and what skipping and full
-- reading make of some events; with them three small rules that tell which lower states count in Reach. `proofs/Cases.antt`
-- proves the whole table by one statement.
use Rattle.std.specs.Prelude.{ℕ, Bool, true, false, ◌&&◌, List, [], ◌∷◌, replicate}
use Rattle.meaning.specs.Answers.{Answer, given, refused, ◌giving◌, ◌=?◌}
use Rattle.meaning.specs.RuleFile.{Rule, rule_of, rule_bytes}
use Rattle.meaning.specs.FullReading.{Run, Went, feed_by, full_step, fresh_reading, innermost, blank}
use Rattle.meaning.specs.SkipBook.{book_after}
use Rattle.meaning.specs.declared.Opening.{Opening}
use Rattle.meaning.specs.Calls.{Judged, Stored, open_call, feed_call, finish_fed, end_of, largest_ceiling}

-- rule A, the bytes of its file
unfoldable pub rule_a : List ℕ
rule_a =
    0x05 ∷ 0x00 ∷ 0x00 ∷ 0x00 ∷ 0x01 ∷ 0x00 ∷ 0x03 ∷ 0x00 ∷ 0x00 ∷ 0x02 ∷ 0x00
    ∷ 0x06 ∷ 0x00 ∷ 0x00 ∷ 0x00 ∷ 0x02 ∷ 0x00 ∷ 0x00 ∷ 0x01 ∷ 0x01 ∷ 0x01 ∷ 0x02 ∷ 0xFF
    ∷ 0x09 ∷ 0x00 ∷ 0x00 ∷ 0x00 ∷ 0x03 ∷ 0x00 ∷ 0x00 ∷ 0x02 ∷ 0x00 ∷ 0x01 ∷ 0x01 ∷ 0x01 ∷ 0x02 ∷ 0x02 ∷ 0xFF
    ∷ 0x03 ∷ 0x00 ∷ 0x00 ∷ 0x00 ∷ 0x04 ∷ 0x00 ∷ 0x01 ∷ 0x00 ∷ 0x02 ∷ []

-- rule B: initial 0, tree start 1; letter moves 2, 2, 2; tree move of 0 and 2 is 0, all others none; classes 2, 0, 1
unfoldable pub rule_b : List ℕ
rule_b =
    rule_bytes
    (record {
      states = 3;
      initial = 0;
      tree_start = 1;
      letters = 1;
      letter_moves = 2 ∷ 2 ∷ 2 ∷ [];
      tree_moves = 255 ∷ 255 ∷ 0 ∷ 255 ∷ 255 ∷ 255 ∷ 255 ∷ 255 ∷ 255 ∷ [];
      classes = 2 ∷ 0 ∷ 1 ∷ [];
    })

-- no tree start, letters that stay and trees that do not: no tree move counts in Reach, but hold(u) asks for them
unfoldable pub rule_no_start : List ℕ
rule_no_start =
    0x05 ∷ 0x00 ∷ 0x00 ∷ 0x00 ∷ 0x01 ∷ 0x00 ∷ 0x02 ∷ 0x00 ∷ 0xFF ∷ 0x01 ∷ 0x00
    ∷ 0x02 ∷ 0x00 ∷ 0x00 ∷ 0x00 ∷ 0x02 ∷ 0x00 ∷ 0x00 ∷ 0x01
    ∷ 0x04 ∷ 0x00 ∷ 0x00 ∷ 0x00 ∷ 0x03 ∷ 0x00 ∷ 0x01 ∷ 0x00 ∷ 0x00 ∷ 0x01
    ∷ 0x02 ∷ 0x00 ∷ 0x00 ∷ 0x00 ∷ 0x04 ∷ 0x00 ∷ 0x01 ∷ 0x02 ∷ []

-- tree start 0, a letter leads from 0 to 1, and a tree move of 0 waits for lower state 1: it leads to 2, for which one of 1 waits
unfoldable pub rule_met_later : List ℕ
rule_met_later =
    rule_bytes
    (record {
      states = 3;
      initial = 0;
      tree_start = 0;
      letters = 1;
      letter_moves = 1 ∷ 255 ∷ 255 ∷ [];
      tree_moves = 255 ∷ 2 ∷ 255 ∷ 255 ∷ 255 ∷ 0 ∷ 255 ∷ 255 ∷ 255 ∷ [];
      classes = 2 ∷ 2 ∷ 2 ∷ [];
    })

-- 0 outside of trees, 1 inside them, and the spare state 2, in which no tree can end; with it as lower state all tree moves lead
-- to 2
unfoldable pub rule_spare : List ℕ
rule_spare =
    rule_bytes
    (record {
      states = 3;
      initial = 0;
      tree_start = 1;
      letters = 2;
      letter_moves = 0 ∷ 1 ∷ 1 ∷ 1 ∷ 2 ∷ 2 ∷ [];
      tree_moves = 255 ∷ 0 ∷ 2 ∷ 255 ∷ 1 ∷ 2 ∷ 2 ∷ 2 ∷ 2 ∷ [];
      classes = 2 ∷ 1 ∷ 0 ∷ [];
    })

-- how a reading ends: the verdict's class, the end state and the looks
pub record Ended : Type 0 where
  pub class : ℕ
  pub state : ℕ
  pub looks : ℕ

-- off-schema, reject and accept
unfoldable pub off_schema : ℕ → ℕ → Answer Ended
off_schema state looks = given (record { class = 0; state = state; looks = looks })

unfoldable pub reject : ℕ → ℕ → Answer Ended
reject state looks = given (record { class = 1; state = state; looks = looks })

unfoldable pub accept : ℕ → ℕ → Answer Ended
accept state looks = given (record { class = 2; state = state; looks = looks })

unfoldable pub with_looks : ℕ → Judged → Answer Ended
with_looks looks j = given (record { class = j.class; state = j.state; looks = looks })

-- skipping as opening has it begin, with eight levels and the largest ceiling
unfoldable pub skipping_ends : List ℕ → List ℕ → Answer Ended
skipping_ends file events =
    let zeros : List ℕ = replicate 64 0 in
    let opened : Answer Opening = open_call file zeros in
    let book : List ℕ = book_after opened (rule_of file) zeros in
    opened giving λ o.
    let fed : Went Stored = feed_call file book largest_ceiling o.reading (replicate 8 blank) events in
    finish_fed file book fed giving with_looks fed.last.reading.looks

-- full reading with the same levels and ceiling
unfoldable pub full_ends : List ℕ → List ℕ → Answer Ended
full_ends file events =
    let R : Rule = rule_of file in
    let fed : Went Run = feed_by (full_step R 8 largest_ceiling) (record { reading = fresh_reading R; levels = [] }) events in
    fed.ended giving λ done.
    end_of R fed.last.reading (innermost fed.last.levels) giving with_looks fed.last.reading.looks

-- A row: the words of a book and how many states are still, how both readings end, or how skipping ends.
pub data Row : Type 0 where
  the_book : List ℕ → List ℕ → ℕ → Row
  both_end : List ℕ → List ℕ → Answer Ended → Answer Ended → Row
  skipping_end : List ℕ → List ℕ → Answer Ended → Row

unfoldable pub same_numbers : List ℕ → List ℕ → Bool
same_numbers [] [] = true
same_numbers [] (y ∷ ys) = false
same_numbers (x ∷ xs) [] = false
same_numbers (x ∷ xs) (y ∷ ys) = x =? y && same_numbers xs ys

unfoldable pub same_count : Answer Opening → ℕ → Bool
same_count (given o) n = o.still =? n
same_count (refused number place) n = false

unfoldable pub same_end : Answer Ended → Answer Ended → Bool
same_end (given a) (given b) = a.class =? b.class && (a.state =? b.state && a.looks =? b.looks)
same_end (given a) (refused number place) = false
same_end (refused number place) (given b) = false
same_end (refused number place) (refused number' place') = number =? number' && place =? place'

-- the room that is lent for the book is that of three states, and a word past the book stays 0
unfoldable pub holds : Row → Bool
holds (the_book file book count) =
    let room : List ℕ = replicate 4 0 in
    let opened : Answer Opening = open_call file room in
    same_numbers (book_after opened (rule_of file) room) book && same_count opened count
holds (both_end file events skipping full) =
    same_end (skipping_ends file events) skipping && same_end (full_ends file events) full
holds (skipping_end file events skipping) = same_end (skipping_ends file events) skipping

unfoldable pub all_hold : List Row → Bool
all_hold [] = true
all_hold (row ∷ rows) = holds row && all_hold rows

unfoldable pub the_cases : List Row
the_cases =
    the_book rule_a (6 ∷ 4 ∷ 7 ∷ 7 ∷ []) 2
    ∷ the_book rule_b (4 ∷ 7 ∷ 7 ∷ 7 ∷ []) 1
    ∷ the_book rule_no_start (3 ∷ 2 ∷ 2 ∷ 0 ∷ []) 2
    ∷ the_book rule_met_later (4 ∷ 4 ∷ 0 ∷ 7 ∷ []) 1
    ∷ the_book rule_spare (6 ∷ 3 ∷ 3 ∷ 7 ∷ []) 2
    -- A1 to A6
    ∷ both_end rule_a [] (reject 0 0) (reject 0 0)
    ∷ both_end rule_a (0 ∷ 3 ∷ 1 ∷ []) (accept 2 3) (accept 2 3)
    ∷ both_end rule_a (0 ∷ 3 ∷ 2 ∷ 2 ∷ 1 ∷ 2 ∷ []) (accept 2 3) (accept 2 6)
    ∷ both_end rule_a (0 ∷ 3 ∷ 1 ∷ 3 ∷ []) (accept 2 3) (refused 11 3)
    ∷ both_end rule_a (3 ∷ 0 ∷ 2 ∷ 1 ∷ []) (off_schema 1 1) (off_schema 1 4)
    ∷ both_end rule_a (0 ∷ 0 ∷ 3 ∷ 1 ∷ 1 ∷ []) (reject 0 4) (reject 0 5)
    -- B1 and B2. Where full reading finds no move inside a skipped part, it says which: a letter move in A4, a tree move in B2
    ∷ both_end rule_b (0 ∷ 2 ∷ 1 ∷ []) (accept 0 1) (accept 0 3)
    ∷ both_end rule_b (0 ∷ 1 ∷ []) (accept 0 1) (refused 18 1)
    -- a close at the top after a tree, a letter that the rule does not know, and a skipped tree left open
    ∷ skipping_end rule_a (0 ∷ 3 ∷ 1 ∷ 1 ∷ []) (refused 7 3)
    ∷ skipping_end rule_a (3 ∷ 4 ∷ []) (refused 10 1)
    ∷ skipping_end rule_a (3 ∷ 0 ∷ []) (refused 12 2)
    ∷ []
