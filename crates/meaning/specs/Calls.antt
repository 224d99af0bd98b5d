-- The calls (document 01, "Calls and numbers"): for each, its answer on every input and what it leaves in each lent slice.
-- The rule check and the writer stand with their own heading. Every call here takes the rule as the bytes of its file.
use Rattle.std.specs.Prelude.{ℕ, ◌+◌, ◌-◌, ◌≤◌, ◌<◌, ◌≡◌, Bool, not, ◌&&◌, ◌||◌, List, length, get_or, set, take, if◌then◌else◌, Result, Ok, Err, MatchResult}
use Rattle.meaning.specs.declared.Reading.{Reading}
use Rattle.meaning.specs.declared.Level.{Level}
use Rattle.meaning.specs.declared.Refusal.{Refusal}
use Rattle.meaning.specs.declared.reason.Reason.{Reason}
use Rattle.meaning.specs.declared.reason.Reason.TheVariants as reason
use Rattle.meaning.specs.declared.verdict.Verdict.{Verdict}
use Rattle.meaning.specs.declared.verdict.Verdict.TheVariants.{OffSchema, Reject, Accept}
use Rattle.meaning.specs.declared.verdict.NoClass.{NoClass}
use Rattle.meaning.specs.declared.Opening.{Opening}
use Rattle.meaning.specs.declared.Judgement.{Judgement}
use Rattle.meaning.specs.Answers.{Answer, given, refused, refuse◌at◌when◌otherwise◌, ◌and_then◌, ◌giving◌, ◌<?◌}
use Rattle.meaning.specs.RuleFile.{Rule, is_state, class_of, check_rule, rule_of}
use Rattle.meaning.specs.FullReading.{Turn, stays, stores, ends, Run, innermost, blank, fresh_reading, Went, feed_by}
use Rattle.meaning.specs.SkipBook.{all_below, book_check, make_book, book_after}
use Rattle.meaning.specs.Skipping.{settled, skip_event}

-- ---- the number and the values of each case of an answer

-- the class that a verdict stands for
unfoldable pub verdict_says : Verdict → ℕ
verdict_says OffSchema = 0
verdict_says Reject = 1
verdict_says Accept = 2

-- the verdict of a class, or the byte that is no class
abbrev pub IsVerdictOf : ℕ → Result Verdict NoClass → Type 0
IsVerdictOf class r = MatchResult r (λ verdict. verdict_says verdict ≡ class) (λ e. (e.0 ≡ class) × (2 < class))

-- a verdict's class, and the end state
pub record Judged : Type 0 where
  pub class : ℕ
  pub state : ℕ

-- the number that the table of document 01 gives a reason
unfoldable pub number_of : Reason → ℕ
number_of reason.CutShort = 1
number_of reason.WrongKind = 2
number_of reason.WrongLength = 3
number_of reason.OutOfRange = 4
number_of reason.BytesAfter = 5
number_of reason.BookTooShort = 6
number_of reason.CloseAtTop = 7
number_of reason.StoreFull = 8
number_of reason.AtCeiling = 9
number_of reason.UnknownEvent = 10
number_of reason.NoLetterMove = 11
number_of reason.LeftOpen = 12
number_of reason.NotAReading = 13
number_of reason.OutputTooShort = 14
number_of reason.RoundsUsedUp = 15
number_of reason.EventLimit = 16
number_of reason.NoTreeStart = 17
number_of reason.NoTreeMove = 18

-- a refusal's number and place
unfoldable pub refusal_says : {A : Type 0} → Refusal → Answer A
refusal_says r = refused r.number r.place

-- what was asked for, or a refusal
unfoldable pub says : {A : Type 0} → Result A Refusal → Answer A
says (Ok a) = given a
says (Err r) = refusal_says r

-- a verdict's class with the end state, or a refusal
unfoldable pub end_says : Result Judgement Refusal → Answer Judged
end_says (Ok j) = given (record { class = verdict_says j.verdict; state = j.state })
end_says (Err r) = refusal_says r

-- ---- open

-- One call, in the place of the maker and the fresh reading: it fills the lent book and gives the fresh reading and how many
-- states are still. Refusals: the rule check, 6, 15.
unfoldable pub open_call : List ℕ → List ℕ → Answer Opening
open_call file book =
    check_rule file giving λ R.
    make_book R book giving λ count.
    given (record { reading = fresh_reading R; still = count })

-- what it leaves in the book: the skip book of the rule and the words past n+1 as they were, or, refused, what was there
abbrev pub opened_book : List ℕ → List ℕ → List ℕ
opened_book file book = book_after (open_call file book) (rule_of file) book

-- ---- a reading over the lent level store

pub record Stored : Type 0 where
  pub reading : Reading
  pub store : List Level

-- the innermost stored record, if the depth is above zero
unfoldable pub top_of : Reading → List Level → Level
top_of r store = get_or store (r.depth - 1) blank

-- Only an open that is stored writes a record, and only its own; a close clears nothing.
unfoldable pub stored_after : Reading → List Level → Turn → Stored
stored_after r store (stays r') = record { reading = r'; store = store }
stored_after r store (stores l r') = record { reading = r'; store = set store r.depth l }
stored_after r store (ends r') = record { reading = r'; store = store }

unfoldable pub store_step : Rule → List ℕ → ℕ → Stored → ℕ → Answer Stored
store_step R book ceiling s e =
    skip_event R book (length s.store) ceiling s.reading (top_of s.reading s.store) e giving λ turn.
    given (stored_after s.reading s.store turn)

-- ---- feed

-- Number 13 has six conditions. The state is not below n;
abbrev pub state_out : Rule → Reading → Bool
state_out R r = not (is_state R.states r.state)

-- the depth is above the store's length;
abbrev pub depth_past_store : Reading → List Level → Bool
depth_past_store r store = length store <? r.depth

-- a stored state below that depth is not below n;
abbrev pub stored_state_out : Rule → Reading → List Level → Bool
stored_state_out R r store = not (all_below r.depth (λ i. is_state R.states (get_or store i blank).above))

-- the skip depth is above zero on an unsettled level;
abbrev pub skips_unsettled : List ℕ → Reading → List Level → Bool
skips_unsettled book r store = 0 <? r.skip && not (settled book r (top_of r store))

-- depth plus skip depth are above the events taken;
abbrev pub levels_past_taken : Reading → Bool
levels_past_taken r = r.taken <? r.depth + r.skip

-- the looks are above the events taken.
abbrev pub looks_past_taken : Reading → Bool
looks_past_taken r = r.taken <? r.looks

unfoldable pub not_reading : Rule → List ℕ → Reading → List Level → Bool
not_reading R book r store =
    state_out R r
    || (depth_past_store r store
    || (stored_state_out R r store
    || (skips_unsettled book r store
    || (levels_past_taken r
    || looks_past_taken r))))

-- what feed and finish check first: rule, 6, 13
unfoldable pub reading_check : List ℕ → List ℕ → Reading → List Level → Answer Rule
reading_check file book r store =
    check_rule file giving λ R.
    book_check R book and_then
    refuse 13 at 0 when not_reading R book r store otherwise
    given R

unfoldable pub fed_from : Answer Rule → List ℕ → ℕ → Stored → List ℕ → Went Stored
fed_from (given R) book ceiling s events = feed_by (store_step R book ceiling) s events
fed_from (refused number place) book ceiling s events = record { last = s; ended = refused number place }

-- the reading and the store after feeding, and how it ended
unfoldable pub feed_call : List ℕ → List ℕ → ℕ → Reading → List Level → List ℕ → Went Stored
feed_call file book ceiling r store events =
    fed_from (reading_check file book r store) book ceiling (record { reading = r; store = store }) events

-- how many events it took: those taken since
abbrev pub events_taken : Reading → Went Stored → ℕ
events_taken before fed = fed.last.reading.taken - before.taken

-- The event after the n that were taken is there, and it was refused, with that number and at its place.
pub record StoppedAt (R : Rule) (book : List ℕ) (ceiling : ℕ) (r : Reading) (events : List ℕ) (w : Went Stored) (n number place : ℕ)
    : Type 0 where
  pub more : n < length events
  pub at_place : place ≡ r.taken + n
  pub refuses : store_step R book ceiling w.last (get_or events n 0) ≡ refused number place

-- A feed w of these events took the first n of them, whatever was handed in.
pub record TookFirst (file book : List ℕ) (ceiling : ℕ) (r : Reading) (store : List Level) (events : List ℕ) (w : Went Stored) (n : ℕ)
    : Type 0 where
  -- no more than there are, and the events taken grow by so many
  pub within : n ≤ length events
  pub counted : w.last.reading.taken ≡ r.taken + n
  -- these alone lead to the same place
  pub same_last : (feed_call file book ceiling r store (take n events)).last ≡ w.last
  -- all taken: all of them
  pub all_taken : w.ended ≡ given tt → n ≡ length events
  -- where the check passed, all of these are taken, and a refusal is of the event after them
  pub these_taken : {R : Rule} → reading_check file book r store ≡ given R
      → (feed_call file book ceiling r store (take n events)).ended ≡ given tt
  pub stopped : {R : Rule} {number place : ℕ} → reading_check file book r store ≡ given R → w.ended ≡ refused number place
      → StoppedAt R book ceiling r events w n number place
  -- where the check refused, none is taken and nothing changes
  pub none_taken : {number place : ℕ} → reading_check file book r store ≡ refused number place → n ≡ 0
  pub unchanged : {number place : ℕ} → reading_check file book r store ≡ refused number place
      → w.last ≡ record { reading = r; store = store }

-- ---- finish

-- the opening in the innermost stored record, or the events taken if none is stored
unfoldable pub open_place : Reading → Level → ℕ
open_place r top = if 0 <? r.depth then top.opened else r.taken

-- a level or skip depth still open, or else the class of the state
unfoldable pub end_of : Rule → Reading → Level → Answer Judged
end_of R r top =
    refuse 12 at open_place r top when 0 <? r.depth + r.skip otherwise
    given (record { class = class_of R r.state; state = r.state })

-- how a run ends when there is no further event
abbrev pub end_of_run : Rule → Run → Answer Judged
end_of_run R m = end_of R m.reading (innermost m.levels)

unfoldable pub finish_call : List ℕ → List ℕ → Reading → List Level → Answer Judged
finish_call file book r store = reading_check file book r store giving λ R. end_of R r (top_of r store)

-- ---- a reading by the calls

-- From a reading, such as the one that opening gave, to a verdict: feeding takes all events, and finish then answers it.
pub record ReadsTo (file book : List ℕ) (first : Reading) (store : List Level) (ceiling : ℕ) (events : List ℕ) (j : Judged) : Type 0 where
  pub takes_all : (feed_call file book ceiling first store events).ended ≡ given tt
  pub verdict : finish_call file book (feed_call file book ceiling first store events).last.reading
      (feed_call file book ceiling first store events).last.store ≡ given j

-- ---- the whole-document call

abbrev pub largest_ceiling : ℕ
largest_ceiling = 4294967295

-- the end of the reading, and what book and store then hold
pub record Whole : Type 0 where
  pub answer : Answer Judged
  pub book : List ℕ
  pub store : List Level

-- after feeding: what feeding refused, or what finish answers
unfoldable pub finish_fed : List ℕ → List ℕ → Went Stored → Answer Judged
finish_fed file book w = w.ended giving λ done. finish_call file book w.last.reading w.last.store

unfoldable pub read_with : List ℕ → List ℕ → Reading → List Level → List ℕ → Whole
read_with file book first store events =
    let fed : Went Stored = feed_call file book largest_ceiling first store events in
    record { answer = finish_fed file book fed; book = book; store = fed.last.store }

unfoldable pub whole_from : Answer Opening → List ℕ → List ℕ → List Level → List ℕ → Whole
whole_from (given o) file book store events = read_with file (book_after (given o) (rule_of file) book) o.reading store events
whole_from (refused number place) file book store events =
    record { answer = refused number place; book = book; store = store }

-- open, feed and finish in turn, with the book that opening wrote and from the reading that it gave, under the largest ceiling
unfoldable pub whole_document : List ℕ → List ℕ → List Level → List ℕ → Whole
whole_document file book store events = whole_from (open_call file book) file book store events
