-- The whole-document call answers as open, feed and finish in turn and leaves what they leave: one equation for each way it can go.
-- The reading that opening gave and the book that it wrote pass every check, so nothing that feed or finish checks first refuses
-- there.
use mathlib.Core.Path.{◌≡◌, ◌∙◌}
use mathlib.Core.List.{List}
use Prim.Native.Nat.{ℕ}
use Rattle.meaning.specs.declared.Reading.{Reading}
use Rattle.meaning.specs.declared.Level.{Level}
use Rattle.meaning.specs.declared.Opening.{Opening}
use Rattle.meaning.specs.Answers.{given, refused}
use Rattle.meaning.specs.RuleFile.{rule_of}
use Rattle.meaning.specs.FullReading.{Went, feed_by}
use Rattle.meaning.specs.Calls.{Stored, open_call, opened_book, store_step, top_of, end_of, feed_call, finish_call, finish_fed, largest_ceiling, read_with, whole_from, whole_document}
use Rattle.meaning.proofs.laws.Answered.{giving-passes, giving-stops}
use Rattle.meaning.proofs.stores.ReadingCheck.{feed-checked, finish-checked, fed-checked}
use Rattle.meaning.proofs.stores.Opens.{opened-long, opened-checked}

-- what feeding a first reading with the book that opening wrote comes to
abbrev pub fed_first : List ℕ → List ℕ → Reading → List Level → List ℕ → Went Stored
fed_first file book first store events = feed_call file (opened_book file book) largest_ceiling first store events

-- ---- the calls in turn

-- opening refused: nothing is written
pub whole-refused : (file book : List ℕ) (store : List Level) (events : List ℕ) {number place : ℕ}
    → open_call file book ≡ refused number place
    → whole_document file book store events ≡ record { answer = refused number place; book = book; store = store }
unfolding whole_document whole_from
whole-refused file book store events e = rw (e, whole_from)

module _ (file book : List ℕ) (store : List Level) (events : List ℕ) {o : Opening} (opened : open_call file book ≡ given o) where
  pub whole-opened : whole_document file book store events ≡ read_with file (opened_book file book) o.reading store events
  unfolding whole_document whole_from
  whole-opened = rw (opened, whole_from)

  -- opening gave its answer, and feeding was refused
  pub whole-unfed : {number place : ℕ} → (fed_first file book o.reading store events).ended ≡ refused number place
      → whole_document file book store events
      ≡ record {
        answer = refused number place;
        book = opened_book file book;
        store = (fed_first file book o.reading store events).last.store;
      }
  unfolding read_with finish_fed
  whole-unfed h = whole-opened ∙ rw (giving-stops _ h)

  -- opening gave its answer, and all events were taken
  pub whole-fed : (fed_first file book o.reading store events).ended ≡ given tt
      → whole_document file book store events
      ≡ record {
        answer = finish_call file (opened_book file book) (fed_first file book o.reading store events).last.reading
            (fed_first file book o.reading store events).last.store;
        book = opened_book file book;
        store = (fed_first file book o.reading store events).last.store;
      }
  unfolding read_with finish_fed
  whole-fed h = whole-opened ∙ rw (giving-passes _ h)

  -- feeding goes by the steps
  pub whole-feeds : fed_first file book o.reading store events
      ≡ feed_by (store_step (rule_of file) (opened_book file book) largest_ceiling) (record { reading = o.reading; store = store }) events
  whole-feeds =
      feed-checked file (opened_book file book) o.reading store largest_ceiling events
      (opened-checked file book (opened_book file book) store opened (opened-long file book opened))

  -- and finish answers by the end of the reading
  pub whole-finishes : finish_call file (opened_book file book) (fed_first file book o.reading store events).last.reading
      (fed_first file book o.reading store events).last.store
      ≡ end_of (rule_of file) (fed_first file book o.reading store events).last.reading
      (top_of (fed_first file book o.reading store events).last.reading (fed_first file book o.reading store events).last.store)
  whole-finishes =
      finish-checked file (opened_book file book) _ _
      (rw whole-feeds
      (fed-checked file (opened_book file book) largest_ceiling (record { reading = o.reading; store = store }) events
      (opened-checked file book (opened_book file book) store opened (opened-long file book opened))))
