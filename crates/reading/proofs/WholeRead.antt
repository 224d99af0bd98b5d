-- The whole-document call: the reading that opening gave and the book that it wrote pass every check of feed and finish, so
-- feeding the events and taking the end of what was fed is what those calls answer in turn.
use mathlib.Core.Path.{◌≡◌, refl, ◌∙◌}
use mathlib.Core.List.{List}
use Prim.Native.Nat.{ℕ, ◌<◌}
use native.Mathlib.Omega.{arith}
use Rattle.std.specs.Prelude.{Result, Ok, Err}
use Rattle.meaning.specs.Answers.{given, ◌giving◌}
use Rattle.meaning.specs.RuleFile.{rule_of}
use Rattle.meaning.specs.FullReading.{Went, feed_by}
use Rattle.meaning.specs.Calls.{Stored, says, refusal_says, end_says, open_call, opened_book, store_step, top_of, end_of, finish_fed, largest_ceiling, read_with, whole_document}
use Rattle.meaning.specs.declared.Reading.{Reading}
use Rattle.meaning.specs.declared.Opening.{Opening}
use Rattle.meaning.specs.declared.Judgement.{Judgement}
use Rattle.meaning.specs.declared.Level.{Level}
use Rattle.meaning.specs.declared.Refusal.{Refusal}
use Rattle.meaning.proofs.rulefile.Accepted.{accepted-is-rule}
use Rattle.meaning.proofs.stores.KeptReading.{reading-is, feeding-keeps-reading}
use Rattle.meaning.proofs.skipbook.BookMade.{after-refused}
use Rattle.meaning.proofs.stores.Opens.{open-says, opened-long, fresh-reading}
use Rattle.meaning.proofs.stores.Whole.{whole-refused, whole-opened, whole-feeds, whole-finishes}
use Rattle.rule.specs.declared.Rule.{Rule}
use Rattle.rule.specs.Says.{RuleOf}
use Rattle.turning.specs.Turns.{Feeds, over}
use Rattle.turning.specs.Advancing.{ended_at, Gone}
use Rattle.turning.specs.declared.Going.{Going}
use Rattle.turning.proofs.Steps.{turn-ready}
use Rattle.rule.proofs.Said.{states-are}
use Rattle.reading.specs.Whole.{end_fed, ReadIs}

-- what feeding a first reading with the largest ceiling comes to
abbrev pub read_all : List ℕ → List ℕ → Reading → List Level → List ℕ → Went Stored
read_all file book first store events = feed_by (store_step (rule_of file) book largest_ceiling) (over first store) events

module _ (file book : List ℕ) (store : List Level) (events : List ℕ) where
  -- opening refused: nothing is fed
  pub document-refused : (f : Refusal) → open_call file book ≡ refusal_says f
      → ReadIs (whole_document file book store events) (Err f) (opened_book file book) store
  unfolding end_says refusal_says
  document-refused f e =
      rw (whole-refused file book store events {number = f.number} {place = f.place} e)
      (record { answer_is = refl; book_is = after-refused _ (rule_of file) book e; store_is = refl })

  module _ {o : Opening} (opened : open_call file book ≡ given o) {rule : Rule} (h : RuleOf file rule) where
    -- the reading that opening gave may be fed with the book that it wrote
    pub opened-feeds : Feeds file rule (opened_book file book) o.reading store
    opened-feeds =
        let first = open-says file book opened in
        record {
          ruled = h;
          book_long = omega (arith, opened-long file book opened, states-are h);
          is_reading = rw first.first_is
              (reading-is (rule_of file) (opened_book file book) _ store (fresh-reading file (opened_book file book) store first.accepted));
        }

    whole-read : whole_document file book store events
        ≡ record {
          answer = end_fed (rule_of file) (read_all file (opened_book file book) o.reading store events);
          book = opened_book file book;
          store = (read_all file (opened_book file book) o.reading store events).last.store;
        }
    unfolding read_with finish_fed end_fed
    whole-read =
        let same = whole-feeds file book store events opened in
        let ends = whole-finishes file book store events opened in
        whole-opened file book store events opened ∙ rw (ends, same)

    -- ---- where feeding has come to its end

    module _ {g : Going} {room : ℕ} {store' : List Level}
        (gone : Gone (read_all file (opened_book file book) o.reading store events) o.reading room g store') where
      document-is : (r : Result Judgement Refusal)
          → end_says r ≡ (says (ended_at g) giving λ done. end_of (rule_of file) g.reading (top_of g.reading store'))
          → ReadIs (whole_document file book store events) r (opened_book file book) store'
      unfolding end_fed
      document-is r e = rw whole-read (record { answer_is = rw gone.comes e; book_is = refl; store_is = rw gone.comes })

      -- an event was refused
      pub document-stops : (f : Refusal) → ended_at g ≡ Err f
          → ReadIs (whole_document file book store events) (Err f) (opened_book file book) store'
      unfolding end_says refusal_says says ◌giving◌
      document-stops f e = document-is (Err f) (rw e)

      module _ (all : ended_at g ≡ Ok tt) where
        -- all were taken, and the reading may be ended
        pub document-state : g.reading.state < rule.states
        document-state =
            let feeds = opened-feeds in
            let still = rw gone.comes at
            (feeding-keeps-reading (accepted-is-rule file h.accepted) (opened_book file book) largest_ceiling (over o.reading store)
            events feeds.is_reading)
            in
            (turn-ready (record { ruled = h; book_long = feeds.book_long; is_reading = still })).states.state_in

        pub document-ends : {r : Result Judgement Refusal} → end_says r ≡ end_of (rule_of file) g.reading (top_of g.reading store')
            → ReadIs (whole_document file book store events) r (opened_book file book) store'
        unfolding says ◌giving◌
        document-ends {r} e = document-is r (rw all e)
