-- What feed and finish check first, and what a check that passed says to the caller: the rule is the accepted file's, the book
-- is long enough, and what was handed in is a reading.
use mathlib.Core.Path.{◌≡◌, refl, sym, ap, ◌∙◌}
use mathlib.Core.Bool.{true, false}
use mathlib.Core.List.{List}
use Prim.Native.Nat.{ℕ, ◌+◌, ◌≤◌, ◌<◌}
use native.Mathlib.Omega.{arith}
use lib.ListN.{length}
use Rattle.std.specs.Prelude.{Err}
use Rattle.meaning.specs.Answers.{given, refused}
use Rattle.meaning.specs.FullReading.{Went, feed_by}
use Rattle.meaning.specs.RuleFile.{check_rule, rule_of}
use Rattle.meaning.specs.Calls.{Stored, says, refusal_says, open_call, opened_book, store_step, top_of, not_reading, reading_check, feed_call, end_of, finish_call}
use Rattle.meaning.specs.declared.Level.{Level}
use Rattle.meaning.specs.declared.Reading.{Reading}
use Rattle.meaning.specs.declared.Refusal.{Refusal}
use Rattle.meaning.proofs.rulefile.Accepted.{accepted-rule}
use Rattle.meaning.proofs.skipbook.BookLong.{long-passes, short-stops}
use Rattle.meaning.proofs.skipbook.BookMade.{after-refused}
use Rattle.meaning.proofs.stores.Opens.{open-unchecked}
use Rattle.meaning.proofs.laws.Answered.{refuse-stops, refuse-passes, giving-given, giving-passes, giving-stops}
use Rattle.meaning.proofs.stores.ReadingCheck.{check-says, check-passes, feed-checked, feed-unchecked, finish-checked, finish-unchecked}
use Rattle.rule.specs.Says.{numbers_of, check_answer, RuleOf}
use Rattle.rule.specs.declared.Rule.{Rule}
use Rattle.rule.proofs.Said.{giving-refused, refused-check}
use Rattle.turning.specs.Turns.{Feeds, over}
use Rattle.turning.specs.Advancing.{Gone}
use Rattle.turning.specs.declared.Going.{Going}
use Rattle.turning.proofs.Steps.{turn-ready}
use Rattle.rule.proofs.Said.{states-are}
use Rattle.reading.specs.Feeding.{FedIs, fed_of}
use Rattle.reading.specs.Checks.{reading_answer}

-- ---- the rule

-- what the check refused, opening refuses, and the book stays
check-stops : (file : List ℕ) (f : Refusal) → check_answer file ≡ refusal_says f → check_rule file ≡ refused f.number f.place
unfolding says
check-stops file f e = refused-check file f (sym e)

module _ (file book : List ℕ) (f : Refusal) (stopped : check_answer file ≡ refusal_says f) where
  pub unchecked-opens : open_call file book ≡ refusal_says f
  unfolding refusal_says
  unchecked-opens = open-unchecked file book (check-stops file f stopped)

  pub unchecked-stays : book ≡ opened_book file book
  unchecked-stays = sym (after-refused _ _ _ (open-unchecked file book (check-stops file f stopped)))

-- ---- the answer, one law for each way it goes

module _ (file book : List ℕ) (r : Reading) (store : List Level) where
  pub answer-rule : (f : Refusal) → check_answer file ≡ refusal_says f → reading_answer file book r store ≡ refusal_says f
  unfolding reading_answer reading_check refusal_says
  answer-rule f e = giving-stops _ (giving-stops _ (check-stops file f e))

  module _ {rule : Rule} (h : RuleOf file rule) where
    pub answer-short : length book < rule.states + 1 → reading_answer file book r store ≡ refused 6 0
    unfolding reading_answer reading_check
    answer-short short =
        giving-stops _ (giving-passes _ h.accepted ∙ short-stops (rule_of file) book _ (omega (arith, states-are h)))

    module _ (long : rule.states + 1 ≤ length book) where
      pub answer-unread : not_reading (rule_of file) book r store ≡ true → reading_answer file book r store ≡ refused 13 0
      unfolding reading_answer reading_check
      answer-unread is =
          giving-stops _
          (giving-passes _ h.accepted ∙ (long-passes (rule_of file) book _ (omega (arith, states-are h)) ∙ refuse-stops 13 0 _ is))

      pub answer-fine : not_reading (rule_of file) book r store ≡ false → reading_answer file book r store ≡ given rule
      unfolding reading_answer reading_check
      answer-fine is_not =
          giving-passes _
          (giving-passes _ h.accepted ∙ (long-passes (rule_of file) book _ (omega (arith, states-are h)) ∙ refuse-passes 13 0 _ is_not))
          ∙ ap given h.numbers

  -- ---- a check that passed

  module _ {rule : Rule} (passed : reading_answer file book r store ≡ given rule) where
    pub fine-feeds : Feeds file rule book r store
    unfolding reading_answer numbers_of
    fine-feeds =
        let g = giving-given (reading_check file book r store) (λ R. given (numbers_of R)) passed in
        let c = check-says file book r store g.1 in
        let same = accepted-rule file c.accepted in
        let numbers : numbers_of g.0 ≡ rule = cc g.2 in
        let states : g.0.states ≡ rule.states = ap (λ (n : Rule). n.states) numbers in
        record {
          ruled = record { accepted = rw same c.accepted; numbers = rw same numbers };
          book_long = omega (arith, c.long_enough);
          is_reading = rw same c.is_reading;
        }

    fine-passes : reading_check file book r store ≡ given (rule_of file)
    fine-passes =
        let h = fine-feeds in
        check-passes file book r store
        (record {
          accepted = h.ruled.accepted;
          long_enough = omega (arith, h.book_long, states-are h.ruled);
          is_reading = h.is_reading;
        })

    -- what feeding comes to is what the call comes to
    pub fine-fed : (ceiling : ℕ) (events : List ℕ)
        → feed_by (store_step (rule_of file) book ceiling) (over r store) events ≡ feed_call file book ceiling r store events
    fine-fed ceiling events = sym (feed-checked _ _ _ _ _ _ fine-passes)

    -- and the end of the reading is the call's
    pub fine-ends : end_of (rule_of file) r (top_of r store) ≡ finish_call file book r store
    fine-ends = sym (finish-checked _ _ _ _ fine-passes)

    pub fine-state : r.state < rule.states
    fine-state = (turn-ready fine-feeds).states.state_in

  -- ---- a check that was refused

  module _ (f : Refusal) (stopped : reading_answer file book r store ≡ refusal_says f) where
    refused-reads : reading_check file book r store ≡ refused f.number f.place
    unfolding reading_answer refusal_says
    refused-reads = giving-refused (reading_check file book r store) _ _ _ (λ R. (numbers_of R, refl)) stopped

    -- no event is taken, and nothing changes
    pub refused-fed : (ceiling : ℕ) (events : List ℕ)
        → FedIs (feed_call file book ceiling r store events) r (record { taken = 0; reading = r; ended = Err f }) store
    unfolding says refusal_says
    refused-fed ceiling events =
        rw (feed-unchecked file book r store ceiling events refused-reads)
        (record { reading_is = refl; ended_is = refl; taken_is = omega arith; store_is = refl })

    pub refused-ends : finish_call file book r store ≡ refusal_says f
    unfolding refusal_says
    refused-ends = finish-unchecked _ _ _ _ refused-reads

-- what feeding answers, from where it ended
pub fed-answer : {w : Went Stored} {before : Reading} {room : ℕ} {g : Going} {store : List Level} → Gone w before room g store
    → FedIs w before (fed_of before g) store
unfolding fed_of
fed-answer h = record { reading_is = rw h.comes; ended_is = rw h.comes; taken_is = rw h.comes; store_is = rw h.comes }
