-- What feed and finish check first: the check passes exactly if the file is accepted, the book is long enough and what was
-- handed in is a reading. Feeding then goes by the steps, or ends before the first event, and what it leaves passes again.
use mathlib.Core.Path.{◌≡◌, ap, ◌∙◌}
use mathlib.Core.Bool.{false}
use mathlib.Core.List.{List}
use Prim.Native.Nat.{ℕ, ◌+◌, ◌≤◌}
use lib.ListN.{length}
use Rattle.meaning.specs.declared.Reading.{Reading}
use Rattle.meaning.specs.declared.Level.{Level}
use Rattle.meaning.specs.Answers.{given, refused}
use Rattle.meaning.specs.RuleFile.{Rule, check_rule}
use Rattle.meaning.specs.FullReading.{feed_by}
use Rattle.meaning.specs.Calls.{Stored, store_step, not_reading, reading_check, fed_from, feed_call, top_of, end_of, finish_call}
use Rattle.meaning.proofs.rulefile.Accepted.{accepted-is-rule}
use Rattle.meaning.proofs.skipbook.BookLong.{long-passes, long-given}
use Rattle.meaning.proofs.stores.KeptReading.{feeding-keeps-reading}
use Rattle.meaning.proofs.laws.Answered.{refuse-given, refuse-passes, giving-given, giving-passes, giving-stops}

pub record Checked (file book : List ℕ) (r : Reading) (store : List Level) (R : Rule) : Type 0 where
  pub accepted : check_rule file ≡ given R
  pub long_enough : R.states + 1 ≤ length book
  pub is_reading : not_reading R book r store ≡ false

module _ (file book : List ℕ) (r : Reading) (store : List Level) where
  pub check-says : {R : Rule} → reading_check file book r store ≡ given R → Checked file book r store R
  unfolding reading_check
  check-says {R} e =
      let g = giving-given (check_rule file) _ e in
      let six = long-given g.0 book _ g.2 in
      let thirteen = refuse-given 13 0 _ _ six.1 in
      let same : g.0 ≡ R = cc thirteen.1 in
      record {
        accepted = g.1 ∙ ap given same;
        long_enough = rw (← same) six.0;
        is_reading = rw (← same) thirteen.0;
      }

  pub check-passes : {R : Rule} → Checked file book r store R → reading_check file book r store ≡ given R
  unfolding reading_check
  check-passes {R} c =
      giving-passes _ c.accepted ∙ (long-passes R book _ c.long_enough ∙ refuse-passes 13 0 _ c.is_reading)

  -- ---- feeding after the check

  pub feed-checked : {R : Rule} (ceiling : ℕ) (es : List ℕ) → reading_check file book r store ≡ given R
      → feed_call file book ceiling r store es ≡ feed_by (store_step R book ceiling) (record { reading = r; store = store }) es
  unfolding feed_call fed_from
  feed-checked ceiling es e = rw (e, fed_from)

  pub feed-unchecked : {number place : ℕ} (ceiling : ℕ) (es : List ℕ) → reading_check file book r store ≡ refused number place
      → feed_call file book ceiling r store es ≡ record { last = record { reading = r; store = store }; ended = refused number place }
  unfolding feed_call fed_from
  feed-unchecked ceiling es e = rw (e, fed_from)

  -- ---- finish after the check

  pub finish-checked : {R : Rule} → reading_check file book r store ≡ given R
      → finish_call file book r store ≡ end_of R r (top_of r store)
  unfolding finish_call
  finish-checked e = giving-passes _ e

  pub finish-unchecked : {number place : ℕ} → reading_check file book r store ≡ refused number place
      → finish_call file book r store ≡ refused number place
  unfolding finish_call
  finish-unchecked e = giving-stops _ e

-- what feeding leaves passes the check again
pub fed-checked : (file book : List ℕ) (ceiling : ℕ) (s : Stored) (es : List ℕ) {R : Rule}
    → reading_check file book s.reading s.store ≡ given R
    → reading_check file book (feed_by (store_step R book ceiling) s es).last.reading (feed_by (store_step R book ceiling) s es).last.store
    ≡ given R
fed-checked file book ceiling s es {R} e =
    let c = check-says file book s.reading s.store e in
    check-passes file book _ _
    (record {
      accepted = c.accepted;
      long_enough = c.long_enough;
      is_reading = feeding-keeps-reading (accepted-is-rule file c.accepted) book ceiling s es c.is_reading;
    })
