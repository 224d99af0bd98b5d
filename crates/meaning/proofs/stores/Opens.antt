-- Opening: where it gives its answer, the file is accepted, the book had room and now holds the rule's skip book, the reading is the
-- fresh one of that rule, and the count is of the states that are still. So whoever calls open, feed and finish has the premises
-- of what is proved of these calls; and every accepted file is opened, where there is room for its book.
use mathlib.Core.Path.{◌≡◌, ◌∙◌}
use mathlib.Core.List.{List}
use Prim.Native.Nat.{ℕ, ◌+◌, ◌≤◌}
use native.Mathlib.Omega.{arith}
use native.Mathlib.Nat.{not-suc-le-zero}
use lib.Count.{ones}
use lib.ListN.{length, drop, length-append, length-drop}
use Rattle.meaning.specs.declared.Level.{Level}
use Rattle.meaning.specs.declared.Opening.{Opening}
use Rattle.meaning.specs.Answers.{given, refused}
use Rattle.meaning.specs.RuleFile.{Rule, check_rule, rule_of}
use Rattle.meaning.specs.FullReading.{fresh_reading}
use Rattle.meaning.specs.SkipBook.{IsBook, word_of, still_marks, make_book}
use Rattle.meaning.specs.Calls.{open_call, opened_book, reading_check}
use Rattle.meaning.proofs.rulefile.Accepted.{accepted-rule, accepted-is-rule}
use Rattle.meaning.proofs.laws.Answered.{giving-given, giving-passes, giving-stops, refuse-given}
use Rattle.meaning.proofs.skipbook.BookLong.{long-given}
use Rattle.meaning.proofs.skipbook.BookMade.{book-length, made-is-book, after-given, always-made}
use Rattle.meaning.proofs.stores.ReadingCheck.{check-passes}
use Rattle.meaning.proofs.stores.KeptReading.{IsReading, reading-is}

-- ---- how it goes

pub open-unchecked : (file book : List ℕ) {number place : ℕ} → check_rule file ≡ refused number place → open_call file book ≡ refused number place
unfolding open_call
open-unchecked file book e = giving-stops _ e

module _ (file book : List ℕ) {R : Rule} (accepted : check_rule file ≡ given R) where
  pub open-unmade : {number place : ℕ} → make_book R book ≡ refused number place → open_call file book ≡ refused number place
  unfolding open_call
  open-unmade e = giving-passes _ accepted ∙ giving-stops _ e

  pub open_made : {count : ℕ} → make_book R book ≡ given count
      → open_call file book ≡ given (record { reading = fresh_reading R; still = count })
  unfolding open_call
  open_made e = giving-passes _ accepted ∙ giving-passes _ e

-- ---- what an opening that gave its answer says

pub record OpenSays (file book : List ℕ) (o : Opening) : Type 0 where
  pub accepted : check_rule file ≡ given (rule_of file)
  pub long_enough : (rule_of file).states + 1 ≤ length book
  pub first_is : o.reading ≡ fresh_reading (rule_of file)
  pub still_is : o.still ≡ ones (word_of (still_marks (rule_of file)))

pub open-says : (file book : List ℕ) {o : Opening} → open_call file book ≡ given o → OpenSays file book o
unfolding open_call make_book
open-says file book {o} e =
    let g = giving-given (check_rule file) _ e in
    let m = giving-given (make_book g.0 book) _ g.2 in
    let same : rule_of file ≡ g.0 = accepted-rule file g.1 in
    let six = long-given g.0 book _ m.1 in
    let fifteen = refuse-given 15 0 _ _ six.1 in
    let first : o.reading ≡ fresh_reading g.0 = cc m.2 in
    let still : o.still ≡ ones (word_of (still_marks g.0)) = cc (m.2, fifteen.1) in
    record {
      accepted = rw same g.1;
      long_enough = rw same six.0;
      first_is = rw same first;
      still_is = rw same still;
    }

-- ---- the book that it wrote

module _ (file book : List ℕ) {o : Opening} (opened : open_call file book ≡ given o) where
  -- it is as long as the one that was lent
  pub opened-length : length (opened_book file book) ≡ length book
  opened-length =
      rw (after-given _ (rule_of file) book opened)
      (simp (length-append, length-drop, book-length) (omega (arith, (open-says file book opened).long_enough)))

  -- so it has n+1 words or more
  pub opened-long : (rule_of file).states + 1 ≤ length (opened_book file book)
  opened-long = omega (arith, opened-length, (open-says file book opened).long_enough)

  -- it is the skip book of the file's rule
  pub open-writes : IsBook (rule_of file) (opened_book file book)
  open-writes =
      let says = open-says file book opened in
      rw (after-given _ (rule_of file) book opened) (made-is-book (rule_of file) (accepted-is-rule file says.accepted) (drop ((rule_of file).states + 1) book))

-- every accepted file is opened, where there is room for its book
pub always-opens : (file book : List ℕ) {R : Rule} → check_rule file ≡ given R → R.states + 1 ≤ length book
    → open_call file book ≡ given (record { reading = fresh_reading R; still = ones (word_of (still_marks R)) })
always-opens file book {R} e room = open_made file book e (always-made R book (accepted-is-rule file e) room)

-- ---- the fresh reading passes every check

-- it is a reading, over any store and with any book
pub fresh-reading : (file book : List ℕ) (store : List Level) {R : Rule} → check_rule file ≡ given R
    → IsReading R book (fresh_reading R) store
unfolding fresh_reading
fresh-reading file book store e =
    record {
      state_in = (accepted-is-rule file e).initial_in;
      within = omega arith;
      above_in = λ i h. absurd (not-suc-le-zero h);
      skips_settled = λ h. absurd (not-suc-le-zero h);
      nested = omega arith;
      looks_in = omega arith;
    }

pub fresh-checked : (file book : List ℕ) (store : List Level) {R : Rule} → check_rule file ≡ given R → R.states + 1 ≤ length book
    → reading_check file book (fresh_reading R) store ≡ given R
fresh-checked file book store {R} e long =
    check-passes file book (fresh_reading R) store
    (record {
      accepted = e;
      long_enough = long;
      is_reading = reading-is R book (fresh_reading R) store (fresh-reading file book store e);
    })

-- so the reading that opening gave passes the check of feed and finish, with any book of n+1 words: the one that it wrote, or
-- one of zeros
pub opened-checked : (file lent book : List ℕ) (store : List Level) {o : Opening} → open_call file lent ≡ given o
    → (rule_of file).states + 1 ≤ length book → reading_check file book o.reading store ≡ given (rule_of file)
opened-checked file lent book store opened long =
    let says = open-says file lent opened in
    rw says.first_is (fresh-checked file book store says.accepted long)
