-- Any book of n+1 words or more is obeyed as it stands, and the bits for n and above are ignored: feed and finish answer alike
-- with two books that say the same of every state of the rule. Where number 13 refuses, it refuses with either book; where it
-- passes, every state that is asked for lies below n, and stays there while events are taken.
use mathlib.Core.Path.{◌≡◌, refl, sym, ap, ◌∙◌}
use mathlib.Core.Bool.{Bool, true, false}
use mathlib.Core.Logic.{⊎_elim}
use mathlib.Core.List.{List, ◌++◌}
use Prim.Native.Nat.{ℕ, ◌+◌, ◌≤◌, ◌<◌}
use native.Mathlib.Omega.{arith}
use lib.ListN.{length, get_or-append}
use borrow.Author.Tests.{ltb-true}
use Rattle.std.proofs.lemmas.Bool.{cases_Bool}
use Rattle.meaning.specs.declared.Reading.{Reading}
use Rattle.meaning.specs.declared.Level.{Level}
use Rattle.meaning.specs.Answers.{Answer, given, refused, ◌giving◌, ◌<?◌}
use Rattle.meaning.specs.RuleFile.{Rule, IsRule, is_state, check_rule}
use Rattle.meaning.specs.FullReading.{Event, opens, closes, letter, event_of}
use Rattle.meaning.specs.SkipBook.{bit, in_still, in_hold}
use Rattle.meaning.specs.Skipping.{held, settled, ends_level, settled_turn, skip_turn, skip_event, SameSets, Zeros}
use Rattle.meaning.specs.Calls.{Stored, top_of, store_step, not_reading, reading_check, feed_call, finish_call}
use Rattle.meaning.proofs.laws.FeedKeeps.{feed-alike}
use Rattle.meaning.proofs.rulefile.Accepted.{accepted-is-rule}
use Rattle.meaning.proofs.skipbook.BookLong.{long-passes}
use Rattle.meaning.proofs.stores.KeptReading.{IsReading, is-reading, reading-is, above_in_lem, event-keeps-reading}
use Rattle.meaning.proofs.stores.ReadingCheck.{check-says, feed-checked, feed-unchecked}
use Rattle.meaning.proofs.stores.ZeroBook.{zero_bit, none-still}

-- ---- books with the same sets

pub same_back : {R : Rule} {book book' : List ℕ} → SameSets R book book' → SameSets R book' book
same_back same =
    record { still_same = λ q h. sym (same.still_same q h); hold_same = λ u q h k. sym (same.hold_same u q h k) }

-- words past the n+1 play no part
pub words-past : (R : Rule) (book more : List ℕ) → R.states + 1 ≤ length book → SameSets R (book ++ more) book
unfolding in_still in_hold
words-past R book more long =
    record {
      still_same = λ q h. ap (λ w. bit w q) (get_or-append book more 0 0 (omega arith));
      hold_same = λ u q h k. ap (λ w. bit w q) (get_or-append book more 0 (1 + u) (omega arith));
    }

-- books of zeros say the same, however long they are
pub zeros-same : (R : Rule) (book book' : List ℕ) → Zeros book → Zeros book' → SameSets R book book'
unfolding in_hold
zeros-same R book book' none none' =
    record {
      still_same = λ q h. none-still book none q ∙ sym (none-still book' none' q);
      hold_same = λ u q h k. zero_bit _ q (none (1 + u)) ∙ sym (zero_bit _ q (none' (1 + u)));
    }

-- ---- what a reading asks of the book

-- two tests that fail together are the same
fails-alike : (a b : Bool) → (a ≡ false → b ≡ false) → (b ≡ false → a ≡ false) → a ≡ b
fails-alike false b f g = sym (f refl)
fails-alike true false f g = g refl
fails-alike true true f g = refl

below-states : (n q : ℕ) → is_state n q ≡ true → q < n
unfolding is_state
below-states n q e = ltb-true q n e

module _ {R : Rule} {book book' : List ℕ} (same : SameSets R book book') (r : Reading) (top : Level)
    (state_in : is_state R.states r.state ≡ true) (above_in : 0 < r.depth → is_state R.states top.above ≡ true) where
  -- the innermost record is asked for only where a level is open
  held-alike : held book r top ≡ held book' r top
  unfolding held
  held-alike =
      ⊎_elim
      (λ deep.
      cc (same.hold_same top.above r.state (below-states _ _ (above_in (ltb-true 0 _ deep))) (below-states _ _ state_in)))
      (λ flat. rw flat) (cases_Bool (0 <? r.depth))

  settled-alike : settled book r top ≡ settled book' r top
  unfolding settled
  settled-alike = cc (same.still_same r.state (below-states _ _ state_in), held-alike)

  -- an event leads to the same
  ends-alike : (room ceiling : ℕ) → ends_level R book room ceiling r top ≡ ends_level R book' room ceiling r top
  unfolding ends_level
  ends-alike room ceiling = rw held-alike

  settled-turn-alike : (room ceiling : ℕ) (event : Event)
      → settled_turn R book room ceiling r top event ≡ settled_turn R book' room ceiling r top event
  unfolding settled_turn
  settled-turn-alike room ceiling (letter a) = refl
  settled-turn-alike room ceiling opens = refl
  settled-turn-alike room ceiling closes = rw (ends-alike room ceiling)

  event-alike : (room ceiling e : ℕ) → skip_event R book room ceiling r top e ≡ skip_event R book' room ceiling r top e
  unfolding skip_event skip_turn
  event-alike room ceiling e = rw (settled-alike, settled-turn-alike room ceiling (event_of e))

-- ---- number 13

module _ {R : Rule} (rule : IsRule R) where
  module _ {book book' : List ℕ} (same : SameSets R book book') where
    still-a-reading : (r : Reading) (store : List Level) → IsReading R book r store → IsReading R book' r store
    still-a-reading r store i =
        let alike = settled-alike same r (top_of r store) i.state_in (above_in_lem rule book r store i) in
        record {
          state_in = i.state_in;
          within = i.within;
          above_in = i.above_in;
          skips_settled = λ h. sym alike ∙ i.skips_settled h;
          nested = i.nested;
          looks_in = i.looks_in;
        }

    reading-passes : (r : Reading) (store : List Level) → not_reading R book r store ≡ false → not_reading R book' r store ≡ false
    reading-passes r store e = reading-is R book' r store (still-a-reading r store (is-reading R book r store e))

    step-alike : (ceiling : ℕ) (s : Stored) (e : ℕ) → not_reading R book s.reading s.store ≡ false
        → store_step R book' ceiling s e ≡ store_step R book ceiling s e
    unfolding store_step
    step-alike ceiling s e is =
        let i = is-reading R book s.reading s.store is in
        rw (event-alike same s.reading (top_of s.reading s.store) i.state_in (above_in_lem rule book s.reading s.store i)
        (length s.store) ceiling e)

  not-reading-alike : {book book' : List ℕ} → SameSets R book book' → (r : Reading) (store : List Level)
      → not_reading R book r store ≡ not_reading R book' r store
  not-reading-alike same r store = fails-alike _ _ (reading-passes same r store) (reading-passes (same_back same) r store)

-- ---- the calls

module _ (file book book' : List ℕ) (r : Reading) (store : List Level) {R : Rule} (accepted : check_rule file ≡ given R)
    (long : R.states + 1 ≤ length book) (long' : R.states + 1 ≤ length book') (same : SameSets R book book') where
  check-alike : reading_check file book r store ≡ reading_check file book' r store
  unfolding reading_check ◌giving◌
  check-alike =
      rw (
        accepted,
        ◌giving◌,
        long-passes R book _ long,
        long-passes R book' _ long',
        not-reading-alike (accepted-is-rule file accepted) same r store,
      )

  pub books-finish-alike : finish_call file book r store ≡ finish_call file book' r store
  unfolding finish_call
  books-finish-alike = rw check-alike

  -- refused with both, or fed from a reading on
  fed-alike : (ceiling : ℕ) (events : List ℕ) (x : Answer Rule) → reading_check file book r store ≡ x
      → feed_call file book ceiling r store events ≡ feed_call file book' ceiling r store events
  fed-alike ceiling events (refused number place) e =
      feed-unchecked file book r store ceiling events e
      ∙ sym (feed-unchecked file book' r store ceiling events (sym check-alike ∙ e))
  fed-alike ceiling events (given S) e =
      let c = check-says file book r store e in
      let one : S ≡ R = cc c.accepted in
      let rule = accepted-is-rule file accepted in
      let checked : reading_check file book r store ≡ given R = e ∙ ap given one in
      feed-checked file book r store ceiling events checked
      ∙ sym (feed-alike (store_step R book ceiling) (store_step R book' ceiling)
      (λ s. not_reading R book s.reading s.store ≡ false) (event-keeps-reading rule book ceiling) (step-alike rule same ceiling)
      (record { reading = r; store = store }) events (check-says file book r store checked).is_reading)
      ∙ sym (feed-checked file book' r store ceiling events (sym check-alike ∙ checked))

pub books-feed-alike : (file book book' : List ℕ) (ceiling : ℕ) (r : Reading) (store : List Level) (events : List ℕ) {R : Rule}
    → check_rule file ≡ given R → R.states + 1 ≤ length book → R.states + 1 ≤ length book' → SameSets R book book'
    → feed_call file book ceiling r store events ≡ feed_call file book' ceiling r store events
books-feed-alike file book book' ceiling r store events accepted long long' same =
    fed-alike file book book' r store accepted long long' same ceiling events (reading_check file book r store) refl
