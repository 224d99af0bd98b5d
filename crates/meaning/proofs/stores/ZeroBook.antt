-- A book of zeros gives full reading: no level is settled by it, so each event is read as in full reading, and so is any run of
-- events, whatever the rule, the run and the limits are.
use mathlib.Core.Path.{◌≡◌, refl}
use mathlib.Core.Bool.{false}
use mathlib.Core.List.{List}
use Prim.Native.Nat.{ℕ, zero, suc, ◌+◌}
use native.Mathlib.Nat.{zero-div}
use lib.ListN.{get_or, replicate}
use Rattle.std.proofs.lemmas.Bool.{and_right}
use Rattle.meaning.specs.declared.Reading.{Reading}
use Rattle.meaning.specs.declared.Level.{Level}
use Rattle.meaning.specs.Answers.{◌<?◌}
use Rattle.meaning.specs.RuleFile.{Rule}
use Rattle.meaning.specs.FullReading.{Event, event_of, full_turn, full_event, Run, innermost, full_step, feed_by}
use Rattle.meaning.specs.SkipBook.{bit, in_still, in_hold}
use Rattle.meaning.specs.Skipping.{held, settled, skip_turn, skip_event, skip_step, Zeros}
use Rattle.meaning.proofs.laws.Answered.{if-false}
use Rattle.meaning.proofs.laws.FeedLaws.{feed-cong}

-- so many zeros are such a book
pub zeros : (n : ℕ) → Zeros (replicate n 0)
zeros zero i = refl
zeros (suc n) zero = refl
zeros (suc n) (suc i) = zeros n i

-- a word that is zero has no bit
pub zero_bit : (word p : ℕ) → word ≡ 0 → bit word p ≡ false
unfolding bit
zero_bit word p e = rw (e, zero-div)

module _ (book : List ℕ) (no_word : Zeros book) where
  pub none-still : (q : ℕ) → in_still book q ≡ false
  unfolding in_still
  none-still q = zero_bit (get_or book 0 0) q (no_word 0)

  none-held : (r : Reading) (top : Level) → held book r top ≡ false
  unfolding held in_hold
  none-held r top = and_right (0 <? r.depth) _ (zero_bit (get_or book (1 + top.above) 0) r.state (no_word (1 + top.above)))

  pub none-settled : (r : Reading) (top : Level) → settled book r top ≡ false
  unfolding settled
  none-settled r top = rw (none-still r.state, none-held r top)

  zero_turn : (R : Rule) (room ceiling : ℕ) (r : Reading) (top : Level) (e : Event)
      → skip_turn R book room ceiling r top e ≡ full_turn R room ceiling r top e
  unfolding skip_turn
  zero_turn R room ceiling r top e = if-false _ _ (none-settled r top)

  pub zero-step : (R : Rule) (room ceiling : ℕ) (m : Run) (e : ℕ) → skip_step R book room ceiling m e ≡ full_step R room ceiling m e
  unfolding skip_step full_step skip_event full_event
  zero-step R room ceiling m e = rw (zero_turn R room ceiling m.reading (innermost m.levels) (event_of e))

  pub zero-book : (R : Rule) (room ceiling : ℕ) (m : Run) (es : List ℕ)
      → feed_by (skip_step R book room ceiling) m es ≡ feed_by (full_step R room ceiling) m es
  zero-book R room ceiling m es = feed-cong (skip_step R book room ceiling) (full_step R room ceiling) (zero-step R room ceiling) m es
