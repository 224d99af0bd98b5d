-- Feeding in parts: what a reading took so far and then more events is all of them, refused or not.
use mathlib.Core.Path.{◌≡◌, refl, sym, ap, ◌∙◌}
use mathlib.Core.Bool.{true, false}
use mathlib.Core.List.{List, ◌++◌}
use Prim.Native.Nat.{ℕ}
use lib.ListN.{replicate}
use Rattle.std.proofs.Common.{Result, Ok, Err, is_ok}
use Rattle.std.proofs.lemmas.Bool.{both_ways}
use Rattle.meaning.specs.Answers.{Answer, given, refused}
use Rattle.meaning.specs.RuleFile.{Rule, rule_of}
use Rattle.meaning.specs.FullReading.{Went, fresh_reading, blank}
use Rattle.meaning.specs.Calls.{Stored, says, refusal_says, store_step, reading_check, feed_call, largest_ceiling}
use Rattle.meaning.specs.CheckProgram.{program_fed, program_levels}
use Rattle.meaning.specs.declared.Reading.{Reading}
use Rattle.meaning.specs.declared.Level.{Level}
use Rattle.meaning.specs.declared.Refusal.{Refusal}
use Rattle.meaning.proofs.laws.FeedLaws.{feed-append-refused}
use Rattle.meaning.proofs.stores.ReadingCheck.{feed-checked, feed-unchecked}
use Rattle.meaning.proofs.stores.SplitFeeds.{split-feeds}
use Rattle.program.specs.Passes.{fed_on}

module _ (file book : List ℕ) (w : Went Stored) (events : List ℕ) where
  pub on-given : w.ended ≡ given tt
      → fed_on file book w events ≡ feed_call file book largest_ceiling w.last.reading w.last.store events
  unfolding fed_on
  on-given e = rw e

  pub on-refused : {number place : ℕ} → w.ended ≡ refused number place → fed_on file book w events ≡ w
  unfolding fed_on
  on-refused e = rw e

-- how a pass ended, by whether it was refused
pub ended-given : (r : Result (Unit {0}) Refusal) → is_ok r ≡ true → says r ≡ given tt
unfolding says
ended-given (Ok u) e = refl
ended-given (Err r) e = absurd (both_ways _ refl e)

pub ended-refused : (r : Result (Unit {0}) Refusal) → is_ok r ≡ false → (number : ℕ) × (place : ℕ) × (says r ≡ refused number place)
unfolding says refusal_says
ended-refused (Ok u) e = absurd (both_ways _ e refl)
ended-refused (Err r) e = (r.number, r.place, refl)

-- after a refusal no event is looked at
module _ (file book : List ℕ) (ceiling : ℕ) (r : Reading) (store : List Level) (xs ys : List ℕ) {number place : ℕ} where
  refused-feeds : (feed_call file book ceiling r store xs).ended ≡ refused number place
      → feed_call file book ceiling r store (xs ++ ys) ≡ feed_call file book ceiling r store xs
  refused-feeds h = go (reading_check file book r store) refl
    where
      go : (x : Answer Rule) → reading_check file book r store ≡ x
          → feed_call file book ceiling r store (xs ++ ys) ≡ feed_call file book ceiling r store xs
      go (refused n p) e =
          feed-unchecked file book r store ceiling (xs ++ ys) e ∙ sym (feed-unchecked file book r store ceiling xs e)
      go (given R) e =
          let first = feed-checked file book r store ceiling xs e in
          feed-checked file book r store ceiling (xs ++ ys) e
          ∙ (feed-append-refused (store_step R book ceiling) (record { reading = r; store = store }) xs ys (sym (ap (λ w. w.ended) first) ∙ h)
          ∙ sym first)

-- what was fed, and then more
pub fed-more : (file book xs ys : List ℕ) → fed_on file book (program_fed file book xs) ys ≡ program_fed file book (xs ++ ys)
unfolding program_fed
fed-more file book xs ys = go first.ended refl
  where
    r : Reading
    r = fresh_reading (rule_of file)

    store : List Level
    store = replicate program_levels blank

    first : Went Stored
    first = feed_call file book largest_ceiling r store xs

    go : (x : Answer Unit) → first.ended ≡ x
        → fed_on file book first ys ≡ feed_call file book largest_ceiling r store (xs ++ ys)
    go (given tt) e = on-given file book first ys e ∙ sym (split-feeds file book largest_ceiling r store xs ys e)
    go (refused number place) e =
        on-refused file book first ys e ∙ sym (refused-feeds file book largest_ceiling r store xs ys e)
