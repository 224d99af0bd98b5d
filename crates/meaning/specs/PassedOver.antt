-- Passed over (document 01, "Skipping"), said of a full reading: which events the rule's book makes needless.
use Rattle.std.specs.Prelude.{ℕ, ◌+◌, ◌≡◌, Bool, true, false, not, ◌&&◌, ◌||◌, List, [], ◌∷◌, if◌then◌else◌}
use Rattle.meaning.specs.declared.Level.{Level}
use Rattle.meaning.specs.Answers.{Answer, given, refused}
use Rattle.meaning.specs.RuleFile.{Rule}
use Rattle.meaning.specs.FullReading.{Event, opens, closes, letter, event_of, Run, innermost, full_step}
use Rattle.meaning.specs.Hedges.{well_nested}
use Rattle.meaning.specs.SkipBook.{in_still, in_hold}
use Rattle.meaning.specs.Skipping.{settled, skip_run}

-- the level with that state inside those levels is in hold of the state above it; the top has no state above it
unfoldable pub level_held : List ℕ → ℕ → List Level → Bool
level_held book q [] = false
level_held book q (l ∷ ls) = in_hold book l.above q

-- the level with that state inside those levels is settled
unfoldable pub level_settled : List ℕ → ℕ → List Level → Bool
level_settled book q ls = in_still book q || level_held book q ls

-- some level outside is settled, top included: the state of the next level outwards is the state above this one
unfoldable pub outside_settled : List ℕ → List Level → Bool
outside_settled book [] = false
outside_settled book (l ∷ ls) = level_settled book l.above ls || outside_settled book ls

-- the exception: a close of a level settled only by still, with nothing outside settled
unfoldable pub closes_still : List ℕ → ℕ → List Level → Event → Bool
closes_still book q ls opens = false
closes_still book q ls (letter a) = false
closes_still book q ls closes = not (level_held book q ls) && not (outside_settled book ls)

-- An event is passed over if, just before it, the level it stands on or any level outside it is settled, with that one
-- exception. An open or letter stands on the current level; a close stands on the level it ends, which is the current one.
unfoldable pub passed_over : List ℕ → Run → ℕ → Bool
passed_over book m e =
    (level_settled book m.reading.state m.levels || outside_settled book m.levels)
    && not (closes_still book m.reading.state m.levels (event_of e))

-- how many events of a full reading are not passed over
unfoldable pub then_count : Answer Run → (Run → ℕ) → ℕ
then_count (given m) rest = rest m
then_count (refused number place) rest = 0

unfoldable pub not_passed_over : Rule → List ℕ → ℕ → ℕ → Run → List ℕ → ℕ
not_passed_over R book room ceiling m [] = 0
not_passed_over R book room ceiling m (e ∷ es) =
    (if passed_over book m e then 0 else 1)
    + then_count (full_step R room ceiling m e) (λ next. not_passed_over R book room ceiling next es)

-- A passed-over part, for the exchange in demand 3: a well-nested run (it may be empty) that skipping takes at one settled level.
-- It stands after the events before it, all of which skipping has taken.
pub record PassedOverPart (R : Rule) (book : List ℕ) (room ceiling : ℕ) (before part : List ℕ) : Type 0 where
  pub reached : (skip_run R book room ceiling before).ended ≡ given tt
  pub on_settled : settled book (skip_run R book room ceiling before).last.reading
      (innermost (skip_run R book room ceiling before).last.levels) ≡ true
  pub nested : well_nested R.letters part ≡ true
