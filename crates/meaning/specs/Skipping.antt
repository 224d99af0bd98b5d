-- Skipping (document 01, "Skipping"): on a settled level nothing is looked up until the close that ends it. Any book is
-- obeyed as it stands.
use Rattle.std.specs.Prelude.{ℕ, ◌+◌, ◌-◌, ◌<◌, ◌≡◌, Bool, ◌&&◌, ◌||◌, List, get_or, if◌then◌else◌}
use Rattle.meaning.specs.declared.Reading.{Reading}
use Rattle.meaning.specs.declared.Level.{Level}
use Rattle.meaning.specs.Answers.{Answer, given, ◌giving◌, ◌<?◌}
use Rattle.meaning.specs.RuleFile.{Rule}
use Rattle.meaning.specs.FullReading.{Event, opens, closes, letter, event_of, Turn, stays, ends, full_turn, known_event, Run, innermost, run_after, Went, feed_by, fresh_run}
use Rattle.meaning.specs.SkipBook.{in_still, in_hold}

-- ---- settled levels

-- the level has an upper state u, and the state is in hold(u)
unfoldable pub held : List ℕ → Reading → Level → Bool
held book r top = 0 <? r.depth && in_hold book top.above r.state

-- a level is settled when its state is in still, or when it has an upper state u and the state is in hold(u)
unfoldable pub settled : List ℕ → Reading → Level → Bool
settled book r top = in_still book r.state || held book r top

-- ---- one event

-- the reading after an event that is no look: one event more
unfoldable pub passed : Reading → ℕ → ℕ → ℕ → Reading
passed r state depth skip = record { state = state; depth = depth; skip = skip; taken = r.taken + 1; looks = r.looks }

-- a close at skip depth zero ends the level: if the state is in hold(u), the state becomes u without a look; otherwise
-- as in full reading
unfoldable pub ends_level : Rule → List ℕ → ℕ → ℕ → Reading → Level → Answer Turn
ends_level R book room ceiling r top =
    if held book r top
    then given (ends (passed r top.above (r.depth - 1) r.skip))
    else full_turn R room ceiling r top closes

-- On a settled level letters change nothing; an open adds one to the skip depth; a close takes one off it if it is above
-- zero, and otherwise ends the level. None is a look.
unfoldable pub settled_turn : Rule → List ℕ → ℕ → ℕ → Reading → Level → Event → Answer Turn
settled_turn R book room ceiling r top (letter a) = given (stays (passed r r.state r.depth r.skip))
settled_turn R book room ceiling r top opens = given (stays (passed r r.state r.depth (r.skip + 1)))
settled_turn R book room ceiling r top closes =
    if 0 <? r.skip
    then given (stays (passed r r.state r.depth (r.skip - 1)))
    else ends_level R book room ceiling r top

unfoldable pub skip_turn : Rule → List ℕ → ℕ → ℕ → Reading → Level → Event → Answer Turn
skip_turn R book room ceiling r top e =
    if settled book r top
    then settled_turn R book room ceiling r top e
    else full_turn R room ceiling r top e

unfoldable pub skip_event : Rule → List ℕ → ℕ → ℕ → Reading → Level → ℕ → Answer Turn
skip_event R book room ceiling r top e = known_event R r e (skip_turn R book room ceiling r top (event_of e))

unfoldable pub skip_step : Rule → List ℕ → ℕ → ℕ → Run → ℕ → Answer Run
skip_step R book room ceiling m e =
    skip_event R book room ceiling m.reading (innermost m.levels) e giving λ turn. given (run_after m.levels turn)

-- some events read with skipping by a book, from a run on and from the first event on
abbrev pub skip_from : Rule → List ℕ → ℕ → ℕ → Run → List ℕ → Went Run
skip_from R book room ceiling m es = feed_by (skip_step R book room ceiling) m es

abbrev pub skip_run : Rule → List ℕ → ℕ → ℕ → List ℕ → Went Run
skip_run R book room ceiling es = skip_from R book room ceiling (fresh_run R) es

-- ---- a book of zeros, and the bits for n and above

-- every word of the book is zero
abbrev pub Zeros : List ℕ → Type 0
Zeros book = (i : ℕ) → get_or book i 0 ≡ 0

-- two books that say the same of every state of the rule, whatever their other bits and words are
pub record SameSets (R : Rule) (book book' : List ℕ) : Type 0 where
  pub still_same : (q : ℕ) → q < R.states → in_still book q ≡ in_still book' q
  pub hold_same : (u q : ℕ) → u < R.states → q < R.states → in_hold book u q ≡ in_hold book' u q
