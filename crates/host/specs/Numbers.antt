-- What the exported calls lay into the lent answer: the number of the refusal or 0, its place or 0, and then the values that
-- were given. They go in front of what the answer held; an answer that is too short for them stays as it was.
use Rattle.std.specs.Prelude.{ℕ, ◌≡◌, Bool, List, [], ◌∷◌, ◌++◌, length, drop, if◌then◌else◌}
use Rattle.meaning.specs.Answers.{Answer, given, refused, ◌≤?◌}
use Rattle.meaning.specs.FullReading.{Went}
use Rattle.meaning.specs.Calls.{Judged, Stored, events_taken, Whole, verdict_says}
use Rattle.meaning.specs.declared.Judgement.{Judgement}
use Rattle.meaning.specs.declared.Level.{Level}
use Rattle.meaning.specs.declared.Opening.{Opening}
use Rattle.meaning.specs.declared.Reading.{Reading}
use Rattle.rule.specs.declared.Rule.{Rule}

-- ---- numbers in front of what a slice held

unfoldable pub fits : List ℕ → List ℕ → Bool
fits numbers held = length numbers ≤? length held

unfoldable pub in_front : List ℕ → List ℕ → List ℕ
in_front numbers held = if fits numbers held then numbers ++ drop (length numbers) held else held

-- what a call says of the lent answer: whether the numbers fitted, and what it then holds
pub record Laid (numbers held : List ℕ) (fitted : Bool) (held' : List ℕ) : Type 0 where
  pub fitted_is : fitted ≡ fits numbers held
  pub held_is : held' ≡ in_front numbers held

-- ---- the numbers of an answer

unfoldable pub answer_numbers : {A : Type 0} → (A → List ℕ) → Answer A → List ℕ
answer_numbers values (given a) = 0 ∷ 0 ∷ values a
answer_numbers values (refused number place) = number ∷ place ∷ []

-- n, the initial state, the tree start and k
abbrev pub rule_values : Rule → List ℕ
rule_values R = R.states ∷ R.initial ∷ R.tree_start ∷ R.letters ∷ []

-- the count of bytes written
abbrev pub count_value : ℕ → List ℕ
count_value count = count ∷ []

-- the state, the stored depth, the skip depth, the events taken and the looks made
abbrev pub reading_values : Reading → List ℕ
reading_values r = r.state ∷ r.depth ∷ r.skip ∷ r.taken ∷ r.looks ∷ []

-- how many states are still, and the fresh reading
abbrev pub opening_values : Opening → List ℕ
opening_values o = o.still ∷ reading_values o.reading

-- the class of the verdict, and the end state
abbrev pub judged_values : Judged → List ℕ
judged_values j = j.class ∷ j.state ∷ []

-- the same of the verdict itself
abbrev pub judgement_values : Judgement → List ℕ
judgement_values j = verdict_says j.verdict ∷ j.state ∷ []

-- Feeding has its values also where it was refused: the events that it took, and the reading after them.
unfoldable pub fed_numbers : Answer Unit → ℕ → Reading → List ℕ
fed_numbers (given done) took r = 0 ∷ 0 ∷ took ∷ reading_values r
fed_numbers (refused number place) took r = number ∷ place ∷ took ∷ reading_values r

-- the same of what the definition of feeding says, from the reading before it
abbrev pub went_numbers : Reading → Went Stored → List ℕ
went_numbers before w = fed_numbers w.ended (events_taken before w) w.last.reading

-- ---- a reading, which a host hands over as five numbers

abbrev pub reading_from : ℕ → ℕ → ℕ → ℕ → ℕ → Reading
reading_from state depth skip taken looks =
    record { state = state; depth = depth; skip = skip; taken = taken; looks = looks }

-- ---- what feeding and the whole-document call say of the lent answer and of what else was lent

pub record FeedLaid (w : Went Stored) (before : Reading) (held : List ℕ) (fitted : Bool) (store : List Level) (held' : List ℕ) : Type 0 where
  pub laid : Laid (went_numbers before w) held fitted held'
  pub store_is : store ≡ w.last.store

pub record DocumentLaid (w : Whole) (held : List ℕ) (fitted : Bool) (book : List ℕ) (store : List Level) (held' : List ℕ) : Type 0 where
  pub laid : Laid (answer_numbers judged_values w.answer) held fitted held'
  pub book_is : book ≡ w.book
  pub store_is : store ≡ w.store
