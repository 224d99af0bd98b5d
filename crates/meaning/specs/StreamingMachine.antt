-- The 2024 paper's streaming machine (document 004, section 9.1): a state and a stack of states, one event after the other. It
-- knows no limits: no level store, no ceiling and no count of events. The stack has the state above the innermost open tree first.
use Rattle.std.specs.Prelude.{ℕ, zero, suc, ◌+◌, ◌<◌, ◌≤◌, ◌≡◌, List, [], ◌∷◌, ◌++◌, length}
use Rattle.meaning.specs.declared.Level.{Level}
use Rattle.meaning.specs.Answers.{given}
use Rattle.meaning.specs.RuleFile.{Rule, to, letter_move, tree_move, tree_start_move}
use Rattle.meaning.specs.FullReading.{most_events, Run, Went}
use Rattle.meaning.specs.Hedges.{Hedge, events_of, Goes, deepest}

-- from a state and a stack, by some events, to a state and a stack
pub data Streams (R : Rule) : ℕ → List ℕ → List ℕ → ℕ → List ℕ → Type 0 where
  reads_nothing : {q : ℕ} {σ : List ℕ} → Streams R q σ [] q σ
  reads_letter : {q q' q'' a : ℕ} {σ σ'' es : List ℕ} → a < R.letters → letter_move R q a ≡ to q' → Streams R q' σ es q'' σ''
      → Streams R q σ (suc (suc a) ∷ es) q'' σ''
  reads_open : {q p q'' : ℕ} {σ σ'' es : List ℕ} → tree_start_move R ≡ to p → Streams R p (q ∷ σ) es q'' σ''
      → Streams R q σ (zero ∷ es) q'' σ''
  reads_close : {q u q' q'' : ℕ} {σ σ'' es : List ℕ} → tree_move R u q ≡ to q' → Streams R q' σ es q'' σ''
      → Streams R q (u ∷ σ) (suc zero ∷ es) q'' σ''

-- A partial run of the automaton above a stack, on a first part of the events of a hedge: a whole hedge, or a hedge, the open of
-- a tree, and a partial run inside that tree.
pub data PartialRun (R : Rule) : ℕ → List ℕ → List ℕ → ℕ → List ℕ → Type 0 where
  of_hedge : {q q' : ℕ} {σ es : List ℕ} (h : Hedge) → events_of h ≡ es → Goes R q h q' → PartialRun R q σ es q' σ
  into_tree : {q u p q' : ℕ} {σ σ' es fs : List ℕ} (h : Hedge) → events_of h ++ (0 ∷ fs) ≡ es → Goes R q h u → tree_start_move R ≡ to p
      → PartialRun R p (u ∷ σ) fs q' σ' → PartialRun R q σ es q' σ'

-- the states above the open levels: full reading's stack
unfoldable pub aboves : List Level → List ℕ
aboves [] = []
aboves (l ∷ ls) = l.above ∷ aboves ls

-- Store, ceiling and event limit suffice for a stream in full reading, of which every event is a look: the store for the most
-- trees open at once, the ceiling for the looks, and the limit for the count of events, from a run on.
pub record Suffices (room ceiling : ℕ) (m : Run) (events : List ℕ) : Type 0 where
  pub levels : deepest m.reading.depth events ≤ room
  pub looks : m.reading.looks + length events ≤ ceiling
  pub taken : m.reading.taken + length events ≤ most_events

-- a run whose levels are those that its reading counts, and which is within the limits
pub record WithinLimits (room ceiling : ℕ) (m : Run) : Type 0 where
  pub stored : m.reading.depth ≡ length m.levels
  pub levels : m.reading.depth ≤ room
  pub looks : m.reading.looks ≤ ceiling
  pub taken : m.reading.taken ≤ most_events

-- full reading took all events, and stands in a state with the states above its levels as a stack
pub record Arrives (w : Went Run) (q : ℕ) (σ : List ℕ) : Type 0 where
  pub all_taken : w.ended ≡ given tt
  pub in_state : w.last.reading.state ≡ q
  pub with_stack : aboves w.last.levels ≡ σ
  pub stored : w.last.reading.depth ≡ length w.last.levels

-- feeding took all events, and came to a state with these levels
pub record Comes (fed : Went Run) (q : ℕ) (levels : List Level) : Type 0 where
  pub all_taken : fed.ended ≡ given tt
  pub in_state : fed.last.reading.state ≡ q
  pub with_levels : fed.last.levels ≡ levels
