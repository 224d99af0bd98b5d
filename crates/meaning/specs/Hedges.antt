-- The 2024 paper's own view (document 004, sections 2, 4.1 and 9.1): hedges, their events, and the steps of a stepwise hedge
-- automaton. Hedges are sequences of letters and trees; the paper takes them up to the laws of joining, so a hedge here is
-- nothing, or a letter and then a hedge, or a tree and then a hedge.
use Rattle.std.specs.Prelude.{ℕ, zero, suc, ◌+◌, ◌-◌, ◌<◌, max, ◌≡◌, Bool, true, false, ◌&&◌, List, [], ◌∷◌, ◌++◌, length}
use Rattle.meaning.specs.Answers.{◌<?◌, ◌=?◌}
use Rattle.meaning.specs.RuleFile.{Rule, Move, no_move, to, letter_move, tree_move, tree_start_move}
use Rattle.meaning.specs.FullReading.{Event, opens, closes, letter, event_of, Table, letter_table, start_table, tree_table}

infixr 20 ◌·◌
infixr 20 ⟨◌⟩·◌
pub data Hedge : Type 0 where
  ε : Hedge
  ◌·◌ : ℕ → Hedge → Hedge
  ⟨◌⟩·◌ : Hedge → Hedge → Hedge

-- the events of a hedge, the paper's nw: 0 opens a tree, 1 closes one, 2+a is letter a
unfoldable pub events_of : Hedge → List ℕ
events_of ε = []
events_of (a · h) = suc (suc a) ∷ events_of h
events_of (⟨ h ⟩· g) = 0 ∷ (events_of h ++ 1 ∷ events_of g)

-- a hedge over the rule's letters
unfoldable pub known : ℕ → Hedge → Bool
known k ε = true
known k (a · h) = a <? k && known k h
known k (⟨ h ⟩· g) = known k h && known k g

-- The automaton's steps (4.1.1): q goes to q' by a hedge over the rule's letters.
pub data Goes (R : Rule) : ℕ → Hedge → ℕ → Type 0 where
  by_nothing : {q : ℕ} → Goes R q ε q
  by_letter : {q q' q'' a : ℕ} {h : Hedge} → a < R.letters → letter_move R q a ≡ to q' → Goes R q' h q'' → Goes R q (a · h) q''
  by_tree : {q q' q'' p p' : ℕ} {h g : Hedge} → tree_start_move R ≡ to p → Goes R p h p' → tree_move R q p' ≡ to q'
      → Goes R q' g q'' → Goes R q (⟨ h ⟩· g) q''

-- Where reading a hedge from a state leads: to a state, or to the first event whose move is missing, with the table that
-- lacks it and the count of the hedge's events before it.
pub data Led : Type 0 where
  to_state : ℕ → Led
  missing_at : Table → ℕ → Led

-- the same after so many events
unfoldable pub later : ℕ → Led → Led
later n (to_state q) = to_state q
later n (missing_at table i) = missing_at table (n + i)

-- by a move at an event, and on
unfoldable pub by_move : Table → Move → ℕ → (ℕ → Led) → Led
by_move table no_move i next = missing_at table i
by_move table (to q) i next = next q

-- from where a part led, on
unfoldable pub from_there : Led → (ℕ → Led) → Led
from_there (to_state q) next = next q
from_there (missing_at table i) next = missing_at table i

unfoldable pub evaluate : Rule → ℕ → Hedge → Led
evaluate R q ε = to_state q
evaluate R q (a · h) = by_move letter_table (letter_move R q a) 0 (λ q'. later 1 (evaluate R q' h))
evaluate R q (⟨ h ⟩· g) =
    by_move start_table (tree_start_move R) 0
    (λ p. from_there (later 1 (evaluate R p h))
    (λ p'. by_move tree_table (tree_move R q p') (1 + length (events_of h))
    (λ q'. later (2 + length (events_of h)) (evaluate R q' g))))

-- how many levels a hedge opens at once
unfoldable pub height : Hedge → ℕ
height ε = 0
height (a · h) = height h
height (⟨ h ⟩· g) = max (suc (height h)) (height g)

-- ---- well-nested runs of known events

-- an event with so many trees open: a close lacks its open where none is
unfoldable pub nested_on : ℕ → Event → (ℕ → Bool) → Bool
nested_on depth opens rest = rest (suc depth)
nested_on zero closes rest = false
nested_on (suc depth) closes rest = rest depth
nested_on depth (letter a) rest = rest depth

-- with so many trees open, no close lacks its open and in the end no open lacks its close
unfoldable pub nested_from : ℕ → List ℕ → Bool
nested_from depth [] = depth =? 0
nested_from depth (e ∷ es) = nested_on depth (event_of e) (λ next. nested_from next es)

-- every event is known to a rule of k letters
unfoldable pub known_events : ℕ → List ℕ → Bool
known_events k [] = true
known_events k (e ∷ es) = e <? k + 2 && known_events k es

unfoldable pub well_nested : ℕ → List ℕ → Bool
well_nested k es = nested_from 0 es && known_events k es

-- ---- the height of a stream

-- an event with so many trees open, and the most that are open at once after it
unfoldable pub deepest_on : ℕ → Event → (ℕ → ℕ) → ℕ
deepest_on depth opens rest = rest (suc depth)
deepest_on depth closes rest = max depth (rest (depth - 1))
deepest_on depth (letter a) rest = rest depth

-- the most trees that are open at once in a stream, with so many open before it
unfoldable pub deepest : ℕ → List ℕ → ℕ
deepest depth [] = depth
deepest depth (e ∷ es) = deepest_on depth (event_of e) (λ next. deepest next es)
