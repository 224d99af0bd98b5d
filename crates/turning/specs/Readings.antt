-- What the code may count on of a reading: that its states are the rule's, that its counts are within the events taken, and that
-- a book has the words and the bits that are asked of it.
use Rattle.std.specs.Prelude.{ℕ, ◌+◌, ◌≤◌, ◌<◌, List, length}
use Rattle.meaning.specs.declared.Reading.{Reading}
use Rattle.meaning.specs.declared.Level.{Level}
use Rattle.rule.specs.declared.Rule.{Rule}

-- the state, and the state above if there is one, are states of the rule
pub record StatesIn (rule : Rule) (r : Reading) (top : Level) : Type 0 where
  pub state_in : r.state < rule.states
  pub above_in : 0 < r.depth → top.above < rule.states

-- the levels and the looks are within the events taken
pub record Counted (r : Reading) : Type 0 where
  pub levels_taken : r.depth + r.skip ≤ r.taken
  pub looks_taken : r.looks ≤ r.taken

-- the book has a word for still and one for the state above, if there is one, and each word has a bit for the state
pub record BookServes (book : List ℕ) (r : Reading) (top : Level) : Type 0 where
  pub state_bit : r.state < 64
  pub still_word : 0 < length book
  pub hold_word : 0 < r.depth → 1 + top.above < length book
