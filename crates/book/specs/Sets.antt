-- What the parts of the making work on: words that stand for sets of states.
use Rattle.std.specs.Prelude.{◌≡◌, Bool, true, not, ◌&&◌, ◌||◌, List, ℕ, ◌<◌, get_or}
use Rattle.std.specs.Coded.{Coded-set, coded_ℕ, coded_bool, Π_prop}
use Rattle.meaning.specs.Answers.{◌<?◌}
use Rattle.meaning.specs.RuleFile as format
use Rattle.meaning.specs.RuleFile.{letter_move, tree_move}
use Rattle.meaning.specs.SkipBook.{any_below, goes_to, none_or, one_move, ends_in, reached_in, hold_marks, word_of, bit}

-- a word of 64 bits stands for the states that pass a test
unfoldable pub StandsFor : ℕ → (ℕ → Bool) → Type 0
StandsFor word test = (p : ℕ) → p < 64 → bit word p ≡ test p

-- the states of a set, and those that a table of sets has for a member
unfoldable pub joined : List ℕ → ℕ → ℕ → Bool
joined table set p = bit set p || any_below 64 (λ m. bit set m && bit (get_or table m 0) p)

-- only the first n states are members
unfoldable pub StatesOf : ℕ → ℕ → Type 0
StatesOf n set = (p : ℕ) → bit set p ≡ true → p < n

-- the states one letter move away, and those one tree move away with lower states from a set
unfoldable pub by_letters : format.Rule → ℕ → ℕ → Bool
by_letters R p p' = any_below R.letters (λ a. goes_to p' (letter_move R p a))

unfoldable pub by_trees : format.Rule → ℕ → ℕ → ℕ → Bool
by_trees R lowers p p' = any_below R.states (λ lower. bit lowers lower && goes_to p' (tree_move R p lower))

-- a table that has for each state the states one move away from it, by a letter or by a tree whose lower state is marked
unfoldable pub Moves : format.Rule → List Bool → List ℕ → Type 0
Moves R lowers table = (q : ℕ) → q < R.states → StandsFor (get_or table q 0) (one_move R lowers q)

pub Moves-prop : (R : format.Rule) (lowers : List Bool) (table : List ℕ) → IsProp (Moves R lowers table)
unfolding Moves StandsFor
Moves-prop R lowers table = Π_prop (λ q. Π_prop (λ h. Π_prop (λ p. Π_prop (λ l. Coded-set coded_bool _ _))))

-- a table with the tree moves of more lower states
unfoldable pub WithTrees : format.Rule → ℕ → List ℕ → List ℕ → Type 0
WithTrees R lowers table more =
    (q : ℕ) → q < R.states → StandsFor (get_or more q 0) (λ p. bit (get_or table q 0) p || by_trees R lowers q p)

-- the first n states, as far as they pass a test
unfoldable pub first_of : ℕ → (ℕ → Bool) → ℕ → Bool
first_of n test p = p <? n && test p

-- the lower states whose tree move with u is neither none nor u
unfoldable pub changing : format.Rule → ℕ → ℕ → Bool
changing R u = first_of R.states (λ p. not (none_or u (tree_move R u p)))

-- the word of the states in which a tree can end, as far as so many rounds find them
unfoldable pub ends_word : format.Rule → ℕ → ℕ
ends_word R i = word_of (ends_in R i)

-- that word, and a table of the moves with these lower states
pub record EndsFound (R : format.Rule) (i set : ℕ) (moves : List ℕ) : Type 0 where
  pub set_is : set ≡ ends_word R i
  pub moves_are : Moves R (ends_in R i) moves

pub EndsFound-prop : (R : format.Rule) (i set : ℕ) (moves : List ℕ) → IsProp (EndsFound R i set moves)
EndsFound-prop R i set moves a b =
    λ j. record {
      set_is = Coded-set coded_ℕ _ _ a.set_is b.set_is j;
      moves_are = Moves-prop R (ends_in R i) moves a.moves_are b.moves_are j;
    }

-- the word of the states reached from q in so many rounds, and a table of these words
unfoldable pub reached_word : format.Rule → ℕ → ℕ → ℕ
reached_word R i q = word_of (reached_in R i q)

unfoldable pub Reached : format.Rule → ℕ → List ℕ → Type 0
Reached R i table = (q : ℕ) → q < R.states → get_or table q 0 ≡ reached_word R i q

pub Reached-prop : (R : format.Rule) (i : ℕ) (table : List ℕ) → IsProp (Reached R i table)
unfolding Reached
Reached-prop R i table = Π_prop (λ q. Π_prop (λ h. Coded-set coded_ℕ _ _))

-- a table that has the word of hold(u) for each state u
unfoldable pub Holds : format.Rule → List ℕ → Type 0
Holds R table = (u : ℕ) → u < R.states → get_or table u 0 ≡ word_of (hold_marks R u)
