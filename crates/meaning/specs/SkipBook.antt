-- The skip book (document 01, "Skip book"): which states can still change, and which can still change the level above.
use Rattle.std.specs.Prelude.{ℕ, zero, suc, ◌+◌, ◌*◌, ◌/◌, ◌%◌, ◌^◌, ◌<◌, ◌≡◌, ◌↔◌, Bool, true, false, not, ◌&&◌, ◌||◌, List, [], ◌∷◌, ◌++◌, length, get_or, drop}
use Rattle.std.specs.Int.Count.{ones}
use Rattle.meaning.specs.Answers.{Answer, given, refused, refuse◌at◌when◌otherwise◌, ◌and_then◌, ◌<?◌, ◌=?◌}
use Rattle.meaning.specs.RuleFile.{Rule, Move, no_move, to, letter_move, tree_move, tree_start_move}

-- ---- Reach

-- The states in which a tree can end: the least set that holds the tree start, if there is one, and every state got from a
-- member by a letter move or by a tree move with a lower state from that very set.
pub data CanEndTree (R : Rule) : ℕ → Type 0 where
  start_ends : {p : ℕ} → tree_start_move R ≡ to p → CanEndTree R p
  letter_ends : {p p' : ℕ} (a : ℕ) → CanEndTree R p → a < R.letters → letter_move R p a ≡ to p' → CanEndTree R p'
  tree_ends : {p p' : ℕ} (lower : ℕ) → CanEndTree R p → CanEndTree R lower → tree_move R p lower ≡ to p' → CanEndTree R p'

-- Reach(q), the least set that holds q and every state got from a member by a letter move or by a tree move with a lower
-- state in which a tree can end. None adds nothing, and if the tree start is none, no tree move counts.
pub data Reach (R : Rule) (q : ℕ) : ℕ → Type 0 where
  itself : Reach R q q
  by_letter : {p p' : ℕ} (a : ℕ) → Reach R q p → a < R.letters → letter_move R p a ≡ to p' → Reach R q p'
  by_tree : {p p' : ℕ} (lower : ℕ) → Reach R q p → CanEndTree R lower → tree_move R p lower ≡ to p' → Reach R q p'

-- ---- still and hold

-- q is still: Reach(q) = {q}
unfoldable pub Still : Rule → ℕ → Type 0
Still R q = (p : ℕ) → Reach R q p → p ≡ q

-- a move that is none or leads to u
unfoldable pub none_or : ℕ → Move → Bool
none_or u no_move = true
none_or u (to q) = q =? u

-- p is in hold(u): for every p' in Reach(p), the tree move of u and p' is none or u
unfoldable pub Hold : Rule → ℕ → ℕ → Type 0
Hold R u p = (p' : ℕ) → Reach R p p' → none_or u (tree_move R u p') ≡ true

-- ---- the sets in rounds, with a mark for each state, state 0 first

-- true of some number below n; true of every number below n
unfoldable pub any_below : ℕ → (ℕ → Bool) → Bool
any_below zero f = false
any_below (suc n) f = any_below n f || f n

unfoldable pub all_below : ℕ → (ℕ → Bool) → Bool
all_below zero f = true
all_below (suc n) f = all_below n f && f n

-- f 0, f 1, .., n in all
unfoldable pub listed : {A : Type 0} → ℕ → (ℕ → A) → List A
listed zero f = []
listed (suc n) f = let first = f zero in first ∷ listed n (λ i. f (suc i))

unfoldable pub marked : List Bool → ℕ → Bool
marked marks p = get_or marks p false

unfoldable pub goes_to : ℕ → Move → Bool
goes_to p no_move = false
goes_to p (to q) = q =? p

-- p' is one move away from p, by a letter or by a tree whose lower state is marked
unfoldable pub one_move : Rule → List Bool → ℕ → ℕ → Bool
one_move R lowers p p' =
    any_below R.letters (λ a. goes_to p' (letter_move R p a))
    || any_below R.states (λ lower. marked lowers lower && goes_to p' (tree_move R p lower))

-- a round adds all states one move away
unfoldable pub round : Rule → List Bool → List Bool → List Bool
round R lowers marks =
    listed R.states (λ p'. marked marks p' || any_below R.states (λ p. marked marks p && one_move R lowers p p'))

-- so many rounds
unfoldable pub rounds : (List Bool → List Bool) → ℕ → List Bool → List Bool
rounds step zero marks = marks
rounds step (suc i) marks = step (rounds step i marks)

abbrev pub most_rounds : ℕ
most_rounds = 64

-- The states in which a tree can end: from the tree start, if there is one, with lower states from the set so far.
unfoldable pub start_marks : Rule → List Bool
start_marks R = listed R.states (λ p. goes_to p (tree_start_move R))

unfoldable pub end_round : Rule → List Bool → List Bool
end_round R marks = round R marks marks

unfoldable pub ends_in : Rule → ℕ → List Bool
ends_in R i = rounds (end_round R) i (start_marks R)

unfoldable pub end_marks : Rule → List Bool
end_marks R = ends_in R most_rounds

-- Reach(q): from q alone, with lower states in which a tree can end.
unfoldable pub only_state : Rule → ℕ → List Bool
only_state R q = listed R.states (λ p. p =? q)

unfoldable pub reached_in : Rule → ℕ → ℕ → List Bool
reached_in R i q = let lowers : List Bool = end_marks R in rounds (round R lowers) i (only_state R q)

-- some state is marked in the second and not in the first
unfoldable pub adds : Rule → List Bool → List Bool → Bool
adds R before after = any_below R.states (λ p. marked after p && not (marked before p))

-- the 64th round still adds a state, to the set of the tree start or from some state
unfoldable pub rounds_used_up : Rule → Bool
rounds_used_up R =
    adds R (ends_in R 63) (ends_in R most_rounds)
    || any_below R.states (λ q. adds R (reached_in R 63 q) (reached_in R most_rounds q))

-- ---- the book

unfoldable pub reach_marks : Rule → ℕ → List Bool
reach_marks R q = reached_in R most_rounds q

unfoldable pub still_marks : Rule → List Bool
still_marks R =
    listed R.states
    (λ q. let reach : List Bool = reach_marks R q in all_below R.states (λ p. not (marked reach p) || p =? q))

unfoldable pub hold_marks : Rule → ℕ → List Bool
hold_marks R u =
    listed R.states
    (λ p. let reach : List Bool = reach_marks R p in
    all_below R.states (λ p'. not (marked reach p') || none_or u (tree_move R u p')))

-- a word of 64 bits: bit p for state p
unfoldable pub word_of : List Bool → ℕ
word_of [] = 0
word_of (true ∷ marks) = 1 + 2 * word_of marks
word_of (false ∷ marks) = 2 * word_of marks

unfoldable pub bit : ℕ → ℕ → Bool
bit word p = word / 2 ^ p % 2 =? 1

-- n+1 words: word 0 is still, word 1+u is hold(u)
unfoldable pub book_of : Rule → List ℕ
book_of R = word_of (still_marks R) ∷ listed R.states (λ u. word_of (hold_marks R u))

-- ---- the sets of a book

unfoldable pub in_still : List ℕ → ℕ → Bool
in_still book q = bit (get_or book 0 0) q

unfoldable pub in_hold : List ℕ → ℕ → ℕ → Bool
in_hold book u q = bit (get_or book (1 + u) 0) q

-- a book whose sets are the rule's own still and hold(u), for each state
pub record IsBook (R : Rule) (book : List ℕ) : Type 0 where
  pub still_is : (q : ℕ) → q < R.states → (in_still book q ≡ true) ↔ Still R q
  pub hold_is : (u p : ℕ) → u < R.states → p < R.states → (in_hold book u p ≡ true) ↔ Hold R u p

-- ---- the book's part of opening

-- number 6: the book is shorter than n+1
unfoldable pub book_check : Rule → List ℕ → Answer Unit
book_check R book = refuse 6 at 0 when length book <? R.states + 1 otherwise given tt

-- After the rule check: a book shorter than n+1, rounds used up. Otherwise how many states are still, counted as the ones in
-- that word.
unfoldable pub make_book : Rule → List ℕ → Answer ℕ
make_book R book =
    book_check R book and_then
    refuse 15 at 0 when rounds_used_up R otherwise
    given (ones (word_of (still_marks R)))

-- What the book holds after that answer: the words of the rule, and the words past them as they were. A refused call leaves it
-- untouched.
unfoldable pub book_after : {A : Type 0} → Answer A → Rule → List ℕ → List ℕ
book_after (given a) R book = book_of R ++ drop (R.states + 1) book
book_after (refused number place) R book = book
