-- Laws of Reach, of still and hold, and of the moves of a rule: where a move leads is a state of the rule, Reach is the least
-- set that holds its start and is closed under moves, and what is still or held stays so along Reach. Everything above goes
-- by these laws and not by the text of Reach or of the lower states that count.
use Rattle.std.proofs.Common.{if◌then◌else◌}
use mathlib.Core.Path.{◌≡◌, refl}
use mathlib.Core.Bool.{Bool, true, false}
use mathlib.Core.List.{List, [], ◌∷◌}
use Prim.Native.Nat.{ℕ, zero, suc, ◌<◌}
use native.Mathlib.Omega.{arith}
use lib.ListN.{length, get_or}
use borrow.Author.Tests.{eqb-true, ltb-true}
use Rattle.meaning.specs.Answers.{◌<?◌, ◌=?◌}
use Rattle.meaning.specs.RuleFile.{Rule, IsRule, is_move, is_state, none, no_move, to, as_move}
use Rattle.meaning.specs.RuleFile.{letter_move, tree_move, tree_start_move}
use Rattle.meaning.specs.SkipBook.{CanEndTree, start_ends, letter_ends, tree_ends, Reach, itself, by_letter, by_tree, Still, Hold, none_or, in_still, in_hold, IsBook}
use Rattle.meaning.proofs.laws.Truths.{or-true-first, true-is-not-false}

-- ---- where a move leads

-- a number that is there as a move is not none, and is where the move leads
as-move : (x : ℕ) {q : ℕ} → as_move x ≡ to q → ((x =? none) ≡ false) × (x ≡ q)
unfolding as_move
as-move x {q} e = go (x =? none) e
  where
    go : (b : Bool) → (if b then no_move else (to x)) ≡ to q → (b ≡ false) × (x ≡ q)
    go true e = let z : ◌≡◌ {A = ℕ} 0 1 = cc in absurd (omega arith)
    go false e = (refl, (cc))

-- a number that is a move leads to a state
move-below : (n : ℕ) (x : ℕ) {q : ℕ} → is_move n x ≡ true → as_move x ≡ to q → q < n
unfolding is_move is_state
move-below n x good leads =
    let there = as-move x leads in
    rw there.1 at (ltb-true x n (or-true-first (x <? n) (x =? none) good there.0))

-- a table of moves leads to states; past its end there is none
entry-below : (n : ℕ) (table : List ℕ) (i : ℕ) {q : ℕ}
    → ((j : ℕ) → j < length table → is_move n (get_or table j 0) ≡ true) → as_move (get_or table i none) ≡ to q → q < n
entry-below n [] i good leads = true-is-not-false refl (as-move none leads).0
entry-below n (x ∷ table) zero good leads = move-below n x (good 0 (omega arith)) leads
entry-below n (x ∷ table) (suc i) good leads = entry-below n table i (λ j h. good (suc j) (omega arith)) leads

module _ {R : Rule} (rule : IsRule R) where
  pub letter-below : (p a : ℕ) {q : ℕ} → letter_move R p a ≡ to q → q < R.states
  unfolding letter_move
  letter-below p a leads =
      entry-below R.states R.letter_moves _ (λ j h. rule.letter_in j (omega (arith, rule.letter_length))) leads

  pub tree-below : (upper lower : ℕ) {q : ℕ} → tree_move R upper lower ≡ to q → q < R.states
  unfolding tree_move
  tree-below upper lower leads =
      entry-below R.states R.tree_moves _ (λ j h. rule.tree_in j (omega (arith, rule.tree_length))) leads

  pub start-below : {q : ℕ} → tree_start_move R ≡ to q → q < R.states
  unfolding tree_start_move
  start-below leads = move-below R.states R.tree_start rule.tree_start_in leads

  pub initial-below : R.initial < R.states
  unfolding is_state
  initial-below = ltb-true R.initial R.states rule.initial_in

-- ---- the states in which a tree can end

-- Full reading has only such states inside an open tree: the tree start is one, and so is where a letter move leads from
-- one, or a tree move whose lower state is one too.
module _ {R : Rule} where
  pub start-ends-tree : {q : ℕ} → tree_start_move R ≡ to q → CanEndTree R q
  start-ends-tree leads = start_ends leads

  pub letter-ends-tree : {p : ℕ} (a : ℕ) {q : ℕ} → CanEndTree R p → a < R.letters → letter_move R p a ≡ to q → CanEndTree R q
  letter-ends-tree a ends known leads = letter_ends a ends known leads

  pub tree-ends-tree : {p : ℕ} (lower : ℕ) {q : ℕ} → CanEndTree R p → CanEndTree R lower → tree_move R p lower ≡ to q
      → CanEndTree R q
  tree-ends-tree lower ends below leads = tree_ends lower ends below leads

  -- these states lie in every set that holds the tree start and is closed under such moves
  pub ends-least : (S : ℕ → Type 0) → ((p : ℕ) → tree_start_move R ≡ to p → S p)
      → ((p a p' : ℕ) → S p → a < R.letters → letter_move R p a ≡ to p' → S p')
      → ((p lower p' : ℕ) → S p → S lower → tree_move R p lower ≡ to p' → S p')
      → {x : ℕ} → CanEndTree R x → S x
  ends-least S start letters trees (start_ends {p} leads) = start p leads
  ends-least S start letters trees (letter_ends {p} {p'} a ends known leads) =
      letters p a p' (ends-least S start letters trees ends) known leads
  ends-least S start letters trees (tree_ends {p} {p'} lower ends below leads) =
      trees p lower p' (ends-least S start letters trees ends) (ends-least S start letters trees below) leads

  -- they are states of the rule
  pub ends-below : IsRule R → {q : ℕ} → CanEndTree R q → q < R.states
  ends-below rule ends =
      ends-least (λ x. x < R.states) (λ p. start-below rule) (λ p a p' h known. letter-below rule p a)
      (λ p lower p' h k. tree-below rule p lower) ends

  -- with no tree start there is none
  pub no-start-no-ends : tree_start_move R ≡ no_move → {q : ℕ} → CanEndTree R q → ⊥
  no-start-no-ends none ends =
      ends-least (λ x. ⊥) (λ p leads. let z : ◌≡◌ {A = ℕ} 0 1 = cc in omega arith) (λ p a p' h known leads. h)
      (λ p lower p' h k leads. h) ends

-- ---- Reach

module _ {R : Rule} where
  pub reach-itself : {q : ℕ} → Reach R q q
  reach-itself = itself

  pub reach-letter : {q p : ℕ} (a : ℕ) {p' : ℕ} → Reach R q p → a < R.letters → letter_move R p a ≡ to p' → Reach R q p'
  reach-letter a within known leads = by_letter a within known leads

  pub reach-tree : {q p : ℕ} (lower : ℕ) {p' : ℕ} → Reach R q p → CanEndTree R lower → tree_move R p lower ≡ to p'
      → Reach R q p'
  reach-tree lower within ends leads = by_tree lower within ends leads

  -- Reach lies in every set that holds its start and is closed under moves
  pub reach-least : {q : ℕ} (S : ℕ → Type 0) → S q
      → ((p a p' : ℕ) → S p → a < R.letters → letter_move R p a ≡ to p' → S p')
      → ((p lower p' : ℕ) → S p → CanEndTree R lower → tree_move R p lower ≡ to p' → S p')
      → {x : ℕ} → Reach R q x → S x
  reach-least S start letters trees itself = start
  reach-least S start letters trees (by_letter {p} {p'} a within known leads) =
      letters p a p' (reach-least S start letters trees within) known leads
  reach-least S start letters trees (by_tree {p} {p'} lower within ends leads) =
      trees p lower p' (reach-least S start letters trees within) ends leads

  -- the Reach of a member is within
  pub reach-within : {p x y : ℕ} → Reach R p x → Reach R x y → Reach R p y
  reach-within {p} first second =
      reach-least (Reach R p) first (λ x a y. reach-letter a) (λ x lower y. reach-tree lower) second

  -- Reach of a state of the rule holds states of the rule
  pub reach-below : IsRule R → {q p : ℕ} → q < R.states → Reach R q p → p < R.states
  reach-below rule low within =
      reach-least (λ x. x < R.states) low (λ x a y h known. letter-below rule x a) (λ x lower y h ends. tree-below rule x lower)
      within

  -- ---- still and hold

  -- from a still state nothing leads away
  pub still-reach : {q p : ℕ} → Still R q → Reach R q p → p ≡ q
  unfolding Still
  still-reach {p} still within = still p within

  -- hold(u) is kept along Reach
  pub hold-reach : (u : ℕ) {p p' : ℕ} → Hold R u p → Reach R p p' → Hold R u p'
  unfolding Hold
  hold-reach u hold within x further = hold x (reach-within within further)

  -- a tree that got to hold(u) can only lead back to u
  pub hold-move : (u : ℕ) {p p' q : ℕ} → Hold R u p → Reach R p p' → tree_move R u p' ≡ to q → q ≡ u
  unfolding Hold none_or
  hold-move u {p'} {q} hold within leads = eqb-true q u (rw leads at (hold p' within))

-- ---- the sets of the rule's own book

module _ {R : Rule} {book : List ℕ} (rule : IsRule R) (own : IsBook R book) where
  pub still-stays : {q p : ℕ} → q < R.states → in_still book q ≡ true → Reach R q p → p ≡ q
  still-stays {q} low still within = still-reach ((own.still_is q low).0 still) within

  pub hold-stays : (u : ℕ) {q p : ℕ} → u < R.states → q < R.states → in_hold book u q ≡ true → Reach R q p
      → in_hold book u p ≡ true
  hold-stays u {q} {p} upper low hold within =
      (own.hold_is u p upper (reach-below rule low within)).1 (hold-reach u ((own.hold_is u q upper low).0 hold) within)

  pub hold-returns : (u : ℕ) {q p x : ℕ} → u < R.states → q < R.states → in_hold book u q ≡ true → Reach R q p
      → tree_move R u p ≡ to x → x ≡ u
  hold-returns u {q} upper low hold within leads = hold-move u ((own.hold_is u q upper low).0 hold) within leads
