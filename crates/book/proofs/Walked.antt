-- The tables of an accepted file, walked: what each look finds is the rule's move, so the words that are joined stand for the
-- states one move away.
use mathlib.Core.Path.{◌≡◌, refl, sym, ap, ap₂, ◌∙◌}
use mathlib.Core.Bool.{Bool, not, ◌&&◌}
use mathlib.Core.List.{List}
use Prim.Native.Nat.{ℕ, ◌+◌, ◌^◌, ◌≤◌, ◌<◌}
use native.Mathlib.Omega.{arith}
use lib.Bits.{bit_or}
use borrow.Author.Tests.{ne_eqb}
use Rattle.std.specs.Prelude.{Result, Ok, Err}
use Rattle.std.specs.Result.{result_unwrap_or}
use Rattle.meaning.specs.Answers.{◌=?◌}
use Rattle.meaning.specs.RuleFile as format
use Rattle.meaning.specs.RuleFile.{Move, none, as_move, letter_move, tree_move, tree_start_move, rule_of}
use Rattle.meaning.specs.SkipBook.{any_below, goes_to, none_or, bit}
use Rattle.rule.specs.declared.Rule.{Rule}
use Rattle.rule.specs.Says.{numbers_of, RuleOf}
use Rattle.rule.specs.declared.tables.Table.{Table}
use Rattle.rule.specs.declared.tables.Table.TheVariants.{LetterMoves, TreeStart, TreeMoves}
use Rattle.rule.specs.Tables.{letter_byte, tree_byte, move_says, move_in}
use Rattle.rule.proofs.Said.{states-are, letters-are, few-states}
use Rattle.rule.proofs.Looks.{found-is, letter-look, tree-look}
use Rattle.book.specs.Sets.{StandsFor, StatesOf, by_letters, by_trees, first_of, changing}
use Rattle.book.proofs.Standing.{stands-as, stands-only, stands-empty, stands-more, members-below}

-- ---- what a look finds, and the state that it leads to

goes-as : (m : Result ℕ Table) (p : ℕ) → p < 64 → goes_to p (move_says m) ≡ (result_unwrap_or m none =? p)
unfolding goes_to move_says
goes-as (Ok q) p h = refl
goes-as (Err table) p h = sym (ne_eqb none p (λ e. omega arith))

pub target-some : (m : Result ℕ Table) (w : ℕ) → w ≡ 2 ^ result_unwrap_or m none → StandsFor w (λ p. goes_to p (move_says m))
target-some m w e = rw e (stands-as _ _ _ (λ p h. sym (goes-as m p h)) (stands-only (result_unwrap_or m none)))

pub target_none : (m : Result ℕ Table) → 64 ≤ result_unwrap_or m none → StandsFor 0 (λ p. goes_to p (move_says m))
target_none m l = stands-as 0 _ _ (λ p h. sym (goes-as m p h ∙ ne_eqb (result_unwrap_or m none) p (λ e. omega arith))) stands-empty

-- ---- the first i moves of a row

-- the word stands for the states that the first i moves lead to
abbrev pub Walked : (ℕ → Move) → ℕ → ℕ → Type 0
Walked move i set = StandsFor set (λ p. any_below i (λ j. goes_to p (move j)))

pub walk_first : (move : ℕ → Move) → Walked move 0 0
unfolding any_below
walk_first move = stands-empty

pub walk-next : (move : ℕ → Move) (i set w : ℕ) {m : Move} → m ≡ move i → Walked move i set → StandsFor w (λ p. goes_to p m)
    → Walked move (i + 1) (bit_or set w)
walk-next move i set w e s t =
    stands-more set w i (λ j p. goes_to p (move j)) s (rw e at t)

-- what a lower state has for an upper one
abbrev pub tree_has : format.Rule → ℕ → ℕ → ℕ → Bool
tree_has R u m p = goes_to p (tree_move R u m)

-- ---- the moves of an accepted file

module _ {file : List ℕ} {rule : Rule} (ok : RuleOf file rule) where
  -- what was found among the letter moves, and among the tree moves
  pub letter-is : (q a : ℕ) {found : Result ℕ Table} → found ≡ move_in LetterMoves (letter_byte file rule.letters q a)
      → q < rule.states → a < rule.letters → move_says found ≡ letter_move (rule_of file) q a
  letter-is q a read hq ha =
      ap move_says read
      ∙ found-is LetterMoves _
      ∙ ap (λ (k : ℕ). as_move (letter_byte file k q a)) (sym (letters-are ok))
      ∙ letter-look file ok.accepted q a (rw (states-are ok) hq) (rw (letters-are ok) ha)

  pub tree_is : (u q : ℕ) {found : Result ℕ Table} → found ≡ move_in TreeMoves (tree_byte file rule.states rule.letters u q)
      → u < rule.states → q < rule.states → move_says found ≡ tree_move (rule_of file) u q
  tree_is u q read hu hq =
      ap move_says read
      ∙ found-is TreeMoves _
      ∙ ap₂ (λ (n k : ℕ). as_move (tree_byte file n k u q)) (sym (states-are ok)) (sym (letters-are ok))
      ∙ tree-look file ok.accepted u q (rw (states-are ok) hu) (rw (states-are ok) hq)

  pub start_is : {found : Result ℕ Table} → found ≡ move_in TreeStart rule.tree_start → move_says found ≡ tree_start_move (rule_of file)
  unfolding numbers_of tree_start_move
  start_is read =
      ap move_says read ∙ found-is TreeStart _ ∙ ap (λ (r : Rule). as_move r.tree_start) (sym ok.numbers)

  pub start-goes : (w : ℕ) {found : Result ℕ Table} → found ≡ move_in TreeStart rule.tree_start
      → StandsFor w (λ p. goes_to p (move_says found)) → StandsFor w (λ p. goes_to p (tree_start_move (rule_of file)))
  start-goes w read s = stands-as w _ _ (λ p h. ap (goes_to p) (start_is read)) s

  -- all letters
  pub letters-walked : (q set : ℕ) → Walked (letter_move (rule_of file) q) rule.letters set → StandsFor set (by_letters (rule_of file) q)
  unfolding by_letters
  letters-walked q set s =
      stands-as set _ _ (λ p h. ap (λ (k : ℕ). any_below k (λ a. goes_to p (letter_move (rule_of file) q a))) (sym (letters-are ok))) s

  -- what some lower state of a set has, where these are states
  pub trees-joined : (u lowers set : ℕ) → StatesOf rule.states lowers → StandsFor set (λ p. any_below 64 (λ m. bit lowers m && goes_to p (tree_move (rule_of file) u m)))
      → StandsFor set (by_trees (rule_of file) lowers u)
  unfolding by_trees
  trees-joined u lowers set states =
      let R : format.Rule = rule_of file in
      stands-as set _ _ (λ p h. members-below rule.states lowers (λ m. goes_to p (tree_move R u m)) (few-states ok) states
      ∙ ap (λ (n : ℕ). any_below n (λ m. bit lowers m && goes_to p (tree_move R u m))) (sym (states-are ok)))

  -- what the look with a lower state finds leads where that lower state does
  pub tree-goes : (u m w : ℕ) {found : Result ℕ Table} → found ≡ move_in TreeMoves (tree_byte file rule.states rule.letters u m)
      → u < rule.states → m < rule.states → StandsFor w (λ p. goes_to p (move_says found)) → StandsFor w (tree_has (rule_of file) u m)
  tree-goes u m w read hu hm s = stands-as w _ _ (λ p h. ap (goes_to p) (tree_is u m read hu hm)) s

  -- all lower states gathered
  pub changes-gathered : (u set : ℕ) → StandsFor set (first_of rule.states (λ p. not (none_or u (tree_move (rule_of file) u p))))
      → StandsFor set (changing (rule_of file) u)
  unfolding changing
  changes-gathered u set s =
      stands-as set _ _ (λ p h. ap (λ (n : ℕ). first_of n (λ l. not (none_or u (tree_move (rule_of file) u l))) p) (sym (states-are ok))) s
