-- Counting only the lower states in which a tree can end, the book has at least the bits that it has with any lower state of the
-- rule: more is skipped, and nothing less. A set that is closed under more moves holds more, so the Reach of fewer lower states
-- lies within the other.
use mathlib.Core.Path.{◌≡◌}
use mathlib.Core.Bool.{true}
use mathlib.Core.List.{List}
use Prim.Native.Nat.{ℕ, ◌<◌}
use Rattle.meaning.specs.RuleFile.{Rule, IsRule, to, letter_move, tree_move}
use Rattle.meaning.specs.SkipBook.{Reach, Still, Hold, none_or, in_still, in_hold, IsBook}
use Rattle.meaning.proofs.skipbook.Reaching.{reach-least, ends-below}

-- Reach with any lower state of the rule
pub data WideReach (R : Rule) (q : ℕ) : ℕ → Type 0 where
  itself : WideReach R q q
  by_letter : {p p' : ℕ} (a : ℕ) → WideReach R q p → a < R.letters → letter_move R p a ≡ to p' → WideReach R q p'
  by_tree : {p p' : ℕ} (lower : ℕ) → WideReach R q p → lower < R.states → tree_move R p lower ≡ to p' → WideReach R q p'

module _ {R : Rule} (rule : IsRule R) where
  pub reach-is-wide : {q p : ℕ} → Reach R q p → WideReach R q p
  reach-is-wide {q} within =
      reach-least (WideReach R q) itself (λ p a p' r known leads. by_letter a r known leads)
      (λ p lower p' r ends leads. by_tree lower r (ends-below rule ends) leads) within

  -- what is still or held with any lower state is still or held
  pub still-stays-in : {q : ℕ} → ((p : ℕ) → WideReach R q p → p ≡ q) → Still R q
  unfolding Still
  still-stays-in wide p within = wide p (reach-is-wide within)

  pub hold-stays-in : (u : ℕ) {p : ℕ} → ((p' : ℕ) → WideReach R p p' → none_or u (tree_move R u p') ≡ true) → Hold R u p
  unfolding Hold
  hold-stays-in u wide p' within = wide p' (reach-is-wide within)

  -- so the book has these bits
  pub more-skipped : {book : List ℕ} → IsBook R book
      → ((q : ℕ) → q < R.states → ((p : ℕ) → WideReach R q p → p ≡ q) → in_still book q ≡ true)
      × ((u p : ℕ) → u < R.states → p < R.states → ((p' : ℕ) → WideReach R p p' → none_or u (tree_move R u p') ≡ true)
      → in_hold book u p ≡ true)
  more-skipped own = (
    λ q low wide. (own.still_is q low).1 (still-stays-in wide),
    λ u p upper low wide. (own.hold_is u p upper low).1 (hold-stays-in u wide),
  )
