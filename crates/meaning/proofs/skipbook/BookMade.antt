-- The book of a rule is its skip book: its sets are the rule's own still and hold(u). A word has the bits of its marks, the
-- marks test all of Reach, and the marks of Reach are Reach.
use mathlib.Core.Path.{◌≡◌, sym, ap, ◌∙◌}
use mathlib.Core.Logic.{◌↔◌}
use mathlib.Core.Bool.{Bool, true, not, ◌||◌}
use mathlib.Core.List.{List, ◌++◌}
use Prim.Native.Nat.{ℕ, zero, suc, ◌+◌, ◌^◌, ◌≤◌, ◌<◌}
use native.Mathlib.Numerals.{one-add, add-one}
use lib.Count.{ones}
use lib.ListN.{length, get_or, drop, get_or-append}
use lib.Pow.{pow_pos}
use borrow.Author.Tests.{eqb-true, eq-eqb}
use Rattle.meaning.specs.Answers.{Answer, given, refused, ◌=?◌}
use Rattle.meaning.specs.RuleFile.{Rule, IsRule, tree_move}
use Rattle.meaning.specs.SkipBook.{Reach, Still, Hold, none_or, all_below, listed, marked, reach_marks, still_marks, hold_marks, word_of, bit, book_of, in_still, in_hold, IsBook, make_book, book_after}
use Rattle.meaning.proofs.laws.Answered.{refuse-passes}
use Rattle.meaning.proofs.laws.Truths.{implied, implies}
use Rattle.meaning.proofs.laws.Bools.{all-below, below_all, listed-length, listed_at}
use Rattle.meaning.proofs.skipbook.BookLong.{long-passes}
use Rattle.meaning.proofs.skipbook.Marks.{listed-each, marked-below}
use Rattle.meaning.proofs.skipbook.Rounds.{marks-are-reach, reach-never-used-up, never-used-up}
use Rattle.meaning.proofs.skipbook.Reaching.{reach-below}
use Rattle.meaning.proofs.skipbook.Bits.{bit_word, word_below}

-- ---- the words of the book

-- n+1 words
pub book-length : (R : Rule) → length (book_of R) ≡ R.states + 1
unfolding book_of
book-length R = ap suc (listed-length R.states (λ u. word_of (hold_marks R u))) ∙ sym (add-one R.states)

-- the bits for n and above are zero
pub still-word-below : (R : Rule) → word_of (still_marks R) < 2 ^ R.states
unfolding still_marks
still-word-below R = rw listed-length at (word_below (still_marks R))

pub hold-word-below : (R : Rule) (u : ℕ) → word_of (hold_marks R u) < 2 ^ R.states
unfolding hold_marks
hold-word-below R u = rw listed-length at (word_below (hold_marks R u))

pub words-below : (R : Rule) (i : ℕ) → get_or (book_of R) i 0 < 2 ^ R.states
unfolding book_of
words-below R zero = still-word-below R
words-below R (suc u) =
    listed-each (λ w. w < 2 ^ R.states) R.states (λ v. word_of (hold_marks R v)) 0 (hold-word-below R) (pow_pos R.states) u

-- ---- the sets of the book

-- a test that is the same as one that decides a statement decides it
iff : {a b : Bool} {A : Type 0} → a ≡ b → (b ≡ true) ↔ A → (a ≡ true) ↔ A
iff e d = (λ t. d.0 (sym e ∙ t), λ x. e ∙ d.1 x)

module _ (R : Rule) (rest : List ℕ) where
  pub in-still : (q : ℕ) → in_still (book_of R ++ rest) q ≡ marked (still_marks R) q
  unfolding in_still book_of
  in-still q = bit_word (still_marks R) q

  pub in-hold : (u p : ℕ) → u < R.states → in_hold (book_of R ++ rest) u p ≡ marked (hold_marks R u) p
  unfolding in_hold book_of
  in-hold u p h =
      let holds : List ℕ = listed R.states (λ v. word_of (hold_marks R v)) in
      let here : get_or (book_of R ++ rest) (1 + u) 0 ≡ word_of (hold_marks R u) =
      ap (λ (i : ℕ). get_or (book_of R ++ rest) i 0) (one-add u)
      ∙ get_or-append holds rest 0 u (rw listed-length h) ∙ listed_at R.states _ u 0 h in
      ap (λ (w : ℕ). bit w p) here ∙ bit_word (hold_marks R u) p

module _ (R : Rule) (rule : IsRule R) where
  reach_of : (q : ℕ) → q < R.states → (p : ℕ) → (marked (reach_marks R q) p ≡ true) ↔ Reach R q p
  reach_of q h = marks-are-reach R rule q h (reach-never-used-up R rule q h)

  -- what holds of all marks of Reach(q) holds of all of Reach(q)
  all-of-reach : (test : ℕ → Bool) (q : ℕ) → q < R.states
      → (all_below R.states (λ p. not (marked (reach_marks R q) p) || test p) ≡ true) ↔ ((p : ℕ) → Reach R q p → test p ≡ true)
  all-of-reach test q h = (
    λ e p r. implied (marked (reach_marks R q) p) (test p) (all-below R.states _ e p (reach-below rule h r)) ((reach_of q h p).1 r),
    λ f. below_all R.states _ (λ p l. implies (marked (reach_marks R q) p) (test p) (λ m. f p ((reach_of q h p).0 m))),
  )

  still-is : (q : ℕ) → q < R.states → (marked (still_marks R) q ≡ true) ↔ Still R q
  unfolding still_marks Still
  still-is q h =
      let both = all-of-reach (λ p. p =? q) q h in
      let at = marked-below R.states (λ q. all_below R.states (λ p. not (marked (reach_marks R q) p) || p =? q)) q h in
      iff at (λ e p r. eqb-true p q (both.0 e p r), λ f. both.1 (λ p r. eq-eqb p q (f p r)))

  hold-is : (u p : ℕ) → p < R.states → (marked (hold_marks R u) p ≡ true) ↔ Hold R u p
  unfolding hold_marks Hold
  hold-is u p h =
      let both = all-of-reach (λ p'. none_or u (tree_move R u p')) p h in
      let at = marked-below R.states (λ p. all_below R.states (λ p'. not (marked (reach_marks R p) p') || none_or u (tree_move R u p'))) p h in
      iff at both

  -- the words of the rule are its skip book, whatever stands after them
  pub made-is-book : (rest : List ℕ) → IsBook R (book_of R ++ rest)
  made-is-book rest =
      record {
        still_is = λ q h. iff (in-still R rest q) (still-is q h);
        hold_is = λ u p hu hp. iff (in-hold R rest u p hu) (hold-is u p hp);
      }

-- ---- what a call leaves

-- a refusal leaves the book, and an answer that was given has it written
module _ {A : Type 0} (answer : Answer A) (R : Rule) (book : List ℕ) where
  pub after-refused : {number place : ℕ} → answer ≡ refused number place → book_after answer R book ≡ book
  unfolding book_after
  after-refused e = rw (e, book_after)

  pub after-given : {a : A} → answer ≡ given a → book_after answer R book ≡ book_of R ++ drop (R.states + 1) book
  unfolding book_after
  after-given e = rw (e, book_after)

-- every rule has its book made, where there is room for it
pub always-made : (R : Rule) (book : List ℕ) → IsRule R → R.states + 1 ≤ length book
    → make_book R book ≡ given (ones (word_of (still_marks R)))
unfolding make_book
always-made R book rule room = long-passes R book _ room ∙ refuse-passes 15 0 _ (never-used-up R rule)
