-- The words that are gathered are the words of the book: a test on whole words is the test of every mark.
use mathlib.Core.Path.{◌≡◌, refl, sym, ap, ap₂, ◌∙◌}
use mathlib.Core.Logic.{⊎_elim}
use mathlib.Core.Bool.{Bool, true, false, not, ◌||◌}
use mathlib.Core.List.{List, [], ◌∷◌, ◌++◌}
use Prim.Native.Nat.{ℕ, zero, suc, ◌^◌, ◌≤◌, ◌<◌, zero-le, suc-le-suc}
use native.Mathlib.Nat.{not-suc-le-zero, le_of_suc-le-suc}
use native.Mathlib.Omega.{arith}
use lib.Bits.{bit_and}
use lib.ListN.{length, get_or, take}
use borrow.Author.Tests.{eqb-true, eq-eqb, not-true}
use Rattle.std.proofs.lemmas.Bool.{and_from, and_parts, cases_Bool}
use Rattle.std.specs.Cmp.Derive.{one_truth}
use Rattle.meaning.specs.Answers.{◌=?◌}
use Rattle.meaning.specs.RuleFile.{Rule, IsRule, tree_move, rule_of}
use Rattle.rule.specs.declared.Rule as numbers
use Rattle.rule.specs.Says.{RuleOf}
use Rattle.meaning.proofs.rulefile.Accepted.{accepted-is-rule}
use Rattle.meaning.specs.SkipBook.{all_below, listed, marked, none_or, reach_marks, still_marks, hold_marks, book_of, word_of, bit}
use Rattle.meaning.proofs.laws.Truths.{true-is-not-false, implied, implies}
use Rattle.meaning.proofs.laws.Bools.{all-below, below_all, listed-length, listed_same}
use Rattle.meaning.proofs.skipbook.Marks.{marked-true, marked-below}
use Rattle.meaning.proofs.skipbook.Rounds.{most-states, start-marked}
use Rattle.meaning.proofs.skipbook.Bits.{bit_word, bit-and, bit-only, bit-zero, same_bits}
use Rattle.book.specs.Sets.{StandsFor, first_of, reached_word, Reached, changing, Holds}
use Rattle.book.proofs.Standing.{stands-as, stands_word, first-true, first-in}
use Rattle.rule.proofs.Said.{states-are}
use Rattle.book.proofs.InRounds.{reached-below, reached-last}

-- a word that stands for the first n states that pass a test is the word of n marks
pub first-word-of : (w n : ℕ) (test : ℕ → Bool) → w < 2 ^ 64 → n ≤ 64 → StandsFor w (first_of n test) → w ≡ word_of (listed n test)
first-word-of w n test small few s =
    stands_word w (listed n test) small (omega (arith, listed-length n test))
    (stands-as w _ _ (λ p h. one_truth (first_of n test p) (marked (listed n test) p)
    (λ t. let b = first-true n test p t in marked-below n test p b.0 ∙ b.1)
    (λ m. let b = marked-true n test p m in first-in n test p b.0 b.1)) s)

module _ (R : Rule) (rule : IsRule R) (q : ℕ) (start : q < R.states) where
  word : ℕ
  word = reached_word R 64 q

  word-bit : (p : ℕ) → bit word p ≡ marked (reach_marks R q) p
  unfolding word reached_word reach_marks
  word-bit p = bit_word (reach_marks R q) p

  marked-state : (p : ℕ) → marked (reach_marks R q) p ≡ true → p < R.states
  unfolding reach_marks
  marked-state p m = reached-below R rule q start 64 p m

  -- Reach(q) is q alone
  pub still-test : (reached_word R 64 q =? 2 ^ q) ≡ all_below R.states (λ p. not (marked (reach_marks R q) p) || p =? q)
  unfolding word reach_marks
  still-test =
      one_truth (word =? 2 ^ q) _
      (λ t. below_all R.states _ (λ p h. implies (marked (reach_marks R q) p) (p =? q) (λ m.
      let b : bit (2 ^ q) p ≡ true = ap (λ (w : ℕ). bit w p) (sym (eqb-true word (2 ^ q) t)) ∙ word-bit p ∙ m in
      eq-eqb p q (sym (eqb-true q p (sym (bit-only q p) ∙ b))))))
      (λ a. eq-eqb word (2 ^ q) (same_bits word (2 ^ q) (λ p. one_truth (bit word p) (bit (2 ^ q) p)
      (λ b. let m = sym (word-bit p) ∙ b in
      bit-only q p ∙ eq-eqb q p (sym (eqb-true p q (implied (marked (reach_marks R q) p) _ (all-below R.states _ a p (marked-state p m)) m))))
      (λ b. word-bit p ∙ ap (marked (reach_marks R q)) (sym (eqb-true q p (sym (bit-only q p) ∙ b))) ∙ start-marked R 64 q start))))

  -- none of Reach(q) changes the level above
  module _ (u change : ℕ) (s : StandsFor change (changing R u)) where
    changing-at : (p : ℕ) → p < R.states → bit change p ≡ changing R u p
    unfolding StandsFor
    changing-at p h = s p (omega (arith, most-states rule))

    pub hold-test : (bit_and (reached_word R 64 q) change =? 0) ≡ all_below R.states (λ p. not (marked (reach_marks R q) p) || none_or u (tree_move R u p))
    unfolding word changing
    hold-test =
        one_truth (bit_and word change =? 0) _
        (λ t. below_all R.states _ (λ p h. implies (marked (reach_marks R q) p) (none_or u (tree_move R u p)) (λ m.
        let empty : bit (bit_and word change) p ≡ false = ap (λ (w : ℕ). bit w p) (eqb-true (bit_and word change) 0 t) ∙ bit-zero p in
        ⊎_elim (λ y. y) (λ n. true-is-not-false (bit-and word change p ∙ and_from _ _ (word-bit p ∙ m)
        (changing-at p h ∙ first-in R.states _ p h (ap not n))) empty) (cases_Bool (none_or u (tree_move R u p))))))
        (λ a. eq-eqb (bit_and word change) 0 (same_bits (bit_and word change) 0 (λ p. one_truth (bit (bit_and word change) p) (bit 0 p)
        (λ b. let both = and_parts (bit word p) (bit change p) (sym (bit-and word change p) ∙ b) in
        let m = sym (word-bit p) ∙ both.0 in
        let h = marked-state p m in
        true-is-not-false (implied (marked (reach_marks R q) p) _ (all-below R.states _ a p h) m)
        (not-true _ (first-true R.states _ p (sym (changing-at p h) ∙ both.1)).1))
        (λ b. true-is-not-false b (bit-zero p)))))

-- ---- the words of the book

module _ {file : List ℕ} {rule : numbers.Rule} (ok : RuleOf file rule) (reach : List ℕ) (reached : Reached (rule_of file) 63 reach) (w : ℕ) (small : w < 2 ^ 64) where
  abbrev R : Rule
  R = rule_of file

  is-rule : IsRule R
  is-rule = accepted-is-rule file ok.accepted

  last-reached : Reached R 64 reach
  last-reached = reached-last R is-rule reach reached

  gathered : (test : ℕ → Bool) → StandsFor w (first_of rule.states test) → w ≡ word_of (listed R.states test)
  gathered test s = first-word-of w R.states test small (most-states is-rule) (rw (sym (states-are ok)) at s)

  pub still-is-word : StandsFor w (first_of rule.states (λ q. get_or reach q 0 =? 2 ^ q)) → w ≡ word_of (still_marks R)
  unfolding still_marks Reached
  still-is-word s =
      gathered _ s
      ∙ ap word_of (listed_same R.states _ _ (λ q h. ap (λ (v : ℕ). v =? 2 ^ q) (last-reached q h) ∙ still-test R is-rule q h))

  pub hold-is-word : (u change : ℕ) → StandsFor change (changing R u)
      → StandsFor w (first_of rule.states (λ p. bit_and (get_or reach p 0) change =? 0)) → w ≡ word_of (hold_marks R u)
  unfolding hold_marks Reached
  hold-is-word u change c s =
      gathered _ s
      ∙ ap word_of (listed_same R.states _ _ (λ p h. ap (λ (v : ℕ). bit_and v change =? 0) (last-reached p h) ∙ hold-test R is-rule p h u change c))

-- the first n words of a table that has them
take-listed : (n : ℕ) (table : List ℕ) (f : ℕ → ℕ) → n ≤ length table → ((i : ℕ) → i < n → get_or table i 0 ≡ f i) → take n table ≡ listed n f
unfolding listed
take-listed zero table f h e = refl
take-listed (suc n) [] f h e = absurd (not-suc-le-zero h)
take-listed (suc n) (x ∷ table) f h e =
    ap₂ ◌∷◌ (e zero (suc-le-suc zero-le)) (take-listed n table (λ i. f (suc i)) (le_of_suc-le-suc h) (λ i l. e (suc i) (suc-le-suc l)))

-- what is written is the book, and what stood past it
pub book-written : (R : Rule) (still : ℕ) (holds rest : List ℕ) → still ≡ word_of (still_marks R) → R.states ≤ length holds → Holds R holds
    → still ∷ (take R.states holds ++ rest) ≡ book_of R ++ rest
unfolding book_of Holds
book-written R still holds rest e long good =
    ap₂ (λ (w : ℕ) (l : List ℕ). w ∷ (l ++ rest)) e (take-listed R.states holds (λ u. word_of (hold_marks R u)) long good)
