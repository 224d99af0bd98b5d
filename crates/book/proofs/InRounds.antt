-- Rounds on words are rounds on marks: a word that is joined over its members is the word of the next round, a round that
-- changes no word adds nothing, and no round after it changes the word. These are laws of rounds of any kind; the set of the
-- tree start (`EndSet.antt`) and Reach go by them.
use mathlib.Core.Path.{◌≡◌, refl, sym, ap, ◌∙◌}
use mathlib.Core.Logic.{⊎_elim}
use mathlib.Core.Bool.{Bool, true, false, not, ◌&&◌}
use mathlib.Core.List.{List}
use Prim.Native.Nat.{ℕ, zero, suc, ◌^◌, ◌≤◌, ◌<◌}
use native.Mathlib.Decide.{le_ind}
use native.Mathlib.Omega.{arith}
use lib.ListN.{length, get_or}
use lib.Pow.{pow-lt}
use borrow.Author.Tests.{eqb-true, eq-eqb}
use Rattle.std.proofs.lemmas.Bool.{and_from, and_parts, cases_Bool, or_cases, or_left, or_right}
use Rattle.std.specs.Cmp.Derive.{one_truth}
use Rattle.meaning.specs.Answers.{◌=?◌}
use Rattle.meaning.specs.RuleFile.{Rule, IsRule}
use Rattle.meaning.specs.SkipBook.{marked, round, rounds, end_marks, only_state, reached_in, adds, word_of, bit}
use Rattle.meaning.proofs.laws.Truths.{never_both}
use Rattle.meaning.proofs.laws.Bools.{below-any, any_below_lem, any-below-fails}
use Rattle.meaning.proofs.skipbook.Reaching.{reach-below}
use Rattle.meaning.proofs.skipbook.Rounds.{most-states, one_below, round_keeps, round-adds, round_by, round-length, nothing-added, reach-keeps, reach-alike, reach-never-used-up, marked-reached, reached-first, reached-next, only-true, only-start, only-length}
use Rattle.meaning.proofs.skipbook.Bits.{bit_word, word-of}
use Rattle.book.proofs.Standing.{stands-as, stands-only, stands_word}
use Rattle.book.specs.Sets.{StandsFor, Moves, joined, reached_word, Reached}

-- marks of the same word are the same
pub same-marks : (a b : List Bool) → word_of a ≡ word_of b → (p : ℕ) → marked a p ≡ marked b p
same-marks a b e p = sym (bit_word a p) ∙ ap (λ (w : ℕ). bit w p) e ∙ bit_word b p

-- ---- one round

-- a table has the moves with some lower states, and only states are marked
module _ (R : Rule) (rule : IsRule R) (lowers marks : List Bool) (moves : List ℕ) (good : Moves R lowers moves)
    (low : (p : ℕ) → marked marks p ≡ true → p < R.states) where
  there : (p : ℕ) → p < 64 → joined moves (word_of marks) p ≡ true → marked (round R lowers marks) p ≡ true
  unfolding joined Moves StandsFor
  there p h e = ⊎_elim
      (λ t. let m = sym (bit_word marks p) ∙ t in round_keeps R lowers marks p (low p m) m)
      (λ t. let s = any_below_lem 64 (λ m. bit (word_of marks) m && bit (get_or moves m 0) p) t in
      let b = and_parts (bit (word_of marks) s.0) _ s.2 in
      let m = sym (bit_word marks s.0) ∙ b.0 in
      let one = sym (good s.0 (low s.0 m) p h) ∙ b.1 in
      round-adds R lowers marks s.0 p (low s.0 m) (one_below R lowers rule s.0 p one) m one)
      (or_cases (bit (word_of marks) p) _ e)

  back : (p : ℕ) → p < 64 → marked (round R lowers marks) p ≡ true → joined moves (word_of marks) p ≡ true
  unfolding joined Moves StandsFor
  back p h e = round_by R lowers marks p e
      (λ m. or_left _ _ (bit_word marks p ∙ m))
      (λ q m one. or_right (bit (word_of marks) p) _
      (below-any 64 (λ s. bit (word_of marks) s && bit (get_or moves s 0) p) q (omega (arith, low q m, most-states rule))
      (and_from _ _ (bit_word marks q ∙ m) (good q (low q m) p h ∙ one))))

  -- the word joined over its members is the word of the next round
  pub next_word : (next : ℕ) → next < 2 ^ 64 → StandsFor next (joined moves (word_of marks)) → next ≡ word_of (round R lowers marks)
  next_word next small s =
      stands_word next (round R lowers marks) small (omega (arith, round-length R lowers marks, most-states rule))
      (stands-as next _ _ (λ p h. one_truth _ _ (there p h) (back p h)) s)

-- ---- rounds of any kind that keep the marks, where only states are marked

module _ (R : Rule) (step : List Bool → List Bool)
    (keeps : (marks : List Bool) (p : ℕ) → p < R.states → marked marks p ≡ true → marked (step marks) p ≡ true)
    (alike : (marks marks' : List Bool) → ((p : ℕ) → p < R.states → marked marks p ≡ marked marks' p) → step marks ≡ step marks')
    (start : List Bool) (low : (i p : ℕ) → marked (rounds step i start) p ≡ true → p < R.states) where
  abbrev after : ℕ → List Bool
  after i = rounds step i start

  -- a round that adds nothing leaves the word
  pub word-stays : (i : ℕ) → adds R (after i) (after (suc i)) ≡ false → word_of (after (suc i)) ≡ word_of (after i)
  unfolding rounds
  word-stays i e =
      word-of (word_of (after (suc i))) (after i) (λ p. bit_word (after (suc i)) p
      ∙ one_truth _ _ (λ m. nothing-added R (after i) (after (suc i)) e p (low (suc i) p m) m) (λ m. keeps (after i) p (low i p m) m))

  next-same : (i j : ℕ) → word_of (after i) ≡ word_of (after j) → word_of (after (suc i)) ≡ word_of (after (suc j))
  unfolding rounds
  next-same i j e = ap word_of (alike (after i) (after j) (λ p h. same-marks (after i) (after j) e p))

  -- no round after one that leaves the word changes it
  pub word-rests : (i : ℕ) → word_of (after (suc i)) ≡ word_of (after i) → (j : ℕ) → i ≤ j → word_of (after j) ≡ word_of (after i)
  word-rests i e =
      le_ind (λ (j : ℕ). word_of (after j) ≡ word_of (after i)) refl (λ j l same. next-same j i same ∙ e)

  -- what a round does is told by its word
  module _ (i set next : ℕ) (before : set ≡ word_of (after i)) (then : next ≡ word_of (after (suc i))) where
    pub same-adds : next ≡ set → adds R (after i) (after (suc i)) ≡ false
    unfolding adds
    same-adds e =
        any-below-fails R.states _ (λ p h. ap (λ (b : Bool). b && not (marked (after i) p))
        (same-marks (after (suc i)) (after i) (sym then ∙ e ∙ before) p) ∙ never_both (marked (after i) p))

    pub other-adds : (next ≡ set → ⊥) → adds R (after i) (after (suc i)) ≡ true
    other-adds ne = ⊎_elim (λ t. t) (λ f. absurd (ne (then ∙ word-stays i f ∙ sym before))) (cases_Bool (adds R (after i) (after (suc i))))

-- ---- Reach

module _ (R : Rule) (rule : IsRule R) (q : ℕ) (start : q < R.states) where
  -- only states are marked
  pub reached-below : (i p : ℕ) → marked (reached_in R i q) p ≡ true → p < R.states
  reached-below i p e = reach-below rule start (marked-reached R rule i q p e)

  pub reached-next-word : (moves : List ℕ) → Moves R (end_marks R) moves → (i next : ℕ) → next < 2 ^ 64
      → StandsFor next (joined moves (reached_word R i q)) → next ≡ reached_word R (suc i) q
  unfolding reached_word
  reached-next-word moves good i next small s =
      next_word R rule (end_marks R) (reached_in R i q) moves good (reached-below i) next small s ∙ ap word_of (sym (reached-next R i q))

  -- the set of the start alone is the word before the first round
  pub first_word : 2 ^ q ≡ reached_word R zero q
  unfolding reached_word
  first_word =
      let few : length (only_state R q) ≤ 64 = omega (arith, only-length R q, most-states rule) in
      let small : 2 ^ q < 2 ^ 64 = pow-lt {j = 64} (omega (arith, most-states rule)) in
      stands_word (2 ^ q) (only_state R q) small few
      (stands-as (2 ^ q) _ _ (λ p h. one_truth (q =? p) (marked (only_state R q) p)
      (λ t. ap (marked (only_state R q)) (sym (eqb-true q p t)) ∙ only-start R q start)
      (λ m. eq-eqb q p (sym (only-true R q p m)))) (stands-only q))
      ∙ ap word_of (sym (reached-first R q))

  pub reached-rests : (i : ℕ) → reached_word R (suc i) q ≡ reached_word R i q → (j : ℕ) → i ≤ j → reached_word R j q ≡ reached_word R i q
  unfolding reached_word reached_in
  reached-rests = word-rests R (round R (end_marks R)) (reach-keeps R) (reach-alike R) (only_state R q) reached-below

  reached-stays : reached_word R 64 q ≡ reached_word R 63 q
  unfolding reached_word reached_in
  reached-stays =
      word-stays R (round R (end_marks R)) (reach-keeps R) (reach-alike R) (only_state R q) reached-below 63 (reach-never-used-up R rule q start)

  module _ (set next : ℕ) (before : set ≡ reached_word R 63 q) (then : next ≡ reached_word R 64 q) where
    pub reached-same : next ≡ set → adds R (reached_in R 63 q) (reached_in R 64 q) ≡ false
    unfolding reached_word reached_in
    reached-same = same-adds R (round R (end_marks R)) (reach-keeps R) (reach-alike R) (only_state R q) reached-below 63 set next before then

    pub reached-other : (next ≡ set → ⊥) → adds R (reached_in R 63 q) (reached_in R 64 q) ≡ true
    unfolding reached_word reached_in
    reached-other = other-adds R (round R (end_marks R)) (reach-keeps R) (reach-alike R) (only_state R q) reached-below 63 set next before then

-- the last round adds nothing, so the words before it are those after it
pub reached-last : (R : Rule) → IsRule R → (reach : List ℕ) → Reached R 63 reach → Reached R 64 reach
unfolding Reached
reached-last R rule reach reached q h = reached q h ∙ sym (reached-stays R rule q h)
