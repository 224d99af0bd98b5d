-- The states in which a tree can end, as words in rounds, and the table of moves that grows with them: what a round added is
-- lower states for the next one, and the table gets the tree moves with these alone.
use mathlib.Core.Path.{◌≡◌, refl, sym, ap, ◌∙◌}
use mathlib.Core.Logic.{◌⊎◌, inl, inr, ⊎_elim}
use mathlib.Core.Bool.{Bool, true, false, ◌&&◌, ◌||◌, xor, or_assoc}
use mathlib.Core.List.{List, []}
use Prim.Native.Nat.{ℕ, zero, suc, ◌^◌, ◌≤◌, ◌<◌}
use native.Mathlib.Omega.{arith}
use lib.Bits.{bit_xor}
use Rattle.std.proofs.Math.Bool.{and-or_distrib_right}
use lib.ListN.{get_or}
use Rattle.std.proofs.lemmas.Bool.{or_right}
use Rattle.std.specs.Cmp.Derive.{one_truth}
use Rattle.meaning.specs.RuleFile.{Rule, IsRule, tree_move, tree_start_move}
use Rattle.meaning.specs.SkipBook.{any_below, marked, goes_to, one_move, rounds, start_marks, end_round, ends_in, end_marks, adds, word_of, bit}
use Rattle.meaning.proofs.laws.Bools.{any-below-same, any-below-fails}
use Rattle.meaning.proofs.skipbook.Reaching.{ends-below}
use Rattle.meaning.proofs.skipbook.Rounds.{most-states, goes_to_lem, goes-true, end-keeps, end-alike, start-true, start-is-marked, start-length, marked-ends, ends-never-used-up}
use Rattle.meaning.proofs.skipbook.Bits.{bit_word, bit-xor}
use Rattle.rule.proofs.Said.{or-none}
use Rattle.book.proofs.Standing.{stands-as, stands_word}
use Rattle.book.proofs.InRounds.{same-marks, next_word, word-stays, word-rests, same-adds, other-adds}
use Rattle.book.specs.Sets.{StandsFor, StatesOf, joined, by_letters, by_trees, Moves, WithTrees, ends_word, EndsFound}

-- ---- a table of moves, and the lower states that it is for

-- the letter moves are the moves with no lower state
pub letters-alone : (R : Rule) (q word : ℕ) → StandsFor word (by_letters R q) → StandsFor word (one_move R [] q)
unfolding one_move by_letters marked
letters-alone R q word s =
    stands-as word _ _ (λ p h. sym (or-none (by_letters R q p) (any-below-fails R.states _ (λ lower l. refl)))) s

-- moves with lower states of the same word
moves-same : (R : Rule) (lowers lowers' : List Bool) (moves : List ℕ) → word_of lowers ≡ word_of lowers' → Moves R lowers moves
    → Moves R lowers' moves
unfolding Moves one_move by_letters
moves-same R lowers lowers' moves e good q h =
    stands-as (get_or moves q 0) _ _ (λ p l. ap (λ (b : Bool). by_letters R q p || b)
    (any-below-same R.states _ _ (λ lower k. ap (λ (b : Bool). b && goes_to p (tree_move R q lower)) (same-marks lowers lowers' e lower))))
    (good q h)

-- some number passes one test or the other
either-of-two : (a b c d : Bool) → ((a || b) || (c || d)) ≡ ((a || c) || (b || d))
either-of-two true b c d = refl
either-of-two false true c d = sym (or_right c _ refl)
either-of-two false false c d = refl

any-either : (n : ℕ) (f g : ℕ → Bool) → any_below n (λ i. f i || g i) ≡ (any_below n f || any_below n g)
unfolding any_below
any-either zero f g = refl
any-either (suc n) f g =
    ap (λ (b : Bool). b || (f n || g n)) (any-either n f g) ∙ either-of-two (any_below n f) (any_below n g) (f n) (g n)

-- with the tree moves of more lower states a table is one for these lower states too
more-moves : (R : Rule) (lowers lowers' : List Bool) (table more : List ℕ) (added : ℕ) → Moves R lowers table → WithTrees R added table more
    → ((lower : ℕ) → marked lowers' lower ≡ (marked lowers lower || bit added lower)) → Moves R lowers' more
unfolding Moves WithTrees StandsFor one_move by_letters by_trees
more-moves R lowers lowers' table more added good grown either q h p l =
    grown q h p l
    ∙ ap (λ (b : Bool). b || by_trees R added q p) (good q h p l)
    ∙ or_assoc (by_letters R q p) _ _
    ∙ ap (λ (b : Bool). by_letters R q p || b)
    (sym (any-either R.states (λ lower. marked lowers lower && goes_to p (tree_move R q lower)) (λ lower. bit added lower && goes_to p (tree_move R q lower)))
    ∙ any-below-same R.states _ _ (λ lower k. sym (ap (λ (b : Bool). b && goes_to p (tree_move R q lower)) (either lower)
    ∙ and-or_distrib_right (marked lowers lower) (bit added lower) (goes_to p (tree_move R q lower)))))

-- ---- where two words differ

xor-cases : (a b : Bool) → xor a b ≡ true → (a ≡ true) ⊎ (b ≡ true)
unfolding xor
xor-cases true b e = inl refl
xor-cases false true e = inr refl
xor-cases false false e = inr e

-- what differs from less is what was added to it
added-to : (a b : Bool) → (a ≡ true → b ≡ true) → b ≡ (a || xor b a)
unfolding xor
added-to true b f = f refl
added-to false true f = refl
added-to false false f = refl

-- ---- the states in which a tree can end

module _ (R : Rule) (rule : IsRule R) where
  end_low : (i p : ℕ) → marked (ends_in R i) p ≡ true → p < R.states
  end_low i p e = ends-below rule (marked-ends R i p e)

  end-states : (i : ℕ) → StatesOf R.states (ends_word R i)
  unfolding StatesOf ends_word
  end-states i p e = end_low i p (sym (bit_word (ends_in R i) p) ∙ e)

  end_more : (i p : ℕ) → marked (ends_in R i) p ≡ true → marked (ends_in R (suc i)) p ≡ true
  unfolding ends_in rounds
  end_more i p m = end-keeps R (ends_in R i) p (end_low i p m) m

  end-rests : (i : ℕ) → ends_word R (suc i) ≡ ends_word R i → (j : ℕ) → i ≤ j → ends_word R j ≡ ends_word R i
  unfolding ends_word ends_in
  end-rests = word-rests R (end_round R) (end-keeps R) (end-alike R) (start_marks R) end_low

  -- the set of the tree start alone is the word before the first round
  pub first-end-word : (first : ℕ) → first < 2 ^ 64 → StandsFor first (λ p. goes_to p (tree_start_move R)) → first ≡ ends_word R 0
  unfolding ends_word ends_in rounds
  first-end-word first small s =
      stands_word first (start_marks R) small (omega (arith, start-length R, most-states rule))
      (stands-as first _ _ (λ p h. one_truth _ _ (λ t. start-is-marked R rule (goes-true p _ t)) (λ m. goes_to_lem p (start-true R p m))) s)

  module _ (first : ℕ) (is : first ≡ ends_word R 0) where
    pub first-states : StatesOf R.states first
    first-states = rw is (end-states 0)

    -- and with its tree moves the letters' table is the one for it
    pub first_found : (letters moves : List ℕ) → Moves R [] letters → WithTrees R first letters moves → EndsFound R 0 first moves
    unfolding ends_word marked
    first_found letters moves alone grown =
        record {
          set_is = is;
          moves_are = more-moves R [] (ends_in R 0) letters moves first alone grown (λ lower.
              sym (bit_word (ends_in R 0) lower) ∙ ap (λ (w : ℕ). bit w lower) (sym is));
        }

  module _ (i set : ℕ) (moves : List ℕ) (found : EndsFound R i set moves) where
    set-states : StatesOf R.states set
    set-states = rw found.set_is (end-states i)

    pub next-end-word : (next : ℕ) → next < 2 ^ 64 → StandsFor next (joined moves set) → next ≡ ends_word R (suc i)
    unfolding ends_word ends_in rounds end_round
    next-end-word next small s =
        next_word R rule (ends_in R i) (ends_in R i) moves found.moves_are (end_low i) next small (rw found.set_is at s)

    module _ (next : ℕ) (is : next ≡ ends_word R (suc i)) where
      -- what the round added
      pub added-states : StatesOf R.states (bit_xor next set)
      unfolding StatesOf
      added-states p e =
          ⊎_elim (λ t. end-states (suc i) p (ap (λ (w : ℕ). bit w p) (sym is) ∙ t)) (λ t. set-states p t)
          (xor-cases (bit next p) (bit set p) (sym (bit-xor next set p) ∙ e))

      added-marks : (p : ℕ) → marked (ends_in R (suc i)) p ≡ (marked (ends_in R i) p || bit (bit_xor next set) p)
      unfolding ends_word
      added-marks p =
          added-to (marked (ends_in R i) p) (marked (ends_in R (suc i)) p) (end_more i p)
          ∙ ap (λ (b : Bool). marked (ends_in R i) p || b)
          (sym (bit-xor next set p
          ∙ ap (λ (w : ℕ). xor (bit w p) (bit set p)) is
          ∙ ap (λ (w : ℕ). xor (bit (ends_word R (suc i)) p) (bit w p)) found.set_is
          ∙ ap (λ (b : Bool). xor b (bit (ends_word R i) p)) (bit_word (ends_in R (suc i)) p)
          ∙ ap (λ (b : Bool). xor (marked (ends_in R (suc i)) p) b) (bit_word (ends_in R i) p)))

      -- with the tree moves of what was added the table is the one for the next round
      pub next-found : (more : List ℕ) → WithTrees R (bit_xor next set) moves more → EndsFound R (suc i) next more
      next-found more grown =
          record {
            set_is = is;
            moves_are = more-moves R (ends_in R i) (ends_in R (suc i)) moves more (bit_xor next set) found.moves_are grown added-marks;
          }

      -- where the round adds nothing, set and table are those of all rounds after it
      pub rest-found : next ≡ set → (j : ℕ) → i ≤ j → EndsFound R j set moves
      unfolding ends_word
      rest-found e j l =
          let same = end-rests i (sym is ∙ e ∙ found.set_is) j l in
          record { set_is = found.set_is ∙ sym same; moves_are = moves-same R (ends_in R i) (ends_in R j) moves (sym same) found.moves_are }

  -- ---- the last round

  module _ (set : ℕ) (moves : List ℕ) (found : EndsFound R 63 set moves) where
    -- the last round adds nothing, so the table is the one for all states in which a tree can end
    pub all_found : Moves R (end_marks R) moves
    unfolding end_marks ends_in
    all_found =
        moves-same R (ends_in R 63) (ends_in R 64) moves
        (sym (word-stays R (end_round R) (end-keeps R) (end-alike R) (start_marks R) end_low 63 (ends-never-used-up R rule))) found.moves_are

    module _ (next : ℕ) (small : next < 2 ^ 64) (s : StandsFor next (joined moves set)) where
      pub last-end-same : next ≡ set → adds R (ends_in R 63) (ends_in R 64) ≡ false
      unfolding ends_word ends_in
      last-end-same =
          same-adds R (end_round R) (end-keeps R) (end-alike R) (start_marks R) end_low 63 set next found.set_is
          (next-end-word 63 set moves found next small s)

      pub last-end-other : (next ≡ set → ⊥) → adds R (ends_in R 63) (ends_in R 64) ≡ true
      unfolding ends_word ends_in
      last-end-other =
          other-adds R (end_round R) (end-keeps R) (end-alike R) (start_marks R) end_low 63 set next found.set_is
          (next-end-word 63 set moves found next small s)
