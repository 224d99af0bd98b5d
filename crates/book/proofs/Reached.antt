-- Reach of the states of an accepted rule, with the lower states in which a tree can end: the word of each round, and what the
-- last round adds.
use mathlib.Core.Path.{◌≡◌, sym, ap, ◌∙◌}
use mathlib.Core.Bool.{true, false}
use mathlib.Core.List.{List}
use Prim.Native.Nat.{ℕ, ◌+◌, ◌^◌, ◌≤◌, ◌<◌}
use native.Mathlib.Numerals.{add-one}
use native.Mathlib.Omega.{arith}
use lib.ListN.{get_or}
use Rattle.std.proofs.lemmas.Bool.{or_from, or_left, or_right}
use Rattle.meaning.specs.RuleFile.{Rule, IsRule, rule_of}
use Rattle.meaning.specs.SkipBook.{end_marks, ends_in, reached_in, adds, rounds_used_up}
use Rattle.meaning.proofs.rulefile.Accepted.{accepted-is-rule}
use Rattle.meaning.proofs.laws.Bools.{below-any, any-below-fails}
use Rattle.rule.specs.declared.Rule as numbers
use Rattle.rule.specs.Says.{RuleOf}
use Rattle.book.specs.Sets.{StandsFor, Moves, EndsFound, joined, reached_word, Reached}
use Rattle.rule.proofs.Said.{states-are}
use Rattle.book.proofs.InRounds.{first_word, reached-next-word, reached-rests, reached-same, reached-other}
use Rattle.book.proofs.EndSet.{all_found, last-end-same, last-end-other}

module _ {file : List ℕ} {rule : numbers.Rule} (ok : RuleOf file rule) {set : ℕ} {moves : List ℕ} (ends : EndsFound (rule_of file) 63 set moves) where
  abbrev R : Rule
  R = rule_of file

  is-rule : IsRule R
  is-rule = accepted-is-rule file ok.accepted

  ends-moves : Moves R (end_marks R) moves
  ends-moves = all_found R is-rule set moves ends

  module _ (q : ℕ) (state : q < rule.states) where
    start : q < R.states
    start = omega (arith, states-are ok)

    pub reach-first : (word : ℕ) → word ≡ 2 ^ q → word ≡ reached_word R 0 q
    reach-first word e = e ∙ first_word R is-rule q start

    pub reach-next : (i word next : ℕ) → next < 2 ^ 64 → StandsFor next (joined moves word) → word ≡ reached_word R i q
        → next ≡ reached_word R (i + 1) q
    reach-next i word next small s e =
        reached-next-word R is-rule q start moves ends-moves i next small (rw e at s) ∙ ap (λ (k : ℕ). reached_word R k q) (sym (add-one i))

    -- where the next round changes nothing
    pub reach-rest : (i word next : ℕ) → next < 2 ^ 64 → StandsFor next (joined moves word) → word ≡ reached_word R i q → next ≡ word
        → (j : ℕ) → i ≤ j → word ≡ reached_word R j q
    reach-rest i word next small s e same j l =
        let then = reach-next i word next small s e ∙ ap (λ (k : ℕ). reached_word R k q) (add-one i) in
        e ∙ sym (reached-rests R is-rule q start i (sym then ∙ same ∙ e) j l)

  -- ---- the last round

  module _ (next : ℕ) (small : next < 2 ^ 64) (s : StandsFor next (joined moves set)) where
    ends-same : next ≡ set → adds R (ends_in R 63) (ends_in R 64) ≡ false
    ends-same = last-end-same R is-rule set moves ends next small s

    pub used-up-by-ends : (next ≡ set → ⊥) → rounds_used_up R ≡ true
    unfolding rounds_used_up
    used-up-by-ends ne = or_left _ _ (last-end-other R is-rule set moves ends next small s ne)

  module _ (reach : List ℕ) (reached : Reached R 63 reach) where
    module _ (q : ℕ) (state : q < rule.states) (next : ℕ) (small : next < 2 ^ 64) (s : StandsFor next (joined moves (get_or reach q 0))) where
      before : get_or reach q 0 ≡ reached_word R 63 q
      unfolding Reached
      before = reached q (start q state)

      last-word : next ≡ reached_word R 64 q
      last-word = reached-next-word R is-rule q (start q state) moves ends-moves 63 next small (rw before at s)

      pub adds-none : next ≡ get_or reach q 0 → adds R (reached_in R 63 q) (reached_in R 64 q) ≡ false
      adds-none = reached-same R is-rule q (start q state) (get_or reach q 0) next before last-word

      pub used-up-by-reach : (next ≡ get_or reach q 0 → ⊥) → rounds_used_up R ≡ true
      unfolding rounds_used_up
      used-up-by-reach ne =
          or_right (adds R (ends_in R 63) (ends_in R 64)) _ (below-any R.states (λ p. adds R (reached_in R 63 p) (reached_in R 64 p)) q (start q state)
          (reached-other R is-rule q (start q state) (get_or reach q 0) next before last-word ne))

    pub rounds-suffice : (next : ℕ) → next < 2 ^ 64 → StandsFor next (joined moves set) → next ≡ set
        → ((q : ℕ) → q < rule.states → adds R (reached_in R 63 q) (reached_in R 64 q) ≡ false) → rounds_used_up R ≡ false
    unfolding rounds_used_up
    rounds-suffice next small s e none =
        or_from _ _ (ends-same next small s e) (any-below-fails R.states _ (λ q h. none q (omega (arith, states-are ok))))
