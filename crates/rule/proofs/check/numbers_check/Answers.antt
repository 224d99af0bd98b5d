-- The four tests in file order: each refusal is the definition's, and where all pass so does it.
use Rattle.std.proofs.Common.{◌≡◌, sym, ap, ◌∙◌, ℕ, Bool, not}
use Rattle.rule.specs.declared.range.Range.{Range}
use Rattle.meaning.specs.RuleFile.{numbers_check, is_states, is_letters}
use Rattle.meaning.proofs.laws.Answered.{refuse-passes, refuse-stops}
use Rattle.rule.specs.Checks.{rule_from, in_range}
use Rattle.meaning.specs.Calls.{says, number_of}
use Rattle.meaning.proofs.laws.Handed.{refusal-at}
use Rattle.rule.proofs.check.numbers_check.Goals as goal

-- what the test of a range answered, where the range is known
tested : {good : Range} {below : ℕ} {none passes passed : Bool} (x : ℕ) → good ≡ record { below = below; none = none }
    → passes ≡ in_range good.below good.none x → passes ≡ passed → not (in_range below none x) ≡ not passed
tested x is answers told = ap not (ap (λ (good : Range). in_range good.below good.none x) (sym is) ∙ sym answers ∙ told)

pub returns-then-not-from_one_to : goal.returns-then-not-from_one_to
unfolding number_of numbers_check rule_from in_range is_states is_letters
returns-then-not-from_one_to c =
    refusal-at c.at.ensures ∙ sym (refuse-stops 4 6 _ (ap not (sym c.from_one_to.ensures ∙ c.if-not-from_one_to.true)))

pub returns-then-not-contains : goal.returns-then-not-contains
unfolding number_of numbers_check rule_from in_range is_states is_letters
returns-then-not-contains c =
    refusal-at c.at-then-not-contains.ensures
    ∙ sym (refuse-passes 4 6 _ (ap not (sym c.from_one_to.ensures ∙ c.if-not-from_one_to.false))
    ∙ refuse-stops 4 7 _ (tested _ c.states.ensures c.contains.ensures c.if-not-contains.true))

pub returns-then-not-contains-2 : goal.returns-then-not-contains-2
unfolding number_of numbers_check rule_from in_range is_states is_letters
returns-then-not-contains-2 c =
    refusal-at c.at-then-not-contains-2.ensures
    ∙ sym (refuse-passes 4 6 _ (ap not (sym c.from_one_to.ensures ∙ c.if-not-from_one_to.false))
    ∙ refuse-passes 4 7 _ (tested _ c.states.ensures c.contains.ensures c.if-not-contains.false)
    ∙ refuse-stops 4 8 _ (tested _ c.moves.ensures c.contains-2.ensures c.if-not-contains-2.true))

pub returns-then-not-from_one_to-2 : goal.returns-then-not-from_one_to-2
unfolding number_of numbers_check rule_from in_range is_states is_letters
returns-then-not-from_one_to-2 c =
    refusal-at c.at-then-not-from_one_to-2.ensures
    ∙ sym (refuse-passes 4 6 _ (ap not (sym c.from_one_to.ensures ∙ c.if-not-from_one_to.false))
    ∙ refuse-passes 4 7 _ (tested _ c.states.ensures c.contains.ensures c.if-not-contains.false)
    ∙ refuse-passes 4 8 _ (tested _ c.moves.ensures c.contains-2.ensures c.if-not-contains-2.false)
    ∙ refuse-stops 4 9 _ (ap not (sym c.from_one_to-2.ensures ∙ c.if-not-from_one_to-2.true)))

pub returns : goal.returns
unfolding number_of numbers_check rule_from in_range is_states is_letters says
returns c =
    sym (refuse-passes 4 6 _ (ap not (sym c.from_one_to.ensures ∙ c.if-not-from_one_to.false))
    ∙ refuse-passes 4 7 _ (tested _ c.states.ensures c.contains.ensures c.if-not-contains.false)
    ∙ refuse-passes 4 8 _ (tested _ c.moves.ensures c.contains-2.ensures c.if-not-contains-2.false)
    ∙ refuse-passes 4 9 _ (ap not (sym c.from_one_to-2.ensures ∙ c.if-not-from_one_to-2.false)))
