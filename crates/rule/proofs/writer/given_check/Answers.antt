-- The lengths of the three tables and then their bytes, at the places that the code counted.
use Rattle.std.proofs.Common.{◌≡◌, sym, ap, ◌∙◌, Bool, true, false, not, List, ℕ, ◌+◌, length}
use borrow.Author.Tests.{eq-eqb, ne_eqb}
use Rattle.meaning.specs.Calls.{number_of}
use Rattle.meaning.specs.Answers.{Answer, refused, refuse◌at◌when◌otherwise◌, ◌and_then◌, ◌=?◌}
use Rattle.meaning.specs.RuleFile as format
use Rattle.meaning.specs.RuleFile.{table_check, letter_record, class_count, header_length, numbers_length}
use Rattle.meaning.proofs.laws.Answered.{refuse-passes, refuse-stops}
use Rattle.meaning.proofs.laws.Handed.{refusal-at, handed_on, and_then-ok, and_then-err}
use Rattle.rule.specs.declared.layout.Layout.{Layout}
use Rattle.rule.specs.declared.range.Range.{Range}
use Rattle.rule.specs.Places.{IsLayout}
use Rattle.rule.specs.Checks.{in_range, rule_from, parts_rule, given_check}
use Rattle.rule.proofs.writer.given_check.Goals as goal

-- the check of the given tables, at the places that the code counted
given-at : (R : format.Rule) {places : Layout} → IsLayout R.states R.letters places
    → given_check R
    ≡ (refuse 3 at header_length + numbers_length when not (length R.letter_moves =? places.letter_moves) otherwise
    refuse 3 at places.tree_record when not (length R.tree_moves =? places.tree_moves) otherwise
    refuse 3 at places.class_record when not (length R.classes =? R.states) otherwise
    table_check (in_range R.states true) (header_length + numbers_length + header_length) R.letter_moves and_then
    table_check (in_range R.states true) (places.tree_record + header_length) R.tree_moves and_then
    table_check (in_range class_count false) (places.class_record + header_length) R.classes)
unfolding given_check letter_record
given-at R p = rw (p.letter_moves, p.tree_moves, p.tree_place, p.class_place)

module _ (R : format.Rule) {places : Layout} (layout : IsLayout R.states R.letters places) where
  letters-wrong : (length R.letter_moves ≡ places.letter_moves → ⊥) → given_check R ≡ refused 3 11
  letters-wrong wrong = given-at R layout ∙ refuse-stops 3 11 _ (ap not (ne_eqb _ _ wrong))

  module _ (letters : length R.letter_moves ≡ places.letter_moves) where
    trees-wrong : (length R.tree_moves ≡ places.tree_moves → ⊥) → given_check R ≡ refused 3 places.tree_record
    trees-wrong wrong =
        given-at R layout
        ∙ refuse-passes 3 11 _ (ap not (eq-eqb _ _ letters))
        ∙ refuse-stops 3 places.tree_record _ (ap not (ne_eqb _ _ wrong))

    module _ (trees : length R.tree_moves ≡ places.tree_moves) where
      classes-wrong : (length R.classes ≡ R.states → ⊥) → given_check R ≡ refused 3 places.class_record
      classes-wrong wrong =
          given-at R layout
          ∙ refuse-passes 3 11 _ (ap not (eq-eqb _ _ letters))
          ∙ refuse-passes 3 places.tree_record _ (ap not (eq-eqb _ _ trees))
          ∙ refuse-stops 3 places.class_record _ (ap not (ne_eqb _ _ wrong))

      -- where the lengths are right, the bytes decide
      lengths-right : length R.classes ≡ R.states
          → given_check R
          ≡ (table_check (in_range R.states true) (header_length + numbers_length + header_length) R.letter_moves and_then
          table_check (in_range R.states true) (places.tree_record + header_length) R.tree_moves and_then
          table_check (in_range class_count false) (places.class_record + header_length) R.classes)
      lengths-right classes =
          given-at R layout
          ∙ refuse-passes 3 11 _ (ap not (eq-eqb _ _ letters))
          ∙ refuse-passes 3 places.tree_record _ (ap not (eq-eqb _ _ trees))
          ∙ refuse-passes 3 places.class_record _ (ap not (eq-eqb _ _ classes))

-- a table of moves, where the bound and the none of its range are known
moves-of : (place : ℕ) (body : List ℕ) {good : Range} {below : ℕ} {none : Bool} {answer : Answer Unit}
    → good ≡ record { below = below; none = none } → answer ≡ table_check (in_range good.below good.none) place body
    → answer ≡ table_check (in_range below none) place body
moves-of place body is e = e ∙ ap (λ (good : Range). table_check (in_range good.below good.none) place body) is

pub returns-then-parts-at : goal.returns-then-parts-at
unfolding rule_from number_of
returns-then-parts-at c =
    refusal-at c.at.ensures
    ∙ sym (letters-wrong (parts_rule c.args.parts) c.of-at.ensures c.if-parts-at.true)

pub returns-then-parts-at-2 : goal.returns-then-parts-at-2
unfolding rule_from number_of
returns-then-parts-at-2 c =
    refusal-at c.at-then-parts-at-2.ensures
    ∙ sym (trees-wrong (parts_rule c.args.parts) c.of-at.ensures c.if-parts-at.false c.if-parts-at-2.true)

pub returns-then-parts-rule : goal.returns-then-parts-rule
unfolding rule_from number_of
returns-then-parts-rule c =
    refusal-at c.at-then-parts-rule.ensures
    ∙ sym (classes-wrong (parts_rule c.args.parts) c.of-at.ensures c.if-parts-at.false c.if-parts-at-2.false c.if-parts-rule.true)

pub returns-in_err-table_check : goal.returns-in_err-table_check
unfolding rule_from
returns-in_err-table_check c =
    let moves = c.moves-moves.ensures in
    handed_on _ _ c.from_residual.ensures.1
    ∙ sym (lengths-right (parts_rule c.args.parts) c.of-at.ensures c.if-parts-at.false c.if-parts-at-2.false c.if-parts-rule.false
    ∙ and_then-err _ _ (moves-of _ _ moves c.in_err-table_check.ensures))

pub returns-in_err-table_check-2 : goal.returns-in_err-table_check-2
unfolding rule_from
returns-in_err-table_check-2 c =
    let moves = c.moves-moves.ensures in
    handed_on _ _ c.from_residual-in_err-table_check-2.ensures.1
    ∙ sym (lengths-right (parts_rule c.args.parts) c.of-at.ensures c.if-parts-at.false c.if-parts-at-2.false c.if-parts-rule.false
    ∙ and_then-ok _ (moves-of _ _ moves c.in_ok-table_check.ensures)
    ∙ and_then-err _ _ (moves-of _ _ moves c.in_err-table_check-2.ensures))

pub returns : goal.returns
unfolding rule_from
returns c =
    let moves = c.moves-moves.ensures in
    c.table_check-3.ensures
    ∙ sym (lengths-right (parts_rule c.args.parts) c.of-at.ensures c.if-parts-at.false c.if-parts-at-2.false c.if-parts-rule.false
    ∙ and_then-ok _ (moves-of _ _ moves c.in_ok-table_check.ensures)
    ∙ and_then-ok _ (moves-of _ _ moves c.in_ok-table_check-2.ensures))
