-- The three tables at the places that the code counted, and then what may follow them.
use Rattle.std.proofs.Common.{◌≡◌, sym, ap, ◌∙◌, Bool, true, false, List, ℕ, ◌+◌, length}
use borrow.Author.Tests.{lt-ltb, le-ltb}
use Rattle.std.specs.Prelude.{Ok}
use Rattle.meaning.specs.Answers.{Answer, refuse◌at◌when◌otherwise◌, given, ◌and_then◌, ◌<?◌}
use Rattle.meaning.specs.Calls.{says, number_of}
use Rattle.meaning.specs.RuleFile.{letter_record, class_count, header_length, numbers_length}
use Rattle.meaning.proofs.laws.Answered.{refuse-passes, refuse-stops}
use Rattle.meaning.proofs.laws.Handed.{refusal-at, handed_on, and_then-ok, and_then-err}
use Rattle.rule.specs.declared.layout.Layout.{Layout}
use Rattle.rule.specs.declared.range.Range.{Range}
use Rattle.rule.specs.Places.{IsLayout}
use Rattle.rule.specs.Checks.{body_check, tables_check, kind_code}
use Rattle.rule.proofs.check.tables_check.Goals as goal

-- the check of the tables, at the places that the code counted
tables-at : (file : List ℕ) {n k : ℕ} {places : Layout} → IsLayout n k places
    → tables_check file n k
    ≡ (body_check file (header_length + numbers_length) 2 places.letter_moves n true and_then
    body_check file places.tree_record 3 places.tree_moves n true and_then
    body_check file places.class_record 4 n class_count false and_then
    refuse 5 at places.count when places.count <? length file otherwise given tt)
unfolding tables_check letter_record
tables-at file p = rw (p.letter_moves, p.tree_moves, p.tree_place, p.class_place, p.count)

-- what a table of moves was checked for, where the bound and the none of its range are known
moves-of : (file : List ℕ) (place kind size : ℕ) {good : Range} {below : ℕ} {none : Bool} {answer : Answer Unit}
    → good ≡ record { below = below; none = none } → answer ≡ body_check file place kind size good.below good.none
    → answer ≡ body_check file place kind size below none
moves-of file place kind size is e = e ∙ ap (λ (good : Range). body_check file place kind size good.below good.none) is

pub returns-in_err-body_check : goal.returns-in_err-body_check
unfolding kind_code
returns-in_err-body_check c =
    let moves = c.moves-moves.ensures in
    handed_on _ _ c.from_residual.ensures.1
    ∙ sym (tables-at c.args.file.now c.of-at.ensures
    ∙ and_then-err _ _ (moves-of _ _ _ _ moves c.in_err-body_check.ensures))

pub returns-in_err-body_check-2 : goal.returns-in_err-body_check-2
unfolding kind_code
returns-in_err-body_check-2 c =
    let moves = c.moves-moves.ensures in
    handed_on _ _ c.from_residual-in_err-body_check-2.ensures.1
    ∙ sym (tables-at c.args.file.now c.of-at.ensures
    ∙ and_then-ok _ (moves-of _ _ _ _ moves c.in_ok-body_check.ensures)
    ∙ and_then-err _ _ (moves-of _ _ _ _ moves c.in_err-body_check-2.ensures))

pub returns-in_err-body_check-3 : goal.returns-in_err-body_check-3
unfolding kind_code
returns-in_err-body_check-3 c =
    let moves = c.moves-moves.ensures in
    handed_on _ _ c.from_residual-in_err-body_check-3.ensures.1
    ∙ sym (tables-at c.args.file.now c.of-at.ensures
    ∙ and_then-ok _ (moves-of _ _ _ _ moves c.in_ok-body_check.ensures)
    ∙ and_then-ok _ (moves-of _ _ _ _ moves c.in_ok-body_check-2.ensures)
    ∙ and_then-err _ _ c.in_err-body_check-3.ensures)

-- where all three tables pass, the end of the file decides
module _ (file : List ℕ) {n k : ℕ} {places : Layout} {moves : Range} {a b d : Unit {0}} (layout : IsLayout n k places)
    (range : moves ≡ record { below = n; none = true })
    (letters : says (Ok a) ≡ body_check file (header_length + numbers_length) 2 places.letter_moves moves.below moves.none)
    (trees : says (Ok b) ≡ body_check file places.tree_record 3 places.tree_moves moves.below moves.none)
    (classes : says (Ok d) ≡ body_check file places.class_record 4 n class_count false)
  where
    all-pass : tables_check file n k ≡ (refuse 5 at places.count when places.count <? length file otherwise given tt)
    all-pass =
        tables-at file layout
        ∙ and_then-ok _ (moves-of _ _ _ _ range letters)
        ∙ and_then-ok _ (moves-of _ _ _ _ range trees)
        ∙ and_then-ok _ classes

pub returns-then-more : goal.returns-then-more
unfolding kind_code number_of
returns-then-more c =
    let moves = c.moves-moves.ensures in
    refusal-at c.at.ensures
    ∙ sym (all-pass c.args.file.now c.of-at.ensures moves c.in_ok-body_check.ensures c.in_ok-body_check-2.ensures c.in_ok-body_check-3.ensures
    ∙ refuse-stops 5 c.of-at.result.count _ (lt-ltb _ _ c.if-more.true))

pub returns : goal.returns
unfolding kind_code says
returns c =
    let moves = c.moves-moves.ensures in
    sym (all-pass c.args.file.now c.of-at.ensures moves c.in_ok-body_check.ensures c.in_ok-body_check-2.ensures c.in_ok-body_check-3.ensures
    ∙ refuse-passes 5 c.of-at.result.count _ (le-ltb _ _ c.if-more.false))
