-- Each answer is the definition's, and a refusal leaves the book.
use Rattle.std.proofs.Common.{◌+◌, ◌++◌, ℕ, drop, sym, ap, ◌∙◌, arith}
use Rattle.meaning.specs.Answers.{given}
use Rattle.meaning.specs.RuleFile.{rule_of}
use Rattle.meaning.specs.Calls.{number_of, says}
use Rattle.meaning.specs.SkipBook.{book_of}
use Rattle.meaning.proofs.laws.Handed.{refusal-at}
use Rattle.meaning.proofs.skipbook.BookMade.{after-refused, after-given}
use Rattle.book.specs.declared.tree_ends.TreeEnds.{TreeEnds}
use Rattle.rule.proofs.Said.{states-are}
use Rattle.book.proofs.Makes.{book-short, rounds-used-up, book-made}
use Rattle.book.proofs.make_book.Goals as goal

pub returns-then-book-from-clause-answer : goal.returns-then-book-from-clause-answer
unfolding number_of
returns-then-book-from-clause-answer c =
    refusal-at c.at.ensures
    ∙ sym (book-short (rule_of c.args.rule.file.now) c.args.book.now (omega (arith, states-are c.args.rule.accepted)))

pub returns-then-book-from-clause-book_after : goal.returns-then-book-from-clause-book_after
returns-then-book-from-clause-book_after c =
    sym (after-refused _ _ _ (book-short (rule_of c.args.rule.file.now) c.args.book.now (omega (arith, states-are c.args.rule.accepted))))

pub returns-then-used_up-clause-answer : goal.returns-then-used_up-clause-answer
unfolding number_of
returns-then-used_up-clause-answer c =
    let same = ap (λ (ends : TreeEnds). ends.rule) c.of-reach.ensures ∙ c.of.ensures in
    let used = rw same at (sym c.last_round_adds-used_up.ensures ∙ c.if-used_up.true) in
    refusal-at c.at-then-used_up.ensures
    ∙ sym (rounds-used-up (rule_of c.args.rule.file.now) c.args.book.now (omega (arith, states-are c.args.rule.accepted)) used)

pub returns-then-used_up-clause-book_after : goal.returns-then-used_up-clause-book_after
returns-then-used_up-clause-book_after c =
    let same = ap (λ (ends : TreeEnds). ends.rule) c.of-reach.ensures ∙ c.of.ensures in
    let used = rw same at (sym c.last_round_adds-used_up.ensures ∙ c.if-used_up.true) in
    sym (after-refused _ _ _ (rounds-used-up (rule_of c.args.rule.file.now) c.args.book.now (omega (arith, states-are c.args.rule.accepted)) used))

pub returns-clause-answer : goal.returns-clause-answer
unfolding says
returns-clause-answer c =
    let same = ap (λ (ends : TreeEnds). ends.rule) c.of-reach.ensures ∙ c.of.ensures in
    let unused = rw same at (sym c.last_round_adds-used_up.ensures ∙ c.if-used_up.false) in
    ap given (rw same at c.write_book.ensures.still_count)
    ∙ sym (book-made (rule_of c.args.rule.file.now) c.args.book.now (omega (arith, states-are c.args.rule.accepted)) unused)

pub returns-clause-book_after : goal.returns-clause-book_after
returns-clause-book_after c =
    let R = rule_of c.args.rule.file.now in
    let same = ap (λ (ends : TreeEnds). ends.rule) c.of-reach.ensures ∙ c.of.ensures in
    let unused = rw same at (sym c.last_round_adds-used_up.ensures ∙ c.if-used_up.false) in
    rw same at c.write_book.ensures.book_after
    ∙ ap (λ (n : ℕ). book_of R ++ drop (n + 1) c.args.book.now) (sym (states-are c.args.rule.accepted))
    ∙ sym (after-given _ R c.args.book.now (book-made R c.args.book.now (omega (arith, states-are c.args.rule.accepted)) unused))
