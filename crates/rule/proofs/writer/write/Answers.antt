-- Where the check passed there is room for the whole file, and its records are laid one after the other; a refusal leaves the
-- output as it was.
use Rattle.std.proofs.Common.{refl, sym, ap, ◌∙◌, ◌++◌, ℕ, length, drop, arith}
use Rattle.meaning.specs.Answers.{Answer}
use Rattle.meaning.specs.Calls.{refusal_says}
use Rattle.meaning.specs.RuleFile.{output_after, rule_bytes, record_bytes, numbers_body, bytes2, bytes4, letter_record, tree_record, class_record, file_length}
use Rattle.meaning.proofs.laws.Handed.{was-given, was-refused}
use Rattle.meaning.proofs.rulefile.RoundTrip.{writes, bytes-length}
use Rattle.rule.specs.Checks.{rule_from, parts_rule}
use Rattle.rule.proofs.Laying.{laid_next, laid-front}
use Rattle.rule.proofs.writer.write.Goals as goal

pub returns-in_err-count-clause-output_after : goal.returns-in_err-count-clause-output_after
unfolding refusal_says output_after
returns-in_err-count-clause-output_after c =
    let R = parts_rule c.args.parts in
    ap (λ (answer : Answer ℕ). output_after answer R c.args.output.now) (sym (was-refused _ c.in_err-count.ensures))

pub numbers-requires : goal.numbers-requires
unfolding rule_from file_length class_record tree_record letter_record
numbers-requires c =
    let w = writes (parts_rule c.args.parts) (length c.args.output.now) (was-given c.in_ok-count.ensures) in
    omega arith

pub tables-requires : goal.tables-requires
unfolding rule_from file_length class_record tree_record letter_record
tables-requires c =
    let w = writes (parts_rule c.args.parts) (length c.args.output.now) (was-given c.in_ok-count.ensures) in
    omega (arith, w.rule.letter_length, w.rule.tree_length, w.rule.class_length, c.numbers.auto.output)

pub returns-clause-output_after : goal.returns-clause-output_after
unfolding output_after rule_bytes record_bytes numbers_body bytes4 bytes2 rule_from file_length class_record tree_record letter_record
returns-clause-output_after c =
    let R = parts_rule c.args.parts in
    let output = c.args.output.now in
    let answer = was-given c.in_ok-count.ensures in
    let w = writes R (length output) answer in
    let first = record_bytes 1 (numbers_body R) in
    c.tables.ensures
    ∙ laid_next 0 11 first _ output c.numbers.ensures refl (omega arith)
    ∙ laid-front (rule_bytes R) output
    ∙ ap (λ (n : ℕ). rule_bytes R ++ drop n output) (bytes-length R w.rule ∙ sym w.all)
    ∙ sym (ap (λ (answer : Answer ℕ). output_after answer R output) answer)
