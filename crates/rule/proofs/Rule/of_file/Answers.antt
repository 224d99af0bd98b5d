-- The check in its stages: the first record, the four numbers, the tables.
use Rattle.std.proofs.Common.{◌≡◌, sym, ap, ◌∙◌, List, ℕ, ◌<◌, length, arith}
use Rattle.std.specs.Prelude.{Ok}
use Rattle.meaning.specs.Answers.{Answer, ◌giving◌}
use Rattle.meaning.specs.Calls.{says}
use Rattle.meaning.specs.RuleFile.{byte_at, number2, record_check}
use Rattle.meaning.proofs.laws.Handed.{was-given, handed_on, and_then-ok, and_then-err, giving-ok, giving-err}
use Rattle.meaning.proofs.rulefile.Accepted.{record-whole}
use Rattle.rule.specs.Says.{check_answer}
use Rattle.rule.specs.Checks.{numbers_answer, kind_code}
use Rattle.rule.specs.declared.Rule.{Rule}
use Rattle.rule.proofs.Stages.{after_numbers, check-stages}
use Rattle.rule.proofs.Rule.of_file.Goals as goal

-- the first record has its eleven bytes
module _ (file : List ℕ) {u : Unit {0}} {code : ℕ} (is_1 : code ≡ 1) (passes : says (Ok u) ≡ record_check file 0 code 5) where
  first : says (Ok u) ≡ record_check file 0 1 5
  first = passes ∙ ap (λ (code : ℕ). record_check file 0 code 5) is_1

  whole : 10 < length file
  whole = omega (arith, record-whole file 0 1 5 (was-given first))

  -- what comes after it
  staged : check_answer file
      ≡ (numbers_answer (byte_at file 6) (byte_at file 7) (byte_at file 8) (number2 file 9) giving after_numbers file)
  staged = check-stages file ∙ and_then-ok _ first

pub returns-in_err-record_check : goal.returns-in_err-record_check
unfolding kind_code
returns-in_err-record_check c =
    let file = c.args.file.now in
    handed_on _ _ c.from_residual.ensures.1
    ∙ sym (check-stages file
    ∙ and_then-err _ _ (c.in_err-record_check.ensures ∙ ap (λ (code : ℕ). record_check file 0 code 5) c.code.ensures))

pub bounds-file-6 : goal.bounds-file-6
unfolding kind_code
bounds-file-6 c = omega (arith, whole c.args.file.now c.code.ensures c.in_ok-record_check.ensures)

pub bounds-file-7 : goal.bounds-file-7
unfolding kind_code
bounds-file-7 c = omega (arith, whole c.args.file.now c.code.ensures c.in_ok-record_check.ensures)

pub bounds-file-8 : goal.bounds-file-8
unfolding kind_code
bounds-file-8 c = omega (arith, whole c.args.file.now c.code.ensures c.in_ok-record_check.ensures)

pub number2-requires : goal.number2-requires
unfolding kind_code
number2-requires c = omega (arith, whole c.args.file.now c.code.ensures c.in_ok-record_check.ensures)

-- the numbers that were read are those of the file
read : (file : List ℕ) {answer : Answer Rule} {k : ℕ} → k ≡ number2 file 9
    → answer ≡ numbers_answer (byte_at file 6) (byte_at file 7) (byte_at file 8) k
    → answer ≡ numbers_answer (byte_at file 6) (byte_at file 7) (byte_at file 8) (number2 file 9)
read file k e = e ∙ ap (numbers_answer (byte_at file 6) (byte_at file 7) (byte_at file 8)) k

pub returns-in_err-rule : goal.returns-in_err-rule
unfolding kind_code
returns-in_err-rule c =
    let file = c.args.file.now in
    handed_on _ _ c.from_residual-in_err-rule.ensures.1
    ∙ sym (staged file c.code.ensures c.in_ok-record_check.ensures
    ∙ giving-err (after_numbers file) _ (read file c.number2.ensures c.in_err-rule.ensures))

pub returns-in_err-tables_check : goal.returns-in_err-tables_check
unfolding kind_code after_numbers
returns-in_err-tables_check c =
    let file = c.args.file.now in
    handed_on _ _ c.from_residual-in_err-tables_check.ensures.1
    ∙ sym (staged file c.code.ensures c.in_ok-record_check.ensures
    ∙ giving-ok (after_numbers file) (read file c.number2.ensures c.in_ok-rule.ensures)
    ∙ and_then-err _ _ c.in_err-tables_check.ensures)

pub returns : goal.returns
unfolding kind_code says after_numbers
returns c =
    let file = c.args.file.now in
    sym (staged file c.code.ensures c.in_ok-record_check.ensures
    ∙ giving-ok (after_numbers file) (read file c.number2.ensures c.in_ok-rule.ensures)
    ∙ and_then-ok _ c.in_ok-tables_check.ensures)
