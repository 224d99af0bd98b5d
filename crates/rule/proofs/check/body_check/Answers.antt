-- The record is checked and then its body, which is the part that the definition names.
use Rattle.std.proofs.Common.{◌≡◌, sym, ap, ◌∙◌, List, ℕ, ◌+◌, ◌-◌, take, drop, arith}
use Rattle.meaning.specs.Answers.{Answer}
use Rattle.meaning.specs.RuleFile.{part, record_check, table_check, header_length}
use Rattle.meaning.proofs.laws.Handed.{was-given, handed_on, and_then-ok, and_then-err}
use Rattle.meaning.proofs.rulefile.Accepted.{record-whole}
use Rattle.rule.specs.Checks.{body_check, in_range, kind_code}
use Rattle.rule.proofs.check.body_check.Goals as goal

-- the kind's code in the check of its record
coded : (file : List ℕ) (place size : ℕ) {kind code : ℕ} {answer : Answer Unit} → code ≡ kind
    → answer ≡ record_check file place code size → answer ≡ record_check file place kind size
coded file place size k e = e ∙ ap (λ (kind : ℕ). record_check file place kind size) k

pub returns-in_err-record_check : goal.returns-in_err-record_check
unfolding body_check
returns-in_err-record_check c =
    let a = c.args in
    handed_on _ _ c.from_residual.ensures.1
    ∙ sym (and_then-err _ _ (coded a.file.now a.place a.size c.code.ensures c.in_err-record_check.ensures))

pub slice_bounds-table_check-end : goal.slice_bounds-table_check-end
slice_bounds-table_check-end c =
    let a = c.args in
    let passed = was-given (coded a.file.now a.place a.size c.code.ensures c.in_ok-record_check.ensures) in
    record-whole a.file.now a.place (kind_code a.kind) a.size passed

pub returns : goal.returns
unfolding body_check part
returns c =
    let a = c.args in
    let start = a.place + header_length in
    let size : start + a.size - start ≡ a.size = omega arith in
    c.table_check.ensures
    ∙ ap (λ (n : ℕ). table_check (in_range a.good.below a.good.none) start (take n (drop start a.file.now))) size
    ∙ sym (and_then-ok _ (coded a.file.now a.place a.size c.code.ensures c.in_ok-record_check.ensures))
