-- The end is the definition's, of the innermost record, where the check passed, and the check's refusal where it did not.
use Rattle.std.proofs.Common.{sym, ◌∙◌}
use Rattle.std.proofs.lemmas.Result.{err_from_is_err_and}
use Rattle.meaning.specs.Calls.{end_says}
use Rattle.reading.proofs.Checks.{fine-state, fine-ends, refused-ends}
use Rattle.reading.proofs.finish.Goals as goal

pub end_of-requires : goal.end_of-requires
end_of-requires c = fine-state c.args.file.now c.args.book.now c.args.reading c.args.levels.now c.in_ok-rule.ensures.admits.1

pub returns-in_err-rule : goal.returns-in_err-rule
unfolding end_says
returns-in_err-rule c =
    let p = err_from_is_err_and c.from_residual.result c.from_residual.ensures.1 in
    rw (p.1, p.2, end_says)
    (sym (refused-ends c.args.file.now c.args.book.now c.args.reading c.args.levels.now _ c.in_err-rule.ensures.refuses))

pub returns : goal.returns
returns c =
    let passed = c.in_ok-rule.ensures.admits in
    rw (c.top_of.ensures, passed.0) at c.end_of.ensures
    ∙ fine-ends c.args.file.now c.args.book.now c.args.reading c.args.levels.now passed.1
