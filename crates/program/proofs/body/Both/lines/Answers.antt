-- A line after the other.
use Rattle.std.proofs.Common.{◌≡◌, ◌∙◌, ap, ◌++◌, arith, length-append}
use Rattle.meaning.specs.Answers.{◌giving◌}
use Rattle.meaning.specs.Calls.{finish_fed}
use Rattle.meaning.specs.CheckProgram.{line_from, line_bytes, skip_word, full_word}
use Rattle.program.specs.Passes.{pass_says}
use Rattle.program.specs.Texts.{line_of, line_says}
use Rattle.program.specs.Bodies.{zero_book, fed_line, both_lines}
use Rattle.program.proofs.Laying.{lays-then, lays-whole}
use Rattle.program.proofs.Rooms.{line-few}
use Rattle.program.proofs.body.Both.lines.Goals as goal

pub returns : goal.returns
unfolding both_lines fed_line line_says line_of line_from pass_says skip_word full_word
returns c =
    let file = c.args.document.file.now in
    let book = c.args.document.book.now in
    let both = c.args.self.now in
    let skip : line_says c.end_of.result both.skip.reading ≡ fed_line file book (pass_says both.skip)
    = ap (λ x. x giving line_of both.skip.reading) c.end_of.ensures in
    let full : line_says c.end_of-2.result both.full.reading ≡ fed_line file zero_book (pass_says both.full)
    = ap (λ x. x giving line_of both.full.reading)
    (c.end_of-2.ensures ∙ ap (λ b. finish_fed file b (pass_says both.full)) c.zeros.ensures.zeros) in
    lays-whole c.empty-text.ensures (lays-then c.line.ensures c.line-2.ensures)
    (simp length-append
    (omega (arith, line-few skip_word (line_says c.end_of.result both.skip.reading), line-few full_word (line_says c.end_of-2.result both.full.reading))))
    ∙ (ap (λ l. line_bytes skip_word l ++ line_bytes full_word (line_says c.end_of-2.result both.full.reading)) skip
    ∙ ap (λ l. line_bytes skip_word (fed_line file book (pass_says both.skip)) ++ line_bytes full_word l) full)
