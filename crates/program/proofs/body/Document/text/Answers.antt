-- Bytes after the record, a record cut short, or both lines.
use Rattle.std.proofs.Common.{◌≡◌, ◌<◌, length, ◌∙◌, ap, arith, IsSome, refl}
use Rattle.meaning.specs.Calls.{number_of}
use Rattle.meaning.specs.CheckProgram.{events_in, program_fed}
use Rattle.program.specs.Passes.{pass_says}
use Rattle.program.specs.Bodies.{both_lines}
use Rattle.program.proofs.Prints.{after-prints, cut-prints, both-print}
use Rattle.program.proofs.body.Document.text.Goals as goal

pub returns-in-None : goal.returns-in-None
unfolding number_of
returns-in-None c =
    let d = c.args.self in
    λ input bytes rest read.
    c.refused_text.ensures.says_line
    ∙ rw c.at.ensures
    (after-prints d.file.now d.book.now d.size c.args.body.now input bytes rest read (read.took.when_after (rw c.in-None.is refl)))

pub returns-in-Some : goal.returns-in-Some
unfolding number_of
returns-in-Some c =
    let d = c.args.self in
    λ input bytes rest read.
    let some : IsSome c.args.body.now.taken = rw c.in-Some.is refl in
    let within = read.took.while_within some in
    let counted : c.in-Some.taken ≡ length bytes = cc in
    let less : length bytes < d.size = omega (arith, counted, c.if-taken-whole.true) in
    c.refused_text-in-Some.ensures.says_line
    ∙ rw (c.at-in-Some.ensures, counted)
    (cut-prints d.file.now d.book.now d.size c.args.body.now input bytes rest read (read.all_read some) less)

pub returns-in-Some-2 : goal.returns-in-Some-2
returns-in-Some-2 c =
    let d = c.args.self in
    let both = c.args.body.now.both in
    λ input bytes rest read.
    let some : IsSome c.args.body.now.taken = rw c.in-Some.is refl in
    let within = read.took.while_within some in
    let counted : c.in-Some.taken ≡ length bytes = cc in
    let all : length bytes ≡ d.size = omega (arith, counted, within.in_record, c.if-taken-whole.false) in
    c.lines.ensures
    ∙ (ap (λ w. both_lines d.file.now d.book.now w (pass_says both.full)) within.skip_is
    ∙ (ap (λ w. both_lines d.file.now d.book.now (program_fed d.file.now d.book.now (events_in bytes)) w) within.full_is
    ∙ both-print d.file.now d.book.now d.size c.args.body.now input bytes rest read (read.all_read some) all))
