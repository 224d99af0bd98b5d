-- What the rule check answered says where the record of events starts, or what is refused.
use Rattle.std.proofs.Common.{sym, ap, ◌∙◌}
use Rattle.meaning.specs.Answers.{refused}
use Rattle.meaning.specs.Calls.{refusal_says, number_of}
use Rattle.meaning.proofs.program.Fifth.{other-refused}
use Rattle.rule.proofs.Said.{fine-accepted, refused-check}
use Rattle.input.specs.Says.{front_says}
use Rattle.input.proofs.Headers.{missing, starts}
use Rattle.input.proofs.events_at.Goals as goal

pub returns-in-Ok : goal.returns-in-Ok
unfolding front_says refusal_says number_of
returns-in-Ok c =
    let accepted = fine-accepted c.args.front.now c.in-Ok.field-0 c.in-Ok.ensures in
    rw c.at.ensures (sym (missing c.args.front.now accepted.1))

pub returns-in-Err : goal.returns-in-Err
unfolding number_of
returns-in-Err c =
    let refusal = c.in-Err.refusal in
    let check = refused-check c.args.front.now refusal c.in-Err.ensures in
    c.header_at.ensures ∙ sym (starts c.args.front.now (check ∙ ap (λ n. refused n refusal.place) (c.if-refusal-number.true ∙ c.number.ensures)))

pub returns-in-Err-2 : goal.returns-in-Err-2
unfolding front_says refusal_says number_of
returns-in-Err-2 c =
    let check = refused-check c.args.front.now c.in-Err.refusal c.in-Err.ensures in
    sym (other-refused c.args.front.now check (λ e. c.if-refusal-number.false (e ∙ sym c.number.ensures)))
