-- Each test of a record in its order, by the law of the same step (proofs/Steps.antt).
use Rattle.std.proofs.Common.{sym, ◌∙◌}
use Rattle.meaning.proofs.rulefile.RoundTrip.{record-passes}
use Rattle.meaning.specs.Calls.{says, number_of}
use Rattle.meaning.proofs.laws.Handed.{refusal-at}
use Rattle.rule.proofs.Steps.{record-short, record-kind, record-length, record-cut}
use Rattle.rule.proofs.check.record_check.Goals as goal

pub returns-then-count-place : goal.returns-then-count-place
unfolding number_of
returns-then-count-place c =
    let a = c.args in refusal-at c.at.ensures ∙ sym (record-short a.file.now a.place a.kind a.size c.if-count-place.true)

pub returns-then-number2-kind : goal.returns-then-number2-kind
unfolding number_of
returns-then-number2-kind c =
    let a = c.args in
    refusal-at c.at-then-number2-kind.ensures
    ∙ sym (record-kind a.file.now a.place a.kind a.size c.if-count-place.false
    (λ e. c.if-number2-kind.true (c.number2.ensures ∙ e)))

pub returns-then-number4-size : goal.returns-then-number4-size
unfolding number_of
returns-then-number4-size c =
    let a = c.args in
    refusal-at c.at-then-number4-size.ensures
    ∙ sym (record-length a.file.now a.place a.kind a.size c.if-count-place.false
    (sym c.number2.ensures ∙ c.if-number2-kind.false)
    (λ e. c.if-number4-size.true (c.number4.ensures ∙ e)))

pub returns-then-count-place-2 : goal.returns-then-count-place-2
unfolding number_of
returns-then-count-place-2 c =
    let a = c.args in
    refusal-at c.at-then-count-place-2.ensures
    ∙ sym (record-cut a.file.now a.place a.kind a.size c.if-count-place.false
    (sym c.number2.ensures ∙ c.if-number2-kind.false)
    (sym c.number4.ensures ∙ c.if-number4-size.false)
    c.if-count-place-2.true)

pub returns : goal.returns
unfolding says
returns c =
    let a = c.args in
    sym (record-passes a.file.now a.place a.kind a.size
    (sym c.number2.ensures ∙ c.if-number2-kind.false)
    (sym c.number4.ensures ∙ c.if-number4-size.false)
    c.if-count-place-2.false)
