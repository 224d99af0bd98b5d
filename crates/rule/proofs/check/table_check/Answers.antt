-- A bad number is refused at its place, a good one is passed, and where all are good so does the definition.
use Rattle.std.proofs.Common.{◌≡◌, sym, ◌∙◌, suc, ◌+◌, ◌<◌, length, add-one, arith}
use Rattle.meaning.specs.Calls.{says, number_of}
use Rattle.meaning.proofs.laws.Handed.{refusal-at}
use Rattle.rule.specs.Checks.{in_range}
use Rattle.rule.proofs.Steps.{table_on, table-bad, table-end}
use Rattle.rule.proofs.check.table_check.Goals as goal

pub returns-then-not-contains : goal.returns-then-not-contains
unfolding number_of
returns-then-not-contains c =
    let a = c.args in
    let here : c.loop-i.i < length a.body.now = omega arith in
    refusal-at c.at.ensures
    ∙ sym (c.loop-i.invariant ∙ table-bad (in_range a.good.below a.good.none) (a.place + c.loop-i.i) a.body.now c.loop-i.i here
    (sym c.contains.ensures ∙ c.if-not-contains.true))

pub loop-i-preserved : goal.loop-i-preserved
loop-i-preserved c =
    let a = c.args in
    let i = c.loop-i.i in
    let here : i < length a.body.now = omega arith in
    let next : a.place + (i + 1) ≡ suc (a.place + i) = omega arith in
    let on = table_on (in_range a.good.below a.good.none) (a.place + i) a.body.now i here (sym c.contains.ensures ∙ c.if-not-contains.false) in
    c.loop-i.invariant ∙ on ∙ rw (next, add-one)

pub returns : goal.returns
unfolding says
returns c =
    let a = c.args in
    let all : c.loop-i.i ≡ length a.body.now = omega arith in
    sym (c.loop-i.invariant ∙ rw all (table-end (in_range a.good.below a.good.none) (a.place + length a.body.now) a.body.now))
