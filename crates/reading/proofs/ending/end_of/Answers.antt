-- An open level is refused; else the class of the state is the definition's.
use Rattle.std.proofs.Common.{◌<◌, sym, ◌∙◌, rules}
use borrow.Author.Tests.{lt-ltb, le-ltb}
use Rattle.meaning.specs.Calls.{end_says, refusal_says, number_of, end_of}
use Rattle.meaning.proofs.laws.Answered.{refuse-stops, refuse-passes}
use Rattle.turning.proofs.Turned.{class-is, class-in}
use Rattle.reading.proofs.ending.end_of.Goals as goal

pub returns-then-from-gt0 : goal.returns-then-from-gt0
unfolding end_says refusal_says number_of end_of
returns-then-from-gt0 c =
    rw (c.at.ensures, c.open_place.ensures) (sym (refuse-stops 12 _ _ (lt-ltb _ _ (rw (c.from.ensures, c.from-2.ensures) at c.if-from-gt0.true))))

pub unwrap-requires : goal.unwrap-requires
unwrap-requires c =
    let rule = c.args.rule in
    let is_class : c.class_at-class.result < 3 =
    rw (c.class_at-class.ensures ∙ class-is rule.accepted _ c.requires) (class-in rule.accepted _ c.requires)
    in
    search rules

pub returns : goal.returns
unfolding end_says end_of
returns c =
    let verdict = rw c.unwrap.ensures at c.try_from.ensures in
    rw (verdict ∙ (c.class_at-class.ensures ∙ class-is c.args.rule.accepted _ c.requires)) (sym (refuse-passes 12 _ _ (le-ltb _ _ (rw (c.from.ensures, c.from-2.ensures) at c.if-from-gt0.false))))
