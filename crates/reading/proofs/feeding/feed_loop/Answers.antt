-- A turn may count on a reading while an event is left, and what it does is done.
use Rattle.std.proofs.Common.{◌∙◌, sym}
use Rattle.std.specs.Prelude.{Ok}
use Rattle.meaning.specs.declared.Reading.{Reading}
use Rattle.turning.specs.Advancing.{rest, rest_of}
use Rattle.turning.specs.declared.Going.{Going}
use Rattle.turning.proofs.OneTurn.{underway-ready, underway-next, underway-ends}
use Rattle.reading.proofs.feeding.feed_loop.Goals as goal

-- where it begins
abbrev begun : Reading → Going
begun r = record { reading = r; next = 0; ended = Ok tt }

pub invariant_of-standing-clause-states_in : goal.invariant_of-standing-clause-states_in
invariant_of-standing-clause-states_in c =
    rw c.top_of.ensures
    (underway-ready c.args.rule.file.now c.args.rule.rule c.args.book.now c.args.ceiling c.args.events.now (begun c.args.reading) c.args.levels.now
    c.loop-at.invariant c.loop-at-test.true).states

pub invariant_of-standing-clause-counted : goal.invariant_of-standing-clause-counted
invariant_of-standing-clause-counted c =
    (underway-ready c.args.rule.file.now c.args.rule.rule c.args.book.now c.args.ceiling c.args.events.now (begun c.args.reading) c.args.levels.now
    c.loop-at.invariant c.loop-at-test.true).counted

pub loop-at-preserved : goal.loop-at-preserved
loop-at-preserved c =
    rw c.lay.ensures
    (underway-next c.args.rule.file.now c.args.rule.rule c.args.book.now c.args.ceiling c.args.events.now (begun c.args.reading) c.args.levels.now
    c.loop-at.invariant c.loop-at-test.true c.advance-turn.result
    (λ other feeds same room. c.advance-turn.ensures other feeds (same ∙ sym c.top_of.ensures) (room ∙ sym c.room-count.ensures)))

pub returns : goal.returns
unfolding rest rest_of
returns c =
    underway-ends c.args.rule.file.now c.args.rule.rule c.args.book.now c.args.ceiling c.args.events.now (begun c.args.reading) c.args.levels.now
    c.loop-at.invariant c.loop-at-test.false
