-- The room, and then a look at the tree start.
use Rattle.std.proofs.Common.{sym, ◌∙◌, le-leb}
use Rattle.meaning.specs.Calls.{number_of}
use Rattle.meaning.specs.FullReading.{full_turn, new_level}
use Rattle.meaning.proofs.laws.Answered.{refuse-stops}
use Rattle.rule.specs.declared.tables.Table.TheVariants.{TreeStart}
use Rattle.turning.specs.Turns.{turn_says, turn_of}
use Rattle.turning.proofs.Turned.{open_turn, look-gives, look-refuses}
use Rattle.turning.proofs.turns.Taking.full_open.Goals as goal

pub returns-then-self-reading : goal.returns-then-self-reading
unfolding turn_says full_turn number_of
returns-then-self-reading c = sym (refuse-stops 8 _ _ (le-leb _ _ c.if-self-reading.true))

pub returns-in_err-state : goal.returns-in_err-state
returns-in_err-state c =
    let s = c.args.self.now.standing in
    look-refuses _ s.reading TreeStart _ _ c.tree_start.ensures c.look_up.ensures c.in_err-state.was c.from_residual.result c.from_residual.ensures.1
    ∙ sym (open_turn s.rule.accepted _ _ s.reading s.top c.if-self-reading.false)

pub returns : goal.returns
unfolding turn_says turn_of new_level
returns c =
    let s = c.args.self.now.standing in
    rw c.looked.ensures
    (look-gives _ s.reading TreeStart _ _ c.tree_start.ensures c.look_up.ensures c.in_ok-state.was
    ∙ sym (open_turn s.rule.accepted _ _ s.reading s.top c.if-self-reading.false))
