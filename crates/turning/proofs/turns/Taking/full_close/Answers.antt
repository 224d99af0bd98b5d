-- The top cannot be closed, and any other close is a look at the byte of the tree moves.
use Rattle.std.proofs.Common.{arith, sym, ◌∙◌, eq-eqb}
use Rattle.meaning.specs.Calls.{number_of}
use Rattle.meaning.specs.FullReading.{full_turn}
use Rattle.meaning.proofs.laws.Answered.{refuse-stops}
use Rattle.rule.specs.declared.tables.Table.TheVariants.{TreeMoves}
use Rattle.turning.specs.Turns.{turn_says, turn_of}
use Rattle.turning.proofs.Turned.{close-turn, look-gives, look-refuses}
use Rattle.turning.proofs.turns.Taking.full_close.Goals as goal

pub returns-then-reading-eq0 : goal.returns-then-reading-eq0
unfolding turn_says full_turn number_of
returns-then-reading-eq0 c = sym (refuse-stops 7 _ _ (eq-eqb _ _ c.if-reading-eq0.true))

pub returns-in_err-state : goal.returns-in_err-state
returns-in_err-state c =
    let s = c.args.self.now.standing in
    let inside = c.if-reading-eq0.false in
    look-refuses _ s.reading TreeMoves _ _ c.tree_move.ensures c.look_up.ensures c.in_err-state.was c.from_residual.result c.from_residual.ensures.1
    ∙ sym (close-turn s.rule.accepted s.room _ s.reading s.top inside s.states_in.state_in (s.states_in.above_in (omega (arith, inside))))

pub returns : goal.returns
unfolding turn_says turn_of
returns c =
    let s = c.args.self.now.standing in
    let inside = c.if-reading-eq0.false in
    rw c.looked.ensures
    (look-gives _ s.reading TreeMoves _ _ c.tree_move.ensures c.look_up.ensures c.in_ok-state.was
    ∙ sym (close-turn s.rule.accepted s.room _ s.reading s.top inside s.states_in.state_in (s.states_in.above_in (omega (arith, inside)))))
