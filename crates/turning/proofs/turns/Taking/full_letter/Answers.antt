-- The turn is a look at the byte of the letter moves.
use Rattle.std.proofs.Common.{sym, ◌∙◌}
use Rattle.rule.specs.declared.tables.Table.TheVariants.{LetterMoves}
use Rattle.turning.specs.Turns.{turn_says, turn_of}
use Rattle.turning.proofs.Turned.{letter-turn, look-gives, look-refuses}
use Rattle.turning.proofs.turns.Taking.full_letter.Goals as goal

pub returns-in_err-state : goal.returns-in_err-state
returns-in_err-state c =
    let s = c.args.self.now.standing in
    look-refuses _ s.reading LetterMoves _ _ c.letter_move.ensures c.look_up.ensures c.in_err-state.was c.from_residual.result c.from_residual.ensures.1
    ∙ sym (letter-turn s.rule.accepted s.room _ s.reading s.top _ s.states_in.state_in c.requires)

pub returns : goal.returns
unfolding turn_says turn_of
returns c =
    let s = c.args.self.now.standing in
    rw c.looked.ensures
    (look-gives _ s.reading LetterMoves _ _ c.letter_move.ensures c.look_up.ensures c.in_ok-state.was
    ∙ sym (letter-turn s.rule.accepted s.room _ s.reading s.top _ s.states_in.state_in c.requires))
