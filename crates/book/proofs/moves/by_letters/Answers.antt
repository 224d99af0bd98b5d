use Rattle.std.proofs.Common.{◌≡◌, arith}
use Rattle.book.proofs.Walked.{walk_first, walk-next, letter-is, letters-walked}
use Rattle.book.proofs.moves.by_letters.Goals as goal

pub loop-letter-init : goal.loop-letter-init
loop-letter-init c = walk_first _

pub loop-letter-preserved : goal.loop-letter-preserved
loop-letter-preserved c =
    let move = letter-is c.args.rule.accepted c.args.state c.loop-letter.letter c.letter_move.ensures c.requires c.loop-letter-test.true in
    walk-next _ c.loop-letter.letter c.loop-letter.set c.target-set.result move c.loop-letter.invariant c.target-set.ensures

pub returns : goal.returns
returns c =
    let last : c.loop-letter.letter ≡ c.args.rule.rule.letters = omega arith in
    letters-walked c.args.rule.accepted c.args.state c.loop-letter.set (rw last at c.loop-letter.invariant)
