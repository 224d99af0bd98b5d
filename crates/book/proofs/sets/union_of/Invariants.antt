-- What is joined so far, with what the members that are left have, is what all have.
use Rattle.book.proofs.Standing.{Turn}
use Rattle.book.proofs.sets.union_of.Given as goal

abbrev pub invariant-loop-member : goal.invariant-loop-member
invariant-loop-member g l = Turn (λ member own. goal.F-post g l.fn.set_of member own) l.fn.set l.all l.member-iterator.rest
