use Rattle.std.proofs.Common.{get_or, rules}
use Rattle.meaning.specs.SkipBook.{bit}
use Rattle.book.specs.Sets.{joined}
use Rattle.book.proofs.Standing.{stands-or, stands-itself, stands-is}
use Rattle.book.proofs.sets.with_members.Goals as goal

pub returns : goal.returns
unfolding joined
returns c =
    stands-or _ _ _ _ (stands-itself c.args.set)
    (c.union_of.ensures (λ m. bit (get_or c.args.table.now m 0)) (λ member own m e. stands-is (search rules)))
