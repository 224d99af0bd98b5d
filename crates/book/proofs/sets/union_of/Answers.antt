use Rattle.std.proofs.Common.{◌∙◌, ap}
use Rattle.book.specs.declared.sets.Members.{Members}
use Rattle.book.proofs.Standing.{turn-first, turn-member, turn-next, turn_last}
use Rattle.book.proofs.sets.union_of.Goals as goal

pub loop-member-init : goal.loop-member-init
loop-member-init g c =
    turn-first _ _ _ (ap (λ (m : Members). m.rest) c.into_iter-member-iterator.ensures.into_iter_gives ∙ c.of-member-items.ensures) c.ranges.set.fits

pub set_of-all-requires : goal.set_of-all-requires
set_of-all-requires g c = c.requires _ (turn-member _ _ _ _ c.loop-member.invariant c.in-Some.ensures.steps)

pub loop-member-preserved : goal.loop-member-preserved
loop-member-preserved g c = turn-next _ _ _ _ c.loop-member.invariant c.in-Some.ensures.steps c.set_of-all.result c.set_of-all.ensures

pub returns : goal.returns
returns g c = turn_last _ _ _ _ c.loop-member.invariant c.in-None.ensures.steps
