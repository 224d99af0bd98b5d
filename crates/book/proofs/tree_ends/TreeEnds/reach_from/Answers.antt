use Rattle.std.proofs.Common.{arith}
use Rattle.book.proofs.Reached.{reach-first, reach-next, reach-rest}
use Rattle.book.proofs.tree_ends.TreeEnds.reach_from.Goals as goal

pub loop-round-init : goal.loop-round-init
loop-round-init c = reach-first c.args.self.now.rule.accepted c.args.self.now.found c.args.state c.requires _ c.only-set.ensures

pub returns-then-next-set : goal.returns-then-next-set
returns-then-next-set c =
    let ends = c.args.self.now in
    reach-rest ends.rule.accepted ends.found c.args.state c.requires _ c.loop-round.set _ (omega arith) c.with_members-next.ensures c.loop-round.invariant c.if-next-set.true 63 (omega arith)

pub loop-round-preserved : goal.loop-round-preserved
loop-round-preserved c =
    reach-next c.args.self.now.rule.accepted c.args.self.now.found c.args.state c.requires _ c.loop-round.set _ (omega arith) c.with_members-next.ensures c.loop-round.invariant
