-- A known event whose close does not end the level is passed over.
use Rattle.turning.proofs.Counting.{passed_one}
use Rattle.turning.proofs.passing.after_event.Goals as goal

pub returns : goal.returns
returns c =
    passed_one c.args.known c.args.skip c.args.event _ _ c.checked_sub.result c.if-known-event.false c.from.ensures c.from-2.ensures c.checked_sub.ensures
