-- What feeding comes to is what the call comes to, where the check passed; where it did not, no event is taken.
use Rattle.reading.proofs.Checks.{fine-feeds, fine-fed, refused-fed, fed-answer}
use Rattle.reading.proofs.feed.Goals as goal

pub feed_loop-last-requires : goal.feed_loop-last-requires
feed_loop-last-requires c =
    let admits = c.in-Ok.ensures.admits in
    rw admits.0 (fine-feeds c.args.file.now c.args.book.now c.args.reading c.args.levels.now admits.1)

pub returns-in-Ok : goal.returns-in-Ok
returns-in-Ok c =
    let admits = c.in-Ok.ensures.admits in
    let comes = fine-fed c.args.file.now c.args.book.now c.args.reading c.args.levels.now admits.1 c.args.ceiling c.args.events.now in
    rw c.fed_of.ensures (fed-answer (rw (admits.0, comes) at c.feed_loop-last.ensures))

pub returns-in-Err : goal.returns-in-Err
returns-in-Err c =
    refused-fed c.args.file.now c.args.book.now c.args.reading c.args.levels.now c.in-Err.refusal c.in-Err.ensures.refuses c.args.ceiling
    c.args.events.now
