-- Bytes in the record are fed.
use Rattle.std.proofs.Common.{◌≡◌, ◌+◌, ◌≤◌, length, IfSome, IsSomeAnd, rules}
use Rattle.program.proofs.Blocks.{took-more}
use Rattle.program.proofs.body.Document.take.Goals as goal

pub returns-then-is_some-clause-took_more : goal.returns-then-is_some-clause-took_more
returns-then-is_some-clause-took_more c =
    let d = c.args.self in
    let block = c.args.block.now in
    let within : IfSome c.filter-body.result (λ m. IsSomeAnd c.args.body.now.taken (λ k. m ≡ k + length block) × (m ≤ d.size)) = search rules in
    λ bytes took even short.
    took-more d.file.now d.book.now d.size c.args.body.now _ bytes block took even (search rules) within
    (c.feed.ensures.skip_fed short) (c.feed.ensures.full_fed short)
