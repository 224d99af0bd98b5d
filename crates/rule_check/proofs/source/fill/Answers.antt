-- Each read lays its bytes after those before.
use Rattle.std.proofs.Common.{rules, arith, ◌≡◌, ◌-◌, List, ℕ, length, take, length-take-le, ◌∙◌}
use borrow.Rule.Slice.PartMut.{put_mid, post_of, take_put}
use Rattle.rule_check.proofs.Transfer.{stays-before, read-in_place, read-more}
use Rattle.rule_check.proofs.source.fill.Goals as goal

pub loop-at-preserved : goal.loop-at-preserved
loop-at-preserved g c =
    let (low, within, same, front, read) = c.loop-at.invariant in
    let at = c.loop-at.at in
    let old : List ℕ = c.loop-at.buffer in
    let part : List ℕ = c.read_some.new.buffer in
    let count = c.in_ok-count.count in
    let more = c.in_ok-count.ensures in
    let new : List ℕ = put_mid at (length old - at) old part in
    let stays : take at new ≡ take at old = take_put _ _ old _ within in
    let long : length new ≡ length old = search rules in
    let gave = read-in_place _ _ count (take at old) part (post_of at (length old - at) old) at (length-take-le at old within) more.bound.0 more.bytes.0 in (
      omega arith,
      omega (arith, long, more.bound.0, c.read_some.auto.buffer),
      long ∙ same,
      stays-before c.args.from at _ _ low stays ∙ front,
      read-more _ _ _ c.args.from at count old new low (omega (arith, long)) stays read gave,
    )
