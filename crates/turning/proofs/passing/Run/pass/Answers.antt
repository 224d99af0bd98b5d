-- The first events, and then each block, are what comes next of all the events.
use Rattle.std.proofs.Common.{◌≡◌, ◌∙◌, sym, ap, arith, length}
use Rattle.std.specs.Slice.Iter.{chunks_rest, chunks_size}
use Rattle.turning.proofs.Counting.{passed_front, passed_next, passed_room, left-after}
use Rattle.turning.proofs.passing.Run.pass.Goals as goal

pub loop-block-init : goal.loop-block-init
loop-block-init c =
    let run = c.args.self.now in
    let it = c.into_iter-block-iterator.ensures.into_iter_gives in
    let all : c.pass_events-passed.result.count ≡ c.min.result = omega (arith, c.pass_events-passed.ensures.within, c.split_at.ensures.front_len) in
    record {
      size = ap chunks_size it ∙ c.chunks-block-items.ensures.size;
      left = rw all (ap chunks_rest it ∙ c.chunks-block-items.ensures.rest ∙ c.split_at.ensures.back);
      passed = passed_front run.known run.skip c.min.result run.events.now _ (rw c.split_at.ensures.front at c.pass_events-passed.ensures);
    }

pub invariant_of-going : goal.invariant_of-going
invariant_of-going c =
    let run = c.args.self.now in
    let s = c.loop-block.invariant in
    let block = c.in-Some.block.now in
    let rest = chunks_rest c.next.new.self in
    let room = passed_room run.known run.skip run.events.now block rest c.loop-block.passed s.passed (sym s.left ∙ c.in-Some.ensures.steps.1.0) in
    record { within_limit = omega (arith, run.within_limit) }

pub overflow_add-passed : goal.overflow_add-passed
overflow_add-passed c =
    let run = c.args.self.now in
    let s = c.loop-block.invariant in
    let more = passed_next run.known run.skip run.events.now _ _ _ _ s.passed (sym s.left ∙ c.in-Some.ensures.steps.1.0) c.pass_block-next.ensures in
    omega (arith, more.within)

pub loop-block-preserved : goal.loop-block-preserved
loop-block-preserved c =
    let run = c.args.self.now in
    let s = c.loop-block.invariant in
    let step = c.in-Some.ensures.steps in
    let left = sym s.left ∙ step.1.0 in
    let whole : c.pass_block-next.result.count ≡ length c.in-Some.block.now = omega (arith, c.pass_block-next.ensures.within) in
    record {
      size = step.0 ∙ s.size;
      left = sym (left-after run.events.now _ _ c.loop-block.passed.count c.pass_block-next.result.count left whole);
      passed = passed_next run.known run.skip run.events.now _ _ _ _ s.passed left c.pass_block-next.ensures;
    }

pub returns-then-next-block : goal.returns-then-next-block
returns-then-next-block c =
    let run = c.args.self.now in
    let s = c.loop-block.invariant in
    passed_next run.known run.skip run.events.now _ _ _ _ s.passed (sym s.left ∙ c.in-Some.ensures.steps.1.0) c.pass_block-next.ensures
