-- The depths of the first events of each part are kept, and the parts are joined.
use Rattle.std.proofs.Common.{◌≡◌, List, ℕ, ◌+◌, refl, arith, take_all}
use Rattle.turning.specs.declared.passing.Depths.{Depths}
use Rattle.turning.specs.PassingOver.{joined}
use Rattle.turning.proofs.Counting.{PartOf, part-none, part-more, part-join, part-short}
use Rattle.turning.proofs.passing.Depths.of.Goals as goal

-- two parts that were followed to their end
half : (events : List ℕ) (at i : ℕ) (d d' : Depths) → i ≡ 64 → PartOf events 64 at i d → PartOf events 64 (at + 64) i d'
    → PartOf events 128 at 128 (joined d d')
half events at i d d' e h h' = part-join events 64 at 64 64 d d' (rw e at h) (rw e at h')

pub loop-i-init : goal.loop-i-init
loop-i-init c =
    let block = c.args.block.now in
    rw c.begun_at-a.ensures (record {
      first = part-none block 64 0;
      second = part-none block 64 64;
      third = part-none block 64 128;
      fourth = part-none block 64 192;
    })

pub loop-i-preserved : goal.loop-i-preserved
loop-i-preserved c =
    let s = c.loop-i in
    let block = c.args.block.now in
    record {
      first = rw c.with-a.ensures (part-more block 64 0 s.i _ s.a (omega arith) (omega arith) (omega arith) s.invariant.first);
      second = rw c.with-b.ensures (part-more block 64 64 s.i _ s.b refl (omega arith) (omega arith) s.invariant.second);
      third = rw c.with-c.ensures (part-more block 64 128 s.i _ s.c refl (omega arith) (omega arith) s.invariant.third);
      fourth = rw c.with-d.ensures (part-more block 64 192 s.i _ s.d refl (omega arith) (omega arith) s.invariant.fourth);
    }

pub then-requires-3 : goal.then-requires-3
then-requires-3 c =
    let s = c.loop-i in
    let block = c.args.block.now in
    let h = half block 0 s.i s.a s.b (omega arith) s.invariant.first s.invariant.second in
    let h' = half block 128 s.i s.c s.d (omega arith) s.invariant.third s.invariant.fourth in
    record {
      short = rw c.then.ensures (part-short block 128 0 128 _ (omega arith) (omega arith) h);
      next_short = rw c.then-2.ensures (part-short block 128 128 128 _ (omega arith) (omega arith) h');
    }

pub returns : goal.returns
returns c =
    let s = c.loop-i in
    let block = c.args.block.now in
    let h = half block 0 s.i s.a s.b (omega arith) s.invariant.first s.invariant.second in
    let h' = half block 128 s.i s.c s.d (omega arith) s.invariant.third s.invariant.fourth in
    let whole = part-join block 128 0 128 128 _ _ h h' in
    let all = take_all 256 block (omega arith) in
    rw (c.then-3.ensures, c.then.ensures, c.then-2.ensures) (record { depths = rw all at whole.depths; begun = whole.begun_is })
