use Rattle.std.proofs.Common.{arith, ◌∙◌, ◌≤◌, length, length-take-le, sym}
use borrow.Author.Tests.{eqb-true, eqb-false}
use Rattle.std.proofs.lemmas.Bool.{both_ways}
use Rattle.rule_check.proofs.Glue.{went-block, short-block, fewer-left}
use Rattle.rule_check.proofs.blocks.one_block.Goals as goal

pub returns-then-is_some-clause-went : goal.returns-then-is_some-clause-went
returns-then-is_some-clause-went g c =
    let a = c.args in
    let count = c.in_ok-count.count in
    let filled = c.in_ok-count.ensures in
    let within : count ≤ length c.fill.new.buffer = omega (arith, filled.count_in_bounds, c.fill.auto.buffer) in
    let counted = length-take-le count c.fill.new.buffer within in
    record {
      went =
          went-block a.document a.body.now a.there count a.block.now c.fill.new.buffer _ _ _ _
          filled.count_in_bounds.0 within (c.fill.auto.buffer ∙ c.requires.whole_block) filled.buffer_unchanged filled.read
          c.take.ensures.took_more (λ m. eqb-true count 65536 m)
          (λ m n. filled.«end» (short-block count (length a.block.now) (eqb-false count 65536 m) c.requires.whole_block filled.count_in_bounds.1));
      fewer = fewer-left _ _ _ _ _ c.take.ensures.within_record (λ m. let full = eqb-true count 65536 m in (omega arith, sym c.is_some.ensures ∙ c.if-is_some.true));
    }

pub returns-else-is_some-clause-went : goal.returns-else-is_some-clause-went
returns-else-is_some-clause-went g c =
    let a = c.args in
    let count = c.in_ok-count.count in
    let filled = c.in_ok-count.ensures in
    let within : count ≤ length c.fill.new.buffer = omega (arith, filled.count_in_bounds, c.fill.auto.buffer) in
    let none = c.if-is_some.false in
    record {
      went =
          went-block a.document a.body.now a.there count a.block.now c.fill.new.buffer _ _ _ _
          filled.count_in_bounds.0 within (c.fill.auto.buffer ∙ c.requires.whole_block) filled.buffer_unchanged filled.read
          c.take.ensures.took_more (λ m. absurd (both_ways _ none m)) (λ m n. absurd (both_ways _ none (c.is_some.ensures ∙ n)));
      fewer = fewer-left _ _ _ _ _ c.take.ensures.within_record (λ m. absurd (both_ways _ none m));
    }
