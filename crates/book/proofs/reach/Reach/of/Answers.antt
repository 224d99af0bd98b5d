use Rattle.std.proofs.Common.{◌≡◌, get_or, arith, rules}
use Rattle.meaning.specs.RuleFile.{rule_of}
use Rattle.book.specs.Sets.{Reached, reached_word}
use Rattle.rule.proofs.Said.{states-are}
use Rattle.book.proofs.reach.Reach.of.Goals as goal

pub invariant_of-result : goal.invariant_of-result
unfolding Reached
invariant_of-result c =
    record {
      reached = λ q h.
          let each = c.table_of-sets.ensures.each q (omega (arith, states-are c.args.ends.rule.accepted)) in
          let word : get_or c.table_of-sets.result q 0 ≡ reached_word (rule_of c.args.ends.rule.file.now) 63 q = search rules in
          word;
    }
