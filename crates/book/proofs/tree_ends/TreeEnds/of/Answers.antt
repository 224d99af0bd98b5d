-- Where a round changes nothing, word and table are those of all rounds after it.
use Rattle.std.proofs.Common.{◌≡◌, arith, add-one}
use Rattle.meaning.specs.RuleFile.{rule_of}
use Rattle.meaning.proofs.rulefile.Accepted.{accepted-is-rule}
use Rattle.book.specs.Sets.{EndsFound}
use Rattle.rule.proofs.Said.{few-states, states-are}
use Rattle.book.proofs.Walked.{start-goes}
use Rattle.book.proofs.EndSet.{first-end-word, first-states, first_found, next-end-word, added-states, next-found, rest-found}
use Rattle.book.proofs.tree_ends.TreeEnds.of.Goals.{else-loop-round-test, then-loop-round-test+then-next-set}
use Rattle.book.proofs.tree_ends.TreeEnds.of.Goals as goal

pub with_trees-moves-requires : goal.with_trees-moves-requires
with_trees-moves-requires c =
    let rule = accepted-is-rule _ c.args.rule.accepted.accepted in
    let set = c.target-set.result in
    let first = first-end-word _ rule set (omega arith) (start-goes c.args.rule.accepted set c.tree_start.ensures c.target-set.ensures) in
    rw (states-are c.args.rule.accepted) at (first-states _ rule _ first)

pub loop-round-init : goal.loop-round-init
loop-round-init c =
    let rule = accepted-is-rule _ c.args.rule.accepted.accepted in
    let set = c.target-set.result in
    let first = first-end-word _ rule set (omega arith) (start-goes c.args.rule.accepted set c.tree_start.ensures c.target-set.ensures) in
    first_found _ rule _ first _ _ c.letter_moves-letters.ensures c.with_trees-moves.ensures

pub with_trees-moves-requires-in-loop-round : goal.with_trees-moves-requires-in-loop-round
with_trees-moves-requires-in-loop-round c =
    let rule = accepted-is-rule _ c.args.rule.accepted.accepted in
    let loop = c.loop-round in
    let next = next-end-word _ rule loop._round _ _ loop.invariant c.with_members-next.result (omega arith) c.with_members-next.ensures in
    rw (states-are c.args.rule.accepted) at (added-states _ rule loop._round loop.set loop.moves loop.invariant _ next)

pub loop-round-preserved : goal.loop-round-preserved
loop-round-preserved c =
    let rule = accepted-is-rule _ c.args.rule.accepted.accepted in
    let loop = c.loop-round in
    let next = next-end-word _ rule loop._round _ _ loop.invariant c.with_members-next.result (omega arith) c.with_members-next.ensures in
    let more = next-found _ rule loop._round loop.set loop.moves loop.invariant _ next _ c.with_trees-moves-in-loop-round.ensures in
    rw (add-one loop._round) more

pub invariant_of-result : goal.invariant_of-result
invariant_of-result c =
    let accepted = c.args.rule.accepted in
    let rule = accepted-is-rule _ accepted.accepted in
    let loop = c.loop-round in
    let found : EndsFound (rule_of c.args.rule.file.now) 63 loop.set loop.moves =
    elim c.loop-round-test.branch [
      | else-loop-round-test w ↦
          let last : loop._round ≡ 63 = omega arith in rw last at loop.invariant
      | then-loop-round-test+then-next-set w ↦
          let next = next-end-word _ rule loop._round _ _ loop.invariant w.with_members-next.result (omega arith) w.with_members-next.ensures in
          rest-found _ rule loop._round loop.set loop.moves loop.invariant _ next w.if-next-set.true 63 (omega arith)
    ] in
    record { few_states = few-states accepted; found = found }
