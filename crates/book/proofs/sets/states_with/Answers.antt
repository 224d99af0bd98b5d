use Rattle.std.proofs.Common.{◌∙◌, sym}
use Rattle.book.proofs.Standing.{gather-first, gather-yes, gather-no}
use Rattle.book.proofs.sets.states_with.Goals.{then-test, else-test}
use Rattle.book.proofs.sets.states_with.Goals as goal

pub loop-state-init : goal.loop-state-init
loop-state-init g c passes each = gather-first passes

pub loop-state-preserved : goal.loop-state-preserved
loop-state-preserved g c passes each =
    let s = c.loop-state.invariant passes each in
    let answer = sym (each c.loop-state.state c.test.result c.loop-state-test.true c.test.ensures) in
    elim c.if-test.branch [
      | then-test w ↦ rw w.set-is (gather-yes _ _ _ passes (answer ∙ w.if-test.true) w.only-set.ensures s)
      | else-test w ↦ rw w.set-is (gather-no _ _ passes (answer ∙ w.if-test.false) s)
    ]
