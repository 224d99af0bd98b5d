-- On a settled level what is left of the events, as far as the reading can take them, is one run, and on any other nothing is
-- passed over.
use Rattle.std.proofs.Common.{◌-◌, ◌∙◌, sym, drop, length, take_all, length-drop, length-take, arith}
use Rattle.turning.proofs.PassesOn.{passes_over, passes_none}
use Rattle.turning.specs.PassingOver.{passed_on}
use Rattle.turning.proofs.passing.pass_settled.Goals as goal

pub returns-then-not-settled : goal.returns-then-not-settled
returns-then-not-settled c = λ book top is. passes_none _ _ _ _ _ _ c.requires.not_past c.requires.counted.levels_taken

pub returns : goal.returns
unfolding passed_on
returns c = λ book top is.
    let events = c.args.events.now in
    let from = c.args.from in
    let left = take_all (length events - from) (drop from events) (omega (arith, length-drop from events)) in
    let long = length-take c.min.result (drop from events) in
    passes_over c.args.letters book c.args.reading top events from c.min.result c.pass-passed.result
    c.requires.counted.levels_taken c.requires.not_past (omega arith) (rw left at c.pass-passed.ensures) (sym is ∙ c.if-not-settled.false)
