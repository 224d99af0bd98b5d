-- A pass that was refused stays, and another is fed.
use Rattle.std.proofs.Common.{◌≡◌, sym, refl, ◌∙◌}
use Rattle.meaning.specs.Calls.{feed_call, largest_ceiling}
use Rattle.program.specs.declared.passes.Pass.{Pass}
use Rattle.program.specs.Passes.{pass_says}
use Rattle.program.proofs.Feeds.{on-given, on-refused, ended-given, ended-refused}
use Rattle.program.proofs.passes.Pass.go_on.Goals as goal

pub returns-then-is_ok : goal.returns-then-is_ok
unfolding pass_says
returns-then-is_ok c =
    let a = c.args in
    let p : Pass = record { reading = c.feed-fed.result.reading; ended = c.feed-fed.result.ended; levels = c.feed-fed.new.levels } in
    let fed = c.feed-fed.ensures in
    let led : pass_says p ≡ feed_call a.file.now a.book.now largest_ceiling a.self.now.reading a.self.now.levels a.events.now
    = rw (fed.reading_is, fed.store_is, fed.ended_is) refl in
    led
    ∙ sym (on-given a.file.now a.book.now (pass_says a.self.now) a.events.now
    (ended-given a.self.now.ended (sym c.is_ok.ensures.value ∙ c.if-is_ok.true)))

pub returns-else-is_ok : goal.returns-else-is_ok
unfolding pass_says
returns-else-is_ok c =
    let a = c.args in
    let e = ended-refused a.self.now.ended (sym c.is_ok.ensures.value ∙ c.if-is_ok.false) in
    sym (on-refused a.file.now a.book.now (pass_says a.self.now) a.events.now e.2)
