-- What is passed over and then one event, or nothing where no event is left. The book was asked before the events were passed
-- over.
use Rattle.std.proofs.Common.{refl, ◌∙◌}
use Rattle.turning.specs.Advancing.{stored}
use Rattle.turning.proofs.Turned.{book-serves, few-letters}
use Rattle.turning.proofs.OneTurn.{passed-readings, passed-stands, passed-feeds, passed-top, passes-all, passes_on}
use Rattle.turning.proofs.Standing.advance.Goals as goal

pub of-settled-requires : goal.of-settled-requires
of-settled-requires c =
    let s = c.args.self.now in
    book-serves s.rule.accepted _ _ _ c.requires.book_long s.states_in

pub pass_settled-passed-requires-clause-few_letters : goal.pass_settled-passed-requires-clause-few_letters
pass_settled-passed-requires-clause-few_letters c = few-letters c.args.self.now.rule.accepted

pub invariant_of-standing : goal.invariant_of-standing
invariant_of-standing c =
    let s = c.args.self.now in
    let o = c.pass_settled-passed.ensures _ _ (c.is_settled.ensures ∙ c.of-settled.ensures.settled_is) in
    let after = passed-readings o s.states_in s.counted in
    record { states_in = after.0; counted = after.1 }

pub returns-then-passed-events : goal.returns-then-passed-events
returns-then-passed-events c =
    λ store h top room.
    let o = c.pass_settled-passed.ensures _ _ (c.is_settled.ensures ∙ c.of-settled.ensures.settled_is) in
    let same = passed-stands o c.of-settled.ensures in
    let in_store = rw (← top) at o in
    passes_on _ h _ in_store (c.take_event.ensures _ store same (passed-feeds h in_store) (passed-top h o top) room)

pub returns : goal.returns
unfolding stored
returns c =
    λ store h top room.
    let in_store = rw (← top) at (c.pass_settled-passed.ensures _ _ (c.is_settled.ensures ∙ c.of-settled.ensures.settled_is)) in
    rw c.storing_none.ensures (passes-all _ h _ c.requires.event_left _ in_store c.if-passed-events.false refl)
