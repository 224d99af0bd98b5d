-- What there is room for is copied.
use Rattle.std.proofs.Common.{◌≡◌, ◌≤◌, ◌+◌, ◌-◌, ◌∙◌, ap, arith, length, rules}
use Rattle.std.proofs.Math.Nat.{min-le_left}
use Rattle.program.specs.Texts.{laid, text_room}
use Rattle.program.proofs.Laying.{laid-in_room, room-in_room, past-in_room}
use Rattle.program.proofs.text.Text.word.Goals as goal

pub returns : goal.returns
returns c =
    let t = c.self.inside in
    record {
      says =
          laid-in_room t.bytes c.args.more.now c.copy_from_slice.new.self t.count c.min-count.result (search rules) c.self.invariant.0
          c.min-count.ensures c.copy_from_slice.ensures.after
          ∙ ap (λ l. laid l c.args.more.now) c.self.view_is;
    }

pub invariant_of-self : goal.invariant_of-self
invariant_of-self c =
    let t = c.self.inside in
    let part = c.copy_from_slice.new.self in
    let few = min-le_left (text_room - t.count) (length c.args.more.now) in
    let room : t.count + c.min-count.result ≤ text_room = omega (arith, c.min-count.ensures, few, c.self.invariant.0) in
    let long : length part ≡ c.min-count.result = search rules in
    let n = c.min-count.result in (
      room,
      room-in_room t.bytes part t.count n c.self.invariant.1 room long,
      past-in_room t.bytes part t.count n c.self.invariant.1 room long c.self.invariant.2,
    )
