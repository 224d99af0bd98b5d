-- Each event decoded takes the two bytes and the slot after those before it.
use Rattle.std.proofs.Common.{◌∙◌, ap, ◌++◌, List, ℕ, take, drop, length-take, arith}
use Rattle.input.proofs.Pairs.{decode-more, decode-none, slots-decoded}
use Rattle.input.proofs.decode.Goals as goal

pub loop-i-init : goal.loop-i-init
loop-i-init c = decode-none c.args.bytes.now (take c.min-count.result c.args.events.now)

pub loop-i-preserved : goal.loop-i-preserved
loop-i-preserved c =
    rw (c.loop-i.invariant, c.event_at.ensures)
    (decode-more c.loop-i.i c.args.bytes.now (take c.min-count.result c.args.events.now) (omega (arith, length-take {A = ℕ})) (omega arith))

pub returns-clause-events : goal.returns-clause-events
returns-clause-events c =
    let count = c.min-count.result in
    ap (λ (l : List ℕ). l ++ drop count c.args.events.now) c.loop-i.invariant
    ∙ slots-decoded c.loop-i.i count c.args.bytes.now c.args.events.now (omega arith) (omega arith) (omega arith)
