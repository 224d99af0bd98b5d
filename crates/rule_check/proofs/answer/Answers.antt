use Rattle.std.proofs.Common.{◌≡◌, ◌<◌, ℕ, List, length, take, sym, ◌∙◌, arith, length-take-le}
use Rattle.std.specs.Io.KnownBytes.{IsAtEnd}
use Rattle.meaning.specs.CheckProgram.{front_length, printed}
use Rattle.meaning.proofs.program.Fifth.{front-join}
use Rattle.input.specs.Says.{front_says}
use Rattle.rule_check.proofs.Glue.{front-decides, of-all, lost-after}
use Rattle.rule_check.proofs.answer.Goals as goal

pub run-requires-clause-events_there : goal.run-requires-clause-events_there
unfolding front_says
run-requires-clause-events_there g c = sym c.in-Ok.ensures

pub returns-in-Err-clause-as_read : goal.returns-in-Err-clause-as_read
unfolding front_says
returns-in-Err-clause-as_read g c =
    let front : List ℕ = take c.in_ok-count.count c.fill.new.buffer in
    (front, c.in_ok-count.ensures.read, c.refused_text.ensures.says_printed front (front-join front ∙ sym c.in-Err.ensures))

pub returns-in-Err-clause-as_all : goal.returns-in-Err-clause-as_all
unfolding front_says
returns-in-Err-clause-as_all g c =
    let front : List ℕ = take c.in_ok-count.count c.fill.new.buffer in
    let long : length front ≡ c.in_ok-count.count = length-take-le c.in_ok-count.count c.fill.new.buffer (omega (arith, c.in_ok-count.ensures.count_in_bounds)) in
    let short : length front < front_length → IsAtEnd (g.R.Read.remaining c.fill.new.reader)
    = λ less. c.in_ok-count.ensures.«end» (omega (arith, long, less)) in
    of-all _ _ front (λ l. c.refused_text.result ≡ printed l) c.in_ok-count.ensures.read
    (λ rest none. c.refused_text.ensures.says_printed _ (front-decides front rest (λ less. none (short less)) ∙ sym c.in-Err.ensures))

pub returns-in-Ok-clause-lost : goal.returns-in-Ok-clause-lost
returns-in-Ok-clause-lost g c = lost-after _ _ _ _ c.run.result c.in_ok-count.ensures.read c.run.ensures.lost
