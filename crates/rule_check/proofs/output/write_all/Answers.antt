-- Each write takes a front of the rest.
use Rattle.std.proofs.Common.{List, ℕ, ◌++◌, take, drop, append_assoc, take-append-drop}
use Rattle.std.proofs.lemmas.List.{take_rest}
use Rattle.std.proofs.KnownBytes.{Appends-trans, Appends-kept}
use Rattle.rule_check.proofs.Glue.{after-err}
use Rattle.rule_check.proofs.Transfer.{front-of}
use Rattle.rule_check.proofs.output.write_all.Goals as goal

pub returns-in_err-count-clause-front_written : goal.returns-in_err-count-clause-front_written
returns-in_err-count-clause-front_written g c =
    let so_far = c.loop-rest.invariant in
    after-err c.from_residual.result
    (front-of _ _ so_far.written c.loop-rest.rest.now c.args.bytes.now so_far.parted (Appends-kept _ _ _ _ so_far.appended c.in_err-count.ensures.bytes))

pub returns-then-count-eq0-clause-front_written : goal.returns-then-count-eq0-clause-front_written
returns-then-count-eq0-clause-front_written g c =
    let so_far = c.loop-rest.invariant in
    let rest : List ℕ = c.loop-rest.rest.now in
    let count = c.in_ok-count.count in
    front-of _ _ (so_far.written ++ take count rest) (drop count rest) c.args.bytes.now (rw (append_assoc, take-append-drop count rest) so_far.parted)
    (Appends-trans _ _ _ _ _ so_far.appended c.in_ok-count.ensures.bytes)

pub loop-rest-preserved : goal.loop-rest-preserved
loop-rest-preserved g c =
    let so_far = c.loop-rest.invariant in
    let rest : List ℕ = c.loop-rest.rest.now in
    let count = c.in_ok-count.count in
    record {
      written = so_far.written ++ take count rest;
      parted = rw (take_rest rest count, append_assoc, take-append-drop count rest) so_far.parted;
      appended = Appends-trans _ _ _ _ _ so_far.appended c.in_ok-count.ensures.bytes;
    }
