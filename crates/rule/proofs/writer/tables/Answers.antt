-- Three records, each laid where the one before it ends, are laid down together.
use Rattle.std.proofs.Common.{ap, ◌∙◌, List, ◌++◌, append_assoc, ℕ, arith, length-append}
use Rattle.meaning.specs.RuleFile.{record_bytes, bytes2, bytes4}
use Rattle.rule.specs.Checks.{kind_code}
use Rattle.rule.specs.Laid.{laid}
use Rattle.rule.proofs.Laying.{laid_next}
use Rattle.rule.proofs.writer.tables.Goals as goal

pub returns : goal.returns
unfolding record_bytes bytes4 bytes2 kind_code
returns c =
    let a = c.args in
    let letters = record_bytes 2 a.parts.letter_moves.now in
    let trees = record_bytes 3 a.parts.tree_moves.now in
    let classes = record_bytes 4 a.parts.classes.now in
    let two = c.record-2.ensures ∙ laid_next 11 _ letters trees a.output.now c.record.ensures (omega arith) (omega arith) in
    c.record-3.ensures
    ∙ laid_next 11 _ (letters ++ trees) classes a.output.now two (omega (arith, length-append letters trees)) (omega arith)
    ∙ ap (λ (bytes : List ℕ). laid 11 bytes a.output.now) (append_assoc letters trees classes)
