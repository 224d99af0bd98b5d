-- The place is that of the tree moves' body, the row and the column.
use Rattle.std.proofs.Common.{◌≡◌, ◌∙◌, ap, ℕ, ◌+◌, ◌*◌, arith, get_or}
use Rattle.meaning.specs.RuleFile.{none, header_length, tree_record, letter_record}
use Rattle.rule.specs.declared.tables.Table.TheVariants.{TreeMoves}
use Rattle.rule.specs.Tables.{tree_byte, move_in}
use Rattle.rule.proofs.tables.tree_move.Goals as goal

pub returns : goal.returns
unfolding tree_byte tree_record letter_record
returns c =
    let a = c.args in
    let same : 17 + c.product-before.result + 6 + c.product-row.result + a.lower
    ≡ tree_record a.rule.states a.rule.letters + header_length + (a.upper * a.rule.states + a.lower) =
    omega arith
    in
    c.move_in.ensures ∙ ap (move_in TreeMoves) (c.byte_or_none-byte.ensures ∙ ap (λ (i : ℕ). get_or a.file.now i none) same)
