-- The place is that of the letter moves' body, the row and the letter.
use Rattle.std.proofs.Common.{◌≡◌, ◌∙◌, ap, ℕ, ◌+◌, ◌*◌, arith, get_or}
use Rattle.meaning.specs.RuleFile.{none, header_length, letter_record}
use Rattle.rule.specs.declared.tables.Table.TheVariants.{LetterMoves}
use Rattle.rule.specs.Tables.{letter_byte, move_in}
use Rattle.rule.proofs.tables.letter_move.Goals as goal

pub returns : goal.returns
unfolding letter_byte letter_record
returns c =
    let a = c.args in
    let same : 17 + c.product-row.result + a.letter ≡ letter_record + header_length + (a.state * a.rule.letters + a.letter) =
    omega arith
    in
    c.move_in.ensures ∙ ap (move_in LetterMoves) (c.byte_or_none-byte.ensures ∙ ap (λ (i : ℕ). get_or a.file.now i none) same)
