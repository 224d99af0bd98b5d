-- The place is that of the class record's body and the state.
use Rattle.std.proofs.Common.{◌≡◌, ◌∙◌, ap, ℕ, ◌+◌, arith, get_or}
use Rattle.meaning.specs.RuleFile.{none, header_length, class_record}
use Rattle.rule.specs.Tables.{class_byte}
use Rattle.rule.proofs.tables.class_at.Goals as goal

pub returns : goal.returns
unfolding class_byte
returns c =
    let a = c.args in
    let same : c.of.result.class_record + 6 + a.state ≡ class_record a.rule.states a.rule.letters + header_length + a.state =
    omega (arith, c.of.ensures.class_place)
    in
    c.byte_or_none.ensures ∙ ap (λ (i : ℕ). get_or a.file.now i none) same
