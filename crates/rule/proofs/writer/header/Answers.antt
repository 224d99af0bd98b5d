-- Six stores side by side are a list laid down.
use Rattle.std.proofs.Common.{◌≡◌, ◌∙◌, List, [], ◌∷◌, ℕ, ◌+◌, arith}
use native.Mathlib.Numerals.{towards_suc}
use Rattle.std.proofs.Math.ListN.{set}
use Rattle.std.proofs.Math.Seq.{sets}
use Rattle.meaning.specs.RuleFile.{bytes2, bytes4}
use Rattle.rule.specs.Checks.{kind_code}
use Rattle.rule.specs.Laid.{header_bytes}
use Rattle.rule.proofs.Laying.{laid-sets}
use Rattle.rule.proofs.writer.header.Goals as goal

six-stores : (output : List ℕ) (place a b c d e f : ℕ)
    → set (set (set (set (set (set output place a) (place + 1) b) (place + 2) c) (place + 3) d) (place + 4) e) (place + 5) f
    ≡ sets output place (a ∷ b ∷ c ∷ d ∷ e ∷ f ∷ [])
six-stores output place a b c d e f = simp towards_suc

pub returns : goal.returns
unfolding header_bytes bytes4 bytes2
returns c =
    let a = c.args in
    six-stores a.output.now a.place _ _ _ _ _ _
    ∙ rw (c.to_le_bytes.ensures, c.to_le_bytes-2.ensures, c.code.ensures)
    (laid-sets (header_bytes (kind_code a.kind) a.size) a.output.now a.place (omega arith))
