-- The writer is what the last write left.
use Rattle.std.proofs.Common.{rules, arith, ◌≡◌, refl, ◌∙◌, sym, ap, List, ℕ, Bor, MutBor}
use Rattle.std.proofs.lemmas.Grind.{common_steps}
use Rattle.std.specs.Io.KnownBytes.{Keeps}
use Rattle.std.proofs.KnownBytes.{Keeps-refl, Keeps-trans}
use Rattle.rule_check.proofs.Made.{last-step}
use Rattle.rule_check.proofs.output.write_some.Goals as goal

pub returns : goal.returns
returns g c =
    let before = last-step c.again.ensures
    (λ (a b : MutBor g.row.W.Denot × Bor (List ℕ)).
    (b.0.ghost_name ≡ a.0.ghost_name) × (b.1 ≡ a.1) × Keeps (g.W.Write.contents a.0.now) (g.W.Write.contents b.0.now))
    (λ s. (refl, refl, Keeps-refl _))
    (λ a b c e s r. let met = r.met in (cc, cc, search (rules, Keeps-trans))) in
    let met = c.again.ensures.answered.met in
    let writer_is = sym (met.1.0 ∙ before.0) in
    let bytes_are = ap (λ (b : Bor (List ℕ)). b.now) before.1 in
    record { bound = grind (arith, common_steps); bytes = grind (arith, common_steps, Keeps-trans) }
