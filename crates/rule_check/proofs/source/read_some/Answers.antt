-- The reader and the buffer are what the last read left.
use Rattle.std.proofs.Common.{rules, arith, ◌≡◌, refl, ◌∙◌, sym, List, ℕ, MutBor}
use Rattle.std.proofs.lemmas.Grind.{common_steps}
use Rattle.std.specs.Io.KnownBytes.{Keeps}
use Rattle.std.proofs.KnownBytes.{Keeps-refl, Keeps-trans}
use Rattle.rule_check.proofs.Made.{last-step}
use Rattle.rule_check.proofs.source.read_some.Goals as goal

pub returns : goal.returns
returns g c =
    let before = last-step c.again.ensures
    (λ (a b : MutBor g.row.R.Denot × MutBor (List ℕ)).
    (b.0.ghost_name ≡ a.0.ghost_name) × (b.1.ghost_name ≡ a.1.ghost_name) × Keeps (g.R.Read.remaining a.0.now) (g.R.Read.remaining b.0.now))
    (λ s. (refl, refl, Keeps-refl _))
    (λ a b c e s r. let met = r.met in (cc, cc, search (rules, Keeps-trans))) in
    let met = c.again.ensures.answered.met in
    let reader_is = sym (met.1.0 ∙ before.0) in
    let buffer_is = sym (met.1.1 ∙ before.1) in
    record { bound = grind (arith, common_steps); bytes = grind (arith, common_steps, Keeps-trans) }
