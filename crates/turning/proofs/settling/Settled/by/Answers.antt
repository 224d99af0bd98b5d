-- The level is held, or else the state's bit in the word of still decides.
use Rattle.std.proofs.Common.{sym, ◌∙◌}
use Rattle.meaning.specs.SkipBook.{in_still}
use Rattle.turning.specs.Turns.{is_held, is_settled}
use Rattle.turning.proofs.Turned.{held-settled, still-settled}
use Rattle.turning.proofs.settling.Settled.by.Goals as goal

pub returns-then-held : goal.returns-then-held
unfolding is_held is_settled
returns-then-held c top told =
    record {
      held_is = sym c.if-held.true ∙ told;
      settled_is = sym (held-settled _ _ _ (sym told ∙ c.if-held.true));
    }

pub returns-then-in_set : goal.returns-then-in_set
unfolding is_held is_settled in_still
returns-then-in_set c top told =
    record {
      held_is = sym c.if-held.false ∙ told;
      settled_is = sym c.if-in_set.true ∙ c.in_set.ensures ∙ sym (still-settled _ _ _ (sym told ∙ c.if-held.false));
    }

pub returns : goal.returns
unfolding is_held is_settled in_still
returns c top told =
    record {
      held_is = sym c.if-held.false ∙ told;
      settled_is = sym c.if-in_set.false ∙ c.in_set.ensures ∙ sym (still-settled _ _ _ (sym told ∙ c.if-held.false));
    }
