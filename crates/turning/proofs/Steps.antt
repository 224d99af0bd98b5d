-- One event over the level store, from what its turn says: the turn may count on what number 13 lets through, and what it
-- says becomes of reading and store is the definition's step.
use Rattle.std.proofs.Common.{Result}
use mathlib.Core.Path.{◌≡◌}
use mathlib.Core.Bool.{true}
use mathlib.Core.List.{List}
use Prim.Native.Nat.{ℕ, ◌-◌, ◌<◌}
use native.Mathlib.Omega.{arith}
use borrow.Author.Tests.{ltb-true}
use lib.ListN.{length}
use Rattle.meaning.specs.Answers.{given, ◌giving◌}
use Rattle.meaning.specs.RuleFile as format
use Rattle.meaning.specs.RuleFile.{is_state, rule_of}
use Rattle.meaning.specs.Skipping.{skip_event}
use Rattle.meaning.specs.Calls.{top_of, stored_after, store_step}
use Rattle.meaning.specs.declared.Reading.{Reading}
use Rattle.meaning.specs.declared.Level.{Level}
use Rattle.meaning.proofs.stores.KeptReading.{IsReading, is-reading}
use Rattle.rule.specs.declared.Rule.{Rule}
use Rattle.turning.specs.declared.Turn.{Turn}
use Rattle.meaning.specs.declared.reason.Reason.{Reason}
use Rattle.turning.specs.Turns.{turn_says, Ready, Feeds, over}
use Rattle.rule.proofs.Said.{states-are}

-- ---- what a turn may count on

module _ {file : List ℕ} {rule : Rule} {book : List ℕ} {r : Reading} {store : List Level} (h : Feeds file rule book r store) where
  pub reading-in : IsReading (rule_of file) book r store
  reading-in = is-reading (rule_of file) book r store h.is_reading

  state-in : {q : ℕ} → is_state (rule_of file).states q ≡ true → q < rule.states
  unfolding is_state
  state-in {q} e = omega (arith, states-are h.ruled, ltb-true q (rule_of file).states e)

  pub turn-ready : Ready file rule book r (top_of r store)
  unfolding top_of
  turn-ready =
      let i = reading-in in
      record {
        ruled = h.ruled;
        book_long = h.book_long;
        states = record {
          state_in = state-in i.state_in;
          above_in = λ inside. state-in (i.above_in (r.depth - 1) (omega arith));
        };
        counted = record { levels_taken = i.nested; looks_taken = i.looks_in };
      }

-- ---- the definition's step, from the turn

module _ (R : format.Rule) (book : List ℕ) (ceiling : ℕ) (r : Reading) (store : List Level) (e : ℕ) where
  pub step_of : {room : ℕ} {top : Level} (x : Result Turn Reason) → room ≡ length store → top ≡ top_of r store
      → turn_says r x ≡ skip_event R book room ceiling r top e
      → store_step R book ceiling (over r store) e ≡ (turn_says r x giving λ turn. given (stored_after r store turn))
  unfolding store_step
  step_of x same_room same_top says = rw (says, same_room, same_top)
