-- Full reading by the calls and the automaton: a reading that was opened, fed and finished with a book of zeros ends with a verdict exactly if
-- the events are those of a hedge by which the automaton goes from the initial state to the end state, the class is that state's,
-- and level store, ceiling and event limit suffice. So a full verdict says that the stream is well nested, of known events.
use mathlib.Core.Path.{◌≡◌, refl, ◌∙◌}
use mathlib.Core.Logic.{◌↔◌}
use mathlib.Core.Bool.{true}
use mathlib.Core.List.{List, [], ◌∷◌}
use Prim.Native.Nat.{ℕ, ◌+◌, ◌≤◌}
use native.Mathlib.Omega.{arith}
use lib.ListN.{length}
use borrow.Author.Tests.{ltb-false, le-ltb}
use Rattle.meaning.specs.declared.Level.{Level}
use Rattle.meaning.specs.declared.Opening.{Opening}
use Rattle.meaning.specs.Answers.{given, ◌<?◌}
use Rattle.meaning.specs.RuleFile.{Rule, rule_of}
use Rattle.meaning.specs.FullReading.{Went, Run, fresh_reading, fresh_run, full_run}
use Rattle.meaning.specs.Hedges.{well_nested}
use Rattle.meaning.specs.StreamingMachine.{aboves, WithinLimits}
use Rattle.meaning.specs.Skipping.{Zeros}
use Rattle.meaning.specs.Calls.{Judged, open_call, end_of, end_of_run, ReadsTo}
use Rattle.meaning.specs.Demands.{FollowsAutomaton}
use Rattle.meaning.proofs.laws.Answered.{refuse-given, refuse-passes}
use Rattle.meaning.proofs.automaton.Automaton.{goes-known}
use Rattle.meaning.proofs.automaton.Nested.{hedge-nested}
use Rattle.meaning.proofs.automaton.Streaming.{full-is-machine, full-arrives, full-skips-nothing, goes-streams, streams-hedge}
use Rattle.meaning.proofs.stores.Opens.{open-says}
use Rattle.meaning.proofs.demand3.Demand3Calls.{full-by-calls, calls-by-full}

-- a stack of no levels is of no states, and the other way round
no-aboves : (ls : List Level) → length ls ≡ 0 → aboves ls ≡ []
unfolding aboves
no-aboves [] none = refl
no-aboves (l ∷ ls) none = absurd (omega arith)

no-levels : (ls : List Level) → aboves ls ≡ [] → length ls ≡ 0
unfolding aboves
no-levels [] none = refl
no-levels (l ∷ ls) none = let z : ◌≡◌ {A = ℕ} 0 1 = cc in absurd (omega arith)

module _ (R : Rule) (room ceiling : ℕ) (events : List ℕ) where
  abbrev run : Went Run
  run = full_run R room ceiling events

  fresh-within : WithinLimits room ceiling (fresh_run R)
  unfolding fresh_reading
  fresh-within = record { stored = refl; levels = omega arith; looks = omega arith; taken = omega arith }

  follows : (j : Judged) → run.ended ≡ given tt → end_of_run R run.last ≡ given j → FollowsAutomaton R room ceiling events j
  unfolding end_of fresh_reading aboves
  follows j all judged =
      let passes = refuse-given 12 _ (0 <? run.last.reading.depth + run.last.reading.skip) _ judged in
      let flat : run.last.reading.depth + run.last.reading.skip ≤ 0 = ltb-false 0 _ passes.0 in
      let there = full-arrives R room ceiling (fresh_run R) fresh-within events all in
      let empty : aboves run.last.levels ≡ [] = no-aboves run.last.levels (omega (arith, there.stored)) in
      let machine = (full-is-machine R room ceiling (fresh_run R) fresh-within events _ _).0 there in
      let state : run.last.reading.state ≡ j.state = cc passes.1 in
      let hedge = streams-hedge (rw (state, empty) at machine.0) in
      record {
        hedge = hedge.0;
        its_events = hedge.1;
        goes = hedge.2;
        class_is = cc passes.1;
        suffices = machine.1;
      }

  followed : (j : Judged) → FollowsAutomaton R room ceiling events j
      → (run.ended ≡ given tt) × (end_of_run R run.last ≡ given j)
  unfolding end_of fresh_reading aboves
  followed j f =
      let streams = rw f.its_events at (goes-streams {σ = []} f.goes) in
      let there = (full-is-machine R room ceiling (fresh_run R) fresh-within events _ _).1 (streams, f.suffices) in
      let skip = full-skips-nothing R room ceiling (fresh_run R) fresh-within events there.all_taken in
      let flat : run.last.reading.depth + run.last.reading.skip ≤ 0 =
      omega (arith, there.stored, skip, no-levels run.last.levels there.with_stack) in (
        there.all_taken,
        refuse-passes 12 _ _ (le-ltb 0 _ flat)
            ∙ rw (there.in_state, ← f.class_is),
      )

-- Demand 2: a reading by the calls, opened and then fed and finished with a book of zeros, ends with a verdict exactly if the
-- automaton goes there.
module _ (file lent zeros : List ℕ) (store : List Level) (ceiling : ℕ) (events : List ℕ) {o : Opening}
    (opened : open_call file lent ≡ given o) (long : (rule_of file).states + 1 ≤ length zeros) (empty : Zeros zeros) (j : Judged) where
  abbrev R : Rule
  R = rule_of file

  pub full-verdict-exactly-if : ReadsTo file zeros o.reading store ceiling events j ↔ FollowsAutomaton R (length store) ceiling events j
  full-verdict-exactly-if =
      let says = open-says file lent opened in (
        λ reads.
            let full = full-by-calls file zeros store ceiling events says.accepted long empty (rw says.first_is at reads) in
            follows R (length store) ceiling events j full.0 full.1,
        λ f.
            let full = followed R (length store) ceiling events j f in
            rw says.first_is (calls-by-full file zeros store ceiling events says.accepted long empty full.0 full.1),
      )

  -- so the stream is well nested, of known events
  pub full-verdict-nested : ReadsTo file zeros o.reading store ceiling events j → well_nested R.letters events ≡ true
  full-verdict-nested reads =
      let f = full-verdict-exactly-if.0 reads in
      rw f.its_events at (hedge-nested R.letters f.hedge (goes-known f.goes))
