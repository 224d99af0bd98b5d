-- The state and the store, the skip depth, and the counts: the first condition that holds is the definition's.
use Rattle.std.proofs.Common.{◌≡◌, sym, ◌∙◌, not, Bool, false, ◌||◌, List, ℕ, ◌-◌, ◌<◌, get_or, arith}
use borrow.Author.Tests.{ltb-true, not-false}
use Rattle.std.proofs.lemmas.Bool.{or_parts}
use Rattle.meaning.specs.RuleFile as format
use Rattle.meaning.specs.RuleFile.{is_state}
use Rattle.meaning.specs.FullReading.{blank}
use Rattle.meaning.specs.Calls.{top_of, depth_past_store, skips_unsettled, levels_past_taken, looks_past_taken, not_reading}
use Rattle.meaning.specs.declared.Level.{Level}
use Rattle.meaning.specs.declared.Reading.{Reading}
use Rattle.meaning.proofs.laws.Bools.{all-below}
use Rattle.reading.specs.Checks.{aboves_in}
use Rattle.reading.proofs.Conditions.{or-holds, or-decides, holds-first, decides-last, in-a-row}
use Rattle.reading.proofs.checking.not_reading.Goals as goal
use Rattle.reading.proofs.checking.not_reading.Goals.{then-states_out, else-states_out}

-- ---- what the state and the store say

abbrev out_of : ℕ → Reading → List Level → Bool
out_of n r store = not (is_state n r.state) || (depth_past_store r store || not (aboves_in n r.depth store))

record Inside (n : ℕ) (r : Reading) (store : List Level) : Type 0 where
  state_in : r.state < n
  above_in : 0 < r.depth → (top_of r store).above < n

inside : (n : ℕ) (r : Reading) (store : List Level) → out_of n r store ≡ false → Inside n r store
unfolding is_state top_of
inside n r store none =
    let state = or_parts (not (is_state n r.state)) (depth_past_store r store || not (aboves_in n r.depth store)) none in
    let stored = or_parts (depth_past_store r store) (not (aboves_in n r.depth store)) state.1 in
    let aboves = all-below r.depth (λ i. is_state n (get_or store i blank).above) (not-false _ stored.1) in
    record {
      state_in = ltb-true _ _ (not-false _ state.0);
      above_in = λ deep. ltb-true _ _ (aboves (r.depth - 1) (omega arith));
    }

pub skips_unsettled-requires : goal.skips_unsettled-requires
unfolding top_of
skips_unsettled-requires c =
    let in_all = inside c.args.states c.args.reading c.args.levels.now (sym c.states_out.ensures ∙ c.if-states_out.false) in
    rw c.top_of.ensures
    (record {
      state_bit = omega (arith, c.requires.few_states, in_all.state_in);
      still_word = omega (arith, c.requires.long_book);
      hold_word = λ deep. omega (arith, in_all.above_in deep, c.requires.long_book);
    })

-- ---- the three parts in their order

abbrev counts_of : Reading → Bool
counts_of r = levels_past_taken r || looks_past_taken r

row : (R : format.Rule) (n : ℕ) (book : List ℕ) (r : Reading) (store : List Level) → R.states ≡ n
    → (out_of n r store || (skips_unsettled book r store || counts_of r)) ≡ not_reading R book r store
unfolding not_reading
row R n book r store same = rw same (in-a-row (not (is_state n r.state)) (depth_past_store r store) (not (aboves_in n r.depth store)) (skips_unsettled book r store || counts_of r))

pub returns-then-skips_unsettled : goal.returns-then-skips_unsettled
unfolding top_of
returns-then-skips_unsettled c R same =
    let n = c.args.states in
    let book = c.args.book.now in
    let r = c.args.reading in
    let store = c.args.levels.now in
    let first : c.if-states_out.value ≡ (out_of n r store || skips_unsettled book r store)
    = elim c.if-states_out.branch [
      | then-states_out w ↦
          or-holds _ _ (sym c.states_out.ensures ∙ w.if-states_out.true) (w.value-is ∙ c.states_out.ensures)
      | else-states_out w ↦
          or-decides _ _ (sym c.states_out.ensures ∙ w.if-states_out.false)
          (w.value-is ∙ rw w.top_of.ensures at w.skips_unsettled.ensures)
    ]
    in
    holds-first (out_of n r store) (skips_unsettled book r store) (counts_of r) first c.if-skips_unsettled.true ∙ row R n book r store same

pub returns-else-skips_unsettled : goal.returns-else-skips_unsettled
unfolding top_of
returns-else-skips_unsettled c R same =
    let n = c.args.states in
    let book = c.args.book.now in
    let r = c.args.reading in
    let store = c.args.levels.now in
    let first : c.if-states_out.value ≡ (out_of n r store || skips_unsettled book r store)
    = elim c.if-states_out.branch [
      | then-states_out w ↦
          or-holds _ _ (sym c.states_out.ensures ∙ w.if-states_out.true) (w.value-is ∙ c.states_out.ensures)
      | else-states_out w ↦
          or-decides _ _ (sym c.states_out.ensures ∙ w.if-states_out.false)
          (w.value-is ∙ rw w.top_of.ensures at w.skips_unsettled.ensures)
    ]
    in
    decides-last (out_of n r store) (skips_unsettled book r store) (counts_of r) first c.if-skips_unsettled.false c.counts_out.ensures
    ∙ row R n book r store same
