-- What is a reading stays one: with any book, an event that is taken keeps every condition of number 13, and so feeding does.
-- Moves lead to states, the record that a close reads holds a state, and what is passed over changes neither the state nor
-- the depth and so leaves a settled level settled.
use mathlib.Core.Path.{◌≡◌}
use mathlib.Core.Bool.{Bool, true, false, not, ◌&&◌}
use mathlib.Core.List.{List}
use Prim.Native.Nat.{ℕ, ◌+◌, ◌-◌, ◌≤◌, ◌<◌}
use native.Mathlib.Omega.{arith}
use lib.ListN.{length, get_or, set, length-set}
use lib.Seq.{get_or-set_same, get_or-set_other}
use borrow.Author.Tests.{ltb-true, ltb-false, lt-ltb, le-ltb}
use Rattle.std.proofs.lemmas.Bool.{and_parts, false_from_ne_true, not-false, not_from_true, or_from, or_parts}
use Rattle.meaning.specs.declared.Reading.{Reading}
use Rattle.meaning.specs.declared.Level.{Level}
use Rattle.meaning.specs.Answers.{given, ◌<?◌}
use Rattle.meaning.specs.RuleFile.{Rule, IsRule, is_state}
use Rattle.meaning.specs.FullReading.{Event, Turn, looked, new_level, blank, feed_by}
use Rattle.meaning.specs.SkipBook.{in_hold}
use Rattle.meaning.specs.Skipping.{held, settled, passed}
use Rattle.meaning.specs.Calls.{Stored, top_of, stored_after, store_step, not_reading}
use Rattle.meaning.proofs.laws.Bools.{below, all-below, below_all, true-is-not-false}
use Rattle.meaning.proofs.laws.FeedKeeps.{feed-keeps}
use Rattle.meaning.proofs.skipbook.Reaching.{letter-below, tree-below, start-below}
use Rattle.meaning.proofs.stores.StoreView.{step-turned}
use Rattle.meaning.proofs.stores.Turns.{Turned, passes, ends_held, takes_letter, stores_open, ends_looked}

-- ---- the conditions of number 13

pub record IsReading (R : Rule) (book : List ℕ) (r : Reading) (store : List Level) : Type 0 where
  pub state_in : is_state R.states r.state ≡ true
  pub within : r.depth ≤ length store
  pub above_in : (i : ℕ) → i < r.depth → is_state R.states (get_or store i blank).above ≡ true
  pub skips_settled : 0 < r.skip → settled book r (top_of r store) ≡ true
  pub nested : r.depth + r.skip ≤ r.taken
  pub looks_in : r.looks ≤ r.taken

is_state_lem : {n q : ℕ} → q < n → is_state n q ≡ true
unfolding is_state
is_state_lem {n} {q} h = lt-ltb q n h

skips-only : (n : ℕ) (b : Bool) → (0 <? n && not b) ≡ false → 0 < n → b ≡ true
skips-only n b e h = not-false _ (rw (lt-ltb 0 n h) at e)

only-skips : (n : ℕ) (b : Bool) → (0 < n → b ≡ true) → (0 <? n && not b) ≡ false
only-skips n b h =
    false_from_ne_true _ (λ t. let both = and_parts (0 <? n) (not b) t in
    true-is-not-false both.1 (not_from_true _ (h (ltb-true 0 n both.0))))

module _ (R : Rule) (book : List ℕ) (r : Reading) (store : List Level) where
  pub is-reading : not_reading R book r store ≡ false → IsReading R book r store
  unfolding not_reading
  is-reading e =
      let e1 = or_parts _ _ e in
      let e2 = or_parts _ _ e1.1 in
      let e3 = or_parts _ _ e2.1 in
      let e4 = or_parts _ _ e3.1 in
      let e5 = or_parts _ _ e4.1 in
      record {
        state_in = not-false _ e1.0;
        within = ltb-false _ _ e2.0;
        above_in = all-below _ _ (not-false _ e3.0);
        skips_settled = skips-only r.skip (settled book r (top_of r store)) e4.0;
        nested = ltb-false _ _ e5.0;
        looks_in = ltb-false _ _ e5.1;
      }

  pub reading-is : IsReading R book r store → not_reading R book r store ≡ false
  unfolding not_reading
  reading-is i =
      or_from _ _ (not_from_true _ i.state_in)
      (or_from _ _ (le-ltb _ _ i.within)
      (or_from _ _ (not_from_true _ (below_all _ _ i.above_in))
      (or_from _ _ (only-skips r.skip (settled book r (top_of r store)) i.skips_settled)
      (or_from _ _ (le-ltb _ _ i.nested) (le-ltb _ _ i.looks_in)))))

-- ---- one event

-- a held level is not the top
pub held-deep : (book : List ℕ) (r : Reading) (l : Level) → held book r l ≡ true → 0 < r.depth
unfolding held
held-deep book r l is = ltb-true 0 r.depth (and_parts (0 <? r.depth) (in_hold book l.above r.state) is).0

-- the skip depth plays no part in what is settled
passed-settled : (book : List ℕ) (r : Reading) (store : List Level) (skip : ℕ) → settled book r (top_of r store) ≡ true
    → settled book (passed r r.state r.depth skip) (top_of (passed r r.state r.depth skip) store) ≡ true
unfolding settled held top_of passed
passed-settled book r store skip is = is

module _ {R : Rule} (is_rule : IsRule R) (book : List ℕ) where
  -- the state in the innermost record, of a reading with an open level
  pub above_in_lem : (r : Reading) (store : List Level) → IsReading R book r store → 0 < r.depth
      → is_state R.states (top_of r store).above ≡ true
  unfolding top_of
  above_in_lem r store i h = i.above_in (r.depth - 1) (omega arith)

  -- the record of an open holds a state, and the others still do
  new-level-in : (r : Reading) (store : List Level) → IsReading R book r store → r.depth < length store
      → (j : ℕ) → j < r.depth + 1 → is_state R.states (get_or (set store r.depth (new_level r)) j blank).above ≡ true
  unfolding new_level
  new-level-in r store i fits j h =
      below {P = λ j. is_state R.states (get_or (set store r.depth (new_level r)) j blank).above ≡ true} r.depth j (omega arith)
      (λ j l. rw (get_or-set_other store r.depth j (new_level r) blank (omega arith)) (i.above_in j l))
      (rw (get_or-set_same store r.depth (new_level r) blank fits) i.state_in)

  turn-reading : (r : Reading) (store : List Level) {event : Event} {turn : Turn}
      → IsReading R book r store → Turned R book (length store) r (top_of r store) event turn
      → IsReading R book (stored_after r store turn).reading (stored_after r store turn).store
  unfolding stored_after passed looked
  turn-reading r store i (passes event skip is h) =
      record {
        state_in = i.state_in;
        within = i.within;
        above_in = i.above_in;
        skips_settled = λ h. passed-settled book r store skip is;
        nested = omega (arith, i.nested);
        looks_in = omega (arith, i.looks_in);
      }
  turn-reading r store i (ends_held is z) =
      record {
        state_in = above_in_lem r store i (held-deep book r (top_of r store) is);
        within = omega (arith, i.within);
        above_in = λ j h. i.above_in j (omega arith);
        skips_settled = λ h. absurd (omega arith);
        nested = omega (arith, i.nested);
        looks_in = omega (arith, i.looks_in);
      }
  turn-reading r store i (takes_letter a q is_not known m) =
      record {
        state_in = is_state_lem (letter-below is_rule r.state a m);
        within = i.within;
        above_in = i.above_in;
        skips_settled = λ h. true-is-not-false (i.skips_settled h) is_not;
        nested = omega (arith, i.nested);
        looks_in = omega (arith, i.looks_in);
      }
  turn-reading r store i (stores_open q is_not fits m) =
      record {
        state_in = is_state_lem (start-below is_rule m);
        within = rw (length-set store r.depth (new_level r)) (omega arith);
        above_in = new-level-in r store i fits;
        skips_settled = λ h. true-is-not-false (i.skips_settled h) is_not;
        nested = omega (arith, i.nested);
        looks_in = omega (arith, i.looks_in);
      }
  turn-reading r store i (ends_looked q is_not z deep m) =
      record {
        state_in = is_state_lem (tree-below is_rule (top_of r store).above r.state m);
        within = omega (arith, i.within);
        above_in = λ j h. i.above_in j (omega arith);
        skips_settled = λ h. absurd (omega (arith, z (i.skips_settled h)));
        nested = omega (arith, i.nested);
        looks_in = omega (arith, i.looks_in);
      }

  -- an event that is taken leaves a reading
  pub event-keeps-reading : (ceiling : ℕ) (s t : Stored) (e : ℕ) → not_reading R book s.reading s.store ≡ false
      → store_step R book ceiling s e ≡ given t → not_reading R book t.reading t.store ≡ false
  event-keeps-reading ceiling s t e i h =
      let g = step-turned R book ceiling s t e h in
      let after = turn-reading s.reading s.store (is-reading R book s.reading s.store i) g.1 in
      reading-is R book t.reading t.store (rw g.2 at after)

  -- and so do any events
  pub feeding-keeps-reading : (ceiling : ℕ) (s : Stored) (es : List ℕ) → not_reading R book s.reading s.store ≡ false
      → not_reading R book (feed_by (store_step R book ceiling) s es).last.reading (feed_by (store_step R book ceiling) s es).last.store
      ≡ false
  feeding-keeps-reading ceiling s es i =
      feed-keeps (store_step R book ceiling) (λ t. not_reading R book t.reading t.store ≡ false) (event-keeps-reading ceiling) s es i
