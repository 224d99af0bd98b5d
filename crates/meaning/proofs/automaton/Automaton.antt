-- Full reading follows the automaton event for event. Where a hedge leads is a step of the automaton exactly if it is a state;
-- and where the limits suffice, full reading of the hedge's events comes to that state with the open levels as they were, or is
-- refused at the very event whose move is missing. By induction on the hedge, with events to follow it, and a law for each
-- word in which `evaluate` is written.
use mathlib.Core.Path.{◌≡◌, refl, sym, ap, ◌∙◌}
use mathlib.Core.Logic.{◌↔◌}
use mathlib.Core.Bool.{true}
use mathlib.Core.List.{List, [], ◌∷◌, ◌++◌, append_assoc, append-nil}
use Prim.Native.Nat.{ℕ, zero, suc, ◌+◌, ◌-◌, ◌≤◌, ◌<◌, max}
use native.Mathlib.Omega.{arith}
use native.Mathlib.Nat.{add-zero, add_assoc, le-max_left, le-max_right}
use lib.ListN.{length, length-append}
use borrow.Author.Tests.{ltb-true, lt-ltb, lt-leb, ne_eqb}
use Rattle.std.proofs.lemmas.Bool.{and_from, and_parts}
use Rattle.meaning.specs.Answers.{Answer, given, refused, ◌giving◌}
use Rattle.meaning.specs.RuleFile.{Rule, Move, no_move, to, letter_move, tree_move, tree_start_move}
use Rattle.meaning.specs.FullReading.{event_of, most_events, looked, Table, letter_table, start_table, tree_table, no_move_number, Turn, stays, stores, ends, look, new_level, full_turn, known_event, full_event, Run, innermost, outer, run_after, full_step, Went, feed_by}
use Rattle.meaning.specs.Hedges.{Hedge, ε, ◌·◌, ⟨◌⟩·◌, events_of, known, Goes, by_nothing, by_letter, by_tree, Led, to_state, missing_at, later, by_move, from_there, evaluate, height, deepest_on, deepest}
use Rattle.meaning.specs.StreamingMachine.{Suffices, Comes}
use Rattle.meaning.proofs.laws.Answered.{refuse-passes}
use Rattle.meaning.proofs.laws.Tables.{number-tells}
use Rattle.meaning.proofs.laws.FeedLaws.{feed-none, feed-taken, feed-refused}

-- ---- what led to a state

by_move-to : (table : Table) (x : Move) (i : ℕ) (next : ℕ → Led) {q : ℕ} → by_move table x i next ≡ to_state q
    → (p : ℕ) × (x ≡ to p) × (next p ≡ to_state q)
unfolding by_move
by_move-to table no_move i next e = let z : ◌≡◌ {A = ℕ} 0 1 = cc in absurd (omega arith)
by_move-to table (to p) i next e = (p, refl, e)

later-to : (n : ℕ) (x : Led) {q : ℕ} → later n x ≡ to_state q → x ≡ to_state q
unfolding later
later-to n (to_state p) e = e
later-to n (missing_at table i) e = let z : ◌≡◌ {A = ℕ} 0 1 = cc in absurd (omega arith)

from_there-to : (x : Led) (next : ℕ → Led) {q : ℕ} → from_there x next ≡ to_state q
    → (p : ℕ) × (x ≡ to_state p) × (next p ≡ to_state q)
unfolding from_there
from_there-to (to_state p) next e = (p, refl, e)
from_there-to (missing_at table i) next e = let z : ◌≡◌ {A = ℕ} 0 1 = cc in absurd (omega arith)

pub evaluates-goes : (R : Rule) (q : ℕ) (h : Hedge) {q' : ℕ} → known R.letters h ≡ true → evaluate R q h ≡ to_state q'
    → Goes R q h q'
unfolding evaluate known
evaluates-goes R q ε {q'} letters e = let same : q' ≡ q = cc in rw same by_nothing
evaluates-goes R q (a · h) letters e =
    let each = and_parts _ _ letters in
    let m = by_move-to letter_table _ 0 _ e in
    by_letter (ltb-true _ _ each.0) m.1 (evaluates-goes R m.0 h each.1 (later-to 1 _ m.2))
evaluates-goes R q (⟨ h ⟩· g) letters e =
    let each = and_parts _ _ letters in
    let start = by_move-to start_table _ 0 _ e in
    let inner = from_there-to _ _ start.2 in
    let close = by_move-to tree_table _ _ _ inner.2 in
    by_tree
    start.1
    (evaluates-goes R start.0 h each.0 (later-to 1 _ inner.1))
    close.1
    (evaluates-goes R close.0 g each.1 (later-to _ _ close.2))

pub goes-evaluates : {R : Rule} {q q' : ℕ} {h : Hedge} → Goes R q h q' → evaluate R q h ≡ to_state q'
unfolding evaluate by_move later from_there
goes-evaluates by_nothing = refl
goes-evaluates (by_letter known m g) = rw (m, by_move, goes-evaluates g, later)
goes-evaluates (by_tree s g m k) = rw (s, by_move, goes-evaluates g, later, from_there, m, by_move, goes-evaluates k, later)

-- the automaton goes by hedges over the rule's letters alone
pub goes-known : {R : Rule} {q q' : ℕ} {h : Hedge} → Goes R q h q' → known R.letters h ≡ true
unfolding known
goes-known by_nothing = refl
goes-known {R} (by_letter {a} letter m g) = and_from _ _ (lt-ltb a R.letters letter) (goes-known g)
goes-known (by_tree s g m k) = and_from _ _ (goes-known g) (goes-known k)

-- a hedge over the rule's letters leads to a state exactly if the automaton goes there
pub evaluate-goes : (R : Rule) (q : ℕ) (h : Hedge) (q' : ℕ) → known R.letters h ≡ true
    → (evaluate R q h ≡ to_state q') ↔ Goes R q h q'
evaluate-goes R q h q' letters = (evaluates-goes R q h letters, goes-evaluates)

-- so a hedge leads to one state only
pub goes_one : {R : Rule} {q p p' : ℕ} {h : Hedge} → Goes R q h p → Goes R q h p' → p ≡ p'
goes_one g k = cc (goes-evaluates g, goes-evaluates k)

-- ---- one event of full reading, where the limits let it look

-- an event is one look: where there is a move the turn is made, and otherwise the event is refused at its place
pub record OneLook (step : Run → ℕ → Answer Run) (m : Run) (e : ℕ) (table : Table) (x : Move) (next : ℕ → Turn) : Type 0 where
  pub by-it : step m e ≡ (look table m.reading.taken x next giving λ turn. given (run_after m.levels turn))

pub look-to : {step : Run → ℕ → Answer Run} {m : Run} {e : ℕ} {table : Table} {q : ℕ} {next : ℕ → Turn}
    → OneLook step m e table (to q) next → step m e ≡ given (run_after m.levels (next q))
unfolding look ◌giving◌
look-to one = one.by-it

look_none : {step : Run → ℕ → Answer Run} {m : Run} {e : ℕ} {table : Table} {next : ℕ → Turn}
    → OneLook step m e table no_move next → step m e ≡ refused (no_move_number table) m.reading.taken
unfolding look ◌giving◌
look_none one = one.by-it

module _ (R : Rule) (room ceiling : ℕ) (m : Run) (limit : m.reading.taken < most_events) (free : m.reading.looks < ceiling) where
  -- a known event whose turn is a look, once its own tests have passed
  known-turn : (e : ℕ) {table : Table} {x : Move} {next : ℕ → Turn} → e < R.letters + 2
      → full_turn R room ceiling m.reading (innermost m.levels) (event_of e) ≡ look table m.reading.taken x next
      → OneLook (full_step R room ceiling) m e table x next
  unfolding full_step full_event known_event
  known-turn e letter turn = record {
    by-it = ap
        (λ x. x giving λ turn. given (run_after m.levels turn))
        (refuse-passes 16 _ _ (lt-leb _ _ limit) ∙ (refuse-passes 10 _ _ (lt-leb _ _ letter) ∙ turn));
  }

  pub letter-look : (a : ℕ) → a < R.letters
      → OneLook (full_step R room ceiling) m (suc (suc a)) letter_table (letter_move R m.reading.state a)
      (λ q. stays (looked m.reading q m.reading.depth))
  unfolding full_turn event_of
  letter-look a letter = known-turn (suc (suc a)) (omega arith) (refuse-passes 9 _ _ (lt-leb _ _ free))

  pub open-look : m.reading.depth < room
      → OneLook (full_step R room ceiling) m 0 start_table (tree_start_move R)
      (λ q. stores (new_level m.reading) (looked m.reading q (m.reading.depth + 1)))
  unfolding full_turn event_of
  open-look depth = known-turn 0 (omega arith) (refuse-passes 8 _ _ (lt-leb _ _ depth) ∙ refuse-passes 9 _ _ (lt-leb _ _ free))

  pub close-look : 0 < m.reading.depth
      → OneLook (full_step R room ceiling) m 1 tree_table (tree_move R (innermost m.levels).above m.reading.state)
      (λ q. ends (looked m.reading q (m.reading.depth - 1)))
  unfolding full_turn event_of
  close-look depth =
      let inside : m.reading.depth ≡ 0 → ⊥ = λ e. omega arith in
      known-turn 1 (omega arith) (refuse-passes 7 _ _ (ne_eqb _ _ inside) ∙ refuse-passes 9 _ _ (lt-leb _ _ free))

-- ---- where feeding the events of a hedge leads

-- the run after so many events, each a look, that lead to a state and leave the levels as they were
abbrev pub ahead : Run → ℕ → ℕ → Run
ahead m q n = record {
  reading = record {
    state = q;
    depth = m.reading.depth;
    skip = m.reading.skip;
    taken = m.reading.taken + n;
    looks = m.reading.looks + n;
  };
  levels = m.levels;
}

ahead_none : (m : Run) → m ≡ ahead m m.reading.state 0
ahead_none m = simp add-zero

ahead-on : (m : Run) (p q k n : ℕ) → ahead (ahead m p k) q n ≡ ahead m q (k + n)
ahead-on m p q k n = simp add_assoc

-- Feeding so many events and then the rest goes where the hedge of these events leads: to its state, and there the rest is fed;
-- or to a refusal at the event whose move is missing.
data Follows (step : Run → ℕ → Answer Run) (m : Run) (n : ℕ) (rest : List ℕ) (fed : Went Run) : Led → Type 0 where
  arrives : {q : ℕ} → fed ≡ feed_by step (ahead m q n) rest → Follows step m n rest fed (to_state q)
  stops : {table : Table} {i : ℕ} → fed.ended ≡ refused (no_move_number table) (m.reading.taken + i)
      → Follows step m n rest fed (missing_at table i)

module _ {step : Run → ℕ → Answer Run} {m : Run} {n : ℕ} {rest : List ℕ} where
  -- by a move at an event, and on
  by_move-follows : {m' : Run} {e : ℕ} (es : List ℕ) {table : Table} {x : Move} (i : ℕ) {turn : ℕ → Turn} {next : ℕ → Led}
      → m'.reading.taken ≡ m.reading.taken + i
      → OneLook step m' e table x turn
      → ((q : ℕ) → Follows step m n rest (feed_by step (run_after m'.levels (turn q)) es) (next q))
      → Follows step m n rest (feed_by step m' (e ∷ es)) (by_move table x i next)
  unfolding by_move
  by_move-follows es {table} {x = no_move} i place one on =
      stops (ap (λ w. w.ended) (feed-refused step es (look_none one)) ∙ ap (refused (no_move_number table)) place)
  by_move-follows es {x = to q} i place one on = rw (feed-taken step es (look-to one)) (on q)

  -- the same after so many events
  later-follows : {p n' : ℕ} (k : ℕ) {fed : Went Run} {led : Led} → n ≡ k + n'
      → Follows step (ahead m p k) n' rest fed led → Follows step m n rest fed (later k led)
  unfolding later
  later-follows {p} k same (arrives {q} e) =
      arrives (e ∙ ap (λ a. feed_by step a rest) (ahead-on m p q k _ ∙ ap (ahead m q) (sym same)))
  later-follows k same (stops e) = stops (rw add_assoc at e)

  -- from where a part led, on
  from_there-follows : {m' : Run} {n' : ℕ} (k : ℕ) {rest' : List ℕ} {fed : Went Run} {led : Led} {next : ℕ → Led}
      → m'.reading.taken ≡ m.reading.taken + k
      → Follows step m' n' rest' fed led
      → ((q : ℕ) → Follows step m n rest (feed_by step (ahead m' q n') rest') (next q))
      → Follows step m n rest fed (from_there (later k led) next)
  unfolding later from_there
  from_there-follows k place (arrives e) on = rw e (on _)
  from_there-follows k place (stops e) on = stops (rw (place, add_assoc) at e)

-- ---- by induction on the hedge

height-of-tree : (h g : Hedge) → (suc (height h) ≤ height (⟨ h ⟩· g)) × (height g ≤ height (⟨ h ⟩· g))
unfolding height
height-of-tree h g = (le-max_left (suc (height h)) (height g), le-max_right (suc (height h)) (height g))

-- the run inside a tree that opened, with its inner state
abbrev in_tree : Run → ℕ → Run
in_tree m p = run_after m.levels (stores (new_level m.reading) (looked m.reading p (m.reading.depth + 1)))

-- the run after that tree closed
abbrev past_tree : Run → ℕ → Run
past_tree m q = run_after m.levels (ends (looked m.reading q (m.reading.depth - 1)))

past-ahead : (m : Run) (p p' q n : ℕ) → past_tree (ahead (in_tree m p) p' n) q ≡ ahead m q (2 + n)
unfolding run_after looked new_level outer
past-ahead m p p' q n =
    let depth : m.reading.depth + 1 - 1 ≡ m.reading.depth = omega arith in
    let taken : m.reading.taken + 1 + n + 1 ≡ m.reading.taken + (2 + n) = omega arith in
    let looks : m.reading.looks + 1 + n + 1 ≡ m.reading.looks + (2 + n) = omega arith in
    rw (depth, taken, looks)

module _ (R : Rule) (room ceiling : ℕ) where
  follow : (h : Hedge) (m : Run) (rest : List ℕ) → known R.letters h ≡ true
      → m.reading.depth + height h ≤ room
      → m.reading.looks + length (events_of h) ≤ ceiling
      → m.reading.taken + length (events_of h) ≤ most_events
      → Follows (full_step R room ceiling) m (length (events_of h)) rest
      (feed_by (full_step R room ceiling) m (events_of h ++ rest))
      (evaluate R m.reading.state h)
  unfolding events_of known height evaluate looked new_level run_after innermost outer
  follow ε m rest letters levels looks taken = arrives (ap (λ a. feed_by (full_step R room ceiling) a rest) (ahead_none m))
  follow (a · h) m rest letters levels looks taken =
      let letter = and_parts _ _ letters in
      by_move-follows (events_of h ++ rest) 0 (omega arith)
      (letter-look R room ceiling m (omega arith) (omega arith) a (ltb-true _ _ letter.0))
      (λ q. later-follows 1 (omega arith) (follow h (ahead m q 1) rest letter.1 levels (omega arith) (omega arith)))
  follow (⟨ h ⟩· g) m rest letters levels looks taken =
      let both = and_parts _ _ letters in
      let tall = height-of-tree h g in
      let n : ℕ = length (events_of h) in
      let long : length (events_of h ++ (1 ∷ events_of g)) ≡ n + suc (length (events_of g)) = length-append (events_of h) (1 ∷ events_of g) in
      rw append_assoc
      (by_move-follows (events_of h ++ (1 ∷ (events_of g ++ rest))) 0 (omega arith)
      (open-look R room ceiling m (omega arith) (omega arith) (omega arith))
      (λ p. from_there-follows 1 refl
      (follow h (in_tree m p) (1 ∷ (events_of g ++ rest)) both.0 (omega arith) (omega arith) (omega arith))
      (λ p'. by_move-follows (events_of g ++ rest) (1 + n) (omega arith)
      (close-look R room ceiling (ahead (in_tree m p) p' n) (omega arith) (omega arith) (omega arith))
      (λ q. rw (past-ahead m p p' q n)
      (later-follows (2 + n) (omega arith)
      (follow g (ahead m q (2 + n)) rest both.1 (omega arith) (omega arith) (omega arith)))))))

-- ---- full reading of a hedge's events

follows_to : {step : Run → ℕ → Answer Run} {m : Run} {n : ℕ} {fed : Went Run} {led : Led} {q : ℕ}
    → Follows step m n [] fed led → led ≡ to_state q → fed ≡ record { last = ahead m q n; ended = given tt }
follows_to {step} {m} {n} {q} (arrives {q = q₁} e) same =
    let there : q₁ ≡ q = cc in
    e ∙ (feed-none step (ahead m q₁ n) ∙ rw there)
follows_to (stops e) same = let z : ◌≡◌ {A = ℕ} 0 1 = cc in absurd (omega arith)

follows-missing : {step : Run → ℕ → Answer Run} {m : Run} {n : ℕ} {fed : Went Run} {led : Led} {table : Table} {i : ℕ}
    → Follows step m n [] fed led → led ≡ missing_at table i → fed.ended ≡ refused (no_move_number table) (m.reading.taken + i)
follows-missing (arrives e) same = let z : ◌≡◌ {A = ℕ} 0 1 = cc in absurd (omega arith)
follows-missing (stops e) same = cc

missing-refused : {step : Run → ℕ → Answer Run} {m : Run} {n : ℕ} {fed : Went Run} {led : Led} {table : Table} {i : ℕ}
    → Follows step m n [] fed led → fed.ended ≡ refused (no_move_number table) (m.reading.taken + i) → led ≡ missing_at table i
missing-refused {step} {m} {n} (arrives {q = q₁} e) same =
    let all = ap (λ w. w.ended) (e ∙ feed-none step (ahead m q₁ n)) in
    let z : ◌≡◌ {A = ℕ} 0 1 = cc in absurd (omega arith)
missing-refused {m} {table} {i} (stops {table = table₁} {i = i₁} e) same =
    let number : no_move_number table₁ ≡ no_move_number table = cc in
    let place : m.reading.taken + i₁ ≡ m.reading.taken + i = cc in
    let events : i₁ ≡ i = omega arith in
    rw (number-tells table₁ table number, events)

come-to : {step : Run → ℕ → Answer Run} {m : Run} {n : ℕ} {fed : Went Run} {led : Led} {q : ℕ}
    → Follows step m n [] fed led → Comes fed q m.levels → led ≡ to_state q
come-to {step} {m} {n} (arrives {q = q₁} e) comes =
    ap to_state (sym (ap (λ w. w.last.reading.state) (e ∙ feed-none step (ahead m q₁ n))) ∙ comes.in_state)
come-to (stops e) comes = let z : ◌≡◌ {A = ℕ} 0 1 = cc in absurd (omega arith)

-- no fewer are open at once than were open before
pub deepest-least : (d : ℕ) (es : List ℕ) → d ≤ deepest d es
unfolding deepest deepest_on event_of
deepest-least d [] = omega arith
deepest-least d (zero ∷ es) = omega (arith, deepest-least (suc d) es)
deepest-least d (suc zero ∷ es) = le-max_left d (deepest (d - 1) es)
deepest-least d (suc (suc a) ∷ es) = deepest-least d es

-- the most trees open at once in the events of a hedge, and in what follows it
pub deepest-hedge : (d : ℕ) (h : Hedge) (rest : List ℕ) → deepest d (events_of h ++ rest) ≡ max (d + height h) (deepest d rest)
unfolding events_of height deepest deepest_on event_of
deepest-hedge d ε rest = let h : d ≤ deepest d rest = deepest-least d rest in omega arith
deepest-hedge d (a · h) rest = deepest-hedge d h rest
deepest-hedge d (⟨ h ⟩· g) rest =
    ap (deepest (suc d)) (append_assoc (events_of h) (1 ∷ events_of g) rest)
    ∙ (deepest-hedge (suc d) h (1 ∷ (events_of g ++ rest))
    ∙ (let down : suc d - 1 ≡ d = omega arith in
    let back = ap (λ n. deepest n (events_of g ++ rest)) down in
    omega (arith, deepest-hedge d g rest, back)))

pub deepest-whole : (d : ℕ) (h : Hedge) → deepest d (events_of h) ≡ d + height h
unfolding deepest
deepest-whole d h =
    let both : deepest d (events_of h) ≡ max (d + height h) d = rw append-nil at (deepest-hedge d h []) in
    omega arith

module _ (R : Rule) (room ceiling : ℕ) (m : Run) (h : Hedge) (letters : known R.letters h ≡ true)
    (enough : Suffices room ceiling m (events_of h)) where
  followed : Follows
      (full_step R room ceiling)
      m
      (length (events_of h))
      []
      (feed_by (full_step R room ceiling) m (events_of h))
      (evaluate R m.reading.state h)
  followed =
      rw append-nil at (follow R room ceiling h m [] letters (omega (arith, enough.levels, deepest-whole m.reading.depth h)) enough.looks enough.taken)

  -- where the hedge leads to a state, all its events are taken, each as one look, and reading is in that state with the levels
  -- as they were
  pub full-follows : {q' : ℕ} → evaluate R m.reading.state h ≡ to_state q'
      → feed_by (full_step R room ceiling) m (events_of h)
      ≡ record { last = ahead m q' (length (events_of h)); ended = given tt }
  full-follows e = follows_to followed e

  -- where a move is missing, the event that wants it is refused, at its own place, with the number of the table that has none
  pub full_refuses : {table : Table} {i : ℕ} → evaluate R m.reading.state h ≡ missing_at table i
      → (feed_by (full_step R room ceiling) m (events_of h)).ended ≡ refused (no_move_number table) (m.reading.taken + i)
  full_refuses e = follows-missing followed e

  -- and the other way round: the number and the place of a refusal tell which table has none, and at which event
  pub full-refuses-exactly-if : (table : Table) (i : ℕ)
      → (feed_by (full_step R room ceiling) m (events_of h)).ended ≡ refused (no_move_number table) (m.reading.taken + i)
      ↔ evaluate R m.reading.state h ≡ missing_at table i
  full-refuses-exactly-if table i = (missing-refused followed, full_refuses)

  -- so 11 says that there is no letter move, 17 that there is no tree start, and 18 that there is no tree move
  pub full-says-which : (i : ℕ)
      → ((feed_by (full_step R room ceiling) m (events_of h)).ended ≡ refused 11 (m.reading.taken + i) ↔ evaluate R m.reading.state h ≡ missing_at letter_table i)
      × ((feed_by (full_step R room ceiling) m (events_of h)).ended ≡ refused 17 (m.reading.taken + i) ↔ evaluate R m.reading.state h ≡ missing_at start_table i)
      × ((feed_by (full_step R room ceiling) m (events_of h)).ended ≡ refused 18 (m.reading.taken + i) ↔ evaluate R m.reading.state h ≡ missing_at tree_table i)
  unfolding no_move_number
  full-says-which i = (full-refuses-exactly-if letter_table i, full-refuses-exactly-if start_table i, full-refuses-exactly-if tree_table i)

  -- all events are taken, and reading comes to a state with the levels as they were, exactly if the automaton goes to that
  -- state by the hedge
  pub full-follows-goes : (q' : ℕ)
      → Comes (feed_by (full_step R room ceiling) m (events_of h)) q' m.levels ↔ Goes R m.reading.state h q'
  full-follows-goes q' = (
    λ comes. evaluates-goes R m.reading.state h letters (come-to followed comes),
    λ goes.
        let there = full-follows (goes-evaluates goes) in
        record {
          all_taken = ap (λ w. w.ended) there;
          in_state = ap (λ w. w.last.reading.state) there;
          with_levels = ap (λ w. w.last.levels) there;
        },
  )
