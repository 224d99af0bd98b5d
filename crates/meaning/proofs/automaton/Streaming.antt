-- Full reading is the paper's streaming machine, event for event: for every first part of a stream, trees still open included,
-- full reading takes it and comes to a state and levels exactly if the machine comes to that state with the states above these
-- levels as its stack, and the limits suffice. And the machine is the automaton (the paper's Lemma 56): it comes to a state and a
-- stack by some events exactly if the automaton has a partial run on them that does.
use mathlib.Core.Path.{◌≡◌, refl, sym, ap, ◌∙◌}
use mathlib.Core.Logic.{◌↔◌}
use mathlib.Core.List.{List, [], ◌∷◌, ◌++◌, append_assoc, append-nil}
use Prim.Native.Nat.{ℕ, zero, suc, ◌+◌, ◌-◌, ◌≤◌, ◌<◌}
use native.Mathlib.Numerals.{add-one}
use native.Mathlib.Omega.{arith}
use lib.ListN.{length}
use borrow.Author.Tests.{leb-false, eqb-false}
use Rattle.meaning.specs.declared.Reading.{Reading}
use Rattle.meaning.specs.declared.Level.{Level}
use Rattle.meaning.specs.Answers.{given, ◌≤?◌, ◌=?◌}
use Rattle.meaning.specs.RuleFile.{Rule, to, letter_move, tree_move, tree_start_move}
use Rattle.meaning.specs.FullReading.{Event, opens, closes, letter, event_of, most_events, looked, new_level, Turn, stays, stores, ends, full_turn, known_event, full_event, Run, innermost, outer, run_after, full_step, Went, feed_by}
use Rattle.meaning.specs.Hedges.{Hedge, ε, ◌·◌, ⟨◌⟩·◌, events_of, Goes, by_nothing, by_letter, by_tree, deepest_on, deepest}
use Rattle.meaning.specs.StreamingMachine.{Streams, reads_nothing, reads_letter, reads_open, reads_close, PartialRun, of_hedge, into_tree, aboves, Suffices, WithinLimits, Arrives}
use Rattle.meaning.proofs.laws.Answered.{giving-given}
use Rattle.meaning.proofs.laws.Events.{known-letter}
use Rattle.meaning.proofs.laws.FeedLaws.{feed-none, feed-taken, feed-first}
use Rattle.meaning.proofs.automaton.Automaton.{look-to, letter-look, open-look, close-look, deepest-least}
use Rattle.meaning.proofs.stores.Turns.{Gives, gives, gives-refuse, gives-look}

-- ---- the machine on a hedge

module _ {R : Rule} where
  pub streams-join : {q q' q'' : ℕ} {σ σ' σ'' es fs : List ℕ} → Streams R q σ es q' σ' → Streams R q' σ' fs q'' σ''
      → Streams R q σ (es ++ fs) q'' σ''
  streams-join reads_nothing s = s
  streams-join (reads_letter known m r) s = reads_letter known m (streams-join r s)
  streams-join (reads_open m r) s = reads_open m (streams-join r s)
  streams-join (reads_close m r) s = reads_close m (streams-join r s)

  -- where the automaton goes by a hedge, the machine goes by its events, above any stack
  pub goes-streams : {q q' : ℕ} {h : Hedge} {σ : List ℕ} → Goes R q h q' → Streams R q σ (events_of h) q' σ
  unfolding events_of
  goes-streams by_nothing = reads_nothing
  goes-streams (by_letter known m g) = reads_letter known m (goes-streams g)
  goes-streams (by_tree s g m k) = reads_open s (streams-join (goes-streams g) (reads_close m (goes-streams k)))

  pub partial-streams : {q q' : ℕ} {σ σ' es : List ℕ} → PartialRun R q σ es q' σ' → Streams R q σ es q' σ'
  partial-streams (of_hedge h e g) = rw (← e) (goes-streams g)
  partial-streams (into_tree h e g s r) = rw (← e) (streams-join (goes-streams g) (reads_open s (partial-streams r)))

-- ---- two hedges, one after the other

joined : Hedge → Hedge → Hedge
joined ε g = g
joined (a · h) g = a · joined h g
joined (⟨ f ⟩· h) g = ⟨ f ⟩· joined h g

joined-events : (h g : Hedge) → events_of (joined h g) ≡ events_of h ++ events_of g
unfolding joined events_of
joined-events ε g = refl
joined-events (a · h) g = ap (λ es. suc (suc a) ∷ es) (joined-events h g)
joined-events (⟨ f ⟩· h) g =
    ap (λ es. 0 ∷ (events_of f ++ 1 ∷ es)) (joined-events h g)
    ∙ ap (λ es. 0 ∷ es) (sym (append_assoc (events_of f) (1 ∷ events_of h) (events_of g)))

joined-goes : {R : Rule} {q q' q'' : ℕ} {h g : Hedge} → Goes R q h q' → Goes R q' g q'' → Goes R q (joined h g) q''
unfolding joined
joined-goes by_nothing k = k
joined-goes (by_letter known m g) k = by_letter known m (joined-goes g k)
joined-goes (by_tree s g m f) k = by_tree s g m (joined-goes f k)

-- ---- a partial run with one event more

module _ {R : Rule} where
  -- its stack stands on the one that it began with
  partial-higher : {q q' : ℕ} {σ σ' es : List ℕ} → PartialRun R q σ es q' σ' → length σ ≤ length σ'
  partial-higher (of_hedge h e g) = omega arith
  partial-higher (into_tree h e g s r) = omega (arith, partial-higher r)

  partial-letter : {q q' q'' a : ℕ} {σ σ' es : List ℕ} → PartialRun R q σ es q' σ' → a < R.letters → letter_move R q' a ≡ to q''
      → PartialRun R q σ (es ++ (suc (suc a) ∷ [])) q'' σ'
  unfolding events_of
  partial-letter {a} (of_hedge h e g) known m =
      of_hedge (joined h (a · ε)) (joined-events h (a · ε) ∙ ap (λ es. es ++ (suc (suc a) ∷ [])) e)
      (joined-goes g (by_letter known m by_nothing))
  partial-letter {a} (into_tree {fs} h e g s r) known m =
      into_tree h (sym (append_assoc (events_of h) (0 ∷ fs) (suc (suc a) ∷ [])) ∙ ap (λ es. es ++ (suc (suc a) ∷ [])) e) g s
      (partial-letter r known m)

  partial-open : {q q' p : ℕ} {σ σ' es : List ℕ} → PartialRun R q σ es q' σ' → tree_start_move R ≡ to p
      → PartialRun R q σ (es ++ (0 ∷ [])) p (q' ∷ σ')
  unfolding events_of
  partial-open (of_hedge h e g) m = into_tree h (ap (λ es. es ++ (0 ∷ [])) e) g m (of_hedge ε refl by_nothing)
  partial-open (into_tree {fs} h e g s r) m =
      into_tree h (sym (append_assoc (events_of h) (0 ∷ fs) (0 ∷ [])) ∙ ap (λ es. es ++ (0 ∷ [])) e) g s (partial-open r m)

  partial-close : {q q' q'' u : ℕ} {σ σ' es : List ℕ} → PartialRun R q σ es q' (u ∷ σ') → tree_move R u q' ≡ to q''
      → length σ ≤ length σ' → PartialRun R q σ (es ++ (1 ∷ [])) q'' σ'
  unfolding events_of
  partial-close (of_hedge h e g) m higher = absurd (omega arith)
  partial-close (into_tree h e g s (of_hedge h' e' g')) m higher =
      of_hedge (joined h (⟨ h' ⟩· ε))
      (joined-events h (⟨ h' ⟩· ε)
      ∙ (ap (λ fs. events_of h ++ (0 ∷ (fs ++ (1 ∷ [])))) e'
      ∙ (sym (append_assoc (events_of h) _ (1 ∷ [])) ∙ ap (λ es. es ++ (1 ∷ [])) e)))
      (joined-goes g (by_tree s g' m by_nothing))
  partial-close (into_tree {fs} h e g s (into_tree h' e' g' s' r)) m higher =
      into_tree h (sym (append_assoc (events_of h) (0 ∷ fs) (1 ∷ [])) ∙ ap (λ es. es ++ (1 ∷ [])) e) g s
      (partial-close (into_tree h' e' g' s' r) m (omega (arith, partial-higher r)))

  -- what the machine goes on by is taken into the partial run, event by event
  streams-partial : {q q' q'' : ℕ} {σ σ' es fs : List ℕ} → PartialRun R q [] es q' σ → Streams R q' σ fs q'' σ'
      → PartialRun R q [] (es ++ fs) q'' σ'
  streams-partial {es} p reads_nothing = rw (append-nil es) p
  streams-partial {es} p (reads_letter {a} {es = fs} known m s) =
      rw append_assoc at (streams-partial (partial-letter p known m) s)
  streams-partial {es} p (reads_open m s) = rw append_assoc at (streams-partial (partial-open p m) s)
  streams-partial {es} p (reads_close m s) = rw append_assoc at (streams-partial (partial-close p m (omega arith)) s)

  -- The paper's Lemma 56.
  pub streams-are-partial-runs : {q q' : ℕ} {σ es : List ℕ} → Streams R q [] es q' σ ↔ PartialRun R q [] es q' σ
  unfolding events_of
  streams-are-partial-runs = (λ s. streams-partial (of_hedge ε refl by_nothing) s, partial-streams)

  partial-hedge : {q q' : ℕ} {σ σ' es : List ℕ} → PartialRun R q σ es q' σ' → length σ' ≡ length σ
      → (h : Hedge) × (events_of h ≡ es) × Goes R q h q'
  partial-hedge (of_hedge h e g) same = (h, e, g)
  partial-hedge (into_tree h e g s r) same = absurd (omega (arith, partial-higher r))

  -- and its Proposition 57: with no tree open the events are those of a hedge, by which the automaton goes
  pub streams-hedge : {q q' : ℕ} {es : List ℕ} → Streams R q [] es q' [] → (h : Hedge) × (events_of h ≡ es) × Goes R q h q'
  streams-hedge s = partial-hedge (streams-are-partial-runs.0 s) refl

-- ---- one event that full reading takes

-- what it needs of the limits and of the tables, and what it does
data Taken (R : Rule) (room ceiling : ℕ) (r : Reading) (top : Level) : Event → Turn → Type 0 where
  letter_taken : (a q : ℕ) → r.taken < most_events → r.looks < ceiling → a < R.letters → letter_move R r.state a ≡ to q
      → Taken R room ceiling r top (letter a) (stays (looked r q r.depth))
  open_taken : (q : ℕ) → r.taken < most_events → r.looks < ceiling → r.depth < room → tree_start_move R ≡ to q
      → Taken R room ceiling r top opens (stores (new_level r) (looked r q (r.depth + 1)))
  close_taken : (q : ℕ) → r.taken < most_events → r.looks < ceiling → 0 < r.depth → tree_move R top.above r.state ≡ to q
      → Taken R room ceiling r top closes (ends (looked r q (r.depth - 1)))

module _ (R : Rule) (room ceiling : ℕ) (r : Reading) (top : Level) where
  turn-taken : r.taken < most_events → (event : Event) → ((a : ℕ) → event ≡ letter a → a < R.letters)
      → Gives (Taken R room ceiling r top event) (full_turn R room ceiling r top event)
  unfolding full_turn
  turn-taken more (letter a) known =
      gives-refuse 9 r.taken (ceiling ≤? r.looks) _ (λ below.
      gives-look _ _ _ _ (λ q m. letter_taken a q more (leb-false _ _ below) (known a refl) m))
  turn-taken more opens known =
      gives-refuse 8 r.taken (room ≤? r.depth) _ (λ fits.
      gives-refuse 9 r.taken (ceiling ≤? r.looks) _ (λ below.
      gives-look _ _ _ _ (λ q m. open_taken q more (leb-false _ _ below) (leb-false _ _ fits) m)))
  turn-taken more closes known =
      gives-refuse 7 r.taken (r.depth =? 0) _ (λ deep.
      gives-refuse 9 r.taken (ceiling ≤? r.looks) _ (λ below.
      gives-look _ _ _ _ (λ q m. close_taken q more (leb-false _ _ below) (omega (arith, eqb-false r.depth 0 deep)) m)))

  event-taken : (e : ℕ) → Gives (Taken R room ceiling r top (event_of e)) (full_event R room ceiling r top e)
  unfolding full_event known_event
  event-taken e =
      gives-refuse 16 r.taken (most_events ≤? r.taken) _ (λ more.
      gives-refuse 10 r.taken (R.letters + 2 ≤? e) _ (λ known.
      turn-taken (leb-false _ _ more) (event_of e) (known-letter R.letters e (leb-false _ _ known))))

-- ---- full reading goes as the machine

-- what a full reading that took some events, from a reading with its levels, says of the machine and of the limits
record Went-by (R : Rule) (room ceiling : ℕ) (r : Reading) (ls : List Level) (es : List ℕ) (m : Run) : Type 0 where
  streams : Streams R r.state (aboves ls) es m.reading.state (aboves m.levels)
  stored : m.reading.depth ≡ length m.levels
  skip : m.reading.skip ≡ r.skip
  levels : r.depth ≤ room → deepest r.depth es ≤ room
  looks : r.looks ≤ ceiling → r.looks + length es ≤ ceiling
  taken : r.taken ≤ most_events → r.taken + length es ≤ most_events

module _ (R : Rule) (room ceiling : ℕ) where
  abbrev full : Reading → List Level → List ℕ → Went Run
  full r ls es = feed_by (full_step R room ceiling) (record { reading = r; levels = ls }) es

  -- one event, by what it did, and then the rest
  first_then : (r : Reading) (ls : List Level) (e : ℕ) (es : List ℕ) {turn : Turn} {m : Run} → r.depth ≡ length ls
      → Taken R room ceiling r (innermost ls) (event_of e) turn
      → ((r' : Reading) (ls' : List Level) → record { reading = r'; levels = ls' } ≡ run_after ls turn → r'.depth ≡ length ls'
      → Went-by R room ceiling r' ls' es m)
      → Went-by R room ceiling r ls (e ∷ es) m
  unfolding event_of run_after looked new_level outer innermost aboves deepest deepest_on
  first_then r ls (suc (suc a)) es depth (letter_taken b q more below known leads) rest =
      let w = rest (looked r q r.depth) ls refl depth in
      record {
        streams = reads_letter known leads w.streams;
        stored = w.stored;
        skip = w.skip;
        levels = w.levels;
        looks = λ h. omega (arith, w.looks (omega arith));
        taken = λ h. omega (arith, w.taken (omega arith));
      }
  first_then r ls zero es depth (open_taken q more below fits leads) rest =
      let w = rest (looked r q (r.depth + 1)) (new_level r ∷ ls) refl (omega arith) in
      let deeper = ap (λ n. deepest n es) (add-one r.depth) in
      record {
        streams = reads_open leads w.streams;
        stored = w.stored;
        skip = w.skip;
        levels = λ h. omega (arith, w.levels (omega arith), deeper);
        looks = λ h. omega (arith, w.looks (omega arith));
        taken = λ h. omega (arith, w.taken (omega arith));
      }
  first_then r [] (suc zero) es depth (close_taken q more below deep leads) rest = absurd (omega arith)
  first_then r (l ∷ ls) (suc zero) es depth (close_taken q more below deep leads) rest =
      let w = rest (looked r q (r.depth - 1)) ls refl (omega arith) in
      record {
        streams = reads_close leads w.streams;
        stored = w.stored;
        skip = w.skip;
        levels = λ h. omega (arith, w.levels (omega arith));
        looks = λ h. omega (arith, w.looks (omega arith));
        taken = λ h. omega (arith, w.taken (omega arith));
      }

  full-went : (r : Reading) (ls : List Level) (es : List ℕ) → r.depth ≡ length ls → (full r ls es).ended ≡ given tt
      → Went-by R room ceiling r ls es (full r ls es).last
  unfolding full_step deepest
  full-went r ls [] depth all =
      rw (feed-none (full_step R room ceiling) (record { reading = r; levels = ls }))
      (record {
        streams = reads_nothing;
        stored = depth;
        skip = refl;
        levels = λ h. h;
        looks = λ h. omega arith;
        taken = λ h. omega arith;
      })
  full-went r ls (e ∷ es) depth all =
      let m : Run = record { reading = r; levels = ls } in
      let first = feed-first (full_step R room ceiling) m e es all in
      let turn = giving-given _ (λ turn. given (run_after ls turn)) first.1 in
      let next : run_after ls turn.0 ≡ first.0 = cc turn.2 in
      rw first.2
      (first_then r ls e es depth (gives (event-taken R room ceiling r (innermost ls) e) turn.1)
      λ r' ls' same stored.
      let there : record { reading = r'; levels = ls' } ≡ first.0 = same ∙ next in
      rw there at
      (full-went r' ls' es stored
      (ap (λ a. (feed_by (full_step R room ceiling) a es).ended) there ∙ (sym (ap (λ w. w.ended) first.2) ∙ all))))

  -- where the machine goes and the limits suffice, full reading takes all events and goes there too
  machine-read : {q q' : ℕ} {σ σ' es : List ℕ} (r : Reading) (ls : List Level) → Streams R q σ es q' σ'
      → r.state ≡ q → aboves ls ≡ σ → r.depth ≡ length ls
      → Suffices room ceiling (record { reading = r; levels = ls }) es
      → Arrives (full r ls es) q' σ'
  unfolding run_after looked new_level outer innermost aboves deepest deepest_on event_of
  machine-read r ls reads_nothing state stack depth enough =
      rw (feed-none (full_step R room ceiling) (record { reading = r; levels = ls }))
      (record { all_taken = refl; in_state = state; with_stack = stack; stored = depth })
  machine-read {q} r ls (reads_letter {q' = p} {a} {es} known leads s) state stack depth enough =
      let m : Run = record { reading = r; levels = ls } in
      let one = letter-look R room ceiling m (omega (arith, enough.taken)) (omega (arith, enough.looks)) a known in
      let move : letter_move R r.state a ≡ to p = rw state leads in
      let step = look-to {q = p} (rw move at one) in
      rw (feed-taken (full_step R room ceiling) es step)
      (machine-read (looked r p r.depth) ls s refl stack depth
      (record { levels = enough.levels; looks = omega (arith, enough.looks); taken = omega (arith, enough.taken) }))
  machine-read r ls (reads_open {p} {es} leads s) state stack depth enough =
      let m : Run = record { reading = r; levels = ls } in
      let deeper = ap (λ n. deepest n es) (add-one r.depth) in
      let fits : r.depth < room = omega (arith, enough.levels, deepest-least (suc r.depth) es) in
      let one = open-look R room ceiling m (omega (arith, enough.taken)) (omega (arith, enough.looks)) fits in
      let step = look-to {q = p} (rw leads at one) in
      rw (feed-taken (full_step R room ceiling) es step)
      (machine-read (looked r p (r.depth + 1)) (new_level r ∷ ls) s refl (rw (state, stack)) (omega arith)
      (record {
        levels = omega (arith, enough.levels, deeper);
        looks = omega (arith, enough.looks);
        taken = omega (arith, enough.taken);
      }))
  machine-read r [] (reads_close leads s) state stack depth enough = let z : ◌≡◌ {A = ℕ} 0 1 = cc in absurd (omega arith)
  machine-read r (l ∷ ls) (reads_close {u} {q' = p} {σ} {es} leads s) state stack depth enough =
      let m : Run = record { reading = r; levels = l ∷ ls } in
      let above : l.above ≡ u = cc in
      let others : aboves ls ≡ σ = cc in
      let one = close-look R room ceiling m (omega (arith, enough.taken)) (omega (arith, enough.looks)) (omega arith) in
      let move : tree_move R l.above r.state ≡ to p = rw (state, above) leads in
      let step = look-to {q = p} (rw move at one) in
      rw (feed-taken (full_step R room ceiling) es step)
      (machine-read (looked r p (r.depth - 1)) ls s refl others (omega arith)
      (record {
        levels = omega (arith, enough.levels);
        looks = omega (arith, enough.looks);
        taken = omega (arith, enough.taken);
      }))

-- ---- event for event

module _ (R : Rule) (room ceiling : ℕ) (m : Run) (within : WithinLimits room ceiling m) (es : List ℕ) where
  -- Full reading takes some events and comes to a state and a stack exactly if the machine does and the limits suffice.
  pub full-is-machine : (q : ℕ) (σ : List ℕ)
      → Arrives (feed_by (full_step R room ceiling) m es) q σ
      ↔ (Streams R m.reading.state (aboves m.levels) es q σ × Suffices room ceiling m es)
  full-is-machine q σ = (
    λ there.
        let w = full-went R room ceiling m.reading m.levels es within.stored there.all_taken in (
          rw (there.in_state, there.with_stack) at w.streams,
          record { levels = w.levels within.levels; looks = w.looks within.looks; taken = w.taken within.taken },
        ),
    λ both. machine-read R room ceiling m.reading m.levels both.0 refl refl within.stored both.1,
  )

  -- and wherever it takes all events it has come somewhere
  pub full-arrives : (feed_by (full_step R room ceiling) m es).ended ≡ given tt
      → Arrives (feed_by (full_step R room ceiling) m es) (feed_by (full_step R room ceiling) m es).last.reading.state
      (aboves (feed_by (full_step R room ceiling) m es).last.levels)
  full-arrives all =
      record {
        all_taken = all;
        in_state = refl;
        with_stack = refl;
        stored = (full-went R room ceiling m.reading m.levels es within.stored all).stored;
      }

  -- with the skip depth as it was
  pub full-skips-nothing : (feed_by (full_step R room ceiling) m es).ended ≡ given tt
      → (feed_by (full_step R room ceiling) m es).last.reading.skip ≡ m.reading.skip
  full-skips-nothing all = (full-went R room ceiling m.reading m.levels es within.stored all).skip
