-- The exchange of demand 3, for any rule, any book, any room and ceiling: a well-nested run that skipping takes on a settled
-- level can be exchanged for any other, since there it changes nothing but the events taken, and skipping asks for places
-- only to report them.
use mathlib.Core.Path.{◌≡◌, refl, sym, ap, ◌∙◌}
use mathlib.Core.Bool.{Bool, true, false}
use mathlib.Core.List.{List, [], ◌∷◌, ◌++◌}
use Prim.Native.Nat.{ℕ, zero, suc, ◌+◌, ◌-◌, ◌<◌, ◌≤◌}
use native.Mathlib.Omega.{arith}
use lib.ListN.{length, length-append}
use borrow.Author.Tests.{lt-ltb, ltb-true, leb-false, lt-leb, eqb-true}
use Rattle.std.proofs.lemmas.Bool.{and_parts}
use Rattle.meaning.specs.declared.Reading.{Reading}
use Rattle.meaning.specs.declared.Level.{Level}
use Rattle.meaning.specs.Answers.{given, ◌≤?◌, ◌<?◌}
use Rattle.meaning.specs.RuleFile.{Rule}
use Rattle.meaning.specs.FullReading.{Event, opens, closes, letter, event_of, most_events, letter_table, start_table, tree_table, fresh_run}
use Rattle.meaning.specs.FullReading.{Turn, stays, looked, new_level, full_turn, known_event}
use Rattle.meaning.specs.FullReading.{Run, innermost, outer, run_after, fresh_reading, Went, feed_by}
use Rattle.meaning.specs.Hedges.{nested_on, nested_from, known_events, well_nested}
use Rattle.meaning.specs.Skipping.{held, settled, passed, ends_level, settled_turn, skip_turn, skip_event, skip_step, skip_from, skip_run}
use Rattle.meaning.specs.PassedOver.{PassedOverPart}
use Rattle.meaning.specs.Calls.{Judged, end_of, end_of_run}
use Rattle.meaning.proofs.laws.Answered.{if-true, refuse-passes, refuse-given, giving-passes}
use Rattle.meaning.proofs.laws.FeedLaws.{feed-none, feed-taken, feed-append, feed-split}
use Rattle.meaning.proofs.laws.Truths.{true-is-not-false}
use Rattle.meaning.proofs.laws.Following.{Follows, both_give, refuse-each, if-each, look-each, giving-each, follows_so, feed-each}

-- ---- the same but for places

-- the levels have the same states above them
pub data SameAboves : List Level → List Level → Type 0 where
  no_level : SameAboves [] []
  and_level : {l l' : Level} {ls ls' : List Level} → l.above ≡ l'.above → SameAboves ls ls' → SameAboves (l ∷ ls) (l' ∷ ls')

-- two runs that differ at most in the events taken and in the places of openings
pub record SameButPlaces (m m' : Run) : Type 0 where
  pub state : m.reading.state ≡ m'.reading.state
  pub depth : m.reading.depth ≡ m'.reading.depth
  pub skip : m.reading.skip ≡ m'.reading.skip
  pub looks : m.reading.looks ≡ m'.reading.looks
  pub aboves : SameAboves m.levels m'.levels

-- a reading that has taken so many events, and a record of an opening at such a place, otherwise the same
abbrev at_place : ℕ → Reading → Reading
at_place t r = record { state = r.state; depth = r.depth; skip = r.skip; taken = t; looks = r.looks }

abbrev opened_at : ℕ → Level → Level
opened_at t l = record { above = l.above; opened = t }

same-aboves : (ls : List Level) → SameAboves ls ls
same-aboves [] = no_level
same-aboves (l ∷ ls) = and_level refl (same-aboves ls)

same-outer : {ls ls' : List Level} → SameAboves ls ls' → SameAboves (outer ls) (outer ls')
unfolding outer
same-outer no_level = no_level
same-outer (and_level same rest) = rest

same-innermost : {ls ls' : List Level} → SameAboves ls ls' → innermost ls' ≡ opened_at (innermost ls').opened (innermost ls)
unfolding innermost
same-innermost no_level = refl
same-innermost (and_level {l} {l'} same rest) = λ i. record { above = sym same i; opened = l'.opened }

same-reading : {m m' : Run} → SameButPlaces m m' → m'.reading ≡ at_place m'.reading.taken m.reading
same-reading {m} {m'} same =
    λ i. record {
      state = sym same.state i;
      depth = sym same.depth i;
      skip = sym same.skip i;
      taken = m'.reading.taken;
      looks = sym same.looks i;
    }

-- ---- one event, by the text of skipping

-- one event after runs that have taken t and t': the same but for places, and one more event taken
record Further (t t' : ℕ) (m m' : Run) : Type 0 where
  same : SameButPlaces m m'
  taken : m.reading.taken ≡ t + 1
  taken' : m'.reading.taken ≡ t' + 1

further : {q d k c : ℕ} (t t' : ℕ) {ls ls' : List Level} → SameAboves ls ls'
    → Further t t' (record { reading = record { state = q; depth = d; skip = k; taken = t + 1; looks = c }; levels = ls })
    (record { reading = record { state = q; depth = d; skip = k; taken = t' + 1; looks = c }; levels = ls' })
further t t' aboves =
    record {
      same = record { state = refl; depth = refl; skip = refl; looks = refl; aboves = aboves };
      taken = refl;
      taken' = refl;
    }

module _ (R : Rule) (book : List ℕ) (room ceiling : ℕ) (r : Reading) (top : Level) (t o : ℕ)
    (ls ls' : List Level) (aboves : SameAboves ls ls') where
  abbrev Both : Turn → Turn → Type 0
  Both turn turn' = Further r.taken t (run_after ls turn) (run_after ls' turn')

  full-same : (v : Event)
      → Follows Both (full_turn R room ceiling r top v) (full_turn R room ceiling (at_place t r) (opened_at o top) v)
  unfolding full_turn looked new_level run_after
  full-same (letter a) =
      refuse-each 9 _ _ _ _ (λ free. free)
      λ free. look-each letter_table _ _ _ _ refl λ q leads. both_give (further r.taken t aboves)
  full-same opens =
      refuse-each 8 _ _ _ _ (λ fits. fits)
      λ fits. refuse-each 9 _ _ _ _ (λ free. free)
      λ free. look-each start_table _ _ _ _ refl λ q leads. both_give (further r.taken t (and_level refl aboves))
  full-same closes =
      refuse-each 7 _ _ _ _ (λ deep. deep)
      λ deep. refuse-each 9 _ _ _ _ (λ free. free)
      λ free. look-each tree_table _ _ _ _ refl λ q leads. both_give (further r.taken t (same-outer aboves))

  settled_same : (v : Event)
      → Follows Both (settled_turn R book room ceiling r top v) (settled_turn R book room ceiling (at_place t r) (opened_at o top) v)
  unfolding settled_turn ends_level held passed run_after
  settled_same (letter a) = both_give (further r.taken t aboves)
  settled_same opens = both_give (further r.taken t aboves)
  settled_same closes =
      if-each (0 <? r.skip) (λ more. both_give (further r.taken t aboves))
      λ last. if-each (held book r top) (λ holds. both_give (further r.taken t (same-outer aboves))) (λ free. full-same closes)

  event-same : (e : ℕ) → ((most_events ≤? r.taken) ≡ false → (most_events ≤? t) ≡ false)
      → Follows (λ turn turn'. (r.taken < most_events) × Both turn turn') (skip_event R book room ceiling r top e)
      (skip_event R book room ceiling (at_place t r) (opened_at o top) e)
  unfolding skip_event known_event skip_turn settled held
  event-same e limit =
      refuse-each 16 _ _ _ _ limit
      λ free. refuse-each 10 _ _ _ _ (λ known. known)
      λ known. follows_so (if-each _ (λ settles. settled_same (event_of e)) (λ moves. full-same (event_of e)))
      (λ turn turn' both. (leb-false most_events r.taken free, both))

-- ---- events taken

-- in all so many events taken, with those to come; once one is taken, within the event limit
record Limited (n total : ℕ) (es : List ℕ) (m m' : Run) : Type 0 where
  same : SameButPlaces m m'
  together : m.reading.taken ≡ m'.reading.taken
  taken : m.reading.taken + length es ≡ total
  limit : length es < n → m.reading.taken ≤ most_events

-- the same but for places, and within the event limit with the events to come
record Ready (es : List ℕ) (m m' : Run) : Type 0 where
  same : SameButPlaces m m'
  limit : m'.reading.taken + length es ≤ most_events

same-itself : (m : Run) → SameButPlaces m m
same-itself m = record { state = refl; depth = refl; skip = refl; looks = refl; aboves = same-aboves m.levels }

module _ (R : Rule) (book : List ℕ) (room ceiling : ℕ) where
  -- where a run takes an event, so does one that is the same but for places, within the event limit
  step_same : (m m' : Run) (e : ℕ) → SameButPlaces m m'
      → ((most_events ≤? m.reading.taken) ≡ false → (most_events ≤? m'.reading.taken) ≡ false)
      → Follows (λ n n'. (m.reading.taken < most_events) × Further m.reading.taken m'.reading.taken n n')
      (skip_step R book room ceiling m e) (skip_step R book room ceiling m' e)
  unfolding skip_step
  step_same m m' e same limit =
      giving-each
      (rw (same-reading same, same-innermost same.aboves)
      (event-same R book room ceiling m.reading (innermost m.levels) m'.reading.taken _ m.levels m'.levels
      same.aboves e limit))
      (λ turn turn' both. both_give both)

  limited : (n total e : ℕ) (es : List ℕ) (m m' : Run) → Limited n total (e ∷ es) m m'
      → Follows (Limited n total es) (skip_step R book room ceiling m e) (skip_step R book room ceiling m' e)
  limited n total e es m m' before =
      follows_so (step_same m m' e before.same (λ free. rw before.together at free))
      λ a b after.
      record {
        same = after.1.same;
        together = omega arith;
        taken = omega arith;
        limit = λ more. omega arith;
      }

  -- where all are taken, each counts one, and a run that is not empty ends within the event limit
  pub all-counted : (m : Run) (es : List ℕ) → (skip_from R book room ceiling m es).ended ≡ given tt
      → ((skip_from R book room ceiling m es).last.reading.taken ≡ m.reading.taken + length es)
      × (0 < length es → m.reading.taken + length es ≤ most_events)
  all-counted m es all =
      let step = skip_step R book room ceiling in
      let n = length es in
      let total = m.reading.taken + n in
      let counted =
      feed-each step step (Limited n total) (limited n total) es m m
      (record { same = same-itself m; together = refl; taken = refl; limit = λ more. absurd (omega arith) }) all in
      (omega (arith, counted.1.taken), λ some. omega (arith, counted.1.taken, counted.1.limit some))

  ready : (e : ℕ) (es : List ℕ) (m m' : Run) → Ready (e ∷ es) m m'
      → Follows (Ready es) (skip_step R book room ceiling m e) (skip_step R book room ceiling m' e)
  ready e es m m' before =
      follows_so (step_same m m' e before.same (λ free. lt-leb most_events m'.reading.taken (omega arith)))
      λ a b after. record { same = after.1.same; limit = omega arith }

-- ---- a well-nested run on a settled level

module _ (R : Rule) (book : List ℕ) (room ceiling : ℕ) (r : Reading) (ls : List Level)
    (settles : settled book r (innermost ls) ≡ true) where
  -- on that level with d more trees open, after t events
  abbrev on_level : ℕ → ℕ → Run
  on_level d t =
      record { reading = record { state = r.state; depth = r.depth; skip = r.skip + d; taken = t; looks = r.looks }; levels = ls }

  nested-turn : (t d : ℕ) (v : Event) (rest : ℕ → Bool) → nested_on d v rest ≡ true
      → (d' : ℕ) × (rest d' ≡ true)
      × (settled_turn R book room ceiling (on_level d t).reading (innermost ls) v ≡ given (stays (on_level d' (t + 1)).reading))
  unfolding nested_on settled_turn passed
  nested-turn t d (letter a) rest nested = (d, nested, refl)
  nested-turn t d opens rest nested =
      let deeper : r.skip + d + 1 ≡ r.skip + suc d = omega arith in
      (suc d, nested, rw deeper)
  nested-turn t zero closes rest nested = true-is-not-false nested refl
  nested-turn t (suc d) closes rest nested =
      let back : r.skip + suc d - 1 ≡ r.skip + d = omega arith in
      (d, nested, if-true _ _ (lt-ltb 0 (r.skip + suc d) (omega arith)) ∙ rw back)

  -- one event of a well-nested run, with d of its trees open: on the same level, one event more
  nested-step : (t d e : ℕ) (rest : ℕ → Bool) → t < most_events → e < R.letters + 2 → nested_on d (event_of e) rest ≡ true
      → (d' : ℕ) × (rest d' ≡ true) × (skip_step R book room ceiling (on_level d t) e ≡ given (on_level d' (t + 1)))
  unfolding skip_step skip_event known_event skip_turn settled held run_after
  nested-step t d e rest free known nested =
      let turn = nested-turn t d (event_of e) rest nested in (
        turn.0,
        turn.1,
        giving-passes _
            (refuse-passes 16 t _ (lt-leb most_events t free)
            ∙ refuse-passes 10 t _ (lt-leb (R.letters + 2) e known)
            ∙ if-true _ _ settles
            ∙ turn.2),
      )

  nested-run : (t d : ℕ) (es : List ℕ) → nested_from d es ≡ true → known_events R.letters es ≡ true
      → (0 < length es → t + length es ≤ most_events)
      → skip_from R book room ceiling (on_level d t) es ≡ record { last = on_level 0 (t + length es); ended = given tt }
  unfolding nested_from known_events
  nested-run t d [] nested known limit =
      let none : d ≡ 0 = eqb-true d 0 nested in
      let same : t + 0 ≡ t = omega arith in
      rw (none, same) (feed-none (skip_step R book room ceiling) _)
  nested-run t d (e ∷ es) nested known limit =
      let each = and_parts (e <? R.letters + 2) (known_events R.letters es) known in
      let fits : t + suc (length es) ≤ most_events = limit (omega arith) in
      let next = nested-step t d e (λ d. nested_from d es) (omega arith) (ltb-true e (R.letters + 2) each.0) nested in
      let sum : t + suc (length es) ≡ t + 1 + length es = omega arith in
      feed-taken (skip_step R book room ceiling) es next.2
      ∙ rw sum (nested-run (t + 1) next.0 es next.1 each.1 (λ more. omega arith))

-- a run with so many more events taken
abbrev pub later : ℕ → Run → Run
later n m = record { reading = at_place (m.reading.taken + n) m.reading; levels = m.levels }

-- It changes nothing but the events taken.
pub nested-changes-nothing : (R : Rule) (book : List ℕ) (room ceiling : ℕ) (m : Run) (es : List ℕ)
    → settled book m.reading (innermost m.levels) ≡ true → well_nested R.letters es ≡ true
    → (0 < length es → m.reading.taken + length es ≤ most_events)
    → skip_from R book room ceiling m es ≡ record { last = later (length es) m; ended = given tt }
unfolding well_nested
nested-changes-nothing R book room ceiling m es settles nested limit =
    let each = and_parts (nested_from 0 es) (known_events R.letters es) nested in
    let flat : m.reading.skip + 0 ≡ m.reading.skip = omega arith in
    rw flat at
    (nested-run R book room ceiling m.reading m.levels settles m.reading.taken 0 es each.0 each.1 limit)

-- ---- the exchange

-- the second run of events is taken whole too, and leads to the same but for places
pub record Exchanged (w w' : Went Run) : Type 0 where
  pub takes_all : w'.ended ≡ given tt
  pub same : SameButPlaces w.last w'.last

module _ (R : Rule) (book : List ℕ) (room ceiling : ℕ) where
  -- what comes after the two parts
  exchange-after : (m : Run) (n n' : ℕ) (zs : List ℕ) → m.reading.taken + n' + length zs ≤ most_events
      → (skip_from R book room ceiling (later n m) zs).ended ≡ given tt
      → Exchanged (skip_from R book room ceiling (later n m) zs) (skip_from R book room ceiling (later n' m) zs)
  exchange-after m n n' zs limit all =
      let step = skip_step R book room ceiling in
      let same : SameButPlaces (later n m) (later n' m) =
      record { state = refl; depth = refl; skip = refl; looks = refl; aboves = same-aboves m.levels } in
      let both =
      feed-each step step Ready (ready R book room ceiling) zs (later n m) (later n' m)
      (record { same = same; limit = limit }) all in
      record { takes_all = both.0; same = both.1.same }

  -- from the settled level on
  exchange-on : (m : Run) (ys ys' zs : List ℕ) → settled book m.reading (innermost m.levels) ≡ true
      → well_nested R.letters ys ≡ true → well_nested R.letters ys' ≡ true
      → m.reading.taken + length (ys' ++ zs) ≤ most_events
      → (skip_from R book room ceiling m (ys ++ zs)).ended ≡ given tt
      → Exchanged (skip_from R book room ceiling m (ys ++ zs)) (skip_from R book room ceiling m (ys' ++ zs))
  exchange-on m ys ys' zs settles nested nested' limit all =
      let step = skip_step R book room ceiling in
      let parts = feed-split step m ys zs all in
      let total = length-append ys' zs in
      let fits = (all-counted R book room ceiling m ys parts.0).1 in
      let first = nested-changes-nothing R book room ceiling m ys settles nested fits in
      let second = nested-changes-nothing R book room ceiling m ys' settles nested' (λ some. omega arith) in
      rw (feed-append step m ys zs parts.0, feed-append step m ys' zs (ap (λ w. w.ended) second), first, second)
      (exchange-after m (length ys) (length ys') zs (omega arith) (rw first at parts.1))

  -- from any run on
  pub exchange-from : (m : Run) (xs ys ys' zs : List ℕ) → (skip_from R book room ceiling m xs).ended ≡ given tt
      → (let at : Run = (skip_from R book room ceiling m xs).last in settled book at.reading (innermost at.levels) ≡ true)
      → well_nested R.letters ys ≡ true → well_nested R.letters ys' ≡ true
      → m.reading.taken + length (xs ++ (ys' ++ zs)) ≤ most_events
      → (skip_from R book room ceiling m (xs ++ (ys ++ zs))).ended ≡ given tt
      → Exchanged (skip_from R book room ceiling m (xs ++ (ys ++ zs))) (skip_from R book room ceiling m (xs ++ (ys' ++ zs)))
  exchange-from m xs ys ys' zs taken settles nested nested' limit all =
      let step = skip_step R book room ceiling in
      let counted = (all-counted R book room ceiling m xs taken).0 in
      let total = length-append xs (ys' ++ zs) in
      let first = feed-append step m xs (ys ++ zs) taken in
      rw (first, feed-append step m xs (ys' ++ zs) taken)
      (exchange-on (feed_by step m xs).last ys ys' zs settles nested nested' (omega arith) (rw first at all))

-- ---- whole readings

end_same : (R : Rule) (m m' : Run) {j : Judged} → SameButPlaces m m' → end_of_run R m ≡ given j → end_of_run R m' ≡ given j
unfolding end_of
end_same R m m' same judged =
    let passes = refuse-given 12 _ (0 <? m.reading.depth + m.reading.skip) _ judged in
    refuse-passes 12 _ _ (rw (same.depth, same.skip) at passes.0) ∙ rw (← same.state) passes.1

-- the second events are taken whole too, and end with that verdict in that state, by as many looks as the first
pub record EndsSame (R : Rule) (book : List ℕ) (room ceiling : ℕ) (es es' : List ℕ) (j : Judged) : Type 0 where
  pub takes_all : (skip_run R book room ceiling es').ended ≡ given tt
  pub verdict : end_of_run R (skip_run R book room ceiling es').last ≡ given j
  pub looks : (skip_run R book room ceiling es).last.reading.looks ≡ (skip_run R book room ceiling es').last.reading.looks

-- The exchange: where skipping ends with a verdict after xs, the passed-over part ys and then zs, it does so with any other
-- well-nested run in the place of ys.
pub exchange : (R : Rule) (book : List ℕ) (room ceiling : ℕ) (xs ys ys' zs : List ℕ) {j : Judged}
    → PassedOverPart R book room ceiling xs ys → well_nested R.letters ys' ≡ true → length (xs ++ (ys' ++ zs)) ≤ most_events
    → (skip_run R book room ceiling (xs ++ (ys ++ zs))).ended ≡ given tt
    → end_of_run R (skip_run R book room ceiling (xs ++ (ys ++ zs))).last ≡ given j
    → EndsSame R book room ceiling (xs ++ (ys ++ zs)) (xs ++ (ys' ++ zs)) j
unfolding fresh_reading
exchange R book room ceiling xs ys ys' zs part nested' limit all judged =
    let exchanged =
    exchange-from R book room ceiling (fresh_run R) xs ys ys' zs part.reached part.on_settled part.nested nested'
    (omega arith) all in
    record {
      takes_all = exchanged.takes_all;
      verdict = end_same R _ _ exchanged.same judged;
      looks = exchanged.same.looks;
    }
