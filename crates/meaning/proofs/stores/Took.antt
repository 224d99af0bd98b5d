-- Feeding answers how many events it took: as many as the events taken have grown by. These are the first ones: feeding them alone
-- leads to the same place, and the event after them, if there is one, is the one that was refused, at its place. Each taken event
-- counts one and a refused one none, which is a law of any step that counts; the rest is read off the calls.
use Rattle.std.proofs.Common.{if◌then◌else◌}
use mathlib.Core.Path.{◌≡◌, refl, sym, ap, ◌∙◌}
use mathlib.Core.Bool.{Bool, true, false}
use mathlib.Core.List.{List, [], ◌∷◌}
use Prim.Native.Nat.{ℕ, suc, ◌+◌, ◌-◌, ◌≤◌, ◌<◌}
use native.Mathlib.Omega.{arith}
use lib.ListN.{length, get_or, take}
use Rattle.meaning.specs.declared.Reading.{Reading}
use Rattle.meaning.specs.declared.Level.{Level}
use Rattle.meaning.specs.Answers.{Answer, given, refused, refuse◌at◌when◌otherwise◌, ◌giving◌, ◌<?◌}
use Rattle.meaning.specs.RuleFile.{Rule, Move, no_move, to}
use Rattle.meaning.specs.FullReading.{Event, opens, closes, letter, event_of, looked, Table, look, Turn, stays, ends, full_turn, known_event, Went, go_on, feed_by}
use Rattle.meaning.specs.Skipping.{held, passed, ends_level, settled_turn, skip_turn, skip_event}
use Rattle.meaning.specs.Calls.{events_taken, TookFirst, Stored, stored_after, store_step, reading_check, feed_call}
use Rattle.meaning.proofs.laws.FeedLaws.{feed-taken}
use Rattle.meaning.proofs.stores.ReadingCheck.{feed-checked, feed-unchecked}
use Rattle.meaning.proofs.stores.StoreView.{step-turned}
use Rattle.meaning.proofs.stores.Turns.{Turned, passes, ends_held, takes_letter, stores_open, ends_looked}

-- ---- any step that counts

module _ {A : Type 0} (step : A → ℕ → Answer A) (count : A → ℕ) where
  -- of these events, fed from a, the first n are those that were taken
  record FirstTaken (a : A) (es : List ℕ) (w : Went A) (n : ℕ) : Type 0 where
    within : n ≤ length es
    counted : count w.last ≡ count a + n
    alone : feed_by step a (take n es) ≡ record { last = w.last; ended = given tt }
    all_taken : w.ended ≡ given tt → n ≡ length es
    stopped : {number place : ℕ} → w.ended ≡ refused number place
        → (n < length es) × (step w.last (get_or es n 0) ≡ refused number place)

  none_left : (a : A) → FirstTaken a [] (record { last = a; ended = given tt }) 0
  unfolding feed_by
  none_left a =
      record {
        within = omega arith;
        counted = omega arith;
        alone = refl;
        all_taken = λ all. refl;
        stopped = λ is. let z : ◌≡◌ {A = ℕ} 0 1 = cc in absurd (omega arith);
      }

  stops-here : {a : A} {e number place : ℕ} (es : List ℕ) → step a e ≡ refused number place
      → FirstTaken a (e ∷ es) (record { last = a; ended = refused number place }) 0
  unfolding feed_by
  stops-here {a} {e} es stop =
      record {
        within = omega arith;
        counted = omega arith;
        alone = refl;
        all_taken = λ all. let z : ◌≡◌ {A = ℕ} 0 1 = cc in absurd (omega arith);
        stopped = λ {number} {place} is. let at-it : step a e ≡ refused number place = cc in (omega arith, at-it);
      }

  module _ (grows : (a b : A) (e : ℕ) → step a e ≡ given b → count b ≡ count a + 1) where
    one_more : {a b : A} {e n : ℕ} {es : List ℕ} {w : Went A} → step a e ≡ given b → FirstTaken b es w n
        → FirstTaken a (e ∷ es) w (suc n)
    one_more {a} {b} {e} {n} {es} took t =
        record {
          within = omega (arith, t.within);
          counted = omega (arith, t.counted, grows a b e took);
          alone = feed-taken step (take n es) took ∙ t.alone;
          all_taken = λ all. ap suc (t.all_taken all);
          stopped = λ is. let s = t.stopped is in (omega (arith, s.0), s.1);
        }

    take-first : (a : A) (e : ℕ) (es : List ℕ) (rest : A → Went A) (x : Answer A) → step a e ≡ x
        → ((b : A) → (n : ℕ) × FirstTaken b es (rest b) n) → (n : ℕ) × FirstTaken a (e ∷ es) (go_on a x rest) n
    unfolding go_on
    take-first a e es rest (given b) took next = let t = next b in (suc t.0, one_more took t.1)
    take-first a e es rest (refused number place) stop next = (0, stops-here es stop)

    first_taken : (a : A) (es : List ℕ) → (n : ℕ) × FirstTaken a es (feed_by step a es) n
    unfolding feed_by
    first_taken a [] = (0, none_left a)
    first_taken a (e ∷ es) = take-first a e es (λ b. feed_by step b es) (step a e) refl (λ b. first_taken b es)

-- ---- an event that is taken is one more

turn-taken : {R : Rule} {book : List ℕ} {room : ℕ} {r : Reading} {top : Level} {event : Event} {turn : Turn} (store : List Level)
    → Turned R book room r top event turn → (stored_after r store turn).reading.taken ≡ r.taken + 1
unfolding stored_after looked passed
turn-taken store (passes event skip is h) = refl
turn-taken store (ends_held is z) = refl
turn-taken store (takes_letter a q is_not known m) = refl
turn-taken store (stores_open q is_not fits m) = refl
turn-taken store (ends_looked q is_not z deep m) = refl

pub step-taken : (R : Rule) (book : List ℕ) (ceiling : ℕ) (s t : Stored) (e : ℕ) → store_step R book ceiling s e ≡ given t
    → t.reading.taken ≡ s.reading.taken + 1
step-taken R book ceiling s t e h =
    let g = step-turned R book ceiling s t e h in
    sym (ap (λ t. t.reading.taken) g.2) ∙ turn-taken s.store g.1

-- ---- an event that is refused is refused at its place

-- either it was given, or it was refused at that place
data NotElsewhere {A : Type 0} (place : ℕ) : Answer A → Type 0 where
  was_given : {a : A} → NotElsewhere place (given a)
  refused_there : {number : ℕ} → NotElsewhere place (refused number place)

module _ {A : Type 0} {place : ℕ} where
  its-place : {x : Answer A} {number place' : ℕ} → NotElsewhere place x → x ≡ refused number place' → place' ≡ place
  its-place was_given is = let z : ◌≡◌ {A = ℕ} 0 1 = cc in absurd (omega arith)
  its-place refused_there is = cc

  refuse-here : (number : ℕ) (b : Bool) {rest : Answer A} → NotElsewhere place rest
      → NotElsewhere place (refuse number at place when b otherwise rest)
  unfolding refuse◌at◌when◌otherwise◌
  refuse-here number true n = refused_there
  refuse-here number false n = n

  if_here : (b : Bool) {x y : Answer A} → NotElsewhere place x → NotElsewhere place y → NotElsewhere place (if b then x else y)
  if_here true n m = n
  if_here false n m = m

  giving-here : {B : Type 0} {x : Answer A} (f : A → B) → NotElsewhere place x → NotElsewhere place (x giving λ a. given (f a))
  unfolding ◌giving◌
  giving-here f was_given = was_given
  giving-here f refused_there = refused_there

look-here : (table : Table) (place : ℕ) (move : Move) (next : ℕ → Turn) → NotElsewhere place (look table place move next)
unfolding look
look-here table place no_move next = refused_there
look-here table place (to q) next = was_given

module _ (R : Rule) (book : List ℕ) (room ceiling : ℕ) (r : Reading) (top : Level) where
  full-here : (event : Event) → NotElsewhere r.taken (full_turn R room ceiling r top event)
  unfolding full_turn
  full-here (letter a) = refuse-here 9 _ (look-here _ _ _ _)
  full-here opens = refuse-here 8 _ (refuse-here 9 _ (look-here _ _ _ _))
  full-here closes = refuse-here 7 _ (refuse-here 9 _ (look-here _ _ _ _))

  settled_here : (event : Event) → NotElsewhere r.taken (settled_turn R book room ceiling r top event)
  unfolding settled_turn ends_level
  settled_here (letter a) = was_given
  settled_here opens = was_given
  settled_here closes =
      if_here (0 <? r.skip) (was_given {a = stays (passed r r.state r.depth (r.skip - 1))})
      (if_here (held book r top) (was_given {a = ends (passed r top.above (r.depth - 1) r.skip)}) (full-here closes))

  event-here : (e : ℕ) → NotElsewhere r.taken (skip_event R book room ceiling r top e)
  unfolding skip_event known_event skip_turn
  event-here e = refuse-here 16 _ (refuse-here 10 _ (if_here _ (settled_here (event_of e)) (full-here (event_of e))))

pub step-refused : (R : Rule) (book : List ℕ) (ceiling : ℕ) (s : Stored) (e : ℕ) {number place : ℕ}
    → store_step R book ceiling s e ≡ refused number place → place ≡ s.reading.taken
unfolding store_step
step-refused R book ceiling s e is = its-place (giving-here _ (event-here R book _ ceiling s.reading _ e)) is

-- ---- the calls

module _ (file book : List ℕ) (ceiling : ℕ) (r : Reading) (store : List Level) (events : List ℕ) where
  took-checked : {R : Rule} → reading_check file book r store ≡ given R
      → (n : ℕ) × TookFirst file book ceiling r store events (feed_call file book ceiling r store events) n
  took-checked {R} e =
      let s : Stored = record { reading = r; store = store } in
      let t = first_taken (store_step R book ceiling) (λ s. s.reading.taken) (step-taken R book ceiling) s events in
      let first = t.1 in
      let these = feed-checked file book r store ceiling (take t.0 events) e ∙ first.alone in (
        t.0,
        rw (feed-checked file book r store ceiling events e)
            (record {
              within = first.within;
              counted = first.counted;
              same_last = ap (λ w. w.last) these;
              all_taken = first.all_taken;
              these_taken = λ check. ap (λ w. w.ended) these;
              stopped = λ {R = S} check is.
                  let same : R ≡ S = cc in
                  let stop = first.stopped is in
                  record {
                    more = stop.0;
                    at_place = step-refused R book ceiling _ _ stop.1 ∙ first.counted;
                    refuses = rw (← same) stop.1;
                  };
              none_taken = λ check. let z : ◌≡◌ {A = ℕ} 0 1 = cc in absurd (omega arith);
              unchanged = λ check. let z : ◌≡◌ {A = ℕ} 0 1 = cc in absurd (omega arith);
            }),
      )

  took-unchecked : {number place : ℕ} → reading_check file book r store ≡ refused number place
      → (n : ℕ) × TookFirst file book ceiling r store events (feed_call file book ceiling r store events) n
  took-unchecked e = (
    0,
    rw (feed-unchecked file book r store ceiling events e)
        (record {
          within = omega arith;
          counted = omega arith;
          same_last = ap (λ w. w.last) (feed-unchecked file book r store ceiling [] e);
          all_taken = λ all. let z : ◌≡◌ {A = ℕ} 0 1 = cc in absurd (omega arith);
          these_taken = λ check. let z : ◌≡◌ {A = ℕ} 0 1 = cc in absurd (omega arith);
          stopped = λ check is. let z : ◌≡◌ {A = ℕ} 0 1 = cc in absurd (omega arith);
          none_taken = λ check. refl;
          unchanged = λ check. refl;
        }),
  )

  took-some : (x : Answer Rule) → reading_check file book r store ≡ x
      → (n : ℕ) × TookFirst file book ceiling r store events (feed_call file book ceiling r store events) n
  took-some (given R) e = took-checked e
  took-some (refused number place) e = took-unchecked e

  -- Feeding took the first events, as many as the events taken have grown by, on every input.
  pub feeding-took : TookFirst file book ceiling r store events (feed_call file book ceiling r store events)
      (events_taken r (feed_call file book ceiling r store events))
  feeding-took =
      let t = took-some (reading_check file book r store) refl in
      let w : Went Stored = feed_call file book ceiling r store events in
      let same : w.last.reading.taken - r.taken ≡ t.0 = omega (arith, t.1.counted) in
      rw same t.1
