-- Passing over on a settled level by counting: feeding from where it was left comes to what feeding from the start comes to. One
-- known event that does not end the level is taken without a look, and only the skip depth and the events taken change, so the
-- level stays settled.
use mathlib.Core.Path.{◌≡◌, refl, ◌∙◌}
use mathlib.Core.Bool.{true}
use mathlib.Core.List.{List, [], ◌∷◌, ◌++◌}
use Prim.Native.Nat.{ℕ, zero, suc, ◌+◌, ◌-◌, ◌≤◌, ◌<◌}
use native.Mathlib.Omega.{arith}
use borrow.Author.Tests.{lt-ltb, lt-leb}
use lib.ListN.{length, take, drop, length-take, length-drop, take-append-drop}
use lib.Seq.{take-take, drop-drop}
use Rattle.std.proofs.lemmas.List.Elements.{All-head, All-tail}
use Rattle.meaning.specs.Answers.{given}
use Rattle.meaning.specs.RuleFile.{Rule}
use Rattle.meaning.specs.FullReading.{most_events, event_of, known_event, stays, feed_by}
use Rattle.meaning.specs.Skipping.{held, settled, passed, settled_turn, skip_turn, skip_event}
use Rattle.meaning.specs.Calls.{top_of, stored_after, store_step}
use Rattle.meaning.specs.declared.Level.{Level}
use Rattle.meaning.specs.declared.Reading.{Reading}
use Rattle.meaning.proofs.laws.FeedLaws.{feed-taken}
use Rattle.meaning.proofs.laws.Answered.{if-true, refuse-passes, giving-passes}
use Rattle.turning.specs.Turns.{over}
use Rattle.turning.specs.PassingOver.{openings, closings, AllPassed, PassedIn, passed_on, PassesOver}
use Rattle.turning.specs.declared.passing.Passed.{Passed}
use Rattle.turning.proofs.Counting.{opens_one, opens-none, closes-one, closes-none, passing-nil, passing-cons, passing-few}

-- ---- one event

module _ (R : Rule) (book : List ℕ) (room ceiling : ℕ) (r : Reading) (top : Level) where
  -- on a settled level the skip depth counts the trees opened and closed
  passed-turn : (e : ℕ) → closings e ≤ r.skip
      → settled_turn R book room ceiling r top (event_of e)
      ≡ given (stays (passed r r.state r.depth (r.skip + openings e - closings e)))
  unfolding settled_turn event_of
  passed-turn zero h =
      let n : r.skip + openings 0 - closings 0 ≡ r.skip + 1 = omega (arith, opens_one 0 refl, closes-none 0 (omega arith)) in
      rw n
  passed-turn (suc zero) h =
      let one = closes-one 1 refl in
      let n : r.skip + openings 1 - closings 1 ≡ r.skip - 1 = omega (arith, opens-none 1 (omega arith)) in
      rw n (if-true _ _ (lt-ltb 0 r.skip (omega arith)))
  passed-turn (suc (suc a)) h =
      let e : ℕ = suc (suc a) in
      let n : r.skip + openings e - closings e ≡ r.skip = omega (arith, opens-none e (omega arith), closes-none e (omega arith)) in
      rw n

  pass-event : (e : ℕ) → settled book r top ≡ true → r.taken < most_events → e < R.letters + 2 → closings e ≤ r.skip
      → skip_event R book room ceiling r top e ≡ given (stays (passed r r.state r.depth (r.skip + openings e - closings e)))
  unfolding skip_event known_event skip_turn
  pass-event e is more known h =
      refuse-passes 16 r.taken _ (lt-leb most_events r.taken more)
      ∙ (refuse-passes 10 r.taken _ (lt-leb (R.letters + 2) e known)
      ∙ (if-true _ _ is ∙ passed-turn e h))

pass_step : (R : Rule) (book : List ℕ) (ceiling : ℕ) (r : Reading) (store : List Level) (e : ℕ)
    → settled book r (top_of r store) ≡ true → r.taken < most_events → e < R.letters + 2 → closings e ≤ r.skip
    → store_step R book ceiling (over r store) e ≡ given (over (passed r r.state r.depth (r.skip + openings e - closings e)) store)
unfolding store_step stored_after
pass_step R book ceiling r store e is more known h =
    giving-passes _ (pass-event R book (length store) ceiling r (top_of r store) e is more known h)

-- ---- a run of events

-- one event more
passed-more : (r : Reading) (skip skip' count : ℕ) → passed_on (passed r r.state r.depth skip) skip' count ≡ passed_on r skip' (suc count)
unfolding passed passed_on
passed-more r skip skip' count = let n : r.taken + 1 + count ≡ r.taken + suc count = omega arith in rw n

-- no event
on_none : (r : Reading) → passed_on r r.skip 0 ≡ r
unfolding passed_on
on_none r = let n : r.taken + 0 ≡ r.taken = omega arith in rw n

-- the level stays settled
pub on-settled : (book : List ℕ) (r : Reading) (store : List Level) (skip count : ℕ) → settled book r (top_of r store) ≡ true
    → settled book (passed_on r skip count) (top_of (passed_on r skip count) store) ≡ true
unfolding settled held top_of passed_on
on-settled book r store skip count is = is

module _ (R : Rule) (book : List ℕ) (ceiling : ℕ) (store : List Level) where
  feeds-past : (r : Reading) (skip' : ℕ) (run rest : List ℕ) → settled book r (top_of r store) ≡ true → r.taken + length run ≤ most_events
      → AllPassed (R.letters + 2) r.skip run skip'
      → feed_by (store_step R book ceiling) (over r store) (run ++ rest)
      ≡ feed_by (store_step R book ceiling) (over (passed_on r skip' (length run)) store) rest
  unfolding passed passed_on
  feeds-past r skip' [] rest is limit h = rw (← passing-nil h.passing, on_none r)
  feeds-past r skip' (e ∷ es) rest is limit h =
      let known : e < R.letters + 2 = All-head (λ e. e < R.letters + 2) e es h.all_known in
      let one = passing-cons h.passing in
      let skip : ℕ = r.skip + openings e - closings e in
      let next : Reading = passed r r.state r.depth skip in
      feed-taken _ (es ++ rest) (pass_step R book ceiling r store e is (omega arith) known one.0)
      ∙ feeds-past next skip' es rest (on-settled book r store skip 1 is) (omega arith)
      (record { all_known = All-tail (λ e. e < R.letters + 2) e es h.all_known; passing = one.1 })
      ∙ rw (passed-more r skip skip' (length es))

-- the first events of what is left, passed over by counting, within what the reading can still take
pub passes_over : (k : ℕ) (book : List ℕ) (r : Reading) (top : Level) (events : List ℕ) (from count : ℕ) (q : Passed)
    → r.depth + r.skip ≤ r.taken → from ≤ length events → r.taken + length (take count (drop from events)) ≤ most_events
    → PassedIn (k + 2) r.skip (take count (drop from events)) q → settled book r top ≡ true
    → PassesOver k book r top events from (record { reading = passed_on r q.skip q.count; next = from + q.count })
unfolding passed_on
passes_over k book r top events from count q nested before limit h is =
    let rest : List ℕ = drop from events in
    let run : List ℕ = take q.count rest in
    let m = length-take count rest in
    let same = take-take q.count count rest (omega (arith, h.within)) in
    let all : AllPassed (k + 2) r.skip run q.skip = rw same at h.passed in
    let long : length run ≡ q.count = omega (arith, length-take q.count rest, length-drop from events, h.within) in
    let gone : from + q.count - from ≡ q.count = omega arith in
    record {
      further = omega arith;
      within = omega (arith, length-drop from events, h.within);
      same = rw gone;
      nested = omega (arith, passing-few all.passing);
      stays_settled = λ skips deep. is;
      feeds = λ R ceiling store letters is_top.
          let past = feeds-past R book ceiling store r q.skip run (drop q.count rest) (rw is_top is) (omega (arith, h.within)) (rw letters all) in
          let split : run ++ drop q.count rest ≡ rest = take-append-drop q.count rest in
          let left : drop q.count rest ≡ drop (from + q.count) events = drop-drop q.count from events in
          (rw (split, long, left) at past);
    }

-- nothing was passed over
pub passes_none : (k : ℕ) (book : List ℕ) (r : Reading) (top : Level) (events : List ℕ) (i : ℕ) → i ≤ length events
    → r.depth + r.skip ≤ r.taken → PassesOver k book r top events i (record { reading = r; next = i })
passes_none k book r top events i within nested =
    let n : i - i ≡ 0 = omega arith in
    record {
      further = omega arith;
      within = within;
      same = rw (n, on_none r);
      nested = omega arith;
      stays_settled = λ skips deep. skips deep;
      feeds = λ R ceiling store letters is_top. refl;
    }
