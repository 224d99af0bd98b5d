-- Demand 3 of document 01: where full reading ends with a verdict, skipping with the rule's own book ends with the same
-- verdict in the same state, and its looks are the events not passed over. One statement relates the two readings, and every
-- event that full reading takes keeps it: on a settled level skipping stands still while full reading moves within Reach.
use Rattle.std.proofs.Common.{if◌then◌else◌}
use mathlib.Core.Path.{◌≡◌, refl, ◌∙◌}
use mathlib.Core.Bool.{Bool, true, false, not, ◌&&◌, ◌||◌}
use mathlib.Core.Logic.{⊎_elim}
use mathlib.Core.List.{List, [], ◌∷◌, ◌++◌}
use Prim.Native.Nat.{ℕ, ◌+◌, ◌-◌, ◌<◌, ◌≤◌}
use native.Mathlib.Omega.{arith}
use lib.ListN.{length}
use borrow.Author.Tests.{lt-ltb, le-ltb, ltb-true, ltb-false, leb-false, lt-leb}
use Rattle.std.proofs.lemmas.Bool.{and_from, and_right, cases_Bool, or_left, or_right}
use Rattle.meaning.specs.declared.Reading.{Reading}
use Rattle.meaning.specs.declared.Level.{Level}
use Rattle.meaning.specs.Answers.{Answer, given, refused, ◌≤?◌, ◌<?◌}
use Rattle.meaning.specs.RuleFile.{Rule, IsRule, to, letter_move, tree_move, tree_start_move}
use Rattle.meaning.specs.FullReading.{Event, opens, closes, letter, event_of, letter_table, start_table, tree_table, fresh_run, full_run}
use Rattle.meaning.specs.FullReading.{Turn, ends, looked, new_level, full_turn, known_event, full_event, full_step}
use Rattle.meaning.specs.FullReading.{Run, innermost, outer, run_after, fresh_reading}
use Rattle.meaning.specs.SkipBook.{CanEndTree, Reach, in_still, IsBook}
use Rattle.meaning.specs.Skipping.{held, settled, passed, ends_level, settled_turn, skip_turn, skip_event, skip_step, skip_run}
use Rattle.meaning.specs.PassedOver.{level_held, level_settled, outside_settled, closes_still, passed_over}
use Rattle.meaning.specs.PassedOver.{then_count, not_passed_over}
use Rattle.meaning.specs.Calls.{Judged, end_of, end_of_run}
use Rattle.meaning.proofs.laws.Answered.{if-true, if-false, refuse-given, refuse-passes}
use Rattle.meaning.proofs.laws.Truths.{true-is-not-false, or-true-first, or-true}
use Rattle.meaning.proofs.laws.Events.{known-letter}
use Rattle.meaning.proofs.skipbook.Reaching.{letter-below, tree-below, start-below, initial-below}
use Rattle.meaning.proofs.skipbook.Reaching.{letter-ends-tree, tree-ends-tree, start-ends-tree}
use Rattle.meaning.proofs.skipbook.Reaching.{reach-itself, reach-letter, reach-tree, still-stays, hold-stays, hold-returns}
use Rattle.meaning.proofs.laws.Following.{Follows, both_give, refuse-each, refuse-first, if-second, look-first, look-each}
use Rattle.meaning.proofs.laws.Following.{giving-each, follows_so, where-first-gives, feed-each}

-- ---- what relates the two readings

-- Where full reading can be, with state x and the levels τ inside, while skipping stands on a level with state q: on that
-- level, in Reach(q); or inside it, in states that can end a tree.
pub data Ahead (R : Rule) (q : ℕ) : ℕ → List Level → Type 0 where
  here : {x : ℕ} → Reach R q x → Ahead R q x []
  inside : {x : ℕ} {l : Level} {τ : List Level} → CanEndTree R x → Ahead R q l.above τ → Ahead R q x (l ∷ τ)

-- the levels outside the one where skipping stands: none is settled
pub data Outside (R : Rule) (book : List ℕ) : List Level → Type 0 where
  at_top : Outside R book []
  within : {l : Level} {σ : List Level} → l.above < R.states → level_settled book l.above σ ≡ false
      → Outside R book σ → Outside R book (l ∷ σ)

-- the numbers of the two readings: skipping stores the levels σ and only counts the levels τ
pub record Counts (r : Reading) (τ : List Level) (r' : Reading) (σ : List Level) : Type 0 where
  pub skip : r'.skip ≡ length τ
  pub stored : r'.depth ≡ length σ
  pub depth : r.depth ≡ r'.depth + r'.skip
  pub taken : r.taken ≡ r'.taken
  pub looks : r'.looks ≤ r.looks

-- Full reading r with the levels τ ++ σ, and skipping r' with the levels σ: full reading is where the level of skipping can
-- come to; if that level is not settled, the two stand together; and no level outside is settled.
pub record Alongside (R : Rule) (book : List ℕ) (r : Reading) (τ : List Level) (r' : Reading) (σ : List Level) : Type 0 where
  pub counts : Counts r τ r' σ
  pub state : r'.state < R.states
  pub ahead : Ahead R r'.state r.state τ
  pub together : level_settled book r'.state σ ≡ false → (τ ≡ []) × (r.state ≡ r'.state)
  pub outside : Outside R book σ

pub data Simulates (R : Rule) (book : List ℕ) : Run → Run → Type 0 where
  simulates : {r r' : Reading} {τ σ : List Level} → Alongside R book r τ r' σ
      → Simulates R book (record { reading = r; levels = τ ++ σ }) (record { reading = r'; levels = σ })

-- ---- full reading ahead

here-reach : {R : Rule} {q x : ℕ} → Ahead R q x [] → Reach R q x
here-reach (here reach) = reach

module _ {R : Rule} (rule : IsRule R) {q : ℕ} where
  ahead-letter : {x : ℕ} {τ : List Level} (a : ℕ) {y : ℕ} → Ahead R q x τ → a < R.letters → letter_move R x a ≡ to y
      → Ahead R q y τ
  ahead-letter a (here reach) known leads = here (reach-letter a reach known leads)
  ahead-letter a (inside can rest) known leads = inside (letter-ends-tree a can known leads) rest

  ahead-open : (l : Level) {τ : List Level} {y : ℕ} → Ahead R q l.above τ → tree_start_move R ≡ to y → Ahead R q y (l ∷ τ)
  ahead-open l rest leads = inside (start-ends-tree leads) rest

  back-out : {u : ℕ} {τ : List Level} (x : ℕ) {y : ℕ} → Ahead R q u τ → CanEndTree R x → tree_move R u x ≡ to y
      → Ahead R q y τ
  back-out x (here reach) can leads = here (reach-tree x reach can leads)
  back-out x (inside can' rest) can leads = inside (tree-ends-tree x can' can leads) rest

  ahead-close : {x : ℕ} {l : Level} {τ : List Level} {y : ℕ} → Ahead R q x (l ∷ τ) → tree_move R l.above x ≡ to y
      → Ahead R q y τ
  ahead-close (inside {x} can rest) leads = back-out x rest can leads

-- ---- settled levels

-- Skipping asks its depth and the innermost record, and what is passed over is said of the levels: the same.
pub held-is : (book : List ℕ) (r : Reading) (σ : List Level) → r.depth ≡ length σ
    → held book r (innermost σ) ≡ level_held book r.state σ
unfolding held level_held innermost
held-is book r [] depth = rw (le-ltb 0 r.depth (omega arith))
held-is book r (l ∷ σ) depth = rw (lt-ltb 0 r.depth (omega arith))

pub settled_is_lem : (book : List ℕ) (r : Reading) (σ : List Level) → r.depth ≡ length σ
    → settled book r (innermost σ) ≡ level_settled book r.state σ
unfolding settled level_settled
settled_is_lem book r σ depth = rw (held-is book r σ depth)

module _ {R : Rule} {book : List ℕ} where
  pub outside-unsettled : {σ : List Level} → Outside R book σ → outside_settled book σ ≡ false
  unfolding outside_settled
  outside-unsettled at_top = refl
  outside-unsettled (within low unsettled rest) = rw (unsettled, outside-unsettled rest)

  outside_above : {l : Level} {σ : List Level} → Outside R book (l ∷ σ) → l.above < R.states
  outside_above (within low unsettled rest) = low

  outside-outer : {σ : List Level} → Outside R book σ → Outside R book (outer σ)
  unfolding outer
  outside-outer at_top = at_top
  outside-outer (within low unsettled rest) = rest

module _ {R : Rule} {book : List ℕ} (rule : IsRule R) (own : IsBook R book) {q : ℕ} (low : q < R.states) where
  -- what a held level can come to is held
  held_stays : {x : ℕ} {σ : List Level} → Outside R book σ → level_held book q σ ≡ true → Reach R q x
      → level_held book x σ ≡ true
  unfolding level_held
  held_stays at_top holds reach = true-is-not-false holds refl
  held_stays (within {l} upper unsettled rest) holds reach = hold-stays rule own l.above upper low holds reach

  module _ {σ : List Level} (outside : Outside R book σ) (settles : level_settled book q σ ≡ true) where
    -- what a settled level can come to is settled
    settled-stays : {x : ℕ} → Reach R q x → level_settled book x σ ≡ true
    unfolding level_settled
    settled-stays {x} reach =
        ⊎_elim
        (λ still. or_left (in_still book x) _ (rw (still-stays rule own low still reach) still))
        (λ moves. or_right (in_still book x) _
        (held_stays outside (or-true (in_still book q) _ settles moves) reach)) (cases_Bool (in_still book q))

    -- ahead of a settled level, full reading stands on a settled level or inside of one
    ahead-settled : {x : ℕ} {τ : List Level} → Ahead R q x τ
        → (level_settled book x (τ ++ σ) || outside_settled book (τ ++ σ)) ≡ true
    unfolding outside_settled
    ahead-settled (here reach) = or_left _ _ (settled-stays reach)
    ahead-settled (inside {x} {l} {τ} can rest) = or_right (level_settled book x (l ∷ τ ++ σ)) _ (ahead-settled rest)

    inside-settled : {x : ℕ} {l : Level} {τ : List Level} → Ahead R q x (l ∷ τ) → outside_settled book (l ∷ τ ++ σ) ≡ true
    unfolding outside_settled
    inside-settled (inside can rest) = ahead-settled rest

-- ---- after an event

-- the two still stand alongside, and skipping has made so many looks
pub record Kept (R : Rule) (book : List ℕ) (looks : ℕ) (m s : Run) : Type 0 where
  pub related : Simulates R book m s
  pub counted : s.reading.looks ≡ looks

-- whether an event is passed over, by the state and the levels of full reading
abbrev over : List ℕ → ℕ → List Level → Event → Bool
over book x ls v = (level_settled book x ls || outside_settled book ls) && not (closes_still book x ls v)

-- what an event leads to, in full reading and in skipping
abbrev After : Rule → List ℕ → Reading → List Level → Reading → List Level → Event → Turn → Turn → Type 0
After R book r τ r' σ v turn turn' =
    Kept R book (r'.looks + (if over book r.state (τ ++ σ) v then 0 else 1)) (run_after (τ ++ σ) turn) (run_after σ turn')

one-look : (n : ℕ) {b : Bool} → b ≡ false → n + 1 ≡ n + (if b then 0 else 1)
one-look n e = rw (if-false {A = ℕ} 0 1 e)

no-look : (n : ℕ) {b : Bool} → b ≡ true → n ≡ n + (if b then 0 else 1)
no-look n e = rw (if-true {A = ℕ} 0 1 e) (omega arith)

module _ {R : Rule} {book : List ℕ} {n : ℕ} (r r' : Reading) where
  -- the two stand together, in one state
  meet : (σ : List Level) → Counts r [] r' σ → r'.state < R.states → Outside R book σ → r.state ≡ r'.state → r'.looks ≡ n
      → Kept R book n (record { reading = r; levels = σ }) (record { reading = r'; levels = σ })
  meet σ counts low outside same looks =
      let along : Alongside R book r [] r' σ =
      record {
        counts = counts;
        state = low;
        ahead = here {x = r.state} (rw same reach-itself);
        together = λ unsettled. (refl, same);
        outside = outside;
      } in
      record { related = simulates along; counted = looks }

  -- skipping stands on a settled level, and full reading is ahead
  stand : (τ σ : List Level) → Counts r τ r' σ → r'.state < R.states → Outside R book σ → Ahead R r'.state r.state τ
      → level_settled book r'.state σ ≡ true → r'.looks ≡ n
      → Kept R book n (record { reading = r; levels = τ ++ σ }) (record { reading = r'; levels = σ })
  stand τ σ counts low outside ahead settles looks =
      let along : Alongside R book r τ r' σ =
      record {
        counts = counts;
        state = low;
        ahead = ahead;
        together = λ unsettled. true-is-not-false settles unsettled;
        outside = outside;
      } in
      record { related = simulates along; counted = looks }

-- ---- one event

-- who has used less is not refused sooner
not-sooner : (most m n : ℕ) → n ≤ m → (most ≤? m) ≡ false → (most ≤? n) ≡ false
not-sooner most m n less free = lt-leb most n (omega (arith, leb-false most m free))

-- one state and one place make one record
new-level-same : (r r' : Reading) → r.state ≡ r'.state → r.taken ≡ r'.taken → new_level r ≡ new_level r'
unfolding new_level
new-level-same r r' state taken = λ i. record { above = state i; opened = taken i }

length-outer : (σ : List Level) → length (outer σ) ≡ length σ - 1
unfolding outer
length-outer [] = refl
length-outer (l ∷ σ) = omega arith

-- The two on one level: skipping counts no level inside.
module _ {R : Rule} {book : List ℕ} (rule : IsRule R) (own : IsBook R book) (room ceiling : ℕ)
    {r r' : Reading} {σ : List Level} (along : Alongside R book r [] r' σ) where
  below-ceiling : (ceiling ≤? r.looks) ≡ false → (ceiling ≤? r'.looks) ≡ false
  below-ceiling = not-sooner ceiling r.looks r'.looks along.counts.looks

  -- both look, from one state to one state
  both-look : r.state ≡ r'.state → (v : Event) → over book r.state σ v ≡ false
      → (v ≡ opens → level_settled book r'.state σ ≡ false)
      → Follows (After R book r [] r' σ v) (full_turn R room ceiling r (innermost σ) v)
      (full_turn R room ceiling r' (innermost σ) v)
  unfolding full_turn looked run_after new_level
  both-look same (letter a) needed unsettled =
      refuse-each 9 _ _ _ _ below-ceiling
      λ free. look-each letter_table _ _ _ _ (cc)
      λ q leads. both_give
      (meet (looked r q r.depth) (looked r' q r'.depth) σ (omega arith) (letter-below rule r.state a leads)
      along.outside refl (one-look r'.looks needed))
  both-look same opens needed unsettled =
      refuse-each 8 _ _ _ _ (not-sooner room r.depth r'.depth (omega arith))
      λ fits. refuse-each 9 _ _ _ _ below-ceiling
      λ free. look-each start_table _ _ _ _ refl
      λ q leads. both_give
      (rw (new-level-same r r' same along.counts.taken)
      (meet (looked r q (r.depth + 1)) (looked r' q (r'.depth + 1)) (new_level r' ∷ σ) (omega arith) (start-below rule leads)
      (within along.state (unsettled refl) along.outside) refl (one-look r'.looks needed)))
  both-look same closes needed unsettled =
      let level : r.depth ≡ r'.depth = omega arith in
      refuse-each 7 _ _ _ _ (λ deep. rw level at deep)
      λ deep. refuse-each 9 _ _ _ _ below-ceiling
      λ free. look-each tree_table _ _ _ _ (cc)
      λ q leads. both_give
      (meet (looked r q (r.depth - 1)) (looked r' q (r'.depth - 1)) (outer σ) (omega (arith, length-outer σ))
      (tree-below rule _ r.state leads) (outside-outer along.outside) refl (one-look r'.looks needed))

  -- A close that ends a level settled by still alone: nothing leads away from its state, so both look up the same move.
  ends-still : level_settled book r'.state σ ≡ true → level_held book r'.state σ ≡ false
      → Follows (After R book r [] r' σ closes) (full_turn R room ceiling r (innermost σ) closes)
      (full_turn R room ceiling r' (innermost σ) closes)
  unfolding level_settled closes_still
  ends-still settles free =
      let still : in_still book r'.state ≡ true = or-true-first _ (level_held book r'.state σ) settles free in
      let same : r.state ≡ r'.state = still-stays rule own along.state still (here-reach along.ahead) in
      both-look same closes (rw (same, free, outside-unsettled along.outside, still))
      (λ is. let z : ◌≡◌ {A = ℕ} 0 1 = cc in absurd (omega arith))

-- ahead of a settled level an event is passed over, but for the exception
passes : {R : Rule} {book : List ℕ} {r r' : Reading} {τ σ : List Level} (v : Event) → IsRule R → IsBook R book
    → Alongside R book r τ r' σ → level_settled book r'.state σ ≡ true → closes_still book r.state (τ ++ σ) v ≡ false
    → over book r.state (τ ++ σ) v ≡ true
passes v rule own along settles exempt =
    and_from _ _ (ahead-settled rule own along.state along.outside settles along.ahead) (rw exempt)

module _ {R : Rule} {book : List ℕ} (rule : IsRule R) (own : IsBook R book) (room ceiling : ℕ) {r r' : Reading} where
  -- A close that ends a held level: full reading's tree move leads back to the state above.
  ends_held_lem : (σ : List Level) → Alongside R book r [] r' σ → level_settled book r'.state σ ≡ true
      → level_held book r'.state σ ≡ true
      → Follows (After R book r [] r' σ closes) (full_turn R room ceiling r (innermost σ) closes)
      (given (ends (passed r' (innermost σ).above (r'.depth - 1) r'.skip)))
  unfolding full_turn looked passed run_after innermost outer closes_still level_held
  ends_held_lem [] along settles holds = true-is-not-false holds refl
  ends_held_lem (l ∷ σ) along settles holds =
      let upper = outside_above along.outside in
      let reach = here-reach along.ahead in
      let exempt = held_stays rule own along.state along.outside holds reach in
      refuse-first 7 _ _ λ deep. refuse-first 9 _ _ λ free. look-first tree_table _ _ λ q leads. both_give
      (meet (looked r q (r.depth - 1)) (passed r' l.above (r'.depth - 1) r'.skip) σ (omega arith) upper
      (outside-outer along.outside) (hold-returns rule own l.above upper along.state holds reach leads)
      (no-look r'.looks (passes closes rule own along settles (rw exempt))))

  -- skipping stands still on its settled level, full reading moves on, and the event is passed over
  goes_on : {τ σ : List Level} (v : Event) → Alongside R book r τ r' σ → level_settled book r'.state σ ≡ true
      → closes_still book r.state (τ ++ σ) v ≡ false → (r₁ : Reading) (τ₁ : List Level) (skip : ℕ)
      → Counts r₁ τ₁ (passed r' r'.state r'.depth skip) σ → Ahead R r'.state r₁.state τ₁
      → Kept R book (r'.looks + (if over book r.state (τ ++ σ) v then 0 else 1)) (record { reading = r₁; levels = τ₁ ++ σ })
      (record { reading = passed r' r'.state r'.depth skip; levels = σ })
  unfolding passed
  goes_on {τ} {σ} v along settles exempt r₁ τ₁ skip counts ahead =
      stand r₁ (passed r' r'.state r'.depth skip) τ₁ σ counts along.state along.outside ahead settles
      (no-look r'.looks (passes v rule own along settles exempt))

  settled-turn : {τ : List Level} (σ : List Level) → Alongside R book r τ r' σ → (v : Event)
      → ((a : ℕ) → v ≡ letter a → a < R.letters) → level_settled book r'.state σ ≡ true
      → Follows (After R book r τ r' σ v) (full_turn R room ceiling r (innermost (τ ++ σ)) v)
      (settled_turn R book room ceiling r' (innermost σ) v)
  unfolding full_turn settled_turn ends_level run_after innermost outer closes_still new_level looked passed
  settled-turn {τ} σ along (letter a) known settles =
      refuse-first 9 _ _ λ free. look-first letter_table _ _ λ q leads. both_give
      (goes_on (letter a) along settles refl (looked r q r.depth) τ r'.skip (omega arith)
      (ahead-letter rule a along.ahead (known a refl) leads))
  settled-turn {τ} σ along opens known settles =
      refuse-first 8 _ _ λ fits. refuse-first 9 _ _ λ free. look-first start_table _ _ λ q leads. both_give
      (goes_on opens along settles refl (looked r q (r.depth + 1)) (new_level r ∷ τ) (r'.skip + 1) (omega arith)
      (ahead-open rule (new_level r) along.ahead leads))
  settled-turn {τ = []} σ along closes known settles =
      let same = held-is book r' σ along.counts.stored in
      if-second _ (λ more. absurd (omega (arith, ltb-true 0 r'.skip more)))
      λ last. if-second _
      (λ holds. ends_held_lem σ along settles (rw same at holds))
      (λ free. ends-still rule own room ceiling along settles (rw same at free))
  settled-turn {τ = l ∷ τ} σ along closes known settles =
      let exempt = inside-settled rule own along.state along.outside settles along.ahead in
      if-second _
      (λ more. refuse-first 7 _ _ λ deep. refuse-first 9 _ _ λ free. look-first tree_table _ _ λ q leads. both_give
      (goes_on closes along settles (and_right (not (level_held book r.state (l ∷ τ ++ σ))) _ (rw exempt))
      (looked r q (r.depth - 1)) τ (r'.skip - 1) (omega arith) (ahead-close rule along.ahead leads)))
      (λ last. absurd (omega (arith, ltb-false 0 r'.skip last)))

  -- On an unsettled level the two stand together, and the event is not passed over.
  unsettled-turn : {τ : List Level} (σ : List Level) → Alongside R book r τ r' σ → (v : Event)
      → level_settled book r'.state σ ≡ false
      → Follows (After R book r τ r' σ v) (full_turn R room ceiling r (innermost (τ ++ σ)) v)
      (full_turn R room ceiling r' (innermost σ) v)
  unsettled-turn {τ = []} σ along v unsettled =
      let same = (along.together unsettled).1 in
      both-look rule own room ceiling along same v (rw (same, unsettled, outside-unsettled along.outside)) (λ is. unsettled)
  unsettled-turn {τ = l ∷ τ} σ along v unsettled =
      let none = (along.together unsettled).0 in
      let z : ◌≡◌ {A = ℕ} 0 1 = cc in absurd (omega arith)

  event-kept : {τ : List Level} (σ : List Level) → Alongside R book r τ r' σ → (e : ℕ)
      → Follows (After R book r τ r' σ (event_of e)) (full_event R room ceiling r (innermost (τ ++ σ)) e)
      (skip_event R book room ceiling r' (innermost σ) e)
  unfolding full_event skip_event known_event skip_turn
  event-kept σ along e =
      let same = settled_is_lem book r' σ along.counts.stored in
      refuse-each 16 _ _ _ _ (λ free. rw along.counts.taken at free)
      λ free. refuse-each 10 _ _ _ _ (λ known. known)
      λ known. if-second _
      (λ settles. settled-turn σ along (event_of e) (known-letter R.letters e (leb-false _ _ known)) (rw same at settles))
      (λ moves. unsettled-turn σ along (event_of e) (rw same at moves))

-- Every event that full reading takes is taken by skipping and keeps the relation. It is a look of skipping exactly if it is
-- not passed over.
pub step_kept : {R : Rule} {book : List ℕ} → IsRule R → IsBook R book → (room ceiling : ℕ) {m s : Run} → Simulates R book m s
    → (e : ℕ) → Follows (Kept R book (s.reading.looks + (if passed_over book m e then 0 else 1))) (full_step R room ceiling m e)
    (skip_step R book room ceiling s e)
unfolding full_step skip_step passed_over
step_kept rule own room ceiling (simulates {σ} along) e =
    giving-each (event-kept rule own room ceiling σ along e) (λ turn turn' kept. both_give kept)

-- ---- a run of events

then-count : {m : Run} (x : Answer Run) (rest : Run → ℕ) → x ≡ given m → then_count x rest ≡ rest m
unfolding then_count
then-count x rest e = rw (e, then_count)

-- related, and skipping's looks with the events still to come that are not passed over are so many in all
record InAll (R : Rule) (book : List ℕ) (room ceiling total : ℕ) (es : List ℕ) (m s : Run) : Type 0 where
  related : Simulates R book m s
  counted : s.reading.looks + not_passed_over R book room ceiling m es ≡ total

-- skipping takes what full reading takes, the two stand alongside, and the looks are the events not passed over
pub record Agrees (R : Rule) (book : List ℕ) (room ceiling : ℕ) (es : List ℕ) : Type 0 where
  pub takes_all : (skip_run R book room ceiling es).ended ≡ given tt
  pub related : Simulates R book (full_run R room ceiling es).last (skip_run R book room ceiling es).last
  pub looks : (skip_run R book room ceiling es).last.reading.looks ≡ not_passed_over R book room ceiling (fresh_run R) es

module _ {R : Rule} {book : List ℕ} (rule : IsRule R) (own : IsBook R book) (room ceiling : ℕ) where
  all-kept : (total e : ℕ) (es : List ℕ) (m s : Run) → InAll R book room ceiling total (e ∷ es) m s
      → Follows (InAll R book room ceiling total es) (full_step R room ceiling m e) (skip_step R book room ceiling s e)
  unfolding not_passed_over
  all-kept total e es m s before =
      follows_so (where-first-gives (step_kept rule own room ceiling before.related e))
      λ m' s' kept.
      record {
        related = kept.1.related;
        counted =
            omega (
              arith,
              before.counted,
              kept.1.counted,
              then-count (full_step R room ceiling m e) (λ next. not_passed_over R book room ceiling next es) kept.0,
            );
      }

  pub skipping-agrees : (es : List ℕ) → (full_run R room ceiling es).ended ≡ given tt → Agrees R book room ceiling es
  unfolding fresh_reading not_passed_over
  skipping-agrees es all =
      let total : ℕ = not_passed_over R book room ceiling (fresh_run R) es in
      let fresh : Kept R book 0 (fresh_run R) (fresh_run R) =
      meet (fresh_reading R) (fresh_reading R) [] (omega arith) (initial-below rule) at_top refl refl in
      let kept =
      feed-each (full_step R room ceiling) (skip_step R book room ceiling) (InAll R book room ceiling total) (all-kept total)
      es (fresh_run R) (fresh_run R) (record { related = fresh.related; counted = omega arith }) all in
      record { takes_all = kept.0; related = kept.1.related; looks = omega (arith, kept.1.counted) }

-- ---- the end

-- with no level open the two are in one state: nothing leads away from a still state
same-state : {R : Rule} {book : List ℕ} {r r' : Reading} (τ σ : List Level) → IsRule R → IsBook R book
    → Alongside R book r τ r' σ → length τ + length σ ≡ 0 → r.state ≡ r'.state
unfolding level_settled level_held
same-state {book} {r'} [] [] rule own along none =
    ⊎_elim
    (λ settles. still-stays rule own along.state (or-true-first (in_still book r'.state) false settles refl)
    (here-reach along.ahead))
    (λ unsettled. (along.together unsettled).1) (cases_Bool (level_settled book r'.state []))
same-state [] (l ∷ σ) rule own along none = absurd (omega arith)
same-state (l ∷ τ) σ rule own along none = absurd (omega arith)

ends-alike : {R : Rule} {book : List ℕ} {m s : Run} {j : Judged} → IsRule R → IsBook R book → Simulates R book m s
    → end_of_run R m ≡ given j → end_of_run R s ≡ given j
unfolding end_of
ends-alike rule own (simulates {r} {r'} {τ} {σ} along) judged =
    let passes = refuse-given 12 _ (0 <? r.depth + r.skip) _ judged in
    let flat : r.depth + r.skip ≤ 0 = ltb-false 0 _ passes.0 in
    refuse-passes 12 _ _ (le-ltb 0 (r'.depth + r'.skip) (omega arith))
    ∙ rw (← same-state τ σ rule own along (omega (arith, along.counts.skip, along.counts.stored))) passes.1

-- an event counts once at most
at_most_one : (b : Bool) → (if b then 0 else 1) ≤ 1
at_most_one true = omega arith
at_most_one false = omega arith

then-most : {rest : Run → ℕ} {most : ℕ} (x : Answer Run) → ((next : Run) → rest next ≤ most) → then_count x rest ≤ most
unfolding then_count
then-most (given m) bound = bound m
then-most (refused number place) bound = omega arith

pub not-passed-over-most : (R : Rule) (book : List ℕ) (room ceiling : ℕ) (m : Run) (es : List ℕ)
    → not_passed_over R book room ceiling m es ≤ length es
unfolding not_passed_over
not-passed-over-most R book room ceiling m [] = omega arith
not-passed-over-most R book room ceiling m (e ∷ es) =
    omega (
      arith,
      at_most_one (passed_over book m e),
      then-most (full_step R room ceiling m e) (λ next. not-passed-over-most R book room ceiling next es),
    )

-- skipping ends with that verdict in that state, and its looks are the events not passed over, never more than the events
pub record EndsAlike (R : Rule) (book : List ℕ) (room ceiling : ℕ) (es : List ℕ) (j : Judged) : Type 0 where
  pub takes_all : (skip_run R book room ceiling es).ended ≡ given tt
  pub verdict : end_of_run R (skip_run R book room ceiling es).last ≡ given j
  pub looks : (skip_run R book room ceiling es).last.reading.looks ≡ not_passed_over R book room ceiling (fresh_run R) es
  pub few : not_passed_over R book room ceiling (fresh_run R) es ≤ length es

-- Demand 3: with the rule's own book, wherever full reading ends with a verdict.
pub demand-3 : {R : Rule} {book : List ℕ} → IsRule R → IsBook R book → (room ceiling : ℕ) (es : List ℕ) {j : Judged}
    → (full_run R room ceiling es).ended ≡ given tt → end_of_run R (full_run R room ceiling es).last ≡ given j
    → EndsAlike R book room ceiling es j
demand-3 {R} {book} rule own room ceiling es all judged =
    let agrees = skipping-agrees rule own room ceiling es all in
    record {
      takes_all = agrees.takes_all;
      verdict = ends-alike rule own agrees.related judged;
      looks = agrees.looks;
      few = not-passed-over-most R book room ceiling (fresh_run R) es;
    }
