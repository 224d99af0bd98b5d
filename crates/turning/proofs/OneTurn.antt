-- One turn of feeding keeps what is left to come: an event that is taken, one that is refused, and a run that is passed over.
-- What was a reading still is one, and each event that is taken is one more.
use Rattle.std.proofs.Common.{Option, Some, None, Result, Ok, Err}
use mathlib.Core.Path.{◌≡◌, refl, sym, ◌∙◌}
use mathlib.Core.List.{List, [], ◌∷◌}
use Prim.Native.Nat.{ℕ, ◌+◌, ◌-◌, ◌≤◌, ◌<◌}
use native.Mathlib.Numerals.{add-one}
use native.Mathlib.Omega.{arith}
use lib.ListN.{length, get_or, drop, drop_of_length-le, length-set}
use lib.Seq.{drop-cons}
use Rattle.meaning.specs.Answers.{Answer, given, refused}
use Rattle.meaning.specs.RuleFile.{rule_of}
use Rattle.meaning.specs.FullReading.{Went, feed_by}
use Rattle.meaning.specs.Skipping.{held, settled}
use Rattle.meaning.specs.Calls.{Stored, top_of, store_step, number_of, refusal_says, says}
use Rattle.meaning.specs.declared.Level.{Level}
use Rattle.meaning.specs.declared.Reading.{Reading}
use Rattle.meaning.specs.declared.reason.Reason.{Reason}
use Rattle.meaning.proofs.rulefile.Accepted.{accepted-is-rule}
use Rattle.meaning.proofs.laws.FeedLaws.{feed-taken, feed-refused, feed-none}
use Rattle.meaning.proofs.stores.KeptReading.{IsReading, reading-is, event-keeps-reading}
use Rattle.rule.specs.declared.Rule.{Rule}
use Rattle.turning.specs.Readings.{StatesIn, Counted}
use Rattle.turning.specs.Turns.{Ready, Stands, Feeds, over}
use Rattle.turning.specs.PassingOver.{passed_on, PassesOver}
use Rattle.turning.specs.Advancing.{placed, ended_at, rest_of, rest, stored, CanGoOn, Advances, Gone}
use Rattle.turning.specs.declared.Advance.{Advance}
use Rattle.turning.specs.declared.Entry.{Entry}
use Rattle.turning.specs.declared.Going.{Going}
use Rattle.turning.specs.declared.PassedTo.{PassedTo}
use Rattle.turning.specs.declared.settling.Settled.{Settled}
use Rattle.meaning.proofs.stores.Took.{step-taken}
use Rattle.turning.proofs.PassesOn.{on-settled}
use Rattle.rule.proofs.Said.{letters-are}
use Rattle.turning.proofs.Steps.{reading-in, turn-ready}

-- ---- a run that was passed over leaves a reading

-- the next event may count on what the run could count on
pub passed-readings : {rule : Rule} {book : List ℕ} {r : Reading} {top : Level} {events : List ℕ} {next : ℕ} {p : PassedTo}
    → PassesOver rule.letters book r top events next p → StatesIn rule r top → Counted r
    → StatesIn rule p.reading top × Counted p.reading
unfolding passed_on
passed-readings o states counted =
    rw o.same (
      record { state_in = states.state_in; above_in = states.above_in },
      record { levels_taken = o.nested; looks_taken = omega (arith, counted.looks_taken) },
    )

-- and the level stands as it stood
pub passed-stands : {k : ℕ} {book : List ℕ} {r : Reading} {top : Level} {events : List ℕ} {next : ℕ} {p : PassedTo} {level : Settled}
    → PassesOver k book r top events next p → Stands book r top level → Stands book p.reading top level
unfolding passed_on held settled
passed-stands o s = rw o.same (record { held_is = s.held_is; settled_is = s.settled_is })

module _ {file : List ℕ} {rule : Rule} {book : List ℕ} {r : Reading} {store : List Level} (h : Feeds file rule book r store) where
  pub passed-feeds : {events : List ℕ} {next : ℕ} {p : PassedTo} → PassesOver rule.letters book r (top_of r store) events next p
      → Feeds file rule book p.reading store
  unfolding passed_on
  passed-feeds {events} {next} {p} o =
      let was = reading-in h in
      let after : Reading = passed_on r p.reading.skip (p.next - next) in
      let is : IsReading (rule_of file) book after store =
      record {
        state_in = was.state_in;
        within = was.within;
        above_in = was.above_in;
        skips_settled = λ deep. on-settled book r store _ _ (o.stays_settled was.skips_settled deep);
        nested = o.nested;
        looks_in = omega (arith, was.looks_in);
      } in
      record {
        ruled = h.ruled;
        book_long = h.book_long;
        is_reading = rw o.same (reading-is (rule_of file) book after store is);
      }

  -- its innermost record is the same
  pub passed-top : {events : List ℕ} {next : ℕ} {top : Level} {p : PassedTo} → PassesOver rule.letters book r top events next p
      → top_of r store ≡ top → top_of p.reading store ≡ top
  unfolding passed_on top_of
  passed-top o same = rw o.same same

  pub passed-more : {events : List ℕ} {next : ℕ} {top : Level} {p : PassedTo} → PassesOver rule.letters book r top events next p
      → r.taken ≤ p.reading.taken
  unfolding passed_on
  passed-more o = rw o.same (omega arith)

-- ---- the turns

module _ {file : List ℕ} {rule : Rule} {book : List ℕ} (ceiling : ℕ) {r : Reading} {store : List Level} (h : Feeds file rule book r store)
    (events : List ℕ) {next : ℕ} (inside : next < length events) (stores : Option Entry) where
  abbrev before : Stored
  before = over r store

  abbrev event : ℕ
  event = get_or events next 0

  first : feed_by (store_step (rule_of file) book ceiling) before (event ∷ drop (next + 1) events)
      ≡ feed_by (store_step (rule_of file) book ceiling) before (drop next events)
  first = rw (add-one next, ← drop-cons events next 0 inside)

  -- the event is taken
  pub takes : (after : Reading) {store' : List Level} → store_step (rule_of file) book ceiling before event ≡ given (over after store')
      → stored stores store ≡ store'
      → Advances file rule book ceiling store r events next
      (record { going = record { reading = after; next = next + 1; ended = Ok tt }; stores = stores })
  unfolding rest_of rest
  takes after {store'} said laid =
      let t : Stored = over after store' in
      let still : Feeds file rule book after store' =
      record {
        ruled = h.ruled;
        book_long = h.book_long;
        is_reading = event-keeps-reading (accepted-is-rule file h.ruled.accepted) book ceiling before t event h.is_reading said;
      } in
      record {
        further = omega arith;
        more = omega (arith, step-taken (rule_of file) book ceiling before t event said);
        goes = record { within = omega arith; taken = λ _. refl; feeds = λ _. rw laid still };
        comes = rw laid (sym (feed-taken _ _ said) ∙ first);
      }

  -- the event is refused
  pub refuses : (reason : Reason) → store_step (rule_of file) book ceiling before event ≡ refused (number_of reason) r.taken → stored stores store ≡ store
      → Advances file rule book ceiling store r events next
      (record { going = record { reading = r; next = length events; ended = Err reason }; stores = stores })
  unfolding rest_of rest
  refuses reason said laid =
      record {
        further = inside;
        more = omega arith;
        goes = record { within = omega arith; taken = λ less. absurd (omega arith); feeds = λ less. absurd (omega arith) };
        comes = rw laid (sym (feed-refused _ _ said) ∙ first);
      }

  -- all that is left is passed over
  pub passes-all : {p : PassedTo} → PassesOver rule.letters book r (top_of r store) events next p → length events ≤ p.next
      → stored stores store ≡ store
      → Advances file rule book ceiling store r events next
      (record { going = record { reading = p.reading; next = p.next; ended = Ok tt }; stores = stores })
  unfolding rest_of rest
  passes-all o all laid =
      record {
        further = omega arith;
        more = passed-more h o;
        goes = record { within = o.within; taken = λ _. refl; feeds = λ less. absurd (omega arith) };
        comes = rw laid (sym (o.feeds (rule_of file) ceiling store (letters-are h.ruled) refl));
      }

-- what is passed over, and then a turn
pub passes_on : {file : List ℕ} {rule : Rule} {book : List ℕ} (ceiling : ℕ) {r : Reading} {store : List Level} → Feeds file rule book r store
    → (events : List ℕ) {next : ℕ} {a : Advance} {p : PassedTo}
    → PassesOver rule.letters book r (top_of r store) events next p → Advances file rule book ceiling store p.reading events p.next a
    → Advances file rule book ceiling store r events next a
passes_on {file} {rule} {book} ceiling {r} {store} h events o a =
    let more : r.taken ≤ _ = passed-more h o in
    record {
      further = omega (arith, o.further, a.further);
      more = omega (arith, more, a.more);
      goes = a.goes;
      comes = a.comes ∙ sym (o.feeds (rule_of file) ceiling store (letters-are h.ruled) refl);
    }

-- ---- turn by turn

rest_of-none : (x : Result Unit Reason) (step : Stored → ℕ → Answer Stored) (s : Stored)
    → rest_of x s (feed_by step s []) ≡ record { last = s; ended = says (placed x s.reading.taken) }
unfolding rest_of says placed refusal_says
rest_of-none (Ok u) step s = feed-none step s
rest_of-none (Err reason) step s = refl

-- storing keeps the store's length
stored-length : (stores : Option Entry) (store : List Level) → length (stored stores store) ≡ length store
unfolding stored
stored-length None store = refl
stored-length (Some e) store = length-set store e.place e.level

module _ (file : List ℕ) (rule : Rule) (book : List ℕ) (ceiling : ℕ) (events : List ℕ) (start : Going) (store₀ : List Level) where
  abbrev all : Went Stored
  all = rest (rule_of file) book ceiling store₀ events start

  -- what the loop keeps, where feeding stands at g over a store
  pub record Underway (g : Going) (store : List Level) : Type 0 where
    pub goes : CanGoOn file rule book store events g
    pub comes : rest (rule_of file) book ceiling store events g ≡ all
    pub more : start.reading.taken ≤ g.reading.taken
    pub same_room : length store ≡ length store₀

  pub underway-start : CanGoOn file rule book store₀ events start → Underway start store₀
  underway-start h = record { goes = h; comes = refl; more = omega arith; same_room = refl }

  module _ {g : Going} {store : List Level} (u : Underway g store) where
    -- an event is left: the turn may count on a reading
    pub underway-ready : g.next < length events → Ready file rule book g.reading (top_of g.reading store)
    underway-ready inside = turn-ready (u.goes.feeds inside)

    -- and what it does is done
    pub underway-next : g.next < length events → (a : Advance)
        → ((other : List Level) → Feeds file rule book g.reading other → top_of g.reading other ≡ top_of g.reading store → length other ≡ length store₀
        → Advances file rule book ceiling other g.reading events g.next a)
        → Underway a.going (stored a.stores store)
    unfolding rest rest_of
    underway-next inside a says =
        let made = says store (u.goes.feeds inside) refl u.same_room in
        record {
          goes = made.goes;
          comes = made.comes ∙ (sym (rw (u.goes.taken inside, rest_of)) ∙ u.comes);
          more = omega (arith, u.more, made.more);
          same_room = stored-length a.stores store ∙ u.same_room;
        }

    -- no event is left
    pub underway-ends : length events ≤ g.next → Gone all start.reading (length store₀) g store
    unfolding rest ended_at
    underway-ends none =
        record {
          comes = sym u.comes ∙ rw (drop_of_length-le events none) (rest_of-none g.ended _ _);
          more = u.more;
          same_room = u.same_room;
        }
