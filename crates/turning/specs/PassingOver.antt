-- A run of events that is passed over on a settled level by counting alone: feeding goes on from where it was left as it would
-- have gone on from where it began.
use Rattle.std.specs.Prelude.{ℕ, ◌+◌, ◌-◌, ◌≤◌, ◌<◌, min, true, ◌≡◌, List, [], ◌∷◌, length, take, drop, All, sum_by, if◌then◌else◌}
use Rattle.meaning.specs.Answers.{◌=?◌}
use Rattle.meaning.specs.RuleFile.{Rule}
use Rattle.meaning.specs.FullReading.{feed_by}
use Rattle.meaning.specs.Skipping.{settled}
use Rattle.meaning.specs.Calls.{top_of, store_step}
use Rattle.meaning.specs.declared.Level.{Level}
use Rattle.meaning.specs.declared.Reading.{Reading}
use Rattle.turning.specs.Turns.{over}
use Rattle.turning.specs.declared.PassedTo.{PassedTo}
use Rattle.turning.specs.declared.passing.Counts.{Counts}
use Rattle.turning.specs.declared.passing.Depths.{Depths}
use Rattle.turning.specs.declared.passing.Passed.{Passed}

-- how many trees an event opens, and how many it closes
unfoldable pub openings : ℕ → ℕ
openings e = if e =? 0 then 1 else 0

unfoldable pub closings : ℕ → ℕ
closings e = if e =? 1 then 1 else 0

pub record CountsOf (events : List ℕ) (r : Counts) : Type 0 where
  pub opens_are : r.opens ≡ sum_by openings events
  pub closes_are : r.closes ≡ sum_by closings events
  pub none_above : All (λ e. e ≤ r.largest) events

-- a run whose closes do not end the level, from one skip depth to another
pub data Passing : ℕ → List ℕ → ℕ → Type 0 where
  pass_none : {skip : ℕ} → Passing skip [] skip
  pass_one : {skip skip' e : ℕ} {es : List ℕ} → closings e ≤ skip → Passing (skip + openings e - closings e) es skip'
      → Passing skip (e ∷ es) skip'

-- the depths of a run with no events, begun at the depth given
unfoldable pub no_event : ℕ → Depths
no_event depth = record { begun = depth; lowest = depth; last = depth }

-- the depths of a run with one event more
unfoldable pub one_more : Depths → ℕ → Depths
one_more d e = record {
  begun = d.begun;
  lowest = min d.lowest (d.last + openings e - closings e);
  last = d.last + openings e - closings e;
}

-- the depths of two runs, one after the other
unfoldable pub joined : Depths → Depths → Depths
joined d d' = record {
  begun = d.begun + d'.begun;
  lowest = min (d.lowest + d'.begun) (d.last + d'.lowest);
  last = d.last + d'.last;
}

-- the depths of a run no longer than a block, which fit with those of another
pub record Short (d : Depths) : Type 0 where
  pub begun_fits : d.begun ≤ 256
  pub lowest_fits : d.lowest ≤ 256
  pub last_fits : d.last ≤ 512

-- the depths of a run that was begun at a depth no less than its closes: from every skip depth that leaves the lowest one at
-- zero or above, no close of the run ends the level
pub record DepthsOf (events : List ℕ) (d : Depths) : Type 0 where
  pub not_above : d.lowest ≤ d.begun
  pub not_past : d.lowest ≤ d.last
  pub few_closes : d.begun ≤ d.lowest + length events
  pub few_opens : d.last ≤ d.begun + length events
  pub passing : (skip : ℕ) → d.begun ≤ skip + d.lowest → Passing skip events (skip + d.last - d.begun)

-- a run that is passed over by counting, from one skip depth to another: each event is known, and no close ends the level
pub record AllPassed (known skip : ℕ) (events : List ℕ) (skip' : ℕ) : Type 0 where
  pub all_known : All (λ e. e < known) events
  pub passing : Passing skip events skip'

-- the first events of a run, passed over by counting
pub record PassedIn (known skip : ℕ) (events : List ℕ) (r : Passed) : Type 0 where
  pub within : r.count ≤ length events
  pub passed : AllPassed known skip (take r.count events) r.skip

-- the reading after so many events that were no look and left it on its level
unfoldable pub passed_on : Reading → ℕ → ℕ → Reading
passed_on r skip count = record { state = r.state; depth = r.depth; skip = skip; taken = r.taken + count; looks = r.looks }

pub record PassesOver (k : ℕ) (book : List ℕ) (r : Reading) (top : Level) (events : List ℕ) (i : ℕ) (p : PassedTo) : Type 0 where
  pub further : i ≤ p.next
  pub within : p.next ≤ length events
  pub same : p.reading ≡ passed_on r p.reading.skip (p.next - i)
  pub nested : r.depth + p.reading.skip ≤ r.taken + (p.next - i)
  pub stays_settled : (0 < r.skip → settled book r top ≡ true) → 0 < p.reading.skip → settled book r top ≡ true
  pub feeds : (R : Rule) (ceiling : ℕ) (store : List Level) → R.letters ≡ k → top_of r store ≡ top
      → feed_by (store_step R book ceiling) (over r store) (drop i events)
      ≡ feed_by (store_step R book ceiling) (over p.reading store) (drop p.next events)
