-- The first condition that holds is the definition's, and each that does not is passed.
use Rattle.std.proofs.Common.{◌≡◌, ap, ◌∙◌, not, Bool, ◌||◌, ℕ, ◌<◌, ◌≤◌}
use borrow.Author.Tests.{lt-ltb, le-ltb, le-leb}
use Rattle.meaning.specs.Answers.{◌<?◌, ◌≤?◌}
use Rattle.meaning.specs.RuleFile.{is_state}
use Rattle.meaning.specs.Calls.{depth_past_store}
use Rattle.reading.specs.Checks.{aboves_in}
use Rattle.reading.proofs.Conditions.{holds-first, decides-last}
use Rattle.reading.proofs.checking.states_out.Goals as goal
use Rattle.reading.proofs.checking.states_out.Goals.{then-states-reading, else-states-reading}

-- the state is looked at first, and the depth where it is one
state-out : (n q : ℕ) (deep : Bool) {v : Bool} → n ≤ q → v ≡ (n ≤? q) → v ≡ (not (is_state n q) || deep)
unfolding is_state
state-out n q deep h e = rw (le-ltb q n h) (e ∙ le-leb n q h)

state-in : (n q : ℕ) (deep : Bool) {v : Bool} → q < n → v ≡ deep → v ≡ (not (is_state n q) || deep)
unfolding is_state
state-in n q deep h e = rw (lt-ltb q n h) e

pub returns-then-room-depth : goal.returns-then-room-depth
returns-then-room-depth c =
    let r = c.args.reading in
    let store = c.args.levels.now in
    let first : c.if-states-reading.value ≡ (not (is_state c.args.states r.state) || depth_past_store r store)
    = elim c.if-states-reading.branch [
      | then-states-reading w ↦ state-out _ _ _ w.if-states-reading.true w.value-is
      | else-states-reading w ↦ state-in _ _ _ w.if-states-reading.false (w.value-is ∙ ap (λ (room : ℕ). room <? r.depth) w.room.ensures)
    ]
    in holds-first _ _ (not (aboves_in c.args.states r.depth store)) first c.if-room-depth.true

pub returns-else-room-depth : goal.returns-else-room-depth
returns-else-room-depth c =
    let r = c.args.reading in
    let store = c.args.levels.now in
    let first : c.if-states-reading.value ≡ (not (is_state c.args.states r.state) || depth_past_store r store)
    = elim c.if-states-reading.branch [
      | then-states-reading w ↦ state-out _ _ _ w.if-states-reading.true w.value-is
      | else-states-reading w ↦ state-in _ _ _ w.if-states-reading.false (w.value-is ∙ ap (λ (room : ℕ). room <? r.depth) w.room.ensures)
    ]
    in
    decides-last _ _ (not (aboves_in c.args.states r.depth store)) first c.if-room-depth.false (ap not c.stored_in.ensures)
