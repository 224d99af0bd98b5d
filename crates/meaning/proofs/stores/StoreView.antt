-- The lent level store and the open levels are one: as long as the depth lies within the store, the records below the depth,
-- the innermost first, are the open levels, whichever events are fed. One event keeps that, and so feeding does.
use mathlib.Core.Path.{◌≡◌, refl, sym, ap, ◌∙◌}
use mathlib.Core.Bool.{false}
use mathlib.Core.List.{List, [], ◌∷◌}
use mathlib.Core.Logic.{◌⊎◌, inl, inr, ◌≢◌}
use Prim.Native.Nat.{ℕ, zero, suc, ◌+◌, ◌-◌, ◌≤◌, ◌<◌}
use native.Mathlib.Numerals.{add-one}
use native.Mathlib.Omega.{arith}
use lib.ListN.{length, get_or, set, drop, take, length-set}
use lib.Seq.{get_or-set_same, get_or-set_other, drop-set-lt}
use borrow.Author.Tests.{eq-eqb}
use Rattle.meaning.specs.declared.Reading.{Reading}
use Rattle.meaning.specs.declared.Level.{Level}
use Rattle.meaning.specs.Answers.{Answer, given, refused, ◌giving◌}
use Rattle.meaning.specs.RuleFile.{Rule}
use Rattle.meaning.specs.FullReading.{Event, opens, closes, letter, event_of, Turn, Run, Went, looked, new_level, full_turn, blank, innermost, outer, run_after, feed_by}
use Rattle.meaning.specs.Skipping.{held, settled, passed, ends_level, settled_turn, skip_turn, skip_event, skip_step}
use Rattle.meaning.specs.Calls.{Stored, top_of, stored_after, store_step}
use Rattle.meaning.proofs.laws.Answered.{if-false, refuse-stops, giving-given}
use Rattle.meaning.proofs.laws.FeedKeeps.{feed-keeps, feed-keeps-while, feed-viewed}
use Rattle.meaning.proofs.stores.Turns.{Turned, passes, ends_held, takes_letter, stores_open, ends_looked, turned}

-- ---- the records below the depth, the innermost first

unfoldable pub levels_of : ℕ → List Level → List Level
levels_of zero store = []
levels_of (suc d) store = get_or store d blank ∷ levels_of d store

-- a record at the depth or past it is none of the open levels
pub levels-past : (d i : ℕ) (store : List Level) (l : Level) → d ≤ i → levels_of d (set store i l) ≡ levels_of d store
unfolding levels_of
levels-past zero i store l h = refl
levels-past (suc d) i store l h =
    cc (get_or-set_other store i d l blank (omega arith), levels-past d i store l (omega arith))

pub levels-more : (d : ℕ) (store : List Level) (l : Level) → d < length store
    → levels_of (d + 1) (set store d l) ≡ l ∷ levels_of d store
unfolding levels_of
levels-more d store l h = rw (add-one d) (cc (get_or-set_same store d l blank h, levels-past d d store l (omega arith)))

pub levels-less : (d : ℕ) (store : List Level) → outer (levels_of d store) ≡ levels_of (d - 1) store
unfolding levels_of outer
levels-less zero store = refl
levels-less (suc d) store = let back : suc d - 1 ≡ d = omega arith in rw back

top-is : (d : ℕ) (store : List Level) → 0 < d → innermost (levels_of d store) ≡ get_or store (d - 1) blank
unfolding levels_of innermost
top-is zero store h = absurd (omega arith)
top-is (suc d) store h = let back : suc d - 1 ≡ d = omega arith in rw back

-- ---- at the top, where no level is open, no record is read

module _ (R : Rule) (book : List ℕ) (room ceiling : ℕ) (r : Reading) (at_top : r.depth ≡ 0) where
  held-at-top : (l : Level) → held book r l ≡ false
  unfolding held
  held-at-top l = rw at_top

  close-at-top : (l : Level) → full_turn R room ceiling r l closes ≡ refused 7 r.taken
  unfolding full_turn
  close-at-top l = refuse-stops 7 r.taken _ (eq-eqb r.depth 0 at_top)

  ends-at-top : (l : Level) → ends_level R book room ceiling r l ≡ refused 7 r.taken
  unfolding ends_level
  ends-at-top l = if-false _ _ (held-at-top l) ∙ close-at-top l

  full-top-free : (l m : Level) (event : Event) → full_turn R room ceiling r l event ≡ full_turn R room ceiling r m event
  unfolding full_turn
  full-top-free l m (letter a) = refl
  full-top-free l m opens = refl
  full-top-free l m closes = close-at-top l ∙ sym (close-at-top m)

  settled-top-free : (l m : Level) (event : Event)
      → settled_turn R book room ceiling r l event ≡ settled_turn R book room ceiling r m event
  unfolding settled_turn
  settled-top-free l m (letter a) = refl
  settled-top-free l m opens = refl
  settled-top-free l m closes = cc (ends-at-top l, ends-at-top m)

  event-top-free : (l m : Level) (e : ℕ) → skip_event R book room ceiling r l e ≡ skip_event R book room ceiling r m e
  unfolding skip_event skip_turn settled
  event-top-free l m e =
      cc (held-at-top l, held-at-top m, full-top-free l m (event_of e), settled-top-free l m (event_of e))

-- the record that an event reads is the innermost open level's, if it reads one
same-top : (R : Rule) (book : List ℕ) (room ceiling : ℕ) (r : Reading) (store : List Level) (e : ℕ)
    → skip_event R book room ceiling r (innermost (levels_of r.depth store)) e ≡ skip_event R book room ceiling r (top_of r store) e
unfolding top_of
same-top R book room ceiling r store e = go r.depth refl
  where
    go : (d : ℕ) → r.depth ≡ d
        → skip_event R book room ceiling r (innermost (levels_of r.depth store)) e
        ≡ skip_event R book room ceiling r (get_or store (r.depth - 1) blank) e
    go zero at_top = event-top-free R book room ceiling r at_top _ _ e
    go (suc d) deep = ap (λ l. skip_event R book room ceiling r l e) (top-is r.depth store (omega arith))

-- ---- one event

-- a reading over the store as a reading with its open levels
unfoldable pub view_of : Stored → Run
view_of s = record { reading = s.reading; levels = levels_of s.reading.depth s.store }

-- the store has its size, and the depth lies within it
pub record InStore (size : ℕ) (s : Stored) : Type 0 where
  pub stored : length s.store ≡ size
  pub within : s.reading.depth ≤ size

-- the turn of an event that was taken
pub step-turned : (R : Rule) (book : List ℕ) (ceiling : ℕ) (s t : Stored) (e : ℕ) → store_step R book ceiling s e ≡ given t
    → (turn : Turn) × Turned R book (length s.store) s.reading (top_of s.reading s.store) (event_of e) turn
    × (stored_after s.reading s.store turn ≡ t)
unfolding store_step
step-turned R book ceiling s t e h =
    let g = giving-given _ (λ turn. given (stored_after s.reading s.store turn)) h in
    (g.0, turned R book (length s.store) ceiling s.reading (top_of s.reading s.store) e g.1, cc g.2)

module _ (R : Rule) (book : List ℕ) (ceiling : ℕ) where
  turn-within : (r : Reading) (store : List Level) {event : Event} {turn : Turn}
      → Turned R book (length store) r (top_of r store) event turn → r.depth ≤ length store
      → InStore (length store) (stored_after r store turn)
  unfolding stored_after looked passed
  turn-within r store (passes e skip is h) w = record { stored = refl; within = w }
  turn-within r store (ends_held is z) w = record { stored = refl; within = omega arith }
  turn-within r store (takes_letter a q is_not known m) w = record { stored = refl; within = w }
  turn-within r store (stores_open q is_not fits m) w =
      record { stored = length-set store r.depth _; within = omega arith }
  turn-within r store (ends_looked q is_not z deep m) w = record { stored = refl; within = omega arith }

  turn-viewed : (r : Reading) (store : List Level) {event : Event} {turn : Turn}
      → Turned R book (length store) r (top_of r store) event turn
      → run_after (levels_of r.depth store) turn ≡ view_of (stored_after r store turn)
  unfolding stored_after looked passed run_after view_of
  turn-viewed r store (passes e skip is h) = refl
  turn-viewed r store (ends_held is z) = cc (levels-less r.depth store)
  turn-viewed r store (takes_letter a q is_not known m) = refl
  turn-viewed r store (stores_open q is_not fits m) = cc (levels-more r.depth store (new_level r) fits)
  turn-viewed r store (ends_looked q is_not z deep m) = cc (levels-less r.depth store)

  -- an event keeps the length of the store, and the depth within it
  pub step-within : (size : ℕ) (s t : Stored) (e : ℕ) → InStore size s → store_step R book ceiling s e ≡ given t → InStore size t
  step-within size s t e w h =
      let g = step-turned R book ceiling s t e h in
      let after = turn-within s.reading s.store g.1 (omega (arith, w.stored, w.within)) in
      rw (g.2, w.stored) at after

  viewed-turn : (r : Reading) (store : List Level) (x : Answer Turn)
      → ((turn : Turn) → x ≡ given turn → run_after (levels_of r.depth store) turn ≡ view_of (stored_after r store turn))
      → (x giving λ turn. given (run_after (levels_of r.depth store) turn))
      ≡ ((x giving λ turn. given (stored_after r store turn)) giving λ t. given (view_of t))
  unfolding ◌giving◌
  viewed-turn r store (given turn) same = ap given (same turn refl)
  viewed-turn r store (refused number place) same = refl

  step-viewed : (size : ℕ) (s : Stored) (e : ℕ) → InStore size s
      → skip_step R book size ceiling (view_of s) e ≡ (store_step R book ceiling s e giving λ t. given (view_of t))
  unfolding skip_step store_step view_of
  step-viewed size s e w =
      let r : Reading = s.reading in
      let room : ℕ = length s.store in
      rw (← w.stored, same-top R book room ceiling r s.store e)
      (viewed-turn r s.store _ (λ turn t. turn-viewed r s.store (turned R book room ceiling r (top_of r s.store) e t)))

-- ---- any events

-- what the two views of a feed have in common
pub record OneView (size : ℕ) (w : Went Stored) (v : Went Run) : Type 0 where
  pub ended : w.ended ≡ v.ended
  pub reading : w.last.reading ≡ v.last.reading
  pub levels : v.last.levels ≡ levels_of w.last.reading.depth w.last.store
  pub stored : length w.last.store ≡ size
  pub within : w.last.reading.depth ≤ size

pub store-is-levels : (R : Rule) (book : List ℕ) (ceiling : ℕ) (r : Reading) (store : List Level) (es : List ℕ)
    → r.depth ≤ length store
    → OneView (length store) (feed_by (store_step R book ceiling) (record { reading = r; store = store }) es)
    (feed_by (skip_step R book (length store) ceiling) (record { reading = r; levels = levels_of r.depth store }) es)
unfolding view_of
store-is-levels R book ceiling r store es h =
    let size : ℕ = length store in
    let s : Stored = record { reading = r; store = store } in
    let start : InStore size s = record { stored = refl; within = h } in
    let step = store_step R book ceiling in
    let keeps = step-within R book ceiling size in
    let kept = feed-keeps step (InStore size) keeps s es start in
    let other = skip_step R book size ceiling in
    let same = feed-viewed step (InStore size) keeps view_of other (step-viewed R book ceiling size) s es start in
    record {
      ended = sym (ap (λ v. v.ended) same);
      reading = sym (ap (λ v. v.last.reading) same);
      levels = ap (λ v. v.last.levels) same;
      stored = kept.stored;
      within = kept.within;
    }

-- ---- what a store keeps

-- an open that is stored: it writes the record at the depth, and no other
pub record StoredOpen (s : Stored) (e : ℕ) (t : Stored) : Type 0 where
  pub opening : event_of e ≡ opens
  pub fits : s.reading.depth < length s.store
  pub deeper : t.reading.depth ≡ s.reading.depth + 1
  pub own : t.store ≡ set s.store s.reading.depth (new_level s.reading)

module _ (R : Rule) (book : List ℕ) (ceiling : ℕ) where
  turn-kept : (r : Reading) (store : List Level) (e : ℕ) {event : Event} {turn : Turn} → event_of e ≡ event
      → Turned R book (length store) r (top_of r store) event turn
      → ((stored_after r store turn).store ≡ store) ⊎ StoredOpen (record { reading = r; store = store }) e (stored_after r store turn)
  unfolding stored_after looked
  turn-kept r store e known (passes event skip is h) = inl refl
  turn-kept r store e known (ends_held is z) = inl refl
  turn-kept r store e known (takes_letter a q is_not below m) = inl refl
  turn-kept r store e known (stores_open q is_not fits m) =
      inr (record { opening = known; fits = fits; deeper = refl; own = refl })
  turn-kept r store e known (ends_looked q is_not z deep m) = inl refl

  -- an event that is taken leaves the store as it was, or it is an open that is stored
  pub store_kept : (s t : Stored) (e : ℕ) → store_step R book ceiling s e ≡ given t
      → (t.store ≡ s.store) ⊎ StoredOpen s e t
  store_kept s t e h =
      let g = step-turned R book ceiling s t e h in
      let after = turn-kept s.reading s.store e refl g.1 in
      rw g.2 at after

  -- no record but the one at the depth changes
  pub record-kept : (s t : Stored) (e i : ℕ) (d : Level) → store_step R book ceiling s e ≡ given t → i ≢ s.reading.depth
      → get_or t.store i d ≡ get_or s.store i d
  record-kept s t e i d h other = go (store_kept s t e h)
    where
      go : (t.store ≡ s.store) ⊎ StoredOpen s e t → get_or t.store i d ≡ get_or s.store i d
      go (inl same) = rw same
      go (inr o) = rw o.own (get_or-set_other s.store s.reading.depth i (new_level s.reading) d other)

  step_past : (i : ℕ) (s t : Stored) (e : ℕ) → t.reading.depth ≤ i → store_step R book ceiling s e ≡ given t
      → drop i t.store ≡ drop i s.store
  step_past i s t e h taken = go (store_kept s t e taken)
    where
      go : (t.store ≡ s.store) ⊎ StoredOpen s e t → drop i t.store ≡ drop i s.store
      go (inl same) = rw same
      go (inr o) =
          rw o.own (drop-set-lt i s.store s.reading.depth (new_level s.reading) (omega (arith, o.deeper)))

  -- the records at the greatest depth reached, and past it, are as they were
  pub store-past : (i : ℕ) (s : Stored) (es : List ℕ)
      → ((j : ℕ) → (feed_by (store_step R book ceiling) s (take j es)).last.reading.depth ≤ i)
      → drop i (feed_by (store_step R book ceiling) s es).last.store ≡ drop i s.store
  store-past i s es shallow =
      feed-keeps-while (store_step R book ceiling) (λ t. drop i t.store ≡ drop i s.store) (λ t. t.reading.depth ≤ i)
      (λ a b e same below taken. step_past i a b e below taken ∙ same) s es refl shallow
