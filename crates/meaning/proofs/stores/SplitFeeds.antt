-- Feeding the first events and then the rest equals feeding all, when the first feed is not refused: what the first feed
-- leaves passes the second's checks, and feeding goes on from where it led.
use mathlib.Core.Path.{◌≡◌, refl, sym, ◌∙◌}
use mathlib.Core.List.{List, ◌++◌}
use Prim.Native.Nat.{ℕ}
use native.Mathlib.Omega.{arith}
use Rattle.meaning.specs.declared.Reading.{Reading}
use Rattle.meaning.specs.declared.Level.{Level}
use Rattle.meaning.specs.Answers.{Answer, given, refused}
use Rattle.meaning.specs.RuleFile.{Rule}
use Rattle.meaning.specs.FullReading.{Went, feed_by}
use Rattle.meaning.specs.Calls.{Stored, store_step, reading_check, feed_call}
use Rattle.meaning.proofs.laws.FeedLaws.{feed-append}
use Rattle.meaning.proofs.stores.ReadingCheck.{feed-checked, feed-unchecked, fed-checked}

module _ (file book : List ℕ) (ceiling : ℕ) (r : Reading) (store : List Level) (xs ys : List ℕ) where
  pub split-feeds : (feed_call file book ceiling r store xs).ended ≡ given tt
      → feed_call file book ceiling r store (xs ++ ys)
      ≡ feed_call file book ceiling (feed_call file book ceiling r store xs).last.reading
      (feed_call file book ceiling r store xs).last.store ys
  split-feeds h = go (reading_check file book r store) refl
    where
      go : (x : Answer Rule) → reading_check file book r store ≡ x
          → feed_call file book ceiling r store (xs ++ ys)
          ≡ feed_call file book ceiling (feed_call file book ceiling r store xs).last.reading
          (feed_call file book ceiling r store xs).last.store ys
      go (refused number place) e =
          let stopped = feed-unchecked file book r store ceiling xs e in
          let z : ◌≡◌ {A = ℕ} 0 1 = cc in
          absurd (omega arith)
      go (given R) e =
          let s : Stored = record { reading = r; store = store } in
          let w : Went Stored = feed_by (store_step R book ceiling) s xs in
          let first = feed-checked file book r store ceiling xs e in
          let again = fed-checked file book ceiling s xs e in
          rw first
          (feed-checked file book r store ceiling (xs ++ ys) e ∙
          (feed-append (store_step R book ceiling) s xs ys (rw first at h) ∙
          sym (feed-checked file book w.last.reading w.last.store ceiling ys again)))
