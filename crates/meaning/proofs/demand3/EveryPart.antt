-- Demand 3 after every first part, and not of the totals alone: where full reading takes all events, then after the first i of
-- them, for every i, skipping with the rule's own book has taken those i, and its looks so far are those of them that full
-- reading does not mark as passed over; and the next event is a look exactly if it is not passed over. A first part of events
-- that are all taken is all taken, so what is proved of whole runs holds of it.
use Rattle.std.proofs.Common.{if◌then◌else◌}
use mathlib.Core.Path.{◌≡◌, refl, ap, ◌∙◌}
use mathlib.Core.List.{List, [], ◌∷◌, ◌++◌}
use Prim.Native.Nat.{ℕ, ◌+◌, ◌≤◌, ◌<◌}
use native.Mathlib.Numerals.{add-one}
use native.Mathlib.Omega.{arith}
use lib.ListN.{length, get_or, take, drop, take-append-drop}
use lib.Seq.{take-suc}
use Rattle.meaning.specs.declared.Reading.{Reading}
use Rattle.meaning.specs.declared.Level.{Level}
use Rattle.meaning.specs.declared.Opening.{Opening}
use Rattle.meaning.specs.Answers.{Answer, given, refused}
use Rattle.meaning.specs.RuleFile.{Rule, IsRule, rule_of}
use Rattle.meaning.specs.FullReading.{Run, Went, go_on, feed_by, full_step, fresh_run, full_run}
use Rattle.meaning.specs.SkipBook.{IsBook}
use Rattle.meaning.specs.PassedOver.{passed_over, then_count, not_passed_over}
use Rattle.meaning.specs.Demands.{SoFar}
use Rattle.meaning.specs.Calls.{Judged, open_call, opened_book, feed_call, end_of_run, ReadsTo}
use Rattle.meaning.specs.Skipping.{Zeros, skip_run}
use Rattle.meaning.proofs.laws.FeedLaws.{feed-split}
use Rattle.meaning.proofs.rulefile.Accepted.{accepted-is-rule}
use Rattle.meaning.proofs.stores.Opens.{open-says, opened-long, open-writes}
use Rattle.meaning.proofs.demand3.Demand3.{Agrees, skipping-agrees}
use Rattle.meaning.proofs.demand3.Demand3Calls.{fed-is-run, full-by-calls}

-- ---- a first part

-- where all events are taken, so are the first i
pub part-taken : {A : Type 0} (step : A → ℕ → Answer A) (a : A) (es : List ℕ) (i : ℕ) → (feed_by step a es).ended ≡ given tt
    → (feed_by step a (take i es)).ended ≡ given tt
part-taken step a es i all = (feed-split step a (take i es) (drop i es) (rw (take-append-drop i es) all)).0

-- ---- the events not passed over, of two parts

then-both : (m : Run) (x : Answer Run) (first : Run → Went Run) (rest both after : Run → ℕ)
    → ((b : Run) → (first b).ended ≡ given tt → both b ≡ rest b + after (first b).last) → (go_on m x first).ended ≡ given tt
    → then_count x both ≡ then_count x rest + after (go_on m x first).last
unfolding then_count go_on
then-both m (given b) first rest both after next all = next b all
then-both m (refused number place) first rest both after next all = let z : ◌≡◌ {A = ℕ} 0 1 = cc in absurd (omega arith)

then-none : (x : Answer Run) → then_count x (λ next. 0) ≡ 0
unfolding then_count
then-none (given m) = refl
then-none (refused number place) = refl

module _ (R : Rule) (book : List ℕ) (room ceiling : ℕ) where
  -- those of the first part and, from where full reading then is, those of the second
  pub not-passed-over-append : (m : Run) (xs ys : List ℕ) → (feed_by (full_step R room ceiling) m xs).ended ≡ given tt
      → not_passed_over R book room ceiling m (xs ++ ys)
      ≡ not_passed_over R book room ceiling m xs
      + not_passed_over R book room ceiling (feed_by (full_step R room ceiling) m xs).last ys
  unfolding not_passed_over feed_by
  not-passed-over-append m [] ys all = omega arith
  not-passed-over-append m (e ∷ xs) ys all =
      omega (
        arith,
        then-both m (full_step R room ceiling m e) (λ b. feed_by (full_step R room ceiling) b xs)
            (λ b. not_passed_over R book room ceiling b xs) (λ b. not_passed_over R book room ceiling b (xs ++ ys))
            (λ b. not_passed_over R book room ceiling b ys) (λ b. not-passed-over-append b xs ys) all,
      )

  -- one event counts if it is not passed over
  not-passed-over-one : (m : Run) (e : ℕ) → not_passed_over R book room ceiling m (e ∷ []) ≡ (if passed_over book m e then 0 else 1)
  unfolding not_passed_over
  not-passed-over-one m e = omega (arith, then-none (full_step R room ceiling m e))

  pub not-passed-over-next : (m : Run) (es : List ℕ) (i : ℕ) → i < length es
      → (feed_by (full_step R room ceiling) m (take i es)).ended ≡ given tt
      → not_passed_over R book room ceiling m (take (i + 1) es)
      ≡ not_passed_over R book room ceiling m (take i es)
      + (if passed_over book (feed_by (full_step R room ceiling) m (take i es)).last (get_or es i 0) then 0 else 1)
  not-passed-over-next m es i h all =
      rw (add-one i, take-suc es i 0 h, ← not-passed-over-one (feed_by (full_step R room ceiling) m (take i es)).last (get_or es i 0))
      (not-passed-over-append m (take i es) (get_or es i 0 ∷ []) all)

-- ---- of runs

module _ {R : Rule} {book : List ℕ} (rule : IsRule R) (own : IsBook R book) (room ceiling : ℕ) (es : List ℕ)
    (all : (full_run R room ceiling es).ended ≡ given tt) where
  -- after the first i events skipping agrees with full reading
  pub agrees-so-far : (i : ℕ) → Agrees R book room ceiling (take i es)
  agrees-so-far i = skipping-agrees rule own room ceiling (take i es) (part-taken (full_step R room ceiling) (fresh_run R) es i all)

  -- the event at place i is a look of skipping exactly if full reading does not mark it as passed over
  pub run-look-exactly-if : (i : ℕ) → i < length es
      → (skip_run R book room ceiling (take (i + 1) es)).last.reading.looks
      ≡ (skip_run R book room ceiling (take i es)).last.reading.looks
      + (if passed_over book (full_run R room ceiling (take i es)).last (get_or es i 0) then 0 else 1)
  run-look-exactly-if i h =
      rw ((agrees-so-far (i + 1)).looks, (agrees-so-far i).looks)
      (not-passed-over-next R book room ceiling (fresh_run R) es i h (part-taken (full_step R room ceiling) (fresh_run R) es i all))

-- ---- of the calls

module _ (file lent : List ℕ) (store : List Level) (ceiling : ℕ) (events : List ℕ) {o : Opening} (opened : open_call file lent ≡ given o)
    (all : (full_run (rule_of file) (length store) ceiling events).ended ≡ given tt) where
  -- Demand 3 after every first part, wherever full reading takes all events
  pub demand-3-so-far : (i : ℕ) → SoFar file lent o.reading store ceiling (take i events)
  demand-3-so-far i =
      let says = open-says file lent opened in
      let agrees =
      agrees-so-far (accepted-is-rule file says.accepted) (open-writes file lent opened) (length store) ceiling events all i in
      let one = fed-is-run file (opened_book file lent) store ceiling (take i events) says.accepted (opened-long file lent opened) in
      rw says.first_is
      (record {
        takes_all = one.ended ∙ agrees.takes_all;
        looks = ap (λ (r : Reading). r.looks) one.reading ∙ agrees.looks;
      })

  -- the event at place i is a look of skipping exactly if full reading does not mark it as passed over
  pub look-exactly-if : (i : ℕ) → i < length events
      → (feed_call file (opened_book file lent) ceiling o.reading store (take (i + 1) events)).last.reading.looks
      ≡ (feed_call file (opened_book file lent) ceiling o.reading store (take i events)).last.reading.looks
      + (if passed_over (opened_book file lent) (full_run (rule_of file) (length store) ceiling (take i events)).last (get_or events i 0)
      then 0 else 1)
  look-exactly-if i h =
      rw ((demand-3-so-far (i + 1)).looks, (demand-3-so-far i).looks)
      (not-passed-over-next (rule_of file) (opened_book file lent) (length store) ceiling (fresh_run (rule_of file)) events i h
      (part-taken (full_step (rule_of file) (length store) ceiling) (fresh_run (rule_of file)) events i all))

-- with the premises of demand 3: full reading ends with a verdict
pub demand-3-every-part : (file lent : List ℕ) (store : List Level) (ceiling : ℕ) (events : List ℕ) {o : Opening} {j : Judged}
    → open_call file lent ≡ given o
    → (full_run (rule_of file) (length store) ceiling events).ended ≡ given tt
    → end_of_run (rule_of file) (full_run (rule_of file) (length store) ceiling events).last ≡ given j
    → (i : ℕ) → SoFar file lent o.reading store ceiling (take i events)
demand-3-every-part file lent store ceiling events opened all judged = demand-3-so-far file lent store ceiling events opened all

-- the same, with full reading made by the calls: from the same reading, with a book of zeros
pub demand-3-every-part-by-calls : (file lent zeros : List ℕ) (store : List Level) (ceiling : ℕ) (events : List ℕ) {o : Opening} {j : Judged}
    → open_call file lent ≡ given o → (rule_of file).states + 1 ≤ length zeros → Zeros zeros
    → ReadsTo file zeros o.reading store ceiling events j
    → (i : ℕ) → SoFar file lent o.reading store ceiling (take i events)
demand-3-every-part-by-calls file lent zeros store ceiling events opened long empty reads =
    let says = open-says file lent opened in
    demand-3-so-far file lent store ceiling events opened
    (full-by-calls file zeros store ceiling events says.accepted long empty (rw says.first_is at reads)).0
