-- Demand 3 about the calls themselves: for every file that is opened, the book that opening wrote and the reading that it gave,
-- every stream of events, every level store and every ceiling. A feed over the lent store is a run over levels, and with a book
-- of zeros it is full reading; so what is proved of runs is proved of the calls.
use Rattle.std.proofs.Common.{if◌then◌else◌}
use mathlib.Core.Path.{◌≡◌, refl, sym, ap, ap₂, ◌∙◌}
use mathlib.Core.List.{List}
use Prim.Native.Nat.{ℕ, zero, suc, ◌+◌, ◌-◌, ◌≤◌}
use native.Mathlib.Omega.{arith}
use lib.ListN.{length, get_or}
use Rattle.meaning.specs.declared.Reading.{Reading}
use Rattle.meaning.specs.declared.Level.{Level}
use Rattle.meaning.specs.declared.Opening.{Opening}
use Rattle.meaning.specs.Answers.{given, ◌<?◌}
use Rattle.meaning.specs.RuleFile.{Rule, check_rule, rule_of}
use Rattle.meaning.specs.FullReading.{Went, Run, innermost, fresh_reading, blank, feed_by, fresh_run, full_run}
use Rattle.meaning.specs.Calls.{Judged, Stored, open_call, opened_book, store_step, top_of, open_place, end_of, feed_call, finish_call, reading_check, end_of_run, ReadsTo}
use Rattle.meaning.specs.Skipping.{skip_run, Zeros}
use Rattle.meaning.specs.Demands.{EndsAsFull}
use Rattle.meaning.proofs.rulefile.Accepted.{accepted-is-rule}
use Rattle.meaning.proofs.stores.ReadingCheck.{feed-checked, finish-checked, fed-checked}
use Rattle.meaning.proofs.stores.StoreView.{levels_of, OneView, store-is-levels}
use Rattle.meaning.proofs.stores.Opens.{fresh-checked, open-says, opened-long, open-writes}
use Rattle.meaning.proofs.stores.ZeroBook.{zero-book}
use Rattle.meaning.proofs.demand3.Demand3.{demand-3}

-- the end of a reading over the store is the end of the run over its levels
place_same : (depth taken : ℕ) (store : List Level)
    → (if 0 <? depth then (get_or store (depth - 1) blank).opened else taken)
    ≡ (if 0 <? depth then (innermost (levels_of depth store)).opened else taken)
unfolding innermost levels_of
place_same zero taken store = refl
place_same (suc d) taken store =
    let down : suc d - 1 ≡ d = omega arith in
    ap (λ (i : ℕ). if 0 <? suc d then (get_or store i blank).opened else taken) down

end_same : (R : Rule) (r : Reading) (store : List Level) → end_of R r (top_of r store) ≡ end_of R r (innermost (levels_of r.depth store))
unfolding end_of open_place top_of
end_same R r store = rw (place_same r.depth r.taken store)

-- ---- a feed from a fresh reading is a run

module _ (file book : List ℕ) (store : List Level) (ceiling : ℕ) (events : List ℕ) {R : Rule}
    (accepted : check_rule file ≡ given R) (long : R.states + 1 ≤ length book) where
  abbrev fed : Went Stored
  fed = feed_call file book ceiling (fresh_reading R) store events

  abbrev run : Went Run
  run = skip_run R book (length store) ceiling events

  checked : reading_check file book (fresh_reading R) store ≡ given R
  checked = fresh-checked file book store accepted long

  by-steps : fed ≡ feed_by (store_step R book ceiling) (record { reading = fresh_reading R; store = store }) events
  by-steps = feed-checked file book (fresh_reading R) store ceiling events checked

  pub fed-is-run : OneView (length store) fed run
  unfolding fresh_reading levels_of
  fed-is-run = rw by-steps (store-is-levels R book ceiling (fresh_reading R) store events (omega arith))

  -- finish answers by the end of the run
  pub finish-is-end : finish_call file book fed.last.reading fed.last.store ≡ end_of_run R run.last
  finish-is-end =
      let one = fed-is-run in
      let again : reading_check file book fed.last.reading fed.last.store ≡ given R =
      rw by-steps (fed-checked file book ceiling (record { reading = fresh_reading R; store = store }) events checked)
      in
      finish-checked file book fed.last.reading fed.last.store again
      ∙ end_same R fed.last.reading fed.last.store
      ∙ ap₂ (λ (r : Reading) (ls : List Level). end_of R r (innermost ls)) one.reading (sym one.levels)

-- ---- the theorem

-- full reading is the reading by the calls with a book of zeros
module _ (file book : List ℕ) (store : List Level) (ceiling : ℕ) (events : List ℕ) {R : Rule}
    (accepted : check_rule file ≡ given R) (long : R.states + 1 ≤ length book) (empty : Zeros book) where
  abbrev in_full : Went Run
  in_full = full_run R (length store) ceiling events

  -- the run with that book is the full one
  is-full : run file book store ceiling events accepted long ≡ in_full
  is-full = zero-book book empty R (length store) ceiling (fresh_run R) events

  ended-full : (fed file book store ceiling events accepted long).ended ≡ in_full.ended
  ended-full =
      (fed-is-run file book store ceiling events accepted long).ended ∙ ap (λ (w : Went Run). w.ended) is-full

  finish-full : finish_call file book (fed file book store ceiling events accepted long).last.reading
      (fed file book store ceiling events accepted long).last.store ≡ end_of_run R in_full.last
  finish-full =
      finish-is-end file book store ceiling events accepted long ∙ ap (λ (w : Went Run). end_of_run R w.last) is-full

  pub full-by-calls : {j : Judged} → ReadsTo file book (fresh_reading R) store ceiling events j
      → (in_full.ended ≡ given tt) × (end_of_run R in_full.last ≡ given j)
  full-by-calls reads = (sym ended-full ∙ reads.takes_all, sym finish-full ∙ reads.verdict)

  pub calls-by-full : {j : Judged} → in_full.ended ≡ given tt → end_of_run R in_full.last ≡ given j
      → ReadsTo file book (fresh_reading R) store ceiling events j
  calls-by-full all judged = record { takes_all = ended-full ∙ all; verdict = finish-full ∙ judged }

-- Demand 3: wherever full reading ends with a verdict under some level store and ceiling, skipping with the book that opening
-- wrote, from the reading that it gave, ends so under the same.
pub demand-3-calls : (file lent : List ℕ) (store : List Level) (ceiling : ℕ) (events : List ℕ) {o : Opening} {j : Judged}
    → open_call file lent ≡ given o
    → (full_run (rule_of file) (length store) ceiling events).ended ≡ given tt
    → end_of_run (rule_of file) (full_run (rule_of file) (length store) ceiling events).last ≡ given j
    → EndsAsFull file lent o.reading store ceiling events j
demand-3-calls file lent store ceiling events opened all judged =
    let book : List ℕ = opened_book file lent in
    let says = open-says file lent opened in
    let long = opened-long file lent opened in
    let alike = demand-3 (accepted-is-rule file says.accepted) (open-writes file lent opened) (length store) ceiling events all judged in
    let one = fed-is-run file book store ceiling events says.accepted long in
    rw says.first_is
    (record {
      reads = record {
        takes_all = one.ended ∙ alike.takes_all;
        verdict = finish-is-end file book store ceiling events says.accepted long ∙ alike.verdict;
      };
      looks = ap (λ (r : Reading). r.looks) one.reading ∙ alike.looks;
      few = alike.few;
    })

-- the same, with full reading made by the calls: from the same reading, with a book of zeros
pub demand-3-by-calls : (file lent zeros : List ℕ) (store : List Level) (ceiling : ℕ) (events : List ℕ) {o : Opening} {j : Judged}
    → open_call file lent ≡ given o → (rule_of file).states + 1 ≤ length zeros → Zeros zeros
    → ReadsTo file zeros o.reading store ceiling events j → EndsAsFull file lent o.reading store ceiling events j
demand-3-by-calls file lent zeros store ceiling events opened long empty reads =
    let says = open-says file lent opened in
    let full = full-by-calls file zeros store ceiling events says.accepted long empty (rw says.first_is at reads) in
    demand-3-calls file lent store ceiling events opened full.0 full.1
