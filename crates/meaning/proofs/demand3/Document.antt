-- Demand 3 and the exchange for the whole-document call: it answers a verdict exactly where feed and finish, with the book that
-- opening wrote, from the reading that it gave and under the call's own ceiling, read to that verdict. So what is proved of the calls is proved of it.
use mathlib.Core.Path.{◌≡◌, ap, ◌∙◌}
use mathlib.Core.Logic.{◌↔◌}
use mathlib.Core.Bool.{true}
use mathlib.Core.List.{List, ◌++◌}
use Prim.Native.Nat.{ℕ, ◌+◌, ◌≤◌}
use lib.ListN.{length}
use Rattle.meaning.specs.declared.Level.{Level}
use Rattle.meaning.specs.declared.Opening.{Opening}
use Rattle.meaning.specs.Answers.{given}
use Rattle.meaning.specs.RuleFile.{rule_of}
use Rattle.meaning.specs.FullReading.{most_events, full_run}
use Rattle.meaning.specs.Hedges.{well_nested}
use Rattle.meaning.specs.Skipping.{Zeros}
use Rattle.meaning.specs.PassedOver.{PassedOverPart}
use Rattle.meaning.specs.Calls.{Judged, open_call, opened_book, largest_ceiling, end_of_run, finish_fed, read_with, whole_document, ReadsTo}
use Rattle.meaning.proofs.laws.Answered.{giving-given, giving-passes}
use Rattle.meaning.proofs.stores.Opens.{opened-long}
use Rattle.meaning.proofs.stores.Whole.{fed_first, whole-opened}
use Rattle.meaning.proofs.demand3.Demand3Calls.{demand-3-calls, demand-3-by-calls}
use Rattle.meaning.proofs.demand3.ExchangeCalls.{exchange-calls}

module _ (file lent : List ℕ) (store : List Level) {o : Opening} (opened : open_call file lent ≡ given o) where
  answers : (events : List ℕ) → (whole_document file lent store events).answer ≡ finish_fed file (opened_book file lent) (fed_first file lent o.reading store events)
  unfolding read_with
  answers events = ap (λ w. w.answer) (whole-opened file lent store events opened)

  -- what it answers is what the calls read to
  pub document-reads : (events : List ℕ) (j : Judged)
      → ((whole_document file lent store events).answer ≡ given j)
      ↔ ReadsTo file (opened_book file lent) o.reading store largest_ceiling events j
  unfolding finish_fed
  document-reads events j = (
    λ answered.
        let g = giving-given (fed_first file lent o.reading store events).ended _ (rw (answers events) at answered) in
        record { takes_all = g.1; verdict = g.2 },
    λ reads. answers events ∙ (giving-passes _ reads.takes_all ∙ reads.verdict),
  )

  -- Demand 3: wherever full reading under that store and the call's ceiling ends with a verdict, the call answers it.
  pub demand-3-document : (events : List ℕ) {j : Judged}
      → (full_run (rule_of file) (length store) largest_ceiling events).ended ≡ given tt
      → end_of_run (rule_of file) (full_run (rule_of file) (length store) largest_ceiling events).last ≡ given j
      → (whole_document file lent store events).answer ≡ given j
  demand-3-document events {j} all judged =
      (document-reads events j).1 (demand-3-calls file lent store largest_ceiling events opened all judged).reads

  -- the same, with full reading made by the calls: from the same reading, with a book of zeros
  pub demand-3-document-by-calls : (zeros events : List ℕ) {j : Judged} → (rule_of file).states + 1 ≤ length zeros → Zeros zeros
      → ReadsTo file zeros o.reading store largest_ceiling events j → (whole_document file lent store events).answer ≡ given j
  demand-3-document-by-calls zeros events {j} long empty reads =
      (document-reads events j).1 (demand-3-by-calls file lent zeros store largest_ceiling events opened long empty reads).reads

  -- The exchange: with another well-nested run in the place of a passed-over part, the call answers the same verdict and state.
  pub exchange-document : (xs ys ys' zs : List ℕ) {j : Judged}
      → PassedOverPart (rule_of file) (opened_book file lent) (length store) largest_ceiling xs ys
      → well_nested (rule_of file).letters ys' ≡ true → length (xs ++ (ys' ++ zs)) ≤ most_events
      → (whole_document file lent store (xs ++ (ys ++ zs))).answer ≡ given j
      → (whole_document file lent store (xs ++ (ys' ++ zs))).answer ≡ given j
  exchange-document xs ys ys' zs {j} part nested' limit answered =
      (document-reads (xs ++ (ys' ++ zs)) j).1
      (exchange-calls file lent (opened_book file lent) store largest_ceiling opened (opened-long file lent opened) xs ys ys' zs part nested' limit
      ((document-reads (xs ++ (ys ++ zs)) j).0 answered)).reads
