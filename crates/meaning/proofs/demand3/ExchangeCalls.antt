-- The exchange of demand 3 about the calls themselves: a well-nested part that feeding takes on a settled level, exchanged for any
-- other well-nested run of known events within the event limit, leaves verdict, state and looks as they were. It holds from the
-- reading that opening gave with any book that is long enough, and so with the one that it wrote.
use mathlib.Core.Path.{◌≡◌, refl, sym, ap, ap₂, ◌∙◌}
use mathlib.Core.Bool.{true, ◌&&◌}
use mathlib.Core.List.{List, ◌++◌}
use Prim.Native.Nat.{ℕ, zero, suc, ◌+◌, ◌-◌, ◌≤◌}
use native.Mathlib.Omega.{arith}
use lib.ListN.{length, get_or}
use Rattle.meaning.specs.declared.Reading.{Reading}
use Rattle.meaning.specs.declared.Level.{Level}
use Rattle.meaning.specs.declared.Opening.{Opening}
use Rattle.meaning.specs.Answers.{given, ◌<?◌}
use Rattle.meaning.specs.RuleFile.{Rule, rule_of}
use Rattle.meaning.specs.FullReading.{Went, innermost, blank, most_events}
use Rattle.meaning.specs.Hedges.{well_nested}
use Rattle.meaning.specs.SkipBook.{in_hold}
use Rattle.meaning.specs.Skipping.{held, settled, skip_run}
use Rattle.meaning.specs.PassedOver.{PassedOverPart}
use Rattle.meaning.specs.Demands.{ReadsSame}
use Rattle.meaning.specs.Calls.{Judged, Stored, open_call, top_of, feed_call, finish_call, end_of_run, ReadsTo}
use Rattle.meaning.proofs.stores.Opens.{open-says}
use Rattle.meaning.proofs.stores.StoreView.{levels_of, OneView}
use Rattle.meaning.proofs.demand3.Exchange.{exchange}
use Rattle.meaning.proofs.demand3.Demand3Calls.{fed-is-run, finish-is-end}

-- whether a level is settled is the same over the store and over its levels
held_same : (book : List ℕ) (q depth : ℕ) (store : List Level)
    → (0 <? depth && in_hold book (get_or store (depth - 1) blank).above q)
    ≡ (0 <? depth && in_hold book (innermost (levels_of depth store)).above q)
unfolding innermost levels_of
held_same book q zero store = refl
held_same book q (suc d) store =
    let down : suc d - 1 ≡ d = omega arith in
    ap (λ (i : ℕ). 0 <? suc d && in_hold book (get_or store i blank).above q) down

settled_same : (book : List ℕ) (r : Reading) (store : List Level)
    → settled book r (top_of r store) ≡ settled book r (innermost (levels_of r.depth store))
unfolding settled held top_of
settled_same book r store = rw (held_same book r.state r.depth store)

module _ (file lent book : List ℕ) (store : List Level) (ceiling : ℕ) {o : Opening}
    (opened : open_call file lent ≡ given o) (long : (rule_of file).states + 1 ≤ length book) where
  abbrev R : Rule
  R = rule_of file

  -- what feeding from the reading that opening gave comes to
  abbrev fed : List ℕ → Went Stored
  fed events = feed_call file book ceiling o.reading store events

  view : (events : List ℕ) → OneView (length store) (fed events) (skip_run R book (length store) ceiling events)
  view events =
      let says = open-says file lent opened in
      rw says.first_is (fed-is-run file book store ceiling events says.accepted long)

  end : (events : List ℕ) → finish_call file book (fed events).last.reading (fed events).last.store
      ≡ end_of_run R (skip_run R book (length store) ceiling events).last
  end events =
      let says = open-says file lent opened in
      rw says.first_is (finish-is-end file book store ceiling events says.accepted long)

  -- after a feed that took all its events and left a settled level, a well-nested run is a passed-over part
  pub part-by-calls : (xs ys : List ℕ) → (fed xs).ended ≡ given tt
      → settled book (fed xs).last.reading (top_of (fed xs).last.reading (fed xs).last.store) ≡ true
      → well_nested R.letters ys ≡ true → PassedOverPart R book (length store) ceiling xs ys
  part-by-calls xs ys taken settles nested =
      record {
        reached = sym (view xs).ended ∙ taken;
        on_settled = sym (ap₂ (λ (r : Reading) (ls : List Level). settled book r (innermost ls)) (view xs).reading (sym (view xs).levels))
            ∙ (sym (settled_same book (fed xs).last.reading (fed xs).last.store) ∙ settles);
        nested = nested;
      }

  pub exchange-calls : (xs ys ys' zs : List ℕ) {j : Judged} → PassedOverPart R book (length store) ceiling xs ys
      → well_nested R.letters ys' ≡ true → length (xs ++ (ys' ++ zs)) ≤ most_events
      → ReadsTo file book o.reading store ceiling (xs ++ (ys ++ zs)) j
      → ReadsSame file book o.reading store ceiling (xs ++ (ys ++ zs)) (xs ++ (ys' ++ zs)) j
  exchange-calls xs ys ys' zs part nested' limit reads =
      let same =
      exchange R book (length store) ceiling xs ys ys' zs part nested' limit
      (sym (view (xs ++ (ys ++ zs))).ended ∙ reads.takes_all) (sym (end (xs ++ (ys ++ zs))) ∙ reads.verdict)
      in
      record {
        reads = record {
          takes_all = (view (xs ++ (ys' ++ zs))).ended ∙ same.takes_all;
          verdict = end (xs ++ (ys' ++ zs)) ∙ same.verdict;
        };
        looks = ap (λ (r : Reading). r.looks) (view (xs ++ (ys ++ zs))).reading
            ∙ (same.looks ∙ sym (ap (λ (r : Reading). r.looks) (view (xs ++ (ys' ++ zs))).reading));
      }
