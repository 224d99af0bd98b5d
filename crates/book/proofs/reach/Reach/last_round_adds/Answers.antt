-- The set of the tree start is asked first, and then the set of each state: a round adds to one of them, or to none.
use Rattle.std.proofs.Common.{◌≡◌, ℕ, List, Bool, true, false, ◌<◌, ◌^◌, length, take, sym, arith, rules, tests, get_or-take, length-take-le}
use Rattle.std.specs.Bool.{MatchBool}
use Rattle.std.proofs.lemmas.Iterator.{cases_from_any, YieldsList-from_slice}
use Rattle.book.specs.Sets.{StandsFor, joined}
use Rattle.book.proofs.Reached.{used-up-by-ends, used-up-by-reach, adds-none, rounds-suffice}
use Rattle.book.proofs.reach.Reach.last_round_adds.Goals as goal

record Next (moves : List ℕ) (set next : ℕ) : Type 0 where
  small : next < 2 ^ 64
  stands : StandsFor next (joined moves set)

abbrev Other : List ℕ → ℕ → Type 0
Other moves set = (next : ℕ) × Next moves set next × (next ≡ set → ⊥)

abbrev Same : List ℕ → ℕ → Type 0
Same moves set = (next : ℕ) × Next moves set next × (next ≡ set)

pub returns-then-with_members-ends : goal.returns-then-with_members-ends
returns-then-with_members-ends c =
    let ends = c.args.self.now.ends in
    sym (used-up-by-ends ends.rule.accepted ends.found c.with_members.result (omega arith) c.with_members.ensures c.if-with_members-ends.true)

decided : {Some None : Type 0} {used : Bool} (r : Bool) → MatchBool r Some None → (Some → used ≡ true) → (None → used ≡ false) → r ≡ used
decided true m some none = sym (some m)
decided false m some none = sym (none m)

pub returns : goal.returns
returns c =
    let reach = c.args.self.now in
    let ends = reach.ends in
    let n : ℕ = ends.rule.rule.states in
    let long : length (take n reach.sets) ≡ n = length-take-le n reach.sets (omega arith) in
    let cases = cases_from_any _ _ _ (Other ends.moves) (Same ends.moves) c.any.ensures.ran (YieldsList-from_slice (take n reach.sets) cc) (λ x q k. search (rules, tests)) (λ x q k. search (rules, tests)) in
    decided c.any.result cases
    (λ some.
    let inside : some.0 < n = omega (arith, long, some.1) in
    let here = get_or-take n reach.sets some.0 0 inside in
    let other = some.2 0 in
    used-up-by-reach ends.rule.accepted ends.found reach.sets reach.reached some.0 inside other.0 other.1.small (rw here at other.1.stands) (rw here at other.2))
    (λ none. rounds-suffice ends.rule.accepted ends.found reach.sets reach.reached c.with_members.result (omega arith) c.with_members.ensures c.if-with_members-ends.false
    (λ q h.
    let here = get_or-take n reach.sets q 0 h in
    let same = none q 0 (omega arith) (omega (arith, long, h)) in
    adds-none ends.rule.accepted ends.found reach.sets reach.reached q h same.0 same.1.small (rw here at same.1.stands) (rw here at same.2)))
