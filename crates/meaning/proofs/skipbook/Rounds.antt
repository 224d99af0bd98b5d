-- When a round adds nothing, the marks are the set that they are to find: the states in which a tree can end, and Reach. What a
-- round marks was marked or is one move away, so what is marked is in the set; marks that a round does not add to hold the start
-- and are closed under moves, so they hold all of it. And the 64th round never adds: before it each round added a state.
use mathlib.Core.Path.{◌≡◌, refl, sym, ap, ap₂, ◌∙◌, subst}
use mathlib.Core.Logic.{⊎_elim, ◌↔◌}
use mathlib.Core.Bool.{Bool, true, false, not, ◌&&◌, ◌||◌, false≢true}
use mathlib.Core.List.{List}
use Prim.Native.Nat.{ℕ, zero, suc, ◌≤◌, ◌<◌}
use native.Mathlib.Omega.{arith}
use lib.ListN.{length}
use borrow.Author.Tests.{leb-true, eqb-true, eq-eqb, not-true}
use Rattle.std.proofs.lemmas.Bool.{and_from, and_parts, cases_Bool, false_from_ne_true, or_cases, or_from, or_left, or_right}
use Rattle.std.specs.Cmp.Derive.{one_truth}
use Rattle.meaning.specs.Answers.{◌=?◌, ◌≤?◌}
use Rattle.meaning.specs.RuleFile.{Rule, IsRule, Move, no_move, to, none, as_move, letter_move, tree_move, tree_start_move, is_states}
use Rattle.meaning.specs.SkipBook.{CanEndTree, start_ends, letter_ends, tree_ends, Reach, itself, by_letter, by_tree, any_below, marked, goes_to, one_move, round, rounds, start_marks, end_round, ends_in, end_marks, only_state, reached_in, adds, reach_marks, rounds_used_up}
use Rattle.meaning.proofs.laws.Answered.{if-true, if-false}
use Rattle.meaning.proofs.skipbook.Reaching.{letter-below, tree-below, start-below, ends-below, no-start-no-ends, reach-below}
use Rattle.meaning.proofs.laws.Truths.{true-is-not-false, not-without, never_both}
use Rattle.meaning.proofs.laws.Bools.{below-any, any_below_lem, no-below-any, any-below-fails, any-below-same, listed-length, listed_same}
use Rattle.meaning.proofs.skipbook.Marks.{marked-below, marked-true, count_below, count_most, count_less, count-some}

-- ---- moves

pub none_is : {x : ℕ} → x ≡ none → as_move x ≡ no_move
unfolding as_move
none_is {x} e = if-true no_move (to x) (eq-eqb x none e)

-- a move to a state is a byte that is not none, and that state
pub move-to : (x : ℕ) {q : ℕ} → as_move x ≡ to q → ((x =? none) ≡ false) × (x ≡ q)
unfolding as_move
move-to x {q} e = ⊎_elim no_move_lem some (cases_Bool (x =? none))
  where
    no_move_lem : (x =? none) ≡ true → ((x =? none) ≡ false) × (x ≡ q)
    no_move_lem t = let z : ◌≡◌ {A = ℕ} 0 1 = cc (if-true no_move (to x) t) in absurd (omega arith)

    some : (x =? none) ≡ false → ((x =? none) ≡ false) × (x ≡ q)
    some f = (f, cc (if-false no_move (to x) f))

pub goes_to_lem : (p : ℕ) {m : Move} → m ≡ to p → goes_to p m ≡ true
unfolding goes_to
goes_to_lem p e = rw (e, goes_to) (eq-eqb p p refl)

pub goes-true : (p : ℕ) (m : Move) → goes_to p m ≡ true → m ≡ to p
unfolding goes_to
goes-true p no_move e = absurd (false≢true e)
goes-true p (to q) e = ap to (eqb-true q p e)

-- ---- one move

module _ (R : Rule) (lowers : List Bool) where
  pub letter-one : (p a : ℕ) {p' : ℕ} → a < R.letters → letter_move R p a ≡ to p' → one_move R lowers p p' ≡ true
  unfolding one_move
  letter-one p a {p'} h e =
      or_left _ (any_below R.states (λ lower. marked lowers lower && goes_to p' (tree_move R p lower)))
      (below-any R.letters (λ b. goes_to p' (letter_move R p b)) a h (goes_to_lem p' e))

  pub tree-one : (p lower : ℕ) {p' : ℕ} → lower < R.states → marked lowers lower ≡ true → tree_move R p lower ≡ to p'
      → one_move R lowers p p' ≡ true
  unfolding one_move
  tree-one p lower {p'} h c e =
      or_right (any_below R.letters (λ a. goes_to p' (letter_move R p a))) _
      (below-any R.states (λ l. marked lowers l && goes_to p' (tree_move R p l)) lower h (and_from _ _ c (goes_to_lem p' e)))

  -- one move is by a letter or by a tree
  pub one-by : {A : Type 0} (p p' : ℕ) → one_move R lowers p p' ≡ true
      → ((a : ℕ) → a < R.letters → letter_move R p a ≡ to p' → A)
      → ((lower : ℕ) → lower < R.states → marked lowers lower ≡ true → tree_move R p lower ≡ to p' → A) → A
  unfolding one_move
  one-by {A} p p' e letters trees =
      ⊎_elim by_letters by_trees
      (or_cases (any_below R.letters (λ a. goes_to p' (letter_move R p a)))
      (any_below R.states (λ lower. marked lowers lower && goes_to p' (tree_move R p lower))) e)
    where
      by_letters : any_below R.letters (λ a. goes_to p' (letter_move R p a)) ≡ true → A
      by_letters t = let s = any_below_lem R.letters _ t in letters s.0 s.1 (goes-true p' _ s.2)

      by_trees : any_below R.states (λ lower. marked lowers lower && goes_to p' (tree_move R p lower)) ≡ true → A
      by_trees t =
          let s = any_below_lem R.states _ t in
          let b = and_parts (marked lowers s.0) _ s.2 in
          trees s.0 s.1 b.0 (goes-true p' _ b.1)

  -- it leads to a state
  pub one_below : IsRule R → (p p' : ℕ) → one_move R lowers p p' ≡ true → p' < R.states
  one_below rule p p' e = one-by p p' e (λ a h. letter-below rule p a) (λ lower h c. tree-below rule p lower)

  -- ---- one round

  pub round-at : (marks : List Bool) (p : ℕ) → p < R.states
      → marked (round R lowers marks) p ≡ (marked marks p || any_below R.states (λ q. marked marks q && one_move R lowers q p))
  unfolding round
  round-at marks p h = marked-below R.states _ p h

  -- what is marked is a state, and was marked before or is one move away from what was
  pub round-true : (marks : List Bool) (p : ℕ) → marked (round R lowers marks) p ≡ true
      → (p < R.states) × ((marked marks p || any_below R.states (λ q. marked marks q && one_move R lowers q p)) ≡ true)
  unfolding round
  round-true marks p e = marked-true R.states _ p e

  pub round_by : {A : Type 0} (marks : List Bool) (p' : ℕ) → marked (round R lowers marks) p' ≡ true
      → (marked marks p' ≡ true → A)
      → ((p : ℕ) → marked marks p ≡ true → one_move R lowers p p' ≡ true → A) → A
  round_by marks p' e was moved =
      ⊎_elim was
      (λ t. let s = any_below_lem R.states _ t in
      let b = and_parts (marked marks s.0) _ s.2 in
      moved s.0 b.0 b.1)
      (or_cases (marked marks p') _ (round-true marks p' e).1)

  pub round-length : (marks : List Bool) → length (round R lowers marks) ≡ R.states
  unfolding round
  round-length marks = listed-length R.states _

  -- a round keeps the marks
  pub round_keeps : (marks : List Bool) (p : ℕ) → p < R.states → marked marks p ≡ true → marked (round R lowers marks) p ≡ true
  round_keeps marks p h e = round-at marks p h ∙ or_left _ _ e

  -- and marks all states one move away
  pub round-adds : (marks : List Bool) (p p' : ℕ) → p < R.states → p' < R.states → marked marks p ≡ true
      → one_move R lowers p p' ≡ true → marked (round R lowers marks) p' ≡ true
  round-adds marks p p' h h' e one =
      round-at marks p' h'
      ∙ or_right (marked marks p') _
      (below-any R.states (λ q. marked marks q && one_move R lowers q p') p h (and_from _ _ e one))

-- where a round adds nothing, what it marks was marked
pub nothing-added : (R : Rule) (before after : List Bool) → adds R before after ≡ false → (p : ℕ) → p < R.states
    → marked after p ≡ true → marked before p ≡ true
unfolding adds
nothing-added R before after e p h =
    not-without (marked after p) (marked before p) (no-below-any R.states (λ s. marked after s && not (marked before s)) e p h)

-- marks that a round does not add to are closed under its moves
pub closed : (R : Rule) (lowers marks : List Bool) {p p' : ℕ} → adds R marks (round R lowers marks) ≡ false → p < R.states
    → p' < R.states → marked marks p ≡ true → one_move R lowers p p' ≡ true → marked marks p' ≡ true
closed R lowers marks {p} {p'} e h h' m one =
    nothing-added R marks (round R lowers marks) e p' h' (round-adds R lowers marks p p' h h' m one)

-- marks that agree go on alike
pub round_same : (R : Rule) (lowers lowers' marks marks' : List Bool)
    → ((p : ℕ) → p < R.states → marked lowers p ≡ marked lowers' p)
    → ((p : ℕ) → p < R.states → marked marks p ≡ marked marks' p) → round R lowers marks ≡ round R lowers' marks'
unfolding round one_move
round_same R lowers lowers' marks marks' alike same =
    listed_same R.states _ _ (λ p' h. ap₂ (λ (a b : Bool). a || b) (same p' h)
    (any-below-same R.states _ _ (λ p l. ap₂ (λ (a b : Bool). a && b) (same p l)
    (ap (λ (b : Bool). any_below R.letters (λ a. goes_to p' (letter_move R p a)) || b)
    (any-below-same R.states _ _ (λ lower k. ap (λ (b : Bool). b && goes_to p' (tree_move R p lower)) (alike lower k)))))))

-- ---- rounds of any kind that keep the marks

module _ (R : Rule) (step : List Bool → List Bool)
    (keeps : (marks : List Bool) (p : ℕ) → p < R.states → marked marks p ≡ true → marked (step marks) p ≡ true)
    (alike : (marks marks' : List Bool) → ((p : ℕ) → p < R.states → marked marks p ≡ marked marks' p) → step marks ≡ step marks')
    (start : List Bool) where
  abbrev after : ℕ → List Bool
  after i = rounds step i start

  pub next-round : (i : ℕ) → rounds step (suc i) start ≡ step (rounds step i start)
  unfolding rounds
  next-round i = refl

  pub first_round : rounds step zero start ≡ start
  unfolding rounds
  first_round = refl

  -- what is marked at the start stays marked
  pub start-stays : (i p : ℕ) → p < R.states → marked start p ≡ true → marked (rounds step i start) p ≡ true
  start-stays zero p h e = rw first_round e
  start-stays (suc i) p h e = rw (next-round i) (keeps (after i) p h (start-stays i p h e))

  -- after a round that adds nothing no round adds anything
  pub round-rests : (marks : List Bool) → adds R marks (step marks) ≡ false → step (step marks) ≡ step marks
  round-rests marks e =
      alike (step marks) marks (λ p h. one_truth _ _ (nothing-added R marks (step marks) e p h) (keeps marks p h))

  adds_none : (marks : List Bool) → adds R marks marks ≡ false
  unfolding adds
  adds_none marks = any-below-fails R.states _ (λ p h. never_both (marked marks p))

  rests : (i : ℕ) → adds R (after i) (after (suc i)) ≡ false → adds R (after (suc i)) (after (suc (suc i))) ≡ false
  rests i e =
      rw (next-round (suc i), next-round i)
      (ap (adds R (step (after i))) (round-rests (after i) (rw (next-round i) at e)) ∙ adds_none (step (after i)))

  -- a round that adds has more marks after it
  adds-more : (marks : List Bool) → adds R marks (step marks) ≡ true
      → count_below R.states (marked marks) < count_below R.states (marked (step marks))
  unfolding adds
  adds-more marks e =
      let s = any_below_lem R.states (λ p. marked (step marks) p && not (marked marks p)) e in
      let b = and_parts (marked (step marks) s.0) _ s.2 in
      count_less R.states (marked marks) (marked (step marks)) (keeps marks) s.0 s.1 (not-true _ b.1) b.0

  module _ (q : ℕ) (low : q < R.states) (there : marked start q ≡ true) where
    -- a round that adds comes after rounds that all added, so after it more than i states are marked
    many-marked : (i : ℕ) → adds R (after i) (after (suc i)) ≡ true → suc i < count_below R.states (marked (after (suc i)))
    many-marked zero e =
        rw (next-round zero)
        (omega (
          arith,
          count-some R.states (marked (after zero)) q low (start-stays zero q low there),
          adds-more (after zero) (rw (next-round zero) at e),
        ))
    many-marked (suc i) e =
        let added : adds R (after i) (after (suc i)) ≡ true =
        ⊎_elim (λ t. t) (λ f. true-is-not-false e (rests i f)) (cases_Bool (adds R (after i) (after (suc i)))) in
        let more = adds-more (after (suc i)) (rw (next-round (suc i)) at e) in
        rw (next-round (suc i)) (omega (arith, many-marked i added, more))

    -- so with at most 64 states the 64th round adds none
    pub last-adds-none : R.states ≤ 64 → adds R (rounds step 63 start) (rounds step 64 start) ≡ false
    last-adds-none few =
        ⊎_elim (λ e. absurd (omega (arith, many-marked 63 e, count_most R.states (marked (after 64)), few))) (λ f. f)
        (cases_Bool (adds R (after 63) (after 64)))

pub most-states : {R : Rule} → IsRule R → R.states ≤ 64
unfolding is_states
most-states {R} rule = leb-true R.states 64 (and_parts (1 ≤? R.states) _ rule.states_in).1

-- ---- the states in which a tree can end

module _ (R : Rule) where
  pub end-keeps : (marks : List Bool) (p : ℕ) → p < R.states → marked marks p ≡ true → marked (end_round R marks) p ≡ true
  unfolding end_round
  end-keeps marks p h e = round_keeps R marks marks p h e

  pub end-alike : (marks marks' : List Bool) → ((p : ℕ) → p < R.states → marked marks p ≡ marked marks' p)
      → end_round R marks ≡ end_round R marks'
  unfolding end_round
  end-alike marks marks' same = round_same R marks marks' marks marks' same same

  pub start-true : (p : ℕ) → marked (start_marks R) p ≡ true → tree_start_move R ≡ to p
  unfolding start_marks
  start-true p e = goes-true p (tree_start_move R) (marked-true R.states (λ q. goes_to q (tree_start_move R)) p e).1

  pub start-length : length (start_marks R) ≡ R.states
  unfolding start_marks
  start-length = listed-length R.states _

  pub start-is-marked : IsRule R → {p : ℕ} → tree_start_move R ≡ to p → marked (start_marks R) p ≡ true
  unfolding start_marks
  start-is-marked rule {p} e =
      marked-below R.states (λ q. goes_to q (tree_start_move R)) p (start-below rule e) ∙ goes_to_lem p e

  -- what is marked can end a tree
  pub marked-ends : (i p : ℕ) → marked (ends_in R i) p ≡ true → CanEndTree R p
  unfolding ends_in rounds end_round
  marked-ends zero p e = start_ends (start-true p e)
  marked-ends (suc i) p e =
      round_by R (ends_in R i) (ends_in R i) p e (marked-ends i p)
      (λ q m one. one-by R (ends_in R i) q p one (λ a h leads. letter_ends a (marked-ends i q m) h leads)
      (λ lower h c leads. tree_ends lower (marked-ends i q m) (marked-ends i lower c) leads))

  -- marks that a round does not add to hold all of them
  pub ends-marked : IsRule R → (marks : List Bool)
      → ((p : ℕ) → tree_start_move R ≡ to p → marked marks p ≡ true) → adds R marks (end_round R marks) ≡ false
      → {p : ℕ} → CanEndTree R p → marked marks p ≡ true
  unfolding end_round
  ends-marked rule marks start e (start_ends {p} leads) = start p leads
  ends-marked rule marks start e (letter_ends {p} {p'} a ends known leads) =
      closed R marks marks e (ends-below rule ends) (letter-below rule p a leads) (ends-marked rule marks start e ends)
      (letter-one R marks p a known leads)
  ends-marked rule marks start e (tree_ends {p} {p'} lower ends below leads) =
      closed R marks marks e (ends-below rule ends) (tree-below rule p lower leads) (ends-marked rule marks start e ends)
      (tree-one R marks p lower (ends-below rule below) (ends-marked rule marks start e below) leads)

  -- with no tree start no round adds
  none-ends : tree_start_move R ≡ no_move → (i p : ℕ) → marked (ends_in R i) p ≡ false
  none-ends none i p = false_from_ne_true _ (λ t. no-start-no-ends none (marked-ends i p t))

  -- the 64th round never adds
  pub ends-never-used-up : IsRule R → adds R (ends_in R 63) (ends_in R 64) ≡ false
  unfolding ends_in adds
  ends-never-used-up rule = go (tree_start_move R) refl
    where
      go : (x : Move) → tree_start_move R ≡ x → adds R (ends_in R 63) (ends_in R 64) ≡ false
      go no_move e = any-below-fails R.states _ (λ p h. rw (none-ends e 64 p))
      go (to q) e =
          last-adds-none R (end_round R) end-keeps end-alike (start_marks R) q (start-below rule e) (start-is-marked rule e)
          (most-states rule)

  -- so the marks are the states in which a tree can end
  pub marks-are-ends : IsRule R → (p : ℕ) → (marked (end_marks R) p ≡ true) ↔ CanEndTree R p
  unfolding end_marks ends_in rounds
  marks-are-ends rule p = (
    marked-ends 64 p,
    λ ends. rw (next-round R (end_round R) end-keeps end-alike (start_marks R) 63)
        (end-keeps (ends_in R 63) p (ends-below rule ends)
        (ends-marked rule (ends_in R 63)
        (λ q leads. start-stays R (end_round R) end-keeps end-alike (start_marks R) 63 q (start-below rule leads) (start-is-marked rule leads))
        (ends-never-used-up rule) ends)),
  )

-- ---- Reach

module _ (R : Rule) where
  pub reach-keeps : (marks : List Bool) (p : ℕ) → p < R.states → marked marks p ≡ true
      → marked (round R (end_marks R) marks) p ≡ true
  reach-keeps = round_keeps R (end_marks R)

  pub reach-alike : (marks marks' : List Bool) → ((p : ℕ) → p < R.states → marked marks p ≡ marked marks' p)
      → round R (end_marks R) marks ≡ round R (end_marks R) marks'
  reach-alike marks marks' same = round_same R (end_marks R) (end_marks R) marks marks' (λ p h. refl) same

  pub only-true : (q p : ℕ) → marked (only_state R q) p ≡ true → p ≡ q
  unfolding only_state
  only-true q p e = eqb-true p q (marked-true R.states (λ s. s =? q) p e).1

  pub only-start : (q : ℕ) → q < R.states → marked (only_state R q) q ≡ true
  unfolding only_state
  only-start q h = marked-below R.states (λ s. s =? q) q h ∙ eq-eqb q q refl

  pub only-length : (q : ℕ) → length (only_state R q) ≡ R.states
  unfolding only_state
  only-length q = listed-length R.states _

  pub reached-first : (q : ℕ) → reached_in R zero q ≡ only_state R q
  unfolding reached_in rounds
  reached-first q = refl

  pub reached-next : (i q : ℕ) → reached_in R (suc i) q ≡ round R (end_marks R) (reached_in R i q)
  unfolding reached_in rounds
  reached-next i q = refl

  -- the start is marked after any number of rounds
  pub start-marked : (i q : ℕ) → q < R.states → marked (reached_in R i q) q ≡ true
  unfolding reached_in
  start-marked i q h = start-stays R (round R (end_marks R)) reach-keeps reach-alike (only_state R q) i q h (only-start q h)

  -- what is marked is in Reach
  pub marked-reached : IsRule R → (i q p : ℕ) → marked (reached_in R i q) p ≡ true → Reach R q p
  marked-reached rule zero q p e = subst (λ (s : ℕ). Reach R q s) (sym (only-true q p (rw (reached-first q) at e))) itself
  marked-reached rule (suc i) q p e =
      round_by R (end_marks R) (reached_in R i q) p (rw (reached-next i q) at e) (marked-reached rule i q p)
      (λ s m one. one-by R (end_marks R) s p one (λ a h leads. by_letter a (marked-reached rule i q s m) h leads)
      (λ lower h c leads. by_tree lower (marked-reached rule i q s m) ((marks-are-ends R rule lower).0 c) leads))

  -- marks that a round does not add to hold all of Reach
  pub reached-marked : IsRule R → (q : ℕ) (marks : List Bool) → q < R.states → marked marks q ≡ true
      → adds R marks (round R (end_marks R) marks) ≡ false → {p : ℕ} → Reach R q p → marked marks p ≡ true
  reached-marked rule q marks h start e itself = start
  reached-marked rule q marks h start e (by_letter {p = p} {p' = p'} a r l m) =
      closed R (end_marks R) marks e (reach-below rule h r) (letter-below rule p a m) (reached-marked rule q marks h start e r)
      (letter-one R (end_marks R) p a l m)
  reached-marked rule q marks h start e (by_tree {p = p} {p' = p'} lower r c m) =
      closed R (end_marks R) marks e (reach-below rule h r) (tree-below rule p lower m) (reached-marked rule q marks h start e r)
      (tree-one R (end_marks R) p lower (ends-below rule c) ((marks-are-ends R rule lower).1 c) m)

  -- when the 64th round adds nothing, the marks are Reach
  pub marks-are-reach : IsRule R → (q : ℕ) → q < R.states → adds R (reached_in R 63 q) (reached_in R 64 q) ≡ false
      → (p : ℕ) → (marked (reach_marks R q) p ≡ true) ↔ Reach R q p
  unfolding reach_marks
  marks-are-reach rule q h e p = (
    marked-reached rule 64 q p,
    λ r. rw (reached-next 63 q) (reach-keeps (reached_in R 63 q) p (reach-below rule h r)
        (reached-marked rule q (reached_in R 63 q) h (start-marked 63 q h) (rw (reached-next 63 q) at e) r)),
  )

  -- the 64th round never adds, from any state
  pub reach-never-used-up : IsRule R → (q : ℕ) → q < R.states → adds R (reached_in R 63 q) (reached_in R 64 q) ≡ false
  unfolding reached_in
  reach-never-used-up rule q h =
      last-adds-none R (round R (end_marks R)) reach-keeps reach-alike (only_state R q) q h (only-start q h) (most-states rule)

pub never-used-up : (R : Rule) → IsRule R → rounds_used_up R ≡ false
unfolding rounds_used_up
never-used-up R rule =
    or_from _ _ (ends-never-used-up R rule) (any-below-fails R.states _ (λ q h. reach-never-used-up R rule q h))
