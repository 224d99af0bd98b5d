-- Laws of one event, which the proofs of the functions cite: what a look in a table gives, which event a number is, and that
-- the numbers the code holds are those of the rule.
use Rattle.std.proofs.Common.{if◌then◌else◌, Result, Ok, Err}
use Rattle.std.specs.Result.{IsErrAnd}
use Rattle.std.proofs.lemmas.Result.{err_from_is_err_and}
use mathlib.Core.Path.{◌≡◌, refl, ap, ◌∙◌}
use mathlib.Core.Bool.{Bool, true, false}
use mathlib.Core.List.{List}
use Prim.Native.Nat.{ℕ, zero, suc, ◌+◌, ◌-◌, ◌≤◌, ◌<◌}
use native.Mathlib.Omega.{arith}
use borrow.Author.Tests.{ne_eqb, leb-true, lt-leb, ltb-true}
use lib.ListN.{length}
use Rattle.std.proofs.lemmas.Bool.{and_parts, or_right}
use Rattle.meaning.specs.Answers.{Answer, given, refuse◌at◌when◌otherwise◌, ◌giving◌, ◌≤?◌, ◌=?◌}
use Rattle.meaning.specs.RuleFile.{none, most_letters, class_count, as_move, class_of, is_class, is_letters, rule_of, to, no_move, tree_start_move}
use Rattle.meaning.specs.FullReading.{opens, closes, letter, event_of, most_events, known_event, look, looked, new_level, full_turn, Turn, stays, stores, ends}
use Rattle.meaning.specs.SkipBook.{in_still}
use Rattle.meaning.specs.Skipping.{held, settled}
use Rattle.meaning.specs.declared.Reading.{Reading}
use Rattle.meaning.specs.declared.Level.{Level}
use Rattle.meaning.proofs.laws.Answered.{refuse-passes}
use Rattle.meaning.proofs.rulefile.Accepted.{accepted-is-rule}
use Rattle.rule.proofs.Said.{states-are, letters-are, few-states, or-none}
use Rattle.rule.proofs.Looks.{letter-look, tree-look, class-look}
use Rattle.rule.specs.Tables.{letter_byte, tree_byte, class_byte, table_says, move_in}
use Rattle.rule.specs.Says.{numbers_of, RuleOf}
use Rattle.rule.specs.declared.Rule.{Rule}
use Rattle.rule.specs.declared.tables.Table.{Table}
use Rattle.rule.specs.declared.tables.Table.TheVariants.{LetterMoves, TreeStart, TreeMoves}
use Rattle.meaning.specs.declared.reason.Reason.{Reason}
use Rattle.turning.specs.declared.Turn as code
use Rattle.turning.specs.Readings.{StatesIn, BookServes}
use Rattle.turning.specs.Turns.{turn_says, look_says, found_answer, look_answer}

-- ---- a look at a byte of a table

module _ (ceiling : ℕ) (r : Reading) (table : Table) (byte : ℕ) (next : ℕ → Turn) where
  -- a look that may be refused: at the ceiling, and then where there is no move
  abbrev pub look_at : Answer Turn
  look_at = refuse 9 at r.taken when ceiling ≤? r.looks otherwise look (table_says table) r.taken (as_move byte) next

  look_is : (look_answer ceiling r (move_in table byte) giving λ q. given (next q)) ≡ look_at
  unfolding look_answer found_answer move_in refuse◌at◌when◌otherwise◌ look as_move ◌giving◌
  look_is = go (ceiling ≤? r.looks) (byte =? none)
    where
      go : (full is_none : Bool)
          → ((refuse 9 at r.taken when full otherwise found_answer r (if is_none then Err table else Ok byte)) giving λ q. given (next q))
          ≡ (refuse 9 at r.taken when full otherwise look (table_says table) r.taken (if is_none then no_move else (to byte)) next)
      go true is_none = refl
      go false true = refl
      go false false = refl

  -- a look that was made: what was found is the byte's move, and what it came to is the answer
  comes : {found : Result ℕ Table} (answer : Result ℕ Reason) → found ≡ move_in table byte → look_says r answer ≡ look_answer ceiling r found
      → (look_says r answer giving λ q. given (next q)) ≡ look_at
  comes answer read made = rw (made, read) look_is

  module _ {found : Result ℕ Table} {answer : Result ℕ Reason} (read : found ≡ move_in table byte) (made : look_says r answer ≡ look_answer ceiling r found) where
    pub look-gives : {state : ℕ} → answer ≡ Ok state → given (next state) ≡ look_at
    unfolding look_says ◌giving◌
    look-gives e = rw e at (comes answer read made)

    pub look-refuses : {reason : Reason} → answer ≡ Err reason → (turn : Result code.Turn Reason) → IsErrAnd turn (λ e. e ≡ reason)
        → turn_says r turn ≡ look_at
    unfolding look_says ◌giving◌ turn_says
    look-refuses e turn is =
        let p = err_from_is_err_and turn is in
        rw (p.1, p.2) (rw e at (comes answer read made))

-- ---- which event a number is

pub letter-is : (e : ℕ) → 2 ≤ e → event_of e ≡ letter (e - 2)
unfolding event_of
letter-is zero h = absurd (omega arith)
letter-is (suc zero) h = absurd (omega arith)
letter-is (suc (suc a)) h = ap letter (omega arith)

-- ---- a held level is settled, and any other by still alone

pub held-settled : (book : List ℕ) (r : Reading) (top : Level) → held book r top ≡ true → settled book r top ≡ true
unfolding settled
held-settled book r top is = or_right (in_still book r.state) _ is

pub still-settled : (book : List ℕ) (r : Reading) (top : Level) → held book r top ≡ false
    → settled book r top ≡ in_still book r.state
unfolding settled
still-settled book r top is_not = or-none (in_still book r.state) is_not

-- ---- the numbers that the code holds are those of the rule

module _ {file : List ℕ} {rule : Rule} (h : RuleOf file rule) where
  pub tree-start-is : (rule_of file).tree_start ≡ rule.tree_start
  unfolding numbers_of
  tree-start-is = ap (λ (n : Rule). n.tree_start) h.numbers

  pub initial-is : (rule_of file).initial ≡ rule.initial
  unfolding numbers_of
  initial-is = ap (λ (n : Rule). n.initial) h.numbers

  pub few-letters : rule.letters ≤ 256
  unfolding is_letters
  few-letters =
      let k : ℕ = (rule_of file).letters in
      let in-range = and_parts (1 ≤? k) (k ≤? most_letters) (accepted-is-rule file h.accepted).letters_in in
      omega (arith, letters-are h, leb-true k most_letters in-range.1)

  -- ---- the class of a state is the one in the file, and one of the three

  pub class-is : (q : ℕ) → q < rule.states → class_byte file rule.states rule.letters q ≡ class_of (rule_of file) q
  class-is q hq = rw (← states-are h, ← letters-are h) (class-look file h.accepted q (omega (arith, states-are h)))

  pub class-in : (q : ℕ) → q < rule.states → class_of (rule_of file) q < class_count
  unfolding class_of is_class
  class-in q hq = ltb-true _ _ ((accepted-is-rule file h.accepted).class_in q (omega (arith, states-are h)))

  -- ---- an event that is within the limit and known is taken as its turn says

  pub known-turn : (r : Reading) (e : ℕ) (turn : Answer Turn) → r.taken < most_events → e < rule.letters + 2
      → known_event (rule_of file) r e turn ≡ turn
  unfolding known_event
  known-turn r e turn more known =
      refuse-passes 16 r.taken _ (lt-leb most_events r.taken more)
      ∙ refuse-passes 10 r.taken _ (lt-leb ((rule_of file).letters + 2) e (omega (arith, letters-are h)))

  -- ---- the book serves

  pub book-serves : (book : List ℕ) (r : Reading) (top : Level) → rule.states < length book → StatesIn rule r top
      → BookServes book r top
  book-serves book r top long states =
      let few : rule.states ≤ 64 = few-states h in
      record {
        state_bit = omega arith;
        still_word = omega arith;
        hold_word = λ inside. omega (arith, states.above_in inside);
      }

  -- ---- a table look of full reading is a look at a byte of the file

  pub letter-turn : (room ceiling : ℕ) (r : Reading) (top : Level) (a : ℕ) → r.state < rule.states → a < rule.letters
      → full_turn (rule_of file) room ceiling r top (letter a)
      ≡ look_at ceiling r LetterMoves (letter_byte file rule.letters r.state a) (λ q. stays (looked r q r.depth))
  unfolding full_turn table_says
  letter-turn room ceiling r top a hq ha =
      rw (← letters-are h, letter-look file h.accepted r.state a (omega (arith, states-are h)) (omega (arith, letters-are h)))

  pub open_turn : (room ceiling : ℕ) (r : Reading) (top : Level) → r.depth < room
      → full_turn (rule_of file) room ceiling r top opens
      ≡ look_at ceiling r TreeStart rule.tree_start (λ q. stores (new_level r) (looked r q (r.depth + 1)))
  unfolding full_turn tree_start_move table_says
  open_turn room ceiling r top free = refuse-passes 8 r.taken _ (lt-leb room r.depth free) ∙ rw tree-start-is

  pub close-turn : (room ceiling : ℕ) (r : Reading) (top : Level) → (r.depth ≡ 0 → ⊥)
      → r.state < rule.states → top.above < rule.states
      → full_turn (rule_of file) room ceiling r top closes
      ≡ look_at ceiling r TreeMoves (tree_byte file rule.states rule.letters top.above r.state) (λ q. ends (looked r q (r.depth - 1)))
  unfolding full_turn table_says
  close-turn room ceiling r top inside hq hu =
      refuse-passes 7 r.taken _ (ne_eqb r.depth 0 inside)
      ∙ rw (← letters-are h, ← states-are h, tree-look file h.accepted top.above r.state (omega (arith, states-are h)) (omega (arith, states-are h)))
