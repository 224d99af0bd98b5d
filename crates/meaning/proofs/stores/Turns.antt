-- What an event that is taken does, with any book: it is passed over on a settled level, it ends a held level without a
-- look, or it is one of the three looks. Read off the definition's own text, one law for each of its words.
use Rattle.std.proofs.Common.{if◌then◌else◌}
use mathlib.Core.Path.{◌≡◌, refl, subst}
use mathlib.Core.Bool.{Bool, true, false}
use mathlib.Core.List.{List}
use Prim.Native.Nat.{ℕ, ◌+◌, ◌-◌, ◌≤◌, ◌<◌}
use native.Mathlib.Omega.{arith}
use borrow.Author.Tests.{ltb-false, leb-false, eqb-false}
use Rattle.std.proofs.lemmas.Bool.{or_parts}
use Rattle.meaning.specs.declared.Reading.{Reading}
use Rattle.meaning.specs.declared.Level.{Level}
use Rattle.meaning.specs.Answers.{Answer, given, refused, refuse◌at◌when◌otherwise◌, ◌<?◌, ◌≤?◌, ◌=?◌}
use Rattle.meaning.specs.RuleFile.{Rule, Move, no_move, to, letter_move, tree_move, tree_start_move}
use Rattle.meaning.specs.FullReading.{Event, opens, closes, letter, event_of, looked, new_level, Table, look, Turn, stays, stores, ends, full_turn, known_event, most_events}
use Rattle.meaning.specs.SkipBook.{in_still}
use Rattle.meaning.specs.Skipping.{held, settled, passed, ends_level, settled_turn, skip_turn, skip_event}
use Rattle.meaning.proofs.laws.Bools.{true-is-not-false}
use Rattle.meaning.proofs.laws.Events.{known-letter}

-- ---- what is given has a property

-- either it was refused, or what was given has the property
pub data Gives {A : Type 0} (P : A → Type 0) : Answer A → Type 0 where
  gave : {a : A} → P a → Gives P (given a)
  refuses : {number place : ℕ} → Gives P (refused number place)

module _ {A : Type 0} {P : A → Type 0} where
  given-has : {a : A} → Gives P (given a) → P a
  given-has (gave p) = p

  pub gives : {x : Answer A} {a : A} → Gives P x → x ≡ given a → P a
  gives g e = given-has (subst (λ (y : Answer A). Gives P y) e g)

  pub gives-refuse : (number place : ℕ) (b : Bool) (rest : Answer A) → (b ≡ false → Gives P rest)
      → Gives P (refuse number at place when b otherwise rest)
  unfolding refuse◌at◌when◌otherwise◌
  gives-refuse number place true rest h = refuses
  gives-refuse number place false rest h = h refl

  pub gives-if : (b : Bool) (x y : Answer A) → (b ≡ true → Gives P x) → (b ≡ false → Gives P y) → Gives P (if b then x else y)
  gives-if true x y h k = h refl
  gives-if false x y h k = k refl

pub gives-look : {P : Turn → Type 0} (table : Table) (place : ℕ) (move : Move) (next : ℕ → Turn)
    → ((q : ℕ) → move ≡ to q → P (next q)) → Gives P (look table place move next)
unfolding look
gives-look table place no_move next h = refuses
gives-look table place (to q) next h = gave (h q refl)

-- ---- what a taken event does

pub data Turned (R : Rule) (book : List ℕ) (room : ℕ) (r : Reading) (top : Level) : Event → Turn → Type 0 where
  -- on a settled level only the skip depth changes
  passes : (event : Event) (skip : ℕ) → settled book r top ≡ true → skip ≤ r.skip + 1
      → Turned R book room r top event (stays (passed r r.state r.depth skip))
  -- a held level ends without a look
  ends_held : held book r top ≡ true → r.skip ≡ 0
      → Turned R book room r top closes (ends (passed r top.above (r.depth - 1) r.skip))
  -- a look in the letter moves
  takes_letter : (a q : ℕ) → settled book r top ≡ false → a < R.letters → letter_move R r.state a ≡ to q
      → Turned R book room r top (letter a) (stays (looked r q r.depth))
  -- a look at the tree start, with a record stored
  stores_open : (q : ℕ) → settled book r top ≡ false → r.depth < room → tree_start_move R ≡ to q
      → Turned R book room r top opens (stores (new_level r) (looked r q (r.depth + 1)))
  -- a look in the tree moves
  ends_looked : (q : ℕ) → held book r top ≡ false → (settled book r top ≡ true → r.skip ≡ 0) → 0 < r.depth
      → tree_move R top.above r.state ≡ to q
      → Turned R book room r top closes (ends (looked r q (r.depth - 1)))

module _ (R : Rule) (book : List ℕ) (room ceiling : ℕ) (r : Reading) (top : Level) where
  close-turned : held book r top ≡ false → (settled book r top ≡ true → r.skip ≡ 0)
      → Gives (Turned R book room r top closes) (full_turn R room ceiling r top closes)
  unfolding full_turn
  close-turned not_held at_zero =
      gives-refuse 7 r.taken (r.depth =? 0) _ (λ deep.
      gives-refuse 9 r.taken (ceiling ≤? r.looks) _ (λ below.
      gives-look _ _ _ _ (λ q m. ends_looked q not_held at_zero (omega (arith, eqb-false r.depth 0 deep)) m)))

  full-turned : (event : Event) → ((a : ℕ) → event ≡ letter a → a < R.letters) → settled book r top ≡ false
      → Gives (Turned R book room r top event) (full_turn R room ceiling r top event)
  unfolding full_turn settled
  full-turned (letter a) known is_not =
      gives-refuse 9 r.taken (ceiling ≤? r.looks) _ (λ below.
      gives-look _ _ _ _ (λ q m. takes_letter a q is_not (known a refl) m))
  full-turned opens known is_not =
      gives-refuse 8 r.taken (room ≤? r.depth) _ (λ fits.
      gives-refuse 9 r.taken (ceiling ≤? r.looks) _ (λ below.
      gives-look _ _ _ _ (λ q m. stores_open q is_not (leb-false _ _ fits) m)))
  full-turned closes known is_not = close-turned (or_parts (in_still book r.state) (held book r top) is_not).1 (λ is. true-is-not-false is is_not)

  ends_turned : r.skip ≡ 0 → Gives (Turned R book room r top closes) (ends_level R book room ceiling r top)
  unfolding ends_level
  ends_turned z =
      gives-if (held book r top) _ _ (λ is. gave (ends_held is z)) (λ is_not. close-turned is_not (λ is. z))

  settled-turned : (event : Event) → settled book r top ≡ true
      → Gives (Turned R book room r top event) (settled_turn R book room ceiling r top event)
  unfolding settled_turn
  settled-turned (letter a) is = gave (passes (letter a) r.skip is (omega arith))
  settled-turned opens is = gave (passes opens (r.skip + 1) is (omega arith))
  settled-turned closes is =
      gives-if (0 <? r.skip) _ _ (λ inside. gave (passes closes (r.skip - 1) is (omega arith)))
      (λ outside. ends_turned (omega (arith, ltb-false 0 r.skip outside)))

  event-turned : (e : ℕ) → Gives (Turned R book room r top (event_of e)) (skip_event R book room ceiling r top e)
  unfolding skip_event known_event skip_turn
  event-turned e =
      gives-refuse 16 r.taken (most_events ≤? r.taken) _ (λ more.
      gives-refuse 10 r.taken (R.letters + 2 ≤? e) _ (λ known.
      gives-if (settled book r top) _ _ (settled-turned (event_of e))
      (full-turned (event_of e) (known-letter R.letters e (leb-false _ _ known)))))

  pub turned : (e : ℕ) {turn : Turn} → skip_event R book room ceiling r top e ≡ given turn
      → Turned R book room r top (event_of e) turn
  turned e h = gives (event-turned e) h
