-- How two ways of reading are compared, event by event: where the first gives something, the second does too, and the two
-- are related. One law for each word in which the definitions are written, so that a comparison follows their text; and one
-- for feeding, by induction over the events.
use Rattle.std.proofs.Common.{if◌then◌else◌}
use mathlib.Core.Path.{◌≡◌, refl}
use mathlib.Core.Bool.{Bool, true, false}
use mathlib.Core.List.{List, [], ◌∷◌}
use Prim.Native.Nat.{ℕ}
use native.Mathlib.Omega.{arith}
use Rattle.meaning.specs.Answers.{Answer, given, refused, refuse◌at◌when◌otherwise◌, ◌giving◌}
use Rattle.meaning.specs.RuleFile.{Move, no_move, to}
use Rattle.meaning.specs.FullReading.{Table, Turn, look, Went, go_on, feed_by}

-- the second answer follows the first
pub data Follows {A B : Type 0} (P : A → B → Type 0) : Answer A → Answer B → Type 0 where
  not_asked : {number place : ℕ} {y : Answer B} → Follows P (refused number place) y
  both_give : {a : A} {b : B} → P a b → Follows P (given a) (given b)

module _ {A B : Type 0} {P : A → B → Type 0} where
  -- ---- refuse

  -- a test that the second passes where the first does
  pub refuse-each : (number place place' : ℕ) (t t' : Bool) {x : Answer A} {y : Answer B}
      → (t ≡ false → t' ≡ false) → (t ≡ false → Follows P x y)
      → Follows P (refuse number at place when t otherwise x) (refuse number at place' when t' otherwise y)
  unfolding refuse◌at◌when◌otherwise◌
  refuse-each number place place' true t' passes rest = not_asked
  refuse-each number place place' false true passes rest = let z : ◌≡◌ {A = ℕ} 0 1 = cc (passes refl) in absurd (omega arith)
  refuse-each number place place' false false passes rest = rest refl

  -- a test that only the first makes
  pub refuse-first : (number place : ℕ) (t : Bool) {x : Answer A} {y : Answer B} → (t ≡ false → Follows P x y)
      → Follows P (refuse number at place when t otherwise x) y
  unfolding refuse◌at◌when◌otherwise◌
  refuse-first number place true rest = not_asked
  refuse-first number place false rest = rest refl

  -- ---- if

  pub if-each : (t : Bool) {x x' : Answer A} {y y' : Answer B} → (t ≡ true → Follows P x y) → (t ≡ false → Follows P x' y')
      → Follows P (if t then x else x') (if t then y else y')
  if-each true holds fails = holds refl
  if-each false holds fails = fails refl

  pub if-second : (t : Bool) {x : Answer A} {y y' : Answer B} → (t ≡ true → Follows P x y) → (t ≡ false → Follows P x y')
      → Follows P x (if t then y else y')
  if-second true holds fails = holds refl
  if-second false holds fails = fails refl

  -- ---- what the first answer is

  -- what is related one way and so another way
  pub follows_so : {Q : A → B → Type 0} {x : Answer A} {y : Answer B} → Follows P x y → ((a : A) (b : B) → P a b → Q a b)
      → Follows Q x y
  follows_so not_asked so = not_asked
  follows_so (both_give {a} {b} p) so = both_give (so a b p)

  pub where-first-gives : {x : Answer A} {y : Answer B} → Follows P x y → Follows (λ a b. (x ≡ given a) × P a b) x y
  where-first-gives not_asked = not_asked
  where-first-gives (both_give p) = both_give (refl, p)

  -- ---- giving

  pub giving-each : {C D : Type 0} {Q : C → D → Type 0} {x : Answer A} {y : Answer B} {f : A → Answer C} {g : B → Answer D}
      → Follows P x y → ((a : A) (b : B) → P a b → Follows Q (f a) (g b)) → Follows Q (x giving f) (y giving g)
  unfolding ◌giving◌
  giving-each not_asked next = not_asked
  giving-each (both_give {a} {b} p) next = next a b p

-- ---- look

module _ {B : Type 0} {P : Turn → B → Type 0} where
  -- a look that only the first makes
  pub look-first : (table : Table) (place : ℕ) (move : Move) {next : ℕ → Turn} {y : Answer B}
      → ((q : ℕ) → move ≡ to q → Follows P (given (next q)) y) → Follows P (look table place move next) y
  unfolding look
  look-first table place no_move rest = not_asked
  look-first table place (to q) rest = rest q refl

-- the same look in both
pub look-each : {P : Turn → Turn → Type 0} (table : Table) (place place' : ℕ) (move move' : Move) {next next' : ℕ → Turn}
    → move ≡ move' → ((q : ℕ) → move ≡ to q → Follows P (given (next q)) (given (next' q)))
    → Follows P (look table place move next) (look table place' move' next')
unfolding look
look-each table place place' no_move move' same rest = not_asked
look-each table place place' (to q) move' same rest = rw (← same) (rest q refl)

-- ---- feeding

-- A relation that the second step keeps wherever the first takes an event is kept by feeding: where the first takes all, so
-- does the second. It may speak of the events that are still to come.
module _ {A B : Type 0} (step : A → ℕ → Answer A) (step' : B → ℕ → Answer B) (P : List ℕ → A → B → Type 0)
    (keeps : (e : ℕ) (es : List ℕ) (a : A) (b : B) → P (e ∷ es) a b → Follows (P es) (step a e) (step' b e)) where
  go_on-each : (es : List ℕ) (a : A) (b : B) (rest : A → Went A) (rest' : B → Went B) {x : Answer A} {y : Answer B}
      → ((a : A) (b : B) → P es a b → (rest a).ended ≡ given tt → ((rest' b).ended ≡ given tt) × P [] (rest a).last (rest' b).last)
      → Follows (P es) x y → (go_on a x rest).ended ≡ given tt
      → ((go_on b y rest').ended ≡ given tt) × P [] (go_on a x rest).last (go_on b y rest').last
  unfolding go_on
  go_on-each es a b rest rest' next not_asked all = let z : ◌≡◌ {A = ℕ} 0 1 = cc in absurd (omega arith)
  go_on-each es a b rest rest' next (both_give {a = a'} {b = b'} p) all = next a' b' p all

  pub feed-each : (es : List ℕ) (a : A) (b : B) → P es a b → (feed_by step a es).ended ≡ given tt
      → ((feed_by step' b es).ended ≡ given tt) × P [] (feed_by step a es).last (feed_by step' b es).last
  unfolding feed_by
  feed-each [] a b p all = (refl, p)
  feed-each (e ∷ es) a b p all =
      go_on-each es a b (λ a. feed_by step a es) (λ b. feed_by step' b es) (feed-each es) (keeps e es a b p) all
