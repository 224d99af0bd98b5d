-- The few words in which every definition here is written: an answer, which is either what was asked for or a
-- refusal with its number and its place (document 01, "Calls and numbers"), and the tests that lead to one.
use Rattle.std.specs.Prelude.{ℕ, Bool, true, false, leb, ltb, eqb}

infixr 10 refuse◌at◌when◌otherwise◌
infixr 10 ◌and_then◌
infixr 10 ◌giving◌
infix 40 ◌≤?◌
infix 40 ◌<?◌
infix 40 ◌=?◌
-- tests of two numbers, which answer true or false
abbrev pub ◌≤?◌ : ℕ → ℕ → Bool
m ≤? n = leb m n

abbrev pub ◌<?◌ : ℕ → ℕ → Bool
m <? n = ltb m n

abbrev pub ◌=?◌ : ℕ → ℕ → Bool
m =? n = eqb m n

-- what was asked for, or a refusal: its number and its place
pub data Answer (A : Type 0) : Type 0 where
  given : A → Answer A
  refused : ℕ → ℕ → Answer A

-- a refusal where the test holds, and otherwise what follows
unfoldable pub refuse◌at◌when◌otherwise◌ : {A : Type 0} → ℕ → ℕ → Bool → Answer A → Answer A
refuse number at place when true otherwise rest = refused number place
refuse number at place when false otherwise rest = rest

-- one check and then the next: the first refusal counts
unfoldable pub ◌and_then◌ : {A : Type 0} → Answer Unit → Answer A → Answer A
given u and_then rest = rest
refused number place and_then rest = refused number place

-- what is done with what was given
unfoldable pub ◌giving◌ : {A B : Type 0} → Answer A → (A → Answer B) → Answer B
given a giving f = f a
refused number place giving f = refused number place
