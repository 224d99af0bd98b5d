-- Laws of the words in which the definitions are written: what a check that passes lets through, and what an answer that was
-- given says of the checks before it. Whoever uses a definition goes by these and does not open the words.
use Rattle.std.proofs.Common.{if◌then◌else◌}
use mathlib.Core.Path.{◌≡◌, refl}
use mathlib.Core.Bool.{Bool, true, false}
use Prim.Native.Nat.{ℕ}
use native.Mathlib.Omega.{arith}
use Rattle.meaning.specs.Answers.{Answer, given, refused, refuse◌at◌when◌otherwise◌, ◌and_then◌, ◌giving◌}

-- ---- if

pub if-true : {A : Type 0} {b : Bool} (x y : A) → b ≡ true → (if b then x else y) ≡ x
if-true x y e = rw e

pub if-false : {A : Type 0} {b : Bool} (x y : A) → b ≡ false → (if b then x else y) ≡ y
if-false x y e = rw e

-- ---- refuse

pub refuse-passes : {A : Type 0} (number place : ℕ) {b : Bool} (rest : Answer A) → b ≡ false
    → (refuse number at place when b otherwise rest) ≡ rest
unfolding refuse◌at◌when◌otherwise◌
refuse-passes number place rest e = rw (e, refuse◌at◌when◌otherwise◌)

pub refuse-stops : {A : Type 0} (number place : ℕ) {b : Bool} (rest : Answer A) → b ≡ true
    → (refuse number at place when b otherwise rest) ≡ refused number place
unfolding refuse◌at◌when◌otherwise◌
refuse-stops number place rest e = rw (e, refuse◌at◌when◌otherwise◌)

-- what was given was not refused
pub refuse-given : {A : Type 0} (number place : ℕ) (b : Bool) (rest : Answer A) {a : A}
    → (refuse number at place when b otherwise rest) ≡ given a → (b ≡ false) × (rest ≡ given a)
unfolding refuse◌at◌when◌otherwise◌
refuse-given number place true rest e = let z : ◌≡◌ {A = ℕ} 0 1 = cc in absurd (omega arith)
refuse-given number place false rest e = (refl, e)

-- ---- and_then

pub and_then-passes : {A : Type 0} {check : Answer Unit} (rest : Answer A) → check ≡ given tt → (check and_then rest) ≡ rest
unfolding ◌and_then◌
and_then-passes rest e = rw (e, ◌and_then◌)

pub and_then-stops : {A : Type 0} {check : Answer Unit} {number place : ℕ} (rest : Answer A) → check ≡ refused number place
    → (check and_then rest) ≡ refused number place
unfolding ◌and_then◌
and_then-stops rest e = rw (e, ◌and_then◌)

pub and_then-given : {A : Type 0} (check : Answer Unit) (rest : Answer A) {a : A} → (check and_then rest) ≡ given a
    → (check ≡ given tt) × (rest ≡ given a)
unfolding ◌and_then◌
and_then-given (given u) rest e = (refl, e)
and_then-given (refused number place) rest e = let z : ◌≡◌ {A = ℕ} 0 1 = cc in absurd (omega arith)

-- ---- giving

pub giving-passes : {A B : Type 0} {x : Answer A} {a : A} (f : A → Answer B) → x ≡ given a → (x giving f) ≡ f a
unfolding ◌giving◌
giving-passes f e = rw (e, ◌giving◌)

pub giving-stops : {A B : Type 0} {x : Answer A} {number place : ℕ} (f : A → Answer B) → x ≡ refused number place
    → (x giving f) ≡ refused number place
unfolding ◌giving◌
giving-stops f e = rw (e, ◌giving◌)

pub giving-given : {A B : Type 0} (x : Answer A) (f : A → Answer B) {b : B} → (x giving f) ≡ given b
    → (a : A) × (x ≡ given a) × (f a ≡ given b)
unfolding ◌giving◌
giving-given (given a) f e = (a, refl, e)
giving-given (refused number place) f e = let z : ◌≡◌ {A = ℕ} 0 1 = cc in absurd (omega arith)
