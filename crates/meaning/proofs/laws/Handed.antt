-- Answers as Results: what a refusal says, what a step that passed or refused makes of the checks after it, and what `?` hands on.
use mathlib.Core.Path.{◌≡◌, sym, ap}
use Prim.Native.Nat.{ℕ}
use Rattle.std.specs.Prelude.{Result, Ok, Err}
use Rattle.std.specs.Result.{IsErrAnd}
use Rattle.meaning.specs.Answers.{Answer, given, refused, ◌and_then◌, ◌giving◌}
use Rattle.meaning.specs.Calls.{refusal_says, says}
use Rattle.meaning.specs.declared.Refusal.{Refusal}
use Rattle.meaning.proofs.laws.Answered.{and_then-passes, and_then-stops, giving-passes, giving-stops}

-- a refusal with a number and a place says these
pub refusal-at : {A : Type 0} {r : Refusal} {number place : ℕ} → r ≡ record { number = number; place = place }
    → says {A = A} (Err r) ≡ refused number place
unfolding says refusal_says
refusal-at e = rw e

-- `?` hands on the refusal that it met
pub handed_on : {B : Type 0} (r : Result B Refusal) (x : Refusal) → IsErrAnd r (λ e. e ≡ x) → says r ≡ refusal_says x
unfolding says refusal_says
handed_on (Ok b) x e = absurd e
handed_on (Err y) x e = ap refusal_says e

module _ {A : Type 0} {answer : Answer A} where
  pub was-given : {a : A} → says (Ok a) ≡ answer → answer ≡ given a
  unfolding says
  was-given e = sym e

  pub was-refused : (x : Refusal) → says (Err x) ≡ answer → answer ≡ refusal_says x
  unfolding says
  was-refused x e = sym e

  module _ {B : Type 0} (f : A → Answer B) where
    pub giving-ok : {a : A} → says (Ok a) ≡ answer → (answer giving f) ≡ f a
    giving-ok e = giving-passes f (was-given e)

    pub giving-err : (x : Refusal) → says (Err x) ≡ answer → (answer giving f) ≡ refusal_says x
    unfolding refusal_says
    giving-err x e = giving-stops f (was-refused x e)

-- the same of a check, which gives nothing
module _ {A : Type 0} {check : Answer Unit} (rest : Answer A) where
  pub and_then-ok : {u : Unit} → says (Ok u) ≡ check → (check and_then rest) ≡ rest
  and_then-ok e = and_then-passes rest (was-given e)

  pub and_then-err : (x : Refusal) → says (Err x) ≡ check → (check and_then rest) ≡ refusal_says x
  unfolding refusal_says
  and_then-err x e = and_then-stops rest (was-refused x e)
