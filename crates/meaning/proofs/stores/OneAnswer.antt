-- Two outcomes that a contract allows agree: the definitions that list the number and the values for each case of an answer
-- tell the cases and their values apart, so a contract through them fixes the answer.
use mathlib.Core.Path.{◌≡◌, refl, ap}
use native.Mathlib.Omega.{arith}
use Rattle.meaning.specs.declared.Refusal.{Refusal}
use Rattle.std.specs.Prelude.{Result, Ok, Err}
use Rattle.meaning.specs.declared.Judgement.{Judgement}
use Rattle.meaning.specs.declared.verdict.Verdict.{Verdict}
use Rattle.meaning.specs.declared.verdict.Verdict.TheVariants.{OffSchema, Reject, Accept}
use Rattle.meaning.specs.Answers.{given}
use Rattle.meaning.specs.Calls.{verdict_says, refusal_says, says, end_says, Judged}

-- what was given is one
pub given-says : {A : Type 0} (a b : A) → given a ≡ given b → a ≡ b
given-says a b e = cc

pub verdict-says : (a b : Verdict) → verdict_says a ≡ verdict_says b → a ≡ b
unfolding verdict_says
verdict-says OffSchema OffSchema e = refl
verdict-says OffSchema Reject e = absurd (omega arith)
verdict-says OffSchema Accept e = absurd (omega arith)
verdict-says Reject OffSchema e = absurd (omega arith)
verdict-says Reject Reject e = refl
verdict-says Reject Accept e = absurd (omega arith)
verdict-says Accept OffSchema e = absurd (omega arith)
verdict-says Accept Reject e = absurd (omega arith)
verdict-says Accept Accept e = refl

pub refusal-says : {A : Type 0} (a b : Refusal) → refusal_says {A = A} a ≡ refusal_says b → a ≡ b
unfolding refusal_says
refusal-says a b e =
    let numbers : a.number ≡ b.number = cc in
    let places : a.place ≡ b.place = cc in
    λ i. record { number = numbers i; place = places i }

pub says-one : {A : Type 0} (a b : Result A Refusal) → says a ≡ says b → a ≡ b
unfolding says refusal_says
says-one (Ok a) (Ok b) e = ap Ok (given-says a b e)
says-one (Ok a) (Err b) e = cc
says-one (Err a) (Ok b) e = cc
says-one (Err a) (Err b) e = ap Err (refusal-says a b e)

pub end-says : (a b : Result Judgement Refusal) → end_says a ≡ end_says b → a ≡ b
unfolding end_says refusal_says
end-says (Ok a) (Ok b) e =
    let same : ◌≡◌ {A = Judged} _ _ = given-says _ _ e in
    let states = ap (λ j. j.state) same in
    let verdicts = verdict-says a.verdict b.verdict (ap (λ j. j.class) same) in
    λ i. Ok (record { verdict = verdicts i; state = states i })
end-says (Ok a) (Err b) e = cc
end-says (Err a) (Ok b) e = cc
end-says (Err a) (Err b) e = ap Err (refusal-says a b e)
