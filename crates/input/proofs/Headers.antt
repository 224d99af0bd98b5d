-- What the header of the record of events says, by the tests that lead there, and where that record starts.
use mathlib.Core.Path.{◌≡◌, refl, ap, ◌∙◌}
use mathlib.Core.List.{List}
use Prim.Native.Nat.{ℕ, ◌+◌, ◌%◌, ◌≤◌, ◌<◌}
use lib.ListN.{length}
use borrow.Author.Tests.{lt-ltb, le-ltb, eq-eqb, ne_eqb}
use Rattle.meaning.specs.Answers.{given, refused, refuse◌at◌when◌otherwise◌, ◌=?◌}
use Rattle.meaning.specs.RuleFile.{Rule, header_length, number2, number4, check_rule}
use Rattle.meaning.specs.CheckProgram as program
use Rattle.meaning.specs.CheckProgram.{events_kind, events_header, events_place, front_check}
use Rattle.meaning.proofs.laws.Answered.{refuse-passes, refuse-stops, giving-passes, giving-stops, if-true}
use Rattle.meaning.specs.Calls.{refusal_says}
use Rattle.meaning.proofs.stores.OneAnswer.{given-says, refusal-says}
use Rattle.std.specs.Prelude.{Result, Ok, Err}
use Rattle.meaning.specs.declared.Refusal.{Refusal}
use Rattle.input.specs.declared.EventsAt.{EventsAt}
use Rattle.input.specs.Says.{front_says, header_answer}

module _ (input : List ℕ) (place : ℕ) where
  pub header-short : length input < place + header_length → header_answer input place ≡ refused 1 (length input)
  unfolding header_answer events_header
  header-short h = giving-stops _ (refuse-stops 1 (length input) _ (lt-ltb (length input) (place + header_length) h))

  module _ (whole : place + header_length ≤ length input) where
    pub header-kind : (number2 input (place + 4) ≡ events_kind → ⊥) → header_answer input place ≡ refused 2 (place + 4)
    unfolding header_answer events_header
    header-kind other =
        giving-stops _
        (refuse-passes 1 (length input) _ (le-ltb (length input) (place + header_length) whole)
        ∙ refuse-stops 2 (place + 4) _ (rw (ne_eqb (number2 input (place + 4)) events_kind other)))

    module _ (kind : number2 input (place + 4) ≡ events_kind) where
      to-length : events_header input place
          ≡ (refuse 3 at place when number4 input place % 2 =? 1 otherwise given (number4 input place))
      unfolding events_header
      to-length =
          refuse-passes 1 (length input) _ (le-ltb (length input) (place + header_length) whole)
          ∙ refuse-passes 2 (place + 4) _ (rw (eq-eqb (number2 input (place + 4)) events_kind kind))

      pub header-odd : number4 input place % 2 ≡ 1 → header_answer input place ≡ refused 3 place
      unfolding header_answer
      header-odd odd = giving-stops _ (to-length ∙ refuse-stops 3 place _ (eq-eqb (number4 input place % 2) 1 odd))

      pub header-found : (number4 input place % 2 ≡ 1 → ⊥)
          → header_answer input place ≡ given (record { place = place; size = number4 input place })
      unfolding header_answer
      header-found even = giving-passes _ (to-length ∙ refuse-passes 3 place _ (ne_eqb (number4 input place % 2) 1 even))

pub ruleset header_cases = (header-short, header-kind, header-odd, header-found)

-- ---- where the record starts, by the rule check of the input

pub missing : (input : List ℕ) {R : Rule} → check_rule input ≡ given R → front_check input ≡ refused 1 (length input)
unfolding front_check events_place
missing input e = rw e (giving-stops _ refl)

pub starts : (input : List ℕ) {place : ℕ} → check_rule input ≡ refused 5 place → front_check input ≡ header_answer input place
unfolding front_check events_place header_answer
starts input {place} e = rw e (giving-passes _ (if-true (given place) (refused 5 place) refl))

-- ---- two answers that say the same are the same

pub front-says : (a b : Result EventsAt Refusal) → front_says a ≡ front_says b → a ≡ b
unfolding front_says refusal_says
front-says (Ok a) (Ok b) e =
    let same : ◌≡◌ {A = program.EventsAt} _ _ = given-says _ _ e in
    let places = ap (λ f. f.place) same in
    let sizes = ap (λ f. f.size) same in
    λ i. Ok (record { place = places i; size = sizes i })
front-says (Ok a) (Err b) e = cc
front-says (Err a) (Ok b) e = cc
front-says (Err a) (Err b) e = ap Err (refusal-says a b e)
