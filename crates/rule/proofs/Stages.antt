-- The rule check and the checks of the writer in the stages in which the code makes them: the numbers, and then the tables.
use mathlib.Core.Path.{◌≡◌, refl}
use mathlib.Core.Bool.{Bool, true, false}
use mathlib.Core.List.{List, []}
use Prim.Native.Nat.{ℕ}
use Rattle.meaning.specs.Answers.{Answer, given, refused, refuse◌at◌when◌otherwise◌, ◌and_then◌, ◌giving◌, ◌<?◌}
use Rattle.meaning.specs.RuleFile as format
use Rattle.meaning.specs.RuleFile.{byte_at, number2, record_check, numbers_check, is_move, is_class, is_state, check_rule, rule_of, numbers_length, file_length, write_check}
use Rattle.rule.specs.declared.Rule.{Rule}
use Rattle.rule.specs.Says.{numbers_of, check_answer}
use Rattle.rule.specs.Checks.{in_range, rule_from, numbers_answer, body_check, tables_check, given_check}

-- ---- what is done with the end of a row of checks

and_then-and_then : {A : Type 0} (a b : Answer Unit) (c : Answer A) → ((a and_then b) and_then c) ≡ (a and_then (b and_then c))
unfolding ◌and_then◌
and_then-and_then (given u) b c = refl
and_then-and_then (refused number place) b c = refl

refuse-and_then : {A : Type 0} (number place : ℕ) (b : Bool) (rest : Answer Unit) (c : Answer A)
    → ((refuse number at place when b otherwise rest) and_then c) ≡ (refuse number at place when b otherwise (rest and_then c))
unfolding ◌and_then◌ refuse◌at◌when◌otherwise◌
refuse-and_then number place true rest c = refl
refuse-and_then number place false rest c = refl

given-and_then : {A : Type 0} (c : Answer A) → (given tt and_then c) ≡ c
unfolding ◌and_then◌
given-and_then c = refl

and_then-giving : {A B : Type 0} (a : Answer Unit) (b : Answer A) (f : A → Answer B) → ((a and_then b) giving f) ≡ (a and_then (b giving f))
unfolding ◌and_then◌ ◌giving◌
and_then-giving (given u) b f = refl
and_then-giving (refused number place) b f = refl

refuse-giving : {A B : Type 0} (number place : ℕ) (b : Bool) (rest : Answer A) (f : A → Answer B)
    → ((refuse number at place when b otherwise rest) giving f) ≡ (refuse number at place when b otherwise (rest giving f))
unfolding refuse◌at◌when◌otherwise◌ ◌giving◌
refuse-giving number place true rest f = refl
refuse-giving number place false rest f = refl

given-giving : {A B : Type 0} (a : A) (f : A → Answer B) → (given a giving f) ≡ f a
unfolding ◌giving◌
given-giving a f = refl

-- ---- one test for the numbers of every table

move-in-range : (n : ℕ) → is_move n ≡ in_range n true
unfolding in_range
move-in-range n = refl

class-in-range : is_class ≡ in_range 3 false
unfolding in_range is_state is_class
class-in-range = refl

-- the four numbers do not go by the tables
numbers-alone : (R : format.Rule)
    → numbers_check R ≡ numbers_check (rule_from R.states R.initial R.tree_start R.letters [] [] [])
unfolding numbers_check rule_from
numbers-alone R = refl

numbers-of-file : (file : List ℕ)
    → numbers_check (rule_of file) ≡ numbers_check (rule_from (byte_at file 6) (byte_at file 7) (byte_at file 8) (number2 file 9) [] [] [])
unfolding rule_of
numbers-of-file file = numbers-alone (rule_of file)

-- ---- the stages

-- what is left to check once the numbers are in range
unfoldable pub after_numbers : List ℕ → Rule → Answer Rule
after_numbers file rule = tables_check file rule.states rule.letters and_then given rule

pub check-stages : (file : List ℕ)
    → check_answer file
    ≡ (record_check file 0 1 numbers_length and_then
    (numbers_answer (byte_at file 6) (byte_at file 7) (byte_at file 8) (number2 file 9) giving after_numbers file))
unfolding check_answer check_rule rule_of numbers_answer rule_from numbers_of after_numbers tables_check body_check
check-stages file =
    simp (and_then-giving, refuse-giving, given-giving, and_then-and_then, refuse-and_then, given-and_then, move-in-range, class-in-range, numbers-of-file)

-- what the writer has left to check once the numbers are in range
unfoldable pub after_given : format.Rule → ℕ → Answer ℕ
after_given R room =
    let count : ℕ = file_length R.states R.letters in
    given_check R and_then
    refuse 14 at count when room <? count otherwise
    given count

pub write-stages : (R : format.Rule) (room : ℕ)
    → write_check R room
    ≡ (numbers_check (rule_from R.states R.initial R.tree_start R.letters [] [] []) and_then after_given R room)
unfolding write_check after_given given_check
write-stages R room =
    simp (and_then-and_then, refuse-and_then, move-in-range, class-in-range, ← numbers-alone R)
