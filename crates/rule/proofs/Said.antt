-- What the answers of the rule check say to a caller: a rule that was given is the accepted file's, a refusal is the check's. And
-- what a rule that was given has of the file: its numbers, and the bound of its states.
use mathlib.Core.Path.{◌≡◌, refl, sym, ap}
use mathlib.Core.Bool.{Bool, false, ◌||◌, or-false}
use Prim.Native.Nat.{ℕ, ◌≤◌}
use mathlib.Core.List.{List}
use native.Mathlib.Omega.{arith}
use Rattle.meaning.specs.Answers.{Answer, given, refused, ◌giving◌}
use Rattle.meaning.specs.RuleFile as format
use Rattle.meaning.specs.RuleFile.{check_rule, rule_of}
use Rattle.std.specs.Prelude.{Ok, Err}
use Rattle.meaning.specs.Calls.{refusal_says, says}
use Rattle.meaning.specs.declared.Refusal.{Refusal}
use Rattle.meaning.proofs.laws.Answered.{giving-given}
use Rattle.meaning.proofs.rulefile.Accepted.{accepted-rule, accepted-is-rule}
use Rattle.meaning.proofs.skipbook.Rounds.{most-states}
use Rattle.rule.specs.declared.Rule.{Rule}
use Rattle.rule.specs.declared.tables.Table.{Table}
use Rattle.rule.specs.declared.tables.Table.TheVariants as table
use Rattle.rule.specs.Tables.{table_says}
use Rattle.rule.specs.Says.{numbers_of, check_answer, RuleOf}

-- a rule that was given is the accepted file's
pub fine-accepted : (file : List ℕ) (rule : Rule) → says (Ok rule) ≡ check_answer file
    → (R : format.Rule) × (check_rule file ≡ given R) × (numbers_of R ≡ rule)
unfolding says check_answer
fine-accepted file rule e =
    let g = giving-given (check_rule file) (λ R. given (numbers_of R)) (sym e) in
    (g.0, g.1, cc g.2)

-- so the file is accepted, and these are its rule's numbers
pub ruled-by : (file : List ℕ) (rule : Rule) → says (Ok rule) ≡ check_answer file → RuleOf file rule
ruled-by file rule e =
    let f = fine-accepted file rule e in
    let same = accepted-rule file f.1 in
    record { accepted = rw same f.1; numbers = rw same f.2 }

module _ {file : List ℕ} {rule : Rule} (ruled : RuleOf file rule) where
  pub states-are : (rule_of file).states ≡ rule.states
  unfolding numbers_of
  states-are = ap (λ (r : Rule). r.states) ruled.numbers

  pub letters-are : (rule_of file).letters ≡ rule.letters
  unfolding numbers_of
  letters-are = ap (λ (r : Rule). r.letters) ruled.numbers

  -- a rule has at most 64 states
  pub few-states : rule.states ≤ 64
  few-states = omega (arith, most-states (accepted-is-rule file ruled.accepted), states-are)

pub giving-refused : {A B : Type 0} (x : Answer A) (f : A → Answer B) (number place : ℕ)
    → ((a : A) → (b : B) × (f a ≡ given b)) → (x giving f) ≡ refused number place → x ≡ refused number place
unfolding ◌giving◌
giving-refused (given a) f number place gives e =
    let g : f a ≡ given (gives a).0 = (gives a).1 in
    let z : ◌≡◌ {A = ℕ} 0 1 = cc in absurd (omega arith)
giving-refused (refused n p) f number place gives e = cc

-- a refusal that was given is the check's
pub refused-check : (file : List ℕ) (r : Refusal) → says (Err r) ≡ check_answer file
    → check_rule file ≡ refused r.number r.place
unfolding says check_answer refusal_says
refused-check file r e =
    giving-refused (check_rule file) (λ R. given (numbers_of R)) r.number r.place (λ R. (numbers_of R, refl)) (sym e)

-- two tables of the code that are one table of the definition are the same
pub table-says : (a b : Table) → table_says a ≡ table_says b → a ≡ b
unfolding table_says
table-says table.LetterMoves table.LetterMoves e = refl
table-says table.LetterMoves table.TreeStart e = cc
table-says table.LetterMoves table.TreeMoves e = cc
table-says table.TreeStart table.LetterMoves e = cc
table-says table.TreeStart table.TreeStart e = refl
table-says table.TreeStart table.TreeMoves e = cc
table-says table.TreeMoves table.LetterMoves e = cc
table-says table.TreeMoves table.TreeStart e = cc
table-says table.TreeMoves table.TreeMoves e = refl

-- a test joined with one that fails is that test
pub or-none : (a : Bool) {b : Bool} → b ≡ false → (a || b) ≡ a
or-none a e = rw e (or-false a)
