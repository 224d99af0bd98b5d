-- What an accepted file is: its rule is the one that its bytes stand for, that is a rule, and the file is as long as its
-- four records. Everything above the rule check uses these laws and not the check's text.
use mathlib.Core.Path.{◌≡◌, refl, subst}
use mathlib.Core.Bool.{Bool, true, not}
use mathlib.Core.List.{List, [], ◌∷◌}
use Prim.Native.Nat.{ℕ, zero, suc, ◌+◌, ◌*◌, ◌≤◌, ◌<◌}
use native.Mathlib.Nat.{not-suc-le-zero, le_of_suc-le-suc}
use native.Mathlib.Omega.{arith}
use lib.ListN.{length, get_or, drop, length-drop}
use lib.Seq.{length-take-le}
use borrow.Author.Tests.{ltb-false, leb-true}
use Rattle.std.proofs.lemmas.Bool.{and_parts, not-false}
use Rattle.meaning.specs.Answers.{given, ◌≤?◌}
use Rattle.meaning.specs.RuleFile.{Rule, IsRule, is_states, is_state, is_move, is_class, is_letters, part, rule_of, check_rule, record_check, numbers_check, table_check, letter_record, tree_record, class_record, file_length, header_length, numbers_length, most_states, most_letters}
use Rattle.meaning.proofs.laws.Answered.{refuse-given, and_then-given}

-- a table that passes has every entry in range
pub table-in : (good : ℕ → Bool) (place : ℕ) (xs : List ℕ) → table_check good place xs ≡ given tt
    → (i : ℕ) → i < length xs → good (get_or xs i 0) ≡ true
unfolding table_check
table-in good place [] e i h = absurd (not-suc-le-zero h)
table-in good place (x ∷ xs) e zero h = not-false _ (refuse-given 4 place (not (good x)) _ e).0
table-in good place (x ∷ xs) e (suc i) h =
    table-in good (suc place) xs (refuse-given 4 place (not (good x)) _ e).1 i (le_of_suc-le-suc h)

-- a record that passes has its body whole
pub record-whole : (file : List ℕ) (place kind size : ℕ) → record_check file place kind size ≡ given tt
    → place + header_length + size ≤ length file
unfolding record_check
record-whole file place kind size e =
    let e1 = (refuse-given 1 (length file) _ _ e).1 in
    let e2 = (refuse-given 2 (place + 4) _ _ e1).1 in
    let e3 = (refuse-given 3 place _ _ e2).1 in
    ltb-false _ _ (refuse-given 1 (length file) _ _ e3).0

part_length : (file : List ℕ) (place size : ℕ) → place + size ≤ length file → length (part file place size) ≡ size
unfolding part
part_length file place size h = length-take-le size (drop place file) (simp length-drop (omega arith))

-- what the checks of an accepted file say, in their order
pub record Passed (file : List ℕ) (R : Rule) : Type 0 where
  pub rule : rule_of file ≡ R
  pub first : record_check file 0 1 numbers_length ≡ given tt
  pub numbers : numbers_check R ≡ given tt
  pub second : record_check file letter_record 2 (R.states * R.letters) ≡ given tt
  pub letter_table : table_check (is_move R.states) (letter_record + header_length) R.letter_moves ≡ given tt
  pub third : record_check file (tree_record R.states R.letters) 3 (R.states * R.states) ≡ given tt
  pub tree_table : table_check (is_move R.states) (tree_record R.states R.letters + header_length) R.tree_moves ≡ given tt
  pub fourth : record_check file (class_record R.states R.letters) 4 R.states ≡ given tt
  pub class_table : table_check is_class (class_record R.states R.letters + header_length) R.classes ≡ given tt
  pub nothing_after : length file ≤ file_length R.states R.letters

passed-of : (file : List ℕ) → (R : Rule) → check_rule file ≡ given R → Passed file (rule_of file) × (rule_of file ≡ R)
unfolding check_rule
passed-of file R e =
    let a1 = and_then-given _ _ e in
    let a2 = and_then-given _ _ a1.1 in
    let a3 = and_then-given _ _ a2.1 in
    let a4 = and_then-given _ _ a3.1 in
    let a5 = and_then-given _ _ a4.1 in
    let a6 = and_then-given _ _ a5.1 in
    let a7 = and_then-given _ _ a6.1 in
    let a8 = and_then-given _ _ a7.1 in
    let a9 = refuse-given 5 _ _ _ a8.1 in
    let same : rule_of file ≡ R = cc a9.1 in (
      record {
        rule = refl;
        first = a1.0;
        numbers = a2.0;
        second = a3.0;
        letter_table = a4.0;
        third = a5.0;
        tree_table = a6.0;
        fourth = a7.0;
        class_table = a8.0;
        nothing_after = ltb-false _ _ a9.0;
      },
      same,
    )

pub passed : (file : List ℕ) {R : Rule} → check_rule file ≡ given R → Passed file R
passed file {R} e = subst (λ (S : Rule). Passed file S) (passed-of file R e).1 (passed-of file R e).0

pub accepted-rule : (file : List ℕ) {R : Rule} → check_rule file ≡ given R → rule_of file ≡ R
accepted-rule file e = (passed file e).rule

-- an accepted file is as long as its four records
pub accepted-length : (file : List ℕ) {R : Rule} → check_rule file ≡ given R → length file ≡ file_length R.states R.letters
unfolding file_length
accepted-length file {R} e =
    let p = passed file e in
    omega (arith, record-whole file _ 4 R.states p.fourth, p.nothing_after)

-- the four numbers are in range
pub record InRange (R : Rule) : Type 0 where
  pub states_in : is_states R.states ≡ true
  pub initial_in : is_state R.states R.initial ≡ true
  pub tree_start_in : is_move R.states R.tree_start ≡ true
  pub letters_in : is_letters R.letters ≡ true

pub numbers-in : (R : Rule) → numbers_check R ≡ given tt → InRange R
unfolding numbers_check
numbers-in R e =
    let a1 = refuse-given 4 header_length _ _ e in
    let a2 = refuse-given 4 (header_length + 1) _ _ a1.1 in
    let a3 = refuse-given 4 (header_length + 2) _ _ a2.1 in
    let a4 = refuse-given 4 (header_length + 3) _ _ a3.1 in
    record {
      states_in = not-false _ a1.0;
      initial_in = not-false _ a2.0;
      tree_start_in = not-false _ a3.0;
      letters_in = not-false _ a4.0;
    }

is-rule : (file : List ℕ) → Passed file (rule_of file) → IsRule (rule_of file)
unfolding rule_of
is-rule file p =
    let R : Rule = rule_of file in
    let h = numbers-in R p.numbers in
    let l2 = part_length file (letter_record + header_length) (R.states * R.letters) (record-whole file _ 2 _ p.second) in
    let l3 = part_length file (tree_record R.states R.letters + header_length) (R.states * R.states) (record-whole file _ 3 _ p.third) in
    let l4 = part_length file (class_record R.states R.letters + header_length) R.states (record-whole file _ 4 _ p.fourth) in
    record {
      states_in = h.states_in;
      initial_in = h.initial_in;
      tree_start_in = h.tree_start_in;
      letters_in = h.letters_in;
      letter_length = l2;
      tree_length = l3;
      class_length = l4;
      letter_in = λ i hi. table-in _ _ _ p.letter_table i (omega (arith, l2));
      tree_in = λ i hi. table-in _ _ _ p.tree_table i (omega (arith, l3));
      class_in = λ i hi. table-in _ _ _ p.class_table i (omega (arith, l4));
    }

-- an accepted file's rule is a rule
pub accepted-is-rule : (file : List ℕ) {R : Rule} → check_rule file ≡ given R → IsRule R
accepted-is-rule file {R} e =
    subst IsRule (passed-of file R e).1 (is-rule file (passed-of file R e).0)

-- the tables of an accepted file's rule are parts of the file
pub letter-part : (file : List ℕ) {R : Rule} → check_rule file ≡ given R
    → R.letter_moves ≡ part file (letter_record + header_length) (R.states * R.letters)
unfolding rule_of
letter-part file e =
    subst (λ (S : Rule). S.letter_moves ≡ part file (letter_record + header_length) (S.states * S.letters)) (accepted-rule file e) refl

pub tree-part : (file : List ℕ) {R : Rule} → check_rule file ≡ given R
    → R.tree_moves ≡ part file (tree_record R.states R.letters + header_length) (R.states * R.states)
unfolding rule_of
tree-part file e =
    subst (λ (S : Rule). S.tree_moves ≡ part file (tree_record S.states S.letters + header_length) (S.states * S.states))
    (accepted-rule file e) refl

pub class-part : (file : List ℕ) {R : Rule} → check_rule file ≡ given R
    → R.classes ≡ part file (class_record R.states R.letters + header_length) R.states
unfolding rule_of
class-part file e =
    subst (λ (S : Rule). S.classes ≡ part file (class_record S.states S.letters + header_length) S.states)
    (accepted-rule file e) refl

-- the ranges of n and k, as orders
pub states-range : (n : ℕ) → is_states n ≡ true → (1 ≤ n) × (n ≤ most_states)
unfolding is_states
states-range n e =
    let b = and_parts (1 ≤? n) (n ≤? most_states) e in
    (leb-true 1 n b.0, leb-true n most_states b.1)

pub letters-range : (k : ℕ) → is_letters k ≡ true → (1 ≤ k) × (k ≤ most_letters)
unfolding is_letters
letters-range k e =
    let b = and_parts (1 ≤? k) (k ≤? most_letters) e in
    (leb-true 1 k b.0, leb-true k most_letters b.1)
