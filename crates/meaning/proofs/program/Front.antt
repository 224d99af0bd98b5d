-- The front of an input decides where the record of events starts: the longest rule file and a header after it are 20,579 bytes,
-- so the rule check answers on that front as on the whole input. The check program reads no more than this front at once.
use mathlib.Core.Path.{◌≡◌, refl, sym, ◌∙◌}
use mathlib.Core.Bool.{true, false}
use mathlib.Core.List.{List}
use Prim.Native.Nat.{ℕ, ◌+◌, ◌*◌, ◌≤◌, ◌<◌, suc-le-suc}
use native.Mathlib.Nat.{le_trans, le_of_eq, mul-le-mul}
use native.Mathlib.Omega.{arith}
use lib.ListN.{length, take, drop, length-drop}
use lib.Seq.{length-take-le, get_or-take, get_or-drop, ext_get_or, take-take}
use borrow.Author.Tests.{le-ltb, lt-ltb}
use Rattle.meaning.specs.Answers.{Answer, given, refused, ◌<?◌}
use Rattle.meaning.specs.RuleFile.{Rule, byte_at, number2, number4, part, rule_of, check_rule, record_check, numbers_check, letter_record, tree_record, class_record, file_length, header_length, numbers_length}
use Rattle.meaning.specs.CheckProgram.{events_header}
use Rattle.meaning.proofs.laws.Answered.{refuse-passes, and_then-stops}
use Rattle.meaning.proofs.rulefile.Accepted.{numbers-in, states-range, letters-range}

module _ (input : List ℕ) (m : ℕ) (long : m ≤ length input) where
  abbrev front : List ℕ
  front = take m input

  pub front_length_lem : length front ≡ m
  front_length_lem = length-take-le m input long

  byte-same : (i : ℕ) → i < m → byte_at front i ≡ byte_at input i
  byte-same i h = get_or-take m input i 0 h

  number2-same : (i : ℕ) → i + 2 ≤ m → number2 front i ≡ number2 input i
  unfolding number2
  number2-same i h = rw (byte-same i (omega arith), byte-same (i + 1) (omega arith))

  number4-same : (i : ℕ) → i + 4 ≤ m → number4 front i ≡ number4 input i
  unfolding number4
  number4-same i h =
      rw (byte-same i (omega arith), byte-same (i + 1) (omega arith), byte-same (i + 2) (omega arith), byte-same (i + 3) (omega arith))

  part_same : (place size : ℕ) → place + size ≤ m → part front place size ≡ part input place size
  unfolding part
  part_same place size h =
      ext_get_or 0 (take size (drop place front)) (take size (drop place input))
      (length-take-le size (drop place front) (simp (length-drop, front_length_lem) (omega arith))
      ∙ sym (length-take-le size (drop place input) (simp length-drop (omega arith))))
      (λ i hi.
      let below : i < size = le_trans hi (le_of_eq (length-take-le size (drop place front) (simp (length-drop, front_length_lem) (omega arith)))) in
      rw (get_or-take size (drop place front) i 0 below, get_or-take size (drop place input) i 0 below, get_or-drop place front i 0, get_or-drop place input i 0)
      (byte-same (place + i) (omega arith)))

  -- a test of the length that the front passes, the input passes
  passes-both : (bound : ℕ) → bound ≤ m → (length front <? bound ≡ false) × (length input <? bound ≡ false)
  passes-both bound h =
      (le-ltb (length front) bound (omega (arith, front_length_lem)), le-ltb (length input) bound (omega arith))

  -- a record inside the front is checked alike
  pub record_same : (place kind size : ℕ) → place + header_length + size ≤ m
      → record_check front place kind size ≡ record_check input place kind size
  unfolding record_check
  record_same place kind size h =
      let a = passes-both (place + header_length) (omega arith) in
      let b = passes-both (place + header_length + size) h in
      rw (refuse-passes 1 (length front) _ a.0, refuse-passes 1 (length input) _ a.1, refuse-passes 1 (length front) _ b.0, refuse-passes 1 (length input) _ b.1, number2-same (place + 4) (omega arith), number4-same place (omega arith))

  -- ---- the rule of the front

  pub states-same : 12 ≤ m → (rule_of front).states ≡ (rule_of input).states
  unfolding rule_of
  states-same h = byte-same header_length (omega arith)

  pub letters-same : 12 ≤ m → (rule_of front).letters ≡ (rule_of input).letters
  unfolding rule_of
  letters-same h = number2-same (header_length + 3) (omega arith)

  numbers-same : 12 ≤ m → numbers_check (rule_of front) ≡ numbers_check (rule_of input)
  unfolding numbers_check rule_of
  numbers-same h =
      rw (byte-same header_length (omega arith), byte-same (header_length + 1) (omega arith), byte-same (header_length + 2) (omega arith), number2-same (header_length + 3) (omega arith))

  -- where the four records lie inside the front, its rule is the input's
  pub rule-same : file_length (rule_of input).states (rule_of input).letters ≤ m → rule_of front ≡ rule_of input
  unfolding rule_of file_length class_record tree_record letter_record
  rule-same h =
      let n : ℕ = byte_at input 6 in
      let k : ℕ = number2 input 9 in
      rw (
        byte-same 6 (omega arith),
        byte-same 7 (omega arith),
        byte-same 8 (omega arith),
        number2-same 9 (omega arith),
        part_same (letter_record + header_length) (n * k) (omega arith),
        part_same (tree_record n k + header_length) (n * n) (omega arith),
        part_same (class_record n k + header_length) n (omega arith),
      )

  -- ---- the rule check of the front

  -- the longest rule file, by the ranges of n and k
  pub within : numbers_check (rule_of input) ≡ given tt → file_length (rule_of input).states (rule_of input).letters ≤ 20573
  unfolding file_length class_record tree_record letter_record
  within e =
      let R : Rule = rule_of input in
      let r = numbers-in R e in
      let n64 : R.states ≤ 64 = (states-range R.states r.states_in).1 in
      let k256 : R.letters ≤ 256 = (letters-range R.letters r.letters_in).1 in
      let nk : R.states * R.letters ≤ 64 * 256 = mul-le-mul n64 k256 in
      let nn : R.states * R.states ≤ 64 * 64 = mul-le-mul n64 n64 in
      omega arith

  -- behind the numbers: all the rest is checked alike, and both go on after the fourth record
  pub rest-same : file_length (rule_of input).states (rule_of input).letters < m → check_rule front ≡ check_rule input
  unfolding check_rule file_length class_record tree_record letter_record
  rest-same h =
      let R : Rule = rule_of input in
      let n : ℕ = R.states in
      let k : ℕ = R.letters in
      let on_front : file_length n k <? length front ≡ true = lt-ltb (file_length n k) (length front) (omega (arith, front_length_lem)) in
      let on_input : file_length n k <? length input ≡ true = lt-ltb (file_length n k) (length input) (omega arith) in
      rw (
        rule-same (omega arith),
        record_same 0 1 numbers_length (omega arith),
        record_same letter_record 2 (n * k) (omega arith),
        record_same (tree_record n k) 3 (n * n) (omega arith),
        record_same (class_record n k) 4 n (omega arith),
        on_front,
        on_input,
      )

  -- the numbers refused: both checks end there
  stops_same : 20573 ≤ m → (number place : ℕ) → numbers_check (rule_of input) ≡ refused number place
      → check_rule front ≡ check_rule input
  unfolding check_rule
  stops_same h number place e =
      rw
      (record_same 0 1 numbers_length (omega arith), and_then-stops _ (numbers-same (omega arith) ∙ e), and_then-stops _ e)

  by-numbers : 20573 < m → (answer : Answer Unit) → numbers_check (rule_of input) ≡ answer → check_rule front ≡ check_rule input
  by-numbers h (given tt) e = rest-same (le_trans (suc-le-suc (within e)) h)
  by-numbers h (refused number place) e = stops_same (omega arith) number place e

  -- A front that is longer than any rule file is checked as the whole input is.
  pub front-check : 20573 < m → check_rule front ≡ check_rule input
  front-check h = by-numbers h (numbers_check (rule_of input)) refl

  -- and so are the header of the record of events, and the rule's own file
  pub front-header : (place : ℕ) → place + header_length ≤ m → events_header front place ≡ events_header input place
  unfolding events_header
  front-header place h =
      let a = passes-both (place + header_length) h in
      rw (
        refuse-passes 1 (length front) _ a.0,
        refuse-passes 1 (length input) _ a.1,
        number2-same (place + 4) (omega arith),
        number4-same place (omega arith),
      )

  pub front-file : (place : ℕ) → place ≤ m → take place front ≡ take place input
  front-file place h = take-take place m input h
