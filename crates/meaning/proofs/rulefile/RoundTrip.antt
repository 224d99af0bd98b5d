-- Reader and writer are inverse: what is written of a rule is accepted as that rule, and the bytes of an accepted file are what is
-- written of its rule. A record stands in the file as a part of it, and each of its numbers is the one its bytes stand for.
use mathlib.Core.Path.{◌≡◌, refl, sym, ap, ap₂, ◌∙◌, subst}
use mathlib.Core.Bool.{Bool, true}
use mathlib.Core.List.{List, [], ◌∷◌, ◌++◌, append_assoc, append-nil}
use Prim.Native.Nat.{ℕ, zero, suc, ◌+◌, ◌*◌, ◌/◌, ◌%◌, ◌≤◌, ◌<◌, suc-le-suc, zero-le}
use native.Mathlib.Nat.{add-suc, mul-le-mul, div-div-eq-div-mul, div-add-mod', mod-eq_of_lt}
use native.Mathlib.Numerals.{towards_suc}
use native.Mathlib.Omega.{arith}
use lib.ListN.{length, get_or, take, drop, length-append, length-take, length-drop}
use lib.Arith.{digits_div, digits_mod}
use lib.Seq.{get_or-append-add, take_at, drop_at, drop-cons, take-add, drop-drop, take_all}
use borrow.Author.Tests.{ltb-false, leb-true, eqb-true, le-ltb, eq-eqb}
use Rattle.std.proofs.lemmas.Bool.{and_parts, not-false, not_from_true}
use Rattle.meaning.specs.Answers.{Answer, given, ◌≤?◌}
use Rattle.meaning.specs.RuleFile.{Rule, IsRule, is_states, is_move, is_class, is_letters, byte_at, number2, number4, bytes2, bytes4, part, record_bytes, numbers_body, rule_bytes, rule_of, check_rule, record_check, numbers_check, table_check, write_check, output_after, letter_record, tree_record, class_record, file_length, header_length, numbers_length, most_states, most_letters}
use Rattle.meaning.proofs.laws.Answered.{refuse-passes, refuse-given, and_then-passes, and_then-given}
use Rattle.meaning.proofs.rulefile.Accepted.{Passed, passed, accepted-rule, accepted-length, accepted-is-rule, letter-part, tree-part, class-part, table-in, numbers-in, record-whole}

-- the longest file
pub longest : file_length most_states most_letters ≡ 20573
unfolding file_length class_record tree_record letter_record
longest = refl

-- ---- what the writer accepts

-- a rule that is written is a rule, the count is the file's length, and there is room for it
pub record Writes (R : Rule) (room count : ℕ) : Type 0 where
  pub rule : IsRule R
  pub all : count ≡ file_length R.states R.letters
  pub fits : file_length R.states R.letters ≤ room

pub writes : (R : Rule) (room : ℕ) {count : ℕ} → write_check R room ≡ given count → Writes R room count
unfolding write_check
writes R room e =
    let a1 = and_then-given _ _ e in
    let a2 = refuse-given 3 _ _ _ a1.1 in
    let a3 = refuse-given 3 _ _ _ a2.1 in
    let a4 = refuse-given 3 _ _ _ a3.1 in
    let a5 = and_then-given _ _ a4.1 in
    let a6 = and_then-given _ _ a5.1 in
    let a7 = and_then-given _ _ a6.1 in
    let a8 = refuse-given 14 _ _ _ a7.1 in
    let h = numbers-in R a1.0 in
    let l2 = eqb-true _ _ (not-false _ a2.0) in
    let l3 = eqb-true _ _ (not-false _ a3.0) in
    let l4 = eqb-true _ _ (not-false _ a4.0) in
    record {
      rule = record {
        states_in = h.states_in;
        initial_in = h.initial_in;
        tree_start_in = h.tree_start_in;
        letters_in = h.letters_in;
        letter_length = l2;
        tree_length = l3;
        class_length = l4;
        letter_in = λ i hi. table-in _ _ _ a5.0 i (omega (arith, l2));
        tree_in = λ i hi. table-in _ _ _ a6.0 i (omega (arith, l3));
        class_in = λ i hi. table-in _ _ _ a7.0 i (omega (arith, l4));
      };
      all = cc a8.1;
      fits = ltb-false _ _ a8.0;
    }

-- ---- the length of the file

record-length : (kind : ℕ) (body : List ℕ) → length (record_bytes kind body) ≡ 6 + length body
unfolding record_bytes bytes4 bytes2
record-length kind body = omega arith

pub bytes-length : (R : Rule) → IsRule R → length (rule_bytes R) ≡ file_length R.states R.letters
unfolding rule_bytes file_length class_record tree_record letter_record numbers_body bytes2
bytes-length R p = simp (length-append, record-length) (omega (arith, p.letter_length, p.tree_length, p.class_length))

-- ---- a rule that is written is read back

-- a table whose entries are in range passes
pub table-passes : (good : ℕ → Bool) (place : ℕ) (xs : List ℕ) → ((i : ℕ) → i < length xs → good (get_or xs i 0) ≡ true)
    → table_check good place xs ≡ given tt
unfolding table_check
table-passes good place [] all = refl
table-passes good place (x ∷ xs) all =
    refuse-passes 4 place _ (not_from_true _ (all zero (suc-le-suc zero-le)))
    ∙ table-passes good (suc place) xs (λ i h. all (suc i) (suc-le-suc h))

numbers-pass : (R : Rule) → IsRule R → numbers_check R ≡ given tt
unfolding numbers_check
numbers-pass R p =
    refuse-passes 4 _ _ (not_from_true _ p.states_in)
    ∙ refuse-passes 4 _ _ (not_from_true _ p.initial_in)
    ∙ refuse-passes 4 _ _ (not_from_true _ p.tree_start_in)
    ∙ refuse-passes 4 _ _ (not_from_true _ p.letters_in)

letters-pass : (R : Rule) → IsRule R → (place : ℕ) → table_check (is_move R.states) place R.letter_moves ≡ given tt
letters-pass R p place = table-passes _ place _ (λ i h. p.letter_in i (omega (arith, p.letter_length)))

trees-pass : (R : Rule) → IsRule R → (place : ℕ) → table_check (is_move R.states) place R.tree_moves ≡ given tt
trees-pass R p place = table-passes _ place _ (λ i h. p.tree_in i (omega (arith, p.tree_length)))

classes-pass : (R : Rule) → IsRule R → (place : ℕ) → table_check is_class place R.classes ≡ given tt
classes-pass R p place = table-passes _ place _ (λ i h. p.class_in i (omega (arith, p.class_length)))

-- a file all of whose checks pass is accepted
passed-given : (file : List ℕ) → Passed file (rule_of file) → check_rule file ≡ given (rule_of file)
unfolding check_rule
passed-given file p =
    and_then-passes _ p.first
    ∙ and_then-passes _ p.numbers
    ∙ and_then-passes _ p.second
    ∙ and_then-passes _ p.letter_table
    ∙ and_then-passes _ p.third
    ∙ and_then-passes _ p.tree_table
    ∙ and_then-passes _ p.fourth
    ∙ and_then-passes _ p.class_table
    ∙ refuse-passes 5 _ _ (le-ltb _ _ p.nothing_after)

pub all-passed : (file : List ℕ) {R : Rule} → Passed file R → check_rule file ≡ given R
all-passed file p =
    passed-given file (subst (λ (S : Rule). Passed file S) (sym p.rule) p) ∙ ap given p.rule

-- a record that has its kind, its length and its body passes
pub record-passes : (file : List ℕ) (place kind size : ℕ) → number2 file (place + 4) ≡ kind → number4 file place ≡ size
    → place + header_length + size ≤ length file → record_check file place kind size ≡ given tt
unfolding record_check
record-passes file place kind size right long whole =
    refuse-passes 1 (length file) _ (le-ltb (length file) (place + header_length) (omega arith))
    ∙ refuse-passes 2 (place + 4) _ (not_from_true _ (eq-eqb _ _ right))
    ∙ refuse-passes 3 place _ (not_from_true _ (eq-eqb _ _ long))
    ∙ refuse-passes 1 (length file) _ (le-ltb _ _ whole)

-- what stands after some bytes is read at their length and on
after-byte : (front xs : List ℕ) (i j : ℕ) → i ≡ length front + j → byte_at (front ++ xs) i ≡ byte_at xs j
after-byte front xs i j e = ap (byte_at (front ++ xs)) e ∙ get_or-append-add front xs j 0

-- the number that four bytes stand for, where they are those of a number that fits
bytes-of-number : (x : ℕ) → x < 4294967296 → x % 256 + 256 * (x / 256 % 256) + 65536 * (x / 65536 % 256) + 16777216 * (x / 16777216 % 256) ≡ x
bytes-of-number x h =
    let second : x / 256 / 256 ≡ x / 65536 = div-div-eq-div-mul x 256 256 in
    let third : x / 65536 / 256 ≡ x / 16777216 = div-div-eq-div-mul x 65536 256 in
    let last : x / 16777216 < 256 = omega arith in
    omega (arith, div-add-mod' x 256, div-add-mod' (x / 256) 256, div-add-mod' (x / 65536) 256, mod-eq_of_lt last)

-- a record that is written stands in the file as it is read
module _ (front : List ℕ) (kind : ℕ) (body rest : List ℕ) (small_kind : kind < 65536) (small_body : length body < 4294967296) where
  kind-read : number2 (front ++ (record_bytes kind body ++ rest)) (length front + 4) ≡ kind
  unfolding number2 record_bytes bytes4 bytes2
  kind-read =
      let xs : List ℕ = record_bytes kind body ++ rest in
      omega (arith, after-byte front xs (length front + 4) 4 refl, after-byte front xs (length front + 4 + 1) 5 (omega arith))

  length-read : number4 (front ++ (record_bytes kind body ++ rest)) (length front) ≡ length body
  unfolding number4 record_bytes bytes4 bytes2
  length-read =
      let xs : List ℕ = record_bytes kind body ++ rest in
      omega (
        arith,
        after-byte front xs (length front) 0 (omega arith),
        after-byte front xs (length front + 1) 1 refl,
        after-byte front xs (length front + 2) 2 refl,
        after-byte front xs (length front + 3) 3 refl,
        bytes-of-number (length body) small_body,
      )

  body-read : part (front ++ (record_bytes kind body ++ rest)) (length front + header_length) (length body) ≡ body
  unfolding part record_bytes bytes4 bytes2
  body-read =
      let xs : List ℕ = record_bytes kind body ++ rest in
      ap (take (length body)) (sym (drop-drop header_length (length front) (front ++ xs)) ∙ ap (drop header_length) (drop_at front xs (length front) refl))
      ∙ take_at body rest (length body) refl

  record-read : record_check (front ++ (record_bytes kind body ++ rest)) (length front) kind (length body) ≡ given tt
  record-read =
      record-passes _ (length front) kind (length body) kind-read length-read
      (simp (length-append, record-length) (omega arith))

-- the record, said of the file, its place and its size
record Stands (file : List ℕ) (place kind : ℕ) (body : List ℕ) (size : ℕ) : Type 0 where
  check : record_check file place kind size ≡ given tt
  table : part file (place + header_length) size ≡ body

stands : (file front : List ℕ) (place kind : ℕ) (body : List ℕ) (size : ℕ) (rest : List ℕ) → file ≡ front ++ (record_bytes kind body ++ rest)
    → length front ≡ place → length body ≡ size → kind < 65536 → size < 4294967296 → Stands file place kind body size
stands file front place kind body size rest e here long small_kind small_body =
    let small : length body < 4294967296 = omega arith in
    record {
      check = cc (record-read front kind body rest small_kind small);
      table = cc (body-read front kind body rest small_kind small);
    }

-- n is at most 64, k at most 256, and a product of two such is small
states-most : (R : Rule) → IsRule R → R.states ≤ 64
unfolding is_states
states-most R p = leb-true _ _ (and_parts (1 ≤? R.states) (R.states ≤? most_states) p.states_in).1

letters-most : (R : Rule) → IsRule R → R.letters ≤ 256
unfolding is_letters
letters-most R p = leb-true _ _ (and_parts (1 ≤? R.letters) (R.letters ≤? most_letters) p.letters_in).1

-- the four records
abbrev first : Rule → List ℕ
first R = record_bytes 1 (numbers_body R)

abbrev second : Rule → List ℕ
second R = record_bytes 2 R.letter_moves

abbrev third : Rule → List ℕ
third R = record_bytes 3 R.tree_moves

abbrev fourth : Rule → List ℕ
fourth R = record_bytes 4 R.classes

module _ (R : Rule) (p : IsRule R) where
  letters-small : R.states * R.letters ≤ 16384
  letters-small = mul-le-mul (states-most R p) (letters-most R p)

  trees-small : R.states * R.states ≤ 4096
  trees-small = mul-le-mul (states-most R p) (states-most R p)

  first-stands : Stands (rule_bytes R) 0 1 (numbers_body R) numbers_length
  unfolding rule_bytes numbers_body bytes2
  first-stands = stands (rule_bytes R) [] 0 1 (numbers_body R) numbers_length _ refl refl refl (omega arith) (omega arith)

  second-stands : Stands (rule_bytes R) letter_record 2 R.letter_moves (R.states * R.letters)
  unfolding rule_bytes letter_record numbers_body bytes2
  second-stands =
      stands (rule_bytes R) (first R) letter_record 2 R.letter_moves _ _ refl (record-length 1 (numbers_body R)) p.letter_length (omega arith) (omega (arith, letters-small))

  third-stands : Stands (rule_bytes R) (tree_record R.states R.letters) 3 R.tree_moves (R.states * R.states)
  unfolding rule_bytes tree_record letter_record numbers_body bytes2
  third-stands =
      stands (rule_bytes R) (first R ++ second R) _ 3 R.tree_moves _ (fourth R)
      (sym (append_assoc (first R) (second R) (third R ++ fourth R)))
      (simp (length-append, record-length) (omega (arith, p.letter_length)))
      p.tree_length (omega arith) (omega (arith, trees-small))

  fourth-stands : Stands (rule_bytes R) (class_record R.states R.letters) 4 R.classes R.states
  unfolding rule_bytes class_record tree_record letter_record numbers_body bytes2
  fourth-stands =
      stands (rule_bytes R) (first R ++ second R ++ third R) _ 4 R.classes _ []
      (simp (append_assoc, append-nil))
      (simp (length-append, record-length) (omega (arith, p.letter_length, p.tree_length)))
      p.class_length (omega arith) (omega (arith, states-most R p))

  rule-read : rule_of (rule_bytes R) ≡ R
  unfolding rule_of rule_bytes record_bytes numbers_body bytes4 bytes2 number2
  rule-read =
      let file : List ℕ = rule_bytes R in
      let n : ℕ = R.states in
      let k : number2 file (header_length + 3) ≡ R.letters = omega (arith, letters-most R p) in
      let letters : part file (letter_record + header_length) (n * number2 file (header_length + 3)) ≡ R.letter_moves =
      ap (λ (k : ℕ). part file (letter_record + header_length) (n * k)) k ∙ second-stands.table
      in
      let trees : part file (tree_record n (number2 file (header_length + 3)) + header_length) (n * n) ≡ R.tree_moves =
      ap (λ (k : ℕ). part file (tree_record n k + header_length) (n * n)) k ∙ third-stands.table
      in
      let classes : part file (class_record n (number2 file (header_length + 3)) + header_length) n ≡ R.classes =
      ap (λ (k : ℕ). part file (class_record n k + header_length) n) k ∙ fourth-stands.table
      in
      λ i.
      record {
        states = n;
        initial = R.initial;
        tree_start = R.tree_start;
        letters = k i;
        letter_moves = letters i;
        tree_moves = trees i;
        classes = classes i;
      }

  -- what is written of a rule is accepted as that rule
  pub written-reads-back : check_rule (rule_bytes R) ≡ given R
  written-reads-back =
      all-passed (rule_bytes R)
      (record {
        rule = rule-read;
        first = first-stands.check;
        numbers = numbers-pass R p;
        second = second-stands.check;
        letter_table = letters-pass R p _;
        third = third-stands.check;
        tree_table = trees-pass R p _;
        fourth = fourth-stands.check;
        class_table = classes-pass R p _;
        nothing_after = omega (arith, bytes-length R p);
      })

-- ---- an accepted file is what is written of its rule

-- so many bytes from a place, one by one
bytes_from : List ℕ → ℕ → ℕ → List ℕ
bytes_from file place zero = []
bytes_from file place (suc n) = byte_at file place ∷ bytes_from file (suc place) n

part-listed : (file : List ℕ) (place n : ℕ) → place + n ≤ length file → part file place n ≡ bytes_from file place n
unfolding part bytes_from
part-listed file place zero h = refl
part-listed file place (suc n) h =
    ap (take (suc n)) (drop-cons file place 0 (omega (arith, add-suc place n)))
    ∙ ap (λ (xs : List ℕ). byte_at file place ∷ xs) (part-listed file (suc place) n (omega (arith, add-suc place n)))

-- two parts side by side are one
part-joined : (file : List ℕ) (place next a b : ℕ) → next ≡ place + a → part file place a ++ part file next b ≡ part file place (a + b)
unfolding part
part-joined file place next a b e =
    ap (λ (i : ℕ). take a (drop place file) ++ take b (drop i file)) e
    ∙ sym (take-add a b (drop place file) ∙ ap (λ (xs : List ℕ). take a (drop place file) ++ take b xs) (drop-drop a place file))

-- a number's lowest byte, and what stands above it
lowest : {x : ℕ} (q r : ℕ) → x ≡ q * 256 + r → r < 256 → x % 256 ≡ r
lowest q r e h = ap (λ (x : ℕ). x % 256) e ∙ digits_mod q h

above : {x : ℕ} (q r : ℕ) → x ≡ q * 256 + r → r < 256 → x / 256 ≡ q
above q r e h = ap (λ (x : ℕ). x / 256) e ∙ digits_div q h

-- the bytes of the number that two bytes or four stand for are those bytes
two_back : (a b : ℕ) → a < 256 → b < 256 → bytes2 (a + 256 * b) ≡ a ∷ b ∷ []
unfolding bytes2
two_back a b ha hb =
    let e0 : (a + 256 * b) % 256 ≡ a = lowest b a (omega arith) ha in
    let e1 : (a + 256 * b) / 256 % 256 ≡ b = lowest 0 b (above b a (omega arith) ha ∙ omega arith) hb in
    rw (e0, e1)

four-back : (a b c d : ℕ) → a < 256 → b < 256 → c < 256 → d < 256 → bytes4 (a + 256 * b + 65536 * c + 16777216 * d) ≡ a ∷ b ∷ c ∷ d ∷ []
unfolding bytes4
four-back a b c d ha hb hc hd =
    let x : ℕ = a + 256 * b + 65536 * c + 16777216 * d in
    let q1 : ℕ = b + 256 * c + 65536 * d in
    let q2 : ℕ = c + 256 * d in
    let d1 : x / 256 ≡ q1 = above q1 a (omega arith) ha in
    let d2 : x / 65536 ≡ q2 = sym (div-div-eq-div-mul x 256 256) ∙ ap (λ (y : ℕ). y / 256) d1 ∙ above q2 b (omega arith) hb in
    let d3 : x / 16777216 ≡ d = sym (div-div-eq-div-mul x 65536 256) ∙ ap (λ (y : ℕ). y / 256) d2 ∙ above d c (omega arith) hc in
    let e0 : x % 256 ≡ a = lowest q1 a (omega arith) ha in
    let e1 : x / 256 % 256 ≡ b = lowest q2 b (d1 ∙ omega arith) hb in
    let e2 : x / 65536 % 256 ≡ c = lowest d c (d2 ∙ omega arith) hc in
    let e3 : x / 16777216 % 256 ≡ d = lowest 0 d (d3 ∙ omega arith) hd in
    cc

-- what a record that passes has in its header
record-header : (file : List ℕ) (place kind size : ℕ) → record_check file place kind size ≡ given tt
    → (number2 file (place + 4) ≡ kind) × (number4 file place ≡ size)
unfolding record_check
record-header file place kind size e =
    let a1 = refuse-given 1 (length file) _ _ e in
    let a2 = refuse-given 2 (place + 4) _ _ a1.1 in
    let a3 = refuse-given 3 place _ _ a2.1 in
    (eqb-true _ _ (not-false _ a2.0), eqb-true _ _ (not-false _ a3.0))

module _ (file : List ℕ) (bytes : (i : ℕ) → byte_at file i < 256) where
  -- a record that passes is the bytes of its kind and of its body
  record-back : (place kind size : ℕ) → record_check file place kind size ≡ given tt
      → record_bytes kind (part file (place + header_length) size) ≡ part file place (header_length + size)
  unfolding record_bytes number2 number4 part bytes_from
  record-back place kind size e =
      let whole = record-whole file place kind size e in
      let head = record-header file place kind size e in
      let long : length (part file (place + header_length) size) ≡ size = simp (length-take, length-drop) (omega arith) in
      let four = ap bytes4 (long ∙ sym head.1) ∙ four-back _ _ _ _ (bytes place) (bytes (place + 1)) (bytes (place + 2)) (bytes (place + 3)) in
      let two = ap bytes2 (sym head.0) ∙ two_back _ _ (bytes (place + 4)) (bytes (place + 4 + 1)) in
      let body : List ℕ = part file (place + header_length) size in
      let front : part file place header_length ≡ byte_at file place ∷ byte_at file (place + 1) ∷ byte_at file (place + 2) ∷ byte_at file (place + 3) ∷ byte_at file (place + 4) ∷ byte_at file (place + 4 + 1) ∷ [] =
      part-listed file place header_length (omega arith) ∙ simp towards_suc
      in
      ap₂ (λ (a b : List ℕ). a ++ (b ++ body)) four two
      ∙ ap (λ (xs : List ℕ). xs ++ body) (sym front)
      ∙ part-joined file place (place + header_length) header_length size refl

  module _ {R : Rule} (accepted : check_rule file ≡ given R) where
    -- the body of the first record
    numbers-back : numbers_body R ≡ part file header_length numbers_length
    unfolding numbers_body rule_of number2 bytes_from
    numbers-back =
        let whole = record-whole file 0 1 numbers_length (passed file accepted).first in
        subst (λ (S : Rule). numbers_body S ≡ part file header_length numbers_length) (accepted-rule file accepted)
        (ap (λ (xs : List ℕ). byte_at file 6 ∷ byte_at file 7 ∷ byte_at file 8 ∷ xs) (two_back _ _ (bytes 9) (bytes 10))
        ∙ sym (part-listed file header_length numbers_length whole))

    -- the bytes of an accepted file are what is written of its rule
    pub accepted-writes-back : rule_bytes R ≡ file
    unfolding rule_bytes letter_record tree_record class_record file_length part
    accepted-writes-back =
        let p = passed file accepted in
        let n : ℕ = R.states in
        let k : ℕ = R.letters in
        let one = ap (record_bytes 1) numbers-back ∙ record-back 0 1 numbers_length p.first in
        let two = ap (record_bytes 2) (letter-part file accepted) ∙ record-back letter_record 2 (n * k) p.second in
        let three = ap (record_bytes 3) (tree-part file accepted) ∙ record-back (tree_record n k) 3 (n * n) p.third in
        let four = ap (record_bytes 4) (class-part file accepted) ∙ record-back (class_record n k) 4 n p.fourth in
        let size4 : ℕ = header_length + n in
        let size3 : ℕ = header_length + n * n in
        let size2 : ℕ = header_length + n * k in
        let last = ap₂ ◌++◌ three four ∙ part-joined file (tree_record n k) (class_record n k) size3 size4 (omega arith) in
        let rest = ap₂ ◌++◌ two last ∙ part-joined file letter_record (tree_record n k) size2 (size3 + size4) (omega arith) in
        ap₂ ◌++◌ one rest
        ∙ part-joined file 0 letter_record 11 (size2 + (size3 + size4)) refl
        ∙ take_all (11 + (size2 + (size3 + size4))) file (omega (arith, accepted-length file accepted))

-- ---- the calls

-- what the writer leaves in the output, as far as it counts, is accepted as the rule that was given
module _ (R : Rule) (output : List ℕ) {count : ℕ} (e : write_check R (length output) ≡ given count) where
  pub output-front : take count (output_after (write_check R (length output)) R output) ≡ rule_bytes R
  unfolding output_after
  output-front =
      let w = writes R (length output) e in
      ap (λ (answer : Answer ℕ). take count (output_after answer R output)) e
      ∙ take_at (rule_bytes R) (drop count output) count (bytes-length R w.rule ∙ sym w.all)

  pub output-reads-back : check_rule (take count (output_after (write_check R (length output)) R output)) ≡ given R
  output-reads-back = ap check_rule output-front ∙ written-reads-back R (writes R (length output) e).rule

  pub output-rest : drop count (output_after (write_check R (length output)) R output) ≡ drop count output
  unfolding output_after
  output-rest =
      let w = writes R (length output) e in
      ap (λ (answer : Answer ℕ). drop count (output_after answer R output)) e
      ∙ drop_at (rule_bytes R) (drop count output) count (bytes-length R w.rule ∙ sym w.all)

-- every rule that there is room for is written
pub rule-writes : (R : Rule) (room : ℕ) → IsRule R → file_length R.states R.letters ≤ room
    → write_check R room ≡ given (file_length R.states R.letters)
unfolding write_check
rule-writes R room p h =
    and_then-passes _ (numbers-pass R p)
    ∙ refuse-passes 3 _ _ (not_from_true _ (eq-eqb _ _ p.letter_length))
    ∙ refuse-passes 3 _ _ (not_from_true _ (eq-eqb _ _ p.tree_length))
    ∙ refuse-passes 3 _ _ (not_from_true _ (eq-eqb _ _ p.class_length))
    ∙ and_then-passes _ (letters-pass R p _)
    ∙ and_then-passes _ (trees-pass R p _)
    ∙ and_then-passes _ (classes-pass R p _)
    ∙ refuse-passes 14 _ _ (le-ltb _ _ h)

-- so an accepted file is written again, byte for byte
pub file-writes-back : (file : List ℕ) {R : Rule} → ((i : ℕ) → byte_at file i < 256) → check_rule file ≡ given R
    → (output : List ℕ) → length file ≤ length output
    → output_after (write_check R (length output)) R output ≡ file ++ drop (length file) output
unfolding output_after
file-writes-back file {R} bytes accepted output h =
    let long = accepted-length file accepted in
    let written = rule-writes R (length output) (accepted-is-rule file accepted) (omega arith) in
    ap (λ (answer : Answer ℕ). output_after answer R output) written
    ∙ ap₂ (λ (xs : List ℕ) (n : ℕ). xs ++ drop n output) (accepted-writes-back file bytes accepted) (sym long)

-- no accepted file is longer than the longest
pub accepted-longest : (file : List ℕ) {R : Rule} → check_rule file ≡ given R → length file ≤ 20573
unfolding file_length class_record tree_record letter_record
accepted-longest file {R} accepted =
    let p = accepted-is-rule file accepted in
    omega (arith, accepted-length file accepted, letters-small R p, trees-small R p, states-most R p)
