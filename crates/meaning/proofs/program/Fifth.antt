-- Where bytes follow the fourth record: the rule check refuses by 5, and by nothing else it refuses so. The four records then
-- pass, their file ends where those bytes begin, and that file by itself is accepted. So the front of every input says of its
-- record of events what the whole input says.
use Rattle.std.proofs.Common.{if◌then◌else◌}
use mathlib.Core.Path.{◌≡◌, refl, sym, ap, ◌∙◌}
use mathlib.Core.Bool.{Bool, true, false}
use mathlib.Core.List.{List, [], ◌∷◌, ◌++◌}
use Prim.Native.Nat.{ℕ, suc, ◌+◌, ◌*◌, ◌%◌, ◌≤◌, ◌<◌}
use native.Mathlib.Nat.{lt_of_not-le}
use native.Mathlib.Decide.{dec_le}
use native.Mathlib.Omega.{arith}
use lib.ListN.{length, take, length-append}
use lib.Seq.{take_all, take-append_seam}
use borrow.Author.Tests.{le-ltb, ltb-true, ltb-false, eqb-true, eqb-false, ne_eqb}
use Rattle.meaning.specs.Answers.{Answer, given, refused, refuse◌at◌when◌otherwise◌, ◌and_then◌, ◌giving◌, ◌=?◌}
use Rattle.meaning.specs.RuleFile.{Rule, is_move, is_class, rule_of, check_rule, record_check, numbers_check, table_check, letter_record, tree_record, class_record, file_length, header_length, numbers_length}
use Rattle.meaning.specs.CheckProgram.{EventsAt, front_length, events_header, events_place, front_check}
use Rattle.meaning.proofs.laws.Answered.{refuse-passes, refuse-given, and_then-passes, giving-passes, giving-stops, giving-given, if-true, if-false}
use Rattle.meaning.proofs.rulefile.RoundTrip.{accepted-longest}
use Rattle.meaning.proofs.stores.OneAnswer.{given-says}
use Rattle.meaning.proofs.program.Front.{front_length_lem, record_same, states-same, letters-same, rule-same, within, rest-same, front-check, front-header}

-- ---- the checks of the four records never refuse by 5

-- an answer that is no refusal by 5
abbrev Other : {A : Type 0} → Answer A → Type 0
Other x = (place : ℕ) → x ≡ refused 5 place → ⊥

given-other : {A : Type 0} (a : A) → Other (given a)
given-other a place e = let z : ◌≡◌ {A = ℕ} 0 1 = cc in absurd (omega arith)

refuse-other : {A : Type 0} (number at' : ℕ) (b : Bool) (rest : Answer A) → (number ≡ 5 → ⊥) → Other rest
    → Other (refuse number at at' when b otherwise rest)
unfolding refuse◌at◌when◌otherwise◌
refuse-other number at' true rest other more place e = other (cc)
refuse-other number at' false rest other more place e = more place e

record-other : (file : List ℕ) (place kind size : ℕ) → Other (record_check file place kind size)
unfolding record_check
record-other file place kind size =
    refuse-other 1 _ _ _ (eqb-false 1 5 refl)
    (refuse-other 2 _ _ _ (eqb-false 2 5 refl)
    (refuse-other 3 _ _ _ (eqb-false 3 5 refl) (refuse-other 1 _ _ _ (eqb-false 1 5 refl) (given-other tt))))

numbers-other : (R : Rule) → Other (numbers_check R)
unfolding numbers_check
numbers-other R =
    refuse-other 4 _ _ _ (eqb-false 4 5 refl)
    (refuse-other 4 _ _ _ (eqb-false 4 5 refl)
    (refuse-other 4 _ _ _ (eqb-false 4 5 refl) (refuse-other 4 _ _ _ (eqb-false 4 5 refl) (given-other tt))))

table-other : (good : ℕ → Bool) (place : ℕ) (xs : List ℕ) → Other (table_check good place xs)
unfolding table_check
table-other good place [] = given-other tt
table-other good place (x ∷ xs) = refuse-other 4 _ _ _ (eqb-false 4 5 refl) (table-other good (suc place) xs)

-- so a refusal by 5 comes from what follows them
and_then-other : {A : Type 0} {place : ℕ} (check : Answer Unit) (rest : Answer A) → Other check
    → (check and_then rest) ≡ refused 5 place → (check ≡ given tt) × (rest ≡ refused 5 place)
unfolding ◌and_then◌
and_then-other (given u) rest other e = (refl, e)
and_then-other {place = place} (refused number at') rest other e =
    let five : number ≡ 5 = cc in
    let there : at' ≡ place = cc in
    absurd (other place (rw (five, there)))

refuse-5 : {A : Type 0} (at' : ℕ) (b : Bool) (a : A) {place : ℕ} → (refuse 5 at at' when b otherwise given a) ≡ refused 5 place
    → (b ≡ true) × (place ≡ at')
unfolding refuse◌at◌when◌otherwise◌
refuse-5 at' true a e = (refl, cc)
refuse-5 at' false a {place} e = absurd (given-other a place e)

-- ---- what a refusal by 5 says

-- the four records pass, and the file goes on after them
pub record Followed (file : List ℕ) (R : Rule) (place : ℕ) : Type 0 where
  pub first : record_check file 0 1 numbers_length ≡ given tt
  pub numbers : numbers_check R ≡ given tt
  pub second : record_check file letter_record 2 (R.states * R.letters) ≡ given tt
  pub letter_table : table_check (is_move R.states) (letter_record + header_length) R.letter_moves ≡ given tt
  pub third : record_check file (tree_record R.states R.letters) 3 (R.states * R.states) ≡ given tt
  pub tree_table : table_check (is_move R.states) (tree_record R.states R.letters + header_length) R.tree_moves ≡ given tt
  pub fourth : record_check file (class_record R.states R.letters) 4 R.states ≡ given tt
  pub class_table : table_check is_class (class_record R.states R.letters + header_length) R.classes ≡ given tt
  pub ends : place ≡ file_length R.states R.letters
  pub more : place < length file

pub followed : (file : List ℕ) {place : ℕ} → check_rule file ≡ refused 5 place → Followed file (rule_of file) place
unfolding check_rule
followed file e =
    let a1 = and_then-other _ _ (record-other file 0 1 numbers_length) e in
    let a2 = and_then-other _ _ (numbers-other (rule_of file)) a1.1 in
    let a3 = and_then-other _ _ (record-other file _ _ _) a2.1 in
    let a4 = and_then-other _ _ (table-other _ _ _) a3.1 in
    let a5 = and_then-other _ _ (record-other file _ _ _) a4.1 in
    let a6 = and_then-other _ _ (table-other _ _ _) a5.1 in
    let a7 = and_then-other _ _ (record-other file _ _ _) a6.1 in
    let a8 = and_then-other _ _ (table-other _ _ _) a7.1 in
    let a9 = refuse-5 _ _ _ a8.1 in
    record {
      first = a1.0;
      numbers = a2.0;
      second = a3.0;
      letter_table = a4.0;
      third = a5.0;
      tree_table = a6.0;
      fourth = a7.0;
      class_table = a8.0;
      ends = a9.1;
      more = rw a9.1 (ltb-true _ _ a9.0);
    }

-- ---- the file of the four records

module _ (input : List ℕ) (place : ℕ) (e : check_rule input ≡ refused 5 place) where
  there : Followed input (rule_of input) place
  there = followed input e

  long : place ≤ length input
  long = omega (arith, there.more)

  -- the bytes before the fifth record are a rule file by themselves
  pub fifth-file : check_rule (take place input) ≡ given (rule_of input)
  unfolding check_rule file_length class_record tree_record letter_record
  fifth-file =
      let R : Rule = rule_of input in
      let n : ℕ = R.states in
      let k : ℕ = R.letters in
      let f = there in
      let ends : place ≡ file_length n k = f.ends in
      rw (
        rule-same input place long (omega arith),
        record_same input place long 0 1 numbers_length (omega arith),
        record_same input place long letter_record 2 (n * k) (omega arith),
        record_same input place long (tree_record n k) 3 (n * n) (omega arith),
        record_same input place long (class_record n k) 4 n (omega arith),
      )
      (and_then-passes _ f.first
      ∙ (and_then-passes _ f.numbers
      ∙ (and_then-passes _ f.second
      ∙ (and_then-passes _ f.letter_table
      ∙ (and_then-passes _ f.third
      ∙ (and_then-passes _ f.tree_table
      ∙ (and_then-passes _ f.fourth
      ∙ (and_then-passes _ f.class_table
      ∙ refuse-passes 5 (file_length n k) _ (le-ltb (file_length n k) _ (omega (arith, front_length_lem input place long)))))))))))

  -- and no longer than the longest rule file
  pub fifth-within : place + header_length ≤ front_length
  fifth-within = omega (arith, there.ends, within input place long there.numbers)

-- ---- the front of an input

-- what an input says of its record of events, by what the rule check of it refuses
pub fifth-starts : (input : List ℕ) {place : ℕ} → check_rule input ≡ refused 5 place
    → front_check input ≡ (events_header input place giving λ size. given (record { place = place; size = size }))
unfolding front_check events_place
fifth-starts input {place} e = rw e (giving-passes _ (if-true (given place) (refused 5 place) refl))

pub other-refused : (input : List ℕ) {number place : ℕ} → check_rule input ≡ refused number place → (number ≡ 5 → ⊥)
    → front_check input ≡ refused number place
unfolding front_check events_place
other-refused input {number} e other = rw e (giving-stops _ (if-false _ _ (ne_eqb number 5 other)))

module _ (input : List ℕ) (long : front_length ≤ length input) where
  abbrev front : List ℕ
  front = take front_length input

  same_check : check_rule front ≡ check_rule input
  same_check = front-check input front_length long (omega arith)

  by_number : (number place : ℕ) (five : Bool) → (number =? 5) ≡ five → check_rule input ≡ refused number place
      → front_check front ≡ front_check input
  by_number number place true is e =
      let five : number ≡ 5 = eqb-true number 5 is in
      let after : check_rule input ≡ refused 5 place = e ∙ ap (λ n. refused n place) five in
      fifth-starts front (same_check ∙ after)
      ∙ (rw (front-header input front_length long place (fifth-within input place after)) (sym (fifth-starts input after)))
  by_number number place false is e =
      let other : number ≡ 5 → ⊥ = eqb-false number 5 is in
      other-refused front (same_check ∙ e) other ∙ sym (other-refused input e other)

  by-check : (answer : Answer Rule) → check_rule input ≡ answer → front_check front ≡ front_check input
  by-check (given R) e = absurd (omega (arith, accepted-longest input e))
  by-check (refused number place) e = by_number number place (number =? 5) refl e

-- The front of an input says of its record of events what the whole input says.
pub front-join : (input : List ℕ) → front_check (take front_length input) ≡ front_check input
front-join input =
    elim (dec_le front_length (length input)) [
      | yes long ↦ by-check input long (check_rule input) refl
      | no short ↦ ap front_check (take_all front_length input (omega (arith, lt_of_not-le short)))
    ]

-- ---- where the record of events was found

-- what was found: the rule check refuses by the bytes that follow, and the header there is whole, of kind 5 and of even length
pub record Found (input : List ℕ) (at' : EventsAt) : Type 0 where
  pub after : check_rule input ≡ refused 5 at'.place
  pub header : events_header input at'.place ≡ given at'.size

found-place : (input : List ℕ) (answer : Answer Rule) {place : ℕ} → check_rule input ≡ answer → events_place input ≡ given place
    → check_rule input ≡ refused 5 place
unfolding events_place
found-place input (given R) e h = let z : ◌≡◌ {A = ℕ} 0 1 = cc (rw e at h) in absurd (omega arith)
found-place input (refused number at') e h = e ∙ by-five number at' (number =? 5) refl (rw e at h)
  where
    by-five : (number at' : ℕ) {place : ℕ} (five : Bool) → (number =? 5) ≡ five
        → ◌≡◌ {A = Answer ℕ} (if number =? 5 then given at' else refused number at') (given place)
        → ◌≡◌ {A = Answer Rule} (refused number at') (refused 5 place)
    by-five number at' {place} true is h =
        let five : number ≡ 5 = eqb-true number 5 is in
        let there : at' ≡ place = cc (rw (if-true _ _ is) at h) in
        rw (five, there)
    by-five number at' false is h = let z : ◌≡◌ {A = ℕ} 0 1 = cc (rw (if-false _ _ is) at h) in absurd (omega arith)

pub found : (input : List ℕ) {at' : EventsAt} → front_check input ≡ given at' → Found input at'
unfolding front_check
found input {at'} e =
    let p = giving-given (events_place input) _ e in
    let s = giving-given (events_header input p.0) _ p.2 in
    let place : p.0 ≡ at'.place = ap (λ f. f.place) (given-says _ _ s.2) in
    let size : s.0 ≡ at'.size = ap (λ f. f.size) (given-says _ _ s.2) in
    record {
      after = found-place input (check_rule input) refl p.1 ∙ ap (λ n. refused 5 n) place;
      header = ap (λ n. events_header input n) (sym place) ∙ (s.1 ∙ ap given size);
    }

-- the header of an even length that stands within the input
pub header-says : (input : List ℕ) (place : ℕ) {size : ℕ} → events_header input place ≡ given size
    → (place + header_length ≤ length input) × (size % 2 ≡ 1 → ⊥)
unfolding events_header
header-says input place e =
    let a1 = refuse-given 1 (length input) _ _ e in
    let a2 = refuse-given 2 (place + 4) _ _ a1.1 in
    let a3 = refuse-given 3 place _ _ a2.1 in
    let size = given-says _ _ a3.1 in
    (ltb-false _ _ a1.0, rw (← size) (eqb-false _ _ a3.0))

-- ---- bytes after what was found

-- a file that is followed is longer than its numbers
past-numbers : (n k place : ℕ) → place ≡ file_length n k → 12 ≤ place
unfolding file_length class_record tree_record letter_record
past-numbers n k place e = omega arith

-- what was found in some bytes is found in them with more after them
pub front-more : (bytes more : List ℕ) {at' : EventsAt} → front_check bytes ≡ given at' → front_check (bytes ++ more) ≡ given at'
front-more bytes more {at'} e =
    let input : List ℕ = bytes ++ more in
    let m : ℕ = length bytes in
    let f = found bytes e in
    let g = followed bytes f.after in
    let long : m ≤ length input = simp length-append (omega arith) in
    let same : take m input ≡ bytes = take-append_seam bytes more in
    let twelve : 12 ≤ m = omega (arith, past-numbers _ _ _ g.ends, g.more) in
    let states : (rule_of input).states ≡ (rule_of bytes).states
    = sym (states-same input m long twelve) ∙ ap (λ b. (rule_of b).states) same in
    let letters : (rule_of input).letters ≡ (rule_of bytes).letters
    = sym (letters-same input m long twelve) ∙ ap (λ b. (rule_of b).letters) same in
    let ends : file_length (rule_of input).states (rule_of input).letters < m = rw (states, letters) (omega (arith, g.ends, g.more)) in
    let check : check_rule input ≡ refused 5 at'.place
    = sym (rest-same input m long ends) ∙ (ap check_rule same ∙ f.after) in
    fifth-starts input check
    ∙ giving-passes _
    (sym (front-header input m long at'.place (header-says bytes at'.place f.header).0) ∙ (ap (λ b. events_header b at'.place) same ∙ f.header))
