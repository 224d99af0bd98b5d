-- The kit's digits are the decimal digits of the definitions, and these are 20 at the most.
use Rattle.std.proofs.Common.{if◌then◌else◌}
use mathlib.Core.Path.{◌≡◌, sym, ap, ◌∙◌}
use mathlib.Core.Bool.{Bool, true, false}
use mathlib.Core.List.{List, [], ◌∷◌, ◌++◌}
use Prim.Native.Nat.{ℕ, zero, suc, ◌+◌, ◌-◌, ◌*◌, ◌/◌, ◌%◌, ◌^◌, ◌≤◌, ◌<◌}
use native.Mathlib.Nat.{not-suc-le-zero, lt_of_not-le}
use native.Mathlib.Decide.{dec_le}
use native.Mathlib.Numerals.{add-one}
use native.Mathlib.Omega.{arith}
use lib.ListN.{length, length-append}
use lib.Pow.{pow-add}
use borrow.Author.Tests.{lt-ltb, eq-eqb, ne_eqb}
use Rattle.io.specs.Digits.{hex_digit_ascii, last_digits, IsDigitCount}
use Rattle.meaning.specs.Answers.{◌=?◌}
use Rattle.meaning.specs.CheckProgram.{digits_in, decimal}
use Rattle.meaning.proofs.laws.Answered.{if-true, if-false}

pow-suc : (j : ℕ) → 10 ^ suc j ≡ 10 ^ j * 10
pow-suc j = ap (λ n. 10 ^ n) (sym (add-one j)) ∙ pow-add 10 j 1

glyph-is : (n : ℕ) → hex_digit_ascii (n % 10) ≡ 0x30 + n % 10
glyph-is n = let below : n % 10 < 10 = omega arith in rw (lt-ltb (n % 10) 10 below)

-- one digit, and a digit after others
last-digit : (most n : ℕ) → n / 10 ≡ 0 → digits_in (suc most) n ≡ (0x30 + n % 10) ∷ []
unfolding digits_in
last-digit most n e = rw (if-true [] (digits_in most (n / 10)) (eq-eqb (n / 10) 0 e))

more-digits : (most n : ℕ) → (n / 10 ≡ 0 → ⊥) → digits_in (suc most) n ≡ digits_in most (n / 10) ++ ((0x30 + n % 10) ∷ [])
unfolding digits_in
more-digits most n e = rw (if-false [] (digits_in most (n / 10)) (ne_eqb (n / 10) 0 e))

div_below : (n p : ℕ) → n < p * 10 → n / 10 < p
div_below n p h = omega arith

div-above : (n p : ℕ) → p * 10 ≤ n → p ≤ n / 10
div-above n p h = omega arith

pow-one : (j : ℕ) → 1 ≤ 10 ^ j
pow-one zero = omega arith
pow-one (suc j) = omega (arith, pow-suc j, pow-one j)

same_digits : (most k n : ℕ) → suc k ≤ most → n < 10 ^ suc k → (1 ≤ k → 10 ^ k ≤ n) → digits_in most n ≡ last_digits 10 (suc k) n
same_digits zero k n fits below above = absurd (not-suc-le-zero fits)
same_digits (suc most) zero n fits below above =
    last-digit most n (omega (arith, pow-suc 0)) ∙ rw (glyph-is n)
same_digits (suc most) (suc k) n fits below above =
    let high : 10 ^ k * 10 ≤ n = omega (arith, above (omega arith), pow-suc k) in
    more-digits most n (omega (arith, pow-one k))
    ∙ rw (
      glyph-is n,
      same_digits most k (n / 10) (omega arith) (div_below n (10 ^ suc k) (omega (arith, pow-suc (suc k)))) (λ h. div-above n (10 ^ k) high),
    )

pow-twenty : (j : ℕ) → 10 ^ 20 ≤ 10 ^ (20 + j)
pow-twenty j = rw (pow-add 10 20 j) (omega (arith, pow-one j))

-- a number of 64 bits has 20 digits at the most
few-digits : (k n : ℕ) → n < 2 ^ 64 → (1 ≤ k → 10 ^ k ≤ n) → suc k ≤ 20
few-digits k n word above =
    elim (dec_le (suc k) 20) [
      | yes h ↦ h
      | no h ↦ let more : 20 ≤ k = omega (arith, lt_of_not-le h) in
          let sum : 20 + (k - 20) ≡ k = omega arith in
          let big : 10 ^ 20 ≤ 10 ^ k = rw sum at (pow-twenty (k - 20)) in
          absurd (omega (arith, above (omega arith), big))
    ]

pub decimal-digits : (n k : ℕ) → n < 2 ^ 64 → IsDigitCount 10 1 n k → last_digits 10 k n ≡ decimal n
unfolding decimal
decimal-digits n zero word few = absurd (not-suc-le-zero few.0)
decimal-digits n (suc k) word few =
    let back : suc k - 1 ≡ k = omega arith in
    let above : 1 ≤ k → 10 ^ k ≤ n = λ h. rw back at (few.2 (omega arith)) in
    sym (same_digits 20 k n (few-digits k n word above) few.1 above)

-- either of two lists that are no longer than that
either-few : (b : Bool) (x y : List ℕ) (most : ℕ) → length x ≤ most → length y ≤ most → length (if b then x else y) ≤ most
either-few true x y most h k = h
either-few false x y most h k = k

digits-few : (most n : ℕ) → length (digits_in most n) ≤ most
unfolding digits_in
digits-few zero n = omega arith
digits-few (suc most) n =
    simp length-append (omega (arith, either-few (n / 10 =? 0) [] (digits_in most (n / 10)) most (omega arith) (digits-few most (n / 10))))

pub decimal-few : (n : ℕ) → length (decimal n) ≤ 20
unfolding decimal
decimal-few n = digits-few 20 n
