-- Laws of words and their bits, digit by digit, lowest first: bit 0 is the remainder by 2, and bit p + 1 is bit p of the half.
use mathlib.Core.Path.{◌≡◌, refl, sym, ap, ap₂, ◌∙◌}
use mathlib.Core.Logic.{⊎_elim}
use mathlib.Core.Bool.{Bool, true, false, not, ◌&&◌, ◌||◌, xor}
use mathlib.Core.List.{List, [], ◌∷◌}
use Prim.Native.Nat.{ℕ, zero, suc, ◌+◌, ◌-◌, ◌*◌, ◌/◌, ◌%◌, ◌^◌, ◌≤◌, ◌<◌, min, max}
use native.Mathlib.Nat.{div-one, pow-suc, div-eq_of_lt, lt_of_lt_of_le}
use native.Mathlib.Numerals.{one-add}
use native.Mathlib.Omega.{arith}
use lib.Dec.{eqb-zero-suc, eqb-suc-zero, eqb-suc-suc}
use lib.ListN.{length}
use lib.Arith.{bin_ind}
use lib.Pow.{shr-shr, pow_mono}
use lib.Bits.{bit_and, bit_or, bit_xor, differ, and_step, or_step, xor_step, and_le_r}
use lib.Count.{count_trailing_zeros, under}
use borrow.Author.Tests.{eqb-true, eqb-false}
use Rattle.std.proofs.lemmas.Bool.{cases_Bool}
use Rattle.meaning.specs.Answers.{◌=?◌}
use Rattle.meaning.specs.SkipBook.{marked, word_of, bit}

-- ---- digit by digit

pub bit-first : (w : ℕ) → bit w zero ≡ (w % 2 =? 1)
unfolding bit
bit-first w = rw div-one

pub bit-next : (w p : ℕ) → bit w (suc p) ≡ bit (w / 2) p
unfolding bit
bit-next w p = ap (λ (x : ℕ). x % 2 =? 1) (ap (λ (k : ℕ). w / 2 ^ k) (sym (one-add p)) ∙ sym (shr-shr w 1 p))

pub bit-zero : (p : ℕ) → bit 0 p ≡ false
bit-zero zero = bit-first 0
bit-zero (suc p) = bit-next 0 p ∙ bit-zero p

-- the bits of a word by its lowest digit and its half
bit-half : (w x p : ℕ) → w / 2 ≡ x → bit w (suc p) ≡ bit x p
bit-half w x p e = bit-next w p ∙ ap (λ (y : ℕ). bit y p) e

bit-low : (w d : ℕ) → w % 2 ≡ d → bit w zero ≡ (d =? 1)
bit-low w d e = bit-first w ∙ ap (λ (y : ℕ). y =? 1) e

-- two words with the same bits are the same
digit-same : (a b : ℕ) → (a % 2 =? 1) ≡ (b % 2 =? 1) → a % 2 ≡ b % 2
digit-same a b e =
    ⊎_elim
    (λ t. omega (arith, eqb-true (a % 2) 1 t, eqb-true (b % 2) 1 (sym e ∙ t)))
    (λ f. let na = eqb-false (a % 2) 1 f in let nb = eqb-false (b % 2) 1 (sym e ∙ f) in omega arith)
    (cases_Bool (a % 2 =? 1))

same-bits-step : (a b : ℕ) → (a / 2 ≡ b / 2) → bit a zero ≡ bit b zero → a ≡ b
same-bits-step a b half e = let low = digit-same a b (sym (bit-first a) ∙ e ∙ bit-first b) in omega arith

no_bits : (w : ℕ) → ((p : ℕ) → bit w p ≡ false) → 0 ≡ w
no_bits =
    bin_ind (λ (w : ℕ). ((p : ℕ) → bit w p ≡ false) → 0 ≡ w) (λ h. refl)
    (λ w more h. same-bits-step 0 w (more (λ p. sym (bit-next w p) ∙ h (suc p))) (bit-zero zero ∙ sym (h zero)))

pub same_bits : (a b : ℕ) → ((p : ℕ) → bit a p ≡ bit b p) → a ≡ b
same_bits =
    bin_ind (λ (a : ℕ). (b : ℕ) → ((p : ℕ) → bit a p ≡ bit b p) → a ≡ b) (λ b h. no_bits b (λ p. sym (h p) ∙ bit-zero p))
    (λ a more b h. same-bits-step a b (more (b / 2) (λ p. sym (bit-next a p) ∙ h (suc p) ∙ bit-next b p)) (h zero))

-- ---- the word of some marks

pub bit_word : (marks : List Bool) (p : ℕ) → bit (word_of marks) p ≡ marked marks p
unfolding word_of marked
bit_word [] p = bit-zero p
bit_word (true ∷ marks) zero = bit-low (1 + 2 * word_of marks) 1 (omega arith)
bit_word (true ∷ marks) (suc p) = bit-half (1 + 2 * word_of marks) (word_of marks) p (omega arith) ∙ bit_word marks p
bit_word (false ∷ marks) zero = bit-low (2 * word_of marks) 0 (omega arith)
bit_word (false ∷ marks) (suc p) = bit-half (2 * word_of marks) (word_of marks) p (omega arith) ∙ bit_word marks p

pub word_below : (marks : List Bool) → word_of marks < 2 ^ length marks
unfolding word_of
word_below [] = omega arith
word_below (true ∷ marks) = omega (arith, pow-suc 2 (length marks), word_below marks)
word_below (false ∷ marks) = omega (arith, pow-suc 2 (length marks), word_below marks)

-- a word that has the bits of some marks is their word
pub word-of : (w : ℕ) (marks : List Bool) → ((p : ℕ) → bit w p ≡ marked marks p) → w ≡ word_of marks
word-of w marks h = same_bits w (word_of marks) (λ p. h p ∙ sym (bit_word marks p))

-- ---- bits past the digits of a word

pub bit_past : (k w p : ℕ) → w < 2 ^ k → k ≤ p → bit w p ≡ false
unfolding bit
bit_past k w p h l = ap (λ (x : ℕ). x % 2 =? 1) (div-eq_of_lt (lt_of_lt_of_le h (pow_mono l)))

-- ---- or, and, and where two words differ, bit by bit

by-digit : (P : ℕ → Type 0) → P 0 → P 1 → (x : ℕ) → x < 2 → P x
by-digit P p0 p1 zero h = p0
by-digit P p0 p1 (suc zero) h = p1
by-digit P p0 p1 (suc (suc x)) h = absurd (omega arith)

by_digits : (P : ℕ → ℕ → Type 0) → P 0 0 → P 0 1 → P 1 0 → P 1 1 → (a b : ℕ) → P (a % 2) (b % 2)
by_digits P p00 p01 p10 p11 a b =
    by-digit (λ x. P x (b % 2)) (by-digit (P 0) p00 p01 (b % 2) (omega arith)) (by-digit (P 1) p10 p11 (b % 2) (omega arith)) (a % 2)
    (omega arith)

-- an operation on words that works on each digit works on each bit
module _ (op f : ℕ → ℕ → ℕ) (g : Bool → Bool → Bool)
    (step : (a b : ℕ) → op a b ≡ op (a / 2) (b / 2) * 2 + f (a % 2) (b % 2))
    (small : (a b : ℕ) → f (a % 2) (b % 2) < 2)
    (right : (a b : ℕ) → (f (a % 2) (b % 2) =? 1) ≡ g (a % 2 =? 1) (b % 2 =? 1)) where
  bit-op : (a b p : ℕ) → bit (op a b) p ≡ g (bit a p) (bit b p)
  bit-op a b zero =
      bit-low (op a b) (f (a % 2) (b % 2)) (omega (arith, step a b, small a b)) ∙ right a b
      ∙ sym (ap₂ g (bit-first a) (bit-first b))
  bit-op a b (suc p) =
      bit-half (op a b) (op (a / 2) (b / 2)) p (omega (arith, step a b, small a b)) ∙ bit-op (a / 2) (b / 2) p
      ∙ sym (ap₂ g (bit-next a p) (bit-next b p))

pub bit-or : (a b p : ℕ) → bit (bit_or a b) p ≡ (bit a p || bit b p)
bit-or =
    bit-op bit_or max (λ x y. x || y) or_step
    (by_digits (λ x y. max x y < 2) (omega arith) (omega arith) (omega arith) (omega arith))
    (by_digits (λ x y. (max x y =? 1) ≡ (x =? 1 || y =? 1)) refl refl refl refl)

pub bit-and : (a b p : ℕ) → bit (bit_and a b) p ≡ (bit a p && bit b p)
bit-and =
    bit-op bit_and min (λ x y. x && y) and_step
    (by_digits (λ x y. min x y < 2) (omega arith) (omega arith) (omega arith) (omega arith))
    (by_digits (λ x y. (min x y =? 1) ≡ (x =? 1 && y =? 1)) refl refl refl refl)

pub bit-xor : (a b p : ℕ) → bit (bit_xor a b) p ≡ xor (bit a p) (bit b p)
unfolding xor
bit-xor =
    bit-op bit_xor differ (λ x y. xor x y) xor_step
    (by_digits (λ x y. differ x y < 2) (omega arith) (omega arith) (omega arith) (omega arith))
    (by_digits (λ x y. (differ x y =? 1) ≡ xor (x =? 1) (y =? 1)) refl refl refl refl)

-- ---- a single member

pub bit-only : (t p : ℕ) → bit (2 ^ t) p ≡ (t =? p)
bit-only zero zero = bit-low 1 1 refl
bit-only zero (suc p) = bit-half 1 0 p refl ∙ bit-zero p ∙ sym (eqb-zero-suc p)
bit-only (suc t) zero = bit-low (2 ^ suc t) 0 (omega (arith, pow-suc 2 t)) ∙ sym (eqb-suc-zero t)
bit-only (suc t) (suc p) = bit-half (2 ^ suc t) (2 ^ t) p (omega (arith, pow-suc 2 t)) ∙ bit-only t p ∙ sym (eqb-suc-suc t p)

-- ---- the lowest member of a set that is not empty

-- t is a digit of k, a member of w, and the one member that goes with the digits of w - 1
pub record Lowest (k w t : ℕ) : Type 0 where
  pub below : t < k
  pub member : bit w t ≡ true
  pub others : (p : ℕ) → (bit w p && bit (w - 1) p) ≡ (bit w p && not (t =? p))

both : {a b c d : Bool} → a ≡ b → c ≡ d → (a && c) ≡ (b && d)
both p q = ap₂ (λ (x y : Bool). x && y) p q

twice : (a : Bool) → (a && a) ≡ (a && true)
twice true = refl
twice false = refl

lowest-odd : (k w : ℕ) → w % 2 ≡ 1 → Lowest (suc k) w zero
lowest-odd k w e = record { below = omega arith; member = bit-low w 1 e; others = others }
  where
    others : (p : ℕ) → (bit w p && bit (w - 1) p) ≡ (bit w p && not (zero =? p))
    others zero = both {a = bit w zero} refl (bit-low (w - 1) 0 (omega arith))
    others (suc p) =
        both (bit-next w p) (bit-half (w - 1) (w / 2) p (omega arith)) ∙ twice (bit (w / 2) p)
        ∙ sym (both (bit-next w p) (ap not (eqb-zero-suc p)))

lowest-even : (k w t : ℕ) → w % 2 ≡ 0 → 0 < w → Lowest k (w / 2) t → Lowest (suc k) w (suc t)
lowest-even k w t e pos low = record { below = omega (arith, low.below); member = bit-next w t ∙ low.member; others = others }
  where
    others : (p : ℕ) → (bit w p && bit (w - 1) p) ≡ (bit w p && not (suc t =? p))
    others zero = rw (bit-low w 0 e)
    others (suc p) =
        both (bit-next w p) (bit-half (w - 1) (w / 2 - 1) p (omega arith)) ∙ low.others p
        ∙ sym (both (bit-next w p) (ap not (eqb-suc-suc t p)))

by-lowest-digit : (k w t : ℕ) → 0 < w → (0 < w / 2 → Lowest k (w / 2) t) → (d : ℕ) → w % 2 ≡ d → Lowest (suc k) w (under d t)
by-lowest-digit k w t pos low zero e = lowest-even k w t e pos (low (omega arith))
by-lowest-digit k w t pos low (suc d) e = lowest-odd k w (omega arith)

pub lowest : (k w : ℕ) → 0 < w → w < 2 ^ k → Lowest k w (count_trailing_zeros k w)
unfolding count_trailing_zeros
lowest zero w pos h = absurd (omega arith)
lowest (suc k) w pos h =
    by-lowest-digit k w (count_trailing_zeros k (w / 2)) pos (λ p. lowest k (w / 2) p (omega (arith, pow-suc 2 k))) (w % 2) refl

-- without its lowest member a set is less, and has the other members
pub cleared : (k w : ℕ) → 0 < w → w < 2 ^ k → (p : ℕ) → bit (bit_and w (w - 1)) p ≡ (bit w p && not (count_trailing_zeros k w =? p))
cleared k w pos h p = bit-and w (w - 1) p ∙ (lowest k w pos h).others p

pub cleared-less : (w : ℕ) → 0 < w → bit_and w (w - 1) < w
cleared-less w pos = omega (arith, and_le_r w (w - 1))
