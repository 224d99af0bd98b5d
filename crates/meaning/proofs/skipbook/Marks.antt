-- Laws of marks: what stands in a list of n marks, and how many numbers below n pass a test. Whoever uses marks goes by these
-- and does not open the words.
use mathlib.Core.Path.{◌≡◌, refl, sym, ap, ◌∙◌}
use mathlib.Core.Logic.{⊎_elim}
use mathlib.Core.Bool.{Bool, true, false, false≢true}
use Prim.Native.Nat.{ℕ, zero, suc, ◌+◌, ◌≤◌, ◌<◌, zero-le}
use native.Mathlib.Nat.{not-suc-le-zero, le_step, le_refl}
use native.Mathlib.Omega.{arith}
use lib.ListN.{get_or, get_or-eq_default}
use borrow.Author.Tests.{ltb-true, ltb-false}
use Rattle.std.proofs.lemmas.Bool.{cases_Bool}
use Rattle.meaning.specs.Answers.{◌<?◌}
use Rattle.meaning.specs.SkipBook.{listed, marked}
use Rattle.meaning.proofs.laws.Truths.{true-is-not-false}
use Rattle.meaning.proofs.laws.Bools.{last-or-below, listed-length, listed_at}

-- ---- lists of n

-- what is true of each entry, and of what stands past the end, is true at every place
pub listed-each : {A : Type 0} (P : A → Type 0) (n : ℕ) (f : ℕ → A) (d : A) → ((i : ℕ) → P (f i)) → P d → (i : ℕ) → P (get_or (listed n f) i d)
unfolding listed
listed-each P zero f d each past i = past
listed-each P (suc n) f d each past zero = each zero
listed-each P (suc n) f d each past (suc i) = listed-each P n (λ j. f (suc j)) d (λ j. each (suc j)) past i

pub marked-below : (n : ℕ) (f : ℕ → Bool) (p : ℕ) → p < n → marked (listed n f) p ≡ f p
unfolding marked
marked-below n f p h = listed_at n f p false h

pub marked-past : (n : ℕ) (f : ℕ → Bool) (p : ℕ) → n ≤ p → marked (listed n f) p ≡ false
unfolding marked
marked-past n f p h = get_or-eq_default (listed n f) false (rw listed-length h)

-- what is marked is below n, and the test holds of it
pub marked-true : (n : ℕ) (f : ℕ → Bool) (p : ℕ) → marked (listed n f) p ≡ true → (p < n) × (f p ≡ true)
marked-true n f p e = ⊎_elim inside outside (cases_Bool (p <? n))
  where
    inside : (p <? n) ≡ true → (p < n) × (f p ≡ true)
    inside t = let h : p < n = ltb-true p n t in (h, sym (marked-below n f p h) ∙ e)

    outside : (p <? n) ≡ false → (p < n) × (f p ≡ true)
    outside t = true-is-not-false e (marked-past n f p (ltb-false p n t))

-- ---- how many numbers below n pass a test

one : Bool → ℕ
one true = 1
one false = 0

pub count_below : ℕ → (ℕ → Bool) → ℕ
count_below zero f = 0
count_below (suc n) f = count_below n f + one (f n)

one-most : (b : Bool) → one b ≤ 1
unfolding one
one-most true = omega arith
one-most false = omega arith

one_more : (a b : Bool) → (a ≡ true → b ≡ true) → one a ≤ one b
unfolding one
one_more true b h = rw (h refl) (omega arith)
one_more false b h = zero-le

pub count_most : (n : ℕ) (f : ℕ → Bool) → count_below n f ≤ n
unfolding count_below
count_most zero f = zero-le
count_most (suc n) f = omega (arith, count_most n f, one-most (f n))

-- a test that more numbers pass counts more
count-more : (n : ℕ) (f g : ℕ → Bool) → ((i : ℕ) → i < n → f i ≡ true → g i ≡ true) → count_below n f ≤ count_below n g
unfolding count_below
count-more zero f g h = zero-le
count-more (suc n) f g h =
    omega (arith, count-more n f g (λ i l. h i (le_step l)), one_more (f n) (g n) (h n (le_refl (suc n))))

pub count_less : (n : ℕ) (f g : ℕ → Bool) → ((i : ℕ) → i < n → f i ≡ true → g i ≡ true)
    → (i : ℕ) → i < n → f i ≡ false → g i ≡ true → count_below n f < count_below n g
unfolding count_below one
count_less zero f g h i l no-f yes-g = absurd (not-suc-le-zero l)
count_less (suc n) f g h i l no-f yes-g =
    ⊎_elim
    (λ e. let rest = count-more n f g (λ j b. h j (le_step b)) in
    let no-f' : f n ≡ false = ap f (sym e) ∙ no-f in
    let yes-g' : g n ≡ true = ap g (sym e) ∙ yes-g in
    rw (no-f', yes-g') (omega arith))
    (λ b. omega (arith, count_less n f g (λ j c. h j (le_step c)) i b no-f yes-g, one_more (f n) (g n) (h n (le_refl (suc n)))))
    (last-or-below l)

-- a test that some number passes counts one at least
pub count-some : (n : ℕ) (f : ℕ → Bool) (i : ℕ) → i < n → f i ≡ true → 0 < count_below n f
count-some n f i h e = omega (arith, count_less n (λ _. false) f (λ j l no. absurd (false≢true no)) i h refl e)
