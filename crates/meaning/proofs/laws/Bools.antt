-- Laws of tests that are true of every number below n, or of some, and of lists made by a function: what the computed
-- tests say of each number. They hold by induction over n.
use mathlib.Core.Path.{◌≡◌, refl, ap}
use mathlib.Core.Bool.{Bool, true, false, ◌||◌}
use Prim.Native.Nat.{ℕ, zero, suc, ◌<◌}
use native.Mathlib.Nat.{not-suc-le-zero, le_of_suc-le-suc, eq-or-lt_of_le}
use mathlib.Core.Logic.{◌⊎◌, inl, inr}
use native.Mathlib.Omega.{arith}
use lib.ListN.{length, get_or}
use Rattle.std.proofs.lemmas.Bool.{and_from, and_parts, false_from_ne_true, or_left, or_right}
use Rattle.meaning.specs.SkipBook.{all_below, any_below, listed}
pub use Rattle.meaning.proofs.laws.Truths.{true-is-not-false, or-true, or-true-first}

-- ---- the numbers below n

-- a number below suc n is the last one or lies below n
pub last-or-below : {i n : ℕ} → i < suc n → (i ≡ n) ⊎ (i < n)
last-or-below h = eq-or-lt_of_le (le_of_suc-le-suc h)

pub below : {P : ℕ → Type 0} (n i : ℕ) → i < suc n → ((j : ℕ) → j < n → P j) → P n → P i
below {P} n i h before last = go (last-or-below h)
  where
    go : (i ≡ n) ⊎ (i < n) → P i
    go (inl e) = rw e last
    go (inr l) = before i l

-- ---- true of every number below n

pub all-below : (n : ℕ) (f : ℕ → Bool) → all_below n f ≡ true → (i : ℕ) → i < n → f i ≡ true
unfolding all_below
all-below zero f e i h = absurd (not-suc-le-zero h)
all-below (suc n) f e i h =
    let both = and_parts (all_below n f) (f n) e in
    below n i h (all-below n f both.0) both.1

pub below_all : (n : ℕ) (f : ℕ → Bool) → ((i : ℕ) → i < n → f i ≡ true) → all_below n f ≡ true
unfolding all_below
below_all zero f h = refl
below_all (suc n) f h = and_from _ _ (below_all n f (λ i l. h i (omega arith))) (h n (omega arith))

pub all-below-fails : (n : ℕ) (f : ℕ → Bool) (i : ℕ) → i < n → f i ≡ false → all_below n f ≡ false
all-below-fails n f i h e = false_from_ne_true _ (λ t. true-is-not-false (all-below n f t i h) e)

pub all-below-same : (n : ℕ) (f g : ℕ → Bool) → ((i : ℕ) → i < n → f i ≡ g i) → all_below n f ≡ all_below n g
unfolding all_below
all-below-same zero f g h = refl
all-below-same (suc n) f g h = cc (all-below-same n f g (λ i l. h i (omega arith)), h n (omega arith))

-- ---- true of some number below n

pub any_below_lem : (n : ℕ) (f : ℕ → Bool) → any_below n f ≡ true → (i : ℕ) × (i < n) × (f i ≡ true)
unfolding any_below
any_below_lem zero f e = true-is-not-false e refl
any_below_lem (suc n) f e = go (any_below n f) refl (any_below_lem n f)
  where
    go : (b : Bool) → any_below n f ≡ b → (any_below n f ≡ true → (i : ℕ) × (i < n) × (f i ≡ true))
        → (i : ℕ) × (i < suc n) × (f i ≡ true)
    go true t before = let w = before t in (w.0, omega arith, w.2)
    go false t before = (n, omega arith, or-true (any_below n f) (f n) e t)

pub below-any : (n : ℕ) (f : ℕ → Bool) (i : ℕ) → i < n → f i ≡ true → any_below n f ≡ true
unfolding any_below
below-any zero f i h e = absurd (not-suc-le-zero h)
below-any (suc n) f i h e = below {P = λ j. f j ≡ true → (any_below n f || f n) ≡ true} n i h
    (λ j l t. or_left _ (f n) (below-any n f j l t))
    (λ t. or_right (any_below n f) _ t) e

pub any-below-fails : (n : ℕ) (f : ℕ → Bool) → ((i : ℕ) → i < n → f i ≡ false) → any_below n f ≡ false
any-below-fails n f h = false_from_ne_true _ (λ t. let w = any_below_lem n f t in true-is-not-false w.2 (h w.0 w.1))

pub no-below-any : (n : ℕ) (f : ℕ → Bool) → any_below n f ≡ false → (i : ℕ) → i < n → f i ≡ false
no-below-any n f e i h = false_from_ne_true _ (λ t. true-is-not-false (below-any n f i h t) e)

pub any-below-same : (n : ℕ) (f g : ℕ → Bool) → ((i : ℕ) → i < n → f i ≡ g i) → any_below n f ≡ any_below n g
unfolding any_below
any-below-same zero f g h = refl
any-below-same (suc n) f g h = cc (any-below-same n f g (λ i l. h i (omega arith)), h n (omega arith))

-- ---- a list made by a function

pub listed-length : {A : Type 0} (n : ℕ) (f : ℕ → A) → length (listed n f) ≡ n
unfolding listed
listed-length zero f = refl
listed-length (suc n) f = ap suc (listed-length n (λ i. f (suc i)))

pub listed_at : {A : Type 0} (n : ℕ) (f : ℕ → A) (i : ℕ) (d : A) → i < n → get_or (listed n f) i d ≡ f i
unfolding listed
listed_at zero f i d h = absurd (not-suc-le-zero h)
listed_at (suc n) f zero d h = refl
listed_at (suc n) f (suc i) d h = listed_at n (λ j. f (suc j)) i d (le_of_suc-le-suc h)

pub listed_same : {A : Type 0} (n : ℕ) (f g : ℕ → A) → ((i : ℕ) → i < n → f i ≡ g i) → listed n f ≡ listed n g
unfolding listed
listed_same zero f g h = refl
listed_same (suc n) f g h =
    cc (h 0 (omega arith), listed_same n (λ i. f (suc i)) (λ i. g (suc i)) (λ i l. h (suc i) (omega arith)))
