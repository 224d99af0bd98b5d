-- Laws of words that stand for sets: the empty set, one member, the join of two, the join of one more, and the set without
-- its lowest member. Each is a law of bits said of all 64.
use mathlib.Core.Path.{◌≡◌, refl, sym, ap, ap₂, ◌∙◌}
use mathlib.Core.Logic.{⊎_elim}
use mathlib.Core.Bool.{Bool, true, false, not, ◌&&◌, ◌||◌, false≢true, or_assoc}
use mathlib.Core.List.{List}
use Prim.Native.Nat.{ℕ, ◌+◌, ◌-◌, ◌^◌, ◌≤◌, ◌<◌}
use native.Mathlib.Nat.{not-suc-le-zero}
use native.Mathlib.Omega.{arith}
use native.Mathlib.Numerals.{add-one}
use lib.ListN.{length, set, get_or-eq_default}
use lib.Bits.{bit_and, bit_or}
use lib.Count.{count_trailing_zeros}
use borrow.Author.Tests.{ltb-true, ltb-false, lt-ltb, eqb-true, eq-eqb}
use Rattle.std.proofs.lemmas.Bool.{and_from, and_parts, cases_Bool, or_cases, or_left, or_right}
use Rattle.std.specs.Cmp.Derive.{one_truth}
use Rattle.meaning.specs.Answers.{◌=?◌, ◌<?◌}
use Rattle.meaning.specs.SkipBook.{any_below, bit, marked, word_of}
use Rattle.meaning.proofs.laws.Truths.{true-is-not-false}
use Rattle.meaning.proofs.laws.Bools.{last-or-below, below-any, any_below_lem, any-below-fails}
use Rattle.meaning.proofs.skipbook.Bits.{bit-zero, bit-or, bit-and, bit-only, bit_past, word-of, lowest, cleared, cleared-less}
use Rattle.rule.proofs.Said.{or-none}
use Rattle.book.specs.Sets.{StandsFor, StatesOf, first_of}

pub stands-empty : StandsFor 0 (λ p. false)
unfolding StandsFor
stands-empty p h = bit-zero p

pub stands-only : (t : ℕ) → StandsFor (2 ^ t) (λ p. t =? p)
unfolding StandsFor
stands-only t p h = bit-only t p

stands-at : (w : ℕ) (f : ℕ → Bool) (p : ℕ) → p < 64 → StandsFor w f → bit w p ≡ f p
unfolding StandsFor
stands-at w f p h s = s p h

pub stands-or : (v w : ℕ) (f g : ℕ → Bool) → StandsFor v f → StandsFor w g → StandsFor (bit_or v w) (λ p. f p || g p)
unfolding StandsFor
stands-or v w f g a b p h = bit-or v w p ∙ ap₂ (λ (x y : Bool). x || y) (a p h) (b p h)

pub stands-as : (w : ℕ) (f g : ℕ → Bool) → ((p : ℕ) → p < 64 → f p ≡ g p) → StandsFor w f → StandsFor w g
unfolding StandsFor
stands-as w f g same s p h = s p h ∙ same p h

-- a word that stands for what is marked is the word of the marks
pub stands_word : (w : ℕ) (marks : List Bool) → w < 2 ^ 64 → length marks ≤ 64 → StandsFor w (marked marks) → w ≡ word_of marks
unfolding StandsFor marked
stands_word w marks small short s =
    word-of w marks (λ p. ⊎_elim (λ t. s p (ltb-true p 64 t))
    (λ f. let l : 64 ≤ p = ltb-false p 64 f in
    let m : length marks ≤ p = omega arith in
    bit_past 64 w p small l ∙ sym (get_or-eq_default marks false m)) (cases_Bool (p <? 64)))

-- the states that one of the first i tests has, and those of the next test
pub stands-more : (v w i : ℕ) (f : ℕ → ℕ → Bool) → StandsFor v (λ p. any_below i (λ j. f j p)) → StandsFor w (f i)
    → StandsFor (bit_or v w) (λ p. any_below (i + 1) (λ j. f j p))
unfolding any_below
stands-more v w i f a b = rw add-one (stands-or v w _ _ a b)

-- ---- the first states that pass a test

pub first-true : (n : ℕ) (test : ℕ → Bool) (p : ℕ) → first_of n test p ≡ true → (p < n) × (test p ≡ true)
unfolding first_of
first-true n test p e = let b = and_parts (p <? n) (test p) e in (ltb-true p n b.0, b.1)

pub first-in : (n : ℕ) (test : ℕ → Bool) (p : ℕ) → p < n → test p ≡ true → first_of n test p ≡ true
unfolding first_of
first-in n test p h e = and_from _ _ (lt-ltb p n h) e

pub gather-first : (test : ℕ → Bool) → StandsFor 0 (first_of 0 test)
gather-first test =
    stands-as 0 _ _ (λ p h. one_truth false (first_of 0 test p) (λ f. absurd (false≢true f))
    (λ t. absurd (not-suc-le-zero (first-true 0 test p t).0))) stands-empty

pub gather-yes : (set w i : ℕ) (test : ℕ → Bool) → test i ≡ true → w ≡ 2 ^ i → StandsFor set (first_of i test)
    → StandsFor (bit_or set w) (first_of (i + 1) test)
gather-yes set w i test member e s =
    rw e (stands-as (bit_or set (2 ^ i)) _ _ (λ p h. one_truth (first_of i test p || i =? p) (first_of (i + 1) test p)
    (λ t. ⊎_elim (λ f. let b = first-true i test p f in first-in (i + 1) test p (omega arith) b.1)
    (λ same. let q = eqb-true i p same in first-in (i + 1) test p (omega arith) (ap test (sym q) ∙ member)) (or_cases (first_of i test p) (i =? p) t))
    (λ t. let b = first-true (i + 1) test p t in
    ⊎_elim (λ same. or_right (first_of i test p) _ (eq-eqb i p (sym same))) (λ less. or_left _ (i =? p) (first-in i test p less b.1))
    (last-or-below (rw add-one at b.0))))
    (stands-or set (2 ^ i) (first_of i test) (λ p. i =? p) s (stands-only i)))

pub gather-no : (set i : ℕ) (test : ℕ → Bool) → test i ≡ false → StandsFor set (first_of i test) → StandsFor set (first_of (i + 1) test)
gather-no set i test out s =
    stands-as set _ _ (λ p h. one_truth (first_of i test p) (first_of (i + 1) test p)
    (λ t. let b = first-true i test p t in first-in (i + 1) test p (omega arith) b.1)
    (λ t. let b = first-true (i + 1) test p t in
    ⊎_elim (λ same. true-is-not-false (ap test (sym same) ∙ b.1) out) (λ less. first-in i test p less b.1) (last-or-below (rw add-one at b.0)))) s

-- ---- the members one after the other

-- what some member of a set has is what its lowest member has, or one of the others
module _ (w : ℕ) (pos : 0 < w) (h : w < 2 ^ 64) (f : ℕ → Bool) where
  members : Bool
  members = any_below 64 (λ m. bit w m && f m)

  others : Bool
  others = any_below 64 (λ m. bit (bit_and w (w - 1)) m && f m)

  there : members ≡ true → (f (count_trailing_zeros 64 w) || others) ≡ true
  unfolding members others
  there e =
      let s = any_below_lem 64 (λ m. bit w m && f m) e in
      let m : ℕ = s.0 in
      let b = and_parts (bit w m) (f m) s.2 in
      ⊎_elim (λ same. or_left _ _ (ap f (eqb-true (count_trailing_zeros 64 w) m same) ∙ b.1))
      (λ no. or_right (f (count_trailing_zeros 64 w)) _ (below-any 64 _ m s.1
      (and_from _ _ (cleared 64 w pos h m ∙ and_from _ _ b.0 (ap not no)) b.1))) (cases_Bool (count_trailing_zeros 64 w =? m))

  back : (f (count_trailing_zeros 64 w) || others) ≡ true → members ≡ true
  unfolding members others
  back e =
      let low = lowest 64 w pos h in
      ⊎_elim (λ first. below-any 64 (λ m. bit w m && f m) (count_trailing_zeros 64 w) low.below (and_from _ _ low.member first))
      (λ other. let s = any_below_lem 64 (λ m. bit (bit_and w (w - 1)) m && f m) other in
      let b = and_parts (bit (bit_and w (w - 1)) s.0) (f s.0) s.2 in
      below-any 64 (λ m. bit w m && f m) s.0 s.1 (and_from _ _ (and_parts (bit w s.0) _ (sym (cleared 64 w pos h s.0) ∙ b.0)).0 b.1))
      (or_cases (f (count_trailing_zeros 64 w)) others e)

  pub lowest-first : any_below 64 (λ m. bit w m && f m) ≡ (f (count_trailing_zeros 64 w) || any_below 64 (λ m. bit (bit_and w (w - 1)) m && f m))
  unfolding members others
  lowest-first = one_truth members (f (count_trailing_zeros 64 w) || others) there back

-- where the members are the first n states at most, some member is some of these
pub members-below : (n w : ℕ) (f : ℕ → Bool) → n ≤ 64 → StatesOf n w
    → any_below 64 (λ m. bit w m && f m) ≡ any_below n (λ m. bit w m && f m)
unfolding StatesOf
members-below n w f few s =
    one_truth _ _
    (λ t. let a = any_below_lem 64 (λ m. bit w m && f m) t in
    below-any n (λ m. bit w m && f m) a.0 (s a.0 (and_parts (bit w a.0) _ a.2).0) a.2)
    (λ t. let a = any_below_lem n (λ m. bit w m && f m) t in below-any 64 (λ m. bit w m && f m) a.0 (omega (arith, a.1)) a.2)

-- ---- a walk over the members of a set that joins what each has of its own

-- The members that are left are members of the set, and what is joined so far, with what those that are left have, is what all
-- have.
pub record Turn (Own : ℕ → ℕ → Type 0) (set all rest : ℕ) : Type 0 where
  pub small : rest < 2 ^ 64
  pub left : (member : ℕ) → bit rest member ≡ true → bit set member ≡ true
  pub whole : (has : ℕ → ℕ → Bool) → ((member own : ℕ) → bit set member ≡ true → Own member own → StandsFor own (has member))
      → (p : ℕ) → p < 64 → (bit all p || any_below 64 (λ m. bit rest m && has m p)) ≡ any_below 64 (λ m. bit set m && has m p)

module _ (Own : ℕ → ℕ → Type 0) (set : ℕ) where
  pub turn-first : (rest : ℕ) → rest ≡ set → set < 2 ^ 64 → Turn Own set 0 rest
  turn-first rest e h =
      rw e (record {
        small = h;
        left = λ member m. m;
        whole = λ has each p l. ap (λ (b : Bool). b || any_below 64 (λ m. bit set m && has m p)) (bit-zero p);
      })

  module _ (all rest : ℕ) (turn : Turn Own set all rest) where
    module _ {lowest-one left : ℕ} (taken : (0 < rest) × (lowest-one ≡ count_trailing_zeros 64 rest) × (left ≡ bit_and rest (rest - 1))) where
      pub turn-member : lowest-one < 64
      turn-member = omega (arith, (lowest 64 rest taken.0 turn.small).below, taken.1)

      pub turn-next : (own : ℕ) → Own lowest-one own → Turn Own set (bit_or all own) left
      turn-next own is =
          let first : ℕ = count_trailing_zeros 64 rest in
          rw taken.2 (record {
            small = omega (arith, cleared-less rest taken.0, turn.small);
            left = λ member m. turn.left member (and_parts (bit rest member) _ (sym (bit-and rest (rest - 1) member) ∙ m)).0;
            whole = λ has each p l. let others : Bool = any_below 64 (λ m. bit (bit_and rest (rest - 1)) m && has m p) in
                let member = turn.left first (lowest 64 rest taken.0 turn.small).member in
                ap (λ (b : Bool). b || others) (bit-or all own p ∙ ap (λ (b : Bool). bit all p || b) (stands-at own _ p l (each first own member (rw taken.1 at is))))
                ∙ or_assoc (bit all p) (has first p) others
                ∙ ap (λ (b : Bool). bit all p || b) (sym (lowest-first rest taken.0 turn.small (λ m. has m p)))
                ∙ turn.whole has each p l;
          })

    pub turn_last : rest ≡ 0 → (has : ℕ → ℕ → Bool) → ((member own : ℕ) → bit set member ≡ true → Own member own → StandsFor own (has member))
        → StandsFor all (λ p. any_below 64 (λ m. bit set m && has m p))
    unfolding StandsFor
    turn_last e has each p h =
        sym (or-none (bit all p) (any-below-fails 64 _ (λ m l. ap (λ (w : ℕ). bit w m && has m p) e ∙ ap (λ (b : Bool). b && has m p) (bit-zero m))))
        ∙ turn.whole has each p h

pub stands-itself : (w : ℕ) → StandsFor w (bit w)
unfolding StandsFor
stands-itself w p h = refl

pub stands-is : {v w : ℕ} → v ≡ w → StandsFor v (bit w)
stands-is {v} {w} e = rw e (stands-itself w)
