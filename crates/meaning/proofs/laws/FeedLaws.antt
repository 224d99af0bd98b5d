-- Laws of feeding one event after the other, over any step: events in two parts are fed as the first part and then, from
-- where it led, the second; a refusal in the first part is the end; and steps that agree feed alike. Each holds by induction
-- on the first part.
use mathlib.Core.Path.{◌≡◌, refl, ap, fun_ext}
use mathlib.Core.List.{List, [], ◌∷◌, ◌++◌}
use Prim.Native.Nat.{ℕ}
use native.Mathlib.Omega.{arith}
use Rattle.meaning.specs.Answers.{Answer, given, refused}
use Rattle.meaning.specs.FullReading.{Went, go_on, feed_by}

-- ---- one event

module _ {A : Type 0} where
  pub go_on-given : {x : Answer A} {b : A} (a : A) (rest : A → Went A) → x ≡ given b → go_on a x rest ≡ rest b
  unfolding go_on
  go_on-given a rest e = rw (e, go_on)

  pub go_on-refused : {x : Answer A} {number place : ℕ} (a : A) (rest : A → Went A) → x ≡ refused number place
      → go_on a x rest ≡ record { last = a; ended = refused number place }
  unfolding go_on
  go_on-refused a rest e = rw (e, go_on)

module _ {A : Type 0} (step : A → ℕ → Answer A) where
  -- no event changes nothing
  pub feed-none : (a : A) → feed_by step a [] ≡ record { last = a; ended = given tt }
  unfolding feed_by
  feed-none a = refl

  -- an event that is taken, and on
  pub feed-taken : {a b : A} {e : ℕ} (es : List ℕ) → step a e ≡ given b → feed_by step a (e ∷ es) ≡ feed_by step b es
  unfolding feed_by
  feed-taken {a} es h = go_on-given a (λ b. feed_by step b es) h

  -- an event that is refused
  pub feed-refused : {a : A} {e number place : ℕ} (es : List ℕ) → step a e ≡ refused number place
      → feed_by step a (e ∷ es) ≡ record { last = a; ended = refused number place }
  unfolding feed_by
  feed-refused {a} es h = go_on-refused a (λ b. feed_by step b es) h

  -- ---- events in two parts

  -- where all of the first part are taken, the second part is fed from where it led
  append-on : (ys : List ℕ) (first both : A → Went A)
      → ((b : A) → (first b).ended ≡ given tt → both b ≡ feed_by step (first b).last ys)
      → (a : A) (x : Answer A) → (go_on a x first).ended ≡ given tt → go_on a x both ≡ feed_by step (go_on a x first).last ys
  unfolding go_on
  append-on ys first both next a (given b) h = next b h
  append-on ys first both next a (refused number place) h = let z : ◌≡◌ {A = ℕ} 0 1 = cc in absurd (omega arith)

  pub feed-append : (a : A) (xs ys : List ℕ) → (feed_by step a xs).ended ≡ given tt
      → feed_by step a (xs ++ ys) ≡ feed_by step (feed_by step a xs).last ys
  unfolding feed_by
  feed-append a [] ys h = refl
  feed-append a (e ∷ xs) ys h =
      append-on ys (λ b. feed_by step b xs) (λ b. feed_by step b (xs ++ ys)) (λ b. feed-append b xs ys) a (step a e) h

  -- where an event of the first part is refused, the second part is not looked at
  append-refused-on : {number place : ℕ} (first both : A → Went A)
      → ((b : A) → (first b).ended ≡ refused number place → both b ≡ first b)
      → (a : A) (x : Answer A) → (go_on a x first).ended ≡ refused number place → go_on a x both ≡ go_on a x first
  unfolding go_on
  append-refused-on first both next a (given b) h = next b h
  append-refused-on first both next a (refused number place) h = refl

  pub feed-append-refused : {number place : ℕ} (a : A) (xs ys : List ℕ) → (feed_by step a xs).ended ≡ refused number place
      → feed_by step a (xs ++ ys) ≡ feed_by step a xs
  unfolding feed_by
  feed-append-refused a [] ys h = let z : ◌≡◌ {A = ℕ} 0 1 = cc in absurd (omega arith)
  feed-append-refused a (e ∷ xs) ys h =
      append-refused-on (λ b. feed_by step b xs) (λ b. feed_by step b (xs ++ ys)) (λ b. feed-append-refused b xs ys) a (step a e) h

  -- where all of both parts are taken, so are all of the first, and all of the second from there
  split-on : (ys : List ℕ) (first both : A → Went A)
      → ((b : A) → (both b).ended ≡ given tt → ((first b).ended ≡ given tt) × ((feed_by step (first b).last ys).ended ≡ given tt))
      → (a : A) (x : Answer A) → (go_on a x both).ended ≡ given tt
      → ((go_on a x first).ended ≡ given tt) × ((feed_by step (go_on a x first).last ys).ended ≡ given tt)
  unfolding go_on
  split-on ys first both next a (given b) h = next b h
  split-on ys first both next a (refused number place) h = let z : ◌≡◌ {A = ℕ} 0 1 = cc in absurd (omega arith)

  pub feed-split : (a : A) (xs ys : List ℕ) → (feed_by step a (xs ++ ys)).ended ≡ given tt
      → ((feed_by step a xs).ended ≡ given tt) × ((feed_by step (feed_by step a xs).last ys).ended ≡ given tt)
  unfolding feed_by
  feed-split a [] ys h = (refl, h)
  feed-split a (e ∷ xs) ys h =
      split-on ys (λ b. feed_by step b xs) (λ b. feed_by step b (xs ++ ys)) (λ b. feed-split b xs ys) a (step a e) h

  -- where all are taken, the first event is taken, and then the rest
  first_on : (rest : A → Went A) (a : A) (x : Answer A) → (go_on a x rest).ended ≡ given tt
      → (b : A) × (x ≡ given b) × (go_on a x rest ≡ rest b)
  unfolding go_on
  first_on rest a (given b) h = (b, refl, refl)
  first_on rest a (refused number place) h = let z : ◌≡◌ {A = ℕ} 0 1 = cc in absurd (omega arith)

  pub feed-first : (a : A) (e : ℕ) (es : List ℕ) → (feed_by step a (e ∷ es)).ended ≡ given tt
      → (b : A) × (step a e ≡ given b) × (feed_by step a (e ∷ es) ≡ feed_by step b es)
  unfolding feed_by
  feed-first a e es h = first_on (λ b. feed_by step b es) a (step a e) h

-- ---- two steps that agree

pub feed-cong : {A : Type 0} (step other : A → ℕ → Answer A) → ((a : A) (e : ℕ) → step a e ≡ other a e)
    → (a : A) (es : List ℕ) → feed_by step a es ≡ feed_by other a es
feed-cong step other same a es = ap (λ s. feed_by s a es) (fun_ext (λ b. fun_ext (same b)))
