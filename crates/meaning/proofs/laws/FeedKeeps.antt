-- Laws of feeding over any step: what every taken event keeps is kept by feeding, and steps that a view carries over into
-- one another feed alike under that view; so do steps that agree wherever a kept property holds. By induction over the events.
use mathlib.Core.Path.{◌≡◌, refl, sym, ◌∙◌}
use mathlib.Core.List.{List, [], ◌∷◌}
use Prim.Native.Nat.{ℕ, suc}
use lib.ListN.{take}
use Rattle.meaning.specs.Answers.{Answer, given, refused, ◌giving◌}
use Rattle.meaning.specs.FullReading.{Went, go_on, feed_by}
use Rattle.meaning.proofs.laws.FeedLaws.{feed-taken}

-- what a view makes of where a feed led to
abbrev pub viewed : {A B : Type 0} → (A → B) → Went A → Went B
viewed view w = record { last = view w.last; ended = w.ended }

module _ {A : Type 0} (step : A → ℕ → Answer A) where
  module _ (P Q : A → Type 0) (keeps : (a b : A) (e : ℕ) → P a → Q b → step a e ≡ given b → P b) where
    keeps_on : (rest : A → Went A) (a : A) (x : Answer A) → P a → ((b : A) → x ≡ given b → P (rest b).last)
        → P (go_on a x rest).last
    unfolding go_on
    keeps_on rest a (given b) p next = next b refl
    keeps_on rest a (refused number place) p next = p

    -- what a taken event keeps as long as Q holds, feeding keeps if Q holds all along
    pub feed-keeps-while : (a : A) (es : List ℕ) → P a → ((j : ℕ) → Q (feed_by step a (take j es)).last)
        → P (feed_by step a es).last
    unfolding feed_by
    feed-keeps-while a [] p q = p
    feed-keeps-while a (e ∷ es) p q =
        keeps_on (λ b. feed_by step b es) a (step a e) p
        (λ b t. feed-keeps-while b es (keeps a b e p (rw (feed-taken step [] t) at (q 1)) t) (λ j. rw (feed-taken step (take j es) t) at (q (suc j))))

  -- what every taken event keeps, feeding keeps
  pub feed-keeps : (P : A → Type 0) → ((a b : A) (e : ℕ) → P a → step a e ≡ given b → P b)
      → (a : A) (es : List ℕ) → P a → P (feed_by step a es).last
  feed-keeps P keeps a es p = feed-keeps-while P (λ b. Unit {0}) (λ a b e p u t. keeps a b e p t) a es p (λ j. tt)

  module _ {B : Type 0} (P : A → Type 0) (keeps : (a b : A) (e : ℕ) → P a → step a e ≡ given b → P b)
      (view : A → B) (other : B → ℕ → Answer B)
      (same : (a : A) (e : ℕ) → P a → other (view a) e ≡ (step a e giving λ b. given (view b))) where
    viewed-on : (rest : A → Went A) (others : B → Went B) (a : A) (x : Answer A)
        → ((b : A) → x ≡ given b → others (view b) ≡ viewed view (rest b))
        → go_on (view a) (x giving λ b. given (view b)) others ≡ viewed view (go_on a x rest)
    unfolding go_on ◌giving◌
    viewed-on rest others a (given b) next = next b refl
    viewed-on rest others a (refused number place) next = refl

    -- a step and its view feed alike
    pub feed-viewed : (a : A) (es : List ℕ) → P a → feed_by other (view a) es ≡ viewed view (feed_by step a es)
    unfolding feed_by
    feed-viewed a [] p = refl
    feed-viewed a (e ∷ es) p =
        rw (same a e p)
        (viewed-on (λ b. feed_by step b es) (λ b. feed_by other b es) a (step a e) (λ b t. feed-viewed b es (keeps a b e p t)))

-- ---- two steps that agree where it matters

-- an answer handed on as it is
giving-itself : {A : Type 0} (x : Answer A) → (x giving λ b. given b) ≡ x
unfolding ◌giving◌
giving-itself (given a) = refl
giving-itself (refused number place) = refl

-- steps that agree wherever what the first keeps holds feed alike from there
pub feed-alike : {A : Type 0} (step other : A → ℕ → Answer A) (P : A → Type 0)
    → ((a b : A) (e : ℕ) → P a → step a e ≡ given b → P b)
    → ((a : A) (e : ℕ) → P a → other a e ≡ step a e)
    → (a : A) (es : List ℕ) → P a → feed_by other a es ≡ feed_by step a es
feed-alike step other P keeps same a es p =
    feed-viewed step P keeps (λ b. b) other (λ a e p. same a e p ∙ sym (giving-itself (step a e))) a es p
