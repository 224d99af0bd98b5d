-- The well-nested runs of known events are the events of the hedges over the rule's letters, each of just one hedge. Any events
-- are read back as hedges with a close between each and the next, as many closes as trees are open; the events of a hedge are
-- read back as that hedge.
use mathlib.Core.Path.{◌≡◌, refl, sym, ap, ap₂, ◌∙◌}
use mathlib.Core.Bool.{Bool, true, false, ◌&&◌}
use mathlib.Core.List.{List, [], ◌∷◌, ◌++◌, append_assoc, append-nil}
use Prim.Native.Nat.{ℕ, zero, suc, ◌+◌, ◌<◌, ◌≤◌}
use native.Mathlib.Omega.{arith}
use lib.ListN.{length}
use borrow.Author.Tests.{ltb-true, ltb-false, lt-ltb, le-ltb, eqb-true}
use Rattle.std.proofs.lemmas.Bool.{and_from, and_parts}
use Rattle.meaning.specs.Answers.{◌<?◌}
use Rattle.meaning.specs.FullReading.{Event, opens, closes, letter, event_of}
use Rattle.meaning.specs.Hedges.{Hedge, ε, ◌·◌, ⟨◌⟩·◌, events_of, known, nested_on, nested_from, known_events, well_nested}

-- ---- nesting of events in two parts

-- with so many trees open, a run that closes the innermost c of them leaves the rest as nested as it was
nested-on : (c d : ℕ) (es fs : List ℕ) → nested_from c es ≡ true → nested_from (c + d) (es ++ fs) ≡ nested_from d fs
unfolding nested_from nested_on event_of
nested-on c d [] fs e = let none : c ≡ 0 = eqb-true c 0 e in let same : c + d ≡ d = omega arith in rw same
nested-on c d (zero ∷ es) fs e = let same : suc (c + d) ≡ suc c + d = omega arith in rw same (nested-on (suc c) d es fs e)
nested-on zero d (suc zero ∷ es) fs e = let z : ◌≡◌ {A = ℕ} 0 1 = cc in absurd (omega arith)
nested-on (suc c) d (suc zero ∷ es) fs e =
    let same : suc c + d ≡ suc (c + d) = omega arith in
    rw same (nested-on c d es fs e)
nested-on c d (suc (suc a) ∷ es) fs e = nested-on c d es fs e

-- a well-nested run keeps the trees that are open
pub nested-append : (d : ℕ) (es fs : List ℕ) → nested_from 0 es ≡ true → nested_from d (es ++ fs) ≡ nested_from d fs
nested-append d es fs e = let none : 0 + d ≡ d = omega arith in rw none at (nested-on 0 d es fs e)

-- two ends that are nested alike, whatever trees are open, are so after the same run
pub nested-alike : (xs ys zs : List ℕ) → ((d : ℕ) → nested_from d ys ≡ nested_from d zs)
    → (d : ℕ) → nested_from d (xs ++ ys) ≡ nested_from d (xs ++ zs)
unfolding nested_from nested_on event_of
nested-alike [] ys zs same d = same d
nested-alike (zero ∷ xs) ys zs same d = nested-alike xs ys zs same (suc d)
nested-alike (suc zero ∷ xs) ys zs same zero = refl
nested-alike (suc zero ∷ xs) ys zs same (suc d) = nested-alike xs ys zs same d
nested-alike (suc (suc a) ∷ xs) ys zs same d = nested-alike xs ys zs same d

and_assoc : (a b c : Bool) → ((a && b) && c) ≡ (a && (b && c))
and_assoc true b c = refl
and_assoc false b c = refl

pub known-append : (k : ℕ) (es fs : List ℕ) → known_events k (es ++ fs) ≡ (known_events k es && known_events k fs)
unfolding known_events
known-append k [] fs = refl
known-append k (e ∷ es) fs = rw (known-append k es fs) (sym (and_assoc (e <? k + 2) (known_events k es) (known_events k fs)))

pub well-nested-append : (k : ℕ) (es fs : List ℕ) → well_nested k es ≡ true → well_nested k fs ≡ true
    → well_nested k (es ++ fs) ≡ true
unfolding well_nested
well-nested-append k es fs p q =
    let a = and_parts _ _ p in
    let b = and_parts _ _ q in
    and_from _ _ (nested-append 0 es fs a.0 ∙ b.0) (known-append k es fs ∙ and_from _ _ a.1 b.1)

-- ---- the events of a hedge are well nested, and known just if the hedge is

-- the events of a hedge keep the trees that are open
pub hedge-nested-on : (h : Hedge) (d : ℕ) (rest : List ℕ) → nested_from d (events_of h ++ rest) ≡ nested_from d rest
unfolding events_of nested_from nested_on event_of
hedge-nested-on ε d rest = refl
hedge-nested-on (a · h) d rest = hedge-nested-on h d rest
hedge-nested-on (⟨ h ⟩· g) d rest =
    ap (nested_from (suc d)) (append_assoc (events_of h) (1 ∷ events_of g) rest)
    ∙ (hedge-nested-on h (suc d) (1 ∷ (events_of g ++ rest)) ∙ hedge-nested-on g d rest)

-- a letter's event is known just if the letter is
known-letter : (k a : ℕ) (b : Bool) → (a <? k) ≡ b → (suc (suc a) <? k + 2) ≡ b
known-letter k a true e = let h : a < k = ltb-true a k e in lt-ltb (suc (suc a)) (k + 2) (omega arith)
known-letter k a false e = let h : k ≤ a = ltb-false a k e in le-ltb (suc (suc a)) (k + 2) (omega arith)

-- an open and a close always are
known-bracket : (k e : ℕ) → e < 2 → (es : List ℕ) → known_events k (e ∷ es) ≡ known_events k es
unfolding known_events
known-bracket k e h es = ap (λ b. b && known_events k es) (lt-ltb e (k + 2) (omega arith))

pub known-hedge : (k : ℕ) (h : Hedge) → known_events k (events_of h) ≡ known k h
unfolding events_of known known_events
known-hedge k ε = refl
known-hedge k (a · h) = ap₂ ◌&&◌ (known-letter k a _ refl) (known-hedge k h)
known-hedge k (⟨ h ⟩· g) =
    known-bracket k 0 (omega arith) (events_of h ++ (1 ∷ events_of g))
    ∙ (known-append k (events_of h) (1 ∷ events_of g)
    ∙ ap₂ ◌&&◌ (known-hedge k h) (known-bracket k 1 (omega arith) (events_of g) ∙ known-hedge k g))

nested-whole : (h : Hedge) → nested_from 0 (events_of h) ≡ true
unfolding nested_from
nested-whole h = rw append-nil at (hedge-nested-on h 0 [])

pub hedge-nested : (k : ℕ) (h : Hedge) → known k h ≡ true → well_nested k (events_of h) ≡ true
unfolding well_nested
hedge-nested k h e = and_from _ _ (nested-whole h) (known-hedge k h ∙ e)

-- ---- events read back as hedges

-- a hedge, and the hedges that follow it, a close between each and the next
record Hedges : Type 0 where
  first : Hedge
  others : List Hedge

-- their events
joined : Hedge → List Hedge → List ℕ
joined h [] = events_of h
joined h (g ∷ gs) = events_of h ++ (1 ∷ joined g gs)

-- an open in front makes a tree of the first hedge, which ends at its close (and at the end of the events, if it has none)
tree_of : Hedge → List Hedge → Hedges
tree_of h [] = record { first = ⟨ h ⟩· ε; others = [] }
tree_of h (g ∷ gs) = record { first = ⟨ h ⟩· g; others = gs }

in_front : Event → Hedges → Hedges
in_front opens hs = tree_of hs.first hs.others
in_front closes hs = record { first = ε; others = hs.first ∷ hs.others }
in_front (letter a) hs = record { first = a · hs.first; others = hs.others }

read_back : List ℕ → Hedges
read_back [] = record { first = ε; others = [] }
read_back (e ∷ es) = in_front (event_of e) (read_back es)

-- the events of a hedge, before events that begin with no hedge, are read back as that hedge
read_back_lem : (h : Hedge) (rest : List ℕ) (hs : List Hedge) → read_back rest ≡ record { first = ε; others = hs }
    → read_back (events_of h ++ rest) ≡ record { first = h; others = hs }
unfolding events_of read_back in_front tree_of event_of
read_back_lem ε rest hs e = e
read_back_lem (a · h) rest hs e = rw (read_back_lem h rest hs e)
read_back_lem (⟨ h ⟩· g) rest hs e =
    rw (
      append_assoc (events_of h) (1 ∷ events_of g) rest,
      read_back_lem h (1 ∷ (events_of g ++ rest)) (g ∷ hs) (rw (read_back_lem g rest hs e)),
    )

read-back-whole : (h : Hedge) → (read_back (events_of h)).first ≡ h
unfolding read_back
read-back-whole h = ap (λ hs. hs.first) (rw append-nil at (read_back_lem h [] [] refl))

-- the events of a hedge are the events of no other
pub one-hedge : {h g : Hedge} → events_of h ≡ events_of g → h ≡ g
one-hedge {h} {g} e = sym (read-back-whole h) ∙ (ap (λ es. (read_back es).first) e ∙ read-back-whole g)

-- ---- well-nested events are those of a hedge

-- an open in front, where a tree more is open after it
join-tree : (d : ℕ) (h : Hedge) (gs : List Hedge) → length gs ≡ suc d
    → (joined (tree_of h gs).first (tree_of h gs).others ≡ 0 ∷ joined h gs) × (length (tree_of h gs).others ≡ d)
unfolding joined tree_of events_of
join-tree d h [] e = let z : ◌≡◌ {A = ℕ} 0 1 = cc in absurd (omega arith)
join-tree d h (g ∷ []) e = (refl, omega arith)
join-tree d h (g ∷ f ∷ fs) e =
    (ap (λ es. 0 ∷ es) (append_assoc (events_of h) (1 ∷ events_of g) (1 ∷ joined f fs)), omega arith)

join-letter : (a : ℕ) (h : Hedge) (gs : List Hedge) → joined (a · h) gs ≡ suc (suc a) ∷ joined h gs
unfolding joined events_of
join-letter a h [] = refl
join-letter a h (g ∷ gs) = refl

-- events with so many trees open are read back as hedges with so many closes between them
nested-joined : (d : ℕ) (es : List ℕ) → nested_from d es ≡ true
    → (joined (read_back es).first (read_back es).others ≡ es) × (length (read_back es).others ≡ d)
unfolding nested_from nested_on event_of joined read_back in_front events_of
nested-joined d [] e = (refl, sym (eqb-true d 0 e))
nested-joined d (zero ∷ es) e =
    let next = nested-joined (suc d) es e in
    let tree = join-tree d (read_back es).first (read_back es).others next.1 in
    (tree.0 ∙ ap (λ l. 0 ∷ l) next.0, tree.1)
nested-joined zero (suc zero ∷ es) e = let z : ◌≡◌ {A = ℕ} 0 1 = cc in absurd (omega arith)
nested-joined (suc d) (suc zero ∷ es) e =
    let next = nested-joined d es e in
    (ap (λ l. 1 ∷ l) next.0, ap suc next.1)
nested-joined d (suc (suc a) ∷ es) e =
    let next = nested-joined d es e in
    (join-letter a (read_back es).first (read_back es).others ∙ ap (λ l. suc (suc a) ∷ l) next.0, next.1)

joined-alone : (h : Hedge) (gs : List Hedge) → length gs ≡ 0 → joined h gs ≡ events_of h
unfolding joined
joined-alone h [] e = refl
joined-alone h (g ∷ gs) e = absurd (omega arith)

pub nested-hedge : (k : ℕ) (es : List ℕ) → well_nested k es ≡ true → (h : Hedge) × (events_of h ≡ es) × (known k h ≡ true)
unfolding well_nested
nested-hedge k es e =
    let well = and_parts _ _ e in
    let h : Hedge = (read_back es).first in
    let back = nested-joined 0 es well.0 in
    let same : events_of h ≡ es = sym (joined-alone h (read_back es).others back.1) ∙ back.0 in
    (h, same, sym (known-hedge k h) ∙ (ap (known_events k) same ∙ well.1))
