-- Counting over runs of events. A run of known events whose closes are no more than the skip depth is passed over: no close of
-- it can end the level, since the closes before it and it are no more than that depth. So is a run whose lowest depth, from the
-- skip depth, is not below zero; runs that were followed side by side are joined, each moved to where the one before it ended.
use Rattle.std.proofs.Common.{if◌then◌else◌}
use mathlib.Core.Path.{◌≡◌, refl, ◌∙◌}
use mathlib.Core.Bool.{Bool, true, false}
use mathlib.Core.List.{List, [], ◌∷◌, ◌++◌}
use Prim.Native.Nat.{ℕ, zero, suc, max, ◌+◌, ◌-◌, ◌≤◌, ◌<◌}
use native.Mathlib.Numerals.{add-one}
use native.Mathlib.Omega.{arith}
use borrow.Author.Tests.{eq-eqb, ne_eqb}
use lib.ListN.{length, get_or, take, drop, length-append, length-take, length-drop}
use lib.Seq.{take-suc, take-add, take-take, drop-append_seam, drop-drop, get_or-drop}
use Rattle.std.specs.List.{All, sum_by}
use Rattle.std.specs.Int.{from_bool}
use Rattle.std.specs.Option.{SomeIff, IfSome}
use Rattle.std.specs.declared.option.Option.{Option}
use Rattle.std.specs.declared.option.Option.TheVariants.{Some, None}
use Rattle.std.proofs.lemmas.List.Elements.{All-nil, All-cons, All-append, All-weaker, All-more}
use Rattle.std.proofs.lemmas.List.Sums.{sum_by-cons, sum_by-le, sum_by_more}
use Rattle.std.proofs.lemmas.List.{take-append-le}
use Rattle.meaning.specs.Answers.{◌=?◌}
use Rattle.meaning.proofs.laws.Answered.{if-true, if-false}
use Rattle.turning.specs.PassingOver.{openings, closings, CountsOf, Passing, pass_none, pass_one, no_event, one_more, joined, Short, DepthsOf, AllPassed, PassedIn}
use Rattle.turning.specs.declared.passing.Counts.{Counts}
use Rattle.turning.specs.declared.passing.Depths.{Depths}
use Rattle.turning.specs.declared.passing.Passed.{Passed}

-- ---- one event: one or none

of-test : (b : Bool) → from_bool b ≡ if b then 1 else 0
of-test true = refl
of-test false = refl

one-or-none : (b : Bool) → (if b then 1 else 0) ≤ 1
one-or-none true = omega arith
one-or-none false = omega arith

pub opens_one : (e : ℕ) → e ≡ 0 → openings e ≡ 1
unfolding openings
opens_one e h = if-true 1 0 (eq-eqb e 0 h)

pub opens-none : (e : ℕ) → (e ≡ 0 → ⊥) → openings e ≡ 0
unfolding openings
opens-none e h = if-false 1 0 (ne_eqb e 0 h)

pub opens-few : (e : ℕ) → openings e ≤ 1
unfolding openings
opens-few e = one-or-none (e =? 0)

pub closes-one : (e : ℕ) → e ≡ 1 → closings e ≡ 1
unfolding closings
closes-one e h = if-true 1 0 (eq-eqb e 1 h)

pub closes-none : (e : ℕ) → (e ≡ 1 → ⊥) → closings e ≡ 0
unfolding closings
closes-none e h = if-false 1 0 (ne_eqb e 1 h)

pub closes-few : (e : ℕ) → closings e ≤ 1
unfolding closings
closes-few e = one-or-none (e =? 1)

-- as the code counts them
pub opens-are : (e : ℕ) → from_bool (e =? 0) ≡ openings e
unfolding openings
opens-are e = of-test (e =? 0)

pub closes-are : (e : ℕ) → from_bool (e =? 1) ≡ closings e
unfolding closings
closes-are e = of-test (e =? 1)

-- an event does not do both
pub one-kind : (e : ℕ) → openings e + closings e ≤ 1
one-kind zero = omega (arith, opens-few 0, closes-none 0 (omega arith))
one-kind (suc e) = omega (arith, opens-none (suc e) (omega arith), closes-few (suc e))

-- ---- passing over a run

pub passing-nil : {a b : ℕ} → Passing a [] b → a ≡ b
passing-nil pass_none = refl

pub passing-cons : {a b e : ℕ} {es : List ℕ} → Passing a (e ∷ es) b → (closings e ≤ a) × Passing (a + openings e - closings e) es b
passing-cons (pass_one h p) = (h, p)

passing-append : {a b c : ℕ} {xs ys : List ℕ} → Passing a xs b → Passing b ys c → Passing a (xs ++ ys) c
passing-append pass_none q = q
passing-append (pass_one h p) q = pass_one h (passing-append p q)

-- a run opens no more trees than it has events
pub passing-few : {a b : ℕ} {es : List ℕ} → Passing a es b → b ≤ a + length es
passing-few pass_none = omega arith
passing-few (pass_one {e = e} h p) = omega (arith, passing-few p, opens-few e)

-- a run whose closes are no more than the skip depth
outlasted : (es : List ℕ) (skip : ℕ) → sum_by closings es ≤ skip → Passing skip es (skip + sum_by openings es - sum_by closings es)
outlasted [] skip h = let n : skip + 0 - 0 ≡ skip = omega arith in rw n pass_none
outlasted (e ∷ es) skip h =
    let o = sum_by-cons openings e es in
    let c = sum_by-cons closings e es in
    let next : ℕ = skip + openings e - closings e in
    let rest = outlasted es next (omega arith) in
    let n : skip + sum_by openings (e ∷ es) - sum_by closings (e ∷ es) ≡ next + sum_by openings es - sum_by closings es = omega arith in
    rw n (pass_one {skip = skip} {e = e} (omega arith) rest)

-- ---- counts

pub counts_none : (n : Counts) → n.opens ≡ 0 → n.closes ≡ 0 → CountsOf [] n
counts_none n opens closes = record { opens_are = opens; closes_are = closes; none_above = All-nil (λ e. e ≤ n.largest) }

pub counts-more : (events : List ℕ) (i : ℕ) (n : Counts) → i < length events → CountsOf (take i events) n
    → CountsOf (take (i + 1) events) (record {
      opens = n.opens + openings (get_or events i 0);
      closes = n.closes + closings (get_or events i 0);
      largest = max n.largest (get_or events i 0);
    })
counts-more events i n inside h =
    let e : ℕ = get_or events i 0 in
    let top : ℕ = max n.largest e in
    record {
      opens_are = omega (arith, h.opens_are, sum_by_more openings events i 0 inside);
      closes_are = omega (arith, h.closes_are, sum_by_more closings events i 0 inside);
      none_above = All-more (λ e. e ≤ top) events i 0 inside (All-weaker (λ e. e ≤ n.largest) (λ e. e ≤ top) (λ e below. omega arith) (take i events) h.none_above) (omega arith);
    }

-- how far they go
pub counts-few : (events : List ℕ) (n : Counts) → CountsOf events n → (n.opens ≤ length events) × (n.closes ≤ length events)
counts-few events n h =
    let few-opens = sum_by-le openings 1 events (λ k d inside. opens-few _) in
    let few-closes = sum_by-le closings 1 events (λ k d inside. closes-few _) in
    (omega (arith, h.opens_are), omega (arith, h.closes_are))

pub counts-room : (events : List ℕ) (i : ℕ) (n : Counts) → i < length events → CountsOf (take i events) n
    → (n.opens + from_bool (get_or events i 0 =? 0) ≤ length events) × (n.closes + from_bool (get_or events i 0 =? 1) ≤ length events)
counts-room events i n inside h =
    let e : ℕ = get_or events i 0 in
    let few = counts-few (take i events) n h in
    let long = length-take i events in
    (omega (arith, opens-are e, opens-few e), omega (arith, closes-are e, closes-few e))

known-counts : (known : ℕ) (events : List ℕ) (n : Counts) → CountsOf events n → n.largest < known → All (λ e. e < known) events
known-counts known events n h below = All-weaker (λ e. e ≤ n.largest) (λ e. e < known) (λ e most. omega arith) events h.none_above

-- a block of known events whose closes are no more than the skip depth
pub passed-counts : (known skip left : ℕ) (events : List ℕ) (n : Counts) → CountsOf events n → n.largest < known → left + n.closes ≡ skip
    → AllPassed known skip events (left + n.opens)
passed-counts known skip left events n h below free =
    let last : left + n.opens ≡ skip + sum_by openings events - sum_by closings events = omega (arith, h.opens_are, h.closes_are) in
    record {
      all_known = known-counts known events n h below;
      passing = rw last (outlasted events skip (omega (arith, h.closes_are)));
    }

-- ---- the depths of a run

pub depths-none : (depth : ℕ) → DepthsOf [] (no_event depth)
unfolding no_event
depths-none depth =
    record {
      not_above = omega arith;
      not_past = omega arith;
      few_closes = omega arith;
      few_opens = omega arith;
      passing = λ skip h. let n : skip + depth - depth ≡ skip = omega arith in rw n pass_none;
    }

depths-push : (events : List ℕ) (e : ℕ) (d : Depths) → length events < d.begun → DepthsOf events d → DepthsOf (events ++ e ∷ []) (one_more d e)
unfolding one_more
depths-push events e d room h =
    let kind = one-kind e in
    let long = length-append events (e ∷ []) in
    record {
      not_above = omega (arith, h.not_above);
      not_past = omega arith;
      few_closes = omega (arith, h.not_past, h.few_closes);
      few_opens = omega (arith, h.few_opens);
      passing = λ skip free.
          let b : ℕ = skip + d.last - d.begun in
          let m : skip + (d.last + openings e - closings e) - d.begun ≡ b + openings e - closings e = omega (arith, h.not_past, h.few_closes) in
          rw m (passing-append (h.passing skip (omega arith)) (pass_one {skip = b} {e = e} (omega arith) pass_none));
    }

depths-append : (xs ys : List ℕ) (d d' : Depths) → DepthsOf xs d → DepthsOf ys d' → DepthsOf (xs ++ ys) (joined d d')
unfolding joined
depths-append xs ys d d' h h' =
    let long = length-append xs ys in
    record {
      not_above = omega (arith, h.not_above);
      not_past = omega (arith, h'.not_past);
      few_closes = omega (arith, h.not_past, h.few_closes, h'.few_closes);
      few_opens = omega (arith, h.few_opens, h'.few_opens);
      passing = λ skip free.
          let b : ℕ = skip + d.last - d.begun in
          let e : skip + (d.last + d'.last) - (d.begun + d'.begun) ≡ b + d'.last - d'.begun = omega (arith, h.not_past, h'.not_past) in
          rw e (passing-append (h.passing skip (omega arith)) (h'.passing b (omega (arith, h.not_past))));
    }

depths-join : (events : List ℕ) (at m n : ℕ) (d d' : Depths) → DepthsOf (take m (drop at events)) d
    → DepthsOf (take n (drop (at + m) events)) d' → DepthsOf (take (m + n) (drop at events)) (joined d d')
depths-join events at m n d d' h h' =
    rw (take-add m n (drop at events), drop-drop m at events) (depths-append (take m (drop at events)) (take n (drop (at + m) events)) d d' h h')

-- a part of a block from some place on, begun at a depth that none of its closes can use up
pub record PartOf (events : List ℕ) (begun at i : ℕ) (d : Depths) : Type 0 where
  pub begun_is : d.begun ≡ begun
  pub depths : DepthsOf (take i (drop at events)) d

module _ (events : List ℕ) (begun at : ℕ) where
  pub part-none : PartOf events begun at 0 (no_event begun)
  unfolding no_event
  part-none = record { begun_is = refl; depths = depths-none begun }

  -- one event more
  pub part-more : (i j : ℕ) (d : Depths) → at + i ≡ j → j < length events → i < begun → PartOf events begun at i d
      → PartOf events begun at (i + 1) (one_more d (get_or events j 0))
  unfolding one_more
  part-more i j d here inside room h =
      let part : List ℕ = drop at events in
      let left : i < length part = simp length-drop (omega arith) in
      let few = length-take i part in
      let more = depths-push (take i part) (get_or part i 0) d (omega (arith, h.begun_is)) h.depths in
      record { begun_is = h.begun_is; depths = rw (← here, ← get_or-drop at events i 0, add-one i, take-suc part i 0 left) more }

  -- two of them, one after the other
  pub part-join : (m n : ℕ) (d d' : Depths) → PartOf events begun at m d → PartOf events begun (at + m) n d'
      → PartOf events (begun + begun) at (m + n) (joined d d')
  unfolding joined
  part-join m n d d' h h' = record {
    begun_is = omega (arith, h.begun_is, h'.begun_is);
    depths = depths-join events at m n d d' h.depths h'.depths;
  }

  -- how far they go
  pub part-short : (i : ℕ) (d : Depths) → i ≤ 256 → begun ≤ 256 → PartOf events begun at i d → Short d
  part-short i d long deep h =
      let few = length-take i (drop at events) in
      record {
        begun_fits = omega (arith, h.begun_is);
        lowest_fits = omega (arith, h.begun_is, h.depths.not_above);
        last_fits = omega (arith, h.begun_is, h.depths.few_opens);
      }

-- a block of known events whose lowest depth is not below zero
pub passed-depths : (known skip lowest : ℕ) (events : List ℕ) (n : Counts) (d : Depths) → CountsOf events n → n.largest < known
    → DepthsOf events d → lowest + (d.begun - d.lowest) ≡ skip → AllPassed known skip events (lowest + (d.last - d.lowest))
passed-depths known skip lowest events n d counts below h free =
    let last : lowest + (d.last - d.lowest) ≡ skip + d.last - d.begun = omega (arith, h.not_above, h.not_past) in
    record {
      all_known = known-counts known events n counts below;
      passing = rw last (h.passing skip (omega (arith, h.not_above)));
    }

-- ---- a run that is passed over

module _ (known : ℕ) where
  pub passed_none : (skip : ℕ) → AllPassed known skip [] skip
  passed_none skip = record { all_known = All-nil (λ e. e < known); passing = pass_none }

  passed-append : (a b c : ℕ) (xs ys : List ℕ) → AllPassed known a xs b → AllPassed known b ys c → AllPassed known a (xs ++ ys) c
  passed-append a b c xs ys h h' = record {
    all_known = All-append (λ e. e < known) xs ys h.all_known h'.all_known;
    passing = passing-append h.passing h'.passing;
  }

  -- one event, unless its close ends the level
  pub passed_one : (skip e opened closed : ℕ) (after : Option ℕ) → e < known → opened ≡ from_bool (e =? 0) → closed ≡ from_bool (e =? 1)
      → SomeIff after (closed ≤ skip + opened) (skip + opened - closed) → IfSome after (λ skip'. AllPassed known skip (e ∷ []) skip')
  passed_one skip e opened closed None below opens closes h = tt
  passed_one skip e opened closed (Some skip') below opens closes h =
      let o : opened ≡ openings e = opens ∙ opens-are e in
      let c : closed ≡ closings e = closes ∙ closes-are e in
      rw (h.1, o, c) (record {
        all_known = All-cons (λ e. e < known) e [] below (All-nil (λ e. e < known));
        passing = pass_one {skip = skip} {e = e} (omega (arith, one-kind e, h.0)) pass_none;
      })

  pub passed-more : (events : List ℕ) (a b c i : ℕ) → i < length events → AllPassed known a (take i events) b
      → AllPassed known b (get_or events i 0 ∷ []) c → AllPassed known a (take (i + 1) events) c
  passed-more events a b c i inside h h' =
      rw (add-one i, take-suc events i 0 inside) (passed-append a b c (take i events) (get_or events i 0 ∷ []) h h')

  -- the first part of a run
  pub passed_front : (a m : ℕ) (events : List ℕ) (p : Passed) → PassedIn known a (take m events) p → PassedIn known a events p
  passed_front a m events p h =
      let long = length-take m events in
      record { within = omega (arith, h.within); passed = rw (take-take p.count m events (omega (arith, h.within))) at h.passed }

  -- and a block more of it
  pub passed_next : (a : ℕ) (events block rest : List ℕ) (p q : Passed) → PassedIn known a events p → drop p.count events ≡ block ++ rest
      → PassedIn known p.skip block q → PassedIn known a events (record { count = p.count + q.count; skip = q.skip })
  passed_next a events block rest p q h left h' =
      let long = length-drop p.count events in
      let longer : length (drop p.count events) ≡ length block + length rest = rw left (length-append block rest) in
      record {
        within = omega (arith, h.within, h'.within);
        passed = rw (take-add p.count q.count events, left, take-append-le q.count block rest h'.within)
            (passed-append a p.skip q.skip (take p.count events) (take q.count block) h.passed h'.passed);
      }

  -- no more trees are opened than there are events, also those of the block
  pub passed_room : (a : ℕ) (events block rest : List ℕ) (p : Passed) → PassedIn known a events p → drop p.count events ≡ block ++ rest
      → p.skip + length block ≤ a + length events
  passed_room a events block rest p h left =
      let few = passing-few h.passed.passing in
      let long = length-drop p.count events in
      let longer : length (drop p.count events) ≡ length block + length rest = rw left (length-append block rest) in
      omega (arith, length-take p.count events, h.within)

-- what is left after a block of it
pub left-after : (events block rest : List ℕ) (i n : ℕ) → drop i events ≡ block ++ rest → n ≡ length block → drop (i + n) events ≡ rest
left-after events block rest i n left whole = rw (← drop-drop n i events, left, whole) (drop-append_seam block rest)
