-- What the blocks come to: the front and the bytes that were read after it are an input, and what the body took is its body.
use mathlib.Core.Path.{◌≡◌, refl, sym, ap, subst, ◌∙◌}
use mathlib.Core.Bool.{Bool, true, false}
use mathlib.Core.List.{List, [], ◌++◌, append_assoc, append-nil}
use Prim.Native.Nat.{ℕ, ◌+◌, ◌%◌, ◌≤◌, ◌<◌}
use native.Mathlib.Nat.{lt_of_not-le}
use native.Mathlib.Decide.{dec_le}
use native.Mathlib.Omega.{arith}
use lib.ListN.{length, take, drop, length-append, take-append-drop}
use lib.Seq.{take-take, take-append-le, drop-append-le, length-take-le}
use Rattle.std.proofs.Common.{None, Some, IfSome, IsSome, IsSomeAnd, Result, Ok, Err, OnErr}
use Rattle.std.specs.declared.option.Option.{Option}
use Rattle.std.specs.Io.KnownBytes.{Consumes, IsAtEnd}
use Rattle.std.proofs.KnownBytes.{Consumes-trans}
use Rattle.meaning.specs.Answers.{given}
use Rattle.meaning.specs.RuleFile.{header_length, rule_of, check_rule}
use Rattle.meaning.specs.CheckProgram.{EventsAt, front_length, front_check}
use Rattle.meaning.proofs.rulefile.Accepted.{accepted-rule}
use Rattle.meaning.proofs.program.Fifth.{found, fifth-file, header-says, front-join, front-more}
use Rattle.program.specs.declared.body.Body.{Body}
use Rattle.program.specs.declared.body.Document.{Document}
use Rattle.program.specs.Bodies.{block_length, program_book, Took, HasRead}
use Rattle.rule_check.specs.BlockRead.{TookMore, left}
use Rattle.rule_check.specs.Failing.{LostSome}

-- ---- one block

-- a block that was filled is what was there and what was read
filled : (there count : ℕ) (block after : List ℕ) → there ≤ count → take there after ≡ take there block
    → take there block ++ drop there (take count after) ≡ take count after
filled there count block after h stays =
    ap (λ l. l ++ drop there (take count after)) (sym stays ∙ sym (take-take there count after h))
    ∙ take-append-drop there (take count after)

pub went-block : (document : Document) (before : Body) (there count : ℕ) (block after : List ℕ) (old new : Option (List ℕ)) (body : Body) (more : Bool)
    → there ≤ count → count ≤ length after → length after ≡ block_length → take there after ≡ take there block
    → Consumes old new (drop there (take count after))
    → ((bytes : List ℕ) → Took document.file.now document.book.now document.size before bytes → length bytes % 2 ≡ 0 → length (take count after) ≤ block_length
    → Took document.file.now document.book.now document.size body (bytes ++ take count after))
    → (more ≡ true → count ≡ block_length)
    → (more ≡ false → IsSome body.taken → IsAtEnd new)
    → TookMore document before (take there block) old new body more
went-block document before there count block after old new body more h within room stays gave took full end =
    let all : take there block ++ drop there (take count after) ≡ take count after = filled there count block after h stays in
    let counted : length (take count after) ≡ count = length-take-le count after within in
    record {
      new = drop there (take count after);
      gave = gave;
      took = λ bytes t even. rw all (took bytes t even (omega arith));
      even = λ e. rw all (omega (arith, full e));
      at_end = end;
    }

-- a block that is not full has fewer bytes than it takes
pub short-block : (count most : ℕ) (full : count ≡ block_length → ⊥) → most ≡ block_length → count ≤ most → count < most
short-block count most full room within = omega arith

-- ---- block after block

even_sum : (a b : ℕ) → a % 2 ≡ 0 → b % 2 ≡ 0 → (a + b) % 2 ≡ 0
even_sum a b h k = omega arith

pub went_on : (document : Document) (before : Body) (there : List ℕ) (start old new : Option (List ℕ)) (first body : Body) (more : Bool)
    → TookMore document before there start old first true → TookMore document first [] old new body more
    → TookMore document before there start new body more
went_on document before there start old new first body more one two =
    let both : (there ++ one.new) ++ two.new ≡ there ++ (one.new ++ two.new) = append_assoc there one.new two.new in
    let first_even : length (there ++ one.new) % 2 ≡ 0 = one.even refl in
    record {
      new = one.new ++ two.new;
      gave = Consumes-trans start old new _ _ one.gave two.gave;
      took = λ bytes t even.
          let joined : (bytes ++ (there ++ one.new)) ++ two.new ≡ bytes ++ (there ++ (one.new ++ two.new))
          = append_assoc bytes (there ++ one.new) two.new ∙ ap (λ l. bytes ++ l) both in
          let evenly : length (bytes ++ (there ++ one.new)) % 2 ≡ 0
          = rw (length-append bytes (there ++ one.new)) (even_sum (length bytes) (length (there ++ one.new)) even first_even) in
          rw joined at (two.took (bytes ++ (there ++ one.new)) (one.took bytes t even) evenly);
      even = λ e.
          rw (← both) (rw (length-append (there ++ one.new) two.new) (even_sum (length (there ++ one.new)) (length two.new) first_even (two.even e)));
      at_end = two.at_end;
    }

-- the bytes of the record that are left grow fewer
pub fewer-left : (more : Bool) (size part : ℕ) (before taken : Option ℕ) → IfSome taken (λ after. IsSomeAnd before (λ b. after ≡ b + part) × (after ≤ size))
    → (more ≡ true → (0 < part) × IsSome taken) → left more size taken < left true size before
unfolding left
fewer-left true size part (Some b) (Some t) w h = let more = (h refl).0 in omega arith
fewer-left true size part None (Some t) w h = absurd w.0
fewer-left true size part before None w h = let none : ◌≡◌ {A = Bool} false true = (h refl).1 in cc
fewer-left false size part (Some b) taken w h = omega arith
fewer-left false size part None taken w h = omega arith

-- from the first byte on
pub took-all : (document : Document) (before : Body) (there part : List ℕ) (old new : Option (List ℕ)) (body : Body) (more : Bool) → there ≡ part
    → Took document.file.now document.book.now document.size before [] → (w : TookMore document before there old new body more) → Took document.file.now document.book.now document.size body (part ++ w.new)
took-all document before there part old new body more e t w =
    subst (λ (l : List ℕ). Took document.file.now document.book.now document.size body (l ++ w.new)) e (w.took [] t refl)

-- ---- what a failure leaves

-- what holds holds after a failure
pub after-err : {A E P : Type 0} (r : Result A E) → P → OnErr r P
after-err (Ok x) p = tt
after-err (Err e) p = p

-- what was taken from a reader before a call that failed, and what that call took
pub lost-after : {A E : Type 0} (a b c : Option (List ℕ)) (bytes : List ℕ) (r : Result A E) → Consumes a b bytes
    → LostSome b c r → LostSome a c r
lost-after a b c bytes (Ok x) gave lost = tt
lost-after a b c bytes (Err e) gave lost = (bytes ++ lost.0, Consumes-trans a b c bytes lost.0 gave lost.1)

-- ---- all that a reader has

-- what holds of what it gave and what it has left holds of all that it had
pub of-all : (a b : Option (List ℕ)) (new : List ℕ) (P : List ℕ → Type 0) → Consumes a b new
    → ((rest : List ℕ) → (IsAtEnd b → rest ≡ []) → P (new ++ rest)) → IfSome a P
of-all None b new P gave h = tt
of-all (Some x) None new P gave h = absurd gave
of-all (Some x) (Some y) new P gave h = subst P (sym gave) (h y (λ e. e))

-- ---- the whole input

-- the front decides what the input's front check says, where nothing follows a front that is short
pub front-decides : (front rest : List ℕ) → (length front < front_length → rest ≡ [])
    → front_check (take front_length (front ++ rest)) ≡ front_check front
front-decides front rest none =
    elim (dec_le front_length (length front)) [
      | yes long ↦ ap front_check (take-append-le front_length front rest long) ∙ front-join front
      | no less ↦ front-join (front ++ rest) ∙ ap front_check (ap (λ l. front ++ l) (none (lt_of_not-le less)) ∙ append-nil front)
    ]

module _ (front : List ℕ) (place size : ℕ) (there : front_check front ≡ given (record { place = place; size = size })) where
  abbrev start : ℕ
  start = place + header_length

  -- the header stands within the front
  pub start-in : start ≤ length front
  start-in = (header-says front place (found front there).header).0

  -- and the bytes before it are an accepted file
  pub file-accepted : (file : List ℕ) → file ≡ take place front → check_rule file ≡ given (rule_of file)
  file-accepted file file_is =
      let a : check_rule (take place front) ≡ given (rule_of front) = fifth-file front place (found front there).after in
      rw file_is (a ∙ ap given (sym (accepted-rule (take place front) a)))

  -- the input is the front, what was read after it, and a rest that was not read
  pub has-read : (file book : List ℕ) (body : Body) (new rest : List ℕ) → file ≡ take place front → book ≡ program_book file
      → Took file book size body (drop start front ++ new) → (IsSome body.taken → rest ≡ [])
      → HasRead file book size body (front ++ (new ++ rest)) (drop start front ++ new) rest
  has-read file book body new rest file_is book_is took all_read =
      let long : length file ≡ place = ap length file_is ∙ length-take-le place front (omega (arith, start-in)) in
      let at' : EventsAt = record { place = place; size = size } in
      let more : List ℕ = new ++ rest in
      record {
        found = front-join (front ++ more) ∙ (front-more front more there ∙ ap (λ n. given (record { place = n; size = size })) (sym long));
        file_is = file_is ∙ (sym (take-append-le place front more (omega (arith, start-in))) ∙ ap (λ n. take n (front ++ more)) (sym long));
        book_is = book_is;
        took = took;
        body_is =
            ap (λ n. drop (n + header_length) (front ++ more)) long
            ∙ (drop-append-le start front more start-in ∙ sym (append_assoc (drop start front) new rest));
        all_read = all_read;
      }

  -- so it is after the last block, whatever the rest is, and that is nothing where the reader is at its end
  pub run-read : (document : Document) (begun : Body) (laid : List ℕ) (old new : Option (List ℕ)) (last : Body) → document.size ≡ size
      → document.file.now ≡ take place front → document.book.now ≡ program_book document.file.now → laid ≡ drop start front
      → Took document.file.now document.book.now document.size begun [] → (w : TookMore document begun laid old new last false)
      → (rest : List ℕ) → (IsAtEnd new → rest ≡ [])
      → HasRead document.file.now document.book.now document.size last (front ++ (w.new ++ rest)) (drop start front ++ w.new) rest
  run-read document begun laid old new last size_is file_is book_is laid_is took w rest none =
      rw size_is
      (has-read document.file.now document.book.now last w.new rest file_is book_is
      (rw size_is at (took-all document begun laid (drop start front) old new last false laid_is took w))
      (λ e. none (w.at_end refl e)))
