-- A block after the bytes so far: its events after theirs, and both readings after both.
use mathlib.Core.Path.{◌≡◌, refl, sym, ap, ◌∙◌}
use mathlib.Core.List.{List, [], ◌∷◌, ◌++◌}
use Prim.Native.Nat.{ℕ, zero, suc, ◌+◌, ◌*◌, ◌/◌, ◌%◌, ◌≤◌}
use native.Mathlib.Omega.{arith}
use lib.ListN.{length, take, drop, length-append}
use lib.Seq.{take_at, take_all, length-take-le}
use Rattle.std.proofs.lemmas.Bool.{both_ways}
use Rattle.std.proofs.Common.{Option, None, Some, IsSome, IfSome, IsSomeAnd}
use Rattle.meaning.specs.CheckProgram.{events_in, program_fed}
use Rattle.input.specs.Decoding.{event_count, decoded}
use Rattle.input.proofs.Pairs.{twice-suc, count-all, events-length}
use Rattle.program.specs.declared.body.Body.{Body}
use Rattle.program.specs.Passes.{pass_says, fed_on}
use Rattle.program.specs.Bodies.{block_length, zero_book, Took, Carried}
use Rattle.program.proofs.Feeds.{fed-more}

-- ---- the events of bytes

-- a byte that is left over is no event
events-take : (n : ℕ) (bytes : List ℕ) → length bytes ≤ n * 2 + 1 → events_in (take (n * 2) bytes) ≡ events_in bytes
unfolding events_in
events-take zero [] h = refl
events-take zero (x ∷ []) h = refl
events-take zero (x ∷ y ∷ bytes) h = absurd (omega arith)
events-take (suc n) [] h = rw (twice-suc n)
events-take (suc n) (x ∷ []) h = rw (twice-suc n)
events-take (suc n) (x ∷ y ∷ bytes) h = rw (twice-suc n) (ap (λ l. (x + 256 * y) ∷ l) (events-take n bytes (omega arith)))

-- after an even count of bytes no event straddles
events-append : (bytes block : List ℕ) → length bytes % 2 ≡ 0 → events_in (bytes ++ block) ≡ events_in bytes ++ events_in block
unfolding events_in
events-append [] block h = refl
events-append (x ∷ []) block h = absurd (omega arith)
events-append (x ∷ y ∷ bytes) block h = ap (λ l. (x + 256 * y) ∷ l) (events-append bytes block (omega arith))

-- what was decoded of a block are its events
pub decoded-front : (block events : List ℕ) (n : ℕ) → length block ≤ block_length → length events ≡ 32768
    → n ≡ event_count (length block) (length events) → take n (decoded n block events) ≡ events_in block
unfolding decoded
decoded-front block events n short room counted =
    let half : n ≡ length block / 2 = counted ∙ count-all (length block) (length events) (omega arith) in
    take_at (events_in (take (n * 2) block)) (drop n events) n (events-length n block (omega arith))
    ∙ events-take n block (omega arith)

-- ---- bytes carried into a block

-- what was carried is the front, where the block takes all of it
pub carried-front : {front block after : List ℕ} {count : ℕ} → Carried front block count after → length front ≤ length block
    → take count after ≡ front
carried-front {front} {block} {after} {count} c fits =
    let all : count ≡ length front = omega (arith, c.count_is) in
    ap (take count) c.laid_is
    ∙ (take_at (take count front) (drop count block) count (length-take-le count front (omega arith))
    ∙ take_all count front (omega arith))

-- ---- both readings

-- so many bytes more, while all are of the record
grown : (before after : Option ℕ) (n more size : ℕ) → before ≡ Some n → IsSome after
    → IfSome after (λ m. IsSomeAnd before (λ k. m ≡ k + more) × (m ≤ size)) → (after ≡ Some (n + more)) × (n + more ≤ size)
grown before None n more size e some h = absurd (both_ways _ refl some)
grown before (Some m) n more size e some h =
    let sum : m ≡ n + more = rw e at h.0 in (ap Some sum, omega (arith, sum, h.1))

was_some : (before after : Option ℕ) (more size : ℕ) → IsSome after
    → IfSome after (λ m. IsSomeAnd before (λ k. m ≡ k + more) × (m ≤ size)) → IsSome before
was_some before None more size some h = absurd (both_ways _ refl some)
was_some None (Some m) more size some h = absurd h.0
was_some (Some k) (Some m) more size some h = refl

module _ (file book : List ℕ) (size : ℕ) (body next : Body) (bytes block : List ℕ) where
  pub took-more : Took file book size body bytes → length bytes % 2 ≡ 0 → IsSome next.taken
      → IfSome next.taken (λ m. IsSomeAnd body.taken (λ k. m ≡ k + length block) × (m ≤ size))
      → pass_says next.both.skip ≡ fed_on file book (pass_says body.both.skip) (events_in block)
      → pass_says next.both.full ≡ fed_on file zero_book (pass_says body.both.full) (events_in block)
      → Took file book size next (bytes ++ block)
  took-more took even some within skip full =
      let so_far = took.while_within (was_some body.taken next.taken (length block) size some within) in
      let sum = grown body.taken next.taken (length bytes) (length block) size so_far.taken_is some within in
      let more : events_in (bytes ++ block) ≡ events_in bytes ++ events_in block = events-append bytes block even in
      record {
        while_within = λ e.
            record {
              taken_is = sum.0 ∙ ap Some (sym (length-append bytes block));
              in_record = simp length-append sum.1;
              skip_is =
                  skip
                  ∙ (ap (λ w. fed_on file book w (events_in block)) so_far.skip_is
                  ∙ (fed-more file book (events_in bytes) (events_in block) ∙ ap (program_fed file book) (sym more)));
              full_is =
                  full
                  ∙ (ap (λ w. fed_on file zero_book w (events_in block)) so_far.full_is
                  ∙ (fed-more file zero_book (events_in bytes) (events_in block) ∙ ap (program_fed file zero_book) (sym more)));
            };
        when_after = λ e. absurd (both_ways _ e some);
      }
