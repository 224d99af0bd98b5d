-- The members of a set, one after the other.
use Rattle.std.specs.Prelude.{◌≡◌, ℕ, ◌-◌, ◌<◌, Option, MatchOption}
use Rattle.std.specs.Int.Bits.{bit_and}
use Rattle.std.specs.Int.Count.{count_trailing_zeros}
use Rattle.book.specs.declared.sets.Members.{Members}

-- a turn gives the lowest member and leaves the set without it, or nothing where the set is empty
abbrev pub TakesLowest : Members → Option ℕ → Members → Type 0
TakesLowest before taken after =
    MatchOption taken (before.rest ≡ 0)
    (λ lowest. (0 < before.rest) × (lowest ≡ count_trailing_zeros 64 before.rest) × (after.rest ≡ bit_and before.rest (before.rest - 1)))
