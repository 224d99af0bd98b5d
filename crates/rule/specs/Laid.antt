-- What an output holds once some bytes are laid into it at a place.
use Rattle.std.specs.Prelude.{ℕ, ◌+◌, List, ◌++◌, length, take, drop}
use Rattle.meaning.specs.RuleFile.{bytes2, bytes4}

-- the bytes before the place and past the laid ones stay
unfoldable pub laid : ℕ → List ℕ → List ℕ → List ℕ
laid place bytes output = take place output ++ (bytes ++ drop (place + length bytes) output)

-- the bytes of a record before its body
unfoldable pub header_bytes : ℕ → ℕ → List ℕ
header_bytes kind size = bytes4 size ++ bytes2 kind
