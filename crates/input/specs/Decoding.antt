-- Events decoded into the front of a lent slice: as many as there are whole pairs of bytes, and no more than fit.
use Rattle.std.specs.Prelude.{ℕ, ◌*◌, ◌/◌, min, List, ◌++◌, take, drop}
use Rattle.meaning.specs.CheckProgram.{events_in}

abbrev pub event_count : ℕ → ℕ → ℕ
event_count bytes places = min (bytes / 2) places

-- the slice after so many events were decoded into its front
unfoldable pub decoded : ℕ → List ℕ → List ℕ → List ℕ
decoded count bytes events = events_in (take (count * 2) bytes) ++ drop count events
