-- Bytes laid into a text, and the line of a reading.
use Rattle.std.specs.Prelude.{ℕ, ◌≡◌, List, ◌++◌, take, Result}
use Rattle.meaning.specs.Answers.{Answer, given, ◌giving◌}
use Rattle.meaning.specs.Calls.{Judged, verdict_says, end_says}
use Rattle.meaning.specs.CheckProgram.{Line}
use Rattle.meaning.specs.declared.Judgement.{Judgement}
use Rattle.meaning.specs.declared.Reading.{Reading}
use Rattle.meaning.specs.declared.Refusal.{Refusal}

-- the bytes that a text has room for
abbrev pub text_room : ℕ
text_room = 192

-- more bytes after those that are there; what finds no room is left out
unfoldable pub laid : List ℕ → List ℕ → List ℕ
laid there more = take text_room (there ++ more)

-- one text after another, with more bytes laid
pub record Lays (before more after : List ℕ) : Type 0 where
  pub says : after ≡ laid before more

-- ---- the line of a reading

-- a verdict's class and end state, with the events and looks of the reading
unfoldable pub line_of : Reading → Judged → Answer Line
line_of r j = given (record { class = j.class; state = j.state; events = r.taken; looks = r.looks })

unfoldable pub judged_line : Judgement → Reading → Answer Line
judged_line j r = line_of r (record { class = verdict_says j.verdict; state = j.state })

unfoldable pub line_says : Result Judgement Refusal → Reading → Answer Line
line_says e r = end_says e giving line_of r
