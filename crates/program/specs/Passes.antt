-- What a reading of the check program stands for: where feeding has led to, and how it ended.
use Rattle.std.specs.Prelude.{ℕ, List}
use Rattle.meaning.specs.Answers.{Answer, given, refused}
use Rattle.meaning.specs.FullReading.{Went}
use Rattle.meaning.specs.Calls.{Stored, says, feed_call, largest_ceiling}
use Rattle.program.specs.declared.passes.Pass.{Pass}

-- the reading and its levels, and how it ended
unfoldable pub pass_says : Pass → Went Stored
pass_says p = record { last = record { reading = p.reading; store = p.levels }; ended = says p.ended }

-- more events: none is taken after a refusal, and otherwise they are fed from where the earlier ones led to
unfoldable pub fed_on : List ℕ → List ℕ → Went Stored → List ℕ → Went Stored
fed_on file book w events = on_from w.ended
  where
    on_from : Answer Unit → Went Stored
    on_from (given u) = feed_call file book largest_ceiling w.last.reading w.last.store events
    on_from (refused number place) = w
