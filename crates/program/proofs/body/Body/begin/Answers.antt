-- Both readings before the first event, from the same one.
use Rattle.std.proofs.Common.{List, [], ℕ, replicate, refl, ◌∙◌, ap, arith}
use Rattle.meaning.specs.FullReading.{Went, blank}
use Rattle.meaning.specs.Calls.{Stored, feed_call, largest_ceiling}
use Rattle.meaning.specs.declared.Reading.{Reading}
use Rattle.meaning.specs.CheckProgram.{program_levels, program_fed, events_in}
use Rattle.program.specs.Bodies.{zero_book}
use Rattle.std.proofs.lemmas.Bool.{both_ways}
use Rattle.program.proofs.body.Body.begin.Goals as goal

pub returns : goal.returns
unfolding events_in program_fed
returns c =
    let a = c.args in
    let fed : List ℕ → Reading → Went Stored = λ book r. feed_call a.file.now book largest_ceiling r (replicate program_levels blank) [] in
    λ size fresh.
    record {
      while_within = λ e.
          record {
            taken_is = refl;
            in_record = omega arith;
            skip_is = c.begin.ensures ∙ ap (fed a.book.now) fresh;
            full_is = c.begin-2.ensures ∙ (ap (λ z. fed z a.first) c.zeros.ensures.zeros ∙ ap (fed zero_book) fresh);
          };
      when_after = λ e. absurd (both_ways _ e refl);
    }
