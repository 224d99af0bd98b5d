-- What the whole-document call answers, and what it leaves in the book and in the level store.
use Rattle.std.specs.Prelude.{◌≡◌, List, ℕ, Result, Ok, Err}
use Rattle.meaning.specs.Answers.{Answer, ◌giving◌}
use Rattle.meaning.specs.RuleFile as format
use Rattle.meaning.specs.FullReading.{Went}
use Rattle.meaning.specs.Calls as calls
use Rattle.meaning.specs.Calls.{Stored, Judged, top_of, end_of, end_says}
use Rattle.meaning.specs.declared.Refusal.{Refusal}
use Rattle.meaning.specs.declared.Reading.{Reading}
use Rattle.meaning.specs.declared.Opening.{Opening}
use Rattle.meaning.specs.declared.Judgement.{Judgement}
use Rattle.meaning.specs.declared.Level.{Level}

-- the end of what was fed: what feeding refused, or what the state says
unfoldable pub end_fed : format.Rule → Went Stored → Answer Judged
end_fed R w = w.ended giving λ done. end_of R w.last.reading (top_of w.last.reading w.last.store)

pub record ReadIs (w : calls.Whole) (r : Result Judgement Refusal) (book : List ℕ) (store : List Level) : Type 0 where
  pub answer_is : end_says r ≡ w.answer
  pub book_is : book ≡ w.book
  pub store_is : store ≡ w.store

-- the reading that opening gave, or five zeros where it refused
unfoldable pub opened_reading : {E : Type 0} → Result Opening E → Reading
opened_reading (Ok o) = o.reading
opened_reading (Err e) = record { state = 0; depth = 0; skip = 0; taken = 0; looks = 0 }
