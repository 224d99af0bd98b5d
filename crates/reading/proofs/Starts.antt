-- The reading of an opening that gave its answer.
use mathlib.Core.Path.{◌≡◌, ap}
use Rattle.std.specs.Prelude.{Result, Ok, Err}
use Rattle.meaning.specs.Answers.{given}
use Rattle.meaning.specs.Calls.{refusal_says, says}
use Rattle.meaning.specs.declared.Refusal.{Refusal}
use Rattle.meaning.specs.declared.Opening.{Opening}
use Rattle.meaning.proofs.stores.OneAnswer.{given-says}
use Rattle.reading.specs.Whole.{opened_reading}

-- the reading that opening gave
pub first-is : (x : Result Opening Refusal) {o : Opening} → says x ≡ given o → opened_reading x ≡ o.reading
unfolding says opened_reading refusal_says
first-is (Ok o') {o} e = ap (λ (x : Opening). x.reading) (given-says o' o e)
first-is (Err f) e = cc
