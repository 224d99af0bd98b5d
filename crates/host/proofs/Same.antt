-- What a call lays is what its definition lists: the numbers of two answers that say the same are the same, so what is said of
-- the one's is said of the other's.
use mathlib.Core.Path.{◌≡◌, refl, sym, ap, ◌∙◌}
use mathlib.Core.Bool.{Bool}
use mathlib.Core.List.{List}
use Prim.Native.Nat.{ℕ}
use Rattle.std.proofs.Common.{Result, Ok, Err}
use Rattle.meaning.specs.Answers.{Answer}
use Rattle.meaning.specs.FullReading.{Went}
use Rattle.meaning.specs.Calls.{Stored, Whole, refusal_says, says, end_says}
use Rattle.meaning.specs.declared.Fed.{Fed}
use Rattle.meaning.specs.declared.Judgement.{Judgement}
use Rattle.meaning.specs.declared.Level.{Level}
use Rattle.meaning.specs.declared.Reading.{Reading}
use Rattle.meaning.specs.declared.Refusal.{Refusal}
use Rattle.reading.specs.Feeding.{FedIs}
use Rattle.reading.specs.Whole.{ReadIs}
use Rattle.host.specs.Numbers.{Laid, answer_numbers, judged_values, judgement_values, fed_numbers, FeedLaid, DocumentLaid}

pub laid_as : {numbers numbers' held : List ℕ} {fitted : Bool} {held' : List ℕ} → numbers ≡ numbers'
    → Laid numbers held fitted held' → Laid numbers' held fitted held'
laid_as e laid = rw (sym e) laid

pub laid-says : {A : Type 0} (values : A → List ℕ) {a b : Answer A} {held : List ℕ} {fitted : Bool} {held' : List ℕ} → a ≡ b
    → Laid (answer_numbers values a) held fitted held' → Laid (answer_numbers values b) held fitted held'
laid-says values e laid = laid_as (ap (answer_numbers values) e) laid

pub laid-fed : {w : Went Stored} {before : Reading} {r : Fed} {store : List Level} {held : List ℕ} {fitted : Bool} {held' : List ℕ}
    → FedIs w before r store
    → Laid (fed_numbers (says r.ended) r.taken r.reading) held fitted held' → FeedLaid w before held fitted store held'
laid-fed fed laid =
    record { laid = rw (sym fed.ended_is, sym fed.taken_is, sym fed.reading_is) laid; store_is = fed.store_is }

pub laid-read : {w : Whole} {r : Result Judgement Refusal} {book : List ℕ} {store : List Level} {held : List ℕ} {fitted : Bool} {held' : List ℕ} → ReadIs w r book store
    → Laid (answer_numbers judged_values (end_says r)) held fitted held' → DocumentLaid w held fitted book store held'
laid-read read laid =
    record { laid = laid-says judged_values read.answer_is laid; book_is = read.book_is; store_is = read.store_is }

-- a verdict has the numbers of its class
pub judged_alike : (r : Result Judgement Refusal) → answer_numbers judgement_values (says r) ≡ answer_numbers judged_values (end_says r)
unfolding answer_numbers refusal_says says end_says
judged_alike (Ok j) = refl
judged_alike (Err r) = refl

-- two outcomes that a contract allows agree
pub laid_one : {numbers held : List ℕ} {f₁ f₂ : Bool} {h₁ h₂ : List ℕ} → Laid numbers held f₁ h₁ → Laid numbers held f₂ h₂
    → (f₁ ≡ f₂) × (h₁ ≡ h₂)
laid_one a b = (a.fitted_is ∙ sym b.fitted_is, a.held_is ∙ sym b.held_is)
