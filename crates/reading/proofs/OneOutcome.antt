-- Two outcomes that a contract allows agree, for each call: the answer and what every lent slice then holds. The listings
-- tell the cases of an answer apart, and what a slice holds is an equation.
use mathlib.Core.Path.{◌≡◌, sym, ◌∙◌}
use mathlib.Core.List.{List}
use Prim.Native.Nat.{ℕ}
use Rattle.meaning.specs.FullReading.{Went}
use Rattle.meaning.specs.Calls as calls
use Rattle.meaning.specs.Calls.{Stored, says, open_call, opened_book}
use Rattle.std.specs.Prelude.{Result}
use Rattle.meaning.specs.declared.Opening.{Opening}
use Rattle.meaning.specs.declared.Judgement.{Judgement}
use Rattle.meaning.specs.declared.Refusal.{Refusal}
use Rattle.meaning.specs.declared.Fed.{Fed}
use Rattle.meaning.specs.declared.Level.{Level}
use Rattle.meaning.specs.declared.Reading.{Reading}
use Rattle.meaning.proofs.stores.OneAnswer.{says-one, end-says}
use Rattle.reading.specs.Feeding.{FedIs}
use Rattle.reading.specs.Whole.{ReadIs}

-- open has `says-one`, and the book is an equation; finish has `end-says`
pub open-one : (file book : List ℕ) (a b : Result Opening Refusal) {b₁ b₂ : List ℕ} → says a ≡ open_call file book → says b ≡ open_call file book
    → b₁ ≡ opened_book file book → b₂ ≡ opened_book file book → (a ≡ b) × (b₁ ≡ b₂)
open-one file book a b h k left right = (says-one a b (h ∙ sym k), left ∙ sym right)

-- feed
pub fed-one : {w : Went Stored} {before : Reading} {a b : Fed} {s₁ s₂ : List Level}
    → FedIs w before a s₁ → FedIs w before b s₂ → (a ≡ b) × (s₁ ≡ s₂)
fed-one {a = a} {b = b} h k =
    let taken : a.taken ≡ b.taken = h.taken_is ∙ sym k.taken_is in
    let reading : a.reading ≡ b.reading = h.reading_is ∙ sym k.reading_is in
    let ended : a.ended ≡ b.ended = says-one a.ended b.ended (h.ended_is ∙ sym k.ended_is) in
    (λ i. record { taken = taken i; reading = reading i; ended = ended i }, h.store_is ∙ sym k.store_is)

-- the whole-document call
pub read_one : {w : calls.Whole} {a b : Result Judgement Refusal} {b₁ b₂ : List ℕ} {s₁ s₂ : List Level}
    → ReadIs w a b₁ s₁ → ReadIs w b b₂ s₂ → (a ≡ b) × ((b₁ ≡ b₂) × (s₁ ≡ s₂))
read_one {a = a} {b = b} h k =
    (end-says a b (h.answer_is ∙ sym k.answer_is), (h.book_is ∙ sym k.book_is, h.store_is ∙ sym k.store_is))
