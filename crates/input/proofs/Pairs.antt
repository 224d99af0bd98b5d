-- One more event decoded: two more bytes, and one more place of the slice.
use mathlib.Core.Path.{◌≡◌, refl, ap, ◌∙◌}
use mathlib.Core.List.{List, [], ◌∷◌, ◌++◌, append_assoc, append-nil}
use Prim.Native.Nat.{ℕ, zero, suc, ◌+◌, ◌*◌, ◌/◌, ◌≤◌, ◌<◌}
use native.Mathlib.Nat.{not-suc-le-zero}
use native.Mathlib.Numerals.{add-one}
use native.Mathlib.Omega.{arith}
use lib.ListN.{length, get_or, take, drop, set}
use lib.Seq.{drop-cons, set_at, length-take-le}
use Rattle.std.proofs.lemmas.List.{drop_all}
use Rattle.meaning.specs.RuleFile.{number2}
use Rattle.meaning.specs.CheckProgram.{events_in}
use Rattle.input.specs.Decoding.{event_count, decoded}

pub twice-suc : (i : ℕ) → suc i * 2 ≡ suc (suc (i * 2))
twice-suc i = omega arith

pair-next : (a b : ℕ) (bytes : List ℕ) (i : ℕ) → number2 (a ∷ b ∷ bytes) (suc i * 2) ≡ number2 bytes (i * 2)
unfolding number2
pair-next a b bytes i =
    let one : suc i * 2 ≡ suc (suc (i * 2)) = omega arith in
    let two : suc i * 2 + 1 ≡ suc (suc (i * 2 + 1)) = omega arith in
    rw (two, one)

take-pair : (a b : ℕ) (bytes : List ℕ) (i : ℕ) → events_in (take (suc i * 2) (a ∷ b ∷ bytes)) ≡ (a + 256 * b) ∷ events_in (take (i * 2) bytes)
unfolding events_in
take-pair a b bytes i = rw (twice-suc i)

events-more : (i : ℕ) (bytes : List ℕ) → i * 2 + 1 < length bytes
    → events_in (take (suc i * 2) bytes) ≡ events_in (take (i * 2) bytes) ++ (number2 bytes (i * 2) ∷ [])
unfolding events_in number2
events-more i [] h = absurd (not-suc-le-zero h)
events-more i (a ∷ []) h = absurd (omega arith)
events-more zero (a ∷ b ∷ bytes) h = refl
events-more (suc i) (a ∷ b ∷ bytes) h =
    take-pair a b bytes (suc i)
    ∙ ap (λ (l : List ℕ). (a + 256 * b) ∷ l) (events-more i bytes (omega arith))
    ∙ rw (take-pair a b bytes i, pair-next a b bytes i)

-- as many events as pairs
pub events-length : (i : ℕ) (bytes : List ℕ) → i * 2 ≤ length bytes → length (events_in (take (i * 2) bytes)) ≡ i
unfolding events_in
events-length zero bytes h = refl
events-length (suc i) [] h = absurd (omega arith)
events-length (suc i) (a ∷ []) h = absurd (omega arith)
events-length (suc i) (a ∷ b ∷ bytes) h = ap length (take-pair a b bytes i) ∙ ap suc (events-length i bytes (omega arith))

pub decode-none : (bytes events : List ℕ) → events ≡ decoded 0 bytes events
unfolding decoded events_in
decode-none bytes events = refl

pub decode-more : (i : ℕ) (bytes events : List ℕ) → i * 2 + 1 < length bytes → i < length events
    → set (decoded i bytes events) i (number2 bytes (i * 2)) ≡ decoded (i + 1) bytes events
unfolding decoded
decode-more i bytes events h g =
    rw (drop-cons events i 0 g, add-one i, events-more i bytes h, append_assoc)
    (set_at (events_in (take (i * 2) bytes)) (get_or events i 0) (drop (suc i) events) (number2 bytes (i * 2)) i (events-length i bytes (omega arith)))

-- a block of places that take all events of so many bytes
pub count-all : (bytes places : ℕ) → bytes / 2 ≤ places → event_count bytes places ≡ bytes / 2
count-all bytes places h = omega arith

-- once the slots are decoded, so is the slice of which they are the front
pub slots-decoded : (i count : ℕ) (bytes events : List ℕ) → length (take count events) ≤ i → i ≤ length (take count events) → count ≤ length events
    → decoded i bytes (take count events) ++ drop count events ≡ decoded count bytes events
unfolding decoded
slots-decoded i count bytes events low high within =
    let long : length (take count events) ≡ count = length-take-le count events within in
    let all : i ≡ count = omega arith in
    rw (all, drop_all count (take count events) (omega arith), append-nil)
