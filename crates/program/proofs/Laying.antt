-- Laying bytes into a text: one after the other, and words after words.
use mathlib.Core.Path.{◌≡◌, refl, sym, ap, ◌∙◌}
use mathlib.Core.List.{List, [], ◌∷◌, ◌++◌, append_assoc}
use Prim.Native.Nat.{ℕ, zero, suc, min, ◌+◌, ◌-◌, ◌≤◌}
use native.Mathlib.Omega.{arith}
use lib.ListN.{length, take, drop, replicate, length-drop}
use lib.Seq.{take_all, take-append-add, length-take-le}
use borrow.Rule.Slice.PartMut.{put_mid, same_len_mid}
use Rattle.std.proofs.lemmas.List.{take_min, drop-drop, drop-replicate}
use Rattle.std.proofs.lemmas.Slice.{take-put_mid, drop-put_mid}
use Rattle.program.specs.Texts.{text_room, laid, Lays}

take-front : (n : ℕ) (there more : List ℕ) → take n (take n there ++ more) ≡ take n (there ++ more)
take-front zero there more = refl
take-front (suc n) [] more = refl
take-front (suc n) (x ∷ there) more = ap (λ l. x ∷ l) (take-front n there more)

-- bytes laid after bytes laid
pub laid-laid : (there one two : List ℕ) → laid (laid there one) two ≡ laid there (one ++ two)
unfolding laid
laid-laid there one two = take-front text_room (there ++ one) two ∙ ap (take text_room) (append_assoc there one two)

-- what there is room for is laid
pub laid-whole : (more : List ℕ) → length more ≤ text_room → laid [] more ≡ more
unfolding laid
laid-whole more h = take_all text_room more h

-- bytes laid into the room after those that are there
pub laid-in_room : (bytes more part : List ℕ) (count n : ℕ) → length bytes ≡ text_room → count ≤ text_room
    → n ≡ min (text_room - count) (length more) → part ≡ take n more
    → take (count + n) (put_mid count (count + n - count) bytes part) ≡ laid (take count bytes) more
unfolding laid
laid-in_room bytes more part count n room within few is_part =
    let long : length (take count bytes) ≡ count = length-take-le count bytes (omega (arith, room)) in
    let all : count + n ≡ count + length part
    = omega (arith, ap length is_part ∙ length-take-le n more (omega (arith, few))) in
    let left : length (take count bytes) + (text_room - count) ≡ text_room = omega (arith, long) in
    take-put_mid count (count + n - count) bytes part (count + n) all (omega (arith, room))
    ∙ (ap (λ l. take count bytes ++ l) (is_part ∙ (ap (λ m. take m more) few ∙ take_min (text_room - count) more))
    ∙ (sym (take-append-add (take count bytes) more (text_room - count)) ∙ ap (λ m. take m (take count bytes ++ more)) left))

-- the room keeps its length
pub room-in_room : (bytes part : List ℕ) (count n : ℕ) → length bytes ≡ text_room → count + n ≤ text_room → length part ≡ n
    → length (put_mid count (count + n - count) bytes part) ≡ text_room
room-in_room bytes part count n room within is_part =
    let there : length (take (count + n - count) (drop count bytes)) ≡ count + n - count
    = length-take-le (count + n - count) (drop count bytes) (omega (arith, length-drop count bytes, room, within)) in
    same_len_mid count (count + n - count) bytes part (omega (arith, is_part, there)) ∙ room

-- what stands past the bytes that are laid stays
pub past-in_room : (bytes part : List ℕ) (count n : ℕ) → length bytes ≡ text_room → count + n ≤ text_room
    → length part ≡ n → drop count bytes ≡ replicate (text_room - count) 0
    → drop (count + n) (put_mid count (count + n - count) bytes part) ≡ replicate (text_room - (count + n)) 0
past-in_room bytes part count n room within is_part zeros =
    let whole : length part ≡ count + n - count = omega (arith, is_part) in
    let left : text_room - count - n ≡ text_room - (count + n) = omega arith in
    drop-put_mid count (count + n - count) bytes part (count + n) (omega arith) (omega (arith, room, within)) whole
    ∙ (sym (drop-drop n count bytes) ∙ (ap (drop n) zeros ∙ (drop-replicate n (text_room - count) 0 ∙ ap (λ m. replicate m 0) left)))

-- ---- texts one after the other

pub lays-then : {a b c one two : List ℕ} → Lays a one b → Lays b two c → Lays a (one ++ two) c
lays-then {a} {one = one} {two = two} first second =
    record { says = second.says ∙ (ap (λ t. laid t two) first.says ∙ laid-laid a one two) }

pub lays-same : {a b one two : List ℕ} → one ≡ two → Lays a one b → Lays a two b
lays-same {a} {b} e h = rw e at h

-- from a text with no byte on
pub lays-whole : {start text more : List ℕ} → start ≡ [] → Lays start more text → length more ≤ text_room → text ≡ more
lays-whole {more = more} none h fits = h.says ∙ (ap (λ t. laid t more) none ∙ laid-whole more fits)
