-- Laws of bytes laid into an output: stores side by side lay their bytes, what is laid next to what is laid is laid in one, and
-- what is laid at the front of a lent rest is laid in the whole at the rest's place.
use mathlib.Core.Path.{◌≡◌, refl, sym, ap, ◌∙◌}
use mathlib.Core.List.{List, [], ◌++◌, append_assoc, append-nil}
use Prim.Native.Nat.{ℕ, ◌+◌, ◌-◌, ◌≤◌}
use native.Mathlib.Nat.{zero-add}
use native.Mathlib.Omega.{arith}
use lib.ListN.{length, take, drop, length-append, length-take, length-drop, drop_of_length-le}
use lib.Seq.{sets, sets-eq, drop-drop, take_at, drop_at, take-length, take_all, paste}
use borrow.Rule.Slice.PartMut.{put_mid, mid_of, post_of}
use Rattle.meaning.specs.RuleFile.{bytes2, bytes4, record_bytes}
use Rattle.rule.specs.Laid.{laid, header_bytes}

pub laid-sets : (bytes output : List ℕ) (place : ℕ) → place + length bytes ≤ length output → sets output place bytes ≡ laid place bytes output
unfolding laid
laid-sets bytes output place h = sets-eq bytes output place h ∙ append_assoc (take place output) bytes _

pub laid-length : (place : ℕ) (bytes output : List ℕ) → place + length bytes ≤ length output → length (laid place bytes output) ≡ length output
unfolding laid
laid-length place bytes output h = simp (length-append, length-take, length-drop) (omega arith)

-- laid at the front
pub laid-front : (bytes output : List ℕ) → laid 0 bytes output ≡ bytes ++ drop (length bytes) output
unfolding laid
laid-front bytes output = rw zero-add

-- what is laid at the front of the rest of an output, lent on from a place, is laid in the output at that place
pub laid-lent : (place : ℕ) (bytes output : List ℕ) → place ≤ length output
    → put_mid place (length output - place) output (laid 0 bytes (mid_of place (length output - place) output)) ≡ laid place bytes output
unfolding laid
laid-lent place bytes output h =
    let size : ℕ = length output - place in
    let rest : mid_of place size output ≡ drop place output = take_all size (drop place output) (omega (arith, length-drop place output)) in
    let none : post_of place size output ≡ [] = drop_of_length-le (drop place output) {i = size} (omega (arith, length-drop place output)) in
    rw (rest, none) (rw (append-nil, zero-add, drop-drop))

-- what is laid past the bytes that are laid is laid with them
pub laid_on : (place : ℕ) (a b output : List ℕ) → place + length a ≤ length output
    → laid (place + length a) b (laid place a output) ≡ laid place (a ++ b) output
unfolding laid
laid_on place a b output h =
    let n : ℕ = place + length a in
    let front : List ℕ = take place output ++ a in
    let rest : List ℕ = drop n output in
    let long : length front ≡ n = simp (length-append, length-take) (omega arith) in
    let split : take place output ++ (a ++ rest) ≡ front ++ rest = sym (append_assoc (take place output) a rest) in
    let before : take n (take place output ++ (a ++ rest)) ≡ front = ap (take n) split ∙ take_at front rest n long in
    let after : drop (n + length b) (take place output ++ (a ++ rest)) ≡ drop (n + length b) output =
    ap (drop (n + length b)) split
    ∙ sym (drop-drop (length b) n (front ++ rest))
    ∙ ap (drop (length b)) (drop_at front rest n long)
    ∙ drop-drop (length b) n output
    in
    let past : n + length b ≡ place + length (a ++ b) = omega (arith, length-append a b) in
    rw (before, after) (rw past (simp append_assoc))

-- the same of what the code holds between the two
pub laid_next : (place next : ℕ) (a b output : List ℕ) {middle : List ℕ} → middle ≡ laid place a output
    → next ≡ place + length a → next ≤ length output → laid next b middle ≡ laid place (a ++ b) output
laid_next place next a b output e same h =
    rw (e, same) (laid_on place a b output (omega arith))

-- a record: its header laid down, and its body laid at the front of the rest, lent on
pub laid-record : (place kind : ℕ) (body output : List ℕ) {headed rest : List ℕ} → headed ≡ laid place (header_bytes kind (length body)) output
    → rest ≡ laid 0 body (mid_of (place + 6) (length headed - (place + 6)) headed) → place + 6 ≤ length output
    → put_mid (place + 6) (length headed - (place + 6)) headed rest ≡ laid place (record_bytes kind body) output
unfolding record_bytes header_bytes bytes4 bytes2
laid-record place kind body output {headed} laid_down copied h =
    let start : ℕ = place + 6 in
    let long : length headed ≡ length output = ap length laid_down ∙ laid-length place (header_bytes kind (length body)) output h in
    ap (put_mid start (length headed - start) headed) copied
    ∙ laid-lent start body headed (omega arith)
    ∙ laid_next place start (header_bytes kind (length body)) body output laid_down refl h

-- a whole body, copied to the front
pub laid-copied : (body output : List ℕ) → paste output 0 body (length body) ≡ laid 0 body output
unfolding laid
laid-copied body output = rw take-length
