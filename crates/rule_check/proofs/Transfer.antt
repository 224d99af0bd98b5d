-- What one read lays into a buffer, what several of them lay one after the other, and what several writes took.
use Rattle.std.proofs.Common.{◌≡◌, ℕ, ◌+◌, ◌≤◌, List, ◌++◌, length, take, drop, sym, ap, subst, ◌∙◌, arith, drop_at, length-take-le}
use Rattle.std.proofs.lemmas.List.{take-append-le, drop-append-le, take-take}
use Rattle.std.proofs.Math.Seq.{take-add, take-append_seam}
use Rattle.std.specs.declared.option.Option.{Option}
use Rattle.std.specs.Io.KnownBytes.{Consumes, Appends}
use Rattle.std.proofs.KnownBytes.{Consumes-trans}

-- what stays before a place stays before an earlier one
pub stays-before : (less more : ℕ) (a b : List ℕ) → less ≤ more → take more a ≡ take more b → take less a ≡ take less b
stays-before less more a b h e = sym (take-take less more a h) ∙ (ap (take less) e ∙ take-take less more b h)

-- what was read into the part stands after the front
pub read-in_place : (a b : Option (List ℕ)) (n : ℕ) (front part rest : List ℕ) (at : ℕ) → length front ≡ at → n ≤ length part
    → Consumes a b (take n part) → Consumes a b (take n (drop at (front ++ (part ++ rest))))
read-in_place a b n front part rest at long fits read =
    subst (Consumes a b) (sym (ap (take n) (drop_at front (part ++ rest) at long) ∙ take-append-le n part rest fits)) read

-- after n bytes more the part from a place on has grown by them
part-grown : (from at n : ℕ) (old new : List ℕ) → from ≤ at → at ≤ length new → take at new ≡ take at old
    → drop from (take (at + n) new) ≡ drop from (take at old) ++ take n (drop at new)
part-grown from at n old new h within stays =
    let long : from ≤ length (take at new) = omega (arith, length-take-le at new within) in
    ap (drop from) (take-add at n new) ∙ drop-append-le from (take at new) (take n (drop at new)) long ∙ ap (λ l. drop from l ++ take n (drop at new)) stays

-- and the part is what was read
pub read-more : (a b c : Option (List ℕ)) (from at n : ℕ) (old new : List ℕ) → from ≤ at → at ≤ length new → take at new ≡ take at old
    → Consumes a b (drop from (take at old)) → Consumes b c (take n (drop at new)) → Consumes a c (drop from (take (at + n) new))
read-more a b c from at n old new h within stays before read =
    subst (Consumes a c) (sym (part-grown from at n old new h within stays)) (Consumes-trans a b c _ _ before read)

-- what was written is a front of the bytes, where the rest is still to be written
pub front-of : (a b : Option (List ℕ)) (written rest bytes : List ℕ) → written ++ rest ≡ bytes → Appends a b written
    → (count : ℕ) × Appends a b (take count bytes)
front-of a b written rest bytes parted appended =
    (length written, subst (Appends a b) (sym (ap (take (length written)) (sym parted) ∙ take-append_seam written rest)) appended)
