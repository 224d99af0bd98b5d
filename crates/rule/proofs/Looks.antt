-- The bytes that the tables are read at are the moves and the classes of an accepted file's rule: a table is a part of the
-- file, and an entry of a part stands in the file at the part's place and on.
use Rattle.std.proofs.Common.{if◌then◌else◌}
use mathlib.Core.Path.{◌≡◌, refl, sym, ap, ◌∙◌}
use mathlib.Core.Bool.{Bool, true, false}
use mathlib.Core.List.{List}
use Prim.Native.Nat.{ℕ, ◌+◌, ◌*◌, ◌<◌}
use native.Mathlib.Omega.{arith}
use lib.ListN.{length, get_or}
use lib.Seq.{get_or-take, get_or-drop}
use Rattle.std.proofs.lemmas.List.{get_or_default}
use Rattle.std.proofs.lemmas.Nat.{mul-add-lt}
use Rattle.meaning.specs.Answers.{given, ◌=?◌}
use Rattle.meaning.specs.RuleFile.{Rule, to, no_move, none, part, check_rule, as_move, letter_move, tree_move, class_of}
use Rattle.meaning.proofs.rulefile.Accepted.{accepted-is-rule, letter-part, tree-part, class-part}
use Rattle.rule.specs.declared.tables.Table.{Table}
use Rattle.std.specs.Prelude.{Ok, Err}
use Rattle.rule.specs.Tables.{letter_byte, tree_byte, class_byte, move_says, move_in}

-- inside a list the default does not matter
pub get_or-inside : {A : Type 0} (l : List A) (i : ℕ) (d e : A) → i < length l → get_or l i d ≡ get_or l i e
get_or-inside l i d e h = get_or_default l i d e h

part_at : (file : List ℕ) (place size i d : ℕ) → i < size → get_or (part file place size) i d ≡ get_or file (place + i) d
unfolding part
part_at file place size i d h = rw (get_or-take, get_or-drop)

-- what is found at a byte is the move that the byte is
pub found-is : (table : Table) (byte : ℕ) → move_says (move_in table byte) ≡ as_move byte
unfolding move_in move_says as_move
found-is table byte = go (byte =? none)
  where
    go : (is_none : Bool) → move_says (if is_none then (Err table) else (Ok byte)) ≡ if is_none then no_move else (to byte)
    go true = refl
    go false = refl

module _ (file : List ℕ) {R : Rule} (accepted : check_rule file ≡ given R) where
  pub letter-look : (q a : ℕ) → q < R.states → a < R.letters
      → as_move (letter_byte file R.letters q a) ≡ letter_move R q a
  unfolding letter_byte letter_move
  letter-look q a hq ha =
      ap as_move
      (sym (ap (λ (l : List ℕ). get_or l (q * R.letters + a) none) (letter-part file accepted)
      ∙ part_at file _ _ _ none (omega (arith, mul-add-lt q R.letters a R.states hq ha))))

  pub tree-look : (u q : ℕ) → u < R.states → q < R.states
      → as_move (tree_byte file R.states R.letters u q) ≡ tree_move R u q
  unfolding tree_byte tree_move
  tree-look u q hu hq =
      ap as_move
      (sym (ap (λ (l : List ℕ). get_or l (u * R.states + q) none) (tree-part file accepted)
      ∙ part_at file _ _ _ none (mul-add-lt u R.states q R.states hu hq)))

  pub class-look : (q : ℕ) → q < R.states → class_byte file R.states R.letters q ≡ class_of R q
  unfolding class_byte class_of
  class-look q hq =
      sym (get_or-inside R.classes q 0 none (omega (arith, (accepted-is-rule file accepted).class_length))
      ∙ ap (λ (l : List ℕ). get_or l q none) (class-part file accepted)
      ∙ part_at file _ _ _ none hq)
