-- Laws of the three tables that a look may be in: the number of a refusal tells which of them had no move.
use mathlib.Core.Path.{◌≡◌, refl}
use native.Mathlib.Omega.{arith}
use Rattle.meaning.specs.FullReading.{Table, letter_table, start_table, tree_table, no_move_number}

-- no two tables have one number
pub number-tells : (table table' : Table) → no_move_number table ≡ no_move_number table' → table ≡ table'
unfolding no_move_number
number-tells letter_table letter_table e = refl
number-tells letter_table start_table e = absurd (omega arith)
number-tells letter_table tree_table e = absurd (omega arith)
number-tells start_table letter_table e = absurd (omega arith)
number-tells start_table start_table e = refl
number-tells start_table tree_table e = absurd (omega arith)
number-tells tree_table letter_table e = absurd (omega arith)
number-tells tree_table start_table e = absurd (omega arith)
number-tells tree_table tree_table e = refl
