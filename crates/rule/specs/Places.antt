-- Where the records of a rule file with n states and k letters stand, as the code counts it.
use Rattle.std.specs.Prelude.{ℕ, ◌*◌, ◌<◌, ◌^◌, ◌≡◌}
use Rattle.meaning.specs.RuleFile.{tree_record, class_record, file_length}
use Rattle.rule.specs.declared.layout.Layout.{Layout}

pub record IsLayout (n k : ℕ) (at : Layout) : Type 0 where
  pub letter_moves : at.letter_moves ≡ n * k
  pub tree_moves : at.tree_moves ≡ n * n
  pub tree_place : at.tree_record ≡ tree_record n k
  pub class_place : at.class_record ≡ class_record n k
  pub count : at.count ≡ file_length n k
  pub small : at.count < 2 ^ 40
