-- What the checks of a record and of a table come to, test by test: whoever makes the same tests in the same order answers the
-- same.
use mathlib.Core.Path.{◌≡◌, ap, ◌∙◌}
use mathlib.Core.Bool.{Bool, true, false, not}
use mathlib.Core.List.{List}
use Prim.Native.Nat.{ℕ, suc, ◌+◌, ◌≤◌, ◌<◌}
use lib.ListN.{length, get_or, drop}
use lib.Seq.{drop-cons, drop-length}
use borrow.Author.Tests.{lt-ltb, le-ltb, eq-eqb, ne_eqb}
use Rattle.meaning.specs.Answers.{given, refused}
use Rattle.meaning.specs.RuleFile.{number2, number4, record_check, table_check, header_length}
use Rattle.meaning.proofs.laws.Answered.{refuse-passes, refuse-stops}

-- ---- a record

module _ (file : List ℕ) (place kind size : ℕ) where
  pub record-short : length file < place + header_length → record_check file place kind size ≡ refused 1 (length file)
  unfolding record_check
  record-short h = refuse-stops 1 (length file) _ (lt-ltb _ _ h)

  module _ (whole : place + header_length ≤ length file) where
    pub record-kind : (number2 file (place + 4) ≡ kind → ⊥) → record_check file place kind size ≡ refused 2 (place + 4)
    unfolding record_check
    record-kind g =
        refuse-passes 1 (length file) _ (le-ltb _ _ whole)
        ∙ refuse-stops 2 (place + 4) _ (ap not (ne_eqb _ _ g))

    module _ (right : number2 file (place + 4) ≡ kind) where
      pub record-length : (number4 file place ≡ size → ⊥) → record_check file place kind size ≡ refused 3 place
      unfolding record_check
      record-length g =
          refuse-passes 1 (length file) _ (le-ltb _ _ whole)
          ∙ refuse-passes 2 (place + 4) _ (ap not (eq-eqb _ _ right))
          ∙ refuse-stops 3 place _ (ap not (ne_eqb _ _ g))

      pub record-cut : number4 file place ≡ size → length file < place + header_length + size
          → record_check file place kind size ≡ refused 1 (length file)
      unfolding record_check
      record-cut long h =
          refuse-passes 1 (length file) _ (le-ltb _ _ whole)
          ∙ refuse-passes 2 (place + 4) _ (ap not (eq-eqb _ _ right))
          ∙ refuse-passes 3 place _ (ap not (eq-eqb _ _ long))
          ∙ refuse-stops 1 (length file) _ (lt-ltb _ _ h)

-- ---- a table, from its entry i on

module _ (good : ℕ → Bool) (place : ℕ) (xs : List ℕ) (i : ℕ) (inside : i < length xs) where
  pub table_on : good (get_or xs i 0) ≡ true → table_check good place (drop i xs) ≡ table_check good (suc place) (drop (suc i) xs)
  unfolding table_check
  table_on e = rw (drop-cons xs i 0 inside) (refuse-passes 4 place _ (ap not e))

  pub table-bad : good (get_or xs i 0) ≡ false → table_check good place (drop i xs) ≡ refused 4 place
  unfolding table_check
  table-bad e = rw (drop-cons xs i 0 inside) (refuse-stops 4 place _ (ap not e))

pub table-end : (good : ℕ → Bool) (place : ℕ) (xs : List ℕ) → table_check good place (drop (length xs) xs) ≡ given tt
unfolding table_check
table-end good place xs = rw drop-length
