-- What a step that is made again comes to.
use Rattle.std.specs.Prelude.{List, Result, Err}
use Rattle.std.specs.List.{FoldsTo}

-- the step was made until it answered r, and each time before it failed
pub record MadeAgain {S A E : Type 0} (Step : S → Result A E → S → Type 0) (old : S) (r : Result A E) (new : S) : Type 0 where
  pub errors : List E
  pub last : S
  pub failed : FoldsTo (λ p e q. Step p (Err e) q) old errors last
  pub answered : Step last r new
