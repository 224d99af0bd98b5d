-- What a failure leaves.
use Rattle.std.specs.Prelude.{List, ℕ, take, Result, OnErr}
use Rattle.std.specs.declared.option.Option.{Option}
use Rattle.std.specs.Io.KnownBytes.{Keeps, Appends, Consumes}
use Rattle.rule_check.specs.declared.failure.Failure.{Failure}
use Rattle.rule_check.specs.declared.failure.Failure.TheVariants.{Input, Output}

-- where the input could not be read nothing is written, and where the answer could not be written a front of it is
abbrev pub LeftBy : (List ℕ → Type 0) → Option (List ℕ) → Option (List ℕ) → Failure → Type 0
LeftBy IsAnswer old new (Input e) = Keeps old new
LeftBy IsAnswer old new (Output e) = (answer : List ℕ) × IsAnswer answer × ((count : ℕ) × Appends old new (take count answer))

-- where a call failed, some bytes may be gone from what the reader had
abbrev pub LostSome : {A E : Type 0} → Option (List ℕ) → Option (List ℕ) → Result A E → Type 0
LostSome old new result = OnErr result ((bytes : List ℕ) × Consumes old new bytes)
