-- What a step that is made again until it answers leaves, where one that fails leaves what it found.
use Rattle.std.proofs.Common.{List, [], ◌∷◌, Result, Err, subst}
use Rattle.std.specs.List.{FoldsTo}
use Rattle.rule_check.specs.Again.{MadeAgain}

after-tries : {S A E : Type 0} (Step : S → Result A E → S → Type 0) (Same : S → S → Type 0)
    → ((a b c : S) (e : E) → Same a b → Step b (Err e) c → Same a c)
    → (first old last : S) (errors : List E) → Same first old → FoldsTo (λ p e q. Step p (Err e) q) old errors last → Same first last
after-tries Step Same on first old last [] s f = subst (Same first) f s
after-tries Step Same on first old last (e ∷ errors) s f = after-tries Step Same on first f.0 last errors (on first old f.0 e s f.1) f.2

-- the step that answered began as the first did
pub last-step : {S A E : Type 0} {Step : S → Result A E → S → Type 0} {old : S} {r : Result A E} {new : S} (m : MadeAgain Step old r new)
    → (Same : S → S → Type 0) → ((s : S) → Same s s) → ((a b c : S) (e : E) → Same a b → Step b (Err e) c → Same a c) → Same old m.last
last-step {Step} {old} m Same same on = after-tries Step Same on old old m.last m.errors (same old) m.failed
