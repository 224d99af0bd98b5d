-- Laws of events: an event that is known to a rule of k letters and is a letter is one of these.
use mathlib.Core.Path.{◌≡◌}
use Prim.Native.Nat.{ℕ, zero, suc, ◌+◌, ◌<◌}
use native.Mathlib.Omega.{arith}
use Rattle.meaning.specs.FullReading.{letter, event_of}

pub known-letter : (k e : ℕ) → e < k + 2 → (a : ℕ) → event_of e ≡ letter a → a < k
unfolding event_of
known-letter k zero known a is = let z : ◌≡◌ {A = ℕ} 0 1 = cc in absurd (omega arith)
known-letter k (suc zero) known a is = let z : ◌≡◌ {A = ℕ} 0 1 = cc in absurd (omega arith)
known-letter k (suc (suc b)) known a is = let same : b ≡ a = cc in omega arith
