-- Conditions one after the other, as the code looks at them and as a definition lists them: each is looked at only where those before
-- it have come to false.
use mathlib.Core.Path.{◌≡◌, refl}
use mathlib.Core.Bool.{Bool, true, false, ◌||◌}

-- ---- two conditions

-- the first one holds
pub or-holds : (a b : Bool) {v : Bool} → a ≡ true → v ≡ a → v ≡ (a || b)
or-holds true b is same = same
or-holds false b is same = cc

-- it does not: the second one decides
pub or-decides : (a b : Bool) {v : Bool} → a ≡ false → v ≡ b → v ≡ (a || b)
or-decides true b is same = cc
or-decides false b is same = same

-- ---- a third one, after what the first two come to

pub holds-first : (a b c : Bool) {v : Bool} → v ≡ (a || b) → v ≡ true → v ≡ (a || (b || c))
holds-first true b c said is = is
holds-first false true c said is = is
holds-first false false c said is = cc

pub decides-last : (a b c : Bool) {v : Bool} → v ≡ (a || b) → v ≡ false → {r : Bool} → r ≡ c → r ≡ (a || (b || c))
decides-last true b c said is same = cc
decides-last false true c said is same = cc
decides-last false false c said is same = same

-- ---- three and others, in one row

pub in-a-row : (a b c others : Bool) → ((a || (b || c)) || others) ≡ (a || (b || (c || others)))
in-a-row true b c others = refl
in-a-row false true c others = refl
in-a-row false false c others = refl
