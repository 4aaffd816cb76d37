-- Tests: joined by `&&` and `||`, taken apart by cases, and compared. Assumes nothing.
use mathlib.Core.Path.{◌≡◌, refl}
use mathlib.Core.Bool.{Bool, true, false, ◌&&◌, ◌||◌, and-eq-true_iff, or-true, true≢false}

-- both halves of a test hold, and the other way round
pub both : (a b : Bool) → a && b ≡ true → (a ≡ true) × (b ≡ true)
both a b = (and-eq-true_iff a b).0

pub both_hold : (a b : Bool) → a ≡ true → b ≡ true → a && b ≡ true
both_hold a b h k = (and-eq-true_iff a b).1 (h, k)

-- neither half of a test holds
pub neither : (a b : Bool) → a || b ≡ false → (a ≡ false) × (b ≡ false)
neither true b h = absurd (true≢false h)
neither false b h = (refl, h)

-- one half that holds is enough
pub or_right : (a b : Bool) → b ≡ true → a || b ≡ true
or_right a b h = rw (h, or-true)

-- it holds or not
pub by_test_lem : {P : Type 0} (t : Bool) → (t ≡ true → P) → (t ≡ false → P) → P
by_test_lem true f g = f refl
by_test_lem false f g = g refl

-- two tests are the same where the one holds if the other does, and fails if it fails
pub same_test : (t u : Bool) → (u ≡ true → t ≡ true) → (u ≡ false → t ≡ false) → t ≡ u
same_test t true f g = f refl
same_test t false f g = g refl
