-- Bytes without a line feed: two runs of them joined, and the digits of a number. Assumes nothing.
use mathlib.Core.Path.{◌≡◌, refl, ap}
use mathlib.Core.Bool.{true, not}
use mathlib.Core.List.{List, [], ◌∷◌, ◌++◌}
use Prim.Native.Nat.{ℕ}
use native.Mathlib.Omega.{arith}
use borrow.Author.Tests.{ne_eqb}
use lib.Dec.{eqb}
use Rattle.laws.proofs.OfTests.{both, both_hold}
use Rattle.ascii.specs.Ascii.{line_feed}
use Rattle.ascii.specs.Decimal.{decimal, is_digit, all_digits}
use Rattle.ascii.specs.Code.{feedless}
use Rattle.ascii.proofs.OfDecimal.{digit_bounds, all_digits_lem}

pub feedless_joined : (a b : List ℕ) → feedless a ≡ true → feedless b ≡ true → feedless (a ++ b) ≡ true
feedless_joined [] b p q = q
feedless_joined (x ∷ a) b p q =
    let w = both (not (eqb x line_feed)) (feedless a) p in
    both_hold (not (eqb x line_feed)) (feedless (a ++ b)) w.0 (feedless_joined a b w.1 q)

pub feedless_digits : (t : List ℕ) → all_digits t ≡ true → feedless t ≡ true
unfolding all_digits
feedless_digits [] h = refl
feedless_digits (b ∷ t) h =
    let w = both (is_digit b) (all_digits t) h in
    let d = digit_bounds b w.0 in
    let f : b ≡ line_feed → ⊥ = λ e. (omega arith) in
    both_hold (not (eqb b line_feed)) (feedless t) (ap not (ne_eqb b line_feed f)) (feedless_digits t w.1)

pub feedless_decimal : (n : ℕ) → feedless (decimal n) ≡ true
feedless_decimal n = feedless_digits (decimal n) (all_digits_lem n)
