-- A number in decimal has the usual meaning: its digits stand for it, and none of them is a leading zero. Assumes nothing.
use mathlib.Core.Path.{◌≡◌, refl, sym, ap, ap₂, subst, ◌∙◌}
use mathlib.Core.Bool.{true}
use mathlib.Core.List.{List, [], ◌∷◌, ◌++◌}
use Prim.Native.Nat.{ℕ, zero, suc, ◌+◌, ◌*◌, ◌-◌, ◌/◌, ◌%◌, ◌^◌, ◌≤◌, ◌<◌}
use Prim.Native.Char.{code}
use native.Mathlib.Nat.{add-mul, mul_assoc, add_assoc, pow-suc, div-lt_iff_lt-mul, lt_of_lt_of_le}
use native.Mathlib.Omega.{arith}
use borrow.Author.Tests.{le-leb, leb-true, lt-ltb, le-ltb, ltb-true, ltb-false}
use lib.Dec.{leb, ltb, lit≤}
use lib.ListN.{length, get_or, length-append, get_or-append}
use Rattle.laws.proofs.OfTests.{both, both_hold, by_test_lem}
use Rattle.ascii.specs.Ascii.{ascii}
use Rattle.ascii.specs.Decimal.{digit_of, decimal_within, decimal, is_digit, all_digits, digits_value}

-- ---- the definition without its bound

-- below 10 or not
pub by_digit : {P : Type 0} (n : ℕ) → (n < 10 → P) → (10 ≤ n → P) → P
by_digit n f g = by_test_lem (ltb n 10) (λ e. f (ltb-true n 10 e)) (λ e. g (ltb-false n 10 e))

within_small : (most n : ℕ) → n < 10 → decimal_within (suc most) n ≡ digit_of n ∷ []
unfolding decimal_within
within_small most n h = rw (lt-ltb n 10 h, decimal_within)

within_large : (most n : ℕ) → 10 ≤ n → decimal_within (suc most) n ≡ decimal_within most (n / 10) ++ (digit_of (n % 10) ∷ [])
unfolding decimal_within
within_large most n h = rw (le-ltb n 10 h, decimal_within)

-- any bound above the number is enough
enough : (a b n : ℕ) → n < a → n < b → decimal_within a n ≡ decimal_within b n
enough zero b n h k = absurd (omega arith)
enough (suc a) zero n h k = absurd (omega arith)
enough (suc a) (suc b) n h k =
    by_digit n
    (λ l. within_small a n l ∙ sym (within_small b n l))
    (λ g.
    within_large a n g
    ∙ ap (λ (ds : List ℕ). ds ++ (digit_of (n % 10) ∷ [])) (enough a b (n / 10) (omega arith) (omega arith))
    ∙ sym (within_large b n g))

pub below_10 : (n : ℕ) → n < 10 → decimal n ≡ digit_of n ∷ []
unfolding decimal
below_10 n h = within_small n n h

pub from_10 : (n : ℕ) → 10 ≤ n → decimal n ≡ decimal (n / 10) ++ (digit_of (n % 10) ∷ [])
unfolding decimal
from_10 n h =
    within_large n n h
    ∙ ap (λ (ds : List ℕ). ds ++ (digit_of (n % 10) ∷ [])) (enough n (suc (n / 10)) (n / 10) (omega arith) (omega arith))

-- so what holds of one digit, and of a number once it holds without its last digit, holds of every number
pub by_digits : (P : ℕ → Type 0) → ((n : ℕ) → n < 10 → P n) → ((n : ℕ) → 10 ≤ n → P (n / 10) → P n) → (n : ℕ) → P n
by_digits P one more n = go (suc n) n (omega arith)
  where
    go : (most n : ℕ) → n < most → P n
    go zero n h = absurd (omega arith)
    go (suc most) n h = by_digit n (one n) (λ l. more n l (go most (n / 10) (omega arith)))

-- ---- each byte is a digit

pub digit_bounds : (b : ℕ) → is_digit b ≡ true → (48 ≤ b) × (b ≤ 57)
digit_bounds b h =
    let w = both (leb 48 b) (leb b 57) h in
    (leb-true 48 b w.0, leb-true b 57 w.1)

pub is_digit_lem : (b : ℕ) → 48 ≤ b → b ≤ 57 → is_digit b ≡ true
is_digit_lem b l h = both_hold (leb 48 b) (leb b 57) (le-leb 48 b l) (le-leb b 57 h)

pub digits_end : (u : List ℕ) (b : ℕ) → all_digits u ≡ true → is_digit b ≡ true → all_digits (u ++ (b ∷ [])) ≡ true
unfolding all_digits
digits_end [] b h d = both_hold (is_digit b) true d refl
digits_end (x ∷ u) b h d =
    let w = both (is_digit x) (all_digits u) h in
    both_hold (is_digit x) (all_digits (u ++ (b ∷ []))) w.0 (digits_end u b w.1 d)

pub all_digits_lem : (n : ℕ) → all_digits (decimal n) ≡ true
unfolding all_digits
all_digits_lem = by_digits (λ n. all_digits (decimal n) ≡ true) one more
  where
    one : (n : ℕ) → n < 10 → all_digits (decimal n) ≡ true
    one n h = ap all_digits (below_10 n h) ∙ both_hold (is_digit (digit_of n)) true (is_digit_lem (digit_of n) (omega arith) (omega arith)) refl

    more : (n : ℕ) → 10 ≤ n → all_digits (decimal (n / 10)) ≡ true → all_digits (decimal n) ≡ true
    more n h e =
        ap all_digits (from_10 n h)
        ∙ digits_end (decimal (n / 10)) (digit_of (n % 10)) e (is_digit_lem (digit_of (n % 10)) (omega arith) (omega arith))

-- ---- together they stand for the number

pub value_end : (u : List ℕ) (b : ℕ) → digits_value (u ++ (b ∷ [])) ≡ digits_value u * 10 + (b - 48)
unfolding digits_value
value_end [] b = omega arith
value_end (x ∷ u) b =
    let d = x - 48 in
    let v = digits_value u in
    let p = 10 ^ length u in
    let l : length (u ++ (b ∷ [])) ≡ suc (length u) = omega (arith, length-append u (b ∷ [])) in
    ap₂ (λ (n m : ℕ). d * 10 ^ n + m) l (value_end u b)
    ∙ ap (λ (n : ℕ). d * n + (v * 10 + (b - 48))) (pow-suc 10 (length u))
    ∙ ap (λ (n : ℕ). n + (v * 10 + (b - 48))) (sym (mul_assoc d p 10))
    ∙ sym (add_assoc (d * p * 10) (v * 10) (b - 48))
    ∙ ap (λ (n : ℕ). n + (b - 48)) (sym (add-mul (d * p) v 10))

pub read_back : (n : ℕ) → digits_value (decimal n) ≡ n
unfolding digits_value
read_back = by_digits (λ n. digits_value (decimal n) ≡ n) one more
  where
    one : (n : ℕ) → n < 10 → digits_value (decimal n) ≡ n
    one n h = ap digits_value (below_10 n h) ∙ omega arith

    more : (n : ℕ) → 10 ≤ n → digits_value (decimal (n / 10)) ≡ n / 10 → digits_value (decimal n) ≡ n
    more n h e =
        ap digits_value (from_10 n h)
        ∙ value_end (decimal (n / 10)) (digit_of (n % 10))
        ∙ ap (λ (m : ℕ). m * 10 + (digit_of (n % 10) - 48)) e
        ∙ omega arith

-- ---- no leading zero

-- 0 is one digit
pub of_zero : decimal 0 ≡ ascii "0"
of_zero = below_10 0 (omega arith)

-- there is at least one digit
pub some_digit : (n : ℕ) → 0 < length (decimal n)
some_digit n =
    by_digit n (λ h. omega (arith, ap length (below_10 n h)))
    (λ h. omega (arith, ap length (from_10 n h), length-append (decimal (n / 10)) (digit_of (n % 10) ∷ [])))

-- and the first is "0" only of the number 0
pub no_leading_zero : (n : ℕ) → get_or (decimal n) 0 0 ≡ code "0" → n ≡ 0
no_leading_zero = by_digits (λ n. get_or (decimal n) 0 0 ≡ code "0" → n ≡ 0) one more
  where
    one : (n : ℕ) → n < 10 → get_or (decimal n) 0 0 ≡ code "0" → n ≡ 0
    one n h e = omega (arith, sym (ap (λ (ds : List ℕ). get_or ds 0 0) (below_10 n h)) ∙ e)

    more : (n : ℕ) → 10 ≤ n → (get_or (decimal (n / 10)) 0 0 ≡ code "0" → n / 10 ≡ 0) → get_or (decimal n) 0 0 ≡ code "0" → n ≡ 0
    more n h f e =
        omega (
          arith,
          f
              (sym (get_or-append (decimal (n / 10)) (digit_of (n % 10) ∷ []) 0 0 (some_digit (n / 10)))
              ∙ sym (ap (λ (ds : List ℕ). get_or ds 0 0) (from_10 n h))
              ∙ e),
        )

-- ---- how many digits

pub fewer_digits : (k n : ℕ) → n < 10 ^ suc k → length (decimal n) ≤ suc k
fewer_digits zero n h = omega (arith, ap length (below_10 n h))
fewer_digits (suc k) n h =
    by_digit n (λ l. omega (arith, ap length (below_10 n l)))
    (λ l.
    omega (
      arith,
      ap length (from_10 n l),
      length-append (decimal (n / 10)) (digit_of (n % 10) ∷ []),
      fewer_digits k (n / 10) ((div-lt_iff_lt-mul {k = 10} (omega arith)).1 (subst (λ (m : ℕ). n < m) (pow-suc 10 (suc k)) h)),
    ))

-- a number of 64 bits has 20 digits at most
pub at_most_20_digits : (n : ℕ) → n < 2 ^ 64 → length (decimal n) ≤ 20
at_most_20_digits n h = fewer_digits 19 n (lt_of_lt_of_le h (lit≤ tt))
