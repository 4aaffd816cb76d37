-- Numbers in decimal, as bytes: the digits of a number, and the number that digits stand for.
use Rattle.std.specs.Prelude.{ℕ, zero, suc, ◌+◌, ◌-◌, ◌*◌, ◌/◌, ◌%◌, ◌^◌, Bool, true, false, ◌&&◌, List, [], ◌∷◌, ◌++◌, leb, ltb, length}
use Prim.Native.Char.{code}

-- ---- the digits of a number

-- the byte of a digit
abbrev pub digit_of : ℕ → ℕ
digit_of d = code "0" + d

-- below 10 its one digit, else the number without its last digit, and behind it that digit. The first argument bounds the number of
-- digits, for the recursion's sake: `decimal` gives it more than there are
unfoldable pub decimal_within : ℕ → ℕ → List ℕ
decimal_within zero n = []
decimal_within (suc most) n = elim (ltb n 10) [ true ↦ digit_of n ∷ [] | false ↦ decimal_within most (n / 10) ++ (digit_of (n % 10) ∷ []) ]

unfoldable pub decimal : ℕ → List ℕ
decimal n = decimal_within (suc n) n

-- ---- the number that digits stand for

abbrev pub is_digit : ℕ → Bool
is_digit b = leb (code "0") b && leb b (code "9")

unfoldable pub all_digits : List ℕ → Bool
all_digits [] = true
all_digits (b ∷ t) = is_digit b && all_digits t

-- each counts ten to the power of the digits behind it
unfoldable pub digits_value : List ℕ → ℕ
digits_value [] = 0
digits_value (b ∷ t) = (b - code "0") * 10 ^ length t + digits_value t
