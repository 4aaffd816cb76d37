-- Texts as bytes: lines, keys, words and decimal numbers, as document 01 writes the card with them. Nothing here knows the card. The
-- bytes of a quoted text, and what digits stand for, are ascii's.
use Rattle.std.specs.Prelude.{ℕ, zero, suc, pred, ◌-◌, Bool, true, false, cond, not, ◌&&◌, Option, Some, None, option_map, List, [], ◌∷◌, eqb, leb, length, drop}
use Prim.Native.Char.{code}
use Prim.Native.String.{String}
pub use Rattle.ascii.specs.Ascii.{ascii as text, line_feed}
pub use Rattle.ascii.specs.Decimal.{is_digit}
unfoldable pub use Rattle.ascii.specs.Decimal.{all_digits, digits_value}

-- what is found is handed on; nothing found is nothing found
abbrev pub found : {A B : Type 0} → Option A → (A → Option B) → Option B
found None f = None
found (Some a) f = f a

-- ---- lines

-- the bytes before the first line feed; none where there is no line feed
unfoldable pub first_line : List ℕ → Option (List ℕ)
first_line [] = None
first_line (b ∷ s) = cond (eqb b line_feed) (Some []) (option_map (λ l. b ∷ l) (first_line s))

-- how many bytes stand before the first line feed; all where there is none
unfoldable pub line_end : List ℕ → ℕ
line_end [] = 0
line_end (b ∷ s) = cond (eqb b line_feed) 0 (suc (line_end s))

-- the bytes behind the first line feed
unfoldable pub behind_first : List ℕ → List ℕ
behind_first [] = []
behind_first (b ∷ s) = cond (eqb b line_feed) s (behind_first s)

-- the bytes behind n line feeds
unfoldable pub behind : ℕ → List ℕ → List ℕ
behind zero s = s
behind (suc n) s = behind_first (behind n s)

-- line n, counted from 1: the n-th stretch of bytes up to a line feed, without it; none where that line feed is missing
unfoldable pub line_of : ℕ → List ℕ → Option (List ℕ)
line_of n s = first_line (behind (pred n) s)

-- how many bytes the first n lines take, line feeds included
unfoldable pub lines_length : ℕ → List ℕ → ℕ
lines_length n s = length s - length (behind n s)

-- ---- keys and words

-- the text begins with the key
unfoldable pub begins_with : List ℕ → List ℕ → Bool
begins_with [] t = true
begins_with (k ∷ ks) [] = false
begins_with (k ∷ ks) (b ∷ t) = eqb b k && begins_with ks t

-- the two are the same bytes
unfoldable pub same_as : List ℕ → List ℕ → Bool
same_as [] [] = true
same_as [] (y ∷ ys) = false
same_as (x ∷ xs) [] = false
same_as (x ∷ xs) (y ∷ ys) = eqb x y && same_as xs ys

-- the value of a line key=value; none where the line doesn't begin so
unfoldable pub value_of : List ℕ → List ℕ → Option (List ℕ)
value_of key l = cond (begins_with key l) (Some (drop (length key) l)) None

-- the value of line n
unfoldable pub value_at : ℕ → List ℕ → List ℕ → Option (List ℕ)
value_at n key s = found (line_of n s) (value_of key)

-- what a word stands for, in a list of words
unfoldable pub word_in : {A : Type 0} → List (String × A) → List ℕ → Option A
word_in [] t = None
word_in (w ∷ ws) t = cond (same_as t (text w.0)) (Some w.1) (word_in ws t)

-- ---- decimal numbers

-- one digit, or several of which the first is not 0: neither sign nor leading zero, and not empty
unfoldable pub is_decimal : List ℕ → Bool
is_decimal [] = false
is_decimal (b ∷ []) = is_digit b
is_decimal (b ∷ c ∷ t) = not (eqb b (code "0")) && all_digits (b ∷ c ∷ t)

-- the number that a text is; none where it is not one
unfoldable pub number_of : List ℕ → Option ℕ
number_of t = cond (is_decimal t) (Some (digits_value t)) None

-- n is from low to high
infix 40 from◌to◌
abbrev pub from◌to◌ : ℕ → ℕ → ℕ → Bool
from◌to◌ low high n = leb low n && leb n high

-- the number that a text is, where the number is an allowed one
unfoldable pub number_in : (ℕ → Bool) → List ℕ → Option ℕ
number_in allowed t = found (number_of t) (λ n. cond (allowed n) (Some n) None)

-- any number of 32 bits
abbrev pub of_32_bits : ℕ → Bool
of_32_bits = from 0 to 4294967295
