-- Bytes as words, and words as bytes: document 01, "What the judge reads". Words are 32 bits, little-endian in files.
use Rattle.std.specs.Prelude.{ℕ, ◌+◌, ◌*◌, ◌/◌, ◌%◌, min, List, [], ◌∷◌, ◌++◌, length, get_or, take, drop}

-- four bytes as a word, the lowest first
abbrev pub little_endian : ℕ → ℕ → ℕ → ℕ → ℕ
little_endian a b c d = a + b * 256 + c * 65536 + d * 16777216

-- the whole words of some bytes; fewer than four bytes left over are no word
unfoldable pub words_in : List ℕ → List ℕ
words_in [] = []
words_in (a ∷ []) = []
words_in (a ∷ b ∷ []) = []
words_in (a ∷ b ∷ c ∷ []) = []
words_in (a ∷ b ∷ c ∷ d ∷ s) = little_endian a b c d ∷ words_in s

-- a word as four bytes, the lowest first
abbrev pub word_bytes : ℕ → List ℕ
word_bytes w = w % 256 ∷ w / 256 % 256 ∷ w / 256 / 256 % 256 ∷ w / 256 / 256 / 256 % 256 ∷ []

-- the bytes of some words
unfoldable pub bytes_of : List ℕ → List ℕ
bytes_of [] = []
bytes_of (w ∷ ws) = word_bytes w ++ bytes_of ws

-- the same over the beginning of some bytes, of as many words as have room there
abbrev pub stored_in : List ℕ → List ℕ → List ℕ
stored_in words bytes = let n = min (length words) (length bytes / 4) in bytes_of (take n words) ++ drop (n * 4) bytes

-- ---- a step of the way there

-- the word whose lowest byte stands at a place
unfoldable pub word_at : List ℕ → ℕ → ℕ
word_at s at = little_endian (get_or s at 0) (get_or s (at + 1) 0) (get_or s (at + 2) 0) (get_or s (at + 3) 0)
