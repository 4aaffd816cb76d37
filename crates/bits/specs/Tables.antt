-- A 32-bit word as a row of fields, and a table of the fields that make up a word: what the codec's formats are given by.
use Rattle.std.specs.Prelude.{ℕ, ◌+◌, ◌*◌, ◌%◌, ◌^◌, List, [], ◌∷◌, map, Bool, true, false, ◌&&◌, ltb, eqb}
use Rattle.bits.specs.declared.Bits.{Bits}
use Rattle.bits.specs.Fields.{field_of, width_of, value_in}

-- the low w bits of v, moved up to bit o; what passes bit 31 is lost
abbrev pub place_of : ℕ → ℕ → ℕ → ℕ
place_of v o w = v % 2 ^ w * 2 ^ o % 2 ^ 32

-- ---- rows of fields, given by their widths: the first starts at bit o, each other behind the one before

-- the bits that the row takes
abbrev pub total : List ℕ → ℕ
total [] = 0
total (w ∷ ws) = w + total ws

-- the values of the row's fields in n
abbrev pub split : ℕ → List ℕ → ℕ → List ℕ
split o [] n = []
split o (w ∷ ws) n = field_of n o w ∷ split (o + w) ws n

-- the word with the values vs, each cut to its width, in the row's fields
abbrev pub join : ℕ → List ℕ → List ℕ → ℕ
join o [] vs = 0
join o (w ∷ ws) [] = 0
join o (w ∷ ws) (v ∷ vs) = v % 2 ^ w * 2 ^ o + join (o + w) ws vs

-- a value for each width, and each within it
abbrev pub within : List ℕ → List ℕ → Bool
within [] [] = true
within [] (v ∷ vs) = false
within (w ∷ ws) [] = false
within (w ∷ ws) (v ∷ vs) = ltb v (2 ^ w) && within ws vs

-- ---- tables of fields, from bit 0 on

-- the values of a table's fields in n
abbrev pub fields_of : List Bits → ℕ → List ℕ
fields_of [] n = []
fields_of (f ∷ fs) n = value_in n f ∷ fields_of fs n

-- the word with the values vs, each cut to its width, in a table's fields
abbrev pub word_of : List Bits → List ℕ → ℕ
word_of fs vs = join 0 (map width_of fs) vs

-- a value for each of a table's fields, and each within its width
abbrev pub fits_table : List Bits → List ℕ → Bool
fits_table fs vs = within (map width_of fs) vs

-- the fields follow one another from bit o on, with no gap and no overlap, and end with bit 31
abbrev pub fills_word : ℕ → List Bits → Bool
fills_word o [] = eqb o 32
fills_word o (f ∷ fs) = eqb f.1 o && fills_word (o + width_of f) fs
