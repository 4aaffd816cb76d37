-- Fields of a 32-bit word, and the value of one. Documents 01 and 002 give a field by the bits it takes, highest and lowest, as 28:26.
use Rattle.std.specs.Prelude.{ℕ, ◌+◌, ◌-◌, ◌/◌, ◌%◌, ◌^◌, min}
use Rattle.bits.specs.declared.Bits.{Bits}

-- the w bits of n from bit o on, the field's offset. A word has no bits behind bit 31: there a field reads 0, and one that runs past
-- bit 31 reads what lies before
abbrev pub field_of : ℕ → ℕ → ℕ → ℕ
field_of n o w = n / 2 ^ o % 2 ^ w

-- a field as the papers give it: the bits from the highest to the lowest, or one bit
abbrev pub bits : ℕ → ℕ → Bits
bits high low = record { 0 = high; 1 = low }

abbrev pub bit : ℕ → Bits
bit n = bits n n

-- how many bits that is; a word has 32
abbrev pub width_of : Bits → ℕ
width_of f = min (f.0 + 1 - f.1) 32

-- the value of a field in a word
abbrev pub value_in : ℕ → Bits → ℕ
value_in n f = field_of n f.1 (width_of f)
