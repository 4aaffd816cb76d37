-- Worked examples, by computation, on the first pair of document 01's copy pack, 00000002 A0000000: an ALU clause opener.
use mathlib.Core.Path.{◌≡◌, refl}
use mathlib.Core.Bool.{true, false}
use mathlib.Core.List.{List, [], ◌∷◌, map}
use Rattle.bits.specs.declared.Bits.{Bits}
use Rattle.bits.specs.Fields.{field_of, bits, bit, width_of}
use Rattle.bits.specs.Tables.{place_of, join, within, fields_of, fills_word}
use Rattle.bits.specs.Code.{with_field}

-- its high word as document 01 lays it out: mode 1, two line addresses, COUNT, ALT_CONST, number, WHOLE_QUAD_MODE, BARRIER
opener_high : List Bits
opener_high = bits 1 0 ∷ bits 9 2 ∷ bits 17 10 ∷ bits 24 18 ∷ bit 25 ∷ bits 29 26 ∷ bit 30 ∷ bit 31 ∷ []

-- the table takes each bit once
filled : fills_word 0 opener_high ≡ true
unfolding opener_high
filled = refl

-- number 8, BARRIER 1, all else 0
values : fields_of opener_high 0xa000_0000 ≡ 0 ∷ 0 ∷ 0 ∷ 0 ∷ 0 ∷ 8 ∷ 0 ∷ 1 ∷ []
unfolding opener_high
values = refl

packed : join 0 (map width_of opener_high) (0 ∷ 0 ∷ 0 ∷ 0 ∷ 0 ∷ 8 ∷ 0 ∷ 1 ∷ []) ≡ 0xa000_0000
unfolding opener_high
packed = refl

-- a COUNT of 128 is not within seven bits
too_wide : within (map width_of opener_high) (0 ∷ 0 ∷ 0 ∷ 128 ∷ 0 ∷ 8 ∷ 0 ∷ 1 ∷ []) ≡ false
unfolding opener_high
too_wide = refl

-- COUNT set to 1, as in the paper's A0040000
count_set : with_field 0xa000_0000 18 7 1 ≡ 0xa004_0000
count_set = refl

-- behind bit 31: a field reads 0, a placed value is lost, a set field leaves the word as it is
behind_read : field_of 0xffff_ffff 32 4 ≡ 0
behind_read = refl

behind_placed : place_of 15 32 4 ≡ 0
behind_placed = refl

behind_set : with_field 0xa000_0000 40 4 15 ≡ 0xa000_0000
behind_set = refl

-- across bit 31: what lies in the word
across_read : field_of 0xffff_ffff 28 8 ≡ 15
across_read = refl

across_set : with_field 0 28 8 0xff ≡ 0xf000_0000
across_set = refl
