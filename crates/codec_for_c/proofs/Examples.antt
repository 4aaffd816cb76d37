-- Decoder and encoder on document 01's copy pack, by computation: values field by field, each number, and what stays as it was.
use mathlib.Core.Path.{◌≡◌, refl}
use mathlib.Core.List.{List, [], ◌∷◌, ◌++◌}
use Prim.Native.Nat.{ℕ}
use lib.ListN.{replicate}
use Rattle.opcodes.specs.Numbers.{cf_alu_control, cf_control, cf_alu, cf}
use Rattle.opcodes.specs.Alu.{op2_class, op3_class, op2, op3}
use Rattle.formats.specs.Alu as alu
use Rattle.codec_for_c.specs.Values.{record_of, decoded_number, decoded_values, encoded_number, encoded_words}

copy : List ℕ
copy = 0x0000_0002 ∷ 0xa000_0000 ∷ 0x0000_0000 ∷ 0x0020_0000 ∷ 0x8000_0000 ∷ 0x0020_0c90 ∷ []

sevens : List ℕ
sevens = replicate 33 7

-- ALU of one slot at quadword 2: form 0, ADDR 2, number 8, BARRIER; twenty elements stay
opener : (decoded_number 0 copy 0 sevens ≡ 0) × (decoded_values 0 copy 0 sevens ≡ (0 ∷ 2 ∷ 0 ∷ 0 ∷ 0 ∷ 0 ∷ 0 ∷ 0 ∷ 0 ∷ 0 ∷ 8 ∷ 0 ∷ 1 ∷ []) ++ replicate 20 7)
unfolding copy sevens cf_alu_control cf_control cf_alu cf
opener = (refl, refl)

-- MOV of register 0 to register 1: form 3, LAST, WRITE_MASK, number 25, DST_GPR 1; nine elements stay
mov : List ℕ
mov = 3 ∷ 0 ∷ 0 ∷ 0 ∷ 0 ∷ 0 ∷ 0 ∷ 0 ∷ 0 ∷ 0 ∷ 0 ∷ 1 ∷ 0 ∷ 0 ∷ 0 ∷ 0 ∷ 1 ∷ 0 ∷ 25 ∷ 0 ∷ 1 ∷ 0 ∷ 0 ∷ 0 ∷ []

mov_decoded : (decoded_number 1 copy 4 sevens ≡ 0) × (decoded_values 1 copy 4 sevens ≡ mov ++ replicate 9 7)
unfolding copy sevens mov op2_class op3_class op2 op3
mov_decoded = (refl, refl)

-- a pair that isn't wholly in the words: 2, also where there is no room for values; else 20 where there is none
refused : (decoded_number 1 copy 5 [] ≡ 2) × (decoded_number 1 copy 4 (replicate 31 7) ≡ 20) × (decoded_values 1 copy 4 (replicate 31 7) ≡ replicate 31 7)
unfolding copy op2_class op3_class op2 op3
refused = (refl, refl, refl)

-- stream 2 is none: 21, before all others
no_stream : (decoded_number 2 copy 4 sevens ≡ 21) × (decoded_number 2 copy 5 [] ≡ 21) × (decoded_values 2 copy 4 sevens ≡ sevens)
no_stream = (refl, refl, refl)

mov_row : List ℕ
mov_row = mov ++ replicate 8 7

-- the MOV written behind the first of three words; at 2 it has no room
mov_encoded : (encoded_number mov_row (7 ∷ 7 ∷ 7 ∷ []) 1 ≡ 0) × (encoded_words mov_row (7 ∷ 7 ∷ 7 ∷ []) 1 ≡ 7 ∷ 0x8000_0000 ∷ 0x0020_0c90 ∷ []) × (encoded_number mov_row (7 ∷ 7 ∷ 7 ∷ []) 2 ≡ 20) × (encoded_words mov_row (7 ∷ 7 ∷ 7 ∷ []) 2 ≡ 7 ∷ 7 ∷ 7 ∷ [])
unfolding mov mov_row record_of op2_class op3_class op2 op3 alu.word0_table alu.op2_table
mov_encoded = (refl, refl, refl, refl)

-- 21, before 20: SRC0_SEL of ten bits, form 5, 31 values
not_encoded : (encoded_number (3 ∷ 512 ∷ replicate 30 0) [] 0 ≡ 21) × (encoded_number (5 ∷ replicate 31 0) [] 0 ≡ 21) × (encoded_number (replicate 31 0) [] 0 ≡ 21)
unfolding record_of op2_class op3_class op2 op3 alu.word0_table alu.op2_table
not_encoded = (refl, refl, refl)
