-- Worked instructions, by computation. The first two are those of document 01's copy and branch packs.
use mathlib.Core.Path.{◌≡◌, refl}
use mathlib.Core.Bool.{true, false}
use mathlib.Core.List.{[], ◌∷◌}
use Rattle.opcodes.specs.Alu.{op2, op3, op2_class, op3_class}
use Rattle.grants.specs.Grants.{alu_register, set0, set1, constant}
use Rattle.instructions.specs.Instruction.{is_op3, class_of, bad_number, is_relative, source_literals, literals, bad_source, bad_field, has_relative, is_written, destination_names, names_of, named}

-- MOV R1.x, R0.x: destination, source 0, and the unread source 1, which is R0 too
copy_names : named 0x8000_0000 0x0020_0c90 ≡ alu_register 1 ∷ alu_register 0 ∷ alu_register 0 ∷ []
unfolding named destination_names is_written is_op3 names_of is_relative
copy_names = refl

-- PRED_SETE R0.x, 0.0 without WRITE_MASK: no destination; 248 names nothing
branch_names : named 0x801f_0000 0x0000_100c ≡ alu_register 0 ∷ []
unfolding named destination_names is_written is_op3 names_of is_relative
branch_names = refl

-- MULADD R2.y of constants 256, 128 and 160: c0 and the first of both sets; an OP3 writes its destination
three_names : named 0x0010_0100 0x2042_00a0 ≡ alu_register 2 ∷ constant 0 ∷ set0 0 ∷ set1 0 ∷ []
unfolding named destination_names is_written is_op3 names_of is_relative
three_names = refl

-- a relative source names nothing
relative_names : named 0x0000_0205 0x0000_0c80 ≡ alu_register 0 ∷ []
unfolding named destination_names is_written is_op3 names_of is_relative
relative_names = refl

-- 11: OP2 numbers 25 and 26
numbers : (bad_number 0x0000_0c80 ≡ false) × (bad_number 0x0000_0d00 ≡ true)
unfolding bad_number class_of is_op3 op2_class op3_class op2 op3
numbers = (refl, refl)

-- 12: PRED_SEL 1; INDEX_MODE 5; bank swizzle 6; source 192; source 247; source 253 relative; source 2 of an OP3 in 200
fields : (bad_field 0x2000_0000 0 ≡ true) × (bad_field 0x1400_0000 0 ≡ true) × (bad_field 0 0x0018_0000 ≡ true) × (bad_field 0xc0 0 ≡ true) × (bad_field 0x1e_e000 0 ≡ true) × (bad_field 0x2fd 0 ≡ true) × (bad_field 0 0x0002_00c8 ≡ true)
unfolding bad_field bad_source is_relative is_op3
fields = (refl, refl, refl, refl, refl, refl, refl)

-- and what just passes: PRED_SEL 2, INDEX_MODE 4, bank swizzle 5, sources 191 and 248; a relative constant
good_fields : (bad_field 0x4000_0000 0 ≡ false) × (bad_field 0x1000_0000 0 ≡ false) × (bad_field 0 0x0014_0000 ≡ false) × (bad_field 0x1f_00bf 0 ≡ false) × (bad_field 0x300 0 ≡ false)
unfolding bad_field bad_source is_relative is_op3
good_fields = (refl, refl, refl, refl, refl)

-- literals: channel X, channel Y, channel Z of source 0; channel W of an OP3's source 2; the same bits in an OP2 are no source
literal_quadwords : (literals 0 0 ≡ 0) × (literals 0x0fd 0 ≡ 1) × (literals 0x4fd 0 ≡ 1) × (literals 0x8fd 0 ≡ 2) × (literals 0x0fd 0x0002_0cfd ≡ 2) × (literals 0x0fd 0x0000_0cfd ≡ 1)
unfolding literals source_literals is_op3
literal_quadwords = (refl, refl, refl, refl, refl, refl)

-- a relative destination, read or not; a relative source 1
relatives : (has_relative 0 0x1000_0000 ≡ true) × (has_relative 0x40_0000 0 ≡ true) × (has_relative 0 0 ≡ false)
unfolding has_relative is_relative is_op3
relatives = (refl, refl, refl)
