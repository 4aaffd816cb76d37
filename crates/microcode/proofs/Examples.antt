-- Worked pairs, by computation: all of document 01's copy, branch and loop packs, an export, an OP3, and what is refused. A pair is
-- shown as its form and the values of its fields, low word first, each word in the order of its table.
use mathlib.Core.Bool.{false}
use mathlib.Core.Path.{◌≡◌, refl}
use mathlib.Core.List.{List, [], ◌∷◌}
use Prim.Native.Nat.{ℕ}
use Prim.Native.String.{String}
use Rattle.units.specs.Units.{words, quadwords}
use Rattle.checks.specs.Verdict.{verdict_number}
use Rattle.opcodes.specs.Numbers.{cf_alu, cf, cf_alu_control, cf_control}
use Rattle.opcodes.specs.Alu.{op2, op3, op2_class, op3_class}
use Rattle.microcode.specs.declared.Instruction.{Instruction}
use Rattle.microcode.specs.declared.Instruction.TheVariants.{CfAlu, Cf, Export, Op2, Op3}
use Rattle.std.specs.Prelude.{Ok, Err}
use Rattle.microcode.specs.declared.DecodeError.TheVariants.{Outside, NotTaken}
use Rattle.microcode.specs.declared.EncodeError.TheVariants.{NoRecord, NoRoom}
use Rattle.microcode.specs.Answer.{Decoded, Done}
use Rattle.microcode.specs.declared.Stream.{Stream}
use Rattle.microcode.specs.declared.Stream.TheVariants.{ControlFlow, Alu}
use Rattle.formats.specs.Cf as cfFormat
use Rattle.formats.specs.CfAlu as cfAluFormat
use Rattle.formats.specs.Export as exportFormat
use Rattle.formats.specs.Alu as aluFormat
use Rattle.microcode.specs.Pair.{cf_pair_of, alu_pair_of, encodable}
use Rattle.microcode.specs.Buffer.{decode_of, decoded_verdict, encode_answer, encode_words}

pub record Shown : Type 0 where
  pub form : String
  pub low : List ℕ
  pub high : List ℕ

abbrev pair : String → List ℕ → List ℕ → Shown
pair f l h = record { form = f; low = l; high = h }

abbrev of_instruction : Instruction → Shown
of_instruction (CfAlu a b) = pair "CF_ALU" (cfAluFormat.word0_values a) (cfAluFormat.word1_values b)
of_instruction (Cf a b) = pair "CF" (cfFormat.word0_values a) (cfFormat.word1_values b)
of_instruction (Export a b) = pair "export" (exportFormat.word0_values a) (exportFormat.word1_values b)
of_instruction (Op2 a b) = pair "OP2" (aluFormat.word0_values a) (aluFormat.op2_values b)
of_instruction (Op3 a b) = pair "OP3" (aluFormat.word0_values a) (aluFormat.op3_values b)

-- a refusal is shown by its number
abbrev refusal : ℕ → Shown
refusal n = pair "refused" (n ∷ []) []

abbrev shown : Stream → Decoded → Shown
shown s (Err Outside) = refusal (verdict_number (decoded_verdict s (Err Outside)))
shown s (Err NotTaken) = refusal (verdict_number (decoded_verdict s (Err NotTaken)))
shown s (Ok i) = of_instruction i

-- ---- the copy pack

-- ALU at quadword 2, one slot, BARRIER
copy_0 : shown ControlFlow (cf_pair_of 0x0000_0002 0xa000_0000) ≡ pair "CF_ALU" (2 ∷ 0 ∷ 0 ∷ 0 ∷ []) (0 ∷ 0 ∷ 0 ∷ 0 ∷ 0 ∷ 8 ∷ 0 ∷ 1 ∷ [])
unfolding cf_alu_control cf_control cf_alu cf
copy_0 = refl

-- NOP with the end bit
copy_1 : shown ControlFlow (cf_pair_of 0x0000_0000 0x0020_0000) ≡ pair "CF" (0 ∷ []) (0 ∷ 0 ∷ 0 ∷ 0 ∷ 0 ∷ 0 ∷ 0 ∷ 1 ∷ 0 ∷ 0 ∷ 0 ∷ 0 ∷ [])
unfolding cf_alu_control cf_control cf_alu cf
copy_1 = refl

-- MOV R1.x, R0.x, the last of its group
copy_2 : shown Alu (alu_pair_of 0x8000_0000 0x0020_0c90) ≡ pair "OP2" (0 ∷ 0 ∷ 0 ∷ 0 ∷ 0 ∷ 0 ∷ 0 ∷ 0 ∷ 0 ∷ 0 ∷ 1 ∷ []) (0 ∷ 0 ∷ 0 ∷ 0 ∷ 1 ∷ 0 ∷ 25 ∷ 0 ∷ 1 ∷ 0 ∷ 0 ∷ 0 ∷ [])
unfolding op2_class op3_class op2 op3
copy_2 = refl

-- ---- the branch pack

-- PUSH_BEFORE at quadword 4, one slot
branch_0 : shown ControlFlow (cf_pair_of 0x0000_0004 0x2400_0000) ≡ pair "CF_ALU" (4 ∷ 0 ∷ 0 ∷ 0 ∷ []) (0 ∷ 0 ∷ 0 ∷ 0 ∷ 0 ∷ 9 ∷ 0 ∷ 0 ∷ [])
unfolding cf_alu_control cf_control cf_alu cf
branch_0 = refl

-- JUMP to 3, POP_COUNT 1
branch_1 : shown ControlFlow (cf_pair_of 0x0000_0003 0x0500_0001) ≡ pair "CF" (3 ∷ []) (1 ∷ 0 ∷ 0 ∷ 0 ∷ 0 ∷ 0 ∷ 0 ∷ 0 ∷ 0 ∷ 10 ∷ 0 ∷ 0 ∷ [])
unfolding cf_alu_control cf_control cf_alu cf
branch_1 = refl

-- POP of one, to 3
branch_2 : shown ControlFlow (cf_pair_of 0x0000_0003 0x0700_0001) ≡ pair "CF" (3 ∷ []) (1 ∷ 0 ∷ 0 ∷ 0 ∷ 0 ∷ 0 ∷ 0 ∷ 0 ∷ 0 ∷ 14 ∷ 0 ∷ 0 ∷ [])
unfolding cf_alu_control cf_control cf_alu cf
branch_2 = refl

-- PRED_SETE of R0.x and 248, the constant 0.0, which updates the mask and the predicate (branch-3 is copy-1)
branch_4 : shown Alu (alu_pair_of 0x801f_0000 0x0000_100c) ≡ pair "OP2" (0 ∷ 0 ∷ 0 ∷ 0 ∷ 248 ∷ 0 ∷ 0 ∷ 0 ∷ 0 ∷ 0 ∷ 1 ∷ []) (0 ∷ 0 ∷ 1 ∷ 1 ∷ 0 ∷ 0 ∷ 32 ∷ 0 ∷ 0 ∷ 0 ∷ 0 ∷ 0 ∷ [])
unfolding op2_class op3_class op2 op3
branch_4 = refl

-- ---- the loop pack

-- LOOP_START_DX10 to 2
loop_0 : shown ControlFlow (cf_pair_of 0x0000_0002 0x0300_0000) ≡ pair "CF" (2 ∷ []) (0 ∷ 0 ∷ 0 ∷ 0 ∷ 0 ∷ 0 ∷ 0 ∷ 0 ∷ 0 ∷ 6 ∷ 0 ∷ 0 ∷ [])
unfolding cf_alu_control cf_control cf_alu cf
loop_0 = refl

-- LOOP_END to 1 (loop-2 is copy-1)
loop_1 : shown ControlFlow (cf_pair_of 0x0000_0001 0x0280_0000) ≡ pair "CF" (1 ∷ []) (0 ∷ 0 ∷ 0 ∷ 0 ∷ 0 ∷ 0 ∷ 0 ∷ 0 ∷ 0 ∷ 5 ∷ 0 ∷ 0 ∷ [])
unfolding cf_alu_control cf_control cf_alu cf
loop_1 = refl

-- ---- other forms

-- TEX of 16 fetches: COUNT 15 stands in two pieces
tex_16 : shown ControlFlow (cf_pair_of 0x0000_0010 0x0088_1c00) ≡ pair "CF" (16 ∷ []) (0 ∷ 0 ∷ 0 ∷ 7 ∷ 0 ∷ 1 ∷ 0 ∷ 0 ∷ 0 ∷ 1 ∷ 0 ∷ 0 ∷ [])
unfolding cf_alu_control cf_control cf_alu cf
tex_16 = refl

-- EXPORT_DONE of R1 to pixel output 0, components X, Y, Z, W, at the end
export_done : shown ControlFlow (cf_pair_of 0x0000_8000 0x9420_0688) ≡ pair "export" (0 ∷ 0 ∷ 1 ∷ 0 ∷ 0 ∷ 0 ∷ []) (0 ∷ 1 ∷ 2 ∷ 3 ∷ 0 ∷ 0 ∷ 1 ∷ 0 ∷ 40 ∷ 0 ∷ 1 ∷ [])
unfolding cf_alu_control cf_control cf_alu cf
export_done = refl

-- MULADD R2.y, R0.x, R1.x, R3.z
muladd : shown Alu (alu_pair_of 0x8000_2000 0x2042_0803) ≡ pair "OP3" (0 ∷ 0 ∷ 0 ∷ 0 ∷ 1 ∷ 0 ∷ 0 ∷ 0 ∷ 0 ∷ 0 ∷ 1 ∷ []) (3 ∷ 0 ∷ 2 ∷ 0 ∷ 16 ∷ 0 ∷ 2 ∷ 0 ∷ 1 ∷ 0 ∷ [])
unfolding op2_class op3_class op2 op3
muladd = refl

-- ---- refused

-- CALL_FS (19): 4; CF_ALU number 12: 4; OP2 number 26: 11; OP3 number 28: 11
refused_numbers : (shown ControlFlow (cf_pair_of 0 0x0980_0000) ≡ refusal 4) × (shown ControlFlow (cf_pair_of 0 0x3000_0000) ≡ refusal 4) × (shown Alu (alu_pair_of 0 0x0000_0d00) ≡ refusal 11) × (shown Alu (alu_pair_of 0 0x0003_8000) ≡ refusal 11)
unfolding cf_alu_control cf_control cf_alu cf op2_class op3_class op2 op3
refused_numbers = (refl, refl, refl, refl)

-- three words hold a pair at 1 and none at 2 or at the largest start
short : (shown ControlFlow (decode_of ControlFlow (9 ∷ 0 ∷ 0x0020_0000 ∷ []) (words 1)) ≡ pair "CF" (0 ∷ []) (0 ∷ 0 ∷ 0 ∷ 0 ∷ 0 ∷ 0 ∷ 0 ∷ 1 ∷ 0 ∷ 0 ∷ 0 ∷ 0 ∷ [])) × (shown ControlFlow (decode_of ControlFlow (9 ∷ 0 ∷ 0x0020_0000 ∷ []) (words 2)) ≡ refusal 2) × (shown Alu (decode_of Alu (9 ∷ 0 ∷ 0x0020_0000 ∷ []) (words 0xffff_ffff_ffff_ffff)) ≡ refusal 2)
unfolding cf_alu_control cf_control cf_alu cf op2_class op3_class op2 op3
short = (refl, refl, refl)

-- records that the encoder refuses, since their words would read back as another form: CF 39, export 10, OP2 256, OP3 3
other_forms : (encodable (Cf (cfFormat.word0_of 0) (cfFormat.word1_of 0x1380_0000)) ≡ false) × (encodable (Export (exportFormat.word0_of 0) (exportFormat.word1_of 0x0500_0000)) ≡ false) × (encodable (Op2 (aluFormat.word0_of 0) (aluFormat.op2_of 0x0000_8000)) ≡ false) × (encodable (Op3 (aluFormat.word0_of 0) (aluFormat.op3_of 0x0000_6000)) ≡ false)
unfolding cf_control cf op2_class op3_class op2 op3 cfFormat.word0_table cfFormat.word1_table exportFormat.word0_table exportFormat.word1_table aluFormat.word0_table aluFormat.op2_table aluFormat.op3_table
other_forms = (refl, refl, refl, refl)

-- and an ALU clause opener whose ADDR takes 23 bits: 21, though there is room
wide : Instruction
wide = CfAlu (record { addr = quadwords 0x40_0000; kcache_bank0 = 0; kcache_bank1 = 0; kcache_mode0 = 0 }) (cfAluFormat.word1_of 0xa000_0000)

wide_refused : (encode_answer wide (7 ∷ 7 ∷ 7 ∷ []) (words 1) ≡ Err NoRecord) × (encode_words wide (7 ∷ 7 ∷ 7 ∷ []) (words 1) ≡ 7 ∷ 7 ∷ 7 ∷ [])
unfolding wide cf_alu_control cf_alu cfAluFormat.word0_table cfAluFormat.word1_table
wide_refused = (refl, refl)

-- the copy pack's opener, written from word 1 of three on: the first stays; at 2 it does not fit
opener : Instruction
opener = CfAlu (cfAluFormat.word0_of 0x0000_0002) (cfAluFormat.word1_of 0xa000_0000)

written : (encode_answer opener (7 ∷ 7 ∷ 7 ∷ []) (words 1) ≡ Done) × (encode_words opener (7 ∷ 7 ∷ 7 ∷ []) (words 1) ≡ 7 ∷ 2 ∷ 0xa000_0000 ∷ []) × (encode_answer opener (7 ∷ 7 ∷ 7 ∷ []) (words 2) ≡ Err NoRoom) × (encode_words opener (7 ∷ 7 ∷ 7 ∷ []) (words 2) ≡ 7 ∷ 7 ∷ 7 ∷ [])
unfolding opener cf_alu_control cf_alu cfAluFormat.word0_table cfAluFormat.word1_table
written = (refl, refl, refl, refl)
