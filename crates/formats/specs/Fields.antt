-- Every field of every word format, by AMD's name, and where it stands: the one place that says so. To be held against chapter 10 of
-- document 002, and document 01, "Control-flow words" and "Groups of ALU slots". A name that two formats give to different bits has the
-- format's before it.
use Rattle.std.specs.Prelude.{ℕ, List, map}
use Prim.Native.String.{String}
use Rattle.bits.specs.declared.Bits.{Bits}
use Rattle.bits.specs.Fields.{bits, bit, value_in}

infixl 70 ◌of◌
pub data Field : Type 0 where
  SRC0_SEL SRC0_REL SRC0_CHAN SRC0_NEG SRC1_SEL SRC1_REL SRC1_CHAN SRC1_NEG INDEX_MODE PRED_SEL «LAST» : Field
  SRC0_ABS SRC1_ABS UPDATE_EXECUTE_MASK UPDATE_PRED WRITE_MASK «OMOD» OP2_INST : Field
  SRC2_SEL SRC2_REL SRC2_CHAN SRC2_NEG OP3_INST : Field
  BANK_SWIZZLE DST_GPR DST_REL DST_CHAN «CLAMP» OP3_MARK : Field
  «ADDR» POP_COUNT CF_CONST «COND» «COUNT» CALL_COUNT COUNT_3 BIT_20 : Field
  END_OF_PROGRAM VALID_PIXEL_MODE CF_INST WHOLE_QUAD_MODE «BARRIER» CF_ALU_MARK : Field
  CF_ALU_ADDR KCACHE_BANK0 KCACHE_BANK1 KCACHE_MODE0 KCACHE_MODE1 KCACHE_ADDR0 KCACHE_ADDR1 CF_ALU_COUNT : Field
  ALT_CONST CF_ALU_INST : Field
  ARRAY_BASE «TYPE» RW_GPR RW_REL INDEX_GPR ELEM_SIZE : Field
  SEL_X SEL_Y SEL_Z SEL_W BITS_16_12 BURST_COUNT : Field
  FETCH_INST FETCH_WHOLE_QUAD FETCH_SRC_GPR FETCH_SRC_REL FETCH_DST_GPR FETCH_DST_REL RESERVED1_8 DST_SEL_X : Field
  DST_SEL_Y DST_SEL_Z DST_SEL_W : Field
  BC_FRAC_MODE RESERVED0_6 RESOURCE_ID TEX_ALT_CONST RESERVED0_25 LOD_BIAS COORD_TYPE_X COORD_TYPE_Y COORD_TYPE_Z : Field
  COORD_TYPE_W OFFSET_X OFFSET_Y OFFSET_Z SAMPLER_ID TEX_SRC_SEL_X SRC_SEL_Y SRC_SEL_Z SRC_SEL_W : Field
  FETCH_TYPE BUFFER_ID VTX_SRC_SEL_X MEGA_FETCH_COUNT SEMANTIC_ID USE_CONST_FIELDS DATA_FORMAT NUM_FORMAT_ALL : Field
  FORMAT_COMP_ALL SRF_MODE_ALL «OFFSET» ENDIAN_SWAP CONST_BUF_NO_STRIDE MEGA_FETCH VTX_ALT_CONST RESERVED2_21 : Field

-- highest bit and lowest bit
abbrev pub position : Field → Bits
-- ALU_WORD0: section 10.2, "ALU Doubleword 0"
position SRC0_SEL = bits 8 0
position SRC0_REL = bit 9
position SRC0_CHAN = bits 11 10
position SRC0_NEG = bit 12
position SRC1_SEL = bits 21 13
position SRC1_REL = bit 22
position SRC1_CHAN = bits 24 23
position SRC1_NEG = bit 25
position INDEX_MODE = bits 28 26
position PRED_SEL = bits 30 29
position «LAST» = bit 31
-- ALU_WORD1_OP2: section 10.2, "ALU Doubleword 1 Zero to Two Source Operands"; its ALU_INST is OP2_INST here
position SRC0_ABS = bit 0
position SRC1_ABS = bit 1
position UPDATE_EXECUTE_MASK = bit 2
position UPDATE_PRED = bit 3
position WRITE_MASK = bit 4
position «OMOD» = bits 6 5
position OP2_INST = bits 17 7
-- ALU_WORD1_OP3: section 10.2, "ALU Doubleword 1 Three Source Operands"; its ALU_INST is OP3_INST here
position SRC2_SEL = bits 8 0
position SRC2_REL = bit 9
position SRC2_CHAN = bits 11 10
position SRC2_NEG = bit 12
position OP3_INST = bits 17 13
-- both of them. DST_CHAN is DST_ELEM in chapter 10. A pair is OP3 if OP3_MARK, the top bits of either ALU_INST, is not 0
position BANK_SWIZZLE = bits 20 18
position DST_GPR = bits 27 21
position DST_REL = bit 28
position DST_CHAN = bits 30 29
position «CLAMP» = bit 31
position OP3_MARK = bits 17 15
-- CF_WORD0 and CF_WORD1: section 10.1, "Control Flow Doubleword 0" and ".. 1". COUNT_3 is COUNT's top bit
position «ADDR» = bits 31 0
position POP_COUNT = bits 2 0
position CF_CONST = bits 7 3
position «COND» = bits 9 8
position «COUNT» = bits 12 10
position CALL_COUNT = bits 18 13
position COUNT_3 = bit 19
position BIT_20 = bit 20
-- CF_WORD1 and CF_ALLOC_EXPORT_WORD1; the last two CF_ALU_WORD1 too. A pair is CF_ALU if CF_ALU_MARK, the top bit of every CF_INST, is set
position END_OF_PROGRAM = bit 21
position VALID_PIXEL_MODE = bit 22
position CF_INST = bits 29 23
position WHOLE_QUAD_MODE = bit 30
position «BARRIER» = bit 31
position CF_ALU_MARK = bit 29
-- CF_ALU_WORD0 and CF_ALU_WORD1: section 10.1, "Control Flow ALU Doubleword 0" and ".. 1". ADDR, COUNT and CF_INST are those of CF_ALU
position CF_ALU_ADDR = bits 21 0
position KCACHE_BANK0 = bits 25 22
position KCACHE_BANK1 = bits 29 26
position KCACHE_MODE0 = bits 31 30
position KCACHE_MODE1 = bits 1 0
position KCACHE_ADDR0 = bits 9 2
position KCACHE_ADDR1 = bits 17 10
position CF_ALU_COUNT = bits 24 18
position ALT_CONST = bit 25
position CF_ALU_INST = bits 29 26
-- CF_ALLOC_EXPORT_WORD0: section 10.1, "Control Flow Allocate, Import, or Export Doubleword 0"
position ARRAY_BASE = bits 12 0
position «TYPE» = bits 14 13
position RW_GPR = bits 21 15
position RW_REL = bit 22
position INDEX_GPR = bits 29 23
position ELEM_SIZE = bits 31 30
-- CF_ALLOC_EXPORT_WORD1_SWIZ: section 10.1, ".. Doubleword 1" and ".. Swizzle"
position SEL_X = bits 2 0
position SEL_Y = bits 5 3
position SEL_Z = bits 8 6
position SEL_W = bits 11 9
position BITS_16_12 = bits 16 12
position BURST_COUNT = bits 20 17
-- fetches, words 0 and 1: sections 10.3 and 10.4, where VTX and TEX have them at the same bits. FETCH_INST is VTX_INST or TEX_INST. Bits that the
-- guide calls reserved are carried, in fields named by their word and lowest bit
position FETCH_INST = bits 4 0
position FETCH_WHOLE_QUAD = bit 7
position FETCH_SRC_GPR = bits 22 16
position FETCH_SRC_REL = bit 23
position FETCH_DST_GPR = bits 6 0
position FETCH_DST_REL = bit 7
position RESERVED1_8 = bit 8
position DST_SEL_X = bits 11 9
position DST_SEL_Y = bits 14 12
position DST_SEL_Z = bits 17 15
position DST_SEL_W = bits 20 18
-- TEX_WORD0, TEX_WORD1 and TEX_WORD2: section 10.4, "Texture Fetch Doubleword 0", ".. 1" and ".. 2"
position BC_FRAC_MODE = bit 5
position RESERVED0_6 = bit 6
position RESOURCE_ID = bits 15 8
position TEX_ALT_CONST = bit 24
position RESERVED0_25 = bits 31 25
position LOD_BIAS = bits 27 21
position COORD_TYPE_X = bit 28
position COORD_TYPE_Y = bit 29
position COORD_TYPE_Z = bit 30
position COORD_TYPE_W = bit 31
position OFFSET_X = bits 4 0
position OFFSET_Y = bits 9 5
position OFFSET_Z = bits 14 10
position SAMPLER_ID = bits 19 15
position TEX_SRC_SEL_X = bits 22 20
position SRC_SEL_Y = bits 25 23
position SRC_SEL_Z = bits 28 26
position SRC_SEL_W = bits 31 29
-- VTX_WORD0, VTX_WORD1_SEM, VTX_WORD1 of either form, VTX_WORD2: section 10.3, "Vertex Fetch Doubleword 0" to ".. 2"
position FETCH_TYPE = bits 6 5
position BUFFER_ID = bits 15 8
position VTX_SRC_SEL_X = bits 25 24
position MEGA_FETCH_COUNT = bits 31 26
position SEMANTIC_ID = bits 7 0
position USE_CONST_FIELDS = bit 21
position DATA_FORMAT = bits 27 22
position NUM_FORMAT_ALL = bits 29 28
position FORMAT_COMP_ALL = bit 30
position SRF_MODE_ALL = bit 31
position «OFFSET» = bits 15 0
position ENDIAN_SWAP = bits 17 16
position CONST_BUF_NO_STRIDE = bit 18
position MEGA_FETCH = bit 19
position VTX_ALT_CONST = bit 20
position RESERVED2_21 = bits 31 21

-- the value of a field in a word
abbrev pub ◌of◌ : Field → ℕ → ℕ
◌of◌ f n = value_in n (position f)

-- where the fields of a format stand, which has each with the name that AMD gives it there
abbrev pub positions : List (String × Field) → List Bits
positions fs = map (λ (f : String × Field). position f.1) fs
