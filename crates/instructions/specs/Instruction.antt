-- One ALU instruction, by its two words: document 01, "Groups of ALU slots". What rules 10 to 15 ask of an instruction by itself;
-- the fields are those of ALU_WORD0, ALU_WORD1_OP2 and ALU_WORD1_OP3, document 002, section 10.2.
use Rattle.std.specs.Prelude.{ℕ, ◌+◌, ◌/◌, max, Bool, true, false, cond, not, ◌&&◌, ◌||◌, List, [], ◌∷◌, ◌++◌, eqb, ltb}
use Rattle.formats.specs.Fields.{◌of◌, SRC0_SEL, SRC0_REL, SRC0_CHAN, SRC1_SEL, SRC1_REL, SRC1_CHAN, SRC2_SEL, SRC2_REL, SRC2_CHAN, INDEX_MODE, PRED_SEL, WRITE_MASK, OP2_INST, OP3_INST, OP3_MARK, BANK_SWIZZLE, DST_GPR, DST_REL}
use Rattle.opcodes.specs.declared.alu.Class.{Class}
use Rattle.opcodes.specs.Alu.{op2_class, op3_class, is_taken}
use Rattle.grants.specs.Grants.{Name, alu_register, source_names}
use Rattle.instructions.specs.declared.Source.{Source}

-- OP2 if high bits 17:15 are 0, else OP3
unfoldable pub is_op3 : ℕ → Bool
is_op3 hi = not (eqb (OP3_MARK of hi) 0)

-- the class of the number
unfoldable pub class_of : ℕ → Class
class_of hi = cond (is_op3 hi) (op3_class (OP3_INST of hi)) (op2_class (OP2_INST of hi))

-- 11: ALU number not taken
unfoldable pub bad_number : ℕ → Bool
bad_number hi = not (is_taken (class_of hi))

-- ---- sources: SEL, REL, CHAN. Every source field of the format counts, whether the opcode reads it or not

abbrev pub source0_of : ℕ → Source
source0_of lo = record { sel = SRC0_SEL of lo; rel = SRC0_REL of lo; chan = SRC0_CHAN of lo }

abbrev pub source1_of : ℕ → Source
source1_of lo = record { sel = SRC1_SEL of lo; rel = SRC1_REL of lo; chan = SRC1_CHAN of lo }

-- OP3 only
abbrev pub source2_of : ℕ → Source
source2_of hi = record { sel = SRC2_SEL of hi; rel = SRC2_REL of hi; chan = SRC2_CHAN of hi }

-- the relative bit is set
unfoldable pub is_relative : Source → Bool
is_relative s = not (eqb s.rel 0)

-- ---- literals, for rule 10

-- the literal quadwords that a source asks for: one for channel X or Y of 253, two for Z or W
unfoldable pub source_literals : Source → ℕ
source_literals s = cond (eqb s.sel 253) (s.chan / 2 + 1) 0

-- none if no source is 253, one if the highest literal channel is X or Y, else two
unfoldable pub literals : ℕ → ℕ → ℕ
literals lo hi =
    max (max (source_literals (source0_of lo)) (source_literals (source1_of lo)))
    (cond (is_op3 hi) (source_literals (source2_of hi)) 0)

-- ---- 12: ALU field rule

-- no source in 192 to 247; no relative bit on sources 248 to 255
unfoldable pub bad_source : Source → Bool
bad_source s = cond (ltb s.sel 192) false (cond (ltb s.sel 248) true (cond (ltb s.sel 256) (is_relative s) false))

-- PRED_SEL not 1; INDEX_MODE at most 4; bank swizzle at most 5; and the sources
unfoldable pub bad_field : ℕ → ℕ → Bool
bad_field lo hi =
    eqb (PRED_SEL of lo) 1
    || (ltb 4 (INDEX_MODE of lo)
    || (ltb 5 (BANK_SWIZZLE of hi)
    || (bad_source (source0_of lo) || (bad_source (source1_of lo) || (is_op3 hi && bad_source (source2_of hi))))))

-- ---- 14: what a MOVA's group must not have

-- any relative bit set, destination or source, read or not
unfoldable pub has_relative : ℕ → ℕ → Bool
has_relative lo hi =
    not (eqb (DST_REL of hi) 0)
    || (is_relative (source0_of lo) || (is_relative (source1_of lo) || (is_op3 hi && is_relative (source2_of hi))))

-- ---- 15: what an instruction names directly, destination, then sources

-- the destination only if written: OP3, or WRITE_MASK 1
unfoldable pub is_written : ℕ → Bool
is_written hi = is_op3 hi || eqb (WRITE_MASK of hi) 1

unfoldable pub destination_names : ℕ → List Name
destination_names hi = cond (is_written hi && eqb (DST_REL of hi) 0) (alu_register (DST_GPR of hi) ∷ []) []

unfoldable pub names_of : Source → List Name
names_of s = cond (is_relative s) [] (source_names s.sel)

unfoldable pub named : ℕ → ℕ → List Name
named lo hi =
    destination_names hi ++ (names_of (source0_of lo) ++ (names_of (source1_of lo) ++ cond (is_op3 hi) (names_of (source2_of hi)) []))
