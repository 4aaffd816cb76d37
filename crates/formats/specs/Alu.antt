-- ALU instructions: ALU_WORD0 with ALU_WORD1_OP2 or ALU_WORD1_OP3. `.._table` has the fields in their order, `.._values` the
-- record's fields in the same order, and `.._of` is the record that a word holds.
use mathlib.Core.Path.{refl}
use Rattle.std.specs.Prelude.{ℕ, ◌+◌, List, [], ◌∷◌, map, get_or}
use Rattle.bits.specs.declared.Bits.{Bits}
use Rattle.formats.specs.Laws.{FormatLaws}
use Rattle.formats.specs.Fields.{position, ◌of◌, SRC0_SEL, SRC0_REL, SRC0_CHAN, SRC0_NEG, SRC1_SEL, SRC1_REL, SRC1_CHAN, SRC1_NEG, INDEX_MODE, PRED_SEL, «LAST», SRC0_ABS, SRC1_ABS, UPDATE_EXECUTE_MASK, UPDATE_PRED, WRITE_MASK, «OMOD», OP2_INST, BANK_SWIZZLE, DST_GPR, DST_REL, DST_CHAN, «CLAMP», SRC2_SEL, SRC2_REL, SRC2_CHAN, SRC2_NEG, OP3_INST}
use Rattle.formats.specs.declared.alu.AluWord0.{AluWord0}
use Rattle.formats.specs.declared.alu.AluWord1Op2.{AluWord1Op2}
use Rattle.formats.specs.declared.alu.AluWord1Op3.{AluWord1Op3}

-- ---- ALU_WORD0

unfoldable pub word0_table : List Bits
word0_table =
    map position
    (SRC0_SEL
    ∷ SRC0_REL
    ∷ SRC0_CHAN
    ∷ SRC0_NEG
    ∷ SRC1_SEL
    ∷ SRC1_REL
    ∷ SRC1_CHAN
    ∷ SRC1_NEG
    ∷ INDEX_MODE
    ∷ PRED_SEL
    ∷ «LAST»
    ∷ [])

abbrev pub word0_values : AluWord0 → List ℕ
word0_values r =
    r.src0_sel
    ∷ r.src0_rel
    ∷ r.src0_chan
    ∷ r.src0_neg
    ∷ r.src1_sel
    ∷ r.src1_rel
    ∷ r.src1_chan
    ∷ r.src1_neg
    ∷ r.index_mode
    ∷ r.pred_sel
    ∷ r.last
    ∷ []

abbrev pub word0_of : ℕ → AluWord0
word0_of n =
    record {
      src0_sel = SRC0_SEL of n;
      src0_rel = SRC0_REL of n;
      src0_chan = SRC0_CHAN of n;
      src0_neg = SRC0_NEG of n;
      src1_sel = SRC1_SEL of n;
      src1_rel = SRC1_REL of n;
      src1_chan = SRC1_CHAN of n;
      src1_neg = SRC1_NEG of n;
      index_mode = INDEX_MODE of n;
      pred_sel = PRED_SEL of n;
      last = «LAST» of n;
    }

-- and one whose fields are elements of a list, from element at on
abbrev pub word0_at : ℕ → List ℕ → AluWord0
word0_at at vs =
    record {
      src0_sel = get_or vs (at + 0) 0;
      src0_rel = get_or vs (at + 1) 0;
      src0_chan = get_or vs (at + 2) 0;
      src0_neg = get_or vs (at + 3) 0;
      src1_sel = get_or vs (at + 4) 0;
      src1_rel = get_or vs (at + 5) 0;
      src1_chan = get_or vs (at + 6) 0;
      src1_neg = get_or vs (at + 7) 0;
      index_mode = get_or vs (at + 8) 0;
      pred_sel = get_or vs (at + 9) 0;
      last = get_or vs (at + 10) 0;
    }

pub word0_laws : FormatLaws word0_table word0_values word0_of
unfolding word0_table
word0_laws = record { filled = refl; read = λ n. refl; same = λ r s e i. word0_at 0 (e i) }

-- ---- ALU_WORD1_OP2

unfoldable pub op2_table : List Bits
op2_table =
    map position
    (SRC0_ABS
    ∷ SRC1_ABS
    ∷ UPDATE_EXECUTE_MASK
    ∷ UPDATE_PRED
    ∷ WRITE_MASK
    ∷ «OMOD»
    ∷ OP2_INST
    ∷ BANK_SWIZZLE
    ∷ DST_GPR
    ∷ DST_REL
    ∷ DST_CHAN
    ∷ «CLAMP»
    ∷ [])

abbrev pub op2_values : AluWord1Op2 → List ℕ
op2_values r =
    r.src0_abs
    ∷ r.src1_abs
    ∷ r.update_execute_mask
    ∷ r.update_pred
    ∷ r.write_mask
    ∷ r.omod
    ∷ r.alu_inst
    ∷ r.bank_swizzle
    ∷ r.dst_gpr
    ∷ r.dst_rel
    ∷ r.dst_chan
    ∷ r.clamp
    ∷ []

abbrev pub op2_of : ℕ → AluWord1Op2
op2_of n =
    record {
      src0_abs = SRC0_ABS of n;
      src1_abs = SRC1_ABS of n;
      update_execute_mask = UPDATE_EXECUTE_MASK of n;
      update_pred = UPDATE_PRED of n;
      write_mask = WRITE_MASK of n;
      omod = «OMOD» of n;
      alu_inst = OP2_INST of n;
      bank_swizzle = BANK_SWIZZLE of n;
      dst_gpr = DST_GPR of n;
      dst_rel = DST_REL of n;
      dst_chan = DST_CHAN of n;
      clamp = «CLAMP» of n;
    }

-- and one whose fields are elements of a list, from element at on
abbrev pub op2_at : ℕ → List ℕ → AluWord1Op2
op2_at at vs =
    record {
      src0_abs = get_or vs (at + 0) 0;
      src1_abs = get_or vs (at + 1) 0;
      update_execute_mask = get_or vs (at + 2) 0;
      update_pred = get_or vs (at + 3) 0;
      write_mask = get_or vs (at + 4) 0;
      omod = get_or vs (at + 5) 0;
      alu_inst = get_or vs (at + 6) 0;
      bank_swizzle = get_or vs (at + 7) 0;
      dst_gpr = get_or vs (at + 8) 0;
      dst_rel = get_or vs (at + 9) 0;
      dst_chan = get_or vs (at + 10) 0;
      clamp = get_or vs (at + 11) 0;
    }

pub op2_laws : FormatLaws op2_table op2_values op2_of
unfolding op2_table
op2_laws = record { filled = refl; read = λ n. refl; same = λ r s e i. op2_at 0 (e i) }

-- ---- ALU_WORD1_OP3

unfoldable pub op3_table : List Bits
op3_table =
    map position
    (SRC2_SEL
    ∷ SRC2_REL
    ∷ SRC2_CHAN
    ∷ SRC2_NEG
    ∷ OP3_INST
    ∷ BANK_SWIZZLE
    ∷ DST_GPR
    ∷ DST_REL
    ∷ DST_CHAN
    ∷ «CLAMP»
    ∷ [])

abbrev pub op3_values : AluWord1Op3 → List ℕ
op3_values r =
    r.src2_sel
    ∷ r.src2_rel
    ∷ r.src2_chan
    ∷ r.src2_neg
    ∷ r.alu_inst
    ∷ r.bank_swizzle
    ∷ r.dst_gpr
    ∷ r.dst_rel
    ∷ r.dst_chan
    ∷ r.clamp
    ∷ []

abbrev pub op3_of : ℕ → AluWord1Op3
op3_of n =
    record {
      src2_sel = SRC2_SEL of n;
      src2_rel = SRC2_REL of n;
      src2_chan = SRC2_CHAN of n;
      src2_neg = SRC2_NEG of n;
      alu_inst = OP3_INST of n;
      bank_swizzle = BANK_SWIZZLE of n;
      dst_gpr = DST_GPR of n;
      dst_rel = DST_REL of n;
      dst_chan = DST_CHAN of n;
      clamp = «CLAMP» of n;
    }

-- and one whose fields are elements of a list, from element at on
abbrev pub op3_at : ℕ → List ℕ → AluWord1Op3
op3_at at vs =
    record {
      src2_sel = get_or vs (at + 0) 0;
      src2_rel = get_or vs (at + 1) 0;
      src2_chan = get_or vs (at + 2) 0;
      src2_neg = get_or vs (at + 3) 0;
      alu_inst = get_or vs (at + 4) 0;
      bank_swizzle = get_or vs (at + 5) 0;
      dst_gpr = get_or vs (at + 6) 0;
      dst_rel = get_or vs (at + 7) 0;
      dst_chan = get_or vs (at + 8) 0;
      clamp = get_or vs (at + 9) 0;
    }

pub op3_laws : FormatLaws op3_table op3_values op3_of
unfolding op3_table
op3_laws = record { filled = refl; read = λ n. refl; same = λ r s e i. op3_at 0 (e i) }
