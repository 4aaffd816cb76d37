-- Exports: CF_ALLOC_EXPORT_WORD0 and CF_ALLOC_EXPORT_WORD1_SWIZ. `.._table` has the fields in their order, `.._values` the
-- record's fields in the same order, and `.._of` is the record that a word holds.
use mathlib.Core.Path.{refl}
use Rattle.std.specs.Prelude.{ℕ, ◌+◌, List, [], ◌∷◌, map, get_or}
use Rattle.bits.specs.declared.Bits.{Bits}
use Rattle.formats.specs.Laws.{FormatLaws}
use Rattle.formats.specs.Fields.{position, ◌of◌, ARRAY_BASE, «TYPE», RW_GPR, RW_REL, INDEX_GPR, ELEM_SIZE, SEL_X, SEL_Y, SEL_Z, SEL_W, BITS_16_12, BURST_COUNT, END_OF_PROGRAM, VALID_PIXEL_MODE, CF_INST, WHOLE_QUAD_MODE, «BARRIER»}
use Rattle.formats.specs.declared.export.CfAllocExportWord0.{CfAllocExportWord0}
use Rattle.formats.specs.declared.export.CfAllocExportWord1Swiz.{CfAllocExportWord1Swiz}

-- ---- CF_ALLOC_EXPORT_WORD0

unfoldable pub word0_table : List Bits
word0_table =
    map position
    (ARRAY_BASE
    ∷ «TYPE»
    ∷ RW_GPR
    ∷ RW_REL
    ∷ INDEX_GPR
    ∷ ELEM_SIZE
    ∷ [])

abbrev pub word0_values : CfAllocExportWord0 → List ℕ
word0_values r =
    r.array_base
    ∷ r.export_type
    ∷ r.rw_gpr
    ∷ r.rw_rel
    ∷ r.index_gpr
    ∷ r.elem_size
    ∷ []

abbrev pub word0_of : ℕ → CfAllocExportWord0
word0_of n =
    record {
      array_base = ARRAY_BASE of n;
      export_type = «TYPE» of n;
      rw_gpr = RW_GPR of n;
      rw_rel = RW_REL of n;
      index_gpr = INDEX_GPR of n;
      elem_size = ELEM_SIZE of n;
    }

-- and one whose fields are elements of a list, from element at on
abbrev pub word0_at : ℕ → List ℕ → CfAllocExportWord0
word0_at at vs =
    record {
      array_base = get_or vs (at + 0) 0;
      export_type = get_or vs (at + 1) 0;
      rw_gpr = get_or vs (at + 2) 0;
      rw_rel = get_or vs (at + 3) 0;
      index_gpr = get_or vs (at + 4) 0;
      elem_size = get_or vs (at + 5) 0;
    }

pub word0_laws : FormatLaws word0_table word0_values word0_of
unfolding word0_table
word0_laws = record { filled = refl; read = λ n. refl; same = λ r s e i. word0_at 0 (e i) }

-- ---- CF_ALLOC_EXPORT_WORD1_SWIZ

unfoldable pub word1_table : List Bits
word1_table =
    map position
    (SEL_X
    ∷ SEL_Y
    ∷ SEL_Z
    ∷ SEL_W
    ∷ BITS_16_12
    ∷ BURST_COUNT
    ∷ END_OF_PROGRAM
    ∷ VALID_PIXEL_MODE
    ∷ CF_INST
    ∷ WHOLE_QUAD_MODE
    ∷ «BARRIER»
    ∷ [])

abbrev pub word1_values : CfAllocExportWord1Swiz → List ℕ
word1_values r =
    r.sel_x
    ∷ r.sel_y
    ∷ r.sel_z
    ∷ r.sel_w
    ∷ r.rest
    ∷ r.burst_count
    ∷ r.end_of_program
    ∷ r.valid_pixel_mode
    ∷ r.cf_inst
    ∷ r.whole_quad_mode
    ∷ r.barrier
    ∷ []

abbrev pub word1_of : ℕ → CfAllocExportWord1Swiz
word1_of n =
    record {
      sel_x = SEL_X of n;
      sel_y = SEL_Y of n;
      sel_z = SEL_Z of n;
      sel_w = SEL_W of n;
      rest = BITS_16_12 of n;
      burst_count = BURST_COUNT of n;
      end_of_program = END_OF_PROGRAM of n;
      valid_pixel_mode = VALID_PIXEL_MODE of n;
      cf_inst = CF_INST of n;
      whole_quad_mode = WHOLE_QUAD_MODE of n;
      barrier = «BARRIER» of n;
    }

-- and one whose fields are elements of a list, from element at on
abbrev pub word1_at : ℕ → List ℕ → CfAllocExportWord1Swiz
word1_at at vs =
    record {
      sel_x = get_or vs (at + 0) 0;
      sel_y = get_or vs (at + 1) 0;
      sel_z = get_or vs (at + 2) 0;
      sel_w = get_or vs (at + 3) 0;
      rest = get_or vs (at + 4) 0;
      burst_count = get_or vs (at + 5) 0;
      end_of_program = get_or vs (at + 6) 0;
      valid_pixel_mode = get_or vs (at + 7) 0;
      cf_inst = get_or vs (at + 8) 0;
      whole_quad_mode = get_or vs (at + 9) 0;
      barrier = get_or vs (at + 10) 0;
    }

pub word1_laws : FormatLaws word1_table word1_values word1_of
unfolding word1_table
word1_laws = record { filled = refl; read = λ n. refl; same = λ r s e i. word1_at 0 (e i) }
