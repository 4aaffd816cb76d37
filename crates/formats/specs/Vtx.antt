-- Vertex fetches: VTX_WORD0, VTX_WORD1_GPR or VTX_WORD1_SEM, and VTX_WORD2, section 10.3. `.._fields` has the fields in
-- their order, each with AMD's name there, `.._table` where they stand, `.._values` the record's fields in the same order, and `.._of` is the record
-- that a word holds.
use mathlib.Core.Path.{refl}
use Rattle.std.specs.Prelude.{ℕ, ◌+◌, List, [], ◌∷◌, get_or}
use Prim.Native.String.{String}
use Rattle.bits.specs.declared.Bits.{Bits}
use Rattle.formats.specs.Laws.{FormatLaws}
use Rattle.formats.specs.Fields.{Field, positions, ◌of◌, FETCH_INST, FETCH_TYPE, FETCH_WHOLE_QUAD, BUFFER_ID, FETCH_SRC_GPR, FETCH_SRC_REL, VTX_SRC_SEL_X, MEGA_FETCH_COUNT, FETCH_DST_GPR, FETCH_DST_REL, RESERVED1_8, DST_SEL_X, DST_SEL_Y, DST_SEL_Z, DST_SEL_W, USE_CONST_FIELDS, DATA_FORMAT, NUM_FORMAT_ALL, FORMAT_COMP_ALL, SRF_MODE_ALL, SEMANTIC_ID, «OFFSET», ENDIAN_SWAP, CONST_BUF_NO_STRIDE, MEGA_FETCH, VTX_ALT_CONST, RESERVED2_21}
use Rattle.formats.specs.declared.vtx.VtxWord0.{VtxWord0}
use Rattle.formats.specs.declared.vtx.VtxWord1Gpr.{VtxWord1Gpr}
use Rattle.formats.specs.declared.vtx.VtxWord1Sem.{VtxWord1Sem}
use Rattle.formats.specs.declared.vtx.VtxWord2.{VtxWord2}

-- ---- VTX_WORD0

unfoldable pub word0_fields : List (String × Field)
word0_fields =
    ("VTX_INST", FETCH_INST)
    ∷ ("FETCH_TYPE", FETCH_TYPE)
    ∷ ("FETCH_WHOLE_QUAD", FETCH_WHOLE_QUAD)
    ∷ ("BUFFER_ID", BUFFER_ID)
    ∷ ("SRC_GPR", FETCH_SRC_GPR)
    ∷ ("SRC_REL", FETCH_SRC_REL)
    ∷ ("SRC_SEL_X", VTX_SRC_SEL_X)
    ∷ ("MEGA_FETCH_COUNT", MEGA_FETCH_COUNT)
    ∷ []

abbrev pub word0_table : List Bits
word0_table = positions word0_fields

abbrev pub word0_values : VtxWord0 → List ℕ
word0_values r =
    r.vtx_inst
    ∷ r.fetch_type
    ∷ r.fetch_whole_quad
    ∷ r.buffer_id
    ∷ r.src_gpr
    ∷ r.src_rel
    ∷ r.src_sel_x
    ∷ r.mega_fetch_count
    ∷ []

abbrev pub word0_of : ℕ → VtxWord0
word0_of n =
    record {
      vtx_inst = FETCH_INST of n;
      fetch_type = FETCH_TYPE of n;
      fetch_whole_quad = FETCH_WHOLE_QUAD of n;
      buffer_id = BUFFER_ID of n;
      src_gpr = FETCH_SRC_GPR of n;
      src_rel = FETCH_SRC_REL of n;
      src_sel_x = VTX_SRC_SEL_X of n;
      mega_fetch_count = MEGA_FETCH_COUNT of n;
    }

-- and one whose fields are elements of a list, from element at on
abbrev pub word0_at : ℕ → List ℕ → VtxWord0
word0_at at vs =
    record {
      vtx_inst = get_or vs (at + 0) 0;
      fetch_type = get_or vs (at + 1) 0;
      fetch_whole_quad = get_or vs (at + 2) 0;
      buffer_id = get_or vs (at + 3) 0;
      src_gpr = get_or vs (at + 4) 0;
      src_rel = get_or vs (at + 5) 0;
      src_sel_x = get_or vs (at + 6) 0;
      mega_fetch_count = get_or vs (at + 7) 0;
    }

pub word0_laws : FormatLaws word0_table word0_values word0_of
unfolding word0_fields
word0_laws = record { filled = refl; read = λ n. refl; same = λ r s e i. word0_at 0 (e i) }

-- ---- VTX_WORD1_GPR

unfoldable pub gpr_fields : List (String × Field)
gpr_fields =
    ("DST_GPR", FETCH_DST_GPR)
    ∷ ("DST_REL", FETCH_DST_REL)
    ∷ ("RESERVED1_8", RESERVED1_8)
    ∷ ("DST_SEL_X", DST_SEL_X)
    ∷ ("DST_SEL_Y", DST_SEL_Y)
    ∷ ("DST_SEL_Z", DST_SEL_Z)
    ∷ ("DST_SEL_W", DST_SEL_W)
    ∷ ("USE_CONST_FIELDS", USE_CONST_FIELDS)
    ∷ ("DATA_FORMAT", DATA_FORMAT)
    ∷ ("NUM_FORMAT_ALL", NUM_FORMAT_ALL)
    ∷ ("FORMAT_COMP_ALL", FORMAT_COMP_ALL)
    ∷ ("SRF_MODE_ALL", SRF_MODE_ALL)
    ∷ []

abbrev pub gpr_table : List Bits
gpr_table = positions gpr_fields

abbrev pub gpr_values : VtxWord1Gpr → List ℕ
gpr_values r =
    r.dst_gpr
    ∷ r.dst_rel
    ∷ r.reserved1_8
    ∷ r.dst_sel_x
    ∷ r.dst_sel_y
    ∷ r.dst_sel_z
    ∷ r.dst_sel_w
    ∷ r.use_const_fields
    ∷ r.data_format
    ∷ r.num_format_all
    ∷ r.format_comp_all
    ∷ r.srf_mode_all
    ∷ []

abbrev pub gpr_of : ℕ → VtxWord1Gpr
gpr_of n =
    record {
      dst_gpr = FETCH_DST_GPR of n;
      dst_rel = FETCH_DST_REL of n;
      reserved1_8 = RESERVED1_8 of n;
      dst_sel_x = DST_SEL_X of n;
      dst_sel_y = DST_SEL_Y of n;
      dst_sel_z = DST_SEL_Z of n;
      dst_sel_w = DST_SEL_W of n;
      use_const_fields = USE_CONST_FIELDS of n;
      data_format = DATA_FORMAT of n;
      num_format_all = NUM_FORMAT_ALL of n;
      format_comp_all = FORMAT_COMP_ALL of n;
      srf_mode_all = SRF_MODE_ALL of n;
    }

-- and one whose fields are elements of a list, from element at on
abbrev pub gpr_at : ℕ → List ℕ → VtxWord1Gpr
gpr_at at vs =
    record {
      dst_gpr = get_or vs (at + 0) 0;
      dst_rel = get_or vs (at + 1) 0;
      reserved1_8 = get_or vs (at + 2) 0;
      dst_sel_x = get_or vs (at + 3) 0;
      dst_sel_y = get_or vs (at + 4) 0;
      dst_sel_z = get_or vs (at + 5) 0;
      dst_sel_w = get_or vs (at + 6) 0;
      use_const_fields = get_or vs (at + 7) 0;
      data_format = get_or vs (at + 8) 0;
      num_format_all = get_or vs (at + 9) 0;
      format_comp_all = get_or vs (at + 10) 0;
      srf_mode_all = get_or vs (at + 11) 0;
    }

pub gpr_laws : FormatLaws gpr_table gpr_values gpr_of
unfolding gpr_fields
gpr_laws = record { filled = refl; read = λ n. refl; same = λ r s e i. gpr_at 0 (e i) }

-- ---- VTX_WORD1_SEM

unfoldable pub sem_fields : List (String × Field)
sem_fields =
    ("SEMANTIC_ID", SEMANTIC_ID)
    ∷ ("RESERVED1_8", RESERVED1_8)
    ∷ ("DST_SEL_X", DST_SEL_X)
    ∷ ("DST_SEL_Y", DST_SEL_Y)
    ∷ ("DST_SEL_Z", DST_SEL_Z)
    ∷ ("DST_SEL_W", DST_SEL_W)
    ∷ ("USE_CONST_FIELDS", USE_CONST_FIELDS)
    ∷ ("DATA_FORMAT", DATA_FORMAT)
    ∷ ("NUM_FORMAT_ALL", NUM_FORMAT_ALL)
    ∷ ("FORMAT_COMP_ALL", FORMAT_COMP_ALL)
    ∷ ("SRF_MODE_ALL", SRF_MODE_ALL)
    ∷ []

abbrev pub sem_table : List Bits
sem_table = positions sem_fields

abbrev pub sem_values : VtxWord1Sem → List ℕ
sem_values r =
    r.semantic_id
    ∷ r.reserved1_8
    ∷ r.dst_sel_x
    ∷ r.dst_sel_y
    ∷ r.dst_sel_z
    ∷ r.dst_sel_w
    ∷ r.use_const_fields
    ∷ r.data_format
    ∷ r.num_format_all
    ∷ r.format_comp_all
    ∷ r.srf_mode_all
    ∷ []

abbrev pub sem_of : ℕ → VtxWord1Sem
sem_of n =
    record {
      semantic_id = SEMANTIC_ID of n;
      reserved1_8 = RESERVED1_8 of n;
      dst_sel_x = DST_SEL_X of n;
      dst_sel_y = DST_SEL_Y of n;
      dst_sel_z = DST_SEL_Z of n;
      dst_sel_w = DST_SEL_W of n;
      use_const_fields = USE_CONST_FIELDS of n;
      data_format = DATA_FORMAT of n;
      num_format_all = NUM_FORMAT_ALL of n;
      format_comp_all = FORMAT_COMP_ALL of n;
      srf_mode_all = SRF_MODE_ALL of n;
    }

-- and one whose fields are elements of a list, from element at on
abbrev pub sem_at : ℕ → List ℕ → VtxWord1Sem
sem_at at vs =
    record {
      semantic_id = get_or vs (at + 0) 0;
      reserved1_8 = get_or vs (at + 1) 0;
      dst_sel_x = get_or vs (at + 2) 0;
      dst_sel_y = get_or vs (at + 3) 0;
      dst_sel_z = get_or vs (at + 4) 0;
      dst_sel_w = get_or vs (at + 5) 0;
      use_const_fields = get_or vs (at + 6) 0;
      data_format = get_or vs (at + 7) 0;
      num_format_all = get_or vs (at + 8) 0;
      format_comp_all = get_or vs (at + 9) 0;
      srf_mode_all = get_or vs (at + 10) 0;
    }

pub sem_laws : FormatLaws sem_table sem_values sem_of
unfolding sem_fields
sem_laws = record { filled = refl; read = λ n. refl; same = λ r s e i. sem_at 0 (e i) }

-- ---- VTX_WORD2

unfoldable pub word2_fields : List (String × Field)
word2_fields =
    ("OFFSET", «OFFSET»)
    ∷ ("ENDIAN_SWAP", ENDIAN_SWAP)
    ∷ ("CONST_BUF_NO_STRIDE", CONST_BUF_NO_STRIDE)
    ∷ ("MEGA_FETCH", MEGA_FETCH)
    ∷ ("ALT_CONST", VTX_ALT_CONST)
    ∷ ("RESERVED2_21", RESERVED2_21)
    ∷ []

abbrev pub word2_table : List Bits
word2_table = positions word2_fields

abbrev pub word2_values : VtxWord2 → List ℕ
word2_values r =
    r.offset
    ∷ r.endian_swap
    ∷ r.const_buf_no_stride
    ∷ r.mega_fetch
    ∷ r.alt_const
    ∷ r.reserved2_21
    ∷ []

abbrev pub word2_of : ℕ → VtxWord2
word2_of n =
    record {
      offset = «OFFSET» of n;
      endian_swap = ENDIAN_SWAP of n;
      const_buf_no_stride = CONST_BUF_NO_STRIDE of n;
      mega_fetch = MEGA_FETCH of n;
      alt_const = VTX_ALT_CONST of n;
      reserved2_21 = RESERVED2_21 of n;
    }

-- and one whose fields are elements of a list, from element at on
abbrev pub word2_at : ℕ → List ℕ → VtxWord2
word2_at at vs =
    record {
      offset = get_or vs (at + 0) 0;
      endian_swap = get_or vs (at + 1) 0;
      const_buf_no_stride = get_or vs (at + 2) 0;
      mega_fetch = get_or vs (at + 3) 0;
      alt_const = get_or vs (at + 4) 0;
      reserved2_21 = get_or vs (at + 5) 0;
    }

pub word2_laws : FormatLaws word2_table word2_values word2_of
unfolding word2_fields
word2_laws = record { filled = refl; read = λ n. refl; same = λ r s e i. word2_at 0 (e i) }
