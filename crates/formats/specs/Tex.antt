-- Texture fetches: TEX_WORD0, TEX_WORD1 and TEX_WORD2, section 10.4. `.._fields` has the fields in
-- their order, each with AMD's name there, `.._table` where they stand, `.._values` the record's fields in the same order, and `.._of` is the record
-- that a word holds.
use mathlib.Core.Path.{refl}
use Rattle.std.specs.Prelude.{ℕ, ◌+◌, List, [], ◌∷◌, get_or}
use Prim.Native.String.{String}
use Rattle.bits.specs.declared.Bits.{Bits}
use Rattle.formats.specs.Laws.{FormatLaws}
use Rattle.formats.specs.Fields.{Field, positions, ◌of◌, FETCH_INST, BC_FRAC_MODE, RESERVED0_6, FETCH_WHOLE_QUAD, RESOURCE_ID, FETCH_SRC_GPR, FETCH_SRC_REL, TEX_ALT_CONST, RESERVED0_25, FETCH_DST_GPR, FETCH_DST_REL, RESERVED1_8, DST_SEL_X, DST_SEL_Y, DST_SEL_Z, DST_SEL_W, LOD_BIAS, COORD_TYPE_X, COORD_TYPE_Y, COORD_TYPE_Z, COORD_TYPE_W, OFFSET_X, OFFSET_Y, OFFSET_Z, SAMPLER_ID, TEX_SRC_SEL_X, SRC_SEL_Y, SRC_SEL_Z, SRC_SEL_W}
use Rattle.formats.specs.declared.tex.TexWord0.{TexWord0}
use Rattle.formats.specs.declared.tex.TexWord1.{TexWord1}
use Rattle.formats.specs.declared.tex.TexWord2.{TexWord2}

-- ---- TEX_WORD0

unfoldable pub word0_fields : List (String × Field)
word0_fields =
    ("TEX_INST", FETCH_INST)
    ∷ ("BC_FRAC_MODE", BC_FRAC_MODE)
    ∷ ("RESERVED0_6", RESERVED0_6)
    ∷ ("FETCH_WHOLE_QUAD", FETCH_WHOLE_QUAD)
    ∷ ("RESOURCE_ID", RESOURCE_ID)
    ∷ ("SRC_GPR", FETCH_SRC_GPR)
    ∷ ("SRC_REL", FETCH_SRC_REL)
    ∷ ("ALT_CONST", TEX_ALT_CONST)
    ∷ ("RESERVED0_25", RESERVED0_25)
    ∷ []

abbrev pub word0_table : List Bits
word0_table = positions word0_fields

abbrev pub word0_values : TexWord0 → List ℕ
word0_values r =
    r.tex_inst
    ∷ r.bc_frac_mode
    ∷ r.reserved0_6
    ∷ r.fetch_whole_quad
    ∷ r.resource_id
    ∷ r.src_gpr
    ∷ r.src_rel
    ∷ r.alt_const
    ∷ r.reserved0_25
    ∷ []

abbrev pub word0_of : ℕ → TexWord0
word0_of n =
    record {
      tex_inst = FETCH_INST of n;
      bc_frac_mode = BC_FRAC_MODE of n;
      reserved0_6 = RESERVED0_6 of n;
      fetch_whole_quad = FETCH_WHOLE_QUAD of n;
      resource_id = RESOURCE_ID of n;
      src_gpr = FETCH_SRC_GPR of n;
      src_rel = FETCH_SRC_REL of n;
      alt_const = TEX_ALT_CONST of n;
      reserved0_25 = RESERVED0_25 of n;
    }

-- and one whose fields are elements of a list, from element at on
abbrev pub word0_at : ℕ → List ℕ → TexWord0
word0_at at vs =
    record {
      tex_inst = get_or vs (at + 0) 0;
      bc_frac_mode = get_or vs (at + 1) 0;
      reserved0_6 = get_or vs (at + 2) 0;
      fetch_whole_quad = get_or vs (at + 3) 0;
      resource_id = get_or vs (at + 4) 0;
      src_gpr = get_or vs (at + 5) 0;
      src_rel = get_or vs (at + 6) 0;
      alt_const = get_or vs (at + 7) 0;
      reserved0_25 = get_or vs (at + 8) 0;
    }

pub word0_laws : FormatLaws word0_table word0_values word0_of
unfolding word0_fields
word0_laws = record { filled = refl; read = λ n. refl; same = λ r s e i. word0_at 0 (e i) }

-- ---- TEX_WORD1

unfoldable pub word1_fields : List (String × Field)
word1_fields =
    ("DST_GPR", FETCH_DST_GPR)
    ∷ ("DST_REL", FETCH_DST_REL)
    ∷ ("RESERVED1_8", RESERVED1_8)
    ∷ ("DST_SEL_X", DST_SEL_X)
    ∷ ("DST_SEL_Y", DST_SEL_Y)
    ∷ ("DST_SEL_Z", DST_SEL_Z)
    ∷ ("DST_SEL_W", DST_SEL_W)
    ∷ ("LOD_BIAS", LOD_BIAS)
    ∷ ("COORD_TYPE_X", COORD_TYPE_X)
    ∷ ("COORD_TYPE_Y", COORD_TYPE_Y)
    ∷ ("COORD_TYPE_Z", COORD_TYPE_Z)
    ∷ ("COORD_TYPE_W", COORD_TYPE_W)
    ∷ []

abbrev pub word1_table : List Bits
word1_table = positions word1_fields

abbrev pub word1_values : TexWord1 → List ℕ
word1_values r =
    r.dst_gpr
    ∷ r.dst_rel
    ∷ r.reserved1_8
    ∷ r.dst_sel_x
    ∷ r.dst_sel_y
    ∷ r.dst_sel_z
    ∷ r.dst_sel_w
    ∷ r.lod_bias
    ∷ r.coord_type_x
    ∷ r.coord_type_y
    ∷ r.coord_type_z
    ∷ r.coord_type_w
    ∷ []

abbrev pub word1_of : ℕ → TexWord1
word1_of n =
    record {
      dst_gpr = FETCH_DST_GPR of n;
      dst_rel = FETCH_DST_REL of n;
      reserved1_8 = RESERVED1_8 of n;
      dst_sel_x = DST_SEL_X of n;
      dst_sel_y = DST_SEL_Y of n;
      dst_sel_z = DST_SEL_Z of n;
      dst_sel_w = DST_SEL_W of n;
      lod_bias = LOD_BIAS of n;
      coord_type_x = COORD_TYPE_X of n;
      coord_type_y = COORD_TYPE_Y of n;
      coord_type_z = COORD_TYPE_Z of n;
      coord_type_w = COORD_TYPE_W of n;
    }

-- and one whose fields are elements of a list, from element at on
abbrev pub word1_at : ℕ → List ℕ → TexWord1
word1_at at vs =
    record {
      dst_gpr = get_or vs (at + 0) 0;
      dst_rel = get_or vs (at + 1) 0;
      reserved1_8 = get_or vs (at + 2) 0;
      dst_sel_x = get_or vs (at + 3) 0;
      dst_sel_y = get_or vs (at + 4) 0;
      dst_sel_z = get_or vs (at + 5) 0;
      dst_sel_w = get_or vs (at + 6) 0;
      lod_bias = get_or vs (at + 7) 0;
      coord_type_x = get_or vs (at + 8) 0;
      coord_type_y = get_or vs (at + 9) 0;
      coord_type_z = get_or vs (at + 10) 0;
      coord_type_w = get_or vs (at + 11) 0;
    }

pub word1_laws : FormatLaws word1_table word1_values word1_of
unfolding word1_fields
word1_laws = record { filled = refl; read = λ n. refl; same = λ r s e i. word1_at 0 (e i) }

-- ---- TEX_WORD2

unfoldable pub word2_fields : List (String × Field)
word2_fields =
    ("OFFSET_X", OFFSET_X)
    ∷ ("OFFSET_Y", OFFSET_Y)
    ∷ ("OFFSET_Z", OFFSET_Z)
    ∷ ("SAMPLER_ID", SAMPLER_ID)
    ∷ ("SRC_SEL_X", TEX_SRC_SEL_X)
    ∷ ("SRC_SEL_Y", SRC_SEL_Y)
    ∷ ("SRC_SEL_Z", SRC_SEL_Z)
    ∷ ("SRC_SEL_W", SRC_SEL_W)
    ∷ []

abbrev pub word2_table : List Bits
word2_table = positions word2_fields

abbrev pub word2_values : TexWord2 → List ℕ
word2_values r =
    r.offset_x
    ∷ r.offset_y
    ∷ r.offset_z
    ∷ r.sampler_id
    ∷ r.src_sel_x
    ∷ r.src_sel_y
    ∷ r.src_sel_z
    ∷ r.src_sel_w
    ∷ []

abbrev pub word2_of : ℕ → TexWord2
word2_of n =
    record {
      offset_x = OFFSET_X of n;
      offset_y = OFFSET_Y of n;
      offset_z = OFFSET_Z of n;
      sampler_id = SAMPLER_ID of n;
      src_sel_x = TEX_SRC_SEL_X of n;
      src_sel_y = SRC_SEL_Y of n;
      src_sel_z = SRC_SEL_Z of n;
      src_sel_w = SRC_SEL_W of n;
    }

-- and one whose fields are elements of a list, from element at on
abbrev pub word2_at : ℕ → List ℕ → TexWord2
word2_at at vs =
    record {
      offset_x = get_or vs (at + 0) 0;
      offset_y = get_or vs (at + 1) 0;
      offset_z = get_or vs (at + 2) 0;
      sampler_id = get_or vs (at + 3) 0;
      src_sel_x = get_or vs (at + 4) 0;
      src_sel_y = get_or vs (at + 5) 0;
      src_sel_z = get_or vs (at + 6) 0;
      src_sel_w = get_or vs (at + 7) 0;
    }

pub word2_laws : FormatLaws word2_table word2_values word2_of
unfolding word2_fields
word2_laws = record { filled = refl; read = λ n. refl; same = λ r s e i. word2_at 0 (e i) }
