-- ALU clause openers (CF_ALU): CF_ALU_WORD0 and CF_ALU_WORD1. `.._table` has the fields in their order, `.._values` the
-- record's fields in the same order, and `.._of` is the record that a word holds.
use mathlib.Core.Path.{refl}
use Rattle.std.specs.Prelude.{ℕ, ◌+◌, List, [], ◌∷◌, map, get_or}
use Rattle.bits.specs.declared.Bits.{Bits}
use Rattle.units.specs.Units.{quadwords, slots}
use Rattle.formats.specs.Laws.{FormatLaws}
use Rattle.formats.specs.Fields.{position, ◌of◌, CF_ALU_ADDR, KCACHE_BANK0, KCACHE_BANK1, KCACHE_MODE0, KCACHE_MODE1, KCACHE_ADDR0, KCACHE_ADDR1, CF_ALU_COUNT, ALT_CONST, CF_ALU_INST, WHOLE_QUAD_MODE, «BARRIER»}
use Rattle.formats.specs.declared.cf_alu.CfAluWord0.{CfAluWord0}
use Rattle.formats.specs.declared.cf_alu.CfAluWord1.{CfAluWord1}

-- ---- CF_ALU_WORD0

unfoldable pub word0_table : List Bits
word0_table =
    map position
    (CF_ALU_ADDR
    ∷ KCACHE_BANK0
    ∷ KCACHE_BANK1
    ∷ KCACHE_MODE0
    ∷ [])

abbrev pub word0_values : CfAluWord0 → List ℕ
word0_values r =
    r.addr.0
    ∷ r.kcache_bank0
    ∷ r.kcache_bank1
    ∷ r.kcache_mode0
    ∷ []

abbrev pub word0_of : ℕ → CfAluWord0
word0_of n =
    record {
      addr = quadwords (CF_ALU_ADDR of n);
      kcache_bank0 = KCACHE_BANK0 of n;
      kcache_bank1 = KCACHE_BANK1 of n;
      kcache_mode0 = KCACHE_MODE0 of n;
    }

-- and one whose fields are elements of a list, from element at on
abbrev pub word0_at : ℕ → List ℕ → CfAluWord0
word0_at at vs =
    record {
      addr = quadwords (get_or vs (at + 0) 0);
      kcache_bank0 = get_or vs (at + 1) 0;
      kcache_bank1 = get_or vs (at + 2) 0;
      kcache_mode0 = get_or vs (at + 3) 0;
    }

pub word0_laws : FormatLaws word0_table word0_values word0_of
unfolding word0_table
word0_laws = record { filled = refl; read = λ n. refl; same = λ r s e i. word0_at 0 (e i) }

-- ---- CF_ALU_WORD1

unfoldable pub word1_table : List Bits
word1_table =
    map position
    (KCACHE_MODE1
    ∷ KCACHE_ADDR0
    ∷ KCACHE_ADDR1
    ∷ CF_ALU_COUNT
    ∷ ALT_CONST
    ∷ CF_ALU_INST
    ∷ WHOLE_QUAD_MODE
    ∷ «BARRIER»
    ∷ [])

abbrev pub word1_values : CfAluWord1 → List ℕ
word1_values r =
    r.kcache_mode1
    ∷ r.kcache_addr0
    ∷ r.kcache_addr1
    ∷ r.count.0
    ∷ r.alt_const
    ∷ r.cf_inst
    ∷ r.whole_quad_mode
    ∷ r.barrier
    ∷ []

abbrev pub word1_of : ℕ → CfAluWord1
word1_of n =
    record {
      kcache_mode1 = KCACHE_MODE1 of n;
      kcache_addr0 = KCACHE_ADDR0 of n;
      kcache_addr1 = KCACHE_ADDR1 of n;
      count = slots (CF_ALU_COUNT of n);
      alt_const = ALT_CONST of n;
      cf_inst = CF_ALU_INST of n;
      whole_quad_mode = WHOLE_QUAD_MODE of n;
      barrier = «BARRIER» of n;
    }

-- and one whose fields are elements of a list, from element at on
abbrev pub word1_at : ℕ → List ℕ → CfAluWord1
word1_at at vs =
    record {
      kcache_mode1 = get_or vs (at + 0) 0;
      kcache_addr0 = get_or vs (at + 1) 0;
      kcache_addr1 = get_or vs (at + 2) 0;
      count = slots (get_or vs (at + 3) 0);
      alt_const = get_or vs (at + 4) 0;
      cf_inst = get_or vs (at + 5) 0;
      whole_quad_mode = get_or vs (at + 6) 0;
      barrier = get_or vs (at + 7) 0;
    }

pub word1_laws : FormatLaws word1_table word1_values word1_of
unfolding word1_table
word1_laws = record { filled = refl; read = λ n. refl; same = λ r s e i. word1_at 0 (e i) }
