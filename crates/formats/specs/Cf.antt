-- Control-flow instructions other than ALU clause openers and exports: CF_WORD0 and CF_WORD1. `.._table` has the fields in their order, `.._values` the
-- record's fields in the same order, and `.._of` is the record that a word holds.
use mathlib.Core.Path.{◌≡◌, refl, ap}
use native.Mathlib.Omega.{arith}
use Rattle.std.specs.Prelude.{ℕ, ◌+◌, ◌*◌, ◌/◌, ◌%◌, List, [], ◌∷◌, ◌++◌, ◌^◌, map, get_or, take, drop}
use Rattle.bits.specs.declared.Bits.{Bits}
use Rattle.units.specs.declared.Slots.{Slots}
use Rattle.units.specs.Units.{quadwords, slots}
use Rattle.formats.specs.Laws.{FormatLaws}
use Rattle.formats.specs.Fields.{position, ◌of◌, «ADDR», POP_COUNT, CF_CONST, «COND», «COUNT», CALL_COUNT, COUNT_3, BIT_20, END_OF_PROGRAM, VALID_PIXEL_MODE, CF_INST, WHOLE_QUAD_MODE, «BARRIER»}
use Rattle.formats.specs.declared.cf.CfWord0.{CfWord0}
use Rattle.formats.specs.declared.cf.CfWord1.{CfWord1}

-- COUNT is one field in two pieces: what a word holds of it, and its low and top bits
abbrev pub count_of : ℕ → Slots
count_of n = slots («COUNT» of n + 8 * (COUNT_3 of n))

abbrev pub low_count : Slots → ℕ
low_count count = count.0 % 8

abbrev pub top_count : Slots → ℕ
top_count count = count.0 / 8

-- ---- CF_WORD0

unfoldable pub word0_table : List Bits
word0_table =
    map position
    («ADDR»
    ∷ [])

abbrev pub word0_values : CfWord0 → List ℕ
word0_values r =
    r.addr.0
    ∷ []

abbrev pub word0_of : ℕ → CfWord0
word0_of n =
    record {
      addr = quadwords («ADDR» of n);
    }

-- and one whose fields are elements of a list, from element at on
abbrev pub word0_at : ℕ → List ℕ → CfWord0
word0_at at vs =
    record {
      addr = quadwords (get_or vs (at + 0) 0);
    }

pub word0_laws : FormatLaws word0_table word0_values word0_of
unfolding word0_table
word0_laws = record { filled = refl; read = λ n. refl; same = λ r s e i. word0_at 0 (e i) }

-- ---- CF_WORD1

unfoldable pub word1_table : List Bits
word1_table =
    map position
    (POP_COUNT
    ∷ CF_CONST
    ∷ «COND»
    ∷ «COUNT»
    ∷ CALL_COUNT
    ∷ COUNT_3
    ∷ BIT_20
    ∷ END_OF_PROGRAM
    ∷ VALID_PIXEL_MODE
    ∷ CF_INST
    ∷ WHOLE_QUAD_MODE
    ∷ «BARRIER»
    ∷ [])

abbrev pub word1_values : CfWord1 → List ℕ
word1_values r =
    r.pop_count
    ∷ r.cf_const
    ∷ r.cond
    ∷ low_count r.count
    ∷ r.call_count
    ∷ top_count r.count
    ∷ r.rest
    ∷ r.end_of_program
    ∷ r.valid_pixel_mode
    ∷ r.cf_inst
    ∷ r.whole_quad_mode
    ∷ r.barrier
    ∷ []

abbrev pub word1_of : ℕ → CfWord1
word1_of n =
    record {
      pop_count = POP_COUNT of n;
      cf_const = CF_CONST of n;
      cond = «COND» of n;
      count = count_of n;
      call_count = CALL_COUNT of n;
      rest = BIT_20 of n;
      end_of_program = END_OF_PROGRAM of n;
      valid_pixel_mode = VALID_PIXEL_MODE of n;
      cf_inst = CF_INST of n;
      whole_quad_mode = WHOLE_QUAD_MODE of n;
      barrier = «BARRIER» of n;
    }

-- and one whose fields are elements of a list, from element at on
abbrev pub word1_at : ℕ → List ℕ → CfWord1
word1_at at vs =
    record {
      pop_count = get_or vs (at + 0) 0;
      cf_const = get_or vs (at + 1) 0;
      cond = get_or vs (at + 2) 0;
      count = slots (get_or vs (at + 3) 0);
      call_count = get_or vs (at + 4) 0;
      rest = get_or vs (at + 5) 0;
      end_of_program = get_or vs (at + 6) 0;
      valid_pixel_mode = get_or vs (at + 7) 0;
      cf_inst = get_or vs (at + 8) 0;
      whole_quad_mode = get_or vs (at + 9) 0;
      barrier = get_or vs (at + 10) 0;
    }

count_low : (a b : ℕ) → (a % 8 + 8 * b) % 8 ≡ a % 8
count_low a b = omega arith

count_top : (a b : ℕ) → (a % 8 + 8 * b) / 8 ≡ b
count_top a b = omega arith

-- the two pieces are the whole count
count_whole : (a b : ℕ) → a % 8 ≡ b % 8 → a / 8 ≡ b / 8 → a ≡ b
count_whole a b low top = omega arith

pub word1_laws : FormatLaws word1_table word1_values word1_of
unfolding word1_table
word1_laws =
    record {
      filled = refl;
      read = λ n. rw (count_low (n / 2 ^ 10) (COUNT_3 of n), count_top (n / 2 ^ 10) (COUNT_3 of n)) refl;
      same =
          λ r s e i.
          let count = count_whole r.count.0 s.count.0 (ap (λ vs. get_or vs 3 0) e) (ap (λ vs. get_or vs 5 0) e) in
          word1_at 0 (take 3 (e i) ++ (count i ∷ get_or (e i) 4 0 ∷ drop 6 (e i)));
    }
