-- The sources that rules 12 and 15 refuse, as gaps among the values of SEL (9 bits) and, above it, REL: a row for each 32 values. These are
-- the code's tables; what they say of the rules is proved in proofs/OfGaps.antt, over specs/Instruction.antt and specs/Grants.antt.
use Rattle.std.specs.Prelude.{ℕ, zero, suc, ◌+◌, ◌-◌, ◌/◌, ◌%◌, ◌^◌, min, max, Bool, true, cond, ◌&&◌, ◌||◌, List, [], ◌∷◌, ◌==◌, nat_lt, get_or}
use Rattle.bits.specs.Fields.{bits, value_in}
use Rattle.formats.specs.Fields.{Field, position, ◌of◌, SRC0_SEL, SRC0_REL, SRC0_CHAN, SRC1_SEL, SRC1_REL, SRC1_CHAN, SRC2_SEL, SRC2_REL, SRC2_CHAN, INDEX_MODE, PRED_SEL, BANK_SWIZZLE, DST_GPR, DST_REL}
use Rattle.grants.specs.declared.Limits.{Limits}
use Rattle.grants.specs.Grants.{locked}
use Rattle.instructions.specs.Instruction.{is_written, literals}
use Rattle.instructions.specs.Code.{third_word}
use Rattle.screens.specs.declared.Gap.{Gap}

-- SEL and, above it, REL, as one number
abbrev pub with_rel : Field → Field → ℕ → ℕ
with_rel sel rel n = value_in n (bits (position rel).0 (position sel).1)

abbrev pub gap : ℕ → ℕ → Gap
gap start width = record { start = start; width = width }

-- a gap k times, then the rest
abbrev pub times : ℕ → Gap → List Gap → List Gap
times zero v rest = rest
times (suc k) v rest = v ∷ times k v rest

-- 0 to 127, 128 to 159, 160 to 191, 192 to 255, 256 to 511; then with REL set, where only 192 to 255 have a gap
abbrev pub by_row : Gap → Gap → Gap → Gap → Gap → Gap → List Gap
by_row registers set0 set1 reserved constants relative =
    times 4 registers
    (times 1 set0 (times 1 set1 (times 2 reserved (times 8 constants (times 6 (gap 0 0) (times 2 relative (times 8 (gap 0 0) [])))))))

-- registers from gprs on and below 128 less temps; what a set's mode does not lock; 192 to 247; constants from consts on; with REL set, 192
-- to 255
unfoldable pub gaps_of : Limits → List Gap
gaps_of l =
    by_row (gap l.gprs (128 - l.temps - l.gprs)) (gap (128 + locked l.mode0) (32 - locked l.mode0)) (gap (160 + locked l.mode1) (32 - locked l.mode1))
    (gap 192 56) (gap (256 + min l.consts 256) (256 - min l.consts 256)) (gap 704 64)

-- the gap of a row
abbrev pub gap_at : List Gap → ℕ → Gap
gap_at gaps r = get_or gaps r (gap 0 0)

-- x is less than the width behind the start, counted in 32 bits
unfoldable pub is_among : ℕ → Gap → Bool
is_among x g = nat_lt ((x + (2 ^ 32 - g.start)) % 2 ^ 32) g.width

-- x lies in the gap of its row
unfoldable pub in_gap : List Gap → ℕ → Bool
in_gap gaps x = is_among x (gap_at gaps (x / 32 % 32))

-- the destination's register, with its relative bit above it, lies in the gap of registers; 255, which stands for one that is not written, lies
-- behind it, and so does every number with that bit
unfoldable pub writes_gap : List Gap → ℕ → Bool
writes_gap gaps hi = is_among (cond (is_written hi) (with_rel DST_GPR DST_REL hi) 255) (gap_at gaps 0)

-- PRED_SEL is 1, or INDEX_MODE above 4
unfoldable pub bad_modes : ℕ → Bool
bad_modes lo = (PRED_SEL of lo) == 1 || nat_lt 4 (INDEX_MODE of lo)

-- a source is 253, a literal, without its relative bit
unfoldable pub asks_literal : ℕ → ℕ → Bool
asks_literal lo hi =
    (with_rel SRC0_SEL SRC0_REL lo == 253)
    || (with_rel SRC1_SEL SRC1_REL lo == 253 || with_rel SRC2_SEL SRC2_REL (third_word lo hi) == 253)

-- one of them is in channel Z or W, the second quadword's
unfoldable pub is_second : ℕ → ℕ → Bool
is_second sel chan = sel == 253 && nat_lt 1 chan

unfoldable pub asks_second : ℕ → ℕ → Bool
asks_second lo hi =
    is_second (SRC0_SEL of lo) (SRC0_CHAN of lo)
    || (is_second (SRC1_SEL of lo) (SRC1_CHAN of lo) || is_second (SRC2_SEL of (third_word lo hi)) (SRC2_CHAN of (third_word lo hi)))

unfoldable pub more_literals : ℕ → ℕ → ℕ → ℕ
more_literals n lo hi = cond (asks_literal lo hi) (max n (literals lo hi)) n

-- what is asked of an instruction: PRED_SEL, INDEX_MODE, bank swizzle; sources 0 and 1; source 2 of an OP3; the destination
unfoldable pub broken_by : List Gap → ℕ → ℕ → Bool
broken_by gaps lo hi =
    cond (bad_modes lo || nat_lt 5 (BANK_SWIZZLE of hi)) true
    (cond (in_gap gaps (with_rel SRC0_SEL SRC0_REL lo) || in_gap gaps (with_rel SRC1_SEL SRC1_REL lo)) true
    (cond (in_gap gaps (with_rel SRC2_SEL SRC2_REL (third_word lo hi))) true (writes_gap gaps hi)))
