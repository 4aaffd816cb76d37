-- Control-flow pairs, and the end of their section: document 01, "Control-flow words". A pair is a quadword, counted from 0.
use Rattle.std.specs.Prelude.{ℕ, zero, suc, min, Bool, cond, not, ◌&&◌, List, eqb, length}
use Rattle.units.specs.Units.{words, whole_quadwords, high_at}
use Rattle.formats.specs.Fields.{◌of◌, CF_ALU_MARK, CF_ALU_INST, CF_INST, END_OF_PROGRAM}
use Rattle.opcodes.specs.declared.cf.Control.{Control}
use Rattle.opcodes.specs.Numbers.{cf_alu_control, cf_control}

-- a pair with high bit 29 set is an ALU clause opener (CF_ALU)
unfoldable pub is_alu_opener : ℕ → Bool
is_alu_opener hi = eqb (CF_ALU_MARK of hi) 1

-- what a pair is, by the number in its high word
unfoldable pub control_of : ℕ → Control
control_of hi = cond (is_alu_opener hi) (cf_alu_control (CF_ALU_INST of hi)) (cf_control (CF_INST of hi))

unfoldable pub control_at : List ℕ → ℕ → Control
control_at w p = control_of (high_at w p)

-- ---- the end, e: the first pair with bit 29 clear and bit 21 set. It is looked for among the first 512 pairs of the buffer

unfoldable pub is_end : ℕ → Bool
is_end hi = not (is_alu_opener hi) && eqb (END_OF_PROGRAM of hi) 1

abbrev pub searched : List ℕ → ℕ
searched w = min 512 (whole_quadwords (words (length w))).0

-- the first end among the n pairs from p on, and the pair behind them where there is none
unfoldable pub end_from : List ℕ → ℕ → ℕ → ℕ
end_from w p zero = p
end_from w p (suc n) = cond (is_end (high_at w p)) p (end_from w (suc p) n)

unfoldable pub end_of : List ℕ → ℕ
end_of w = end_from w 0 (searched w)
