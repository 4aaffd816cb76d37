-- What only the code's contracts cite: the three sources, whether the format has a third or not.
use Rattle.std.specs.Prelude.{ℕ, cond, List, [], ◌∷◌}
use Rattle.bits.specs.declared.Bits.{Bits}
use Rattle.bits.specs.Fields.{value_in}
use Rattle.instructions.specs.declared.Source.{Source}
use Rattle.instructions.specs.Instruction.{is_op3, source0_of, source1_of, source2_of}

-- a source by the places of its fields
abbrev pub source_in : ℕ → Bits → Bits → Bits → Source
source_in n sel rel chan = record { sel = value_in n sel; rel = value_in n rel; chan = value_in n chan }

-- where the format has no third source, 248 (the constant 0.0) stands for it, of which no rule asks anything
abbrev pub no_source : Source
no_source = record { sel = 248; rel = 0; chan = 0 }

unfoldable pub third_of : ℕ → Source
third_of hi = cond (is_op3 hi) (source2_of hi) no_source

abbrev pub sources_of : ℕ → ℕ → List Source
sources_of lo hi = source0_of lo ∷ source1_of lo ∷ third_of hi ∷ []

-- the word whose low bits have an OP3's source 2; of an OP2, those of its source 0
abbrev pub third_word : ℕ → ℕ → ℕ
third_word lo hi = cond (is_op3 hi) hi lo
