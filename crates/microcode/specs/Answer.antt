-- What decoder and encoder answer.
use Rattle.std.specs.Prelude.{Result, Ok, ⊤}
use Rattle.microcode.specs.declared.Instruction.{Instruction}
use Rattle.microcode.specs.declared.DecodeError.{DecodeError}
use Rattle.microcode.specs.declared.EncodeError.{EncodeError}

abbrev pub Decoded : Type 0
Decoded = Result Instruction DecodeError

abbrev pub Encoded : Type 0
Encoded = Result ⊤ EncodeError

pattern abbrev pub Done : Encoded
Done = Ok (record {})
