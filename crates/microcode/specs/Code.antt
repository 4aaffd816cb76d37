-- What only contracts of private functions cite; no public contract reaches it.
use Rattle.std.specs.Prelude.{cond, ℕ, List, leb, length, drop, ◌++◌, Err}
use Rattle.microcode.specs.declared.EncodeError.TheVariants.{NoRoom}
use Rattle.microcode.specs.Answer.{Encoded, Done}

-- words at the beginning of a part of the buffer, where it has as many
abbrev pub put_answer : List ℕ → List ℕ → Encoded
put_answer ws part = cond (leb (length ws) (length part)) Done (Err NoRoom)

abbrev pub put_words : List ℕ → List ℕ → List ℕ
put_words ws part = cond (leb (length ws) (length part)) (ws ++ drop (length ws) part) part
