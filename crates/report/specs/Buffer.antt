-- Bytes in a lent buffer: what is answered, and every byte of the buffer afterwards.
use Rattle.std.specs.Prelude.{ℕ, Bool, cond, Result, Ok, Err, List, ◌++◌, leb, length, drop}
use Rattle.report.specs.declared.TooSmall.{TooSmall}

-- the code's type for the answer
abbrev pub Written : Type 0
Written = Result ℕ TooSmall

pattern abbrev pub Length : ℕ → Written
Length n = Ok n

pattern abbrev pub NoRoom : Written
NoRoom = Err (record {})

-- the buffer has room for the bytes
abbrev pub room : List ℕ → List ℕ → Bool
room bytes buffer = leb (length bytes) (length buffer)

-- the answer: how many bytes were written, or that the buffer is too small for them
unfoldable pub written_of : List ℕ → List ℕ → Written
written_of bytes buffer = cond (room bytes buffer) (Length (length bytes)) NoRoom

-- the buffer afterwards: the bytes and behind them what stood there, or where they have no room the buffer as it was
unfoldable pub buffer_after : List ℕ → List ℕ → List ℕ
buffer_after bytes buffer = cond (room bytes buffer) (bytes ++ drop (length bytes) buffer) buffer
