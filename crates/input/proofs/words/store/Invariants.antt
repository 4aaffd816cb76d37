-- `input::words::store` meets its contract: word by word, the bytes begin with those of the words so far. Assumes nothing.
use Rattle.std.proofs.Common.{◌≡◌, ◌++◌, ◌*◌, take, drop}
use Rattle.input.specs.Words.{bytes_of}
use Rattle.input.proofs.words.store.Given as goal

abbrev pub invariant-loop-i : goal.invariant-loop-i
invariant-loop-i l = l.bytes ≡ bytes_of (take l.i l.words) ++ drop (l.i * 4) l.initial.bytes
