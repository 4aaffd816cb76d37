-- `input::words::load` meets its contract: word by word, the room begins with the words so far. Assumes nothing.
use Rattle.std.proofs.Common.{◌≡◌, ◌++◌, take, drop}
use Rattle.input.specs.Words.{words_in}
use Rattle.input.proofs.words.load.Given as goal

abbrev pub invariant-loop-i : goal.invariant-loop-i
invariant-loop-i l = l.words ≡ take l.i (words_in l.bytes) ++ drop l.i l.initial.words
