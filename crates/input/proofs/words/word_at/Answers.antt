-- `input::words::word_at` meets its contract: four bytes, the lowest first. Assumes nothing.
use native.Mathlib.Omega.{arith}
use Rattle.input.specs.Words.{word_at}
use Rattle.input.proofs.words.word_at.Goals as goal

pub returns : goal.returns
unfolding word_at
returns c = omega (arith, c.from_le_bytes.ensures)
