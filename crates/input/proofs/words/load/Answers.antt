-- `input::words::load` meets its contract: word by word, the room begins with the words so far. Assumes nothing.
use native.Mathlib.Omega.{arith}
use Rattle.input.proofs.OfWords.{one_more_loaded}
use Rattle.input.proofs.words.load.Goals as goal

pub loop-i-preserved : goal.loop-i-preserved
loop-i-preserved c =
    let a = c.args in
    one_more_loaded a.bytes.now a.words.now c.loop-i.words c.loop-i.i c.loop-i.invariant (omega arith) (omega arith) c.word_at.ensures
