-- `input::words::store` meets its contract: word by word, the bytes begin with those of the words so far. Assumes nothing.
use borrow.Author.Rules.{rules}
use mathlib.Core.Path.{refl}
use native.Mathlib.Omega.{arith}
use Rattle.input.specs.Words.{bytes_of}
use Rattle.input.proofs.OfWords.{one_more_stored}
use Rattle.input.proofs.words.store.Goals as goal

pub loop-i-init : goal.loop-i-init
unfolding bytes_of
loop-i-init c = refl

pub loop-i-preserved : goal.loop-i-preserved
loop-i-preserved c =
    let a = c.args in
    one_more_stored a.words.now a.bytes.now c.loop-i.bytes c.loop-i.i c.loop-i.invariant (omega arith) (omega arith) (search rules) (omega arith)
    (search rules)
