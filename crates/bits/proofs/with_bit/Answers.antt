-- `bits::with_bit` meets its contract. Assumes nothing.
use borrow.Author.Rules.{rules}
use mathlib.Core.Path.{◌∙◌, ap}
use lib.Bits.{bit_or}
use Rattle.bits.proofs.OfField.{moved_up, bit_set}
use Rattle.bits.proofs.with_bit.Goals as goal

pub returns : goal.returns
returns c =
    let a = c.args in
    ap (bit_or a.word) (c.unbounded_shl.ensures ∙ moved_up _ _) ∙ bit_set a.word a.offset (search rules)
