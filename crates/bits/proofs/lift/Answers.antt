-- `bits::lift` meets its contract at any offset: what is moved up by 32 or more leaves nothing in the word. Assumes nothing.
use mathlib.Core.Path.{◌∙◌}
use Rattle.bits.proofs.OfField.{moved_up}
use Rattle.bits.proofs.lift.Goals as goal

pub returns : goal.returns
returns c = c.unbounded_shl.ensures ∙ moved_up _ _
