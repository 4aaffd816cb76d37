-- `bits::place` meets its contract at any offset and width: what is moved up by 32 or more leaves nothing in the word.
-- Assumes nothing.
use mathlib.Core.Path.{◌∙◌, ap}
use Prim.Native.Nat.{ℕ, ◌%◌, ◌^◌}
use native.Mathlib.Nat.{div-one}
use Rattle.bits.specs.Code.{lifted_of}
use Rattle.bits.proofs.OfField.{moved_up}
use Rattle.bits.proofs.place.Goals as goal

pub returns : goal.returns
returns c =
    let a = c.args in
    c.unbounded_shl.ensures ∙ moved_up _ _
    ∙ ap (λ (x : ℕ). lifted_of x a.offset) (c.field.ensures ∙ ap (λ (x : ℕ). x % 2 ^ a.width) (div-one a.value))
