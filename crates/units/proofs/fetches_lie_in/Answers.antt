-- `units::fetches_lie_in` meets its contract: the cap changes nothing. Assumes nothing.
use borrow.Author.Rules.{rules}
use mathlib.Core.Path.{◌∙◌}
use Prim.Native.Nat.{◌<◌, ◌^◌}
use Rattle.units.specs.Units.{range_end, is_at_most}
use Rattle.units.proofs.OfUnits.{fetches_inside}
use Rattle.units.proofs.fetches_lie_in.Goals as goal

pub returns : goal.returns
returns c =
    let a = c.args in
    let h : a.buffer.0 < 2 ^ 64 = search rules in
    c.ends_by.ensures
    ∙ (λ i. is_at_most (range_end a.start (c.fetches_length.ensures i)) (c.whole_quadwords.ensures i))
    ∙ fetches_inside a.buffer a.start a.n h
