-- `units::slots_lie_in` meets its contract. Assumes nothing.
use mathlib.Core.Path.{◌∙◌}
use Rattle.units.specs.Units.{range_end, is_at_most, lies_in}
use Rattle.units.proofs.slots_lie_in.Goals as goal

pub returns : goal.returns
unfolding lies_in
returns c =
    let a = c.args in
    c.ends_by.ensures
    ∙ (λ i. is_at_most (range_end a.start (c.slots_length.ensures i)) (c.whole_quadwords.ensures i))
