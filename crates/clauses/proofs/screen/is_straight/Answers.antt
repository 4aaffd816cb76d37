-- `clauses::screen::is_straight` meets its contract. Assumes nothing.
use Rattle.std.proofs.Common.{◌/◌, length, arith}
use Rattle.units.specs.Units.{high_at}
use Rattle.clauses.proofs.OfScreen.{straight_short, straight-is}
use Rattle.clauses.proofs.screen.is_straight.Goals as goal

pub returns-in_default : goal.returns-in_default
returns-in_default c =
    let a = c.args in
    straight_short (high_at a.group.now) (length a.group.now / 2) a.taken (omega (arith, c.in_default.len_below))

pub returns : goal.returns
unfolding high_at
returns c =
    let a = c.args in
    straight-is (high_at a.group.now) (length a.group.now / 2) a.taken (omega (arith, c.in-len8-up.len_at_least))
    c.is_alike-second.ensures c.is_alike-third.ensures c.is_alike-fourth.ensures
