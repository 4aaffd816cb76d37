-- `report::decimal::Decimal::of` meets its contract: the digits of `rest` are still to come, before those written. Assumes nothing.
use Rattle.std.proofs.Common.{arith}
use Rattle.report.proofs.OfDigits.{place_left, one_more_spelt, all_spelt}
use Rattle.report.proofs.decimal.Decimal.of.Goals as goal

pub overflow_sub-first : goal.overflow_sub-first
overflow_sub-first c = place_left (omega arith) (omega arith) c.loop-rest.invariant

pub returns-then-rest-eq0 : goal.returns-then-rest-eq0
returns-then-rest-eq0 c =
    let place = place_left (omega arith) (omega arith) c.loop-rest.invariant in
    all_spelt _ c.loop-rest.invariant place c.digit.ensures c.if-rest-eq0.true

pub loop-rest-smaller : goal.loop-rest-smaller
loop-rest-smaller c = let place = place_left (omega arith) (omega arith) c.loop-rest.invariant in omega arith

pub loop-rest-preserved : goal.loop-rest-preserved
loop-rest-preserved c =
    let place = place_left (omega arith) (omega arith) c.loop-rest.invariant in
    one_more_spelt _ c.loop-rest.invariant place c.digit.ensures c.if-rest-eq0.false
