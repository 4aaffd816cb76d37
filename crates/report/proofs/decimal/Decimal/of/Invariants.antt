-- `report::decimal::Decimal::of` meets its contract: the digits of `rest` are still to come, before those written. Assumes nothing.
use Rattle.report.proofs.OfDigits.{Spelt}
use Rattle.report.proofs.decimal.Decimal.of.Given as goal

abbrev pub invariant-loop-rest : goal.invariant-loop-rest
invariant-loop-rest l = Spelt l.fn.n l.initial.digits l.digits l.first l.rest

abbrev pub decreases-loop-rest : goal.decreases-loop-rest
decreases-loop-rest l = l.first
